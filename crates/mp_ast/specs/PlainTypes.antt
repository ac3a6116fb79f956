-- Type denoters as plain data (ISO 7185, 6.4): the syntax trees without the memory that they stand in.
use Rattle.std.specs.Prelude.{ℕ, Bool, List, [], ◌∷◌, Option, Some, None}
use Rattle.mp_ast.specs.declared.leaves.Identifier.{Identifier}
use Rattle.mp_ast.specs.declared.leaves.Constant.{Constant}
use Rattle.mp_ast.specs.declared.types.Index.{Index as DeclaredIndex}
use Rattle.mp_ast.specs.declared.types.Section.{Section as DeclaredSection}
use Rattle.mp_ast.specs.declared.types.Variant.{Variant as DeclaredVariant}
use Rattle.mp_ast.specs.declared.types.VariantPart.{VariantPart}
use Rattle.mp_ast.specs.declared.types.Denoter.{Denoter, fold-Denoter}
use Rattle.mp_ast.specs.declared.types.Denoter.TheOpen.{Denoter-F}

-- The variants and ordinals are those of `Denoter`, but that a field list with a variant part is a variant of its own.
mutual
  pub data PlainDenoter : Type 0 where
    Named : Identifier → PlainDenoter
    Enumeration : (at : ℕ) → (constants : List Identifier) → PlainDenoter
    Subrange : (first last : Constant) → PlainDenoter
    Pointer : (at : ℕ) → (domain : Identifier) → PlainDenoter
    Array : (at : ℕ) → (packed : Bool) → PlainIndices → (component : PlainDenoter) → PlainDenoter
    Record : (at : ℕ) → (packed : Bool) → (fields : PlainDenoter) → PlainDenoter
    Set : (at : ℕ) → (packed : Bool) → (base : PlainDenoter) → PlainDenoter
    File : (at file : ℕ) → (component : PlainDenoter) → PlainDenoter
    Fields : (fixed : PlainSections) → PlainDenoter
    -- with the ordinal of `case`, the tag field's name, where it has one, the tag's type, and the variants
    FieldsWithVariants : (fixed : PlainSections) → (at : ℕ) → (tag : Option Identifier) → (of : Identifier) → PlainVariants → PlainDenoter

  -- index types, each with the ordinal that identifies the array's type
  pub data PlainIndices : Type 0 where
    NoIndices : PlainIndices
    Index : (at : ℕ) → PlainDenoter → (more : PlainIndices) → PlainIndices

  -- names of one type and another: fields, or variables
  pub data PlainSections : Type 0 where
    NoSections : PlainSections
    Section : (names : List Identifier) → (of : PlainDenoter) → (more : PlainSections) → PlainSections

  -- variants: constants, and the fields for them
  pub data PlainVariants : Type 0 where
    NoVariants : PlainVariants
    Variant : (constants : List Constant) → (fields : PlainDenoter) → (more : PlainVariants) → PlainVariants

-- ---- from the trees to plain data

-- Lists of parts, where `plain` says what the denoters in them become.
module _ {D : Type 0} (plain : D → PlainDenoter) where
  abbrev pub indices_of : List (DeclaredIndex D) → PlainIndices
  indices_of [] = NoIndices
  indices_of (i ∷ more) = Index i.at (plain i.of) (indices_of more)

  abbrev pub sections_of : List (DeclaredSection D) → PlainSections
  sections_of [] = NoSections
  sections_of (s ∷ more) = Section s.names (plain s.of) (sections_of more)

  abbrev pub variants_of : List (DeclaredVariant D) → PlainVariants
  variants_of [] = NoVariants
  variants_of (v ∷ more) = Variant v.constants (plain v.fields) (variants_of more)

  abbrev pub fields_of : List (DeclaredSection D) → Option (VariantPart D) → PlainDenoter
  fields_of fixed None = Fields (sections_of fixed)
  fields_of fixed (Some part) = FieldsWithVariants (sections_of fixed) part.at part.tag part.of (variants_of part.variants)

abbrev pub itself : PlainDenoter → PlainDenoter
itself d = d

-- one node, whose parts are plain
abbrev pub layer_denoter : Denoter-F PlainDenoter → PlainDenoter
layer_denoter (Denoter-F.Named name) = Named name
layer_denoter (Denoter-F.Enumeration at constants) = Enumeration at constants
layer_denoter (Denoter-F.Subrange first last) = Subrange first last
layer_denoter (Denoter-F.Pointer at domain) = Pointer at domain
layer_denoter (Denoter-F.Array at packed indices component) = Array at packed (indices_of itself indices) component
layer_denoter (Denoter-F.Record at packed fields) = Record at packed fields
layer_denoter (Denoter-F.Set at packed base) = Set at packed base
layer_denoter (Denoter-F.File at file component) = File at file component
layer_denoter (Denoter-F.Fields fixed part) = fields_of itself fixed part

unfoldable pub plain_denoter : Denoter → PlainDenoter
plain_denoter t = fold-Denoter PlainDenoter layer_denoter t

abbrev pub plain_sections : List (DeclaredSection Denoter) → PlainSections
plain_sections sections = sections_of plain_denoter sections
