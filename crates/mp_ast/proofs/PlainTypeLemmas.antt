-- The plain form of a type denoter is the plain forms of its parts, put together. Each variant's equation follows from
-- that of the fold; where the parts stand in a list, a fold's `map` over it and the plain form of each are one pass.
use Rattle.std.proofs.Common.{◌≡◌, ℕ, Bool, List, [], ◌∷◌, map, None, Some, refl, sym, ap, ◌∙◌}
use Rattle.mp_ast.specs.declared.leaves.Identifier.{Identifier}
use Rattle.mp_ast.specs.declared.leaves.Constant.{Constant}
use Rattle.mp_ast.specs.declared.types.Index.{Index}
use Rattle.mp_ast.specs.declared.types.Section.{Section}
use Rattle.mp_ast.specs.declared.types.Variant.{Variant}
use Rattle.mp_ast.specs.declared.types.VariantPart.{VariantPart}
use Rattle.mp_ast.specs.declared.types.Denoter.{Denoter, fold-roll-Denoter}
use Rattle.mp_ast.specs.declared.types.Denoter.TheOpen.{Denoter-F}
use Rattle.mp_ast.specs.declared.types.Denoter.TheVariants as tree
use Rattle.mp_ast.specs.PlainTypes as plain
use Rattle.mp_ast.specs.PlainTypes.{PlainDenoter, PlainSections, PlainVariants, indices_of, sections_of, variants_of, itself, layer_denoter, plain_denoter, plain_sections}

-- ---- lists of parts, each of which a function changes in the denoters in it

module _ {A B : Type 0} (f : A → B) (g : B → PlainDenoter) where
  indices_of-map :
      (h : Index A → Index B) → ((i : Index A) → h i ≡ record { at = i.at; of = f i.of }) →
      (l : List (Index A)) → indices_of g (map h l) ≡ indices_of (λ x. g (f x)) l
  indices_of-map h each [] = refl
  indices_of-map h each (i ∷ l) =
      ap (λ j. plain.Index j.at (g j.of) (indices_of g (map h l))) (each i) ∙ ap (plain.Index i.at (g (f i.of))) (indices_of-map h each l)

  sections_of-map :
      (h : Section A → Section B) → ((s : Section A) → h s ≡ record { names = s.names; of = f s.of }) →
      (l : List (Section A)) → sections_of g (map h l) ≡ sections_of (λ x. g (f x)) l
  sections_of-map h each [] = refl
  sections_of-map h each (s ∷ l) =
      ap (λ t. plain.Section t.names (g t.of) (sections_of g (map h l))) (each s) ∙ ap (plain.Section s.names (g (f s.of))) (sections_of-map h each l)

  variants_of-map :
      (h : Variant A → Variant B) → ((v : Variant A) → h v ≡ record { constants = v.constants; fields = f v.fields }) →
      (l : List (Variant A)) → variants_of g (map h l) ≡ variants_of (λ x. g (f x)) l
  variants_of-map h each [] = refl
  variants_of-map h each (v ∷ l) =
      ap (λ w. plain.Variant w.constants (g w.fields) (variants_of g (map h l))) (each v) ∙ ap (plain.Variant v.constants (g (f v.fields))) (variants_of-map h each l)

with_variants :
    (part : VariantPart Denoter) {s t : PlainSections} {v w : PlainVariants} → s ≡ t → v ≡ w →
    plain.FieldsWithVariants s part.at part.tag part.of v ≡ plain.FieldsWithVariants t part.at part.tag part.of w
with_variants part {s} {t} {v} {w} p q =
    ap (λ l. plain.FieldsWithVariants l part.at part.tag part.of v) p ∙ ap (plain.FieldsWithVariants t part.at part.tag part.of) q

-- ---- the equations

pub plain_denoter-Named : (name : Identifier) → plain_denoter (tree.Named name) ≡ plain.Named name
unfolding plain_denoter
plain_denoter-Named name =
    ap plain_denoter (sym (tree.rolls-Named name)) ∙ fold-roll-Denoter PlainDenoter layer_denoter (Denoter-F.Named name)

pub plain_denoter-Enumeration : (at : ℕ) (constants : List Identifier) → plain_denoter (tree.Enumeration at constants) ≡ plain.Enumeration at constants
unfolding plain_denoter
plain_denoter-Enumeration at constants =
    ap plain_denoter (sym (tree.rolls-Enumeration at constants)) ∙ fold-roll-Denoter PlainDenoter layer_denoter (Denoter-F.Enumeration at constants)

pub plain_denoter-Subrange : (first last : Constant) → plain_denoter (tree.Subrange first last) ≡ plain.Subrange first last
unfolding plain_denoter
plain_denoter-Subrange first last =
    ap plain_denoter (sym (tree.rolls-Subrange first last)) ∙ fold-roll-Denoter PlainDenoter layer_denoter (Denoter-F.Subrange first last)

pub plain_denoter-Pointer : (at : ℕ) (domain : Identifier) → plain_denoter (tree.Pointer at domain) ≡ plain.Pointer at domain
unfolding plain_denoter
plain_denoter-Pointer at domain =
    ap plain_denoter (sym (tree.rolls-Pointer at domain)) ∙ fold-roll-Denoter PlainDenoter layer_denoter (Denoter-F.Pointer at domain)

pub plain_denoter-Array :
    (at : ℕ) (packed : Bool) (indices : List (Index Denoter)) (component : Denoter) →
    plain_denoter (tree.Array at packed indices component) ≡ plain.Array at packed (indices_of plain_denoter indices) (plain_denoter component)
unfolding plain_denoter
plain_denoter-Array at packed indices component =
    ap plain_denoter (sym (tree.rolls-Array at packed indices component)) ∙
    fold-roll-Denoter PlainDenoter layer_denoter (Denoter-F.Array at packed indices component) ∙
    ap (λ l. plain.Array at packed l (plain_denoter component)) (indices_of-map plain_denoter itself _ (λ _. refl) indices)

pub plain_denoter-Record : (at : ℕ) (packed : Bool) (fields : Denoter) → plain_denoter (tree.Record at packed fields) ≡ plain.Record at packed (plain_denoter fields)
unfolding plain_denoter
plain_denoter-Record at packed fields =
    ap plain_denoter (sym (tree.rolls-Record at packed fields)) ∙ fold-roll-Denoter PlainDenoter layer_denoter (Denoter-F.Record at packed fields)

pub plain_denoter-Set : (at : ℕ) (packed : Bool) (base : Denoter) → plain_denoter (tree.Set at packed base) ≡ plain.Set at packed (plain_denoter base)
unfolding plain_denoter
plain_denoter-Set at packed base =
    ap plain_denoter (sym (tree.rolls-Set at packed base)) ∙ fold-roll-Denoter PlainDenoter layer_denoter (Denoter-F.Set at packed base)

pub plain_denoter-File : (at file : ℕ) (component : Denoter) → plain_denoter (tree.File at file component) ≡ plain.File at file (plain_denoter component)
unfolding plain_denoter
plain_denoter-File at file component =
    ap plain_denoter (sym (tree.rolls-File at file component)) ∙ fold-roll-Denoter PlainDenoter layer_denoter (Denoter-F.File at file component)

pub plain_denoter-Fields : (fixed : List (Section Denoter)) → plain_denoter (tree.Fields fixed None) ≡ plain.Fields (plain_sections fixed)
unfolding plain_denoter
plain_denoter-Fields fixed =
    ap plain_denoter (sym (tree.rolls-Fields fixed None)) ∙ fold-roll-Denoter PlainDenoter layer_denoter (Denoter-F.Fields fixed None) ∙
    ap plain.Fields (sections_of-map plain_denoter itself _ (λ _. refl) fixed)

pub plain_denoter-FieldsWithVariants : (fixed : List (Section Denoter)) (part : VariantPart Denoter) → plain_denoter (tree.Fields fixed (Some part)) ≡
    plain.FieldsWithVariants (plain_sections fixed) part.at part.tag part.of (variants_of plain_denoter part.variants)
unfolding plain_denoter
plain_denoter-FieldsWithVariants fixed part =
    ap plain_denoter (sym (tree.rolls-Fields fixed (Some part))) ∙ fold-roll-Denoter PlainDenoter layer_denoter (Denoter-F.Fields fixed (Some part)) ∙
    with_variants part (sections_of-map plain_denoter itself _ (λ _. refl) fixed) (variants_of-map plain_denoter itself _ (λ _. refl) part.variants)
