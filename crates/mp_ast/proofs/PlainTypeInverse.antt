-- Nothing of a type denoter is lost in its plain form: it can be made again from that. By induction over the denoter;
-- where parts stand in a list, each of them is made again.
use Rattle.std.proofs.Common.{◌≡◌, ℕ, List, [], ◌∷◌, map, Option, None, Some, refl, sym, ap, ◌∙◌, subst}
use Rattle.std.proofs.lemmas.List.{map-id}
use Rattle.mp_ast.specs.declared.leaves.Identifier.{Identifier}
use Rattle.mp_ast.specs.declared.leaves.Constant.{Constant}
use Rattle.mp_ast.specs.declared.types.Index.{Index}
use Rattle.mp_ast.specs.declared.types.Section.{Section}
use Rattle.mp_ast.specs.declared.types.Variant.{Variant}
use Rattle.mp_ast.specs.declared.types.VariantPart.{VariantPart}
use Rattle.mp_ast.specs.declared.types.Denoter.{Denoter, roll-Denoter, map-Denoter, ind-Denoter}
use Rattle.mp_ast.specs.declared.types.Denoter.TheOpen.{Denoter-F}
use Rattle.mp_ast.specs.declared.types.Denoter.TheVariants as tree
use Rattle.mp_ast.specs.PlainTypes as plain
use Rattle.mp_ast.specs.PlainTypes.{PlainDenoter, PlainIndices, PlainSections, PlainVariants, indices_of, sections_of, variants_of, plain_denoter, plain_sections}
use Rattle.mp_ast.proofs.PlainTypeLemmas.{plain_denoter-Named, plain_denoter-Enumeration, plain_denoter-Subrange, plain_denoter-Pointer, plain_denoter-Array}
use Rattle.mp_ast.proofs.PlainTypeLemmas.{plain_denoter-Record, plain_denoter-Set, plain_denoter-File, plain_denoter-Fields, plain_denoter-FieldsWithVariants}

-- ---- from plain data to the trees

abbrev index : ℕ → Denoter → Index Denoter
index at of = record { at = at; of = of }

abbrev section : List Identifier → Denoter → Section Denoter
section names of = record { names = names; of = of }

abbrev variant : List Constant → Denoter → Variant Denoter
variant constants fields = record { constants = constants; fields = fields }

abbrev part : ℕ → Option Identifier → Identifier → List (Variant Denoter) → VariantPart Denoter
part at tag of variants = record { at = at; tag = tag; of = of; variants = variants }

abbrev mutual
  pub denoter_of : PlainDenoter → Denoter
  denoter_of (plain.Named name) = tree.Named name
  denoter_of (plain.Enumeration at constants) = tree.Enumeration at constants
  denoter_of (plain.Subrange first last) = tree.Subrange first last
  denoter_of (plain.Pointer at domain) = tree.Pointer at domain
  denoter_of (plain.Array at packed indices component) = tree.Array at packed (index_list indices) (denoter_of component)
  denoter_of (plain.Record at packed fields) = tree.Record at packed (denoter_of fields)
  denoter_of (plain.Set at packed base) = tree.Set at packed (denoter_of base)
  denoter_of (plain.File at file component) = tree.File at file (denoter_of component)
  denoter_of (plain.Fields fixed) = tree.Fields (section_list fixed) None
  denoter_of (plain.FieldsWithVariants fixed at tag of variants) = tree.Fields (section_list fixed) (Some (part at tag of (variant_list variants)))

  pub index_list : PlainIndices → List (Index Denoter)
  index_list plain.NoIndices = []
  index_list (plain.Index at of more) = index at (denoter_of of) ∷ index_list more

  pub section_list : PlainSections → List (Section Denoter)
  section_list plain.NoSections = []
  section_list (plain.Section names of more) = section names (denoter_of of) ∷ section_list more

  pub variant_list : PlainVariants → List (Variant Denoter)
  variant_list plain.NoVariants = []
  variant_list (plain.Variant constants fields more) = variant constants (denoter_of fields) ∷ variant_list more

-- a denoter is made again from its plain form
abbrev pub IsTold : Denoter → Type 0
IsTold d = denoter_of (plain_denoter d) ≡ d

-- ---- lists of parts, each of which is made again

module _ {X : Type 0} (value : X → Denoter) (told : (x : X) → IsTold (value x)) where
  indices-told :
      (h : Index X → Index Denoter) → ((i : Index X) → h i ≡ index i.at (value i.of)) →
      (l : List (Index X)) → index_list (indices_of plain_denoter (map h l)) ≡ map h l
  indices-told h each [] = refl
  indices-told h each (i ∷ l) =
      subst (λ j. index j.at (denoter_of (plain_denoter j.of)) ∷ index_list (indices_of plain_denoter (map h l)) ≡ j ∷ map h l) (sym (each i))
      (ap (λ d. index i.at d ∷ index_list (indices_of plain_denoter (map h l))) (told i.of) ∙
      ap (λ r. index i.at (value i.of) ∷ r) (indices-told h each l))

  pub sections-told :
      (h : Section X → Section Denoter) → ((s : Section X) → h s ≡ section s.names (value s.of)) →
      (l : List (Section X)) → section_list (plain_sections (map h l)) ≡ map h l
  sections-told h each [] = refl
  sections-told h each (s ∷ l) =
      subst (λ t. section t.names (denoter_of (plain_denoter t.of)) ∷ section_list (plain_sections (map h l)) ≡ t ∷ map h l) (sym (each s))
      (ap (λ d. section s.names d ∷ section_list (plain_sections (map h l))) (told s.of) ∙
      ap (λ r. section s.names (value s.of) ∷ r) (sections-told h each l))

  variants-told :
      (h : Variant X → Variant Denoter) → ((v : Variant X) → h v ≡ variant v.constants (value v.fields)) →
      (l : List (Variant X)) → variant_list (variants_of plain_denoter (map h l)) ≡ map h l
  variants-told h each [] = refl
  variants-told h each (v ∷ l) =
      subst (λ w. variant w.constants (denoter_of (plain_denoter w.fields)) ∷ variant_list (variants_of plain_denoter (map h l)) ≡ w ∷ map h l) (sym (each v))
      (ap (λ d. variant v.constants d ∷ variant_list (variants_of plain_denoter (map h l))) (told v.fields) ∙
      ap (λ r. variant v.constants (value v.fields) ∷ r) (variants-told h each l))

-- ---- denoters, by induction

-- a denoter that is told
abbrev Told : Type 0
Told = (d : Denoter) × IsTold d

abbrev untold : Told → Denoter
untold d = d.0

abbrev told : (d : Told) → IsTold (untold d)
told d = d.1

-- what is a variant that is told
at_variant : (d t : Denoter) (p : PlainDenoter) → d ≡ t → plain_denoter t ≡ p → denoter_of p ≡ t → IsTold d
at_variant d t p r e b = ap (λ x. denoter_of (plain_denoter x)) r ∙ ap denoter_of e ∙ b ∙ sym r

with_part :
    (at : ℕ) (tag : Option Identifier) (of : Identifier) {s t : List (Section Denoter)} {v w : List (Variant Denoter)} → s ≡ t → v ≡ w →
    tree.Fields s (Some (part at tag of v)) ≡ tree.Fields t (Some (part at tag of w))
with_part at tag of {s} {t} {v} {w} p q = ap (λ l. tree.Fields l (Some (part at tag of v))) p ∙ ap (λ l. tree.Fields t (Some (part at tag of l))) q

node_told : (y : Denoter-F Told) → IsTold (roll-Denoter (map-Denoter Told Denoter untold y))
node_told (Denoter-F.Named name) = at_variant _ _ _ (tree.rolls-Named name) (plain_denoter-Named name) refl
node_told (Denoter-F.Enumeration at constants) = at_variant _ _ _ (tree.rolls-Enumeration at constants) (plain_denoter-Enumeration at constants) refl
node_told (Denoter-F.Subrange first last) = at_variant _ _ _ (tree.rolls-Subrange first last) (plain_denoter-Subrange first last) refl
node_told (Denoter-F.Pointer at domain) = at_variant _ _ _ (tree.rolls-Pointer at domain) (plain_denoter-Pointer at domain) refl
node_told (Denoter-F.Array at packed indices component) =
    at_variant _ _ _ (tree.rolls-Array at packed _ component.0) (plain_denoter-Array at packed _ component.0)
    (ap (λ l. tree.Array at packed l (denoter_of (plain_denoter component.0))) (indices-told untold told _ (λ _. refl) indices) ∙
    ap (tree.Array at packed _) component.1)
node_told (Denoter-F.Record at packed fields) =
    at_variant _ _ _ (tree.rolls-Record at packed fields.0) (plain_denoter-Record at packed fields.0) (ap (tree.Record at packed) fields.1)
node_told (Denoter-F.Set at packed base) = at_variant _ _ _ (tree.rolls-Set at packed base.0) (plain_denoter-Set at packed base.0) (ap (tree.Set at packed) base.1)
node_told (Denoter-F.File at file component) = at_variant _ _ _ (tree.rolls-File at file component.0) (plain_denoter-File at file component.0) (ap (tree.File at file) component.1)
node_told (Denoter-F.Fields fixed None) =
    at_variant _ _ _ (tree.rolls-Fields _ None) (plain_denoter-Fields _) (ap (λ l. tree.Fields l None) (sections-told untold told _ (λ _. refl) fixed))
node_told (Denoter-F.Fields fixed (Some p)) =
    at_variant _ _ _ (tree.rolls-Fields _ (Some (part p.at p.tag p.of _))) (plain_denoter-FieldsWithVariants _ (part p.at p.tag p.of _))
    (with_part p.at p.tag p.of (sections-told untold told _ (λ _. refl) fixed) (variants-told untold told _ (λ _. refl) p.variants))

pub denoter_told : (d : Denoter) → IsTold d
denoter_told = ind-Denoter IsTold (λ x y is. subst (λ z. IsTold (roll-Denoter z)) is (node_told y))

pub same_sections : (l : List (Section Denoter)) → section_list (plain_sections l) ≡ l
same_sections l = subst (λ k. section_list (plain_sections k) ≡ k) (map-id l) (sections-told (λ d. d) denoter_told (λ s. s) (λ _. refl) l)

pub plain_denoter-injective : (s t : Denoter) → plain_denoter s ≡ plain_denoter t → s ≡ t
plain_denoter-injective s t e = sym (denoter_told s) ∙ ap denoter_of e ∙ denoter_told t
