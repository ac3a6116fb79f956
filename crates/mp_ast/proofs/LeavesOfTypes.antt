-- What the rules of type denoters read is told by the leaves of the denoters that they make. Where `packed` stands, it
-- is the first word of a structured type, and the type's own word is not told of, but `file` is.
use Rattle.std.proofs.Common.{◌≡◌, ℕ, zero, suc, ◌+◌, true, false, List, [], ◌∷◌, ◌++◌, Option, Some, None, nat_eq, refl, sym, ap, ◌∙◌, append_assoc, arith}
use Rattle.std.proofs.lemmas.Bool.{cond-true, cond-false, eq-eqb, false_from_ne_true, eqb-true}
use Rattle.std.proofs.lemmas.List.{append-nil}
use Rattle.mp_ast.specs.declared.tokens.TokenKind.TheVariants as kind
use Rattle.mp_ast.specs.declared.words.WordSymbol.TheVariants as w
use Rattle.mp_ast.specs.declared.symbols.Symbol.TheVariants as s
use Rattle.mp_ast.specs.declared.types.Index.{Index}
use Rattle.mp_ast.specs.declared.types.Section.{Section}
use Rattle.mp_ast.specs.declared.types.Variant.{Variant}
use Rattle.mp_ast.specs.declared.types.VariantPart.{VariantPart}
use Rattle.mp_ast.specs.declared.types.Denoter.{Denoter}
use Rattle.mp_ast.specs.declared.types.Denoter.TheVariants as d
use Rattle.mp_ast.specs.Rules.{Rule, optional}
use Rattle.mp_ast.specs.TypeGrammar.{Deeper, behind, simple_type, section, further_index, variant, tag_field, structure, packed_structure, denoter_with}
use Rattle.mp_ast.specs.TypeGrammar.{variant_part, fixed_fields, field_list_with, denoter}
use Rattle.mp_ast.specs.PlainTypes.{indices_of, variants_of, plain_denoter, plain_sections}
use Rattle.mp_ast.specs.Leaves.{Leaf, Mark, Name, leaves_of_constants, leaves_of_names}
use Rattle.mp_ast.specs.LeavesOfBlocks.{file_words, leaves_of_tag, leaves_of_denoter, leaves_of_further, leaves_of_sections, leaves_of_variants}
use Rattle.mp_ast.proofs.PlainTypeLemmas.{plain_denoter-Named, plain_denoter-Enumeration, plain_denoter-Subrange, plain_denoter-Pointer, plain_denoter-Array}
use Rattle.mp_ast.proofs.PlainTypeLemmas.{plain_denoter-Record, plain_denoter-Set, plain_denoter-File, plain_denoter-Fields, plain_denoter-FieldsWithVariants}
use Rattle.mp_ast.proofs.LeavesTold.{Tells, done, never, next, last, ends, closed, either, either_at, anywhere, maybe_leaves, maybe, repeated, row, silent}
use Rattle.mp_ast.proofs.LeavesTold.{maybe_silent, mark, opens, opens_next, marked_next, marked_at, identifier_tells, constant_tells, constants_tell}
use Rattle.mp_ast.proofs.LeavesTold.{names_tell}

-- ---- the leaves of trees, by their plain forms

abbrev pub denoter_leaves : Denoter → List Leaf
denoter_leaves x = leaves_of_denoter (plain_denoter x)

abbrev pub section_leaves : Section Denoter → List Leaf
section_leaves x = leaves_of_names x.names ++ denoter_leaves x.of

abbrev pub sections_leaves : List (Section Denoter) → List Leaf
sections_leaves xs = leaves_of_sections (plain_sections xs)

pub one_section : (x : Section Denoter) (more : List (Section Denoter)) → section_leaves x ++ sections_leaves more ≡ sections_leaves (x ∷ more)
one_section x more = append_assoc (leaves_of_names x.names) (denoter_leaves x.of) (sections_leaves more)

abbrev further_leaves : List (Index Denoter) → List Leaf
further_leaves xs = leaves_of_further (indices_of plain_denoter xs)

abbrev variant_leaves : Variant Denoter → List Leaf
variant_leaves v = leaves_of_constants v.constants ++ denoter_leaves v.fields

abbrev variants_leaves : List (Variant Denoter) → List Leaf
variants_leaves vs = leaves_of_variants (variants_of plain_denoter vs)

one_variant : (v : Variant Denoter) (more : List (Variant Denoter)) → variant_leaves v ++ variants_leaves more ≡ variants_leaves (v ∷ more)
one_variant v more = append_assoc (leaves_of_constants v.constants) (denoter_leaves v.fields) (variants_leaves more)

abbrev part_leaves : VariantPart Denoter → List Leaf
part_leaves p = Mark p.at (kind.Word w.Case) ∷ (leaves_of_tag p.tag ++ Name p.of ∷ variants_leaves p.variants)

-- ---- simple types, and parts of denoters

simple_tells : Tells simple_type denoter_leaves
simple_tells =
    either (ends identifier_tells (λ name. ap leaves_of_denoter (sym (plain_denoter-Named name))))
    (either
    (next (mark refl) (λ at. closed (names_tell (silent refl)) (silent refl) (λ names. ap leaves_of_denoter (sym (plain_denoter-Enumeration at names)))))
    (next constant_tells (λ first. next (silent refl) (λ dots. ends constant_tells (λ last. ap leaves_of_denoter (sym (plain_denoter-Subrange first last)))))))

pub section_tells : {r : Rule Denoter} → Tells r denoter_leaves → Tells (section r) section_leaves
section_tells c = next (names_tell (silent refl)) (λ names. next (silent refl) (λ colon. ends c (λ of. refl)))

further_tells : Tells further_index (λ i. Mark i.at (kind.Symbol s.Comma) ∷ denoter_leaves i.of)
further_tells = next (mark refl) (λ at. ends simple_tells (λ of. refl))

variant_tells : {r : Rule Denoter} → Tells r denoter_leaves → Tells (variant r) variant_leaves
variant_tells c =
    next (constants_tell (silent refl)) (λ constants. next (silent refl) (λ colon. next (silent refl) (λ parenthesis. closed c (silent refl) (λ found. refl))))

tag_tells : Tells (optional tag_field) leaves_of_tag
tag_tells = either (ends {g = λ name. Name name ∷ []} (closed identifier_tells (silent refl) (λ name. refl)) (λ name. refl)) (done refl)

-- ---- structured types

array_done :
    (word : Leaf) (of : Denoter) (more : List (Index Denoter)) (component : Denoter) →
    word ∷ (denoter_leaves of ++ (further_leaves more ++ denoter_leaves component)) ≡
    word ∷ ((denoter_leaves of ++ further_leaves more) ++ denoter_leaves component)
array_done word of more component = ap (λ l. word ∷ l) (sym (append_assoc (denoter_leaves of) (further_leaves more) (denoter_leaves component)))

file_alone : (at : ℕ) → Mark at (kind.Word w.File) ∷ [] ≡ file_words at at
file_alone at = sym (cond-true (nat_eq at at) (Mark at (kind.Word w.File) ∷ []) (Mark at (kind.Word w.Packed) ∷ Mark at (kind.Word w.File) ∷ []) (eq-eqb at at refl))

file_packed : (packed at : ℕ) → at ≡ packed + 1 → Mark packed (kind.Word w.Packed) ∷ Mark at (kind.Word w.File) ∷ [] ≡ file_words packed at
file_packed packed at e =
    sym
    (cond-false (nat_eq packed at) (Mark at (kind.Word w.File) ∷ []) (Mark packed (kind.Word w.Packed) ∷ Mark at (kind.Word w.File) ∷ [])
    (false_from_ne_true (nat_eq packed at) (λ same. let q = eqb-true packed at same in omega (arith, e, q))))

fields_leaves :
    (fixed : List (Section Denoter)) (part : Option (VariantPart Denoter)) →
    sections_leaves fixed ++ maybe_leaves part_leaves part ≡ denoter_leaves (d.Fields fixed part)
fields_leaves fixed None = append-nil (sections_leaves fixed) ∙ ap leaves_of_denoter (sym (plain_denoter-Fields fixed))
fields_leaves fixed (Some part) = ap leaves_of_denoter (sym (plain_denoter-FieldsWithVariants fixed part))

record DeeperTells (b : Deeper) : Type 0 where
  pub denoter : Tells b.denoter denoter_leaves
  pub field_list : Tells b.field_list denoter_leaves

module _ (room : ℕ) (b : Deeper) (c : DeeperTells b) where
  structure_tells : Tells (structure room b None) denoter_leaves
  structure_tells =
      either
      (next (opens room (mark refl)) (λ at. next (silent refl) (λ bracket. next simple_tells (λ of.
      next (repeated further_leaves refl (λ x xs. refl) further_tells) (λ more. next (silent refl) (λ end. next (silent refl) (λ word.
      ends c.denoter (λ component.
      array_done (Mark at (kind.Word w.Array)) of more component ∙
      ap leaves_of_denoter (sym (plain_denoter-Array at false (record { at = at; of = of } ∷ more) component))))))))))
      (either
      (next (opens room (mark refl)) (λ at. closed c.field_list (silent refl) (λ fields. ap leaves_of_denoter (sym (plain_denoter-Record at false fields)))))
      (either
      (next (opens room (mark refl)) (λ at. next (silent refl) (λ word. ends simple_tells (λ base. ap leaves_of_denoter (sym (plain_denoter-Set at false base))))))
      (next (opens room (mark refl)) (λ at. next (silent refl) (λ word. ends c.denoter (λ component.
      ap (λ l. l ++ denoter_leaves component) (file_alone at) ∙ ap leaves_of_denoter (sym (plain_denoter-File at at component))))))))

  packed_tells : Tells (packed_structure room b) denoter_leaves
  packed_tells =
      opens_next room (marked_next refl (λ packed.
      either_at
      (anywhere (next (silent refl) (λ at. next (silent refl) (λ bracket. next simple_tells (λ of.
      next (repeated further_leaves refl (λ x xs. refl) further_tells) (λ more. next (silent refl) (λ end. next (silent refl) (λ word.
      ends c.denoter (λ component.
      array_done (Mark packed (kind.Word w.Packed)) of more component ∙
      ap leaves_of_denoter (sym (plain_denoter-Array packed true (record { at = packed; of = of } ∷ more) component)))))))))))
      (either_at
      (anywhere (next (silent refl) (λ at. closed c.field_list (silent refl) (λ fields. ap leaves_of_denoter (sym (plain_denoter-Record packed true fields))))))
      (either_at
      (anywhere (next (silent refl) (λ at. next (silent refl) (λ word. ends simple_tells (λ base. ap leaves_of_denoter (sym (plain_denoter-Set packed true base)))))))
      (marked_at refl (λ at e. next (silent refl) (λ word. ends c.denoter (λ component.
      ap (λ l. l ++ denoter_leaves component) (file_packed packed at e) ∙ ap leaves_of_denoter (sym (plain_denoter-File packed at component))))))))))

  denoter_tells_with : Tells (denoter_with room b) denoter_leaves
  denoter_tells_with =
      either simple_tells
      (either (next (mark refl) (λ at. ends identifier_tells (λ domain. ap leaves_of_denoter (sym (plain_denoter-Pointer at domain)))))
      (either structure_tells packed_tells))

  part_tells : Tells (variant_part room b) part_leaves
  part_tells =
      next (opens room (mark refl)) (λ at. next tag_tells (λ tag. next identifier_tells (λ of. next (silent refl) (λ word.
      ends (row variants_leaves refl one_variant (silent refl) (variant_tells c.field_list)) (λ variants. refl)))))

  fixed_tells : Tells (fixed_fields room b) denoter_leaves
  fixed_tells =
      next (row sections_leaves refl one_section (silent refl) (section_tells denoter_tells_with)) (λ fixed.
      ends (maybe {g = part_leaves} (next (silent refl) (λ semicolon. last part_tells (λ part. refl)))) (λ part. fields_leaves fixed part))

  field_list_tells_with : Tells (field_list_with room b) denoter_leaves
  field_list_tells_with =
      either
      (next {g = denoter_leaves} (either fixed_tells (ends part_tells (λ part. fields_leaves [] (Some part)))) (λ fields.
      next (maybe_silent refl) (λ semicolon. done (append-nil (denoter_leaves fields)))))
      (done (fields_leaves [] None))

behind_tells : (room : ℕ) → DeeperTells (behind room)
unfolding behind
behind_tells zero = record { denoter = never; field_list = never }
behind_tells (suc room) =
    let c = behind_tells room in record { denoter = denoter_tells_with room (behind room) c; field_list = field_list_tells_with room (behind room) c }

pub denoter_tells : (room : ℕ) → Tells (denoter room) denoter_leaves
denoter_tells room = denoter_tells_with room (behind room) (behind_tells room)
