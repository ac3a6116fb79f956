-- The rules of type denoters give well-formed ones.
use Rattle.std.proofs.Common.{◌≡◌, inl, inr, ℕ, zero, suc, ◌+◌, List, [], ◌∷◌, Option, Some, None, refl, sym, ap, ◌∙◌, subst}
use Rattle.std.specs.List.{AllByRecursion}
use Rattle.mp_ast.specs.declared.tokens.TokenKind.{TokenKind}
use Rattle.mp_ast.specs.declared.tokens.TokenKind.TheVariants.{Word}
use Rattle.mp_ast.specs.declared.words.WordSymbol.TheVariants as w
use Rattle.mp_ast.specs.declared.types.Index.{Index}
use Rattle.mp_ast.specs.declared.types.Section.{Section}
use Rattle.mp_ast.specs.declared.types.Variant.{Variant}
use Rattle.mp_ast.specs.declared.types.VariantPart.{VariantPart}
use Rattle.mp_ast.specs.declared.types.Denoter.{Denoter}
use Rattle.mp_ast.specs.declared.types.Denoter.TheVariants as d
use Rattle.mp_ast.specs.Rules.{Input, Rule, ◌>>=◌, ◌<$>◌, word, opener}
use Rattle.mp_ast.specs.TypeGrammar.{Deeper, behind, simple_type, section, structure_word, first_of, array_type, record_type, set_type, structure, packed_structure}
use Rattle.mp_ast.specs.TypeGrammar.{variant_part, denoter_with, field_list_with, denoter}
use Rattle.mp_ast.specs.PlainTypes as plain
use Rattle.mp_ast.specs.PlainTypes.{PlainDenoter, indices_of, variants_of, plain_denoter, plain_sections}
use Rattle.mp_ast.specs.WellFormed.{IsSome, IsSimpleType, IsFieldList, IsType, IsFirstWord, HasVariant, IsDenoter, AreIndices, AreSections, AreVariants}
use Rattle.mp_ast.proofs.PlainTypeLemmas.{plain_denoter-Named, plain_denoter-Enumeration, plain_denoter-Subrange, plain_denoter-Pointer, plain_denoter-Array}
use Rattle.mp_ast.proofs.PlainTypeLemmas.{plain_denoter-Record, plain_denoter-Set, plain_denoter-File, plain_denoter-Fields, plain_denoter-FieldsWithVariants}
use Rattle.mp_ast.proofs.Yielding.{Yields, Any, Optional, Row, any, nothing, never, next, past, made, either, maybe, repeated, row}

abbrev pub Good : Denoter → Type 0
Good x = IsType (plain_denoter x) × IsDenoter (plain_denoter x)

abbrev Simple : Denoter → Type 0
Simple x = IsSimpleType (plain_denoter x) × IsDenoter (plain_denoter x)

abbrev FieldList : Denoter → Type 0
FieldList x = IsFieldList (plain_denoter x) × IsDenoter (plain_denoter x)

simple_is_type : (p : PlainDenoter) → IsSimpleType p → IsType p
simple_is_type (plain.Named name) v = tt
simple_is_type (plain.Enumeration at constants) v = tt
simple_is_type (plain.Subrange first last) v = tt
simple_is_type (plain.Pointer at domain) v = tt
simple_is_type (plain.Array at packed by component) v = tt
simple_is_type (plain.Record at packed fields) v = tt
simple_is_type (plain.Set at packed base) v = tt
simple_is_type (plain.File at file component) v = tt
simple_is_type (plain.Fields fixed) v = v
simple_is_type (plain.FieldsWithVariants fixed at tag of cases) v = v

as_simple : (x : Denoter) (p : PlainDenoter) → plain_denoter x ≡ p → IsSimpleType p → IsDenoter p → Simple x
as_simple x p e v w = (subst IsSimpleType (sym e) v, subst IsDenoter (sym e) w)

as_type : (x : Denoter) (p : PlainDenoter) → plain_denoter x ≡ p → IsType p → IsDenoter p → Good x
as_type x p e v w = (subst IsType (sym e) v, subst IsDenoter (sym e) w)

-- ---- lists of parts

abbrev GoodIndex : Index Denoter → Type 0
GoodIndex i = IsSimpleType (plain_denoter i.of) × IsDenoter (plain_denoter i.of)

indices_are : (l : List (Index Denoter)) → AllByRecursion GoodIndex l → AreIndices (indices_of plain_denoter l)
indices_are [] v = tt
indices_are (i ∷ l) v = (v.0.0, v.0.1, indices_are l v.1)

abbrev pub GoodSection : Section Denoter → Type 0
GoodSection s = IsSome s.names × IsType (plain_denoter s.of) × IsDenoter (plain_denoter s.of)

pub sections_are : (l : List (Section Denoter)) → AllByRecursion GoodSection l → AreSections (plain_sections l)
sections_are [] v = tt
sections_are (s ∷ l) v = (v.0.0, v.0.1, v.0.2, sections_are l v.1)

abbrev GoodVariant : Variant Denoter → Type 0
GoodVariant v = IsSome v.constants × IsFieldList (plain_denoter v.fields) × IsDenoter (plain_denoter v.fields)

variants_are : (l : List (Variant Denoter)) → AllByRecursion GoodVariant l → AreVariants (variants_of plain_denoter l)
variants_are [] v = tt
variants_are (x ∷ l) v = (v.0.0, v.0.1, v.0.2, variants_are l v.1)

has_variant : (l : List (Variant Denoter)) → IsSome l → HasVariant (variants_of plain_denoter l)
has_variant [] v = elim v [ ]
has_variant (x ∷ l) v = tt

abbrev GoodPart : VariantPart Denoter → Type 0
GoodPart p = Row GoodVariant p.variants

fields_are :
    (fixed : List (Section Denoter)) (part : Option (VariantPart Denoter)) → AllByRecursion GoodSection fixed → Optional GoodPart part →
    FieldList (d.Fields fixed part)
fields_are fixed None v w =
    let e = sym (plain_denoter-Fields fixed) in (subst IsFieldList e tt, subst IsDenoter e (sections_are fixed v))
fields_are fixed (Some part) v w =
    let e = sym (plain_denoter-FieldsWithVariants fixed part) in
    (subst IsFieldList e tt, subst IsDenoter e (sections_are fixed v, has_variant part.variants w.0, variants_are part.variants w.1))

-- ---- the rules

simple_yields : Yields Simple simple_type
simple_yields =
    either (made any (λ name u. as_simple _ _ (plain_denoter-Named name) tt tt))
    (either (past (λ at. next (row {P = Any} any) (λ names v. past (λ end. nothing (as_simple _ _ (plain_denoter-Enumeration at names) tt v.0)))))
    (past (λ first. past (λ dots. made any (λ last u. as_simple _ _ (plain_denoter-Subrange first last) tt tt)))))

pub section_yields : {r : Rule Denoter} → Yields Good r → Yields GoodSection (section r)
section_yields a = next (row {P = Any} any) (λ names v. past (λ colon. next a (λ of w. nothing (v.0, w.0, w.1))))

record DeeperYields (b : Deeper) : Type 0 where
  pub denoter : Yields Good b.denoter
  pub field_list : Yields FieldList b.field_list

opener_next : (room : ℕ) (k : TokenKind) (i : Input) (at : ℕ) (j : Input) → opener room k i at j → j.at ≡ at + 1
opener_next zero k i at j h = elim h [ ]
opener_next (suc room) k i at j h = h.2 ∙ ap (λ n. n + 1) h.1

module _ (room : ℕ) (b : Deeper) (c : DeeperYields b) where
  array_yields : (packed : Option ℕ) → Yields Good (array_type room b packed)
  array_yields packed =
      past (λ at. past (λ bracket. next simple_yields (λ of v.
      next (repeated {P = GoodIndex} (past (λ comma. next simple_yields (λ of w. nothing (w.0, w.1))))) (λ more w. past (λ end. past (λ word. made c.denoter (λ component u.
      as_type _ _ (plain_denoter-Array _ _ _ component) tt (refl, (v.0, v.1, indices_are more w), u.0, u.1))))))))

  record_yields : (packed : Option ℕ) → Yields Good (record_type room b packed)
  record_yields packed = past (λ at. next c.field_list (λ fields v. past (λ end. nothing (as_type _ _ (plain_denoter-Record _ _ fields) tt (v.0, v.1)))))

  set_yields : (packed : Option ℕ) → Yields Good (set_type room b packed)
  set_yields packed = past (λ at. past (λ word. made simple_yields (λ base v. as_type _ _ (plain_denoter-Set _ _ base) tt (v.0, v.1))))

  -- the words behind `file`
  component_yields : (at file : ℕ) → IsFirstWord at file → Yields Good (word w.Of >>= (λ of. d.File at file <$> b.denoter))
  component_yields at file v = past (λ of. made c.denoter (λ component u. as_type _ _ (plain_denoter-File at file component) tt (v, u.0, u.1)))

  structure_is :
      (packed : Option ℕ) (i : Input) → ((at : ℕ) (j : Input) → structure_word room b packed w.File i at j → IsFirstWord (first_of room b packed at) at) →
      (x : Denoter) (j : Input) → structure room b packed i x j → Good x
  structure_is packed i v x j (inl h) = (array_yields packed).yields i x j h
  structure_is packed i v x j (inr (inl h)) = (record_yields packed).yields i x j h
  structure_is packed i v x j (inr (inr (inl h))) = (set_yields packed).yields i x j h
  structure_is packed i v x j (inr (inr (inr h))) = (component_yields _ h.0 (v h.0 h.1 h.2)).yields h.1 x j h.3

  -- `packed` stands before the word of its structure
  packed_yields : Yields Good (packed_structure room b)
  packed_yields = record {
    yields = λ i x j h. structure_is (Some h.0) h.1 (λ at k o. inr (sym o.1 ∙ opener_next room (Word w.Packed) i h.0 h.1 h.2)) x j h.3;
  }

  denoter_yields_with : Yields Good (denoter_with room b)
  denoter_yields_with =
      either (record { yields = λ i x j h. let v = simple_yields.yields i x j h in (simple_is_type (plain_denoter x) v.0, v.1) })
      (either (past (λ at. made any (λ name u. as_type _ _ (plain_denoter-Pointer at name) tt tt)))
      (either (record { yields = λ i x j h. structure_is None i (λ at k o. inl refl) x j h })
      packed_yields))

  part_yields : Yields GoodPart (variant_part room b)
  part_yields =
      past (λ at. past (λ tag. past (λ of. past (λ word.
      next (row {P = GoodVariant}
      (next (row {P = Any} any) (λ constants v. past (λ colon. past (λ parenthesis. next c.field_list (λ found w. past (λ end. nothing (v.0, w.0, w.1))))))))
      (λ variants v. nothing v)))))

  field_list_yields_with : Yields FieldList (field_list_with room b)
  field_list_yields_with =
      either
      (next
      (either
      (next (row {P = GoodSection} (section_yields denoter_yields_with)) (λ fixed v.
      next (maybe {P = GoodPart} (past (λ semicolon. part_yields))) (λ part w.
      nothing (fields_are fixed part v.1 w))))
      (next part_yields (λ part w. nothing (fields_are [] (Some part) tt w))))
      (λ fields v. past (λ semicolon. nothing v)))
      (nothing (fields_are [] None tt tt))

behind_yields : (room : ℕ) → DeeperYields (behind room)
unfolding behind
behind_yields zero = record { denoter = never; field_list = never }
behind_yields (suc room) =
    let c = behind_yields room in record { denoter = denoter_yields_with room (behind room) c; field_list = field_list_yields_with room (behind room) c }

pub denoter_yields : (room : ℕ) → Yields Good (denoter room)
denoter_yields room = denoter_yields_with room (behind room) (behind_yields room)
