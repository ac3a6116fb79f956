-- The laws of type denoters: the parsers read exactly what the grammar allows.
use Rattle.std.proofs.Common.{◌≡◌, ◌⊎◌, inl, inr, ℕ, zero, suc, Bool, true, false, List, [], ◌∷◌, Option, Some, None, refl, sym, ap, ◌∙◌, subst}
use Rattle.mp_ast.specs.declared.tokens.TokenKind.{TokenKind}
use Rattle.mp_ast.specs.declared.tokens.TokenKind.TheVariants as kind
use Rattle.mp_ast.specs.declared.words.WordSymbol.{WordSymbol}
use Rattle.mp_ast.specs.declared.words.WordSymbol.TheVariants as w
use Rattle.mp_ast.specs.declared.symbols.Symbol.TheVariants as s
use Rattle.mp_ast.specs.declared.leaves.Identifier.{Identifier}
use Rattle.mp_ast.specs.declared.leaves.Constant.{Constant}
use Rattle.mp_ast.specs.declared.leaves.Constant.TheVariants as c
use Rattle.mp_ast.specs.declared.types.Index.{Index}
use Rattle.mp_ast.specs.declared.types.Section.{Section}
use Rattle.mp_ast.specs.declared.types.Variant.{Variant}
use Rattle.mp_ast.specs.declared.types.VariantPart.{VariantPart}
use Rattle.mp_ast.specs.declared.types.Denoter.{Denoter}
use Rattle.mp_ast.specs.declared.types.Denoter.TheVariants as d
use Rattle.mp_ast.specs.Rules.{Input, Rule, gives, many, optional, word, symbol}
use Rattle.mp_ast.specs.Rules.{◌>>=◌ as ◌>>=ʳ◌, ◌>>◌ as ◌>>ʳ◌, ◌<$>◌ as ◌<$>ʳ◌, ◌<|>◌ as ◌<|>ʳ◌}
use Rattle.mp_ast.specs.Rules as rule
use Rattle.mp_ast.specs.LeafGrammar as leaf
use Rattle.mp_ast.specs.TypeGrammar as g
use Rattle.mp_cursor.specs.declared.next.Next.TheVariants as next
use Rattle.mp_cursor.specs.declared.next.Next.TheVariants.{Word, Symbol}
use Rattle.mp_cursor.specs.Nexts.{Nexts, class_of, is, any, either, among}
use Rattle.mp_cursor.specs.Parsers.{Parser, ◌>>=◌, next_token}
use Rattle.mp_cursor.specs.Parsers as parser
use Rattle.mp_cursor.specs.Leaves.{signs}
use Rattle.mp_cursor.specs.LeafTokens.{constant_begins}
use Rattle.mp_cursor.proofs.NextSets.{apart_is, within_any}
use Rattle.mp_cursor.proofs.Recovery.{no_else, ends_token}
use Rattle.mp_cursor.proofs.RuleLaws.{Law, Same, law_pure, law_then, law_map, law_followed, law_begun, law_as, law_word, law_symbol, law_ends, symbol_only, next_is}
use Rattle.mp_cursor.proofs.SameRules.{same_refl, same_trans, same_sym, same_then, same_or, or_grouped, or_then, gives_first, behind_list}
use Rattle.mp_cursor.proofs.LeafLaws.{law_identifier, has_room, law_opened_word}
use Rattle.mp_cursor.proofs.ChoiceLaws.{law_branch, law_optional}
use Rattle.mp_cursor.proofs.ListLaws.{falls_last, Falls, falls_expect, falls_then, law_many_from}
use Rattle.mp_cursor.proofs.SeriesLaws.{law_series}
use Rattle.mp_cursor.proofs.ConstantLaws.{law_identifiers, law_sign, law_constant, law_constants}
use Rattle.mp_parse_type.specs.Types as p
use Rattle.mp_parse_type.specs.Types.{after_denoter}
use Rattle.mp_parse_type.proofs.Groupings.{Splits, law_split, regrouped, map_then, between, last_first}
use Rattle.mp_parse_type.proofs.LastLaws.{law_with_last}

-- ---- what begins and what may follow

abbrev name : Nexts
name = is next.Identifier

abbrev pub section_begins : Nexts
section_begins = is next.Identifier

abbrev pub simple_begins : Nexts
simple_begins = among (next.Identifier ∷ next.Number ∷ next.Text ∷ Symbol s.Plus ∷ Symbol s.Minus ∷ Symbol s.LeftParen ∷ [])

abbrev pub denoter_begins : Nexts
denoter_begins =
    among (next.Identifier ∷ next.Number ∷ next.Text ∷ Symbol s.Plus ∷ Symbol s.Minus ∷ Symbol s.LeftParen ∷ Symbol s.Caret ∷ Word w.Packed ∷
    Word w.Array ∷ Word w.Record ∷ Word w.Set ∷ Word w.File ∷ [])

abbrev pub fields_begin : Nexts
fields_begin = among (next.Identifier ∷ Word w.Case ∷ Word w.End ∷ Symbol s.RightParen ∷ [])

abbrev pub after_fields : Nexts
after_fields = among (Word w.End ∷ Symbol s.RightParen ∷ [])

-- ---- simple types

law_enumeration : Law true (is (Symbol s.LeftParen)) any p.enumeration g.enumeration
unfolding p.enumeration
law_enumeration = law_then (law_symbol s.LeftParen) refl (λ at. law_then law_identifiers refl (λ names. law_then (law_symbol s.RightParen) refl (λ end. law_pure _ any)))

-- what stands behind the first value of a subrange
abbrev subrange_from : Constant → Rule Denoter
subrange_from first = symbol s.DotDot >>ʳ d.Subrange first <$>ʳ leaf.constant

law_subrange_from : (first : Constant) → Law true (is (Symbol s.DotDot)) any (p.subrange_from first) (subrange_from first)
unfolding p.subrange_from
law_subrange_from first = law_then (law_symbol s.DotDot) refl (λ at. law_map (d.Subrange first) law_constant)

law_subrange : Law true constant_begins any p.subrange g.subrange
unfolding p.subrange
law_subrange = law_then law_constant refl law_subrange_from

-- the name of a type, or a subrange that begins with the name of a constant
abbrev named_type : Rule Denoter
named_type = leaf.identifier >>=ʳ (λ name. subrange_from (c.Name None name) <|>ʳ gives (d.Named name))

law_named_type : Law true name after_denoter p.named_type named_type
unfolding p.named_type
law_named_type =
    law_then law_identifier refl (λ name. law_branch (is (Symbol s.DotDot)) (law_followed after_denoter refl
    (law_subrange_from (c.Name None name))) refl refl (law_pure (d.Named name) after_denoter))

abbrev Named : Input → Constant → Input → Type 0
Named i first m = (name : Identifier) × leaf.identifier i name m × (c.Name None name ≡ first)

not_name : (k : TokenKind) (i : Input) (at : ℕ) (j : Input) → rule.token k i at j → name (class_of k) ≡ false → name (next_token i) ≡ false
not_name k i at j d e = ap name (next_is k i at j d) ∙ e

-- A constant is a name, or its first token is none.
signed_splits : (i : Input) (first : Constant) (m : Input) → leaf.signed_constant i first m → Named i first m ⊎ (name (next_token i) ≡ false)
signed_splits i first m u = by u.0 u.1 u.2 u.3
  where
    unsigned : (sign : _) (k : Input) → None ≡ sign → i ≡ k → (c.Number sign <$>ʳ leaf.number <|>ʳ c.Name sign <$>ʳ leaf.identifier) k first m →
        Named i first m ⊎ (name (next_token i) ≡ false)
    unsigned sign k e f (inl v) = inr (ap (λ l. name (next_token l)) f ∙ not_name (kind.Number v.0.value) k v.0.at v.1 v.2 refl)
    unsigned sign k e f (inr v) = inl (v.0, subst (λ l. leaf.identifier i v.0 l) v.3.1 (subst (λ l. leaf.identifier l v.0 v.1) (sym f) v.2), ap (λ z. c.Name z v.0) e ∙ v.3.0)

    by : (sign : _) (k : Input) → optional leaf.sign i sign k → (c.Number sign <$>ʳ leaf.number <|>ʳ c.Name sign <$>ʳ leaf.identifier) k first m →
        Named i first m ⊎ (name (next_token i) ≡ false)
    by sign k (inl v) b = inr (apart_is signs name refl (next_token i) (law_sign.begins i v.0 v.1 v.2 refl))
    by sign k (inr v) b = unsigned sign k v.0 v.1 b

constant_splits : (i : Input) (first : Constant) (m : Input) → leaf.constant i first m → Named i first m ⊎ (name (next_token i) ≡ false)
constant_splits i first m (inl u) = signed_splits i first m u
constant_splits i first m (inr u) = inr (not_name (kind.Text u.0.characters) i u.0.at u.1 u.2 refl)

simple_splits : Splits name named_type (g.enumeration <|>ʳ g.subrange) g.simple_type
simple_splits = record { to = to; first = λ i x j d. first i x j d.0 d.1 d.2 d.3; second = λ i x j d. inr d }
  where
    subrange : (i : Input) (x : Denoter) (j : Input) (first : Constant) (m : Input) → leaf.constant i first m → subrange_from first m x j →
        Named i first m ⊎ (name (next_token i) ≡ false) → named_type i x j ⊎ ((name (next_token i) ≡ false) × (g.enumeration <|>ʳ g.subrange) i x j)
    subrange i x j first m k v (inl n) = inl (n.0, m, n.1, inl (subst (λ z. subrange_from z m x j) (sym n.2) v))
    subrange i x j first m k v (inr e) = inr (e, inr (first, m, k, v))

    to : (i : Input) (x : Denoter) (j : Input) → g.simple_type i x j → named_type i x j ⊎ ((name (next_token i) ≡ false) × (g.enumeration <|>ʳ g.subrange) i x j)
    to i x j (inl u) = inl (u.0, u.1, u.2, inr u.3)
    to i x j (inr (inl u)) = inr (not_name (kind.Symbol s.LeftParen) i u.0 u.1 u.2 refl, inl u)
    to i x j (inr (inr u)) = subrange i x j u.0 u.1 u.2 u.3 (constant_splits i u.0 u.1 u.2)

    first : (i : Input) (x : Denoter) (j : Input) (n : Identifier) (m : Input) → leaf.identifier i n m →
        (subrange_from (c.Name None n) <|>ʳ gives (d.Named n)) m x j → g.simple_type i x j
    first i x j n m k (inl v) = inr (inr (c.Name None n, m, inl (None, i, inr (refl, refl), inr (n, m, k, (refl, refl))), v))
    first i x j n m k (inr v) = inl (n, m, k, v)

law_simple_type : Law true simple_begins after_denoter p.simple_type g.simple_type
unfolding p.simple_type
law_simple_type = law_begun simple_begins refl
    (law_split name law_named_type refl (law_branch (is (Symbol s.LeftParen)) (law_followed after_denoter refl law_enumeration) refl refl
    (law_followed after_denoter refl law_subrange)) simple_splits)

law_pointer_type : Law true (is (Symbol s.Caret)) any p.pointer_type g.pointer_type
unfolding p.pointer_type
law_pointer_type = law_then (law_symbol s.Caret) refl (λ at. law_map (d.Pointer at) law_identifier)

-- ---- the parts of structured types

abbrev an_index : ℕ → Denoter → Index Denoter
an_index at of = record { at = at; of = of }

-- index types, of which the first has this ordinal
abbrev index_types : ℕ → Rule (List (Index Denoter))
index_types at = g.simple_type >>=ʳ (λ of. (λ more. an_index at of ∷ more) <$>ʳ many g.further_index)

law_index_types : (at : ℕ) → Law true simple_begins (is (Symbol s.RightBracket)) (p.index_types at) (index_types at)
unfolding p.index_types p.further_index
law_index_types at =
    law_then law_simple_type refl (λ of.
    law_many_from (is (Symbol s.Comma)) (is (Symbol s.RightBracket))
    (law_then (law_symbol s.Comma) refl (λ at. law_map (an_index at) law_simple_type))
    (falls_then (falls_expect (kind.Symbol s.Comma) (symbol_only s.Comma)) (λ at. law_map (an_index at) law_simple_type)) refl refl refl refl refl (an_index at of ∷ []))

module _ {q : Parser Denoter} {r : Rule Denoter} (denoter : Law true denoter_begins after_denoter q r) where
  -- names of one type
  law_section_of : Law true name after_denoter (p.section q) (g.section r)
  unfolding p.section
  law_section_of = law_then law_identifiers refl (λ names. law_then (law_symbol s.Colon) refl (λ at. law_then denoter refl (λ of. law_pure _ after_denoter)))

-- variants, and perhaps one more `;`
abbrev variants : Rule Denoter → Rule (List (Variant Denoter))
variants fields = rule.separated (symbol s.Semicolon) (g.variant fields) >>=ʳ (λ found. optional (symbol s.Semicolon) >>ʳ gives found)

module _ {q : Parser Denoter} {r : Rule Denoter} (fields : Law true fields_begin after_fields q r) where
  law_variant : Law true constant_begins any (p.variant q) (g.variant r)
  unfolding p.variant
  law_variant =
      law_then law_constants refl (λ constants.
      law_then (law_symbol s.Colon) refl (λ colon.
      law_then (law_symbol s.LeftParen) refl (λ opening.
      law_then fields refl (λ found.
      law_then (law_symbol s.RightParen) refl (λ closing. law_pure _ any)))))

  law_variants : Law true constant_begins after_fields (p.variants q) (variants r)
  unfolding p.variants p.further_variant
  law_variants = law_series (kind.Symbol s.Semicolon) (symbol_only s.Semicolon) constant_begins after_fields law_variant refl refl refl refl refl

-- the name of a tag field, where there is one, and the type of the tag
abbrev tag : Rule (Option Identifier × Identifier)
tag = leaf.identifier >>=ʳ (λ name. (symbol s.Colon >>ʳ (λ of. (Some name, of)) <$>ʳ leaf.identifier) <|>ʳ gives (None, name))

law_tag : Law true name (is (Word w.Of)) p.tag tag
unfolding p.tag
law_tag =
    law_then law_identifier refl (λ name. law_branch (is (Symbol s.Colon)) (law_followed (is (Word w.Of)) refl
    (law_then (law_symbol s.Colon) refl (λ at. law_map _ law_identifier))) refl refl (law_pure (None, name) (is (Word w.Of))))

abbrev tag_of : Rule (Option Identifier × Identifier)
tag_of = optional g.tag_field >>=ʳ (λ tag. leaf.identifier >>=ʳ (λ of. gives (tag, of)))

abbrev Tag : Type 0
Tag = Option Identifier × Identifier

tag_same : Same tag tag_of
tag_same = record { to = λ i x j t. to i x j t.0 t.1 t.2 t.3; back = λ i x j t. back i x j t.0 t.1 t.2 t.3 }
  where
    to : (i : Input) (x : Tag) (j : Input) (n : Identifier) (m : Input) → leaf.identifier i n m →
        ((symbol s.Colon >>ʳ (λ of. (Some n, of)) <$>ʳ leaf.identifier) <|>ʳ gives (None, n)) m x j → tag_of i x j
    to i x j n m k (inl v) = (Some n, v.1, inl (n, v.1, (n, m, k, (v.0, v.1, v.2, (refl, refl))), (refl, refl)), v.3)
    to i x j n m k (inr v) = (None, i, inr (refl, refl), (n, m, k, v))

    back : (i : Input) (x : Tag) (j : Input) (t : Option Identifier) (m : Input) → optional g.tag_field i t m → (leaf.identifier >>=ʳ (λ of. gives (t, of))) m x j → tag i x j
    back i x j t m (inl u) v =
        let f = u.2 in
        let e = f.3 in (
          f.0,
          f.1,
          f.2,
          inl (
            e.0,
            e.1,
            e.2,
            (
              v.0,
              v.1,
              subst (λ l. leaf.identifier l v.0 v.1) (sym (e.3.1 ∙ u.3.1)) v.2,
              (ap (λ z. (z, v.0)) (ap Some e.3.0 ∙ u.3.0) ∙ v.3.0, v.3.1),
            ),
          ),
        )
    back i x j t m (inr u) v = (v.0, v.1, subst (λ l. leaf.identifier l v.0 v.1) (sym u.1) v.2, inr (ap (λ z. (z, v.0)) u.0 ∙ v.3.0, v.3.1))

-- the laws of what stands behind one more opener
pub record BehindLaws (q : p.Deeper) (r : g.Deeper) : Type 0 where
  pub denoter : Law true denoter_begins after_denoter q.denoter r.denoter
  pub field_list : Law true fields_begin after_fields q.field_list r.field_list

module _ (room : ℕ) (q : p.Deeper) (r : g.Deeper) (behind : (n : ℕ) → room ≡ suc n → BehindLaws q r) where
  -- ---- structured types

  -- behind `packed`, the opener stands already
  abbrev Opened : Option ℕ → Type 0
  Opened None = (n : ℕ) → room ≡ suc n → BehindLaws q r
  Opened (Some packed) = BehindLaws q r

  abbrev finishes : Option ℕ → Bool
  finishes None = has_room room
  finishes (Some packed) = true

  -- the word of a structure, and what stands behind it
  law_structured : {f h : Nexts} {t : ℕ → Parser Denoter} {u : ℕ → Rule Denoter} (packed : Option ℕ) (v : WordSymbol) → no_else (kind.Word v) ≡ true →
      Opened packed → (BehindLaws q r → (at : ℕ) → Law true f h (t at) (u at)) → Law (finishes packed) (is (Word v)) h
      (p.structure_word room q packed v >>= t) (g.structure_word room r packed v >>=ʳ u)
  unfolding p.structure_word
  law_structured None v other opened a = law_opened_word v other room (λ n e at. a (opened n e) at)
  law_structured {f = f} (Some packed) v other opened a = law_then (law_ends (λ granted. ends_token (kind.Word v) other) (law_word v)) (within_any f) (λ at. a opened at)

  law_array_type : (packed : Option ℕ) → Opened packed → Law (finishes packed) (is (Word w.Array)) after_denoter (p.array_type room q packed) (g.array_type room r packed)
  unfolding p.array_type
  law_array_type packed opened =
      law_structured packed w.Array refl opened (λ laws at.
      law_then (law_symbol s.LeftBracket) refl (λ opening.
      law_as (regrouped (λ of. map_then (λ more. an_index (p.first_of packed at) of ∷ more) _))
      (law_then (law_index_types (p.first_of packed at)) refl (λ indices.
      law_then (law_symbol s.RightBracket) refl (λ closing.
      law_then (law_word w.Of) refl (λ of. law_map (d.Array (p.first_of packed at) (p.is_packed packed) indices) laws.denoter))))))

  law_record_type : (packed : Option ℕ) → Opened packed → Law (finishes packed) (is (Word w.Record)) any (p.record_type room q packed) (g.record_type room r packed)
  unfolding p.record_type
  law_record_type packed opened =
      law_structured packed w.Record refl opened (λ laws at.
      law_then laws.field_list refl (λ fields. law_then (law_word w.End) refl (λ end. law_pure _ any)))

  law_set_type : (packed : Option ℕ) → Opened packed → Law (finishes packed) (is (Word w.Set)) after_denoter (p.set_type room q packed) (g.set_type room r packed)
  unfolding p.set_type
  law_set_type packed opened =
      law_structured packed w.Set refl opened (λ laws at. law_then (law_word w.Of) refl (λ of. law_map (d.Set (p.first_of packed at) (p.is_packed packed)) law_simple_type))

  law_file_type : (packed : Option ℕ) → Opened packed → Law (finishes packed) (is (Word w.File)) after_denoter (p.file_type room q packed) (g.file_type room r packed)
  unfolding p.file_type
  law_file_type packed opened =
      law_structured packed w.File refl opened (λ laws at. law_then (law_word w.Of) refl (λ of. law_map (d.File (p.first_of packed at) at) laws.denoter))

  law_structure : (packed : Option ℕ) → Opened packed → Law (finishes packed) p.structure_words after_denoter (p.structure room q packed) (g.structure room r packed)
  unfolding p.structure
  law_structure packed opened = law_begun p.structure_words refl
      (law_branch (is (Word w.Array)) (law_array_type packed opened) refl refl
      (law_branch (is (Word w.Record)) (law_followed after_denoter refl (law_record_type packed opened)) refl refl
      (law_branch (is (Word w.Set)) (law_set_type packed opened) refl refl (law_file_type packed opened))))

  law_packed_structure : Law (has_room room) (is (Word w.Packed)) after_denoter (p.packed_structure room q) (g.packed_structure room r)
  unfolding p.packed_structure
  law_packed_structure = law_opened_word w.Packed refl room (λ n e at. law_structure (Some at) (behind n e))

  law_denoter_with : Law true denoter_begins after_denoter (p.denoter_with room q) (g.denoter_with room r)
  unfolding p.denoter_with
  law_denoter_with = law_begun denoter_begins refl (law_as (last_first _ _ _ _)
      (law_branch (is (Symbol s.Caret)) (law_followed after_denoter refl law_pointer_type) refl refl
      (law_branch p.structure_words (law_structure None behind) refl refl
      (law_branch (is (Word w.Packed)) law_packed_structure refl refl law_simple_type))))

  -- ---- variant parts

  -- with perhaps a `;` behind it
  abbrev and_semicolon : {A : Type 0} → A → Rule A
  and_semicolon x = optional (symbol s.Semicolon) >>ʳ gives x

  abbrev a_part : ℕ → Tag → List (Variant Denoter) → VariantPart Denoter
  a_part at tag variants = record { at = at; tag = tag.0; of = tag.1; variants = variants }

  abbrev variant_part : Rule (VariantPart Denoter)
  variant_part = g.variant_part room r >>=ʳ and_semicolon

  abbrev behind_tag : ℕ → Tag → Rule (VariantPart Denoter)
  behind_tag at tag = word w.Of >>ʳ (variants r.field_list >>=ʳ (λ found. gives (a_part at tag found)))

  -- the variants, behind the tag
  variants_same : (at : ℕ) (tag : Tag) → Same (behind_tag at tag) ((word w.Of >>ʳ (rule.separated (symbol s.Semicolon) (g.variant r.field_list) >>=ʳ
      (λ found. gives (a_part at tag found)))) >>=ʳ and_semicolon)
  variants_same at tag = same_trans
      (same_then (same_refl (word w.Of)) (λ of. behind_list _ (optional (symbol s.Semicolon)) (λ found. gives (a_part at tag found))))
      (same_sym (regrouped (λ of. regrouped (λ found. gives_first (a_part at tag found) and_semicolon))))

  part_same : Same (rule.opener room (kind.Word w.Case) >>=ʳ (λ at. tag >>=ʳ behind_tag at)) variant_part
  part_same = same_sym (regrouped (λ at. same_trans
      (regrouped (λ tag. regrouped (λ of. same_sym (variants_same at (tag, of)))))
      (same_sym (same_trans (same_then tag_same (λ tag. same_refl (behind_tag at tag))) (regrouped (λ tag. regrouped (λ of. gives_first (tag, of) (behind_tag at))))))))

  law_variant_part : Law (has_room room) (is (Word w.Case)) after_fields (p.variant_part room q) variant_part
  unfolding p.variant_part
  law_variant_part = law_as part_same
      (law_opened_word w.Case refl room (λ n e at.
      law_then law_tag refl (λ tag.
      law_then (law_word w.Of) refl (λ of.
      law_then (law_variants (behind n e).field_list) refl (λ found. law_pure (a_part at tag found) after_fields)))))

  law_optional_part : Law true (either (is (Word w.Case)) after_fields) after_fields (parser.optional (is (Word w.Case)) (p.variant_part room q)) (optional variant_part)
  law_optional_part = law_optional (is (Word w.Case)) after_fields law_variant_part refl refl

  -- ---- field lists

  abbrev part : Type 0
  part = Option (VariantPart Denoter)

  -- behind the sections: a variant part behind a `;`, and perhaps one more `;`
  abbrev last_part : Rule part
  last_part = optional (symbol s.Semicolon >>ʳ g.variant_part room r) >>=ʳ and_semicolon

  -- the same, as the parser finds it
  abbrev ending : Rule part
  ending = (symbol s.Semicolon >>ʳ optional variant_part) <|>ʳ gives None

  ending_same : Same ending last_part
  ending_same = record { to = to; back = λ i x j u. back i x j u.0 u.1 u.2 u.3 }
    where
      to_last : (i : Input) (x : part) (j : Input) (at : ℕ) (m : Input) → symbol s.Semicolon i at m → optional variant_part m x j → last_part i x j
      to_last i x j at m k (inl u) =
          let v = u.2 in
          let o = v.3 in
          (Some v.0, v.1, inl (v.0, v.1, (at, m, k, v.2), (refl, refl)), (o.0, o.1, o.2, (ap Some o.3.0 ∙ u.3.0, o.3.1 ∙ u.3.1)))
      to_last i x j at m k (inr u) = (None, i, inr (refl, refl), (Some at, m, inl (at, m, k, (refl, refl)), u))

      to : (i : Input) (x : part) (j : Input) → ending i x j → last_part i x j
      to i x j (inl u) = to_last i x j u.0 u.1 u.2 u.3
      to i x j (inr u) = (None, i, inr (refl, refl), (None, i, inr (refl, refl), u))

      -- no variant part: a `;` alone, or nothing
      back_none : (i : Input) (x : part) (j : Input) (at : Option ℕ) (m : Input) → optional (symbol s.Semicolon) i at m → None ≡ x → m ≡ j → ending i x j
      back_none i x j at m (inl u) e f = inl (u.0, u.1, u.2, inr (e, u.3.1 ∙ f))
      back_none i x j at m (inr u) e f = inr (e, u.1 ∙ f)

      back : (i : Input) (x : part) (j : Input) (y : part) (m : Input) → optional (symbol s.Semicolon >>ʳ g.variant_part room r) i y m → and_semicolon y m x j → ending i x j
      back i x j y m (inl u) v =
          let k = u.2 in
          inl (
            k.0,
            k.1,
            k.2,
            inl (
              u.0,
              v.1,
              (
                u.0,
                u.1,
                k.3,
                (
                  v.0,
                  v.1,
                  subst (λ l. optional (symbol s.Semicolon) l v.0 v.1) (sym u.3.1) v.2,
                  (refl, refl),
                ),
              ),
              (u.3.0 ∙ v.3.0, v.3.1),
            ),
          )
      back i x j y m (inr u) v = back_none i x j v.0 v.1 (subst (λ l. optional (symbol s.Semicolon) l v.0 v.1) (sym u.1) v.2) (u.0 ∙ v.3.0) v.3.1

  abbrev one_section : Rule (Section Denoter)
  one_section = g.section (g.denoter_with room r)

  abbrev more_sections : Rule (List (Section Denoter))
  more_sections = many (symbol s.Semicolon >>ʳ one_section)

  law_fixed_fields : Law true name after_fields (p.fixed_fields room q) (one_section >>=ʳ (λ first.
      more_sections >>=ʳ (λ more. ending >>=ʳ (λ part. gives (d.Fields (first ∷ more) part)))))
  unfolding p.fixed_fields p.further_section
  law_fixed_fields = law_then (law_section_of law_denoter_with) refl (λ first.
      law_with_last (kind.Symbol s.Semicolon) (symbol_only s.Semicolon) name after_fields d.Fields None
      (law_section_of law_denoter_with) law_optional_part refl refl refl refl refl (first ∷ []))

  -- a variant part behind a `;`, where there is one
  abbrev semicolon_part : Rule part
  semicolon_part = optional (symbol s.Semicolon >>ʳ g.variant_part room r)

  abbrev behind_sections : List (Section Denoter) → Rule Denoter
  behind_sections fixed = semicolon_part >>=ʳ (λ part. and_semicolon (d.Fields fixed part))

  sections_same : (fixed : List (Section Denoter)) → Same (ending >>=ʳ (λ part. gives (d.Fields fixed part))) (behind_sections fixed)
  sections_same fixed = same_trans
      (same_then ending_same (λ part. same_refl (gives (d.Fields fixed part))))
      (regrouped (λ part. between (optional (symbol s.Semicolon)) part (λ part. gives (d.Fields fixed part))))

  fixed_same : Same (one_section >>=ʳ (λ first. more_sections >>=ʳ (λ more. ending >>=ʳ (λ part. gives (d.Fields (first ∷ more) part)))))
      (g.fixed_fields room r >>=ʳ and_semicolon)
  fixed_same = same_trans
      (same_then (same_refl one_section) (λ first. same_then (same_refl more_sections) (λ more. sections_same (first ∷ more))))
      (same_sym (same_trans
      (regrouped (λ fixed. regrouped (λ part. gives_first (d.Fields fixed part) and_semicolon)))
      (regrouped (λ first. map_then (λ more. first ∷ more) behind_sections))))

  abbrev no_sections : part → Denoter
  no_sections part = d.Fields [] part

  last_same : Same (no_sections <$>ʳ optional variant_part) ((g.variant_fields room r >>=ʳ and_semicolon) <|>ʳ gives (d.Fields [] None))
  last_same = same_trans
      (or_then (Some <$>ʳ variant_part) (gives None) (λ part. gives (no_sections part)))
      (same_or
      (same_trans
      (map_then Some (λ part. gives (no_sections part)))
      (same_trans
      (regrouped (λ part. between (optional (symbol s.Semicolon)) part (λ part. gives (no_sections (Some part)))))
      (same_sym (regrouped (λ part. gives_first (no_sections (Some part)) and_semicolon)))))
      (gives_first None (λ part. gives (no_sections part))))

  fields_same : Same ((g.fixed_fields room r >>=ʳ and_semicolon) <|>ʳ ((g.variant_fields room r >>=ʳ and_semicolon) <|>ʳ gives (d.Fields [] None))) (g.field_list_with room r)
  fields_same =
      same_trans (same_sym (or_grouped _ _ _)) (same_or (same_sym (or_then (g.fixed_fields room r) (g.variant_fields room r) and_semicolon))
      (same_refl (gives (d.Fields [] None))))

  law_field_list_with : Law true fields_begin after_fields (p.field_list_with room q) (g.field_list_with room r)
  unfolding p.field_list_with
  law_field_list_with =
      law_begun fields_begin refl (law_as fields_same (law_branch name (law_as fixed_same law_fixed_fields) refl refl (law_as last_same (law_map no_sections law_optional_part))))

-- ---- the parsers, where so many more openers may stand open

abbrev a_section : List Identifier → Denoter → Section Denoter
a_section names of = record { names = names; of = of }

law_behind : (room n : ℕ) → room ≡ suc n → BehindLaws (p.behind room) (g.behind room)
unfolding p.behind g.behind
law_behind zero n e = absurd (let z : ⊥ = cc in z)
law_behind (suc room) n e = record {
  denoter = law_denoter_with room (p.behind room) (g.behind room) (law_behind room);
  field_list = law_field_list_with room (p.behind room) (g.behind room) (law_behind room);
}

-- a type denoter
pub law_denoter : (room : ℕ) → Law true denoter_begins after_denoter (p.denoter room) (g.denoter room)
law_denoter room = law_denoter_with room (p.behind room) (g.behind room) (law_behind room)

-- names of one type
pub law_section : (room : ℕ) → Law true section_begins after_denoter (p.section (p.denoter room)) (g.section (g.denoter room))
law_section room = law_section_of (law_denoter room)

pub falls_section : (room : ℕ) → Falls (p.section (p.denoter room))
unfolding p.section
falls_section room =
    falls_last law_identifiers (λ names. falls_then (falls_expect (kind.Symbol s.Colon) (symbol_only s.Colon))
    (λ at. law_then (law_denoter room) refl (λ of. law_pure (a_section names of) after_denoter)))
