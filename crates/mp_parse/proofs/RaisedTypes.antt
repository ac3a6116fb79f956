-- Parsers of type denoters under higher limits.
use Rattle.std.proofs.Common.{◌≡◌, ℕ, zero, suc, false, List, [], Option, Some, None, refl}
use Rattle.mp_ast.specs.declared.words.WordSymbol.{WordSymbol}
use Rattle.mp_ast.specs.declared.words.WordSymbol.TheVariants as w
use Rattle.mp_ast.specs.declared.symbols.Symbol.TheVariants as s
use Rattle.mp_ast.specs.declared.leaves.Constant.{Constant}
use Rattle.mp_ast.specs.declared.types.Section.{Section}
use Rattle.mp_ast.specs.declared.types.Denoter.{Denoter}
use Rattle.mp_cursor.specs.declared.next.Next.{Next}
use Rattle.mp_cursor.specs.declared.next.Next.TheVariants.{Word, Symbol}
use Rattle.mp_cursor.specs.declared.next.Next.TheVariants as next
use Rattle.mp_cursor.specs.Nexts.{Nexts, is}
use Rattle.mp_cursor.specs.Parsers.{Parser, ◌>>=◌, left}
use Rattle.mp_parse_type.specs.Types as p
use Rattle.mp_parse.proofs.Raised.{Counting, Raises, Limit, Behind, raised_pure, raised_refuse, raised_expect, raised_identifier, raised_then}
use Rattle.mp_parse.proofs.Raised.{raised_map, raised_branch, raised_optional, raised_repeated, raised_series, raised_identifiers, raised_constant}
use Rattle.mp_parse.proofs.Raised.{raised_constants, raised_granted, raised_never, raised_refused, raised_opened, less, no_room, not_higher}

module _ {Same Higher More : Type 0} {count : Counting} {G : Type 0} where
  -- ---- lists that end with something else

  module _ {A B : Type 0} (separator : Next) (f : Nexts) {turn turn' : A → Parser A} {last last' : A → Parser B} (whole : A → B)
      (a : (x : A) → Raises Same Higher More count G (turn x) (turn' x)) (l : (x : A) → Raises Same Higher More count G (last x) (last' x)) where
    raised_series_and_last : (n : ℕ) (found : A) → Raises Same Higher More count G (p.series_and_last separator f turn last whole n found)
        (p.series_and_last separator f turn' last' whole n found)
    unfolding p.series_and_last
    raised_series_and_last zero found = raised_pure
    raised_series_and_last (suc n) found =
        raised_branch (is separator) (raised_then (raised_expect _) (λ at. raised_branch f (raised_then (a found) (λ x. raised_series_and_last n x)) (l found))) raised_pure

    raised_and_last_from : (found : A) → Raises Same Higher More count G (p.repeated_and_last separator f turn last whole found)
        (p.repeated_and_last separator f turn' last' whole found)
    unfolding p.repeated_and_last left
    raised_and_last_from found = record {
      inside = λ i. (raised_series_and_last (left i) found).inside i;
      raised = λ g i other e s few. (raised_series_and_last (left i) found).raised g i other e s few;
    }

  raised_and_last : {A B : Type 0} (separator : Next) (f : Nexts) {turn turn' : A → Parser A} {last last' : A → Parser B} (whole : A → B)
      (found : A) → ((x : A) → Raises Same Higher More count G (turn x) (turn' x)) → ((x : A) → Raises Same Higher More count G (last x) (last' x))
      → Raises Same Higher More count G (p.repeated_and_last separator f turn last whole found) (p.repeated_and_last separator f turn' last' whole found)
  raised_and_last separator f whole found a l = raised_and_last_from separator f whole a l found

  -- ---- simple types and pointer types

  raised_subrange_from : (first : Constant) → Raises Same Higher More count G (p.subrange_from first) (p.subrange_from first)
  unfolding p.subrange_from
  raised_subrange_from first = raised_then (raised_expect _) (λ at. raised_map _ raised_constant)

  raised_simple_type : Raises Same Higher More count G p.simple_type p.simple_type
  unfolding p.simple_type p.named_type p.enumeration p.subrange
  raised_simple_type =
      raised_branch (is next.Identifier) (raised_then raised_identifier (λ name. raised_branch (is (Symbol s.DotDot)) (raised_subrange_from _) raised_pure))
      (raised_branch (is (Symbol s.LeftParen)) (raised_then (raised_expect _) (λ at. raised_then raised_identifiers (λ names. raised_then (raised_expect _) (λ z. raised_pure))))
      (raised_then raised_constant raised_subrange_from))

  raised_pointer : Raises Same Higher More count G p.pointer_type p.pointer_type
  unfolding p.pointer_type
  raised_pointer = raised_then (raised_expect _) (λ at. raised_map _ raised_identifier)

  -- ---- the parts of structured types

  raised_index_types : (at : ℕ) → Raises Same Higher More count G (p.index_types at) (p.index_types at)
  unfolding p.index_types p.further_index
  raised_index_types at =
      raised_then raised_simple_type (λ of. raised_repeated _ _ (λ found. raised_map _ (raised_then (raised_expect _) (λ at. raised_map _ raised_simple_type))))

  pub raised_section : {d e : Parser Denoter} → Raises Same Higher More count G d e → Raises Same Higher More count G (p.section d) (p.section e)
  unfolding p.section
  raised_section a = raised_then raised_identifiers (λ names. raised_then (raised_expect _) (λ z. raised_then a (λ of. raised_pure)))

  raised_variant : {d e : Parser Denoter} → Raises Same Higher More count G d e → Raises Same Higher More count G (p.variant d) (p.variant e)
  unfolding p.variant
  raised_variant a =
      raised_then raised_constants (λ constants. raised_then (raised_expect _) (λ z. raised_then (raised_expect _)
      (λ z. raised_then a (λ found. raised_then (raised_expect _) (λ z. raised_pure)))))

  raised_variants : {d e : Parser Denoter} → Raises Same Higher More count G d e → Raises Same Higher More count G (p.variants d) (p.variants e)
  unfolding p.variants p.further_variant
  raised_variants a = raised_then (raised_variant a) (λ first. raised_series _ _ _ (λ found. raised_map _ (raised_variant a)))

  raised_tag : Raises Same Higher More count G p.tag p.tag
  unfolding p.tag
  raised_tag = raised_then raised_identifier (λ name. raised_branch (is (Symbol s.Colon)) (raised_then (raised_expect _) (λ at. raised_map _ raised_identifier)) raised_pure)

-- what stands behind one more opener
record DeeperRaises (Same Higher More : Type 0) (count : Counting) (G : Type 0) (b c : p.Deeper) : Type 0 where
  pub denoter : Raises Same Higher More count G b.denoter c.denoter
  pub field_list : Raises Same Higher More count G b.field_list c.field_list

module _ {Same Higher More : Type 0} {count : Counting} (room high : ℕ) (b c : p.Deeper) (d : DeeperRaises Same Higher More count (Behind Same Higher room high) b c) where
  -- what must be granted of the limits, behind `packed` and where none stands
  abbrev Opened : Option ℕ → Type 0
  Opened None = Limit Same Higher room high
  Opened (Some at) = Behind Same Higher room high

  -- ---- structured types

  -- the word of a structure opens where no `packed` stands before it; then what follows stands behind one more opener
  raised_word : {B : Type 0} {q q' : ℕ → Parser B} (packed : Option ℕ) (word : WordSymbol) → is (Word word) next.End ≡ false →
      ((at : ℕ) → Raises Same Higher More count (Behind Same Higher room high) (q at) (q' at))
      → Raises Same Higher More count (Opened packed) (p.structure_word room b packed word >>= q) (p.structure_word high c packed word >>= q')
  unfolding p.structure_word
  raised_word None word end a = raised_opened (Word word) end room high a
  raised_word (Some at) word end a = raised_then (raised_expect _) a

  raised_array : (packed : Option ℕ) → Raises Same Higher More count (Opened packed) (p.array_type room b packed) (p.array_type high c packed)
  unfolding p.array_type
  raised_array packed =
      raised_word packed w.Array refl (λ at. raised_then (raised_expect _) (λ z. raised_then (raised_index_types _) (λ indices.
      raised_then (raised_expect _) (λ z. raised_then (raised_expect _) (λ z. raised_map _ d.denoter)))))

  raised_record : (packed : Option ℕ) → Raises Same Higher More count (Opened packed) (p.record_type room b packed) (p.record_type high c packed)
  unfolding p.record_type
  raised_record packed = raised_word packed w.Record refl (λ at. raised_then d.field_list (λ fields. raised_then (raised_expect _) (λ z. raised_pure)))

  raised_set : (packed : Option ℕ) → Raises Same Higher More count (Opened packed) (p.set_type room b packed) (p.set_type high c packed)
  unfolding p.set_type
  raised_set packed = raised_word packed w.Set refl (λ at. raised_then (raised_expect _) (λ z. raised_map _ raised_simple_type))

  raised_file : (packed : Option ℕ) → Raises Same Higher More count (Opened packed) (p.file_type room b packed) (p.file_type high c packed)
  unfolding p.file_type
  raised_file packed = raised_word packed w.File refl (λ at. raised_then (raised_expect _) (λ z. raised_map _ d.denoter))

  raised_structure : (packed : Option ℕ) → Raises Same Higher More count (Opened packed) (p.structure room b packed) (p.structure high c packed)
  unfolding p.structure
  raised_structure packed =
      raised_branch (is (Word w.Array)) (raised_array packed) (raised_branch (is (Word w.Record)) (raised_record packed)
      (raised_branch (is (Word w.Set)) (raised_set packed) (raised_file packed)))

  raised_packed : Raises Same Higher More count (Limit Same Higher room high) (p.packed_structure room b) (p.packed_structure high c)
  unfolding p.packed_structure
  raised_packed = raised_opened (Word w.Packed) refl room high (λ at. raised_structure (Some at))

  raised_denoter_with : Raises Same Higher More count (Limit Same Higher room high) (p.denoter_with room b) (p.denoter_with high c)
  unfolding p.denoter_with
  raised_denoter_with =
      raised_branch (is (Symbol s.Caret)) raised_pointer (raised_branch p.structure_words (raised_structure None)
      (raised_branch (is (Word w.Packed)) raised_packed raised_simple_type))

  -- ---- field lists

  raised_variant_part : Raises Same Higher More count (Limit Same Higher room high) (p.variant_part room b) (p.variant_part high c)
  unfolding p.variant_part
  raised_variant_part =
      raised_opened (Word w.Case) refl room high (λ at. raised_then raised_tag (λ tag. raised_then (raised_expect _)
      (λ z. raised_then (raised_variants d.field_list) (λ variants. raised_pure))))

  raised_last_fields : (found : List (Section Denoter)) → Raises Same Higher More count (Limit Same Higher room high) (p.last_fields room b found) (p.last_fields high c found)
  raised_last_fields found = raised_map _ (raised_optional (is (Word w.Case)) raised_variant_part)

  raised_field_list_with : Raises Same Higher More count (Limit Same Higher room high) (p.field_list_with room b) (p.field_list_with high c)
  unfolding p.field_list_with p.fixed_fields p.further_section
  raised_field_list_with =
      raised_branch (is next.Identifier) (raised_then (raised_section raised_denoter_with) (λ first.
      raised_and_last _ _ _ _ (λ found. raised_map _ (raised_section raised_denoter_with)) raised_last_fields))
      (raised_last_fields [])

-- ---- what stands behind one more opener, of any limits

module _ {Same Higher More : Type 0} {count : Counting} where
  behind_raises : (high room : ℕ) → DeeperRaises Same Higher More count (Behind Same Higher room high) (p.behind room) (p.behind high)
  unfolding p.behind
  behind_raises zero zero = record { denoter = raised_refuse; field_list = raised_refuse }
  behind_raises zero (suc room) = record {
    denoter = raised_refused (not_higher (suc room));
    field_list = raised_refused (not_higher (suc room));
  }
  behind_raises (suc high) zero = record {
    denoter = raised_never (no_room (suc high)) (raised_denoter_with high high (p.behind high) (p.behind high) (behind_raises high high));
    field_list = raised_never (no_room (suc high)) (raised_field_list_with high high (p.behind high) (p.behind high) (behind_raises high high));
  }
  behind_raises (suc high) (suc room) = record {
    denoter = raised_granted (less room high) (raised_denoter_with room high (p.behind room) (p.behind high) (behind_raises high room));
    field_list = raised_granted (less room high) (raised_field_list_with room high (p.behind room) (p.behind high) (behind_raises high room));
  }

  pub raised_denoter : (room high : ℕ) → Raises Same Higher More count (Limit Same Higher room high) (p.denoter room) (p.denoter high)
  raised_denoter room high = raised_denoter_with room high (p.behind room) (p.behind high) (behind_raises high room)
