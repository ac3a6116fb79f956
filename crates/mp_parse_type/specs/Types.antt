-- Parsers of type denoters, which no statement outside names: `laws` says by the grammar what they read.
use Rattle.std.specs.Prelude.{◌<◌, ℕ, zero, suc, Bool, true, false, List, [], ◌∷◌, Option, Some, None}
use Rattle.mp_ast.specs.declared.words.WordSymbol.{WordSymbol}
use Rattle.mp_ast.specs.declared.words.WordSymbol.TheVariants as w
use Rattle.mp_ast.specs.declared.symbols.Symbol.TheVariants as s
use Rattle.mp_ast.specs.declared.leaves.Identifier.{Identifier}
use Rattle.mp_ast.specs.declared.leaves.Constant.{Constant}
use Rattle.mp_ast.specs.declared.leaves.Constant.TheVariants as c
use Rattle.mp_ast.specs.declared.types.Index.{Index}
use Rattle.mp_ast.specs.declared.types.Section.{Section}
use Rattle.mp_ast.specs.declared.types.Variant.{Variant}
use Rattle.mp_ast.specs.declared.types.VariantPart.{VariantPart}
use Rattle.mp_ast.specs.declared.types.Denoter.{Denoter}
use Rattle.mp_ast.specs.declared.types.Denoter.TheVariants as d
use Rattle.mp_cursor.specs.declared.next.Next.{Next}
use Rattle.mp_cursor.specs.declared.next.Next.TheVariants as next
use Rattle.mp_cursor.specs.declared.next.Next.TheVariants.{Word, Symbol}
use Rattle.mp_cursor.specs.Nexts.{Nexts, is, among, but}
use Rattle.mp_cursor.specs.Parsers.{Parser, ◌>>=◌, ◌>>◌, ◌<$>◌, pure, refuse, branch, expect, opening, identifier, repeated, repeated_series, and_one, left, optional}
use Rattle.mp_cursor.specs.Leaves.{identifiers, constant, constants}
use Rattle.mp_cursor.specs.LeafTokens.{constant_begins}

-- ---- lists that end with something else

-- goes on behind a separator before such a token, and behind a separator before another token reads what is last; at
-- most so many times
unfoldable pub series_and_last : {A B : Type 0} → Next → Nexts → (A → Parser A) → (A → Parser B) → (A → B) → ℕ → A → Parser B
series_and_last separator f turn last whole zero found = pure (whole found)
series_and_last separator f turn last whole (suc n) found =
    branch (is separator) (expect separator >> branch f (turn found >>= series_and_last separator f turn last whole n) (last found)) (pure (whole found))

-- the same as long as there are tokens
unfoldable pub repeated_and_last : {A B : Type 0} → Next → Nexts → (A → Parser A) → (A → Parser B) → (A → B) → A → Parser B
repeated_and_last separator f turn last whole found = λ i. series_and_last separator f turn last whole (left i) found i

-- ---- simple types and pointer types

unfoldable pub enumeration : Parser Denoter
enumeration = do
  at ← expect (Symbol s.LeftParen)
  names ← identifiers
  expect (Symbol s.RightParen)
  pure (d.Enumeration at names)

-- a subrange, behind its first value
unfoldable pub subrange_from : Constant → Parser Denoter
subrange_from first = do
  expect (Symbol s.DotDot)
  d.Subrange first <$> constant

unfoldable pub subrange : Parser Denoter
subrange = constant >>= subrange_from

-- the name of a type, or a subrange that begins with the name of a constant
unfoldable pub named_type : Parser Denoter
named_type = do
  name ← identifier
  branch (is (Symbol s.DotDot)) (subrange_from (c.Name None name)) (pure (d.Named name))

unfoldable pub simple_type : Parser Denoter
simple_type = branch (is next.Identifier) named_type (branch (is (Symbol s.LeftParen)) enumeration subrange)

unfoldable pub pointer_type : Parser Denoter
pointer_type = do
  at ← expect (Symbol s.Caret)
  d.Pointer at <$> identifier

-- ---- the parts of structured types

unfoldable pub further_index : List (Index Denoter) → Parser (List (Index Denoter))
further_index = and_one (expect (Symbol s.Comma) >>= (λ at. (λ of. record { at = at; of = of }) <$> simple_type))

abbrev pub further_indices : List (Index Denoter) → Parser (List (Index Denoter))
further_indices = repeated (is (Symbol s.Comma)) further_index

-- index types with commas between them; the first one has this ordinal
unfoldable pub index_types : ℕ → Parser (List (Index Denoter))
index_types at = do
  of ← simple_type
  further_indices (record { at = at; of = of } ∷ [])

unfoldable pub section : Parser Denoter → Parser (Section Denoter)
section denoter = do
  names ← identifiers
  expect (Symbol s.Colon)
  of ← denoter
  pure (record { names = names; of = of })

unfoldable pub variant : Parser Denoter → Parser (Variant Denoter)
variant fields = do
  constants ← constants
  expect (Symbol s.Colon)
  expect (Symbol s.LeftParen)
  found ← fields
  expect (Symbol s.RightParen)
  pure (record { constants = constants; fields = found })

unfoldable pub further_variant : Parser Denoter → List (Variant Denoter) → Parser (List (Variant Denoter))
further_variant fields = and_one (variant fields)

abbrev pub further_variants : Parser Denoter → List (Variant Denoter) → Parser (List (Variant Denoter))
further_variants fields = repeated_series (Symbol s.Semicolon) constant_begins (further_variant fields)

-- variants with `;` between them, and perhaps one more `;`
unfoldable pub variants : Parser Denoter → Parser (List (Variant Denoter))
variants fields = do
  first ← variant fields
  further_variants fields (first ∷ [])

-- the name of a tag field, where there is one, and the type of the tag
unfoldable pub tag : Parser (Option Identifier × Identifier)
tag = do
  name ← identifier
  branch (is (Symbol s.Colon)) (expect (Symbol s.Colon) >> ((λ of. (Some name, of)) <$> identifier)) (pure (None, name))

-- what stands behind one more opener
pub record Deeper : Type 0 where
  pub denoter : Parser Denoter
  pub field_list : Parser Denoter

abbrev pub is_packed : Option ℕ → Bool
is_packed None = false
is_packed (Some packed) = true

abbrev pub first_of : Option ℕ → ℕ → ℕ
first_of None at = at
first_of (Some packed) at = packed

-- behind `packed`, one more opener stands open
abbrev pub HasOpened : Option ℕ → ℕ → Type 0
HasOpened None room = Unit {0}
HasOpened (Some packed) room = 0 < room

abbrev pub structure_words : Nexts
structure_words = among (Word w.Array ∷ Word w.Record ∷ Word w.Set ∷ Word w.File ∷ [])

module _ (room : ℕ) (behind : Deeper) where
  -- ---- structured types

  -- the word of a structure, which opens where no `packed` stands before it
  unfoldable pub structure_word : Option ℕ → WordSymbol → Parser ℕ
  structure_word None word = opening room (Word word)
  structure_word (Some packed) word = expect (Word word)

  unfoldable pub array_type : Option ℕ → Parser Denoter
  array_type packed = do
    at ← structure_word packed w.Array
    expect (Symbol s.LeftBracket)
    indices ← index_types (first_of packed at)
    expect (Symbol s.RightBracket)
    expect (Word w.Of)
    d.Array (first_of packed at) (is_packed packed) indices <$> behind.denoter

  unfoldable pub record_type : Option ℕ → Parser Denoter
  record_type packed = do
    at ← structure_word packed w.Record
    fields ← behind.field_list
    expect (Word w.End)
    pure (d.Record (first_of packed at) (is_packed packed) fields)

  unfoldable pub set_type : Option ℕ → Parser Denoter
  set_type packed = do
    at ← structure_word packed w.Set
    expect (Word w.Of)
    d.Set (first_of packed at) (is_packed packed) <$> simple_type

  unfoldable pub file_type : Option ℕ → Parser Denoter
  file_type packed = do
    at ← structure_word packed w.File
    expect (Word w.Of)
    d.File (first_of packed at) at <$> behind.denoter

  unfoldable pub structure : Option ℕ → Parser Denoter
  structure packed =
      branch (is (Word w.Array)) (array_type packed) (branch (is (Word w.Record)) (record_type packed) (branch (is (Word w.Set)) (set_type packed) (file_type packed)))

  unfoldable pub packed_structure : Parser Denoter
  packed_structure = do
    at ← opening room (Word w.Packed)
    structure (Some at)

  unfoldable pub denoter_with : Parser Denoter
  denoter_with =
      branch (is (Symbol s.Caret)) pointer_type
      (branch structure_words (structure None) (branch (is (Word w.Packed)) packed_structure simple_type))

  -- ---- field lists

  -- a variant part, and perhaps a `;` behind it
  unfoldable pub variant_part : Parser (VariantPart Denoter)
  variant_part = do
    at ← opening room (Word w.Case)
    tag ← tag
    expect (Word w.Of)
    variants ← variants behind.field_list
    pure (record { at = at; tag = tag.0; of = tag.1; variants = variants })

  unfoldable pub further_section : List (Section Denoter) → Parser (List (Section Denoter))
  further_section = and_one (section denoter_with)

  abbrev pub last_fields : List (Section Denoter) → Parser Denoter
  last_fields found = d.Fields found <$> optional (is (Word w.Case)) variant_part

  abbrev pub further_fields : List (Section Denoter) → Parser Denoter
  further_fields = repeated_and_last (Symbol s.Semicolon) (is next.Identifier) further_section last_fields (λ found. d.Fields found None)

  unfoldable pub fixed_fields : Parser Denoter
  fixed_fields = do
    first ← section denoter_with
    further_fields (first ∷ [])

  unfoldable pub field_list_with : Parser Denoter
  field_list_with = branch (is next.Identifier) fixed_fields (last_fields [])

unfoldable pub behind : ℕ → Deeper
behind zero = record { denoter = refuse; field_list = refuse }
behind (suc room) = record { denoter = denoter_with room (behind room); field_list = field_list_with room (behind room) }

-- ---- the parsers, where so many more openers may stand open

abbrev pub denoter : ℕ → Parser Denoter
denoter room = denoter_with room (behind room)

abbrev pub field_list : ℕ → Parser Denoter
field_list room = field_list_with room (behind room)

-- ---- what may follow

-- the tokens that may follow a type denoter: `..` goes on with a type's name, which is a constant's then
abbrev pub after_denoter : Nexts
after_denoter = but (Symbol s.DotDot ∷ [])
