-- Type denoters (ISO 7185, 6.4).
use Rattle.std.specs.Prelude.{ℕ, zero, suc, Bool, true, false, List, [], ◌∷◌, Option, Some, None}
use Rattle.mp_ast.specs.declared.tokens.TokenKind.TheVariants.{Word}
use Rattle.mp_ast.specs.declared.words.WordSymbol.{WordSymbol}
use Rattle.mp_ast.specs.declared.words.WordSymbol.TheVariants as w
use Rattle.mp_ast.specs.declared.symbols.Symbol.TheVariants as s
use Rattle.mp_ast.specs.declared.leaves.Identifier.{Identifier}
use Rattle.mp_ast.specs.declared.types.Index.{Index}
use Rattle.mp_ast.specs.declared.types.Section.{Section}
use Rattle.mp_ast.specs.declared.types.Variant.{Variant}
use Rattle.mp_ast.specs.declared.types.VariantPart.{VariantPart}
use Rattle.mp_ast.specs.declared.types.Denoter.{Denoter}
use Rattle.mp_ast.specs.declared.types.Denoter.TheVariants as d
use Rattle.mp_ast.specs.Rules.{Rule, ◌>>=◌, ◌>>◌, ◌<$>◌, ◌<|>◌, gives, none, optional, many, separated, word, symbol, opener}
use Rattle.mp_ast.specs.LeafGrammar.{identifier, constant}

-- simple = id | "(" id {"," id} ")" | constant ".." constant
abbrev pub enumeration : Rule Denoter
enumeration = do
  at ← symbol s.LeftParen
  names ← separated (symbol s.Comma) identifier
  symbol s.RightParen
  gives (d.Enumeration at names)

abbrev pub subrange : Rule Denoter
subrange = do
  first ← constant
  symbol s.DotDot
  d.Subrange first <$> constant

abbrev pub simple_type : Rule Denoter
simple_type = d.Named <$> identifier <|> enumeration <|> subrange

-- "^" id
abbrev pub pointer_type : Rule Denoter
pointer_type = do
  at ← symbol s.Caret
  d.Pointer at <$> identifier

-- vars = id {"," id} ":" type
abbrev pub section : Rule Denoter → Rule (Section Denoter)
section denoter = do
  names ← separated (symbol s.Comma) identifier
  symbol s.Colon
  of ← denoter
  gives (record { names = names; of = of })

-- "," simple
abbrev pub further_index : Rule (Index Denoter)
further_index = do
  at ← symbol s.Comma
  of ← simple_type
  gives (record { at = at; of = of })

-- variant = constant {"," constant} ":" "(" fields ")"
abbrev pub variant : Rule Denoter → Rule (Variant Denoter)
variant fields = do
  constants ← separated (symbol s.Comma) constant
  symbol s.Colon
  symbol s.LeftParen
  found ← fields
  symbol s.RightParen
  gives (record { constants = constants; fields = found })

-- id ":"
abbrev pub tag_field : Rule Identifier
tag_field = do
  name ← identifier
  symbol s.Colon
  gives name

-- what stands behind one more opener
pub record Deeper : Type 1 where
  pub denoter : Rule Denoter
  pub field_list : Rule Denoter

-- In these productions `room` more openers may stand open, and `behind` is what stands behind one more.
module _ (room : ℕ) (behind : Deeper) where
  -- A structured type opens with its first word, which is `packed` where that stands there. Then the word after it
  -- does not open again: of these two `packed` is the ordinal of that word, where it stands there.
  abbrev pub structure_word : Option ℕ → WordSymbol → Rule ℕ
  structure_word None word_symbol = opener room (Word word_symbol)
  structure_word (Some packed) word_symbol = word word_symbol

  abbrev pub is_packed : Option ℕ → Bool
  is_packed None = false
  is_packed (Some packed) = true

  abbrev pub first_of : Option ℕ → ℕ → ℕ
  first_of None at = at
  first_of (Some packed) at = packed

  -- "array" "[" simple {"," simple} "]" "of" type
  -- The array with the first index type is the denoter itself, and stands at the same token.
  abbrev pub array_type : Option ℕ → Rule Denoter
  array_type packed = do
    at ← structure_word packed w.Array
    symbol s.LeftBracket
    of ← simple_type
    more ← many further_index
    symbol s.RightBracket
    word w.Of
    d.Array (first_of packed at) (is_packed packed) (record { at = first_of packed at; of = of } ∷ more) <$> behind.denoter

  -- "record" fields "end"
  abbrev pub record_type : Option ℕ → Rule Denoter
  record_type packed = do
    at ← structure_word packed w.Record
    fields ← behind.field_list
    word w.End
    gives (d.Record (first_of packed at) (is_packed packed) fields)

  -- "set" "of" simple
  abbrev pub set_type : Option ℕ → Rule Denoter
  set_type packed = do
    at ← structure_word packed w.Set
    word w.Of
    d.Set (first_of packed at) (is_packed packed) <$> simple_type

  -- "file" "of" type
  abbrev pub file_type : Option ℕ → Rule Denoter
  file_type packed = do
    at ← structure_word packed w.File
    word w.Of
    d.File (first_of packed at) at <$> behind.denoter

  -- struct
  abbrev pub structure : Option ℕ → Rule Denoter
  structure packed = array_type packed <|> record_type packed <|> set_type packed <|> file_type packed

  -- "packed" struct
  abbrev pub packed_structure : Rule Denoter
  packed_structure = do
    at ← opener room (Word w.Packed)
    structure (Some at)

  -- type = simple | "^" id | ["packed"] struct
  abbrev pub denoter_with : Rule Denoter
  denoter_with = simple_type <|> pointer_type <|> structure None <|> packed_structure

  -- fixed = vars {";" vars}
  abbrev pub fixed_part : Rule (List (Section Denoter))
  fixed_part = separated (symbol s.Semicolon) (section denoter_with)

  -- varpart = "case" [id ":"] id "of" variant {";" variant}
  abbrev pub variant_part : Rule (VariantPart Denoter)
  variant_part = do
    at ← opener room (Word w.Case)
    tag ← optional tag_field
    of ← identifier
    word w.Of
    variants ← separated (symbol s.Semicolon) (variant behind.field_list)
    gives (record { at = at; tag = tag; of = of; variants = variants })

  -- fixed [";" varpart]
  abbrev pub fixed_fields : Rule Denoter
  fixed_fields = do
    fixed ← fixed_part
    part ← optional (symbol s.Semicolon >> variant_part)
    gives (d.Fields fixed part)

  -- varpart
  abbrev pub variant_fields : Rule Denoter
  variant_fields = do
    part ← variant_part
    gives (d.Fields [] (Some part))

  -- fields = [(fixed [";" varpart] | varpart) [";"]]
  abbrev pub some_fields : Rule Denoter
  some_fields = do
    fields ← fixed_fields <|> variant_fields
    optional (symbol s.Semicolon)
    gives fields

  abbrev pub field_list_with : Rule Denoter
  field_list_with = some_fields <|> gives (d.Fields [] None)

unfoldable pub behind : ℕ → Deeper
behind zero = record { denoter = none; field_list = none }
behind (suc room) = record { denoter = denoter_with room (behind room); field_list = field_list_with room (behind room) }

-- a type denoter, where so many more openers may stand open
abbrev pub denoter : ℕ → Rule Denoter
denoter room = denoter_with room (behind room)
