-- What stands in a text file: characters and line ends (ISO 7185, 6.4.3.5).
use Rattle.std.specs.Prelude.{ℕ, ◌-◌, Bool, true, false, ◌==◌, ◌&&◌, ◌||◌, not, nat_le, if◌then◌else◌, List, map}
use Rattle.mp_files.specs.declared.items.Item.{Item}
use Rattle.mp_files.specs.declared.items.Item.TheVariants.{Character, LineEnd}

-- byte 10 of an input is a line end; of a character that is written it is none
abbrev pub item_of : ℕ → Item
item_of byte = if byte == 10 then LineEnd else Character byte

abbrev pub byte_of : Item → ℕ
byte_of (Character byte) = byte
byte_of LineEnd = 10

abbrev pub items_of : List ℕ → List Item
items_of bytes = map item_of bytes

abbrev pub characters : List ℕ → List Item
characters bytes = map Character bytes

abbrev pub bytes_of : List Item → List ℕ
bytes_of items = map byte_of items

abbrev pub is_line_end : Item → Bool
is_line_end (Character byte) = false
is_line_end LineEnd = true

abbrev pub is_character : Item → Bool
is_character item = not (is_line_end item)

-- what stands before a number (6.9.1): spaces and line ends
abbrev pub is_space : Item → Bool
is_space (Character byte) = byte == 32
is_space LineEnd = true

abbrev pub is_digit : Item → Bool
is_digit (Character byte) = nat_le 48 byte && nat_le byte 57
is_digit LineEnd = false

abbrev pub is_minus : Item → Bool
is_minus (Character byte) = byte == 45
is_minus LineEnd = false

abbrev pub is_sign : Item → Bool
is_sign (Character byte) = byte == 43 || byte == 45
is_sign LineEnd = false

abbrev pub digit_of : Item → ℕ
digit_of (Character byte) = byte - 48
digit_of LineEnd = 0
