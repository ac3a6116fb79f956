-- How a text file is kept: a byte for each item, and a bit for each place at which a character may have the number 10.
-- Only private functions cite this, and the models of private types.
use Rattle.std.specs.Prelude.{◌≡◌, ℕ, suc, ◌+◌, ◌/◌, ◌%◌, ◌<◌, ◌≤◌, Bool, true, false, ◌==◌, ◌&&◌, not, if◌then◌else◌, List, [], ◌∷◌, take, drop, length, slice_index, Option}
use Rattle.std.specs.Int.{bit_at}
use Rattle.mp_files.specs.declared.items.Item.{Item}
use Rattle.mp_files.specs.declared.items.Item.TheVariants.{Character, LineEnd}
use Rattle.mp_files.specs.declared.items.ItemClass.{ItemClass}
use Rattle.mp_files.specs.declared.items.ItemClass.TheVariants as class
use Rattle.mp_files.specs.declared.stored_file.Place.{Place}
use Rattle.mp_files.specs.declared.stored_file.Place.TheVariants as place
use Rattle.mp_files.specs.Items.{is_character, is_digit, is_space}
use Rattle.mp_files.specs.TextFiles.{TextFile, Closed, Reading, Writing, Gives, at_item}
use Rattle.mp_files.specs.declared.causes.FileEnd.{FileEnd}
use Rattle.mp_files.specs.RunFiles.{fault_of}

-- the bit of a place; there is none past the last lane
abbrev pub is_marked : List ℕ → ℕ → Bool
is_marked marks at = bit_at (slice_index marks (at / 8)) (at % 8) == 1

-- no place from this one on has its bit set
abbrev pub NoneMarked : List ℕ → ℕ → Type 0
NoneMarked marks from = (at : ℕ) → from ≤ at → is_marked marks at ≡ false

-- the item of a byte: byte 10 is a line end unless it is marked
abbrev pub marked_item : ℕ → Bool → Item
marked_item byte marked = if byte == 10 && not marked then LineEnd else Character byte

-- the item of a byte at a place
abbrev pub item_kept : List ℕ → ℕ → ℕ → Item
item_kept marks at byte = marked_item byte (is_marked marks at)

-- the items of bytes, the first of which has this place
abbrev pub items_kept : List ℕ → ℕ → List ℕ → List Item
items_kept marks at [] = []
items_kept marks at (byte ∷ bytes) = item_kept marks at byte ∷ items_kept marks (suc at) bytes

-- Characters are marked from a place on: each that has the number 10. Other places stay as they are.
pub record AreMarked (old new : List ℕ) (from : ℕ) (bytes : List ℕ) : Type 0 where
  pub tens : (k : ℕ) → k < length bytes → slice_index bytes k ≡ 10 → is_marked new (from + k) ≡ true
  pub before : (at : ℕ) → at < from → is_marked new at ≡ is_marked old at
  pub behind : (at : ℕ) → from + length bytes ≤ at → is_marked new at ≡ is_marked old at

-- whether an item is of a class
abbrev pub is_of : ItemClass → Item → Bool
is_of class.Character item = is_character item
is_of class.Space item = is_space item
is_of class.Digit item = is_digit item

-- the text file of these items
abbrev pub file_kept : List Item → Place → TextFile
file_kept items place.Closed = record { before = items; behind = []; state = Closed }
file_kept items (place.Reading at) = record { before = take at items; behind = drop at items; state = Reading }
file_kept items place.Writing = record { before = items; behind = []; state = Writing }

-- why no item is read, if none is: the state comes before the end
abbrev pub item_refusal : TextFile → Option FileEnd
item_refusal f = fault_of {A = Unit {0}} (at_item f (Gives tt f))
