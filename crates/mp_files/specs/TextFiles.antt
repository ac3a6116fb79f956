-- Text files (ISO 7185, 6.4.3.5, 6.6.5.2, 6.6.6.5, 6.9): characters and line ends, a position among them and a state.
-- The buffer variable stands beside the file. A call that reads names its fault: in the wrong state before at the end.
use Rattle.std.specs.Prelude.{ℕ, ◌+◌, ◌*◌, Bool, true, false, if◌then◌else◌, List, [], ◌∷◌, ◌++◌, take, drop, Option, Some, None, ℤ, pos, neg_ℤ, nat_lt, length}
use Rattle.std.specs.List.{prefix_len, take_while}
use Rattle.mp_base.specs.declared.limits.TheConstants.{MAXINT}
use Rattle.mp_files.specs.declared.causes.TheConstants.{END_OF_FILE, INTEGER_OVERFLOW, NO_NUMBER, WRONG_STATE}
use Rattle.mp_files.specs.declared.items.Item.{Item}
use Rattle.mp_files.specs.declared.items.Item.TheVariants.{Character, LineEnd}
use Rattle.mp_files.specs.Items.{bytes_of, digit_of, is_character, is_digit, is_line_end, is_minus, is_sign, is_space, items_of}

pub data FileState : Type 0 where
  Closed : FileState
  Reading : FileState
  Writing : FileState

-- what stands before the position, and what from it on: in writing the position is the end
pub record TextFile : Type 0 where
  pub before : List Item
  pub behind : List Item
  pub state : FileState

-- what a call on a file gives, and the file after it; or its fault
pub data FileCall (A : Type 0) : Type 0 where
  Gives : A → TextFile → FileCall A
  Fails : (fault : ℕ) → FileCall A

-- all that stands in a file
abbrev pub contents : TextFile → List Item
contents f = f.before ++ f.behind

-- the bytes that were written to a file
abbrev pub bytes_written : TextFile → List ℕ
bytes_written f = bytes_of f.before

abbrev pub closed_file : TextFile
closed_file = record { before = []; behind = []; state = Closed }

-- a file that is written from the start, as `output` is
abbrev pub output_file : TextFile
output_file = record { before = []; behind = []; state = Writing }

-- a file that is read from the start
abbrev pub file_to_read : List Item → TextFile
file_to_read items = record { before = []; behind = items; state = Reading }

-- `input` of these bytes
abbrev pub input_file : List ℕ → TextFile
input_file bytes = file_to_read (items_of bytes)

-- ---- states

abbrev pub is_reading : FileState → Bool
is_reading Reading = true
is_reading Writing = false
is_reading Closed = false

abbrev pub is_writing : FileState → Bool
is_writing Writing = true
is_writing Reading = false
is_writing Closed = false

abbrev pub is_nothing : List Item → Bool
is_nothing [] = true
is_nothing (item ∷ more) = false

-- a call that needs a file in reading
abbrev pub in_reading : {A : Type 0} → TextFile → FileCall A → FileCall A
in_reading f call = if is_reading f.state then call else Fails WRONG_STATE

-- a call that needs a file in writing
abbrev pub in_writing : {A : Type 0} → TextFile → FileCall A → FileCall A
in_writing f call = if is_writing f.state then call else Fails WRONG_STATE

-- a call that needs a file in reading, and an item at its position
abbrev pub at_item : {A : Type 0} → TextFile → FileCall A → FileCall A
at_item f call = in_reading f (if is_nothing f.behind then Fails END_OF_FILE else call)

-- ---- the buffer variable where it is set anew (6.6.5.2): the character at the position, a space at a line end

abbrev pub shown_item : List Item → Option ℕ
shown_item [] = None
shown_item (Character byte ∷ more) = Some byte
shown_item (LineEnd ∷ more) = Some 32

-- nothing is shown where the file is not in reading, or at its end
abbrev pub shown : TextFile → Option ℕ
shown f = if is_reading f.state then shown_item f.behind else None

-- ---- eof and eoln (6.6.6.5)

abbrev pub eof_in : TextFile → FileState → FileCall Bool
eof_in f Reading = Gives (is_nothing f.behind) f
eof_in f Writing = Gives true f
eof_in f Closed = Fails WRONG_STATE

-- true in writing, and where nothing is left to read
abbrev pub eof : TextFile → FileCall Bool
eof f = eof_in f f.state

abbrev pub begins_with_line_end : List Item → Bool
begins_with_line_end [] = false
begins_with_line_end (item ∷ more) = is_line_end item

-- whether a line end stands at the position
abbrev pub eoln : TextFile → FileCall Bool
eoln f = at_item f (Gives (begins_with_line_end f.behind) f)

-- ---- reset and rewrite (6.6.5.2)

-- the last line has no line end; where there is no line there is none to end
abbrev pub is_unfinished : List Item → Bool
is_unfinished [] = false
is_unfinished (item ∷ []) = is_character item
is_unfinished (item ∷ next ∷ more) = is_unfinished (next ∷ more)

abbrev pub last_line_ended : List Item → List Item
last_line_ended items = if is_unfinished items then items ++ LineEnd ∷ [] else items

-- in reading from the start, the last line ended
abbrev pub reset : TextFile → TextFile
reset f = file_to_read (last_line_ended (contents f))

-- in writing, emptied
abbrev pub rewrite : TextFile → TextFile
rewrite f = output_file

-- ---- reading (6.6.5.2, 6.9.1, 6.9.2)

-- the position so many items further on, at most at the end
abbrev pub moved : ℕ → TextFile → TextFile
moved n f = record f { before = f.before ++ take n f.behind; behind = drop n f.behind }

-- past the item at the position
abbrev pub get : TextFile → FileCall (Unit {0})
get f = at_item f (Gives tt (moved 1 f))

-- past the next line end
abbrev pub read_line : TextFile → FileCall (Unit {0})
read_line f = at_item f (Gives tt (moved (prefix_len is_character f.behind + 1) f))

-- ---- numbers (6.9.1): spaces and line ends, a sign or none, digits

-- how many items the sign has
abbrev pub sign_len : List Item → ℕ
sign_len [] = 0
sign_len (item ∷ more) = if is_sign item then 1 else 0

abbrev pub is_negative : List Item → Bool
is_negative [] = false
is_negative (item ∷ more) = is_minus item

abbrev pub digits_of : List Item → List Item
digits_of items = take_while is_digit (drop (sign_len items) items)

-- the value of digits that stand behind others of this value
abbrev pub value_from : ℕ → List Item → ℕ
value_from value [] = value
value_from value (digit ∷ more) = value_from (10 * value + digit_of digit) more

abbrev pub value_of : List Item → ℕ
value_of digits = value_from 0 digits

abbrev pub signed : Bool → ℕ → ℤ
signed negative n = if negative then neg_ℤ (pos n) else pos n

-- a number at the position, or the fault: no digits, or a value that is too large
abbrev pub number_at : TextFile → List Item → FileCall ℤ
number_at f items = if is_nothing (digits_of items) then Fails NO_NUMBER
    else if nat_lt MAXINT (value_of (digits_of items)) then Fails INTEGER_OVERFLOW
    else Gives (signed (is_negative items) (value_of (digits_of items))) (moved (sign_len items + length (digits_of items)) f)

-- past the spaces and line ends at the position
abbrev pub past_spaces : TextFile → TextFile
past_spaces f = moved (prefix_len is_space f.behind) f

-- The file may end behind the spaces: then there is nothing to read.
abbrev pub read_number : TextFile → FileCall ℤ
read_number f = let g = past_spaces f in at_item g (number_at g g.behind)

-- ---- writing (6.6.5.2, 6.9.3 to 6.9.5)

-- items at the end of a file in writing
abbrev pub with_written : List Item → TextFile → TextFile
with_written items f = record f { before = f.before ++ items }

abbrev pub write_items : List Item → TextFile → FileCall (Unit {0})
write_items items f = in_writing f (Gives tt (with_written items f))

-- what `page` writes: the end of an unfinished line, and byte 12
abbrev pub page_items : TextFile → List Item
page_items f = if is_unfinished f.before then LineEnd ∷ Character 12 ∷ [] else Character 12 ∷ []
