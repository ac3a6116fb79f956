-- Rows on text files (ISO 7185, 6.6.5.2, 6.6.6.5, 6.9). A file variable is the cell of its file, which is undefined while
-- no file was made, and the cell of its buffer variable behind it. The faults: 9 for an undefined buffer or character, 11 at
-- the end of the file, 12 in the wrong state, 13 for no number, 1 for one that is too large, 14 for a width; limit 3 on
-- widths and limit 4 on the bytes written to all files.
use Rattle.std.specs.Prelude.{ℕ, ◌+◌, Bool, false, List, [], ◌∷◌, ◌++◌, length, map, Option, Some, None, nat_le, nat_lt, ℤ, pos}
use Rattle.std.specs.Prelude.{slice_get, slice_set}
use Rattle.std.specs.List.{list_all}
use Rattle.mp_code.specs.declared.instructions.FileOperation.{FileOperation}
use Rattle.mp_code.specs.declared.instructions.FileOperation.TheVariants as file
use Rattle.mp_memory.specs.declared.cells.Cell.{Cell}
use Rattle.mp_memory.specs.declared.cells.Cell.TheVariants as cell
use Rattle.mp_base.specs.declared.limits.TheConstants.{OUTPUT_LIMIT}
use Rattle.mp_files.specs.declared.causes.FileEnd.{FileEnd}
use Rattle.mp_files.specs.declared.causes.FileEnd.TheVariants as end
use Rattle.mp_machine.specs.Numbers.{natural, is_true, lies_in}
use Rattle.mp_files.specs.declared.items.Item.{Item}
use Rattle.mp_files.specs.declared.items.Item.TheVariants.{Character, LineEnd}
use Rattle.mp_files.specs.TextFiles.{TextFile, FileCall, Gives, Fails, closed_file, shown, at_item, in_writing, write_items}
use Rattle.mp_files.specs.TextFiles.{page_items}
use Rattle.mp_files.specs.TextFiles as text
use Rattle.mp_files.specs.WrittenFields.{integer_field, truth_field, character_field, width_refusal, width_of}
use Rattle.mp_machine.specs.Outcomes.{Action, Row, ◌>>=◌, ◌>>◌, gives, skip, now, update, fault, limit, stuck, needs, choose}
use Rattle.mp_machine.specs.Outcomes.{unless}
use Rattle.mp_machine.specs.declared.addresses.Address.{Address}
use Rattle.mp_machine.specs.Operands.{put_cell, put_number, put_truth, take_number, take_address, take_block}
use Rattle.mp_machine.specs.Memory.{cell_of, set_cell, defined, reach}
use Rattle.mp_machine.specs.Operands.{as_number}
use Rattle.mp_machine.specs.ValueRows.{characters_of}

-- ---- the file of a file variable

-- its number, where one was made
abbrev pub as_file : Cell → Action (Option ℕ)
as_file cell.Undef = gives None
as_file (cell.FileNo k) = gives (Some k)
as_file _ = stuck

abbrev pub file_number : Address → Action (Option ℕ)
file_number a = do
  x ← cell_of a
  as_file x

abbrev pub file_of : Option ℕ → Action TextFile
file_of None = gives closed_file
file_of (Some k) = do
  s ← now
  needs (slice_get s.files k)

-- the file that was made takes the place of the old one
abbrev pub set_file : Option ℕ → TextFile → Row
set_file None f = stuck
set_file (Some k) f = update (λ s. record s { files = slice_set s.files k f })

-- ---- calls on it

-- what the call gives, the file left as it is
abbrev pub answer : {A : Type 0} → FileCall A → Action A
answer (Gives x f) = gives x
answer (Fails number) = fault number

-- of the file of a number, or of one that was not made
abbrev pub asked : {A : Type 0} → Option ℕ → (TextFile → FileCall A) → Action A
asked k question = do
  f ← file_of k
  answer (question f)

abbrev pub ask : {A : Type 0} → Address → (TextFile → FileCall A) → Action A
ask a question = do
  k ← file_number a
  asked k question

-- what the call gives, with the file after it
abbrev pub result : {A : Type 0} → Option ℕ → FileCall A → Action A
result k (Gives x f) = do
  set_file k f
  gives x
result k (Fails number) = fault number

abbrev pub on_number : {A : Type 0} → Option ℕ → (TextFile → FileCall A) → Action A
on_number k operation = do
  f ← file_of k
  result k (operation f)

abbrev pub on_file : {A : Type 0} → Address → (TextFile → FileCall A) → Action A
on_file a operation = do
  k ← file_number a
  on_number k operation

-- ---- the buffer variable

abbrev pub buffer_of : Address → Action Address
buffer_of a = reach a 1

abbrev pub buffer_cell : Option ℕ → Cell
buffer_cell None = cell.Undef
buffer_cell (Some b) = cell.Int (pos b)

-- it is set anew
abbrev pub renew_buffer : Address → Row
renew_buffer a = do
  x ← ask a (λ f. Gives (shown f) f)
  b ← buffer_of a
  set_cell b (buffer_cell x)

-- ---- reset and rewrite; they have no effect on `input` and `output`

abbrev pub is_required : Option ℕ → Bool
is_required None = false
is_required (Some k) = nat_lt k 2

-- the file takes the place of the old one, or is made, and its number stored
abbrev pub make_file : Address → Option ℕ → TextFile → Row
make_file a (Some k) f = set_file (Some k) f
make_file a None f = do
  s ← now
  set_cell a (cell.FileNo (length s.files))
  update (λ s. record s { files = s.files ++ f ∷ [] })

abbrev pub begin_file : (TextFile → TextFile) → Row
begin_file new = do
  a ← take_address
  k ← file_number a
  choose (is_required k) skip (do
    f ← file_of k
    make_file a k (new f)
    renew_buffer a)

-- ---- reading

-- Ref : 0 or 1
abbrev pub eof : Row
eof = do
  a ← take_address
  is ← ask a text.eof
  put_truth is

-- Ref : 0 or 1
abbrev pub eoln : Row
eoln = do
  a ← take_address
  is ← ask a text.eoln
  put_truth is

abbrev pub get_at : Address → Row
get_at a = do
  on_file a text.get
  renew_buffer a

-- Ref : none
abbrev pub get : Row
get = do
  a ← take_address
  get_at a

-- Ref : none
abbrev pub read_line : Row
read_line = do
  a ← take_address
  on_file a text.read_line
  renew_buffer a

-- Ref : number
abbrev pub read_int : Row
read_int = do
  a ← take_address
  n ← on_file a text.read_number
  renew_buffer a
  put_number n

-- a file that is not in reading is fault 12, the end of the file fault 11
abbrev pub must_read_on : Option ℕ → Row
must_read_on k = asked k (λ f. at_item f (Gives tt f))

abbrev pub must_read : Address → Row
must_read a = do
  k ← file_number a
  must_read_on k

-- Ref : number, that of the buffer variable, and then `get`
abbrev pub read_char : Row
read_char = do
  a ← take_address
  must_read a
  b ← buffer_of a
  x ← cell_of b
  y ← defined x
  get_at a
  put_cell y

-- ---- writing: limit 4 on the bytes written to all files

abbrev pub charge : (bytes : ℕ) → Row
charge n = do
  s ← now
  unless (nat_le (s.written + n) OUTPUT_LIMIT) (limit 4)
  update (λ s. record s { written = s.written + n })

-- a file that is not in writing is fault 12, before limit 4
abbrev pub must_write_on : Option ℕ → Row
must_write_on k = asked k (λ f. in_writing f (Gives tt f))

abbrev pub must_write : Address → Row
must_write a = do
  k ← file_number a
  must_write_on k

abbrev pub write_on : Option ℕ → List Item → Row
write_on k items = do
  must_write_on k
  charge (length items)
  on_number k (write_items items)

abbrev pub write_to : Address → List Item → Row
write_to a items = do
  k ← file_number a
  write_on k items

abbrev pub write_bytes : Address → List ℕ → Row
write_bytes a bytes = write_to a (map Character bytes)

-- Ref : none
abbrev pub write_line : Row
write_line = do
  a ← take_address
  write_to a (LineEnd ∷ [])

abbrev pub page_on : Option ℕ → Row
page_on k = do
  f ← file_of k
  write_on k (page_items f)

abbrev pub page_at : Address → Row
page_at a = do
  k ← file_number a
  page_on k

-- Ref : none
abbrev pub page : Row
page = do
  a ← take_address
  page_at a

-- a character that is written is a byte
abbrev pub is_byte : ℤ → Bool
is_byte n = lies_in (pos 0) (pos 255) n

abbrev pub as_byte : ℤ → Action ℕ
as_byte n = choose (is_byte n) (gives (natural n)) stuck

-- the character in the buffer variable
abbrev pub buffered_byte : Address → Action ℕ
buffered_byte a = do
  b ← buffer_of a
  x ← cell_of b
  y ← defined x
  n ← as_number y
  as_byte n

-- Ref : none; the buffer variable is written, and set anew
abbrev pub put_file : Row
put_file = do
  a ← take_address
  must_write a
  character ← buffered_byte a
  write_bytes a (character ∷ [])
  renew_buffer a

-- ---- write (6.9.3): fault 14 for a width below 1, limit 3 for one above 4,096

abbrev pub refuse : Option FileEnd → Row
refuse None = skip
refuse (Some (end.Fault number)) = fault number
refuse (Some (end.Limit number)) = limit number
refuse (Some end.Memory) = stuck

-- the fields of a width that is not refused
abbrev pub integer_field_of : ℤ → (width : ℤ) → Action (List ℕ)
integer_field_of n width = do
  refuse (width_refusal width)
  gives (integer_field (width_of width) n)

abbrev pub truth_field_of : ℤ → (width : ℤ) → Action (List ℕ)
truth_field_of n width = do
  refuse (width_refusal width)
  gives (truth_field (width_of width) (is_true n))

abbrev pub character_field_of : List ℕ → (width : ℤ) → Action (List ℕ)
character_field_of characters width = do
  refuse (width_refusal width)
  gives (character_field (width_of width) characters)

abbrev pub write_integer_to : Address → ℤ → (width : ℤ) → Row
write_integer_to a n width = do
  field ← integer_field_of n width
  write_bytes a field

abbrev pub write_truth_to : Address → ℤ → (width : ℤ) → Row
write_truth_to a n width = do
  field ← truth_field_of n width
  write_bytes a field

abbrev pub write_characters_to : Address → List ℕ → (width : ℤ) → Row
write_characters_to a characters width = do
  field ← character_field_of characters width
  write_bytes a field

abbrev pub write_character_to : Address → ℤ → (width : ℤ) → Row
write_character_to a n width = do
  character ← as_byte n
  write_characters_to a (character ∷ []) width

-- Ref i width : none
abbrev pub write_number : (Address → ℤ → (width : ℤ) → Row) → Row
write_number write = do
  width ← take_number
  n ← take_number
  a ← take_address
  write a n width

abbrev pub defined_string : Option (List ℕ) → Action (List ℕ)
defined_string None = fault 9
defined_string (Some bytes) = gives bytes

abbrev pub as_bytes : List ℕ → Action (List ℕ)
as_bytes characters = choose (list_all (λ n. nat_lt n 256) characters) (gives characters) stuck

-- the bytes of a string
abbrev pub string_in : List Cell → Action (List ℕ)
string_in xs = do
  characters ← defined_string (characters_of xs)
  as_bytes characters

abbrev pub write_string_to : Address → List Cell → (width : ℤ) → Row
write_string_to a xs width = do
  bytes ← string_in xs
  write_characters_to a bytes width

-- Ref block width : none
abbrev pub write_string : Row
write_string = do
  width ← take_number
  xs ← take_block
  a ← take_address
  write_string_to a xs width

-- ---- the operations

abbrev pub file_row : FileOperation → Row
file_row file.Eof = eof
file_row file.Eoln = eoln
file_row file.Get = get
file_row file.Put = put_file
file_row file.Reset = begin_file text.reset
file_row file.Rewrite = begin_file text.rewrite
file_row file.ReadLine = read_line
file_row file.WriteLine = write_line
file_row file.Page = page
file_row file.ReadInt = read_int
file_row file.ReadChar = read_char
file_row file.WriteInt = write_number write_integer_to
file_row file.WriteChar = write_number write_character_to
file_row file.WriteBool = write_number write_truth_to
file_row file.WriteChars = write_string
