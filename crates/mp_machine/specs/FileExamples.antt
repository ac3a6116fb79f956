-- Each row on text files, in a state made for it.
use Rattle.std.specs.Prelude.{◌≡◌, ℕ, zero, suc, List, [], ◌∷◌, ◌++◌, map, Option, Some, None, codes, pos}
use Rattle.mp_code.specs.declared.instructions.FileOperation.{FileOperation}
use Rattle.mp_code.specs.declared.instructions.FileOperation.TheVariants as file
use Rattle.mp_memory.specs.declared.cells.Cell.{Cell}
use Rattle.mp_memory.specs.declared.cells.Cell.TheVariants as cell
use Rattle.mp_files.specs.declared.items.Item.{Item}
use Rattle.mp_files.specs.declared.items.Item.TheVariants.{Character, LineEnd}
use Rattle.mp_files.specs.TextFiles.{FileState, Reading, Writing, TextFile, closed_file, input_file, output_file}
use Rattle.mp_machine.specs.declared.operands.Operand.{Operand}
use Rattle.mp_machine.specs.declared.operands.Operand.TheVariants.{Block}
use Rattle.mp_machine.specs.States.{Frame, State}
use Rattle.mp_machine.specs.Outcomes.{Outcome, Done}
use Rattle.mp_machine.specs.FileRows.{file_row}
use Rattle.mp_machine.specs.RowExamples.{number, minus, ref, scene, cells_under, Seen, Faults, Limits, seen}

-- ---- the state: cells 0 and 1 of root 1 are a file variable of file 2; cells 2 and 3 one that has no file yet

abbrev pub with_files : TextFile → Cell → (written : ℕ) → List Operand → State
with_files f buffer written operands = record (scene operands (cell.FileNo 2 ∷ buffer ∷ cell.Undef ∷ cell.Int (pos 1) ∷ [])) {
  files = input_file (codes "x") ∷ output_file ∷ f ∷ [];
  written = written;
}

-- what is seen after it: operands, cells, files past the first two, bytes written; or a fault or limit
pub data FilesSeen : Type 0 where
  Leaves : List Operand → List Cell → List TextFile → (written : ℕ) → FilesSeen
  Comes : Seen → FilesSeen

abbrev pub past_two : List TextFile → List TextFile
past_two (f ∷ g ∷ more) = more
past_two fs = []

abbrev pub operands_of : List Frame → List Operand
operands_of [] = []
operands_of (f ∷ older) = f.operands

abbrev pub files_seen : Outcome (Unit {0}) → FilesSeen
files_seen (Done x s) = Leaves (operands_of s.frames) (cells_under (s.roots 1)) (past_two s.files) s.written
files_seen o = Comes (seen o)

abbrev pub characters : List ℕ → List Item
characters bytes = map Character bytes

abbrev pub of_state : FileState → List Item → List Item → TextFile
of_state state before behind = record { before = before; behind = behind; state = state }

abbrev pub reading : List Item → List Item → TextFile
reading before behind = of_state Reading before behind

abbrev pub writing : List Item → TextFile
writing items = of_state Writing items []

-- the row on file 2 with this buffer, and the operands above its Ref, the last one first
abbrev pub try_with : FileOperation → List Operand → TextFile → Cell → (written : ℕ) → FilesSeen
try_with o operands f buffer written = files_seen (file_row o (with_files f buffer written (operands ++ ref 1 0 ∷ [])))

abbrev pub try : FileOperation → TextFile → FilesSeen
try o f = try_with o [] f (cell.Int (pos 98)) 0

abbrev pub leaves : List Operand → Cell → TextFile → FilesSeen
leaves operands buffer f = Leaves operands (cell.FileNo 2 ∷ buffer ∷ cell.Undef ∷ cell.Int (pos 1) ∷ []) (f ∷ []) 0

abbrev pub writes : Cell → TextFile → (written : ℕ) → FilesSeen
writes buffer f written = Leaves [] (cell.FileNo 2 ∷ buffer ∷ cell.Undef ∷ cell.Int (pos 1) ∷ []) (f ∷ []) written

abbrev b : Cell
b = cell.Int (pos 98)

abbrev pub ReadingRows : Type 0
ReadingRows =
    (try file.Eof (reading [] (LineEnd ∷ [])) ∷ try file.Eof (reading [] []) ∷ try file.Eof (writing []) ∷
    try file.Eoln (reading [] (LineEnd ∷ [])) ∷ try file.Eoln (reading [] (characters (codes "b"))) ∷
    try file.Get (reading [] (characters (codes "bc"))) ∷ try file.Get (reading [] (Character 98 ∷ LineEnd ∷ [])) ∷
    try file.Get (reading [] (Character 98 ∷ [])) ∷
    try file.ReadLine (reading [] (Character 98 ∷ LineEnd ∷ Character 99 ∷ [])) ∷
    try file.ReadInt (reading [] (LineEnd ∷ characters (codes " -12x"))) ∷
    try file.ReadChar (reading [] (characters (codes "bc"))) ∷
    try file.Reset (writing (characters (codes "yz"))) ∷ try file.Rewrite (reading [] (characters (codes "yz"))) ∷ []) ≡
    leaves (number 0 ∷ []) b (reading [] (LineEnd ∷ [])) ∷ leaves (number 1 ∷ []) b (reading [] []) ∷
    leaves (number 1 ∷ []) b (writing []) ∷
    leaves (number 1 ∷ []) b (reading [] (LineEnd ∷ [])) ∷ leaves (number 0 ∷ []) b (reading [] (characters (codes "b"))) ∷
    leaves [] (cell.Int (pos 99)) (reading (Character 98 ∷ []) (Character 99 ∷ [])) ∷
    leaves [] (cell.Int (pos 32)) (reading (Character 98 ∷ []) (LineEnd ∷ [])) ∷
    leaves [] cell.Undef (reading (Character 98 ∷ []) []) ∷
    leaves [] (cell.Int (pos 99)) (reading (Character 98 ∷ LineEnd ∷ []) (Character 99 ∷ [])) ∷
    leaves (minus 11 ∷ []) (cell.Int (pos 120)) (reading (LineEnd ∷ characters (codes " -12")) (characters (codes "x"))) ∷
    leaves (number 98 ∷ []) (cell.Int (pos 99)) (reading (Character 98 ∷ []) (Character 99 ∷ [])) ∷
    leaves [] (cell.Int (pos 121)) (reading [] (characters (codes "yz") ++ LineEnd ∷ [])) ∷ leaves [] cell.Undef (writing []) ∷
    []

abbrev pub WritingRows : Type 0
WritingRows =
    (try file.Put (writing (Character 97 ∷ [])) ∷ try file.WriteLine (writing (Character 97 ∷ [])) ∷
    try file.Page (writing (Character 97 ∷ [])) ∷ try file.Page (writing []) ∷
    try_with file.WriteInt (number 3 ∷ minus 11 ∷ []) (writing []) b 0 ∷ try_with file.WriteInt (number 5 ∷ number 7 ∷
    []) (writing []) b 0 ∷
    try_with file.WriteChar (number 2 ∷ number 97 ∷ []) (writing []) b 0 ∷ try_with file.WriteBool (number 2 ∷ number 1 ∷
    []) (writing []) b 0 ∷
    try_with file.WriteChars (number 3 ∷ Block (cell.Int (pos 97) ∷ cell.Int (pos 10) ∷ []) ∷ []) (writing []) b 5 ∷ []) ≡
    writes cell.Undef (writing (characters (codes "ab"))) 1 ∷ writes b (writing (Character 97 ∷ LineEnd ∷ [])) 1 ∷
    writes b (writing (Character 97 ∷ LineEnd ∷ Character 12 ∷ [])) 2 ∷ writes b (writing (Character 12 ∷ [])) 1 ∷
    writes b (writing (characters (codes "-12"))) 3 ∷ writes b (writing (characters (codes "    7"))) 5 ∷
    writes b (writing (characters (codes " a"))) 2 ∷ writes b (writing (characters (codes "Tr"))) 2 ∷
    writes b (writing (characters (32 ∷ 97 ∷ 10 ∷ []))) 8 ∷ []

abbrev faults : ℕ → FilesSeen
faults n = Comes (Faults n)

abbrev limits : ℕ → FilesSeen
limits n = Comes (Limits n)

-- of two causes the first counts
abbrev pub FileFaults : Type 0
FileFaults =
    (try file.Eof closed_file ∷ try file.Eoln (writing []) ∷ try file.Eoln (reading [] []) ∷ try file.Get closed_file ∷
    try file.Get (reading [] []) ∷ try file.ReadLine (reading [] []) ∷
    try file.ReadInt (writing []) ∷ try file.ReadInt (reading [] (characters (codes "  "))) ∷
    try file.ReadInt (reading [] (characters (codes "x"))) ∷
    try file.ReadInt (reading [] (characters (codes "-"))) ∷ try file.ReadInt (reading [] (characters (codes "2147483648"))) ∷
    try_with file.ReadChar [] (reading [] []) cell.Undef 0 ∷ try_with file.ReadChar [] (reading [] (characters (codes "b")))
    cell.Undef 0 ∷ try file.ReadChar (writing []) ∷
    try_with file.Put [] (reading [] []) cell.Undef 0 ∷ try_with file.Put [] (writing []) cell.Undef 16777216 ∷
    try_with file.Put [] (writing []) b 16777216 ∷
    try file.WriteLine (reading [] []) ∷ try_with file.WriteLine [] (writing []) b 16777216 ∷ try file.Page closed_file ∷
    try_with file.Page [] (writing (Character 97 ∷ [])) b 16777215 ∷
    try_with file.WriteInt (number 0 ∷ number 7 ∷ []) closed_file b 0 ∷ try_with file.WriteInt (number 4097 ∷ number 7 ∷
    []) closed_file b 0 ∷ try_with file.WriteInt (number 1 ∷ number 7 ∷ []) closed_file b 16777216 ∷
    try_with file.WriteInt (number 1 ∷ number 7 ∷ []) (writing []) b 16777216 ∷ try_with file.WriteChars (number 0 ∷
    Block (cell.Undef ∷ []) ∷ []) closed_file b 0 ∷ []) ≡
    faults 12 ∷ faults 12 ∷ faults 11 ∷ faults 12 ∷ faults 11 ∷ faults 11 ∷
    faults 12 ∷ faults 11 ∷ faults 13 ∷ faults 13 ∷ faults 1 ∷
    faults 11 ∷ faults 9 ∷ faults 12 ∷
    faults 12 ∷ faults 9 ∷ limits 4 ∷
    faults 12 ∷ limits 4 ∷ faults 12 ∷ limits 4 ∷
    faults 14 ∷ limits 3 ∷ faults 12 ∷ limits 4 ∷ faults 9 ∷ []

-- ---- a file variable with no file yet, `input` and `output`, and a disposed one

-- the row on the Ref
abbrev pub try_at : FileOperation → Operand → FilesSeen
try_at o r = files_seen (file_row o (with_files closed_file b 0 (r ∷ [])))

abbrev no_file_yet : FilesSeen
no_file_yet = Leaves [] (cell.FileNo 2 ∷ b ∷ cell.Undef ∷ cell.Int (pos 1) ∷ []) (closed_file ∷ []) 0

abbrev made : TextFile → FilesSeen
made f = Leaves [] (cell.FileNo 2 ∷ b ∷ cell.FileNo 3 ∷ cell.Undef ∷ []) (closed_file ∷ f ∷ []) 0

abbrev pub BeginningRows : Type 0
BeginningRows =
    (try_at file.Eof (ref 1 2) ∷ try_at file.Reset (ref 1 2) ∷ try_at file.Rewrite (ref 1 2) ∷
    try_at file.WriteLine (ref 1 2) ∷ try_at file.Reset (ref 3 0) ∷ try_at file.Get (ref 3 0) ∷
    try_at file.Eof (ref 3 0) ∷ []) ≡
    faults 12 ∷ made (reading [] []) ∷ made (writing []) ∷ faults 12 ∷ faults 8 ∷ faults 8 ∷ faults 8 ∷ []

-- `input` and `output` in a state of their own root
abbrev pub with_required : (operands : List Operand) → State
with_required operands = record (with_files closed_file b 0 operands) {
  roots = λ r. elim r as (λ r. Option (List Cell)) [
    | zero ↦ Some (cell.FileNo 0 ∷ b ∷ cell.FileNo 1 ∷ cell.Undef ∷ [])
    | suc q
        ↦ None
  ];
}

abbrev pub all_seen : Outcome (Unit {0}) → Option (List Cell × List TextFile)
all_seen (Done x s) = Some (cells_under (s.roots 0), s.files)
all_seen o = None

abbrev pub RequiredFiles : Type 0
RequiredFiles =
    map (λ o. all_seen (file_row o (with_required (ref 0 2 ∷ [])))) (file.Reset ∷ file.Rewrite ∷ file.WriteLine ∷ []) ≡
    Some (cell.FileNo 0 ∷ b ∷ cell.FileNo 1 ∷ cell.Undef ∷ [], input_file (codes "x") ∷ output_file ∷ closed_file ∷ []) ∷
    Some (cell.FileNo 0 ∷ b ∷ cell.FileNo 1 ∷ cell.Undef ∷ [], input_file (codes "x") ∷ output_file ∷ closed_file ∷ []) ∷
    Some (
      cell.FileNo 0 ∷ b ∷ cell.FileNo 1 ∷ cell.Undef ∷ [],
      input_file (codes "x") ∷ writing (LineEnd ∷ []) ∷ closed_file ∷
          [],
    ) ∷ []
