-- The text files of a run, by number: file 0 is `input`, file 1 is `output`. The run counts the bytes that are written to
-- all of them, a line end as one; what ends a last line at `reset` does not count.
use Rattle.std.specs.Prelude.{◌≡◌, ℕ, ◌+◌, ◌<◌, Bool, not, if◌then◌else◌, List, [], ◌∷◌, ◌++◌, length, slice_index_or, slice_set, Option, Some, None, nat_lt}
use Rattle.mp_base.specs.declared.limits.TheConstants.{OUTPUT_LIMIT}
use Rattle.mp_files.specs.declared.causes.FileEnd.{FileEnd}
use Rattle.mp_files.specs.declared.causes.FileEnd.TheVariants as end
use Rattle.mp_files.specs.declared.causes.TheConstants.{FILE_BYTES, WRONG_STATE}
use Rattle.mp_files.specs.declared.items.Item.{Item}
use Rattle.mp_files.specs.TextFiles.{FileCall, Gives, Fails, TextFile, closed_file, input_file, is_writing, output_file, reset, rewrite, with_written}

pub record RunFiles : Type 0 where
  pub files : List TextFile
  pub written : ℕ

-- as a run begins
abbrev pub starting : List ℕ → RunFiles
starting input = record { files = input_file input ∷ output_file ∷ []; written = 0 }

-- a file of this number was made
abbrev pub IsGiven : RunFiles → ℕ → Type 0
IsGiven run number = number < length run.files

abbrev pub file_at : RunFiles → ℕ → TextFile
file_at run number = slice_index_or run.files number closed_file

-- this file in the place of the one of this number
abbrev pub with_file : ℕ → TextFile → RunFiles → RunFiles
with_file number f run = record run { files = slice_set run.files number f }

-- one file more, closed and empty
abbrev pub with_new_file : RunFiles → RunFiles
with_new_file run = record run { files = run.files ++ closed_file ∷ [] }

-- `input` and `output`, on which `reset` and `rewrite` have no effect
abbrev pub is_required : ℕ → Bool
is_required number = nat_lt number 2

abbrev pub begun : (TextFile → TextFile) → ℕ → RunFiles → RunFiles
begun anew number run = if is_required number then run else with_file number (anew (file_at run number)) run

abbrev pub after_reset : ℕ → RunFiles → RunFiles
after_reset number run = begun reset number run

abbrev pub after_rewrite : ℕ → RunFiles → RunFiles
after_rewrite number run = begun rewrite number run

-- why a call ends without a value, if it does
abbrev pub fault_of : {A : Type 0} → FileCall A → Option FileEnd
fault_of (Gives value f) = None
fault_of (Fails fault) = Some (end.Fault fault)

-- ---- writing

-- why so many bytes are not written to a file, if they are not: its state comes before the limit
abbrev pub write_refusal : ℕ → ℕ → RunFiles → Option FileEnd
write_refusal number count run = if not (is_writing (file_at run number).state) then Some (end.Fault WRONG_STATE)
    else if nat_lt OUTPUT_LIMIT (run.written + count) then Some (end.Limit FILE_BYTES)
    else None

-- items written at the end of a file, and counted
abbrev pub after_writing : ℕ → List Item → RunFiles → RunFiles
after_writing number items run = record { files = slice_set run.files number (with_written items (file_at run number)); written = run.written + length items }

-- An error is this refusal. Memory is wanting only where there is none.
abbrev pub IsDue : FileEnd → Option FileEnd → Type 0
IsDue (end.Fault fault) refused = refused ≡ Some (end.Fault fault)
IsDue (end.Limit which) refused = refused ≡ Some (end.Limit which)
IsDue end.Memory refused = refused ≡ None
