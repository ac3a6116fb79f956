-- Why a row on a file does not go on, and how a file begins; only private functions cite this.
use Rattle.std.specs.Prelude.{ℕ, Option, Some}
use Rattle.mp_files.specs.declared.causes.FileEnd.{FileEnd}
use Rattle.mp_files.specs.declared.causes.FileEnd.TheVariants as end
use Rattle.mp_files.specs.TextFiles.{TextFile}
use Rattle.mp_machine.specs.declared.addresses.Address.{Address}
use Rattle.mp_machine.specs.declared.processor.Stop.{Stop}
use Rattle.mp_machine.specs.declared.processor.Stop.TheVariants as stop
use Rattle.mp_machine.specs.FileRows.{file_of, make_file, set_file}
use Rattle.mp_machine.specs.Outcomes.{Row, ◌>>=◌, ◌>>◌}

abbrev pub stop_for : FileEnd → Stop
stop_for (end.Fault number) = stop.Fault number
stop_for (end.Limit which) = stop.Limit which
stop_for end.Memory = stop.Memory

-- the file begins anew, or is made
abbrev pub begun_at : Address → Option ℕ → (TextFile → TextFile) → Row
begun_at a k new = do
  f ← file_of k
  make_file a k (new f)

-- the file of a number begins anew
abbrev pub begun_number : ℕ → (TextFile → TextFile) → Row
begun_number k new = do
  f ← file_of (Some k)
  set_file (Some k) (new f)
