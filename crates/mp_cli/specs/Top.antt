-- What the top calls promise, form by form and status by status.
use Rattle.std.specs.Prelude.{◌≡◌, ℕ, ◌<◌, ◌≤◌, ◌++◌, Bool, true, false, List, [], length, Option, Some, None, ⊤, ◌⊎◌}
use Rattle.std.specs.Io.KnownBytes.{Consumes, IsAtEnd}
use Rattle.mp_base.specs.declared.limits.TheConstants.{SCRIPT_LIMIT}
use Rattle.mp_base.specs.Text.{lines_of}
use Rattle.mp_edge.specs.Told.{Grows, IsFront}
use Rattle.mp_session.specs.Transcript.{so_far, transcript, Quits}
use Rattle.mp_session.specs.Replies.{list_transcript}
use Rattle.mp_cli.specs.declared.forms.Form.{Form}
use Rattle.mp_cli.specs.declared.forms.Form.TheVariants as form
use Rattle.mp_cli.specs.declared.status.Status.{Status}
use Rattle.mp_cli.specs.declared.status.Status.TheVariants as status

-- the number with which the program exits
abbrev pub number_of : Status → ℕ
number_of status.Done = 0
number_of status.Words = 1
number_of status.ReadFault = 2
number_of status.WriteFault = 3
number_of status.Memory = 4
number_of status.ScriptLimit = 5

-- whether a call that ended so met a read, or a write, that failed
abbrev pub read_failed_at : Status → Bool
read_failed_at status.Done = false
read_failed_at status.Words = false
read_failed_at status.ReadFault = true
read_failed_at status.WriteFault = false
read_failed_at status.Memory = false
read_failed_at status.ScriptLimit = false

abbrev pub write_failed_at : Status → Bool
write_failed_at status.Done = false
write_failed_at status.Words = false
write_failed_at status.ReadFault = false
write_failed_at status.WriteFault = true
write_failed_at status.Memory = false
write_failed_at status.ScriptLimit = false

-- the answer to all the bytes that are read
abbrev pub transcript_of : Form → List ℕ → List ℕ
transcript_of form.List taken = list_transcript (lines_of taken)
transcript_of form.Serial taken = transcript taken

-- what is answered of these bytes before the end is known
abbrev pub so_far_of : Form → List ℕ → List ℕ
so_far_of form.List taken = []
so_far_of form.Serial taken = so_far taken

-- a whole `quit` line of the script stands in these bytes
abbrev pub QuitsIn : Form → List ℕ → Type 0
QuitsIn form.List taken = ⊥
QuitsIn form.Serial taken = Quits taken

-- What was written is the front of the answer, and of the answer so far where something is left.
abbrev pub IsPartly : Form → List ℕ → List ℕ → Option (List ℕ) → Type 0
IsPartly asked taken written left = IsFront written (transcript_of asked taken) × (IsFront written (so_far_of asked taken) ⊎ IsAtEnd left)

-- what was taken and written, and what is left, where a call of this form ended so
abbrev pub Holds : Form → Status → List ℕ → List ℕ → Option (List ℕ) → Type 0
Holds asked status.Done taken written left = (written ≡ transcript_of asked taken) × ((IsAtEnd left × (length taken < SCRIPT_LIMIT)) ⊎ QuitsIn asked taken)
Holds asked status.Words taken written left = ⊥
Holds asked status.ReadFault taken written left = (written ≡ so_far_of asked taken) × (¬ QuitsIn asked taken) × (length taken < SCRIPT_LIMIT)
Holds asked status.WriteFault taken written left = IsPartly asked taken written left
Holds asked status.Memory taken written left = IsPartly asked taken written left
Holds asked status.ScriptLimit taken written left = (written ≡ so_far_of asked taken) × (¬ QuitsIn asked taken) × (length taken ≡ SCRIPT_LIMIT)

-- the same for words of a form, and for words of none
abbrev pub HoldsFor : Option Form → Status → List ℕ → List ℕ → Option (List ℕ) → Type 0
HoldsFor None ended taken written left = (ended ≡ status.Words) × (taken ≡ []) × (written ≡ [])
HoldsFor (Some asked) ended taken written left = Holds asked ended taken written left

-- What was taken of a script is some bytes and then those of the last read, at most 4,096. The first hold no whole
-- `quit` line, and all that is answered of them was written. So nothing is read behind a `quit` line, or behind a
-- command whose reply was not written, but for bytes that one read could have given.
pub record LastRead (taken written : List ℕ) : Type 0 where
  pub before : List ℕ
  pub given : List ℕ
  pub all : taken ≡ before ++ given
  pub one_read : length given ≤ 4096
  pub no_quit : ¬ Quits before
  pub answered : IsFront (so_far before) written

-- the same for words of a form; a text is read to its end before any of it is answered
abbrev pub LastReadFor : Option Form → List ℕ → List ℕ → Type 0
LastReadFor None taken written = ⊤
LastReadFor (Some form.List) taken written = ⊤
LastReadFor (Some form.Serial) taken written = LastRead taken written

-- What a call took and wrote. The bytes are those that the source and the sink tell, and those that were left of
-- the source; where one of them tells nothing, nothing is said of it.
pub record Met (asked : Option Form) (ended : Status) (taken_before taken_after left_before left_after written_before written_after : Option (List ℕ)) : Type 0 where
  pub taken : List ℕ
  pub written : List ℕ
  pub takes : Grows taken_before taken_after taken
  pub leaves : Consumes left_before left_after taken
  pub writes : Grows written_before written_after written
  pub limit : length taken ≤ SCRIPT_LIMIT
  pub holds : HoldsFor asked ended taken written left_after
  pub last_read : LastReadFor asked taken written

-- A whole `quit` line of the script stands in the first bytes, no more of them than a script may have.
pub record QuitsInTime (script : List ℕ) : Type 0 where
  pub front : List ℕ
  pub first : IsFront front script
  pub few : length front ≤ SCRIPT_LIMIT
  pub quits : Quits front

-- there are fewer bytes than a script may have, or a `quit` line of the script stands among so many
abbrev pub IsWithinLimit : Form → List ℕ → Type 0
IsWithinLimit form.List bytes = length bytes < SCRIPT_LIMIT
IsWithinLimit form.Serial bytes = (length bytes < SCRIPT_LIMIT) ⊎ QuitsInTime bytes

-- Where the bytes left before the call are known and within the limit, all of the answer to them is written, or memory
-- was wanting.
abbrev pub Completes : Option Form → Status → Option (List ℕ) → Option (List ℕ) → Option (List ℕ) → Type 0
Completes None ended left written_before written_after = ⊤
Completes (Some asked) ended left written_before written_after =
    (bytes : List ℕ) → left ≡ Some bytes → IsWithinLimit asked bytes
    → (ended ≡ status.Memory) ⊎ ((ended ≡ status.Done) × Grows written_before written_after (transcript_of asked bytes))
