-- The same line by line, as a script is read: where it stands between two lines, and what a line leads to.
use Rattle.std.specs.Prelude.{◌≡◌, ℕ, List, [], ◌∷◌, ◌++◌, if◌then◌else◌, length, nat_lt, Option, Some, None, is_none}
use Rattle.mp_base.specs.Text.{cut, lines_of}
use Rattle.mp_script.specs.Meaning.{meant}
use Rattle.mp_script.specs.declared.commands.Command.{Command}
use Rattle.mp_session.specs.declared.state.State.{State}
use Rattle.mp_session.specs.Replies.{reply, start}
use Rattle.mp_session.specs.Transcript.{begun, is_quit, bad_command, script_ended, transcript, answered_so_far}

-- where a script stands between two lines: the session's state, and the command that waits for lines
pub record Stand : Type 0 where
  pub state : State
  pub waiting : Option Command

-- what some lines led to: the bytes that were written, and where the script goes on; None after `quit`
pub record Ran : Type 0 where
  pub bytes : List ℕ
  pub now : Option Stand

abbrev pub idle : State → Stand
idle state = record { state = state; waiting = None }

-- a command that has all its lines is obeyed
abbrev pub obeyed : State → Command → Ran
obeyed state command =
    let replied = reply state command in
    record { bytes = replied.bytes; now = (if is_quit command.verb then None else Some (idle replied.state)) }

-- a command that has some of its lines
abbrev pub given : State → Command → Ran
given state command =
    if nat_lt (length command.lines) command.wants then record { bytes = []; now = Some (record { state = state; waiting = Some command }) }
    else obeyed state command

-- the command that a line begins, or to which it is given; None: the line is no command
unfoldable pub next_of : Option Command → List ℕ → Option Command
next_of None line = begun (meant line)
next_of (Some command) line = Some (record { verb = command.verb; wants = command.wants; lines = command.lines ++ line ∷ [] })

abbrev pub answered : State → Option Command → Ran
answered state None = record { bytes = bad_command; now = Some (idle state) }
answered state (Some command) = given state command

-- one line
unfoldable pub step : Stand → List ℕ → Ran
step stand line = answered stand.state (next_of stand.waiting line)

-- nothing is read after `quit`
abbrev pub go_on : List ℕ → Option Stand → List ℕ → Ran
go_on bytes None line = record { bytes = bytes; now = None }
go_on bytes (Some stand) line = let ran = step stand line in record { bytes = bytes ++ ran.bytes; now = ran.now }

-- one line after another
unfoldable pub after : Ran → List (List ℕ) → Ran
after ran [] = ran
after ran (line ∷ lines) = after (go_on ran.bytes ran.now line) lines

abbrev pub from : Stand → Ran
from stand = record { bytes = []; now = Some stand }

-- what is written at the end, where `ending` is written of a command that still waits
abbrev pub closing_of : List ℕ → Option Command → List ℕ
closing_of ending None = []
closing_of ending (Some command) = ending

abbrev pub closing : List ℕ → Option Stand → List ℕ
closing ending None = []
closing ending (Some stand) = closing_of ending stand.waiting

-- what the lines that are ended in these bytes led to
unfoldable pub ran_so_far : List ℕ → Ran
ran_so_far script = after (from (idle start)) (cut script).whole

-- what all the lines of a script led to, the last one also where it is not ended
unfoldable pub ran_whole : List ℕ → Ran
ran_whole script = after (from (idle start)) (lines_of script)

-- what is written for all the lines of a script
abbrev pub told : Ran → List ℕ
told ran = ran.bytes ++ closing script_ended ran.now

-- Line by line a script is answered as it is command by command.
pub record AnswersAlike (script : List ℕ) : Type 0 where
  pub whole : told (ran_whole script) ≡ transcript script
  pub so_far : record { bytes = (ran_so_far script).bytes; quit = is_none (ran_so_far script).now } ≡ answered_so_far script
