-- A session and the command that waits for lines.
use Rattle.std.specs.Prelude.{◌≡◌, ◌<◌, ◌≤◌, ℕ, Option, Some, None, length, List, [], ◌∷◌, ◌++◌}
use Rattle.mp_script.specs.declared.commands.Command.{Command}
use Rattle.mp_script.specs.Meaning.{wants_of}
use Rattle.mp_session.specs.declared.state.State.{State}
use Rattle.mp_session.specs.Lines.{Stand, step, closing}
use Rattle.mp_session.specs.Transcript.{script_ended}
use Rattle.mp_session.specs.declared.session.Turn.{Turn}
use Rattle.mp_session.specs.declared.session.Turn.TheVariants as turn

-- a command that waits has fewer lines than it takes
abbrev pub IsOpen : Option Command → Type 0
IsOpen None = Unit {0}
IsOpen (Some command) = (length command.lines < command.wants) × (command.wants ≡ wants_of command.verb) × (command.wants < 1000000000)

-- a command that was given a line has no more lines than it takes
abbrev pub IsNext : Option Command → Type 0
IsNext None = Unit {0}
IsNext (Some command) = (length command.lines ≤ command.wants) × (command.wants ≡ wants_of command.verb) × (command.wants < 1000000000)

abbrev pub standing : State → Option Command → Stand
standing state waiting = record { state = state; waiting = waiting }

-- where a script goes on after a turn
abbrev pub goes : Turn → Stand → Option Stand
goes turn.On stand = Some stand
goes turn.Quit stand = None

-- what is written at the end of a script, of which this is the part after the last line end
abbrev pub last_bytes : Stand → List ℕ → List ℕ
last_bytes stand [] = closing script_ended (Some stand)
last_bytes stand (b ∷ line) = (step stand (b ∷ line)).bytes ++ closing script_ended (step stand (b ∷ line)).now
