-- What a session writes over a whole script: its replies to the commands of the script, up to the first `quit`.
use Rattle.std.specs.Prelude.{◌≡◌, ℕ, zero, suc, List, [], ◌∷◌, ◌++◌, Bool, true, false, if◌then◌else◌, length, nat_lt, take, drop, Option, Some, None, codes}
use Rattle.mp_base.specs.Text.{cut, lines_of}
use Rattle.mp_script.specs.Meaning.{meant, wants_of}
use Rattle.mp_script.specs.declared.commands.Command.{Command}
use Rattle.mp_script.specs.declared.commands.Verb.{Verb}
use Rattle.mp_script.specs.declared.commands.Verb.TheVariants as verb
use Rattle.mp_session.specs.declared.state.State.{State}
use Rattle.mp_session.specs.Replies.{reply, start}

-- what a script says next: a line that is no command, a command with all the lines it takes, or a command before
-- whose lines the end came
pub data Said : Type 0 where
  Bad : Said
  Whole : Command → Said
  Ended : Command → Said

-- the command of a line that means this, with no lines yet; None: the line means nothing
abbrev pub begun : Option Verb → Option Command
begun None = None
begun (Some v) = Some (record { verb = v; wants = wants_of v; lines = [] })

-- what a line says with the lines that follow it, and the lines that are left
abbrev pub said_first : Option Command → List (List ℕ) → Said × List (List ℕ)
said_first None lines = (Bad, lines)
said_first (Some command) lines =
    if nat_lt (length lines) command.wants then (Ended command, [])
    else (Whole (record { verb = command.verb; wants = command.wants; lines = take command.wants lines }), drop command.wants lines)

-- what at most n of these lines say
unfoldable pub said_by : ℕ → List (List ℕ) → List Said
said_by zero lines = []
said_by (suc n) [] = []
said_by (suc n) (line ∷ lines) = let first = said_first (begun (meant line)) lines in first.0 ∷ said_by n first.1

-- what these lines say
abbrev pub commands_of : List (List ℕ) → List Said
commands_of lines = said_by (length lines) lines

abbrev pub is_quit : Verb → Bool
is_quit verb.Quit = true
is_quit v = false

abbrev pub bad_command : List ℕ
bad_command = codes "? 20 bad command\n"

abbrev pub script_ended : List ℕ
script_ended = codes "? 25 script ended\n"

-- what was answered, and whether a `quit` was among the commands
pub record Answered : Type 0 where
  pub bytes : List ℕ
  pub quit : Bool

-- these bytes, and then what else was answered
abbrev pub then_answered : List ℕ → Answered → Answered
then_answered bytes rest = record { bytes = bytes ++ rest.bytes; quit = rest.quit }

-- The replies to what a script says, from a state on, up to the first `quit`; `ending` is what is written of a
-- command before whose lines the end came.
unfoldable pub replies : List ℕ → State → List Said → Answered
replies ending state [] = record { bytes = []; quit = false }
replies ending state (Bad ∷ rest) = then_answered bad_command (replies ending state rest)
replies ending state (Ended command ∷ rest) = record { bytes = ending; quit = false }
replies ending state (Whole command ∷ rest) =
    let replied = reply state command in
    if is_quit command.verb then record { bytes = replied.bytes; quit = true }
    else then_answered replied.bytes (replies ending replied.state rest)

-- what is written for a script whose end is reached after these bytes
unfoldable pub transcript : List ℕ → List ℕ
transcript script = (replies script_ended start (commands_of (lines_of script))).bytes

-- what the commands whose lines, and the lines they take, all end with a line end in these bytes lead to
unfoldable pub answered_so_far : List ℕ → Answered
answered_so_far script = replies [] start (commands_of (cut script).whole)

abbrev pub so_far : List ℕ → List ℕ
so_far script = (answered_so_far script).bytes

-- a whole `quit` line of the script stands in these bytes
abbrev pub Quits : List ℕ → Type 0
Quits script = (answered_so_far script).quit ≡ true
