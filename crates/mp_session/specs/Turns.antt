-- How the obeying of a command ends.
use Rattle.std.specs.Prelude.{Bool, true, false, Result, Ok, Err, if◌then◌else◌}
use Rattle.mp_script.specs.declared.commands.Verb.{Verb}
use Rattle.mp_session.specs.Transcript.{is_quit}
use Rattle.mp_session.specs.declared.session.SessionError.{SessionError}
use Rattle.mp_session.specs.declared.session.SessionError.TheVariants as error
use Rattle.mp_session.specs.declared.session.Turn.{Turn}
use Rattle.mp_session.specs.declared.session.Turn.TheVariants as turn

abbrev pub turn_of : Verb → Turn
turn_of verb = if is_quit verb then turn.Quit else turn.On

-- whether a write failed
abbrev pub is_write_fault : {A : Type 0} → Result A SessionError → Bool
is_write_fault (Ok answer) = false
is_write_fault (Err error.WriteFault) = true
is_write_fault (Err error.Memory) = false
