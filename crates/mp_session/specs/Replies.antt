-- What a session holds, and what it replies to a command.
use Rattle.std.specs.Prelude.{ℕ, ◌+◌, List, [], ◌∷◌, ◌++◌, codes, decimal, length, Option, Some, None, if◌then◌else◌}
use Rattle.mp_base.specs.Text.{bytes_of}
use Rattle.mp_script.specs.declared.commands.Command.{Command}
use Rattle.mp_script.specs.declared.commands.Verb.{Verb}
use Rattle.mp_script.specs.declared.commands.Verb.TheVariants as verb
use Rattle.mp_text.specs.declared.edits.Edit.{Edit}
use Rattle.mp_text.specs.declared.edits.Edit.TheVariants as edit
use Rattle.mp_text.specs.declared.errors.TextError.{TextError}
use Rattle.mp_text.specs.declared.errors.TextError.TheVariants as error
use Rattle.mp_text.specs.Edits.{edited}
use Rattle.mp_text.specs.Refusals.{back_refusal, first_of, line_long, refusal, too_long}
use Rattle.mp_text.specs.Versions.{stands, version_at}
use Rattle.mp_session.specs.declared.state.State.{State}
use Rattle.mp_session.specs.Listing.{text_listing}

-- what contracts see of a session: its state, and how many commands it has obeyed
pub record View : Type 0 where
  pub state : State
  pub obeyed : ℕ

pub record Replied : Type 0 where
  pub state : State
  pub bytes : List ℕ

-- one version, which is empty, and no input
unfoldable pub start : State
start = record { versions = [] ∷ []; input = [] }

-- a reply that changes nothing
abbrev pub said : State → List ℕ → Replied
said state bytes = record { state = state; bytes = bytes }

-- the number of the current version, which is the last one made
abbrev pub current : State → ℕ
current state = length state.versions

-- the version that a command means: the one it names, or else the current one
abbrev pub meant_version : Option ℕ → State → ℕ
meant_version None state = current state
meant_version (Some version) state = version

abbrev pub version_line : ℕ → List ℕ
version_line version = codes "version " ++ (decimal version ++ codes "\n")

-- the line of a refusal of the texts; `version` is the one that was named
abbrev pub refusal_line : TextError → ℕ → List ℕ
refusal_line error.NoVersion version = codes "? 1 no version " ++ (decimal version ++ codes "\n")
refusal_line (error.Range last) version = codes "? 2 out of range, last is " ++ (decimal last ++ codes "\n")
refusal_line (error.TooLong bytes) version = codes "? 3 text too long, " ++ (decimal bytes ++ codes " bytes\n")
refusal_line (error.LineLong line) version = codes "? 4 line " ++ (decimal line ++ codes " too long\n")
refusal_line error.VersionsFull version = codes "? 5 versions full\n"
refusal_line error.Memory version = []

-- a new version of this text, or its refusal
abbrev pub made : Option TextError → ℕ → State → List (List ℕ) → Replied
made (Some refused) version state text = said state (refusal_line refused version)
made None version state text = record {
  state = record { versions = state.versions ++ text ∷ []; input = state.input };
  bytes = version_line (current state + 1);
}

-- an edit of the current version
abbrev pub edit_reply : State → Edit → Replied
edit_reply state edit = made (refusal state.versions (current state) edit) (current state) state (edited edit (version_at state.versions (current state)))

abbrev pub back_reply : State → ℕ → Replied
back_reply state version = made (back_refusal state.versions version) version state (version_at state.versions version)

-- a version with its number and the number of its lines
abbrev pub whole_version : ℕ → List (List ℕ) → List ℕ
whole_version version text = codes "version " ++ (decimal version ++ (codes ", " ++ (decimal (length text) ++ (codes " lines\n" ++ bytes_of text))))

abbrev pub text_reply : State → ℕ → Replied
text_reply state version = said state (if stands state.versions version then whole_version version (version_at state.versions version) else refusal_line error.NoVersion version)

abbrev pub list_reply : State → ℕ → Replied
list_reply state version = said state (if stands state.versions version then text_listing (version_at state.versions version) else refusal_line error.NoVersion version)

abbrev pub input_reply : State → List (List ℕ) → Replied
input_reply state lines = record {
  state = record { versions = state.versions; input = lines };
  bytes = codes "input " ++ (decimal (length lines) ++ codes " lines\n");
}

abbrev pub not_built : State → Replied
not_built state = said state (codes "? 90 not built\n")

-- the one line that `sub` takes
abbrev pub one_line : List (List ℕ) → List ℕ
one_line [] = []
one_line (line ∷ lines) = line

abbrev pub by_verb : Verb → List (List ℕ) → State → Replied
by_verb verb.Nothing lines state = said state []
by_verb (verb.Insert after count) lines state = edit_reply state (edit.Insert after lines)
by_verb (verb.Delete first last) lines state = edit_reply state (edit.Delete first last)
by_verb (verb.Replace first last count) lines state = edit_reply state (edit.Replace first last lines)
by_verb (verb.Sub line column count) lines state = edit_reply state (edit.Sub line column count (one_line lines))
by_verb (verb.Back version) lines state = back_reply state version
by_verb (verb.Text version) lines state = text_reply state (meant_version version state)
by_verb (verb.List version) lines state = list_reply state (meant_version version state)
by_verb verb.Ready lines state = not_built state
by_verb (verb.Input count) lines state = input_reply state lines
by_verb (verb.Break line) lines state = not_built state
by_verb (verb.Clear line) lines state = not_built state
by_verb (verb.Run steps) lines state = not_built state
by_verb (verb.Go steps) lines state = not_built state
by_verb (verb.Step steps) lines state = not_built state
by_verb (verb.Show access) lines state = not_built state
by_verb verb.Chain lines state = not_built state
by_verb verb.Kill lines state = not_built state
by_verb verb.Quit lines state = said state []

-- the reply to a command that has all its lines
unfoldable pub reply : State → Command → Replied
reply state command = by_verb command.verb command.lines state

-- why a text may not be a version: it breaks a limit
unfoldable pub limit_refusal : List (List ℕ) → Option TextError
limit_refusal text = first_of (line_long text ∷ too_long text ∷ [])

abbrev pub listed : List (List ℕ) → Option TextError → List ℕ
listed text None = text_listing text
listed text (Some refused) = refusal_line refused 0

-- What is written where the listing of a text is asked for, outside a session: where the text breaks a limit, the line
-- of that refusal.
unfoldable pub list_transcript : List (List ℕ) → List ℕ
list_transcript text = listed text (limit_refusal text)
