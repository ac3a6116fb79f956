-- What an edit changes in the bytes of a text: from a place on, so many bytes go, and others come.
use Rattle.std.specs.Prelude.{◌≡◌, ℕ, ◌+◌, ◌-◌, ◌≤◌, List, [], ◌++◌, take, drop, length}
use Rattle.mp_base.specs.Text.{AreLines, bytes_of, lines_of}
use Rattle.mp_text.specs.Edits.{IsInRange, edited}
use Rattle.mp_text.specs.declared.edits.Edit.{Edit}
use Rattle.mp_text.specs.declared.edits.Edit.TheVariants as edit

-- the bytes of the first n lines, with their line ends
abbrev pub size_to : ℕ → List (List ℕ) → ℕ
size_to n text = length (bytes_of (take n text))

-- where the change starts
unfoldable pub change_start : Edit → List (List ℕ) → ℕ
change_start (edit.Insert after lines) text = size_to after text
change_start (edit.Delete first last) text = size_to (first - 1) text
change_start (edit.Replace first last lines) text = size_to (first - 1) text
change_start (edit.Sub line column count bytes) text = size_to (line - 1) text + (column - 1)

-- how many bytes go: those of the lines with their line ends, or those of one line
unfoldable pub change_removed : Edit → List (List ℕ) → ℕ
change_removed (edit.Insert after lines) text = 0
change_removed (edit.Delete first last) text = size_to last text - size_to (first - 1) text
change_removed (edit.Replace first last lines) text = size_to last text - size_to (first - 1) text
change_removed (edit.Sub line column count bytes) text = count

-- the bytes that come
unfoldable pub change_bytes : Edit → List ℕ
change_bytes (edit.Insert after lines) = bytes_of lines
change_bytes (edit.Delete first last) = []
change_bytes (edit.Replace first last lines) = bytes_of lines
change_bytes (edit.Sub line column count bytes) = bytes

-- these bytes with others in place of so many from a place on
abbrev pub spliced : ℕ → ℕ → List ℕ → List ℕ → List ℕ
spliced start removed new bytes = take start bytes ++ (new ++ drop (start + removed) bytes)

-- The bytes of an edited text are those of the text with the edit's bytes in place of those that it takes away.
pub record IsByteChange (e : Edit) (text : List (List ℕ)) : Type 0 where
  pub within : change_start e text + change_removed e text ≤ length (bytes_of text)
  pub bytes : bytes_of (edited e text) ≡ spliced (change_start e text) (change_removed e text) (change_bytes e) (bytes_of text)

-- The lines of the spliced bytes are the edited text.
abbrev pub SplicesLines : Edit → List (List ℕ) → Type 0
SplicesLines e text = IsInRange e text → AreLines (edited e text) →
    lines_of (spliced (change_start e text) (change_removed e text) (change_bytes e) (bytes_of text)) ≡ edited e text
