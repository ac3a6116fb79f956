-- What the words after the program's name ask for.
use Rattle.std.specs.Prelude.{ℕ, List, [], ◌∷◌, Option, Some, None, codes, if◌then◌else◌}
use Rattle.std.specs.Str.{bytes_eq}
use Rattle.mp_cli.specs.declared.forms.Form.{Form}
use Rattle.mp_cli.specs.declared.forms.Form.TheVariants as form

-- the form of one word
abbrev pub form_of_word : List ℕ → Option Form
form_of_word word = if bytes_eq word (codes "list") then Some form.List else (if bytes_eq word (codes "serial") then Some form.Serial else None)

-- the form of these words, each a list of bytes
abbrev pub form_of : List (List ℕ) → Option Form
form_of [] = None
form_of (word ∷ []) = form_of_word word
form_of (word ∷ next ∷ words) = None
