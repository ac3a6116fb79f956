-- The keywords of commands, and which of them a word is.
use Rattle.std.specs.Prelude.{◌≡◌, ◌↔◌, ℕ, List, [], ◌∷◌, Option, Some, bytes_eq, codes}
use Rattle.std.specs.List.{find}
use Rattle.mp_script.specs.declared.keywords.Keyword.{Keyword}
use Rattle.mp_script.specs.declared.keywords.Keyword.TheVariants as keyword

abbrev pub spelling : Keyword → List ℕ
spelling keyword.Insert = codes "insert"
spelling keyword.Delete = codes "delete"
spelling keyword.Replace = codes "replace"
spelling keyword.Sub = codes "sub"
spelling keyword.Back = codes "back"
spelling keyword.Text = codes "text"
spelling keyword.Listing = codes "list"
spelling keyword.Ready = codes "ready"
spelling keyword.Input = codes "input"
spelling keyword.Break = codes "break"
spelling keyword.Clear = codes "clear"
spelling keyword.Run = codes "run"
spelling keyword.Go = codes "go"
spelling keyword.Step = codes "step"
spelling keyword.Show = codes "show"
spelling keyword.Where = codes "where"
spelling keyword.Kill = codes "kill"
spelling keyword.Quit = codes "quit"

abbrev pub keywords : List Keyword
keywords =
    keyword.Insert ∷ keyword.Delete ∷ keyword.Replace ∷ keyword.Sub ∷ keyword.Back ∷
    keyword.Text ∷ keyword.Listing ∷ keyword.Ready ∷ keyword.Input ∷ keyword.Break ∷
    keyword.Clear ∷ keyword.Run ∷ keyword.Go ∷ keyword.Step ∷
    keyword.Show ∷ keyword.Where ∷ keyword.Kill ∷ keyword.Quit ∷ []

-- the keyword that is spelled so; letter case counts
unfoldable pub keyword_of : List ℕ → Option Keyword
keyword_of word = find (λ k. bytes_eq (spelling k) word) keywords

-- What `keyword_of` means: it finds each keyword by its spelling, and finds nothing else.
abbrev pub IsFoundBySpelling : List ℕ → Keyword → Type 0
IsFoundBySpelling word k = (keyword_of word ≡ Some k) ↔ (word ≡ spelling k)
