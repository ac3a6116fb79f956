-- What is kept before a change, and from where on a text is as before, told by where tokens and errors start and end.
use Rattle.std.specs.Prelude.{◌≡◌, ◌↔◌, ◌⊎◌, ℕ, ◌+◌, ◌≤◌, List, length}
use Rattle.std.specs.List.{Any}
use Rattle.mp_ast.specs.declared.errors.LexError.{LexError}
use Rattle.mp_ast.specs.declared.tokens.Token.{Token}
use Rattle.mp_lex.specs.declared.change.Change.{Change}
use Rattle.mp_lex.specs.Lexed.{lexical_tokens, lexical_errors}
use Rattle.mp_lex.specs.Relexing.{kept_to, same_from}

-- a token or an error ends just before the place
abbrev pub EndsAt : List Token → List LexError → ℕ → Type 0
EndsAt tokens errors place = Any (λ token. token.start + token.len ≡ place) tokens ⊎ Any (λ error. error.start + error.len ≡ place) errors

-- a token or an error starts at the place
abbrev pub StartsAt : List Token → List LexError → ℕ → Type 0
StartsAt tokens errors place = Any (λ token. token.start ≡ place) tokens ⊎ Any (λ error. error.start ≡ place) errors

-- The greatest end of a token or error with two bytes and more between it and the change; 0 where there is none.
pub record IsLastBefore (start : ℕ) (tokens : List Token) (errors : List LexError) (place : ℕ) : Type 0 where
  pub end : (place ≡ 0) ⊎ (EndsAt tokens errors place × (place + 2 ≤ start))
  pub greatest : (end : ℕ) → EndsAt tokens errors end → end + 2 ≤ start → end ≤ place

-- The place is past the added bytes, and one of these stood there before, past the bytes that were taken away, and was
-- moved.
abbrev pub StoodAt : Change → List Token → List LexError → ℕ → Type 0
StoodAt change tokens errors place = (change.start + change.added ≤ place) × (old : ℕ) × (change.start + change.removed ≤ old) ×
    (place + change.removed ≡ old + change.added) × StartsAt tokens errors old

-- The least start of a token or error of the text at which an old one stood; the text's end where there is none.
pub record IsFirstAgain (change : Change) (tokens : List Token) (errors : List LexError) (after : List ℕ) (place : ℕ) : Type 0 where
  pub within : place ≤ length after
  pub start : (place ≡ length after) ⊎ (StartsAt (lexical_tokens after) (lexical_errors after) place × StoodAt change tokens errors place)
  pub least : (start : ℕ) → StartsAt (lexical_tokens after) (lexical_errors after) start → StoodAt change tokens errors start → place ≤ start

-- There is one such place, and it is where what is kept ends.
abbrev pub IsTheKept : ℕ → List Token → List LexError → ℕ → Type 0
IsTheKept start tokens errors place = IsLastBefore start tokens errors place ↔ (place ≡ kept_to start tokens errors)

-- There is one such place, and it is the one from which on all is as before.
abbrev pub IsTheSame : Change → List Token → List LexError → List ℕ → ℕ → Type 0
IsTheSame change tokens errors after place = IsFirstAgain change tokens errors after place ↔ (place ≡ same_from change tokens errors after)
