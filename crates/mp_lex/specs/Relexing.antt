-- Lexing only round a change of a text.
use Rattle.std.specs.Prelude.{◌≡◌, ℕ, ◌+◌, ◌-◌, ◌≤◌, Bool, ◌==◌, ◌||◌, ◌&&◌, nat_le, min, max}
use Rattle.std.specs.Prelude.{List, [], ◌∷◌, ◌++◌, length, take, drop, map}
use Rattle.std.specs.List.{filter, list_any}
use Rattle.mp_base.specs.declared.limits.TheConstants.{SCRIPT_LIMIT}
use Rattle.mp_ast.specs.declared.errors.LexError.{LexError}
use Rattle.mp_ast.specs.declared.tokens.Token.{Token}
use Rattle.mp_lex.specs.declared.change.Change.{Change}
use Rattle.mp_lex.specs.Lexed.{lexical_tokens, lexical_errors}

-- The change makes the second text of the first: other bytes stand in place of those that it takes away.
pub record Changes (change : Change) (before after : List ℕ) : Type 0 where
  pub removed : change.start + change.removed ≤ length before
  pub added : change.start + change.added ≤ length after
  pub front : take change.start after ≡ take change.start before
  pub back : drop (change.start + change.added) after ≡ drop (change.start + change.removed) before

-- the tokens and errors are those of a text that the change makes into this one
pub record IsChanged (tokens : List Token) (errors : List LexError) (change : Change) (after : List ℕ) : Type 0 where
  pub before : List ℕ
  pub short : length before ≤ SCRIPT_LIMIT
  pub tokens_are : tokens ≡ lexical_tokens before
  pub errors_are : errors ≡ lexical_errors before
  pub changes : Changes change before after

-- the places at which tokens and errors start, and those just past their last bytes
abbrev pub starts_of : List Token → List LexError → List ℕ
starts_of tokens errors = map (λ token. token.start) tokens ++ map (λ error. error.start) errors

abbrev pub token_end : Token → ℕ
token_end token = token.start + token.len

abbrev pub error_end : LexError → ℕ
error_end error = error.start + error.len

abbrev pub ends_of : List Token → List LexError → List ℕ
ends_of tokens errors = map token_end tokens ++ map error_end errors

-- the greatest of these numbers, or 0 where there is none
abbrev pub greatest : List ℕ → ℕ
greatest [] = 0
greatest (n ∷ ns) = max n (greatest ns)

-- the least of these numbers and the end
abbrev pub least_or : ℕ → List ℕ → ℕ
least_or end [] = end
least_or end (n ∷ ns) = min n (least_or end ns)

-- a place with two bytes and more before the change
abbrev pub is_before : ℕ → ℕ → Bool
is_before start place = nat_le (place + 2) start

-- Up to here old tokens and errors are kept: the greatest end of one with two bytes and more between it and the change.
abbrev pub kept_to : ℕ → List Token → List LexError → ℕ
kept_to start tokens errors = greatest (filter (is_before start) (ends_of tokens errors))

-- one of these starts at the place
abbrev pub is_start : List Token → List LexError → ℕ → Bool
is_start tokens errors place = list_any (λ token. token.start == place) tokens || list_any (λ error. error.start == place) errors

-- A place of the new text past the added bytes, at which an old token or error starts, moved.
abbrev pub is_start_again : Change → List Token → List LexError → ℕ → Bool
is_start_again change tokens errors place = nat_le (change.start + change.added) place && is_start tokens errors (place + change.removed - change.added)

-- From here on tokens and errors are as before: the first start of a new one at which an old one starts again, or the
-- end of the new text.
abbrev pub same_from : Change → List Token → List LexError → List ℕ → ℕ
same_from change tokens errors after = least_or (length after) (filter (is_start_again change tokens errors) (starts_of (lexical_tokens after) (lexical_errors after)))

-- Other bytes in place of so many from a place on are a change, and so is a whole text in place of another.
pub record AreChanges (start removed : ℕ) (new before after : List ℕ) : Type 0 where
  pub splice : start + removed ≤ length before → Changes (record { start = start; removed = removed; added = length new }) before
      (take start before ++ (new ++ drop (start + removed) before))
  pub whole : Changes (record { start = 0; removed = length before; added = length after }) before after
