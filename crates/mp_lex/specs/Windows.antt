-- No statement cites this: what the code has read of a changed text, and what it has made of it.
use Rattle.std.specs.Prelude.{◌≡◌, ℕ, ◌+◌, ◌-◌, ◌^◌, ◌<◌, ◌≤◌, Bool, true, false, nat_le, nat_lt, slice_index}
use Rattle.std.specs.Prelude.{List, ◌++◌, length, take, drop}
use Rattle.std.specs.List.{concat, filter}
use Rattle.mp_ast.specs.declared.errors.LexError.{LexError}
use Rattle.mp_ast.specs.declared.tokens.Token.{Token}
use Rattle.mp_lex.specs.declared.change.Change.{Change}
use Rattle.mp_lex.specs.Items.{is_item}
use Rattle.mp_lex.specs.Lengths.{comment_len}
use Rattle.mp_lex.specs.Split.{IsLongest, items_of}
use Rattle.mp_lex.specs.Lexed.{tokens_from, errors_from}
use Rattle.mp_lex.specs.Relexing.{is_start}

-- the same token, where what stood at the one place stands at the other
abbrev pub moved_token : ℕ → ℕ → Token → Token
moved_token from to token = record { kind = token.kind; start = token.start - from + to; len = token.len }

abbrev pub moved_error : ℕ → ℕ → LexError → LexError
moved_error from to error = record { start = error.start - from + to; len = error.len; code = error.code }

-- what is moved starts at the one place or past it, and moved it starts below 2^32
abbrev pub CanMove : ℕ → ℕ → ℕ → Type 0
CanMove from to start = (from ≤ start) × (start - from + to < 2 ^ 32)

-- these bytes are the text's from the place on
pub record IsRead (text : List ℕ) (from : ℕ) (bytes : List ℕ) : Type 0 where
  pub within : from + length bytes ≤ length text
  pub bytes_are : bytes ≡ take (length bytes) (drop from text)

-- the item that begins so many bytes past the first that was read ends at this one
pub record IsItemTo (text : List ℕ) (from at end : ℕ) : Type 0 where
  pub later : at < end
  pub longest : IsLongest is_item (end - at) (drop (from + at) text)

-- the item that begins here among the bytes that were read ends here in the text too, since two bytes past it were read
-- or there are no more
pub record IsDecided (bytes : List ℕ) (at end : ℕ) (whole : Bool) : Type 0 where
  pub later : at < end
  pub within : end ≤ length bytes
  pub longest : IsLongest is_item (end - at) (drop at bytes)
  pub decides : whole ≡ false → end + 2 ≤ length bytes

-- no item that begins here has two bytes past it among those that were read; where there are no more, none begins here
pub record IsUndecided (bytes : List ℕ) (at : ℕ) (whole : Bool) : Type 0 where
  pub more : (n : ℕ) → IsLongest is_item n (drop at bytes) → length bytes < at + n + 2
  pub last : whole ≡ true → at ≡ length bytes

-- those of a list that start before the place, and those that start there or past it
abbrev pub before_place : {X : Type 0} → (X → ℕ) → ℕ → List X → List X
before_place start place xs = filter (λ x. nat_lt (start x) place) xs

abbrev pub from_place : {X : Type 0} → (X → ℕ) → ℕ → List X → List X
from_place start place xs = filter (λ x. nat_le place (start x)) xs

-- the items of a text up to a place, with their tokens and errors
pub record IsLexedTo (text : List ℕ) (at : ℕ) (tokens : List Token) (errors : List LexError) : Type 0 where
  pub items : List (List ℕ)
  pub within : at ≤ length text
  pub size : length (concat items) ≡ at
  pub rest : items_of text ≡ items ++ items_of (drop at text)
  pub tokens_are : tokens ≡ tokens_from 0 items
  pub errors_are : errors ≡ errors_from 0 items

-- The place at which the reading stops lies past the change. It is the end of the text, or an old token or error starts
-- there again.
pub record IsStop (change : Change) (tokens : List Token) (errors : List LexError) (after : List ℕ) (stop : ℕ) : Type 0 where
  pub past : change.start + change.added ≤ stop
  pub again : stop < length after → is_start tokens errors (stop + change.removed - change.added) ≡ true

-- the byte at a place goes on a comment
pub record CommentGoesOn (text : List ℕ) (at : ℕ) : Type 0 where
  pub inside : at < length text
  pub one : comment_len (drop at text) ≡ 1 + comment_len (drop (at + 1) text)

-- the byte so many bytes past the first that was read was read, and is the text's
pub record IsByteAt (text : List ℕ) (from at : ℕ) (bytes : List ℕ) (byte : ℕ) : Type 0 where
  pub inside : at < length bytes
  pub is : byte ≡ slice_index text (from + at)
