-- What a parser of a list of tokens is, and the steps that every parser is made of: means, which no statement outside the
-- parser's crates names. A parser looks at one token past those that it takes.
use Rattle.std.specs.Prelude.{◌≡◌, ◌≢◌, ℕ, zero, suc, ◌+◌, Bool, true, false, if◌then◌else◌, nat_lt, bytes_eq, List, [], ◌∷◌, ◌++◌, length, Option, Some, None, Result, Ok, Err}
use Rattle.mp_ast.specs.declared.tokens.TokenKind.{TokenKind}
use Rattle.mp_ast.specs.declared.tokens.TokenKind.TheVariants as kind
use Rattle.mp_ast.specs.declared.leaves.Identifier.{Identifier}
use Rattle.mp_ast.specs.declared.leaves.Number.{Number}
use Rattle.mp_ast.specs.declared.leaves.CharacterString.{CharacterString}
use Rattle.mp_ast.specs.Rules.{Input}
use Rattle.mp_cursor.specs.declared.failure.Failure.{Failure}
use Rattle.mp_cursor.specs.declared.failure.Failure.TheVariants.{Memory, Wrong, TooDeep, TooMany}
use Rattle.mp_cursor.specs.declared.next.Next.{Next}
use Rattle.mp_cursor.specs.Nexts.{next_of, is, Nexts}

-- what is read and what is left, or where reading stopped
abbrev pub Outcome : Type 0 → Type 0
Outcome A = Result (A × Input) Failure

abbrev pub Parser : Type 0 → Type 0
Parser A = Input → Outcome A

-- ---- one after another

abbrev pub and_then : {A B : Type 0} → Outcome A → (A → Parser B) → Outcome B
and_then (Ok p) f = f p.0 p.1
and_then (Err e) f = Err e

infixl 10 ◌>>=◌
abbrev pub ◌>>=◌ : {A B : Type 0} → Parser A → (A → Parser B) → Parser B
p >>= f = λ i. and_then (p i) f

infixl 10 ◌>>◌
abbrev pub ◌>>◌ : {A B : Type 0} → Parser A → Parser B → Parser B
p >> q = p >>= (λ _. q)

abbrev pub pure : {A : Type 0} → A → Parser A
pure a = λ i. Ok (a, i)

infixr 11 ◌<$>◌
abbrev pub ◌<$>◌ : {A B : Type 0} → (A → B) → Parser A → Parser B
f <$> p = p >>= (λ x. pure (f x))

-- ---- the next token

unfoldable pub next_token : Input → Next
next_token i = next_of i.rest

unfoldable pub left : Input → ℕ
left i = length i.rest

abbrev pub behind_of : ℕ → ℕ → List TokenKind → Input
behind_of at declared [] = record { at = at; declared = declared; rest = [] }
behind_of at declared (k ∷ kinds) = record { at = at + 1; declared = declared; rest = kinds }

-- the input behind the next token
unfoldable pub behind : Input → Input
behind i = behind_of i.at i.declared i.rest

unfoldable pub wrong : Input → Failure
wrong i = Wrong (left i)

unfoldable pub too_deep : Input → Failure
too_deep i = TooDeep (left i)

unfoldable pub too_many : Input → Failure
too_many i = TooMany (left i)

abbrev pub refuse : {A : Type 0} → Parser A
refuse = λ i. Err (wrong i)

-- reads nothing, and gives the ordinal of the next token
abbrev pub here : Parser ℕ
here = λ i. Ok (i.at, i)

-- the next token, which is this one, by its ordinal
unfoldable pub expect : Next → Parser ℕ
expect n = λ i. if is n (next_token i) then Ok (i.at, behind i) else Err (wrong i)

-- the same at a token that opens, where so many more openers may stand open
abbrev pub open_where : Bool → Parser ℕ
open_where true = λ i. Ok (i.at, behind i)
open_where false = λ i. Err (too_deep i)

unfoldable pub opening : ℕ → Next → Parser ℕ
opening room n = λ i. if is n (next_token i) then open_where (nat_lt 0 room) i else Err (wrong i)

-- one more declaration, of at most so many; it begins at the next token
unfoldable pub counted : ℕ → Parser (Unit {0})
counted most = λ i. if nat_lt i.declared most then Ok (tt, record i { declared = i.declared + 1 }) else Err (too_many i)

-- what stands one block deeper, where so many more blocks may stand in one another
abbrev pub deeper : {A : Type 0} → ℕ → Parser A → Parser A
deeper zero p = λ i. Err (too_deep i)
deeper (suc depth) p = p

-- ---- leaves

abbrev pub identifier_of : ℕ → ℕ → List TokenKind → Outcome Identifier
identifier_of at declared (kind.Id name ∷ kinds) = Ok (record { at = at; name = name }, record { at = at + 1; declared = declared; rest = kinds })
identifier_of at declared kinds = Err (Wrong (length kinds))

unfoldable pub identifier : Parser Identifier
identifier i = identifier_of i.at i.declared i.rest

abbrev pub number_of : ℕ → ℕ → List TokenKind → Outcome Number
number_of at declared (kind.Number value ∷ kinds) = Ok (record { at = at; value = value }, record { at = at + 1; declared = declared; rest = kinds })
number_of at declared kinds = Err (Wrong (length kinds))

unfoldable pub number : Parser Number
number i = number_of i.at i.declared i.rest

abbrev pub string_of : ℕ → ℕ → List TokenKind → Outcome CharacterString
string_of at declared (kind.Text characters ∷ kinds) = Ok (record { at = at; characters = characters }, record { at = at + 1; declared = declared; rest = kinds })
string_of at declared kinds = Err (Wrong (length kinds))

unfoldable pub character_string : Parser CharacterString
character_string i = string_of i.at i.declared i.rest

-- the identifier of this spelling, by its ordinal
abbrev pub directive_of : List ℕ → ℕ → ℕ → List TokenKind → Outcome ℕ
directive_of spelling at declared (kind.Id name ∷ kinds) =
    if bytes_eq name spelling then Ok (at, record { at = at + 1; declared = declared; rest = kinds }) else Err (Wrong (length (kind.Id name ∷ kinds)))
directive_of spelling at declared kinds = Err (Wrong (length kinds))

unfoldable pub directive : List ℕ → Parser ℕ
directive spelling i = directive_of spelling i.at i.declared i.rest

-- ---- choices and lists

-- the one before such a token, else the other
abbrev pub branch : {A : Type 0} → Nexts → Parser A → Parser A → Parser A
branch f p q = λ i. if f (next_token i) then p i else q i

-- goes on before such a token, at most so many times
unfoldable pub loop : {A : Type 0} → Nexts → (A → Parser A) → ℕ → A → Parser A
loop f turn zero found = pure found
loop f turn (suc n) found = branch f (turn found >>= loop f turn n) (pure found)

-- goes on behind a separator before such a token, and ends behind a separator before another; at most so many times
unfoldable pub series : {A : Type 0} → Next → Nexts → (A → Parser A) → ℕ → A → Parser A
series separator f turn zero found = pure found
series separator f turn (suc n) found =
    branch (is separator) (expect separator >> branch f (turn found >>= series separator f turn n) (pure found)) (pure found)

-- the same as long as there are tokens
unfoldable pub repeated : {A : Type 0} → Nexts → (A → Parser A) → A → Parser A
repeated f turn found = λ i. loop f turn (left i) found i

unfoldable pub repeated_series : {A : Type 0} → Next → Nexts → (A → Parser A) → A → Parser A
repeated_series separator f turn found = λ i. series separator f turn (left i) found i

-- one more item at the end
abbrev pub and_one : {A : Type 0} → Parser A → List A → Parser (List A)
and_one p found = (λ x. found ++ x ∷ []) <$> p

-- more items at the end
abbrev pub and_all : {A : Type 0} → Parser (List A) → List A → Parser (List A)
and_all p found = (λ more. found ++ more) <$> p

-- more items at the end, each behind a separator
abbrev pub further : {A : Type 0} → Next → Parser A → List A → Parser (List A)
further separator p = repeated (is separator) (and_one (expect separator >> p))

-- at least one item, with separators between them
abbrev pub separated : {A : Type 0} → Next → Parser A → Parser (List A)
separated separator p = do
  first ← p
  further separator p (first ∷ [])

-- the same, and one more separator where no item follows it
abbrev pub separated_series : {A : Type 0} → Next → Nexts → Parser A → Parser (List A)
separated_series separator f p = do
  first ← p
  repeated_series separator f (and_one p) (first ∷ [])

-- what may be left out
abbrev pub optional : {A : Type 0} → Nexts → Parser A → Parser (Option A)
optional f p = branch f (Some <$> p) (pure None)

-- ---- what has ordinals of its own

abbrev pub back_at : {A : Type 0} → ℕ → Outcome A → Outcome A
back_at at (Ok p) = Ok (p.0, record p.1 { at = at })
back_at at (Err e) = Err e

unfoldable pub with_own_ordinals : {A : Type 0} → Parser A → Parser A
with_own_ordinals p = λ i. back_at i.at (p (record i { at = 0 }))

-- ---- what a function that parses ensures: what the parser gives, unless memory is wanting

abbrev pub Reads : {A : Type 0} → Outcome A → Result A Failure → Input → Type 0
Reads outcome (Ok x) behind = outcome ≡ Ok (x, behind)
Reads outcome (Err e) behind = e ≢ Memory → outcome ≡ Err e
