-- Rules of a grammar. A rule relates the tokens from one place on, a tree, and the tokens behind it. Rules are written
-- as productions are: `do` blocks for what stands one after another, `<|>` for a choice, `optional` for what may stand
-- once, `many` for what may stand any number of times.
use Rattle.std.specs.Prelude.{◌≡◌, ◌≢◌, ◌⊎◌, ℕ, zero, suc, ◌+◌, ◌<◌, List, [], ◌∷◌, ◌++◌, Option, Some, None}
use Rattle.mp_ast.specs.declared.tokens.TokenKind.{TokenKind}
use Rattle.mp_ast.specs.declared.tokens.TokenKind.TheVariants.{Word, Symbol}
use Rattle.mp_ast.specs.declared.words.WordSymbol.{WordSymbol}
use Rattle.mp_ast.specs.declared.symbols.Symbol.{Symbol as SpecialSymbol}

-- the tokens from one place on
pub record Input : Type 0 where
  -- the ordinal of the next token among the own tokens of its block
  pub at : ℕ
  -- how many procedure and function declarations began before it
  pub declared : ℕ
  -- the kinds of the tokens
  pub rest : List TokenKind

abbrev pub Rule : Type 0 → Type 1
Rule A = Input → A → Input → Type 0

-- ---- what stands one after another, and choices

infixl 10 ◌>>=◌
abbrev pub ◌>>=◌ : {A B : Type 0} → Rule A → (A → Rule B) → Rule B
◌>>=◌ {A} r s = λ i y j. (x : A) × (m : Input) × r i x m × s x m y j

infixl 10 ◌>>◌
abbrev pub ◌>>◌ : {A B : Type 0} → Rule A → Rule B → Rule B
r >> s = r >>= (λ _. s)

-- reads nothing
abbrev pub gives : {A : Type 0} → A → Rule A
gives x = λ i y j. (x ≡ y) × (i ≡ j)

infixr 11 ◌<$>◌
abbrev pub ◌<$>◌ : {A B : Type 0} → (A → B) → Rule A → Rule B
f <$> r = r >>= (λ x. gives (f x))

-- the one or the other
infixr 9 ◌<|>◌
abbrev pub ◌<|>◌ : {A : Type 0} → Rule A → Rule A → Rule A
r <|> s = λ i x j. r i x j ⊎ s i x j

-- no list of tokens
abbrev pub none : {A : Type 0} → Rule A
none = λ i x j. ⊥

-- at most once
abbrev pub optional : {A : Type 0} → Rule A → Rule (Option A)
optional r = Some <$> r <|> gives None

-- any number of times, in order
pub data Many {A : Type 0} (r : Rule A) (j : Input) : List A → Input → Type 0 where
  no_more : Many r j [] j
  one_more : (x : A) (xs : List A) (i m : Input) → r i x m → Many r j xs m → Many r j (x ∷ xs) i

abbrev pub many : {A : Type 0} → Rule A → Rule (List A)
many r = λ i xs j. Many r j xs i

-- the same of what gives lists, which are joined
abbrev pub joined : {A : Type 0} → List (List A) → List A
joined [] = []
joined (xs ∷ lists) = xs ++ joined lists

abbrev pub many_lists : {A : Type 0} → Rule (List A) → Rule (List A)
many_lists r = joined <$> many r

-- at least one, with separators between them
abbrev pub separated : {A : Type 0} → Rule ℕ → Rule A → Rule (List A)
separated separator r = do
  first ← r
  more ← many (separator >> r)
  gives (first ∷ more)

-- ---- tokens

-- a token of this kind, by its ordinal
abbrev pub token : TokenKind → Rule ℕ
token k = λ i at j. (i.rest ≡ k ∷ j.rest) × (i.at ≡ at) × (j.at ≡ i.at + 1) × (j.declared ≡ i.declared)

abbrev pub word : WordSymbol → Rule ℕ
word w = token (Word w)

abbrev pub symbol : SpecialSymbol → Rule ℕ
symbol s = token (Symbol s)

-- reads nothing, and gives the ordinal of the next token
abbrev pub here : Rule ℕ
here = λ i at j. (i.at ≡ at) × (i ≡ j)

-- reads nothing, where the next token is not of this kind
abbrev pub not_before : TokenKind → Rule (Unit {0})
not_before k = λ i x j. ((ks : List TokenKind) → i.rest ≢ k ∷ ks) × (i ≡ j)

-- ---- the three limits

-- the first token of a construct that opens, where so many more openers may stand open
abbrev pub opener : ℕ → TokenKind → Rule ℕ
opener zero k = none
opener (suc room) k = token k

-- what stands one block deeper, where so many more blocks may stand in one another
abbrev pub deeper : {A : Type 0} → ℕ → Rule A → Rule A
deeper zero r = none
deeper (suc depth) r = r

-- reads nothing, and begins one more declaration, of at most so many
abbrev pub one_more_declaration : ℕ → Rule (Unit {0})
one_more_declaration most = λ i x j. (i.declared < most) × (j ≡ record i { declared = i.declared + 1 })

-- ---- own tokens

-- a block's own tokens are counted from 0, and behind it the count of the block around goes on where it was
abbrev pub with_own_ordinals : {A : Type 0} → Rule A → Rule A
with_own_ordinals r = λ i x j. (m : Input) × r (record i { at = 0 }) x m × (j ≡ record m { at = i.at })
