-- Within a block, each rule of the grammar goes on by as many ordinals as it reads tokens, and begins no declaration. One
-- lemma for each way in which rules are put together; the productions follow.
use Rattle.std.proofs.Common.{◌≡◌, ℕ, zero, suc, ◌+◌, ◌≤◌, ◌⊎◌, inl, inr, List, [], ◌∷◌, length, refl, ap, ◌∙◌, subst, arith}
use Rattle.mp_ast.specs.declared.tokens.TokenKind.{TokenKind}
use Rattle.mp_ast.specs.Rules.{Input, Rule, ◌>>=◌, ◌<$>◌, ◌<|>◌, gives, none, optional, Many, no_more, one_more, many, many_lists, separated, token, here, not_before, opener}
use Rattle.mp_ast.specs.LeafGrammar.{identifier, number, character_string, sign, constant}

-- from one place to another, as many ordinals as tokens
pub record Counted (i j : Input) : Type 0 where
  pub at : i.at ≤ j.at
  pub tokens : j.at + length j.rest ≡ i.at + length i.rest
  pub declared : j.declared ≡ i.declared

pub record Counts {A : Type 0} (r : Rule A) : Type 0 where
  pub counted : (i : Input) (x : A) (j : Input) → r i x j → Counted i j

-- ---- places

pub still : (i : Input) → Counted i i
still i = record { at = omega arith; tokens = refl; declared = refl }

pub stands : (i j : Input) → i ≡ j → Counted i j
stands i j e = subst (Counted i) e (still i)

pub onward : (i m j : Input) → Counted i m → Counted m j → Counted i j
onward i m j a b = record { at = omega (arith, a.at, b.at); tokens = b.tokens ∙ a.tokens; declared = b.declared ∙ a.declared }

-- ---- ways to put rules together

pub nothing : {A : Type 0} {x : A} → Counts (gives x)
nothing = record { counted = λ i y j h. stands i j h.1 }

pub never : {A : Type 0} → Counts (none {A = A})
never = record { counted = λ i y j h. elim h [ ] }

pub next : {A B : Type 0} {r : Rule A} {s : A → Rule B} → Counts r → ((x : A) → Counts (s x)) → Counts (r >>= s)
next a b = record { counted = λ i y j h. onward i h.1 j (a.counted i h.0 h.1 h.2) ((b h.0).counted h.1 y j h.3) }

pub made : {A B : Type 0} {f : A → B} {r : Rule A} → Counts r → Counts (f <$> r)
made a = next a (λ x. nothing)

either_counted : {A : Type 0} {r s : Rule A} → Counts r → Counts s → (i : Input) (x : A) (j : Input) → r i x j ⊎ s i x j → Counted i j
either_counted a b i x j (inl h) = a.counted i x j h
either_counted a b i x j (inr h) = b.counted i x j h

pub either : {A : Type 0} {r s : Rule A} → Counts r → Counts s → Counts (r <|> s)
either a b = record { counted = either_counted a b }

pub maybe : {A : Type 0} {r : Rule A} → Counts r → Counts (optional r)
maybe a = either (made a) nothing

many_counted : {A : Type 0} {r : Rule A} → Counts r → (i j : Input) (xs : List A) → Many r j xs i → Counted i j
many_counted a i j [] no_more = still j
many_counted a i j (x ∷ xs) (one_more y ys k m h t) = onward i m j (a.counted i x m h) (many_counted a m j xs t)

pub repeated : {A : Type 0} {r : Rule A} → Counts r → Counts (many r)
repeated a = record { counted = λ i xs j h. many_counted a i j xs h }

pub repeated_lists : {A : Type 0} {r : Rule (List A)} → Counts r → Counts (many_lists r)
repeated_lists a = made (repeated a)

pub one : {k : TokenKind} → Counts (token k)
one {k} = record {
  counted = λ i x j h.
      let read : length i.rest ≡ suc (length j.rest) = ap length h.0 in
      record { at = omega (arith, h.2); tokens = omega (arith, h.2, read); declared = h.3 };
}

pub row : {A : Type 0} {separator : Rule ℕ} {r : Rule A} → Counts separator → Counts r → Counts (separated separator r)
row s a = next a (λ x. next (repeated (next s (λ y. a))) (λ xs. nothing))

pub ordinal : Counts here
ordinal = record { counted = λ i x j h. stands i j h.1 }

pub unless : {k : TokenKind} → Counts (not_before k)
unless = record { counted = λ i x j h. stands i j h.1 }

pub opens : (room : ℕ) (k : TokenKind) → Counts (opener room k)
opens zero k = never
opens (suc room) k = one

-- ---- leaves

pub identifier_counts : Counts identifier
identifier_counts = record { counted = λ i x j h. one.counted i x.at j h }

pub number_counts : Counts number
number_counts = record { counted = λ i x j h. one.counted i x.at j h }

pub string_counts : Counts character_string
string_counts = record { counted = λ i x j h. one.counted i x.at j h }

pub sign_counts : Counts sign
sign_counts = either (next one (λ at. nothing)) (next one (λ at. nothing))

pub constant_counts : Counts constant
constant_counts = either (next (maybe sign_counts) (λ s. either (made number_counts) (made identifier_counts))) (made string_counts)
