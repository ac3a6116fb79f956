-- Whether one set of next tokens lies in another, as a test.
use Rattle.std.proofs.Common.{◌≡◌, ℕ, zero, suc, Bool, true, false, ◌&&◌, ◌||◌, List, [], ◌∷◌, Some, refl, sym, ap, ◌∙◌, subst}
use Rattle.std.specs.Prelude.{not, slice_get}
use Rattle.mp_cursor.specs.declared.next.Next.{Next}
use Rattle.mp_cursor.specs.declared.next.Next.TheVariants as next
use Rattle.mp_cursor.specs.Nexts.{word_number, symbol_number}
use Rattle.mp_cursor.specs.Nexts.{Nexts, any, either}
use Rattle.mp_cursor.proofs.NextLemmas.{words, symbols, word_found, symbol_found}

-- ---- tests on every token

abbrev of_all : {A : Type 0} → (A → Bool) → List A → Bool
of_all f [] = true
of_all f (x ∷ xs) = f x && of_all f xs

abbrev on_every : (Next → Bool) → Bool
on_every f = (f next.Identifier && (f next.Number && (f next.Text && f next.End))) && (of_all (λ v. f (next.Word v)) words && of_all (λ v. f (next.Symbol v)) symbols)

left_of : (a b : Bool) → (a && b) ≡ true → a ≡ true
left_of true b e = refl
left_of false b e = e

right_of : (a b : Bool) → (a && b) ≡ true → b ≡ true
right_of true b e = e
right_of false b e = absurd (let n : ⊥ = cc in n)

some_is : {A : Type 0} (x y : A) → Some x ≡ Some y → x ≡ y
some_is x y e = cc

found : {A : Type 0} (f : A → Bool) (xs : List A) (k : ℕ) (x : A) → of_all f xs ≡ true → slice_get xs k ≡ Some x → f x ≡ true
found f [] k x e h = absurd (let n : ⊥ = cc in n)
found f (y ∷ ys) zero x e h = subst (λ z. f z ≡ true) (some_is y x h) (left_of (f y) (of_all f ys) e)
found f (y ∷ ys) (suc k) x e h = found f ys k x (right_of (f y) (of_all f ys) e) h

module _ (f : Next → Bool) (e : on_every f ≡ true) where
  abbrev leaves : Bool
  leaves = f next.Identifier && (f next.Number && (f next.Text && f next.End))

  abbrev rest : Bool
  rest = of_all (λ v. f (next.Word v)) words && of_all (λ v. f (next.Symbol v)) symbols

  of_leaves : leaves ≡ true
  of_leaves = left_of leaves rest e

  pub every : (n : Next) → f n ≡ true
  every next.Identifier = left_of (f next.Identifier) _ of_leaves
  every next.Number = left_of (f next.Number) _ (right_of (f next.Identifier) _ of_leaves)
  every next.Text = left_of (f next.Text) (f next.End) (right_of (f next.Number) _ (right_of (f next.Identifier) _ of_leaves))
  every next.End = right_of (f next.Text) (f next.End) (right_of (f next.Number) _ (right_of (f next.Identifier) _ of_leaves))
  every (next.Word v) =
      found (λ v. f (next.Word v)) words (word_number v) v (left_of (of_all (λ v. f (next.Word v)) words) (of_all (λ v. f (next.Symbol v)) symbols)
      (right_of leaves rest e)) (word_found v)
  every (next.Symbol v) =
      found (λ v. f (next.Symbol v)) symbols (symbol_number v) v (right_of (of_all (λ v. f (next.Word v)) words)
      (of_all (λ v. f (next.Symbol v)) symbols) (right_of leaves rest e)) (symbol_found v)

-- the one lies in the other
abbrev pub within : Nexts → Nexts → Bool
within f g = on_every (λ n. not (f n) || g n)

-- no token is in both
abbrev pub apart : Nexts → Nexts → Bool
apart f g = on_every (λ n. not (f n) || not (g n))

implies : (a b : Bool) → (not a || b) ≡ true → a ≡ true → b ≡ true
implies true b e h = e
implies false b e h = absurd (let n : ⊥ = cc in n)

not_is : (b : Bool) → not b ≡ true → b ≡ false
not_is true e = sym e
not_is false e = refl

pub within_is : (f g : Nexts) → within f g ≡ true → (n : Next) → f n ≡ true → g n ≡ true
within_is f g e n h = implies (f n) (g n) (every (λ n. not (f n) || g n) e n) h

pub apart_is : (f g : Nexts) → apart f g ≡ true → (n : Next) → f n ≡ true → g n ≡ false
apart_is f g e n h = not_is (g n) (implies (f n) (not (g n)) (every (λ n. not (f n) || not (g n)) e n) h)

either_is : (a b : Bool) (P : Type 0) → (a || b) ≡ true → (a ≡ true → P) → (b ≡ true → P) → P
either_is true b P e f g = f refl
either_is false b P e f g = g e

pub either_by : (f g : Nexts) (n : Next) (P : Type 0) → either f g n ≡ true → (f n ≡ true → P) → (g n ≡ true → P) → P
either_by f g n P e h k = either_is (f n) (g n) P e h k

pub in_first : (f g : Nexts) (n : Next) → f n ≡ true → either f g n ≡ true
in_first f g n e = ap (λ b. b || g n) e

or_true : (a : Bool) → (a || true) ≡ true
or_true true = refl
or_true false = refl

pub in_second : (f g : Nexts) (n : Next) → g n ≡ true → either f g n ≡ true
in_second f g n e = ap (λ b. f n || b) e ∙ or_true (f n)

-- ---- from a fact on every token

all_by : {A : Type 0} (f : A → Bool) (xs : List A) → ((x : A) → f x ≡ true) → of_all f xs ≡ true
all_by f [] h = refl
all_by f (x ∷ xs) h = ap (λ b. b && of_all f xs) (h x) ∙ all_by f xs h

and_by : (a b : Bool) → a ≡ true → b ≡ true → (a && b) ≡ true
and_by a b e f = ap (λ c. c && b) e ∙ f

every_by : (f : Next → Bool) → ((n : Next) → f n ≡ true) → on_every f ≡ true
every_by f h =
    and_by _ _ (and_by _ _ (h next.Identifier) (and_by _ _ (h next.Number) (and_by _ _ (h next.Text) (h next.End))))
    (and_by _ _ (all_by (λ v. f (next.Word v)) words (λ v. h (next.Word v))) (all_by (λ v. f (next.Symbol v)) symbols (λ v. h (next.Symbol v))))

implied : (a b : Bool) → (a ≡ true → b ≡ true) → (not a || b) ≡ true
implied true b h = h refl
implied false b h = refl

pub within_by : (f g : Nexts) → ((n : Next) → f n ≡ true → g n ≡ true) → within f g ≡ true
within_by f g h = every_by (λ n. not (f n) || g n) (λ n. implied (f n) (g n) (h n))

pub within_any : (f : Nexts) → within f any ≡ true
within_any f = within_by f any (λ n e. refl)

pub within_itself : (f : Nexts) → within f f ≡ true
within_itself f = within_by f f (λ n e. e)

pub within_both : (f g h : Nexts) → within f h ≡ true → within g h ≡ true → within (either f g) h ≡ true
within_both f g h a b = within_by (either f g) h (λ n e. either_by f g n (h n ≡ true) e (within_is f h a n) (within_is g h b n))

pub within_first : (f g : Nexts) → within f (either f g) ≡ true
within_first f g = within_by f (either f g) (λ n e. in_first f g n e)

pub within_trans : (f g h : Nexts) → within f g ≡ true → within g h ≡ true → within f h ≡ true
within_trans f g h a b = within_by f h (λ n e. within_is g h b n (within_is f g a n e))
