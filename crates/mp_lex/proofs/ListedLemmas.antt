-- What stands in a list by its items: the tokens of a text, and its errors. Each starts where its item does, and ends
-- where its item does.
use Rattle.std.proofs.Common.{◌≡◌, ℕ, zero, suc, ◌+◌, ◌<◌, ◌≤◌, Bool, true, false, eqb, nat_le, nat_lt, List, [], ◌∷◌, ◌++◌, take, drop}
use Rattle.std.proofs.Common.{length, map, refl, ap, sym, ◌∙◌, arith, ⊎_elim}
use Rattle.std.specs.List.{concat, filter, list_any, AllWithin}
use Rattle.std.specs.List.Sorted.{IsNonDecreasingBy, IsStrictlyIncreasing}
use Rattle.std.proofs.lemmas.Bool.{eqb-true, or_cases, false≢true, cond-true, cond-false, lt-ltb, le-ltb, le-leb, lt-leb}
use Rattle.std.proofs.lemmas.List.{length-append, length-map, append_assoc, append-nil, get_or-map}
use Rattle.std.proofs.lemmas.List.Folds.{list_any-append}
use Rattle.std.proofs.lemmas.List.Sorted.{IsNonDecreasingBy-from_all_adjacent}
use Rattle.std.proofs.lemmas.List.Elements.{filter-append}
use Rattle.mp_lex.specs.Lexed.{token_of, error_of, tokens_from, errors_from}
use Rattle.mp_lex.specs.Meaning.{meaning}
use Rattle.mp_lex.specs.declared.meaning.Meaning.{Meaning}
use Rattle.mp_lex.specs.declared.meaning.Meaning.TheVariants as means
use Rattle.mp_lex.specs.Windows.{before_place, from_place}
use Rattle.mp_lex.proofs.FrontLemmas.{AreSome}

-- what the items give, the first of which starts at this place
abbrev pub listed : {X : Type 0} → (ℕ → ℕ → Meaning → List X) → ℕ → List (List ℕ) → List X
listed of start [] = []
listed of start (item ∷ items) = of start (length item) (meaning item) ++ listed of (start + length item) items

pub tokens_listed : (items : List (List ℕ)) (start : ℕ) → tokens_from start items ≡ listed token_of start items
tokens_listed [] start = refl
tokens_listed (item ∷ items) start = ap (λ r. token_of start (length item) (meaning item) ++ r) (tokens_listed items (start + length item))

pub errors_listed : (items : List (List ℕ)) (start : ℕ) → errors_from start items ≡ listed error_of start items
errors_listed [] start = refl
errors_listed (item ∷ items) start = ap (λ r. error_of start (length item) (meaning item) ++ r) (errors_listed items (start + length item))

pub listed-append : {X : Type 0} (of : ℕ → ℕ → Meaning → List X) (xs ys : List (List ℕ)) (p q : ℕ) → p + length (concat xs) ≡ q →
    listed of p (xs ++ ys) ≡ listed of p xs ++ listed of q ys
listed-append of [] ys p q e = let same : p ≡ q = omega (arith, e) in ap (λ k. listed of k ys) same
listed-append of (x ∷ xs) ys p q e =
    ap (λ r. of p (length x) (meaning x) ++ r) (listed-append of xs ys (p + length x) q (omega (arith, e, length-append x (concat xs))))
    ∙ sym (append_assoc (of p (length x) (meaning x)) (listed of (p + length x) xs) (listed of q ys))

-- each of the list, one after the other
abbrev pub Each : {X : Type 0} → (X → Type 0) → List X → Type 0
Each P [] = Unit {0}
Each P (x ∷ xs) = P x × Each P xs

pub each_append : {X : Type 0} (P : X → Type 0) (xs ys : List X) → Each P xs → Each P ys → Each P (xs ++ ys)
each_append P [] ys a b = b
each_append P (x ∷ xs) ys a b = (a.0, each_append P xs ys a.1 b)

pub each_then : {X : Type 0} (P Q : X → Type 0) (xs : List X) → ((x : X) → P x → Q x) → Each P xs → Each Q xs
each_then P Q [] f a = tt
each_then P Q (x ∷ xs) f a = (f x a.0, each_then P Q xs f a.1)

-- one of the list passes, and so something that holds of each holds of one that passes
pub record One {X : Type 0} (P : X → Type 0) (test : X → Bool) : Type 0 where
  pub one : X
  pub holds : P one
  pub passes : test one ≡ true

pub one_of : {X : Type 0} (P : X → Type 0) (test : X → Bool) (xs : List X) → Each P xs → list_any test xs ≡ true → One P test
one_of P test [] a t = absurd (false≢true t)
one_of P test (x ∷ xs) a t = ⊎_elim (λ h. record { one = x; holds = a.0; passes = h }) (λ h. one_of P test xs a.1 h) (or_cases (test x) (list_any test xs) t)

-- what an item gives has the item's place and length
pub record IsPlaced {X : Type 0} (of : ℕ → ℕ → Meaning → List X) (start size : X → ℕ) : Type 0 where
  pub each : (p n : ℕ) (m : Meaning) → Each (λ x. (start x ≡ p) × (size x ≡ n)) (of p n m)

token_each : (p n : ℕ) (m : Meaning) → Each (λ x. (x.start ≡ p) × (x.len ≡ n)) (token_of p n m)
token_each p n (means.Token kind) = ((refl, refl), tt)
token_each p n (means.Error cause) = tt
token_each p n means.Nothing = tt

error_each : (p n : ℕ) (m : Meaning) → Each (λ x. (x.start ≡ p) × (x.len ≡ n)) (error_of p n m)
error_each p n (means.Token kind) = tt
error_each p n (means.Error cause) = ((refl, refl), tt)
error_each p n means.Nothing = tt

pub tokens_placed : IsPlaced token_of (λ token. token.start) (λ token. token.len)
tokens_placed = record { each = token_each }

pub errors_placed : IsPlaced error_of (λ error. error.start) (λ error. error.len)
errors_placed = record { each = error_each }

-- all start from the first item's place on, and below the last one's end
pub starts_in : {X : Type 0} (of : ℕ → ℕ → Meaning → List X) (start size : X → ℕ) → IsPlaced of start size → (items : List (List ℕ)) (p : ℕ) → AreSome items →
    Each (λ x. (p ≤ start x) × (start x < p + length (concat items))) (listed of p items)
starts_in of start size placed [] p s = tt
starts_in of start size placed (item ∷ items) p s =
    let n = length item in
    let len = length-append item (concat items) in
    let some = s.0 in
    each_append (λ x. (p ≤ start x) × (start x < p + length (concat (item ∷ items)))) (of p n (meaning item)) (listed of (p + n) items)
    (each_then _ _ (of p n (meaning item)) (λ x h. (let e = h.0 in omega arith, let e = h.0 in omega (arith, len))) (placed.each p n (meaning item)))
    (each_then _ _ (listed of (p + n) items) (λ x h. (let a = h.0 in omega arith, let b = h.1 in omega (arith, len))) (starts_in of start size placed items (p + n) s.1))

-- items of which the first starts at the one place, up to the other
pub record FrontTo (items : List (List ℕ)) (from to : ℕ) : Type 0 where
  pub front : List (List ℕ)
  pub rest : List (List ℕ)
  pub all : items ≡ front ++ rest
  pub size : from + length (concat front) ≡ to

one_more : (item : List ℕ) (items : List (List ℕ)) (p q : ℕ) → FrontTo items (p + length item) q → FrontTo (item ∷ items) p q
one_more item items p q more = record {
  front = item ∷ more.front;
  rest = more.rest;
  all = ap (λ r. item ∷ r) more.all;
  size =
      omega (arith, more.size, length-append item (concat more.front));
}

-- where one of them starts, items end
pub start_front : {X : Type 0} (of : ℕ → ℕ → Meaning → List X) (start size : X → ℕ) → IsPlaced of start size → (items : List (List ℕ)) (p q : ℕ) →
    list_any (λ x. eqb (start x) q) (listed of p items) ≡ true → FrontTo items p q
start_front of start size placed [] p q t = absurd (false≢true t)
start_front {X} of start size placed (item ∷ items) p q t =
    let n = length item in
    let test = λ (x : X). eqb (start x) q in
    ⊎_elim (λ h. here (one_of _ test (of p n (meaning item)) (placed.each p n (meaning item)) h))
    (λ h. one_more item items p q (start_front of start size placed items (p + n) q h))
    (or_cases (list_any test (of p n (meaning item))) (list_any test (listed of (p + n) items)) (sym (list_any-append test (of p n (meaning item)) (listed of (p + n) items)) ∙ t))
  where
    here : One (λ x. (start x ≡ p) × (size x ≡ length item)) (λ x. eqb (start x) q) → FrontTo (item ∷ items) p q
    here h = let a = h.holds.0 in let b = eqb-true (start h.one) q h.passes in record {
      front = [];
      rest = item ∷ items;
      all = refl;
      size = let e : p + 0 ≡ q =
          omega (arith, a, b) in e;
    }

-- where one of them ends, items end
pub end_front : {X : Type 0} (of : ℕ → ℕ → Meaning → List X) (start size : X → ℕ) → IsPlaced of start size → (items : List (List ℕ)) (p q : ℕ) →
    list_any (λ x. eqb (start x + size x) q) (listed of p items) ≡ true → FrontTo items p q
end_front of start size placed [] p q t = absurd (false≢true t)
end_front {X} of start size placed (item ∷ items) p q t =
    let n = length item in
    let test = λ (x : X). eqb (start x + size x) q in
    ⊎_elim (λ h. here (one_of _ test (of p n (meaning item)) (placed.each p n (meaning item)) h))
    (λ h. one_more item items p q (end_front of start size placed items (p + n) q h))
    (or_cases (list_any test (of p n (meaning item))) (list_any test (listed of (p + n) items)) (sym (list_any-append test (of p n (meaning item)) (listed of (p + n) items)) ∙ t))
  where
    here : One (λ x. (start x ≡ p) × (size x ≡ length item)) (λ x. eqb (start x + size x) q) → FrontTo (item ∷ items) p q
    here h =
        let a = h.holds.0 in
        let c = h.holds.1 in
        let b = eqb-true (start h.one + size h.one) q h.passes in
        record { front = item ∷ []; rest = items; all = refl; size = omega (arith, a, b, c, length-append item []) }

-- what starts before a place is what stands in front of the first that doesn't
pub take_before : {X : Type 0} (n : X → ℕ) (place : ℕ) (xs : List X) (i : ℕ) → i ≤ length xs → AllWithin (λ x. n x < place) xs 0 i →
    AllWithin (λ x. place ≤ n x) xs i (length xs) → take i xs ≡ before_place n place xs
take_before n place [] zero l a b = refl
take_before n place [] (suc i) l a b = absurd (omega arith)
take_before n place (x ∷ xs) zero l a b =
    let h = b 0 x (omega arith) (omega arith) in
    let rest = take_before n place xs zero (omega arith) (λ k d f g. absurd (omega arith)) (λ k d f g. b (suc k) d (omega arith) (omega arith)) in
    rest ∙ sym (cond-false (nat_lt (n x) place) _ _ (le-ltb (n x) place h))
take_before n place (x ∷ xs) (suc i) l a b =
    let h = a 0 x (omega arith) (omega arith) in
    let rest = take_before n place xs i (omega arith) (λ k d f g. a (suc k) d (omega arith) (omega arith)) (λ k d f g. b (suc k) d (omega arith) (omega arith)) in
    ap (λ r. x ∷ r) rest ∙ sym (cond-true (nat_lt (n x) place) _ _ (lt-ltb (n x) place h))

pub drop_from : {X : Type 0} (n : X → ℕ) (place : ℕ) (xs : List X) (i : ℕ) → i ≤ length xs → AllWithin (λ x. n x < place) xs 0 i →
    AllWithin (λ x. place ≤ n x) xs i (length xs) → drop i xs ≡ from_place n place xs
drop_from n place [] zero l a b = refl
drop_from n place [] (suc i) l a b = absurd (omega arith)
drop_from n place (x ∷ xs) zero l a b =
    let h = b 0 x (omega arith) (omega arith) in
    let rest = drop_from n place xs zero (omega arith) (λ k d f g. absurd (omega arith)) (λ k d f g. b (suc k) d (omega arith) (omega arith)) in
    ap (λ r. x ∷ r) rest ∙ sym (cond-true (nat_le place (n x)) _ _ (le-leb place (n x) h))
drop_from n place (x ∷ xs) (suc i) l a b =
    let h = a 0 x (omega arith) (omega arith) in
    let rest = drop_from n place xs i (omega arith) (λ k d f g. a (suc k) d (omega arith) (omega arith)) (λ k d f g. b (suc k) d (omega arith) (omega arith)) in
    rest ∙ sym (cond-false (nat_le place (n x)) _ _ (lt-leb place (n x) h))

filter_all : {X : Type 0} (p : X → Bool) (xs : List X) → Each (λ x. p x ≡ true) xs → filter p xs ≡ xs
filter_all p [] a = refl
filter_all p (x ∷ xs) a = cond-true (p x) _ _ a.0 ∙ ap (λ r. x ∷ r) (filter_all p xs a.1)

filter_none : {X : Type 0} (p : X → Bool) (xs : List X) → Each (λ x. p x ≡ false) xs → filter p xs ≡ []
filter_none p [] a = refl
filter_none p (x ∷ xs) a = cond-false (p x) _ _ a.0 ∙ filter_none p xs a.1

-- a list of two parts, the first of which starts before a place, and the second there or past it
pub before_cut : {X : Type 0} (n : X → ℕ) (place : ℕ) (xs ys : List X) → Each (λ x. n x < place) xs → Each (λ x. place ≤ n x) ys → before_place n place (xs ++ ys) ≡ xs
before_cut n place xs ys a b =
    filter-append _ xs ys
    ∙ ap (λ r. before_place n place xs ++ r) (filter_none _ ys (each_then _ _ ys (λ y h. le-ltb (n y) place h) b))
    ∙ append-nil (before_place n place xs) ∙ filter_all _ xs (each_then _ _ xs (λ x h. lt-ltb (n x) place h) a)

pub from_cut : {X : Type 0} (n : X → ℕ) (place : ℕ) (xs ys : List X) → Each (λ x. n x < place) xs → Each (λ x. place ≤ n x) ys → from_place n place (xs ++ ys) ≡ ys
from_cut n place xs ys a b =
    filter-append _ xs ys
    ∙ ap (λ r. r ++ from_place n place ys) (filter_none _ xs (each_then _ _ xs (λ x h. lt-leb place (n x) h) a))
    ∙ filter_all _ ys (each_then _ _ ys (λ y h. le-leb place (n y) h) b)

-- starts that increase do not fall
pub starts_rise : {X : Type 0} (n : X → ℕ) (xs : List X) → IsStrictlyIncreasing (map n xs) → IsNonDecreasingBy n xs
starts_rise n xs up = IsNonDecreasingBy-from_all_adjacent n xs (λ k d l.
    let h = up k (omega (arith, length-map xs n)) in
    let a = get_or-map n xs k d 0 (omega arith) in
    let b = get_or-map n xs (k + 1) d 0 l in
    omega arith)
