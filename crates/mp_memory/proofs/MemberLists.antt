-- Lists of members.
use Rattle.std.proofs.Common.{◌≡◌, ◌≢◌, ℕ, zero, suc, ◌<◌, ◌≤◌, List, [], ◌∷◌, ◌++◌, filter, cond, Bool, true, false, ◌&&◌, ◌||◌, refl, sym, ap, ap₂, ◌∙◌, arith}
use Rattle.std.specs.Prelude.{nat_eq, nat_lt, if◌then◌else◌}
use Rattle.std.proofs.lemmas.Bool.{eqb-true, eq-eqb, ne_eqb, ltb-true, ltb-false, lt-ltb, le-ltb}
use Rattle.mp_memory.specs.Sets.{numbers}
use Rattle.mp_memory.specs.Members.{is_member, are_in}

filter_both : (f : ℕ → Bool) (xs ys : List ℕ) → filter f (xs ++ ys) ≡ filter f xs ++ filter f ys
filter_both f [] ys = refl
filter_both f (x ∷ xs) ys = go (f x) (filter_both f xs ys)
  where
    go : (b : Bool) → filter f (xs ++ ys) ≡ filter f xs ++ filter f ys
        → cond b (x ∷ filter f (xs ++ ys)) (filter f (xs ++ ys)) ≡ cond b (x ∷ filter f xs) (filter f xs) ++ filter f ys
    go true e = ap (λ l. x ∷ l) e
    go false e = e

member_both : (xs ys : List ℕ) (m : ℕ) → is_member (xs ++ ys) m ≡ (is_member xs m || is_member ys m)
member_both [] ys m = refl
member_both (x ∷ xs) ys m = go (nat_eq x m) (member_both xs ys m)
  where
    go : (b : Bool) → is_member (xs ++ ys) m ≡ (is_member xs m || is_member ys m)
        → (if b then true else is_member (xs ++ ys) m) ≡ ((if b then true else is_member xs m) || is_member ys m)
    go true e = refl
    go false e = e

pub numbers_more : (n : ℕ) → numbers (suc n) ≡ numbers n ++ n ∷ []
unfolding numbers
numbers_more n = refl

pub numbers_none : numbers 0 ≡ []
unfolding numbers
numbers_none = refl

-- a number is in a filtered list where it passes
pub member_filter : (f : ℕ → Bool) (n m : ℕ) → is_member (filter f (numbers n)) m ≡ (if nat_lt m n then f m else false)
member_filter f zero m = ap (λ l. is_member (filter f l) m) numbers_none ∙ ap (λ (b : Bool). if b then f m else false) (sym (le-ltb m 0 (omega arith)))
member_filter f (suc n) m =
    ap (λ l. is_member (filter f l) m) (numbers_more n) ∙ ap (λ l. is_member l m) (filter_both f (numbers n) (n ∷ [])) ∙ member_both (filter f (numbers n)) (filter f (n ∷ [])) m
    ∙ ap (λ b. b || is_member (filter f (n ∷ [])) m) (member_filter f n m) ∙ last (nat_lt m n) refl
  where
    single : (b : Bool) → is_member (cond b (n ∷ []) []) m ≡ (b && nat_eq n m)
    single true = go (nat_eq n m)
      where
        go : (c : Bool) → (if c then true else false) ≡ c
        go true = refl
        go false = refl
    single false = refl

    at_last : n ≡ m → (false || is_member (filter f (n ∷ [])) m) ≡ (if nat_lt m (suc n) then f m else false)
    at_last e =
        single (f n) ∙ ap (λ c. f n && c) (eq-eqb n m e) ∙ same (f n) ∙ ap f e ∙ ap (λ (b : Bool). if b then f m else false) (sym (lt-ltb m (suc n) (omega arith)))
      where
        same : (b : Bool) → (b && true) ≡ b
        same true = refl
        same false = refl

    past : n ≢ m → n ≤ m → (false || is_member (filter f (n ∷ [])) m) ≡ (if nat_lt m (suc n) then f m else false)
    past h le =
        single (f n) ∙ ap (λ c. f n && c) (ne_eqb n m h) ∙ none (f n) ∙ ap (λ (b : Bool). if b then f m else false) (sym (le-ltb m (suc n) (above (nat_lt n m) refl)))
      where
        none : (b : Bool) → (b && false) ≡ false
        none true = refl
        none false = refl

        above : (b : Bool) → nat_lt n m ≡ b → suc n ≤ m
        above true e = let l = ltb-true n m e in omega arith
        above false e = absurd (h (let l = ltb-false n m e in omega arith))

    last : (b : Bool) → nat_lt m n ≡ b → ((if b then f m else false) || is_member (filter f (n ∷ [])) m) ≡ (if nat_lt m (suc n) then f m else false)
    last true e = before (f m) (n_member (nat_eq n m) refl) ∙ ap (λ (b : Bool). if b then f m else false) (sym (lt-ltb m (suc n) (let l = ltb-true m n e in omega arith)))
      where
        n_member : (c : Bool) → nat_eq n m ≡ c → is_member (filter f (n ∷ [])) m ≡ false
        n_member true g = absurd (let s = eqb-true n m g in let l = ltb-true m n e in omega arith)
        n_member false g = single (f n) ∙ ap (λ c. f n && c) g ∙ none (f n)
          where
            none : (b : Bool) → (b && false) ≡ false
            none true = refl
            none false = refl

        before : (b : Bool) → is_member (filter f (n ∷ [])) m ≡ false → (b || is_member (filter f (n ∷ [])) m) ≡ b
        before true g = refl
        before false g = g
    last false e = which (nat_eq n m) refl
      where
        which : (c : Bool) → nat_eq n m ≡ c → (false || is_member (filter f (n ∷ [])) m) ≡ (if nat_lt m (suc n) then f m else false)
        which true g = at_last (eqb-true n m g)
        which false g = past (λ s. let h = eq-eqb n m s in let k : ⊥ = cc in k) (ltb-false m n e)

-- two tests that agree below n
pub filter_same : (f g : ℕ → Bool) (n : ℕ) → ((m : ℕ) → m < n → f m ≡ g m) → filter f (numbers n) ≡ filter g (numbers n)
filter_same f g zero h = ap (filter f) numbers_none ∙ sym (ap (filter g) numbers_none)
filter_same f g (suc n) h =
    ap (filter f) (numbers_more n) ∙ filter_both f (numbers n) (n ∷ [])
    ∙ ap₂ (λ a b. a ++ b) (filter_same f g n (λ m l. h m (omega arith))) (ap (λ b. cond b (n ∷ []) []) (h n (omega arith)))
    ∙ sym (ap (filter g) (numbers_more n) ∙ filter_both g (numbers n) (n ∷ []))

are_in_both : (xs ys zs : List ℕ) → are_in (xs ++ ys) zs ≡ (are_in xs zs && are_in ys zs)
are_in_both [] ys zs = refl
are_in_both (x ∷ xs) ys zs = go (is_member zs x) (are_in_both xs ys zs)
  where
    go : (b : Bool) → are_in (xs ++ ys) zs ≡ (are_in xs zs && are_in ys zs) → (if b then are_in (xs ++ ys) zs else false) ≡ ((if b then are_in xs zs else false) && are_in ys zs)
    go true e = e
    go false e = refl

-- each number below n that passes is in the list
pub are_in_filter : (f : ℕ → Bool) (zs : List ℕ) (n : ℕ) → ((m : ℕ) → m < n → f m ≡ true → is_member zs m ≡ true) → are_in (filter f (numbers n)) zs ≡ true
are_in_filter f zs zero h = ap (λ l. are_in (filter f l) zs) numbers_none
are_in_filter f zs (suc n) h =
    ap (λ l. are_in (filter f l) zs) (numbers_more n) ∙ ap (λ l. are_in l zs) (filter_both f (numbers n) (n ∷ [])) ∙ are_in_both (filter f (numbers n)) (filter f (n ∷ [])) zs
    ∙ ap (λ b. b && are_in (filter f (n ∷ [])) zs) (are_in_filter f zs n (λ m l e. h m (omega arith) e)) ∙ last (f n) refl
  where
    last : (b : Bool) → f n ≡ b → are_in (cond b (n ∷ []) []) zs ≡ true
    last true e = ap (λ (b : Bool). if b then true else false) (h n (omega arith) e)
    last false e = refl

pub in_filter : (f : ℕ → Bool) (zs : List ℕ) (n : ℕ) → are_in (filter f (numbers n)) zs ≡ true → (m : ℕ) → m < n → f m ≡ true → is_member zs m ≡ true
in_filter f zs zero h m l e = absurd (omega arith)
in_filter f zs (suc n) h m l e = which (nat_eq n m) refl (in_filter f zs n)
  where
    split : (are_in (filter f (numbers n)) zs && are_in (cond (f n) (n ∷ []) []) zs) ≡ true
    split = sym (ap (λ l. are_in (filter f l) zs) (numbers_more n)
        ∙ ap (λ l. are_in l zs) (filter_both f (numbers n) (n ∷ [])) ∙ are_in_both (filter f (numbers n)) (filter f (n ∷ [])) zs) ∙ h

    both : (a b : Bool) → (a && b) ≡ true → (a ≡ true) × (b ≡ true)
    both true true e = (refl, refl)
    both true false e = absurd (let h : ⊥ = cc in h)
    both false b e = absurd (let h : ⊥ = cc in h)

    which : (c : Bool) → nat_eq n m ≡ c → (are_in (filter f (numbers n)) zs ≡ true → (m : ℕ) → m < n → f m ≡ true → is_member zs m ≡ true) → is_member zs m ≡ true
    which true g rec =
        let s = eqb-true n m g in
        let a : are_in (cond (f n) (n ∷ []) []) zs ≡ true = (both _ _ split).1 in
        let b : (if is_member zs n then true else false) ≡ true = ap (λ b. are_in (cond b (n ∷ []) []) zs) (sym (ap f s ∙ e)) ∙ a in
        ap (is_member zs) (sym s) ∙ out (is_member zs n) b
      where
        out : (b : Bool) → (if b then true else false) ≡ true → b ≡ true
        out true e = refl
        out false e = cc
    which false g rec = rec (both _ _ split).0 m (below (nat_lt m n) refl) e
      where
        below : (b : Bool) → nat_lt m n ≡ b → m < n
        below true k = ltb-true m n k
        below false k = absurd (let o = ltb-false m n k in let same : n ≡ m = omega arith in let w = eq-eqb n m same in let x : ⊥ = cc in x)
