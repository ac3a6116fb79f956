-- Lanes of 64 bits.
use Rattle.std.proofs.Common.{◌≡◌, ◌≢◌, ℕ, zero, suc, ◌+◌, ◌-◌, ◌*◌, ◌%◌, ◌/◌, ◌^◌, ◌<◌, ◌≤◌, List, [], ◌∷◌, filter, min, max, Bool, true, false, ◌&&◌, ◌||◌}
use Rattle.std.proofs.Common.{not, refl, sym, ap, ap₂, ◌∙◌, subst, arith, w64, bit_and, bit_or, ◌⊎◌, inl, inr, ⊎_elim}
use Rattle.std.specs.Prelude.{Decides, nat_eq, nat_lt, if◌then◌else◌}
use Rattle.std.specs.Int.{bit_at, bit_not}
use Rattle.std.proofs.lemmas.Bool.{eqb-true, eq-eqb, ne_eqb, ltb-true, ltb-false, lt-ltb, le-ltb}
use Rattle.std.proofs.lemmas.Nat.Bits.{bit_at_and, bit_at_or, bit_at_not, bit_at-lt, bit_at_set_same, bit_at_set_other, same_from_bits_below, shr_and_one, bit_at-zero}
use Rattle.std.proofs.lemmas.Nat.{or_lt}
use Rattle.mp_memory.specs.declared.bits.Bits.{Bits}
use Rattle.mp_memory.specs.Sets.{numbers}
use Rattle.mp_memory.specs.Members.{bit, holds, members, is_member, with_member, joined, common, without, are_in, Covers}
use Rattle.mp_memory.proofs.MemberLists.{member_filter, filter_same, are_in_filter, in_filter}

-- one bit
zero_or_one : (n : ℕ) → n < 2 → (n ≡ 0) ⊎ (n ≡ 1)
zero_or_one zero h = inl refl
zero_or_one (suc zero) h = inr refl
zero_or_one (suc (suc n)) h = absurd (omega arith)

of_bits : (P : ℕ → Type 0) → P 0 → P 1 → (n : ℕ) → n < 2 → P n
of_bits P a b n h = ⊎_elim (λ e. subst P (sym e) a) (λ e. subst P (sym e) b) (zero_or_one n h)

pub bit_or_is : (a b i : ℕ) → bit (bit_or a b) i ≡ (bit a i || bit b i)
bit_or_is a b i =
    ap (λ n. nat_eq n 1) (bit_at_or a b i)
    ∙ of_bits (λ m. nat_eq (max m (bit_at b i)) 1 ≡ (nat_eq m 1 || nat_eq (bit_at b i) 1))
    (of_bits (λ n. nat_eq (max 0 n) 1 ≡ (nat_eq 0 1 || nat_eq n 1)) refl refl (bit_at b i) (bit_at-lt b i))
    (of_bits (λ n. nat_eq (max 1 n) 1 ≡ (nat_eq 1 1 || nat_eq n 1)) refl refl (bit_at b i) (bit_at-lt b i))
    (bit_at a i) (bit_at-lt a i)

pub bit_and_is : (a b i : ℕ) → bit (bit_and a b) i ≡ (bit a i && bit b i)
bit_and_is a b i =
    ap (λ n. nat_eq n 1) (bit_at_and a b i)
    ∙ of_bits (λ m. nat_eq (min m (bit_at b i)) 1 ≡ (nat_eq m 1 && nat_eq (bit_at b i) 1))
    (of_bits (λ n. nat_eq (min 0 n) 1 ≡ (nat_eq 0 1 && nat_eq n 1)) refl refl (bit_at b i) (bit_at-lt b i))
    (of_bits (λ n. nat_eq (min 1 n) 1 ≡ (nat_eq 1 1 && nat_eq n 1)) refl refl (bit_at b i) (bit_at-lt b i))
    (bit_at a i) (bit_at-lt a i)

pub bit_not_is : (a i : ℕ) → a < 2 ^ 64 → i < 64 → bit (bit_not w64 a) i ≡ not (bit a i)
bit_not_is a i h l =
    ap (λ n. nat_eq n 1) (bit_at_not w64 a i h l)
    ∙ of_bits (λ n. nat_eq (1 - n) 1 ≡ not (nat_eq n 1)) refl refl (bit_at a i) (bit_at-lt a i)

-- 1 << k is set
pub bit_set_is : (a k i : ℕ) → k < 64 → bit (bit_or a (1 * 2 ^ k % 2 ^ 64)) i ≡ (nat_eq i k || bit a i)
bit_set_is a k i h = go (nat_eq i k) refl
  where
    go : (b : Bool) → nat_eq i k ≡ b → bit (bit_or a (1 * 2 ^ k % 2 ^ 64)) i ≡ (b || bit a i)
    go true e = ap (bit (bit_or a (1 * 2 ^ k % 2 ^ 64))) (eqb-true i k e) ∙ ap (λ n. nat_eq n 1) (bit_at_set_same w64 a k h)
    go false e = ap (λ n. nat_eq n 1) (bit_at_set_other w64 a k h i (λ s. let f = eq-eqb i k s in let x : ⊥ = cc in x))

-- the lane of a number
pub record Lanes (u : Bits) (g : ℕ → Bool) : Type 0 where
  pub first : (i : ℕ) → i < 64 → bit u.first i ≡ g i
  pub second : (i : ℕ) → i < 64 → bit u.second i ≡ g (64 + i)
  pub third : (i : ℕ) → i < 64 → bit u.third i ≡ g (128 + i)
  pub fourth : (i : ℕ) → i < 64 → bit u.fourth i ≡ g (192 + i)

pub by_lanes : (u : Bits) (g : ℕ → Bool) → Lanes u g → (m : ℕ) → m < 256 → holds u m ≡ g m
by_lanes u g l m h = one (nat_lt m 64) refl
  where
    three : (b : Bool) → nat_lt m 192 ≡ b → 128 ≤ m → (if b then bit u.third (m - 128) else bit u.fourth (m - 192)) ≡ g m
    three true e f = let less = ltb-true m 192 e in l.third (m - 128) (omega arith) ∙ ap g (omega arith)
    three false e f = let more = ltb-false m 192 e in l.fourth (m - 192) (omega arith) ∙ ap g (omega arith)

    two : (b : Bool) → nat_lt m 128 ≡ b → 64 ≤ m → (if b then bit u.second (m - 64) else if nat_lt m 192 then bit u.third (m - 128) else bit u.fourth (m - 192)) ≡ g m
    two true e f = let less = ltb-true m 128 e in l.second (m - 64) (omega arith) ∙ ap g (omega arith)
    two false e f = three (nat_lt m 192) refl (ltb-false m 128 e)

    one : (b : Bool) → nat_lt m 64 ≡ b → (if b then bit u.first m else if nat_lt m 128 then bit u.second (m - 64)
        else if nat_lt m 192 then bit u.third (m - 128) else bit u.fourth (m - 192)) ≡ g m
    one true e = l.first m (ltb-true m 64 e)
    one false e = two (nat_lt m 128) refl (ltb-false m 64 e)

abbrev from_third : Bits → ℕ → Bool
from_third s m = if nat_lt m 192 then bit s.third (m - 128) else bit s.fourth (m - 192)

abbrev from_second : Bits → ℕ → Bool
from_second s m = if nat_lt m 128 then bit s.second (m - 64) else from_third s m

pub own_lanes : (s : Bits) → Lanes s (holds s)
own_lanes s = record {
  first = λ i h. sym (ap (λ (b : Bool). if b then bit s.first i else from_second s i) (lt-ltb i 64 h));
  second = λ i h. sym (
      ap (λ (b : Bool). if b then bit s.first (64 + i) else from_second s (64 + i)) (le-ltb (64 + i) 64 (omega arith))
      ∙ ap (λ (b : Bool). if b then bit s.second (64 + i - 64) else from_third s (64 + i)) (lt-ltb (64 + i) 128 (omega arith))
      ∙ ap (bit s.second) (omega arith));
  third = λ i h. sym (
      ap (λ (b : Bool). if b then bit s.first (128 + i) else from_second s (128 + i)) (le-ltb (128 + i) 64 (omega arith))
      ∙ ap (λ (b : Bool). if b then bit s.second (128 + i - 64) else from_third s (128 + i)) (le-ltb (128 + i) 128 (omega arith))
      ∙ ap (λ (b : Bool). if b then bit s.third (128 + i - 128) else bit s.fourth (128 + i - 192)) (lt-ltb (128 + i) 192 (omega arith))
      ∙ ap (bit s.third) (omega arith));
  fourth = λ i h. sym (
      ap (λ (b : Bool). if b then bit s.first (192 + i) else from_second s (192 + i)) (le-ltb (192 + i) 64 (omega arith))
      ∙ ap (λ (b : Bool). if b then bit s.second (192 + i - 64) else from_third s (192 + i)) (le-ltb (192 + i) 128 (omega arith))
      ∙ ap (λ (b : Bool). if b then bit s.third (192 + i - 128) else bit s.fourth (192 + i - 192)) (le-ltb (192 + i) 192 (omega arith))
      ∙ ap (bit s.fourth) (omega arith));
}

-- a member of the list, and a bit of the lanes
pub is_member_is : (s : Bits) (m : ℕ) → m < 256 → is_member (members s) m ≡ holds s m
is_member_is s m h = member_filter (holds s) 256 m ∙ ap (λ (b : Bool). if b then holds s m else false) (lt-ltb m 256 h)

-- two sets, and a set whose lanes are made of theirs
pub both_sets : (op : Bool → Bool → Bool) (s t u : Bits) → Lanes u (λ m. op (holds s m) (holds t m))
    → members u ≡ filter (λ m. op (is_member (members s) m) (is_member (members t) m)) (numbers 256)
both_sets op s t u l = filter_same (holds u) (λ m. op (is_member (members s) m) (is_member (members t) m)) 256
    (λ m h. by_lanes u (λ m. op (holds s m) (holds t m)) l m h ∙ sym (ap₂ op (is_member_is s m h) (is_member_is t m h)))

pub by_bits : (op : Bool → Bool → Bool) (f : ℕ → ℕ → ℕ) (s t : Bits) → ((a b i : ℕ) → i < 64 → bit (f a b) i ≡ op (bit a i) (bit b i))
    → Lanes (record { first = f s.first t.first; second = f s.second t.second; third = f s.third t.third; fourth = f s.fourth t.fourth }) (λ m. op (holds s m) (holds t m))
by_bits op f s t h =
    let a = own_lanes s in
    let b = own_lanes t in
    record {
      first = λ i l. h s.first t.first i l ∙ ap₂ op (a.first i l) (b.first i l);
      second = λ i l. h s.second t.second i l ∙ ap₂ op (a.second i l) (b.second i l);
      third = λ i l. h s.third t.third i l ∙ ap₂ op (a.third i l) (b.third i l);
      fourth = λ i l. h s.fourth t.fourth i l ∙ ap₂ op (a.fourth i l) (b.fourth i l);
    }

pub union_is : (s t : Bits) → members (record {
  first = bit_or s.first t.first;
  second = bit_or s.second t.second;
  third = bit_or s.third t.third;
  fourth = bit_or s.fourth t.fourth;
}) ≡ joined (members s) (members t)
union_is s t = both_sets (λ x y. x || y) s t _ (by_bits (λ x y. x || y) bit_or s t (λ a b i h. bit_or_is a b i))

pub meet_is : (s t : Bits) → members (record {
  first = bit_and s.first t.first;
  second = bit_and s.second t.second;
  third = bit_and s.third t.third;
  fourth = bit_and s.fourth t.fourth;
}) ≡ common (members s) (members t)
meet_is s t = both_sets (λ x y. x && y) s t _ (by_bits (λ x y. x && y) bit_and s t (λ a b i h. bit_and_is a b i))

pub less_is : (s t : Bits) → t.first < 2 ^ 64 → t.second < 2 ^ 64 → t.third < 2 ^ 64 → t.fourth < 2 ^ 64
    → members (record {
      first = bit_and s.first (bit_not w64 t.first);
      second = bit_and s.second (bit_not w64 t.second);
      third = bit_and s.third (bit_not w64 t.third);
      fourth = bit_and s.fourth (bit_not w64 t.fourth);
    }) ≡ without (members s) (members t)
less_is s t f1 f2 f3 f4 =
    let a = own_lanes s in
    let b = own_lanes t in
    both_sets (λ x y. x && not y) s t _ (record {
      first = λ i l. bit_and_is s.first (bit_not w64 t.first) i ∙ ap₂ (λ x y. x && y) (a.first i l) (bit_not_is t.first i f1 l ∙ ap not (b.first i l));
      second = λ i l. bit_and_is s.second (bit_not w64 t.second) i ∙ ap₂ (λ x y. x && y) (a.second i l) (bit_not_is t.second i f2 l ∙ ap not (b.second i l));
      third = λ i l. bit_and_is s.third (bit_not w64 t.third) i ∙ ap₂ (λ x y. x && y) (a.third i l) (bit_not_is t.third i f3 l ∙ ap not (b.third i l));
      fourth = λ i l. bit_and_is s.fourth (bit_not w64 t.fourth) i ∙ ap₂ (λ x y. x && y) (a.fourth i l) (bit_not_is t.fourth i f4 l ∙ ap not (b.fourth i l));
    })

-- one member more
same_test : (i k base m : ℕ) → base + k ≡ m → nat_eq i k ≡ nat_eq (base + i) m
same_test i k base m e = go (nat_eq i k) refl
  where
    go : (b : Bool) → nat_eq i k ≡ b → b ≡ nat_eq (base + i) m
    go true f = sym (eq-eqb (base + i) m (let s = eqb-true i k f in omega arith))
    go false f = sym (ne_eqb (base + i) m (λ s. let h : i ≡ k = omega arith in let g = eq-eqb i k h in let x : ⊥ = cc in x))

this_lane : (a k i base m : ℕ) (x : Bool) → k < 64 → base + k ≡ m → bit a i ≡ x → bit (bit_or a (1 * 2 ^ k % 2 ^ 64)) i ≡ (nat_eq (base + i) m || x)
this_lane a k i base m x h e f = bit_set_is a k i h ∙ ap₂ (λ b y. b || y) (same_test i k base m e) f

other_lane : (j m : ℕ) (b x : Bool) → j ≢ m → b ≡ x → b ≡ (nat_eq j m || x)
other_lane j m b x h e = e ∙ ap (λ c. c || x) (sym (ne_eqb j m h))

more_of : (s u : Bits) (m : ℕ) → Lanes u (λ k. nat_eq k m || holds s k) → members u ≡ with_member (members s) m
more_of s u m l = filter_same (holds u) (λ k. nat_eq k m || is_member (members s) k) 256
    (λ k h. by_lanes u (λ k. nat_eq k m || holds s k) l k h ∙ ap (λ b. nat_eq k m || b) (sym (is_member_is s k h)))

pub with_first : (s : Bits) (m : ℕ) → m < 64
    → members (record { first = bit_or s.first (1 * 2 ^ m % 2 ^ 64); second = s.second; third = s.third; fourth = s.fourth }) ≡ with_member (members s) m
with_first s m h =
    let a = own_lanes s in
    more_of s _ m (record {
      first = λ i l. this_lane s.first m i 0 m (holds s i) h (omega arith) (a.first i l) ∙ ap (λ n. nat_eq n m || holds s i) (omega arith);
      second = λ i l. other_lane (64 + i) m _ _ (λ e. omega arith) (a.second i l);
      third = λ i l. other_lane (128 + i) m _ _ (λ e. omega arith) (a.third i l);
      fourth = λ i l. other_lane (192 + i) m _ _ (λ e. omega arith) (a.fourth i l);
    })

pub with_second : (s : Bits) (m : ℕ) → 64 ≤ m → m < 128
    → members (record { first = s.first; second = bit_or s.second (1 * 2 ^ (m - 64) % 2 ^ 64); third = s.third; fourth = s.fourth }) ≡ with_member (members s) m
with_second s m g h =
    let a = own_lanes s in
    more_of s _ m (record {
      first = λ i l. other_lane i m _ _ (λ e. omega arith) (a.first i l);
      second = λ i l. this_lane s.second (m - 64) i 64 m (holds s (64 + i)) (omega arith) (omega arith) (a.second i l);
      third = λ i l. other_lane (128 + i) m _ _ (λ e. omega arith) (a.third i l);
      fourth = λ i l. other_lane (192 + i) m _ _ (λ e. omega arith) (a.fourth i l);
    })

pub with_third : (s : Bits) (m : ℕ) → 128 ≤ m → m < 192
    → members (record { first = s.first; second = s.second; third = bit_or s.third (1 * 2 ^ (m - 128) % 2 ^ 64); fourth = s.fourth }) ≡ with_member (members s) m
with_third s m g h =
    let a = own_lanes s in
    more_of s _ m (record {
      first = λ i l. other_lane i m _ _ (λ e. omega arith) (a.first i l);
      second = λ i l. other_lane (64 + i) m _ _ (λ e. omega arith) (a.second i l);
      third = λ i l. this_lane s.third (m - 128) i 128 m (holds s (128 + i)) (omega arith) (omega arith) (a.third i l);
      fourth = λ i l. other_lane (192 + i) m _ _ (λ e. omega arith) (a.fourth i l);
    })

pub with_fourth : (s : Bits) (m : ℕ) → 192 ≤ m → m < 256
    → members (record { first = s.first; second = s.second; third = s.third; fourth = bit_or s.fourth (1 * 2 ^ (m - 192) % 2 ^ 64) }) ≡ with_member (members s) m
with_fourth s m g h =
    let a = own_lanes s in
    more_of s _ m (record {
      first = λ i l. other_lane i m _ _ (λ e. omega arith) (a.first i l);
      second = λ i l. other_lane (64 + i) m _ _ (λ e. omega arith) (a.second i l);
      third = λ i l. other_lane (128 + i) m _ _ (λ e. omega arith) (a.third i l);
      fourth = λ i l. this_lane s.fourth (m - 192) i 192 m (holds s (192 + i)) (omega arith) (omega arith) (a.fourth i l);
    })

-- the test of a bit
pub tested : (lane k : ℕ) → nat_eq (bit_and (lane / 2 ^ k) 1) 1 ≡ bit lane k
tested lane k = ap (λ n. nat_eq n 1) (shr_and_one lane k)

-- the set without members
none_holds : (m : ℕ) → m < 256 → holds (record { first = 0; second = 0; third = 0; fourth = 0 }) m ≡ false
none_holds m h = by_lanes (record { first = 0; second = 0; third = 0; fourth = 0 })
    (λ m. false) (record { first = λ i l. no_bit i; second = λ i l. no_bit i; third = λ i l. no_bit i; fourth = λ i l. no_bit i }) m h
  where
    no_bit : (i : ℕ) → bit 0 i ≡ false
    no_bit i = ap (λ n. nat_eq n 1) (bit_at-zero i)

filter_none : (l : List ℕ) → filter (λ m. false) l ≡ []
filter_none [] = refl
filter_none (x ∷ l) = filter_none l

pub empty_is : members (record { first = 0; second = 0; third = 0; fourth = 0 }) ≡ []
empty_is = filter_same (holds (record { first = 0; second = 0; third = 0; fourth = 0 })) (λ m. false) 256 none_holds ∙ filter_none (numbers 256)

-- inclusion
or_left : (x y : Bool) → (x || y) ≡ y → x ≡ true → y ≡ true
or_left true y e f = sym e
or_left false y e f = absurd (let h : ⊥ = cc in h)

or_absorbs : (x y : Bool) → (x ≡ true → y ≡ true) → (x || y) ≡ y
or_absorbs true y h = sym (h refl)
or_absorbs false y h = refl

bit_number : (a b i : ℕ) → bit a i ≡ bit b i → bit_at a i ≡ bit_at b i
bit_number a b i e = go (bit_at a i) (bit_at b i) (bit_at-lt a i) (bit_at-lt b i) e
  where
    go : (m n : ℕ) → m < 2 → n < 2 → nat_eq m 1 ≡ nat_eq n 1 → m ≡ n
    go m n h l = of_bits (λ m. nat_eq m 1 ≡ nat_eq n 1 → m ≡ n)
        (of_bits (λ n. nat_eq 0 1 ≡ nat_eq n 1 → 0 ≡ n) (λ e. refl) (λ e. absurd (let h : ⊥ = cc in h)) n l)
        (of_bits (λ n. nat_eq 1 1 ≡ nat_eq n 1 → 1 ≡ n) (λ e. absurd (let h : ⊥ = cc in h)) (λ e. refl) n l) m h

lane_included : (a b : ℕ) → a < 2 ^ 64 → b < 2 ^ 64 → ((i : ℕ) → i < 64 → bit a i ≡ true → bit b i ≡ true) → bit_or a b ≡ b
lane_included a b f g h = same_from_bits_below 64 (bit_or a b) b (or_lt 64 a b f g) g
    (λ i l. bit_number (bit_or a b) b i (bit_or_is a b i ∙ or_absorbs (bit a i) (bit b i) (h i l)))

inside_of : (s t : Bits) → are_in (members s) (members t) ≡ true → (m : ℕ) → m < 256 → holds s m ≡ true → holds t m ≡ true
inside_of s t e m h f = sym (is_member_is t m h) ∙ in_filter (holds s) (members t) 256 e m h f

pub covers_is : (lane other : ℕ) → lane < 2 ^ 64 → other < 2 ^ 64 → Decides (nat_eq (bit_or other lane) lane) (Covers lane other)
covers_is lane other f g = (λ e i l x. kept (eqb-true _ _ e) i x, λ h. eq-eqb _ _ (lane_included other lane g f h))
  where
    kept : bit_or other lane ≡ lane → (i : ℕ) → bit other i ≡ true → bit lane i ≡ true
    kept e i x = or_left (bit other i) (bit lane i) (sym (bit_or_is other lane i) ∙ ap (λ n. bit n i) e) x

pub first_is_in : (s t : Bits) → are_in (members s) (members t) ≡ true → Covers t.first s.first
first_is_in s t e i l x =
    let a = own_lanes s in
    let b = own_lanes t in
    b.first i l ∙ inside_of s t e i (omega arith) (sym (a.first i l) ∙ x)

pub second_is_in : (s t : Bits) → are_in (members s) (members t) ≡ true → Covers t.second s.second
second_is_in s t e i l x =
    let a = own_lanes s in
    let b = own_lanes t in
    b.second i l ∙ inside_of s t e (64 + i) (omega arith) (sym (a.second i l) ∙ x)

pub third_is_in : (s t : Bits) → are_in (members s) (members t) ≡ true → Covers t.third s.third
third_is_in s t e i l x =
    let a = own_lanes s in
    let b = own_lanes t in
    b.third i l ∙ inside_of s t e (128 + i) (omega arith) (sym (a.third i l) ∙ x)

pub fourth_is_in : (s t : Bits) → are_in (members s) (members t) ≡ true → Covers t.fourth s.fourth
fourth_is_in s t e i l x =
    let a = own_lanes s in
    let b = own_lanes t in
    b.fourth i l ∙ inside_of s t e (192 + i) (omega arith) (sym (a.fourth i l) ∙ x)

pub all_are_in : (s t : Bits) → Covers t.first s.first → Covers t.second s.second → Covers t.third s.third → Covers t.fourth s.fourth → are_in (members s) (members t) ≡ true
all_are_in s t e1 e2 e3 e4 =
    let a = own_lanes s in
    let b = own_lanes t in
    let joint : Lanes t (λ m. holds s m || holds t m) = record {
      first = λ i l. sym (or_absorbs (bit s.first i) (bit t.first i) (e1 i l)) ∙ ap₂ (λ x y. x || y) (a.first i l) (b.first i l);
      second = λ i l. sym (or_absorbs (bit s.second i) (bit t.second i) (e2 i l)) ∙ ap₂ (λ x y. x || y) (a.second i l) (b.second i l);
      third = λ i l. sym (or_absorbs (bit s.third i) (bit t.third i) (e3 i l)) ∙ ap₂ (λ x y. x || y) (a.third i l) (b.third i l);
      fourth = λ i l. sym (or_absorbs (bit s.fourth i) (bit t.fourth i) (e4 i l)) ∙ ap₂ (λ x y. x || y) (a.fourth i l) (b.fourth i l);
    } in
    are_in_filter (holds s) (members t) 256 (λ m h f. is_member_is t m h ∙ or_left (holds s m) (holds t m) (sym (by_lanes t (λ m. holds s m || holds t m) joint m h)) f)

-- the lane that is tested
pub in_first : (s : Bits) (m : ℕ) → m < 64 → bit s.first m ≡ is_member (members s) m
in_first s m h = let a = own_lanes s in a.first m h ∙ sym (is_member_is s m (omega arith))

pub in_second : (s : Bits) (m : ℕ) → 64 ≤ m → m < 128 → bit s.second (m - 64) ≡ is_member (members s) m
in_second s m g h = let a = own_lanes s in a.second (m - 64) (omega arith) ∙ ap (holds s) (let e : 64 + (m - 64) ≡ m = omega arith in e) ∙ sym (is_member_is s m (omega arith))

pub in_third : (s : Bits) (m : ℕ) → 128 ≤ m → m < 192 → bit s.third (m - 128) ≡ is_member (members s) m
in_third s m g h = let a = own_lanes s in a.third (m - 128) (omega arith) ∙ ap (holds s) (let e : 128 + (m - 128) ≡ m = omega arith in e) ∙ sym (is_member_is s m (omega arith))

pub in_fourth : (s : Bits) (m : ℕ) → 192 ≤ m → m < 256 → bit s.fourth (m - 192) ≡ is_member (members s) m
in_fourth s m g h = let a = own_lanes s in a.fourth (m - 192) (omega arith) ∙ ap (holds s) (let e : 192 + (m - 192) ≡ m = omega arith in e) ∙ sym (is_member_is s m h)
