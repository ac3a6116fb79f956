-- Sets as the lists of their members: the operations of the lanes are those of the lists, and the lists' laws.
use Rattle.std.proofs.Common.{◌≡◌, ℕ, zero, suc, ◌+◌, ◌<◌, Bool, cond, true, false, not, ◌&&◌, ◌||◌, List, [], ◌∷◌, ◌++◌, filter, refl, sym, ap, ap₂, ◌∙◌}
use Rattle.std.proofs.Common.{subst, arith, eqb-true, eq-eqb, inl, inr, ⊎_elim}
use Rattle.std.specs.Prelude.{nat_eq, if◌then◌else◌}
use Rattle.std.specs.List.{range_with_len}
use Rattle.std.proofs.lemmas.Bool.{lt-ltb, and_parts, or_cases}
use Rattle.std.proofs.lemmas.Bool.Decides.{eqb_tells}
use Rattle.mp_memory.specs.declared.bits.Bits.{Bits}
use Rattle.mp_memory.specs.Members.{holds, members, joined, common, without, are_in}
use Rattle.mp_memory.specs.Members as bits
use Rattle.mp_memory.specs.Sets.{numbers, NumbersAreARange, is_member, members_that, union, with_member, intersection, difference, is_included, IsSet}
use Rattle.mp_memory.specs.Sets.{HasMembers, SetsAreByMembersLaw}
use Rattle.mp_memory.proofs.MemberLists.{numbers_more, numbers_none, member_filter, filter_same, are_in_filter}

-- ---- numbers from 0 on

range_more : (a n : ℕ) → range_with_len a (suc n) ≡ range_with_len a n ++ (a + n) ∷ []
range_more a zero = ap (λ m. m ∷ []) (omega arith)
range_more a (suc n) = ap (λ l. a ∷ l) (range_more (a + 1) n ∙ ap (λ m. range_with_len (a + 1) n ++ m ∷ []) (omega arith))

pub numbers_are : NumbersAreARange
numbers_are zero = numbers_none
numbers_are (suc n) = numbers_more n ∙ ap₂ (λ l m. l ++ m ∷ []) (numbers_are n) (omega arith) ∙ sym (range_more 0 n)

-- ---- filters

filter_each : (f g : ℕ → Bool) → ((m : ℕ) → f m ≡ g m) → (xs : List ℕ) → filter f xs ≡ filter g xs
filter_each f g h [] = refl
filter_each f g h (x ∷ xs) = ap₂ (λ b l. cond b (x ∷ l) l) (h x) (filter_each f g h xs)

filter_twice : (f g : ℕ → Bool) (xs : List ℕ) → filter g (filter f xs) ≡ filter (λ n. f n && g n) xs
filter_twice f g [] = refl
filter_twice f g (x ∷ xs) = by_test (f x) (filter_twice f g xs)
  where
    by_test : (b : Bool) → filter g (filter f xs) ≡ filter (λ n. f n && g n) xs
        → filter g (cond b (x ∷ filter f xs) (filter f xs)) ≡ cond (b && g x) (x ∷ filter (λ n. f n && g n) xs) (filter (λ n. f n && g n) xs)
    by_test true e = ap (λ l. cond (g x) (x ∷ l) l) e
    by_test false e = e

-- ---- members of a list

eq_either_way : (a b : ℕ) → nat_eq a b ≡ nat_eq b a
eq_either_way a b = elim (eqb_tells a b) [ inl y ↦ y.0 ∙ sym (eq-eqb b a (sym y.1)) | inr z ↦ z.0 ∙ sym (by_test (nat_eq b a) refl z.1) ]
  where
    by_test : (c : Bool) → nat_eq b a ≡ c → (a ≡ b → ⊥) → c ≡ false
    by_test true e n = absurd (n (sym (eqb-true b a e)))
    by_test false e n = refl

member_is : (xs : List ℕ) (n : ℕ) → bits.is_member xs n ≡ is_member n xs
member_is [] n = refl
member_is (x ∷ xs) n = ap₂ (λ (b c : Bool). if b then true else c) (eq_either_way x n) (member_is xs n) ∙ or_is (nat_eq n x) (is_member n xs)
  where
    or_is : (b c : Bool) → (if b then true else c) ≡ (b || c)
    or_is true c = refl
    or_is false c = refl

that_has : (f : ℕ → Bool) (n : ℕ) → n < 256 → is_member n (members_that f) ≡ f n
that_has f n l =
    sym (member_is (members_that f) n) ∙ member_filter f 256 n ∙ ap (λ (b : Bool). if b then f n else false) (lt-ltb n 256 l)

that_same : (f g : ℕ → Bool) → ((n : ℕ) → n < 256 → f n ≡ g n) → members_that f ≡ members_that g
that_same f g h = filter_same f g 256 h

pub that_is_set : (f : ℕ → Bool) → IsSet (members_that f)
that_is_set f = that_same (λ n. is_member n (members_that f)) f (λ n l. that_has f n l)

-- ---- the lanes' operations are those of the lists

joined_is : (xs ys : List ℕ) → joined xs ys ≡ union xs ys
joined_is xs ys =
    filter_each (λ m. bits.is_member xs m || bits.is_member ys m) (λ n. is_member n xs || is_member n ys)
    (λ m. ap₂ (λ b c. b || c) (member_is xs m) (member_is ys m)) (numbers 256)

with_is : (xs : List ℕ) (m : ℕ) → bits.with_member xs m ≡ with_member xs m
with_is xs m =
    filter_each (λ k. nat_eq k m || bits.is_member xs k) (λ n. is_member n xs || is_member n (m ∷ []))
    (λ k. ap (λ b. nat_eq k m || b) (member_is xs k) ∙ turned (nat_eq k m) (is_member k xs)) (numbers 256)
  where
    turned : (b c : Bool) → (b || c) ≡ (c || (b || false))
    turned true true = refl
    turned true false = refl
    turned false true = refl
    turned false false = refl

meet_is : (f : ℕ → Bool) (ys : List ℕ) → common (members_that f) ys ≡ intersection (members_that f) ys
meet_is f ys =
    filter_same (λ m. bits.is_member (members_that f) m && bits.is_member ys m) (λ n. f n && is_member n ys) 256
    (λ n l. ap₂ (λ b c. b && c) (member_is (members_that f) n ∙ that_has f n l) (member_is ys n))
    ∙ sym (filter_twice f (λ n. is_member n ys) (numbers 256))

less_is : (f : ℕ → Bool) (ys : List ℕ) → without (members_that f) ys ≡ difference (members_that f) ys
less_is f ys =
    filter_same (λ m. bits.is_member (members_that f) m && not (bits.is_member ys m)) (λ n. f n && not (is_member n ys)) 256
    (λ n l. ap₂ (λ b c. b && not c) (member_is (members_that f) n ∙ that_has f n l) (member_is ys n))
    ∙ sym (filter_twice f (λ n. not (is_member n ys)) (numbers 256))

within_is : (xs ys : List ℕ) → are_in xs ys ≡ is_included xs ys
within_is [] ys = refl
within_is (x ∷ xs) ys = ap₂ (λ (b c : Bool). if b then c else false) (member_is ys x) (within_is xs ys) ∙ and_is (is_member x ys) (is_included xs ys)
  where
    and_is : (b c : Bool) → (if b then c else false) ≡ (b && c)
    and_is true c = refl
    and_is false c = refl

pub with_seen : (s : Bits) (m : ℕ) → bits.with_member (members s) m ≡ with_member (members s) m
with_seen s m = with_is (members s) m

pub has_seen : (s : Bits) (m : ℕ) → bits.is_member (members s) m ≡ is_member m (members s)
has_seen s m = member_is (members s) m

pub union_seen : (s t : Bits) → joined (members s) (members t) ≡ union (members s) (members t)
union_seen s t = joined_is (members s) (members t)

pub meet_seen : (s t : Bits) → common (members s) (members t) ≡ intersection (members s) (members t)
meet_seen s t = meet_is (holds s) (members t)

pub less_seen : (s t : Bits) → without (members s) (members t) ≡ difference (members s) (members t)
less_seen s t = less_is (holds s) (members t)

pub within_seen : (s t : Bits) → are_in (members s) (members t) ≡ is_included (members s) (members t)
within_seen s t = within_is (members s) (members t)

-- ---- laws of sets

-- a set is what its members' test gives
abbrev test_of : List ℕ → ℕ → Bool
test_of set n = is_member n set

has_members : (f : ℕ → Bool) → HasMembers (members_that f) f
has_members f = record { is_set = that_is_set f; members = λ n l. that_has f n l }

meet_set : (a b : List ℕ) → IsSet a → intersection a b ≡ members_that (λ n. is_member n a && is_member n b)
meet_set a b s = ap (λ xs. intersection xs b) (sym s) ∙ filter_twice (test_of a) (λ n. is_member n b) (numbers 256)

less_set : (a b : List ℕ) → IsSet a → difference a b ≡ members_that (λ n. is_member n a && not (is_member n b))
less_set a b s = ap (λ xs. difference xs b) (sym s) ∙ filter_twice (test_of a) (λ n. not (is_member n b)) (numbers 256)

at_member : (a b : List ℕ) → is_included a b ≡ true → (n : ℕ) → is_member n a ≡ true → is_member n b ≡ true
at_member [] b e n h = absurd (let v : ⊥ = cc in v)
at_member (x ∷ a) b e n h =
    let parts = and_parts (is_member x b) (is_included a b) e in
    ⊎_elim (λ here. ap (λ m. is_member m b) (eqb-true n x here) ∙ parts.0) (λ further. at_member a b parts.1 n further) (or_cases (nat_eq n x) (is_member n a) h)

both_ways : (p q : Bool) → (p ≡ true → q ≡ true) → (q ≡ true → p ≡ true) → p ≡ q
both_ways true q f g = sym (f refl)
both_ways false true f g = g refl
both_ways false false f g = refl

pub sets_are_by_members : SetsAreByMembersLaw
sets_are_by_members a b s t = record {
  union = has_members (λ n. is_member n a || is_member n b);
  intersection = subst (λ set. HasMembers set (λ n. is_member n a && is_member n b)) (sym (meet_set a b s)) (has_members (λ n. is_member n a && is_member n b));
  difference = subst (λ set. HasMembers set (λ n. is_member n a && not (is_member n b))) (sym (less_set a b s)) (has_members (λ n. is_member n a && not (is_member n b)));
  included = λ e n l h. at_member a b e n h;
  includes = λ h. ap (λ xs. is_included xs b) (sym s) ∙ sym (within_is (members_that (test_of a)) b)
      ∙ are_in_filter (test_of a) b 256 (λ n l e. member_is b n ∙ h n l e);
  equal = λ e f. sym s ∙ that_same (test_of a) (test_of b) (λ n l. both_ways (is_member n a) (is_member n b) (λ h. at_member a b e n h) (λ h. at_member b a f n h)) ∙ t;
}
