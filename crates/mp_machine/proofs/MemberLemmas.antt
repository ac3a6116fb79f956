-- Sets as lists of their members: what a row asks of each member, and what a set with more members is.
use Rattle.std.proofs.Common.{◌≡◌, ◌≢◌, ℕ, zero, suc, ◌+◌, ◌-◌, ◌<◌, ◌≤◌, List, [], ◌∷◌, ◌++◌, filter, cond, Bool, true, false}
use Rattle.std.proofs.Common.{◌&&◌, ◌||◌}
use Rattle.std.proofs.Common.{refl, sym, ap, ◌∙◌, arith, pos, negsuc, ℤ}
use Rattle.std.specs.Prelude.{int_lt, nat_eq}
use Rattle.std.specs.List.{list_all, range_with_len}
use Rattle.std.proofs.lemmas.Bool.Decides.{nat_tests}
use Rattle.std.proofs.lemmas.Bool.{and_parts, eqb-true, eq-eqb, ne_eqb}
use Rattle.std.proofs.lemmas.List.Elements.{filter-append}
use Rattle.std.proofs.lemmas.List.Folds.{list_any-append}
use Rattle.mp_memory.specs.Sets.{IsSet, is_member, numbers, union, with_member}
use Rattle.mp_machine.specs.Numbers.{lies_in, may_be_member, members_lie_in, natural, numbers_from, stands_in}
use Rattle.mp_machine.specs.States.{State}
use Rattle.mp_machine.specs.Outcomes.{Done, bind, choose, fault, unless, ◌>>◌}
use Rattle.mp_machine.specs.Operands.{put_members}

numbers_more : (n : ℕ) → numbers (suc n) ≡ numbers n ++ n ∷ []
unfolding numbers
numbers_more n = refl

numbers_none : numbers 0 ≡ []
unfolding numbers
numbers_none = refl

-- ---- the members of a filtered list

one_that : (t : ℕ → Bool) (n m : ℕ) → is_member n (filter t (m ∷ [])) ≡ (t m && nat_eq n m)
one_that t n m = by_test (t m)
  where
    by_test : (b : Bool) → is_member n (cond b (m ∷ []) []) ≡ (b && nat_eq n m)
    by_test true = by_same (nat_eq n m)
      where
        by_same : (b : Bool) → (b || false) ≡ b
        by_same true = refl
        by_same false = refl
    by_test false = refl

member_more : (t : ℕ → Bool) (n m : ℕ) → is_member n (filter t (numbers (suc m))) ≡ (is_member n (filter t (numbers m)) ||
    (t m && nat_eq n m))
member_more t n m =
    ap (λ l. is_member n (filter t l)) (numbers_more m) ∙ ap (is_member n) (filter-append t (numbers m) (m ∷ []))
    ∙ list_any-append (nat_eq n) (filter t (numbers m)) (filter t (m ∷ [])) ∙ ap (λ b. is_member n (filter t (numbers m)) ||
    b) (one_that t n m)

and_false : (b : Bool) → (b && false) ≡ false
and_false true = refl
and_false false = refl

and_true : (b : Bool) → (b && true) ≡ b
and_true true = refl
and_true false = refl

or_false : (b : Bool) → (b || false) ≡ b
or_false true = refl
or_false false = refl

none_from : (t : ℕ → Bool) (m n : ℕ) → m ≤ n → is_member n (filter t (numbers m)) ≡ false
none_from t zero n l = ap (λ l. is_member n (filter t l)) numbers_none
none_from t (suc m) n l =
    member_more t n m ∙ ap (λ b. b || (t m && nat_eq n m)) (none_from t m n (omega (arith, l)))
    ∙ ap (λ b. t m && b) (ne_eqb n m (λ e. let v : ⊥ = omega (arith, l, e) in v)) ∙ and_false (t m)

-- a number below the bound is a member exactly where it passes
that_has : (t : ℕ → Bool) (m n : ℕ) → n < m → is_member n (filter t (numbers m)) ≡ t n
that_has t zero n l = absurd (omega (arith, l))
that_has t (suc m) n l = by_same (nat_eq n m) refl (λ k. that_has t m n k)
  where
    by_same : (b : Bool) → nat_eq n m ≡ b → (n < m → is_member n (filter t (numbers m)) ≡ t n) →
        is_member n (filter t (numbers (suc m))) ≡ t n
    by_same true e below =
        let same : n ≡ m = eqb-true n m e in
        member_more t n m ∙ ap (λ b. b || (t m && nat_eq n m)) (none_from t m n (omega (arith, same)))
        ∙ ap (λ b. t m && b) e ∙ and_true (t m) ∙ ap t (sym same)
    by_same false e below =
        member_more t n m ∙ ap (λ b. is_member n (filter t (numbers m)) || (t m && b)) e
        ∙ ap (λ b. is_member n (filter t (numbers m)) || b) (and_false (t m)) ∙ or_false (is_member n (filter t (numbers m)))
        ∙ below (let o = other n m e in omega (arith, l, o))
      where
        other : (n m : ℕ) → nat_eq n m ≡ false → n ≢ m
        other n m e s = let h = eq-eqb n m s in let v : ⊥ = cc in v

pub member_small : (set : List ℕ) (n : ℕ) → IsSet set → 256 ≤ n → is_member n set ≡ false
member_small set n is l = ap (is_member n) (sym is) ∙ none_from (λ k. is_member k set) 256 n l

-- ---- what all members pass

and_both : (a b : Bool) → a ≡ true → b ≡ true → (a && b) ≡ true
and_both a b e f = ap (λ c. c && b) e ∙ f

all_both : (test : ℕ → Bool) (xs ys : List ℕ) → list_all test xs ≡ true → list_all test ys ≡ true →
    list_all test (xs ++ ys) ≡ true
all_both test [] ys a b = b
all_both test (x ∷ xs) ys a b =
    let parts = and_parts (test x) (list_all test xs) a in
    and_both (test x) (list_all test (xs ++ ys)) parts.0 (all_both test xs ys parts.1 b)

all_that : (t test : ℕ → Bool) (m : ℕ) → ((n : ℕ) → n < m → t n ≡ true → test n ≡ true) →
    list_all test (filter t (numbers m)) ≡ true
all_that t test zero h = ap (λ l. list_all test (filter t l)) numbers_none
all_that t test (suc m) h =
    ap (λ l. list_all test (filter t l)) (numbers_more m) ∙ ap (list_all test) (filter-append t (numbers m) (m ∷ []))
    ∙ all_both test (filter t (numbers m)) (filter t (m ∷ [])) (all_that t test m (λ n l p. h n (omega (arith, l)) p))
    (last (t m) refl)
  where
    last : (b : Bool) → t m ≡ b → list_all test (cond b (m ∷ []) []) ≡ true
    last true e = ap (λ c. c && true) (h m (omega arith) e)
    last false e = refl

pub all_lie : (low high : ℤ) (set : List ℕ) → IsSet set → ((n : ℕ) → n < 256 → is_member n set ≡ true → lies_in
    low high (pos n) ≡ true) →
    members_lie_in low high set ≡ true
all_lie low high set is h = ap (members_lie_in low high) (sym is) ∙ all_that (λ n. is_member n set) (λ n. lies_in
    low high (pos n)) 256 h

pub not_all_lie : (low high : ℤ) (set : List ℕ) (n : ℕ) → is_member n set ≡ true → lies_in low high (pos n) ≡ false →
    members_lie_in low high set ≡ false
not_all_lie low high [] n m f = absurd (let v : ⊥ = cc in v)
not_all_lie low high (x ∷ xs) n m f = by_same (nat_eq n x) refl m (λ m. not_all_lie low high xs n m f)
  where
    by_same : (b : Bool) → nat_eq n x ≡ b → (b || is_member n xs) ≡ true → (is_member n xs ≡ true → members_lie_in
        low high xs ≡ false) →
        (lies_in low high (pos x) && members_lie_in low high xs) ≡ false
    by_same true e m more = ap (λ k. lies_in low high (pos k) && members_lie_in low high xs) (sym (eqb-true n x e)) ∙
        ap (λ b. b && members_lie_in low high xs) f
    by_same false e m more = ap (λ b. lies_in low high (pos x) && b) (more m) ∙ and_false (lies_in low high (pos x))

-- ---- sets with more members

filter_same : (f g : ℕ → Bool) (m : ℕ) → ((n : ℕ) → n < m → f n ≡ g n) → filter f (numbers m) ≡ filter g (numbers m)
filter_same f g zero h = ap (filter f) numbers_none ∙ sym (ap (filter g) numbers_none)
filter_same f g (suc m) h =
    ap (filter f) (numbers_more m) ∙ filter-append f (numbers m) (m ∷ [])
    ∙ ap (λ l. l ++ filter f (m ∷ [])) (filter_same f g m (λ n l. h n (omega (arith, l))))
    ∙ ap (λ b. filter g (numbers m) ++ cond b (m ∷ []) []) (h m (omega arith))
    ∙ sym (ap (filter g) (numbers_more m) ∙ filter-append g (numbers m) (m ∷ []))

range_more : (a n : ℕ) → range_with_len a (suc n) ≡ range_with_len a n ++ (a + n) ∷ []
range_more a zero = ap (λ k. k ∷ []) (omega arith)
range_more a (suc n) = ap (λ l. a ∷ l) (range_more (a + 1) n ∙ ap (λ k. range_with_len (a + 1) n ++ k ∷ []) (omega arith))

or_assoc : (a b c : Bool) → ((a || b) || c) ≡ (a || (b || c))
or_assoc true b c = refl
or_assoc false b c = refl

pub union_more : (set : List ℕ) (first n : ℕ) →
    with_member (union set (range_with_len first n)) (first + n) ≡ union set (range_with_len first (n + 1))
union_more set first n = filter_same _ _ 256 (λ k l.
    ap (λ b. b || is_member k ((first + n) ∷ [])) (that_has (λ k. is_member k set || is_member k (range_with_len first n)) 256
    k l)
    ∙ or_assoc (is_member k set) (is_member k (range_with_len first n)) (is_member k ((first + n) ∷ []))
    ∙ sym (ap (λ b. is_member k set || b) (ap (λ m. is_member k (range_with_len first m)) (one_more n) ∙
    ap (is_member k) (range_more first n)
    ∙ list_any-append (nat_eq k) (range_with_len first n) ((first + n) ∷ []))))
  where
    one_more : (n : ℕ) → n + 1 ≡ suc n
    one_more n = omega arith

pub union_none : (set : List ℕ) → IsSet set → union set [] ≡ set
union_none set is = filter_same _ _ 256 (λ k l. or_false (is_member k set)) ∙ is

pub with_next : (set all after : List ℕ) (first member : ℕ) → all ≡ union set (range_with_len first (member - first)) →
    first ≤ member →
    after ≡ with_member all member → after ≡ union set (range_with_len first (member + 1 - first))
with_next set all after first member is l e =
    e ∙ ap (λ a. with_member a member) is
    ∙ ap (with_member (union set (range_with_len first (member - first)))) (omega (arith, l))
    ∙ union_more set first (member - first) ∙ ap (λ n. union set (range_with_len first n)) (omega (arith, l))

pub none_more : (set all : List ℕ) (first n : ℕ) → all ≡ set → IsSet all → n ≡ 0 → all ≡ union set (range_with_len first n)
none_more set all first n same is none =
    sym (union_none all is) ∙ ap (λ s. union s []) same ∙ ap (λ k. union set (range_with_len first k)) (sym none)

outside_256 : (n : ℕ) → may_be_member (pos n) ≡ false → 256 ≤ n
outside_256 n outside = grind (arith, nat_tests, outside)

pub stands_nowhere : (i : ℤ) (set : List ℕ) → IsSet set → may_be_member i ≡ false → stands_in i set ≡ false
stands_nowhere (pos n) set is outside = member_small set n is (outside_256 n outside)
stands_nowhere (negsuc n) set is outside = refl

-- ---- the rows

pub one_shown : (i : ℤ) (set made : List ℕ) (s t : State) → may_be_member i ≡ true → made ≡ with_member set (natural i) →
    put_members made s ≡ Done tt t → bind (unless (may_be_member i) (fault 15) s)
    (λ x u. put_members (with_member set (natural i)) u) ≡ Done tt t
one_shown i set made s t may is row =
    ap (λ b. bind (unless b (fault 15) s) (λ x u. put_members (with_member set (natural i)) u)) may ∙
    ap (λ m. put_members m s) (sym is) ∙ row

pub span_shown : (i j : ℤ) (set made : List ℕ) (s t : State) → int_lt j i ≡ false → may_be_member i ≡ true →
    may_be_member j ≡ true →
    made ≡ union set (numbers_from (natural i) (natural j)) → put_members made s ≡ Done tt t →
    choose (int_lt j i) (put_members set) (unless (may_be_member i && may_be_member j) (fault 15) >>
    put_members (union set (numbers_from (natural i) (natural j)))) s ≡ Done tt t
span_shown i j set made s t order may be is row =
    ap (λ b. choose b (put_members set) (unless (may_be_member i && may_be_member j) (fault 15) >> put_members
    (union set (numbers_from (natural i) (natural j)))) s) order
    ∙ ap (λ b. (unless (b && may_be_member j) (fault 15) >> put_members (union set (numbers_from (natural i) (natural j)))) s)
    may
    ∙ ap (λ b. (unless b (fault 15) >> put_members (union set (numbers_from (natural i) (natural j)))) s) be
    ∙ ap (λ m. put_members m s) (sym is) ∙ row
