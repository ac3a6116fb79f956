-- From a token's index to its place and back. In a whole tree an index stands once among the own tokens of all blocks, so
-- the first block that has it is the one.
use Rattle.std.proofs.Common.{◌≡◌, ℕ, zero, suc, ◌+◌, ◌≤◌, ◌<◌, ⊎_elim, Bool, true, false, ◌&&◌, List, [], ◌∷◌, ◌++◌, map, flat_map, count_by, nat_eq}
use Rattle.std.proofs.Common.{Option, Some, None, refl, sym, ap, ◌∙◌, subst, arith}
use Rattle.std.specs.Prelude.{find, option_map, option_and_then, nat_lt, bytes_eq}
use Rattle.std.specs.Option.{option_or}
use Rattle.std.specs.List.{range_with_len, AllByRecursion}
use Rattle.std.proofs.lemmas.Bool.{cases_Bool, cases_lt, cond-true, cond-false, eq-eqb, eqb-true, lt-ltb, ltb-true, false≢true, false_from_ne_true}
use Rattle.std.proofs.lemmas.List.Sums.{sum_by-cons, sum_by-append}
use Rattle.std.proofs.lemmas.List.Sorted.{sum_by-IsPermutation}
use Rattle.std.proofs.lemmas.List.Concat.{flat_map-cons}
use Rattle.std.proofs.lemmas.Slice.Eq.{bytes_eq-Decides}
use Rattle.mp_base.specs.declared.path.PathStep.{PathStep}
use Rattle.mp_base.specs.declared.place.Place.{Place}
use Rattle.mp_ast.specs.PlainTrees.{PlainTree}
use Rattle.mp_ast.specs.Blocks.{PlacedBlock, tokens_of, blocks, index_in, own_tokens, own_index, index_of, same_step, same_path, block_at}
use Rattle.mp_ast.specs.WholeTrees.{IsWhole}
use Rattle.mp_ast.specs.Places.{ordinal_in, place_in, place_among, place_of}
use Rattle.mp_ast.proofs.BlockLemmas.{each_token_has_a_block}
use Rattle.mp_ast.proofs.PathLemmas.{each_is_at_its_path}
use Rattle.mp_ast.proofs.IndexLemmas.{indices_rise, number, yes_one, not_zero}

-- ---- options and tests

abbrev value : {X : Type 0} → X → Option X → X
value x None = x
value x (Some y) = y

abbrev is_some : {X : Type 0} → Option X → Bool
is_some None = false
is_some (Some x) = true

none_some : {X : Type 0} {x : X} → None ≡ Some x → ⊥
none_some e = false≢true (ap is_some e)

and_left : (b c : Bool) → (b && c) ≡ true → b ≡ true
and_left true c e = refl
and_left false c e = e

and_right : (b c : Bool) → (b && c) ≡ true → c ≡ true
and_right true c e = e
and_right false c e = absurd (false≢true e)

-- ---- paths

pub step_equal : (s t : PathStep) → same_step s t ≡ true → s ≡ t
step_equal s t e =
    let name = (bytes_eq-Decides s.name t.name).0 (and_left (bytes_eq s.name t.name) (nat_eq s.nth t.nth) e) in
    let nth = eqb-true s.nth t.nth (and_right (bytes_eq s.name t.name) (nat_eq s.nth t.nth) e) in
    λ i. record { name = name i; nth = nth i }

path_equal : (a b : List PathStep) → same_path a b ≡ true → a ≡ b
path_equal [] [] e = refl
path_equal [] (t ∷ b) e = absurd (false≢true e)
path_equal (s ∷ a) [] e = absurd (false≢true e)
path_equal (s ∷ a) (t ∷ b) e =
    ap (λ x. x ∷ a) (step_equal s t (and_left (same_step s t) (same_path a b) e)) ∙
    ap (λ l. t ∷ l) (path_equal a b (and_right (same_step s t) (same_path a b) e))

-- ---- the first number of some that passes a test

find_only :
    (p : ℕ → Bool) (n low m : ℕ) → low ≤ n → n < low + m → p n ≡ true → ((i : ℕ) → p i ≡ true → i ≡ n) →
    find p (range_with_len low m) ≡ Some n
find_only p n low zero a b t only = absurd (omega (arith, a, b))
find_only p n low (suc m) a b t only =
    ⊎_elim
    (λ passes. cond-true (p low) (Some low) (find p (range_with_len (low + 1) m)) passes ∙ ap Some (only low passes))
    (λ fails.
    cond-false (p low) (Some low) (find p (range_with_len (low + 1) m)) fails ∙
    find_only p n (low + 1) m
    (⊎_elim (λ less. omega (arith, less)) (λ more.
    let e : low ≡ n = omega (arith, a, more) in absurd (false≢true (sym fails ∙ ap p e ∙ t)))
    (cases_lt low n))
    (omega (arith, b)) t only)
    (cases_Bool (p low))

found_within : (p : ℕ → Bool) (n low m : ℕ) → find p (range_with_len low m) ≡ Some n → (n < low + m) × (p n ≡ true)
found_within p n low zero e = absurd (none_some e)
found_within p n low (suc m) e =
    ⊎_elim
    (λ passes.
    let same : low ≡ n = ap (value low) (sym (cond-true (p low) (Some low) (find p (range_with_len (low + 1) m)) passes) ∙ e) in
    (omega (arith, same), ap p (sym same) ∙ passes))
    (λ fails.
    let rest = found_within p n (low + 1) m (sym (cond-false (p low) (Some low) (find p (range_with_len (low + 1) m)) fails) ∙ e) in
    let within = rest.0 in
    (omega (arith, within), rest.1))
    (cases_Bool (p low))

-- ---- how often an index stands in a list

abbrev times : ℕ → List ℕ → ℕ
times i xs = count_by (λ x. nat_eq x i) xs

times-cons : (i x : ℕ) (xs : List ℕ) → times i (x ∷ xs) ≡ number (nat_eq x i) + times i xs
times-cons i x xs = sum_by-cons (λ y. number (nat_eq y i)) x xs

times-append : (i : ℕ) (xs ys : List ℕ) → times i (xs ++ ys) ≡ times i xs + times i ys
times-append i xs ys = sum_by-append (λ y. number (nat_eq y i)) xs ys

found_times : (f : ℕ → ℕ) (i n : ℕ) (xs : List ℕ) → find (λ x. nat_eq (f x) i) xs ≡ Some n → 1 ≤ times i (map f xs)
found_times f i n [] e = absurd (none_some e)
found_times f i n (x ∷ xs) e =
    let c = times-cons i (f x) (map f xs) in
    ⊎_elim
    (λ passes. let one = yes_one passes in omega (arith, c, one))
    (λ fails.
    let rest = found_times f i n xs (sym (cond-false (nat_eq (f x) i) (Some x) (find (λ y. nat_eq (f y) i) xs) fails) ∙ e) in
    omega (arith, c, rest))
    (cases_Bool (nat_eq (f x) i))

not_found_times : (f : ℕ → ℕ) (i : ℕ) (xs : List ℕ) → find (λ x. nat_eq (f x) i) xs ≡ None → times i (map f xs) ≡ 0
not_found_times f i [] e = refl
not_found_times f i (x ∷ xs) e =
    let c = times-cons i (f x) (map f xs) in
    ⊎_elim
    (λ passes. absurd (none_some (sym e ∙ cond-true (nat_eq (f x) i) (Some x) (find (λ y. nat_eq (f y) i) xs) passes)))
    (λ fails.
    let rest = not_found_times f i xs (sym (cond-false (nat_eq (f x) i) (Some x) (find (λ y. nat_eq (f y) i) xs) fails) ∙ e) in
    let none = not_zero fails in
    omega (arith, c, rest, none))
    (cases_Bool (nat_eq (f x) i))

range_before : (i low m : ℕ) → i < low → times i (range_with_len low m) ≡ 0
range_before i low zero h = refl
range_before i low (suc m) h =
    let c = times-cons i low (range_with_len (low + 1) m) in
    let rest = range_before i (low + 1) m (omega (arith, h)) in
    let none = not_zero (false_from_ne_true (nat_eq low i) (λ e. let q = eqb-true low i e in omega (arith, q, h))) in
    omega (arith, c, rest, none)

range_once : (i low m : ℕ) → times i (range_with_len low m) ≤ 1
range_once i low zero = omega arith
range_once i low (suc m) =
    let c = times-cons i low (range_with_len (low + 1) m) in
    let rest = range_once i (low + 1) m in
    ⊎_elim
    (λ passes.
    let q = eqb-true low i passes in
    let one = yes_one passes in
    let behind = range_before i (low + 1) m (omega (arith, q)) in
    omega (arith, c, one, behind))
    (λ fails. let none = not_zero fails in omega (arith, c, rest, none))
    (cases_Bool (nat_eq low i))

range_has : (i low m : ℕ) → low ≤ i → i < low + m → 1 ≤ times i (range_with_len low m)
range_has i low zero a b = absurd (omega (arith, a, b))
range_has i low (suc m) a b =
    let c = times-cons i low (range_with_len (low + 1) m) in
    ⊎_elim
    (λ less.
    let up : low + 1 ≤ i = omega (arith, less) in
    let rest = range_has i (low + 1) m up (omega (arith, b)) in
    omega (arith, c, rest))
    (λ more.
    let same : low ≡ i = omega (arith, a, more) in
    let one = yes_one (eq-eqb low i same) in
    omega (arith, c, one))
    (cases_lt low i)

-- ---- in one block

abbrev place_at : List PathStep → ℕ → Place
place_at path n = record { path = path; ordinal = n }

abbrev at_ordinal : PlacedBlock → ℕ → Place
at_ordinal block n = place_at block.path n

module _ (block : PlacedBlock) (i : ℕ) where
  in_back : (p : Place) → place_in block i ≡ Some p → (p.path ≡ block.path) × (p.ordinal < block.own.tokens) × (index_in block p.ordinal ≡ i)
  in_back p e = go (ordinal_in block i) refl e
    where
      go :
          (o : Option ℕ) → ordinal_in block i ≡ o → option_map (at_ordinal block) o ≡ Some p →
          (p.path ≡ block.path) × (p.ordinal < block.own.tokens) × (index_in block p.ordinal ≡ i)
      go None f g = absurd (none_some g)
      go (Some n) f g =
          let here = found_within (λ m. nat_eq (index_in block m) i) n 0 block.own.tokens f in
          let within : n < block.own.tokens = let h = here.0 in omega (arith, h) in
          let at = eqb-true (index_in block n) i here.1 in
          let same = ap (value p) g in
          subst (λ q. (q.path ≡ block.path) × (q.ordinal < block.own.tokens) × (index_in block q.ordinal ≡ i)) same (refl, within, at)

  in_forth : (n : ℕ) → n < block.own.tokens → index_in block n ≡ i → place_in block i ≡ Some (at_ordinal block n)
  in_forth n h e =
      let only : (m : ℕ) → nat_eq (index_in block m) i ≡ true → m ≡ n =
      λ m t.
      let q = eqb-true (index_in block m) i t in
      ⊎_elim
      (λ less. let r = indices_rise block m n less in absurd (omega (arith, r, q, e)))
      (λ back. ⊎_elim
      (λ more. let r = indices_rise block n m more in absurd (omega (arith, r, q, e)))
      (λ front. omega (arith, back, front))
      (cases_lt n m))
      (cases_lt m n) in
      ap (option_map (at_ordinal block))
      (find_only (λ m. nat_eq (index_in block m) i) n 0 block.own.tokens (omega arith) (omega (arith, h)) (eq-eqb (index_in block n) i e) only)

  in_times : (p : Place) → place_in block i ≡ Some p → 1 ≤ times i (own_tokens block)
  unfolding own_tokens
  in_times p e = go (ordinal_in block i) refl e
    where
      go : (o : Option ℕ) → ordinal_in block i ≡ o → option_map (at_ordinal block) o ≡ Some p → 1 ≤ times i (own_tokens block)
      go None f g = absurd (none_some g)
      go (Some n) f g = found_times (index_in block) i n (range_with_len 0 block.own.tokens) f

  not_in_times : place_in block i ≡ None → times i (own_tokens block) ≡ 0
  unfolding own_tokens
  not_in_times e = go (ordinal_in block i) refl e
    where
      go : (o : Option ℕ) → ordinal_in block i ≡ o → option_map (at_ordinal block) o ≡ None → times i (own_tokens block) ≡ 0
      go (Some n) f g = absurd (none_some (sym g))
      go None f g = not_found_times (index_in block) i (range_with_len 0 block.own.tokens) f

-- ---- among blocks

all_times : (i : ℕ) (b : PlacedBlock) (bs : List PlacedBlock) → times i (flat_map own_tokens (b ∷ bs)) ≡ times i (own_tokens b) + times i (flat_map own_tokens bs)
all_times i b bs = ap (times i) (flat_map-cons own_tokens b bs) ∙ times-append i (own_tokens b) (flat_map own_tokens bs)

among_back :
    (P : PlacedBlock → Type 0) (i : ℕ) (p : Place) (bs : List PlacedBlock) → place_among bs i ≡ Some p → AllByRecursion P bs →
    (b : PlacedBlock) × P b × (place_in b i ≡ Some p)
among_back P i p [] e a = absurd (none_some e)
among_back P i p (x ∷ bs) e a = go (place_in x i) refl e (among_back P i p bs)
  where
    go :
        (o : Option Place) → place_in x i ≡ o → option_or o (place_among bs i) ≡ Some p →
        (place_among bs i ≡ Some p → AllByRecursion P bs → (b : PlacedBlock) × P b × (place_in b i ≡ Some p)) →
        (b : PlacedBlock) × P b × (place_in b i ≡ Some p)
    go None f g rest = rest g a.1
    go (Some q) f g rest = (x, a.0, f ∙ g)

among_none : (i : ℕ) (bs : List PlacedBlock) → place_among bs i ≡ None → times i (flat_map own_tokens bs) ≡ 0
among_none i [] e = refl
among_none i (x ∷ bs) e = go (place_in x i) refl e (among_none i bs)
  where
    go :
        (o : Option Place) → place_in x i ≡ o → option_or o (place_among bs i) ≡ None →
        (place_among bs i ≡ None → times i (flat_map own_tokens bs) ≡ 0) → times i (flat_map own_tokens (x ∷ bs)) ≡ 0
    go None f g rest =
        let c = all_times i x bs in
        let here = not_in_times x i f in
        let more = rest g in
        omega (arith, c, here, more)
    go (Some q) f g rest = absurd (none_some (sym g))

module _ (P : PlacedBlock → Bool) (i : ℕ) (b : PlacedBlock) (p : Place) (is : place_in b i ≡ Some p) where
  among_times : (bs : List PlacedBlock) → find P bs ≡ Some b → 1 ≤ times i (flat_map own_tokens bs)
  among_times [] e = absurd (none_some e)
  among_times (x ∷ bs) e =
      let c = all_times i x bs in
      ⊎_elim
      (λ passes.
      let same : x ≡ b = ap (value x) (sym (cond-true (P x) (Some x) (find P bs) passes) ∙ e) in
      let here = in_times x i p (ap (λ y. place_in y i) same ∙ is) in
      omega (arith, c, here))
      (λ fails.
      let rest = among_times bs (sym (cond-false (P x) (Some x) (find P bs) fails) ∙ e) in
      omega (arith, c, rest))
      (cases_Bool (P x))

  among_forth : (bs : List PlacedBlock) → find P bs ≡ Some b → times i (flat_map own_tokens bs) ≤ 1 → place_among bs i ≡ Some p
  among_forth [] e once = absurd (none_some e)
  among_forth (x ∷ bs) e once =
      let c = all_times i x bs in
      ⊎_elim
      (λ passes.
      let same : x ≡ b = ap (value x) (sym (cond-true (P x) (Some x) (find P bs) passes) ∙ e) in
      ap (λ o. option_or o (place_among bs i)) (ap (λ y. place_in y i) same ∙ is))
      (λ fails.
      let later = sym (cond-false (P x) (Some x) (find P bs) fails) ∙ e in
      let there = among_times bs later in
      let rest = among_forth bs later (omega (arith, c, once)) in
      go x bs (place_in x i) refl c there once rest)
      (cases_Bool (P x))
    where
      go :
          (y : PlacedBlock) (ys : List PlacedBlock) (o : Option Place) → place_in y i ≡ o →
          times i (flat_map own_tokens (y ∷ ys)) ≡ times i (own_tokens y) + times i (flat_map own_tokens ys) →
          1 ≤ times i (flat_map own_tokens ys) → times i (flat_map own_tokens (y ∷ ys)) ≤ 1 → place_among ys i ≡ Some p →
          place_among (y ∷ ys) i ≡ Some p
      go y ys None f c there once rest = ap (λ o. option_or o (place_among ys i)) f ∙ rest
      go y ys (Some q) f c there once rest =
          let here = in_times y i q f in
          absurd (omega (arith, c, there, once, here))

-- ---- the laws

index_times : (tree : PlainTree) (i : ℕ) → IsWhole tree → times i (range_with_len 0 (tokens_of tree)) ≡ times i (flat_map own_tokens (blocks tree))
index_times tree i whole =
    sum_by-IsPermutation (λ x. number (nat_eq x i)) (flat_map own_tokens (blocks tree)) (range_with_len 0 (tokens_of tree)) (each_token_has_a_block tree whole)

own_index-is : (b : PlacedBlock) (n i : ℕ) → own_index b n ≡ Some i → (n < b.own.tokens) × (index_in b n ≡ i)
own_index-is b n i e =
    ⊎_elim
    (λ passes. (ltb-true n b.own.tokens passes, ap (value i) (sym (cond-true (nat_lt n b.own.tokens) (Some (index_in b n)) None passes) ∙ e)))
    (λ fails. absurd (none_some (sym (cond-false (nat_lt n b.own.tokens) (Some (index_in b n)) None fails) ∙ e)))
    (cases_Bool (nat_lt n b.own.tokens))

found_passes : (P : PlacedBlock → Bool) (b : PlacedBlock) (bs : List PlacedBlock) → find P bs ≡ Some b → P b ≡ true
found_passes P b [] e = absurd (none_some e)
found_passes P b (x ∷ bs) e =
    ⊎_elim
    (λ passes. ap P (sym (ap (value x) (sym (cond-true (P x) (Some x) (find P bs) passes) ∙ e))) ∙ passes)
    (λ fails. found_passes P b bs (sym (cond-false (P x) (Some x) (find P bs) fails) ∙ e))
    (cases_Bool (P x))

pub place_found : (tree : PlainTree) (place : Place) (index : ℕ) → IsWhole tree → index_of tree place ≡ Some index → place_of tree index ≡ Some place
place_found tree place index whole e = go (block_at tree place.path) refl e
  where
    go :
        (o : Option PlacedBlock) → block_at tree place.path ≡ o → option_and_then (λ block. own_index block place.ordinal) o ≡ Some index →
        place_of tree index ≡ Some place
    go None f g = absurd (none_some g)
    go (Some b) f g =
        let P : PlacedBlock → Bool = λ block. same_path block.path place.path in
        let here = own_index-is b place.ordinal index g in
        let path = path_equal b.path place.path (found_passes P b (blocks tree) f) in
        let is = in_forth b index place.ordinal here.0 here.1 ∙ ap (λ q. Some (place_at q place.ordinal)) path in
        let all = index_times tree index whole in
        let once = range_once index 0 (tokens_of tree) in
        among_forth P index b place is (blocks tree) f (omega (arith, all, once))

pub index_found : (tree : PlainTree) (place : Place) (index : ℕ) → place_of tree index ≡ Some place → index_of tree place ≡ Some index
index_found tree place index e =
    let b = among_back (λ block. block_at tree block.path ≡ Some block) index place (blocks tree) e (each_is_at_its_path tree) in
    let back = in_back b.0 index place b.2 in
    ap (λ path. option_and_then (λ block. own_index block place.ordinal) (block_at tree path)) back.0 ∙
    ap (option_and_then (λ block. own_index block place.ordinal)) b.1 ∙
    cond-true (nat_lt place.ordinal b.0.own.tokens) (Some (index_in b.0 place.ordinal)) None (lt-ltb place.ordinal b.0.own.tokens back.1) ∙
    ap Some back.2

pub each_has_a_place : (tree : PlainTree) (index : ℕ) → IsWhole tree → index < tokens_of tree → (place : Place) × (place_of tree index ≡ Some place)
each_has_a_place tree index whole h = go (place_of tree index) refl
  where
    go : (o : Option Place) → place_of tree index ≡ o → (place : Place) × (place_of tree index ≡ Some place)
    go (Some p) f = (p, f)
    go None f =
        let all = index_times tree index whole in
        let none = among_none index (blocks tree) f in
        let has = range_has index 0 (tokens_of tree) (omega arith) (omega (arith, h)) in
        absurd (omega (arith, all, none, has))
