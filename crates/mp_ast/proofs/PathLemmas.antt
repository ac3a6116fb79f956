-- No two blocks of a tree have the same path: those in one nested block have its step, and the steps to the blocks that
-- stand directly in a block differ, since a step counts the earlier ones of its name.
use Rattle.std.proofs.Common.{◌≡◌, ℕ, ◌+◌, ◌≤◌, ◌<◌, ⊎_elim, Bool, true, false, ◌&&◌, cond, List, [], ◌∷◌, ◌++◌, count_by, nat_eq, filter, refl, sym, ap, ◌∙◌, append_assoc, arith}
use Rattle.std.specs.Prelude.{Some, bytes_eq, find}
use Rattle.std.specs.List.{AllByRecursion, IsDistinct}
use Rattle.std.proofs.lemmas.Bool.{cases_Bool, cond-true, cond-false, eq-eqb, false_from_ne_true, eqb-true}
use Rattle.std.proofs.lemmas.List.{append-nil}
use Rattle.std.proofs.lemmas.List.Sums.{sum_by-cons}
use Rattle.std.proofs.lemmas.Slice.Eq.{bytes_eq-Decides}
use Rattle.mp_base.specs.declared.path.PathStep.{PathStep}
use Rattle.mp_ast.specs.PlainTrees.{PlainDeclaration, PlainTree, PlainTrees, TreeOf, NoTrees, Beside}
use Rattle.mp_ast.specs.Blocks.{Nested, PlacedBlock, nested_after, nested_in, is_block, tokens_of, blocks, blocks_from, blocks_inside, same_step, same_path}
use Rattle.mp_ast.specs.Blocks.{PathsDiffer, EachIsAtItsPath}

-- ---- steps

same_bytes : (xs : List ℕ) → bytes_eq xs xs ≡ true
same_bytes xs = (bytes_eq-Decides xs xs).1 refl

abbrev step : List ℕ → ℕ → PathStep
step name nth = record { name = name; nth = nth }

step_differs : (name other : List ℕ) (nth more : ℕ) → (bytes_eq name other ≡ true → nth < more) → same_step (step name nth) (step other more) ≡ false
step_differs name other nth more less =
    ⊎_elim
    (λ same. ap (λ b. b && nat_eq nth more) same ∙ false_from_ne_true (nat_eq nth more) (λ e. let l = less same in let q = eqb-true nth more e in omega (arith, l, q)))
    (λ other. ap (λ b. b && nat_eq nth more) other)
    (cases_Bool (bytes_eq name other))

count_later : (name other : List ℕ) (earlier : List (List ℕ)) → count_by (bytes_eq name) earlier ≤ count_by (bytes_eq name) (other ∷ earlier)
count_later name other earlier =
    let e = sum_by-cons (λ x. cond (bytes_eq name x) 1 0) other earlier in omega (arith, e)

count_own : (name : List ℕ) (earlier : List (List ℕ)) → count_by (bytes_eq name) (name ∷ earlier) ≡ 1 + count_by (bytes_eq name) earlier
count_own name earlier =
    sum_by-cons (λ x. cond (bytes_eq name x) 1 0) name earlier ∙ ap (λ b. cond b 1 0 + count_by (bytes_eq name) earlier) (same_bytes name)

-- a step to an earlier one of a name is none to a later one
later_differ :
    (name : List ℕ) (nth : ℕ) (earlier : List (List ℕ)) (ds : List PlainDeclaration) → nth ≤ count_by (bytes_eq name) earlier →
    AllByRecursion (λ n. same_step (step name nth) n.step ≡ false) (nested_after earlier ds)
later_differ name nth earlier [] h = tt
later_differ name nth earlier (d ∷ ds) h =
    let other = d.heading.name.name in (
      step_differs name other nth (count_by (bytes_eq other) earlier + 1) (λ same.
          let e = ap (λ x. count_by (bytes_eq x) earlier) ((bytes_eq-Decides name other).0 same) in omega (arith, h, e)),
      later_differ name nth (other ∷ earlier) ds (let l = count_later name other earlier in omega (arith, h, l)),
    )

pub steps_differ : (earlier : List (List ℕ)) (ds : List PlainDeclaration) → IsDistinct (λ m n. same_step m.step n.step) (nested_after earlier ds)
unfolding IsDistinct
steps_differ earlier [] = tt
steps_differ earlier (d ∷ ds) =
    let name = d.heading.name.name in (
      later_differ name (count_by (bytes_eq name) earlier + 1) (name ∷ earlier) ds (let e = count_own name earlier in omega (arith, e)),
      steps_differ (name ∷ earlier) ds,
    )

-- ---- paths

pub same_prefix : (p a b : List PathStep) → same_path (p ++ a) (p ++ b) ≡ same_path a b
same_prefix [] a b = refl
same_prefix (s ∷ p) a b =
    ap (λ x. (x && nat_eq s.nth s.nth) && same_path (p ++ a) (p ++ b)) (same_bytes s.name) ∙
    ap (λ x. x && same_path (p ++ a) (p ++ b)) (eq-eqb s.nth s.nth refl) ∙ same_prefix p a b

pub not_longer : (p : List PathStep) (s : PathStep) (r : List PathStep) → same_path p (p ++ s ∷ r) ≡ false
not_longer [] s r = refl
not_longer (t ∷ p) s r =
    ap (λ x. (x && nat_eq t.nth t.nth) && same_path p (p ++ s ∷ r)) (same_bytes t.name) ∙
    ap (λ x. x && same_path p (p ++ s ∷ r)) (eq-eqb t.nth t.nth refl) ∙ not_longer p s r

pub other_step : (p : List PathStep) (s t : PathStep) (a b : List PathStep) → same_step s t ≡ false → same_path (p ++ s ∷ a) (p ++ t ∷ b) ≡ false
other_step p s t a b e = same_prefix p (s ∷ a) (t ∷ b) ∙ ap (λ x. x && same_path a b) e

-- ---- lists

module _ {X : Type 0} where
  pub all-append : (P : X → Type 0) (xs ys : List X) → AllByRecursion P xs → AllByRecursion P ys → AllByRecursion P (xs ++ ys)
  all-append P [] ys a b = b
  all-append P (x ∷ xs) ys a b = (a.0, all-append P xs ys a.1 b)

  pub all-map : (P Q : X → Type 0) → ((x : X) → P x → Q x) → (xs : List X) → AllByRecursion P xs → AllByRecursion Q xs
  all-map P Q f [] a = tt
  all-map P Q f (x ∷ xs) a = (f x a.0, all-map P Q f xs a.1)

  distinct-append :
      (e : X → X → Bool) (xs ys : List X) → IsDistinct e xs → IsDistinct e ys → AllByRecursion (λ x. AllByRecursion (λ y. e x y ≡ false) ys) xs →
      IsDistinct e (xs ++ ys)
  unfolding IsDistinct
  distinct-append e [] ys a b c = b
  distinct-append e (x ∷ xs) ys a b c = (all-append (λ y. e x y ≡ false) xs ys a.0 c.0, distinct-append e xs ys a.1 b c.1)

-- ---- blocks

-- the path goes on from this one
abbrev pub GoesOn : List PathStep → PlacedBlock → Type 0
GoesOn path b = (r : List PathStep) × (b.path ≡ path ++ r)

-- the path goes on by the step to a nested block that is not `left` out
abbrev pub GoesInto : (Nested → Bool) → List PathStep → PlacedBlock → Type 0
GoesInto left path b = (n : Nested) × (left n ≡ false) × (r : List PathStep) × (b.path ≡ path ++ n.step ∷ r)

abbrev no_block : Nested → Bool
no_block n = false

any : (nested : List Nested) → AllByRecursion (λ n. no_block n ≡ false) nested
any [] = tt
any (n ∷ nested) = (refl, any nested)

mutual
  pub from_goes_on : (path : List PathStep) (start : ℕ) (tree : PlainTree) → AllByRecursion (GoesOn path) (blocks_from path start tree)
  from_goes_on path start (TreeOf own inside) = (
    ([], sym (append-nil path)),
    all-map (GoesInto no_block path) (GoesOn path) (λ b g. (g.0.step ∷ g.2, g.3)) (blocks_inside path start (nested_in own) inside)
        (inside_goes_into no_block path start (nested_in own) inside (any (nested_in own))),
  )

  pub inside_goes_into :
      (left : Nested → Bool) (path : List PathStep) (start : ℕ) (nested : List Nested) (trees : PlainTrees) →
      AllByRecursion (λ n. left n ≡ false) nested → AllByRecursion (GoesInto left path) (blocks_inside path start nested trees)
  inside_goes_into left path start nested NoTrees a = tt
  inside_goes_into left path start [] (Beside tree more) a = tt
  inside_goes_into left path start (n ∷ nested) (Beside tree more) a =
      let inner = path ++ n.step ∷ [] in
      all-append (GoesInto left path) (blocks_from inner (start + n.semicolon + 1) tree) (blocks_inside path (start + tokens_of tree) nested more)
      (all-map (GoesOn inner) (GoesInto left path) (λ b g. (n, a.0, g.0, g.1 ∙ append_assoc path (n.step ∷ []) g.0)) (blocks_from inner (start + n.semicolon + 1) tree)
      (from_goes_on inner (start + n.semicolon + 1) tree))
      (inside_goes_into left path (start + tokens_of tree) nested more a.1)

abbrev same_block : PlacedBlock → PlacedBlock → Bool
same_block a b = same_path a.path b.path

mutual
  unfolding IsDistinct

  from_distinct : (path : List PathStep) (start : ℕ) (tree : PlainTree) → IsDistinct same_block (blocks_from path start tree)
  from_distinct path start (TreeOf own inside) = (
    all-map (GoesInto no_block path) (λ b. same_path path b.path ≡ false) (λ b g. ap (same_path path) g.3 ∙ not_longer path g.0.step g.2)
        (blocks_inside path start (nested_in own) inside) (inside_goes_into no_block path start (nested_in own) inside (any (nested_in own))),
    inside_distinct path start (nested_in own) inside (steps_differ [] (filter (λ d. is_block d.body) own.declarations)),
  )

  inside_distinct :
      (path : List PathStep) (start : ℕ) (nested : List Nested) (trees : PlainTrees) → IsDistinct (λ m n. same_step m.step n.step) nested →
      IsDistinct same_block (blocks_inside path start nested trees)
  inside_distinct path start nested NoTrees d = tt
  inside_distinct path start [] (Beside tree more) d = tt
  inside_distinct path start (n ∷ nested) (Beside tree more) d =
      let inner = path ++ n.step ∷ [] in
      let here = blocks_from inner (start + n.semicolon + 1) tree in
      let rest = blocks_inside path (start + tokens_of tree) nested more in
      let own = λ (m : Nested). same_step n.step m.step in
      distinct-append same_block here rest (from_distinct inner (start + n.semicolon + 1) tree) (inside_distinct path (start + tokens_of tree) nested more d.1)
      (all-map (GoesOn inner) (λ a. AllByRecursion (λ b. same_block a b ≡ false) rest)
      (λ a g. all-map (GoesInto own path) (λ b. same_block a b ≡ false)
      (λ b f. ap (λ p. same_path p b.path) (g.1 ∙ append_assoc path (n.step ∷ []) g.0) ∙ ap (same_path (path ++ n.step ∷ g.0)) f.3 ∙ other_step path n.step f.0.step g.0 f.2 f.1)
      rest (inside_goes_into own path (start + tokens_of tree) nested more d.0))
      here (from_goes_on inner (start + n.semicolon + 1) tree))

pub paths_differ : (tree : PlainTree) → PathsDiffer tree
paths_differ tree = from_distinct [] 0 tree

-- ---- the block with a path

pub same_path_itself : (path : List PathStep) → same_path path path ≡ true
same_path_itself [] = refl
same_path_itself (s ∷ path) =
    ap (λ x. (x && nat_eq s.nth s.nth) && same_path path path) (same_bytes s.name) ∙
    ap (λ x. x && same_path path path) (eq-eqb s.nth s.nth refl) ∙ same_path_itself path

all-both : {X : Type 0} (P Q R : X → Type 0) → ((x : X) → P x → Q x → R x) → (xs : List X) → AllByRecursion P xs → AllByRecursion Q xs → AllByRecursion R xs
all-both P Q R f [] a b = tt
all-both P Q R f (x ∷ xs) a b = (f x a.0 b.0, all-both P Q R f xs a.1 b.1)

each_is_found : (bs : List PlacedBlock) → IsDistinct same_block bs → AllByRecursion (λ b. find (λ x. same_block x b) bs ≡ Some b) bs
unfolding IsDistinct
each_is_found [] d = tt
each_is_found (x ∷ bs) d = (
  cond-true (same_block x x) (Some x) (find (λ y. same_block y x) bs) (same_path_itself x.path),
  all-both (λ b. same_block x b ≡ false) (λ b. find (λ y. same_block y b) bs ≡ Some b) (λ b. find (λ y. same_block y b) (x ∷ bs) ≡ Some b)
      (λ b other found. cond-false (same_block x b) (Some x) (find (λ y. same_block y b) bs) other ∙ found)
      bs d.0 (each_is_found bs d.1),
)

pub each_is_at_its_path : (tree : PlainTree) → EachIsAtItsPath tree
each_is_at_its_path tree = each_is_found (blocks tree) (paths_differ tree)
