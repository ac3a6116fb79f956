-- The own tokens of a whole tree's blocks are the tokens of its text. Of a block that has nested ones, the own tokens up
-- to the first nested block's heading stand as they are counted, then come the tokens of that block's tree, and then what
-- is left of the block, further on by as many.
use Rattle.std.proofs.Common.{◌≡◌, ℕ, zero, suc, ◌+◌, ◌≤◌, ◌<◌, ◌-◌, List, [], ◌∷◌, ◌++◌, map, sum_by, flat_map, refl, sym, ap, ◌∙◌, subst, append_assoc, nat_le, arith}
use Rattle.std.specs.Prelude.{IsPermutation}
use Rattle.std.specs.List.{range_with_len}
use Rattle.std.proofs.lemmas.Bool.{le-leb, lt-leb, cond-true, cond-false}
use Rattle.std.proofs.lemmas.List.{map-append, append-nil}
use Rattle.std.proofs.lemmas.List.Sums.{sum_by-append, sum_by-cons}
use Rattle.std.proofs.lemmas.Grind.{flat_map-append}
use Rattle.std.proofs.lemmas.List.Sorted.{IsPermutation-append, IsPermutation-append_comm, IsPermutation-append_left, IsPermutation-append_right}
use Rattle.std.proofs.lemmas.List.Sorted.{IsPermutation-refl, IsPermutation-trans}
use Rattle.mp_base.specs.declared.path.PathStep.{PathStep}
use Rattle.mp_ast.specs.PlainTrees.{PlainTree, PlainTrees, TreeOf, NoTrees, Beside}
use Rattle.mp_ast.specs.Blocks.{Nested, PlacedBlock, nested_in, tokens_of, tokens_of_all, blocks_from, blocks_inside, index_from, own_tokens}
use Rattle.mp_ast.specs.WholeTrees.{IsWhole, AreWhole, TokensAddUp, EachTokenHasABlock}

-- ---- the number of tokens

abbrev own_count : PlacedBlock → ℕ
own_count block = block.own.tokens

mutual
  blocks_from-sum : (path : List PathStep) (start : ℕ) (tree : PlainTree) → IsWhole tree → sum_by own_count (blocks_from path start tree) ≡ tokens_of tree
  blocks_from-sum path start (TreeOf own inside) whole =
      sum_by-cons own_count (record { path = path; start = start; own = own; inside = inside }) (blocks_inside path start (nested_in own) inside) ∙
      ap (λ n. own.tokens + n) (blocks_inside-sum path start own.tokens 0 (nested_in own) inside whole)

  blocks_inside-sum :
      (path : List PathStep) (start tokens low : ℕ) (nested : List Nested) (trees : PlainTrees) → AreWhole tokens low nested trees →
      sum_by own_count (blocks_inside path start nested trees) ≡ tokens_of_all trees
  blocks_inside-sum path start tokens low [] NoTrees whole = refl
  blocks_inside-sum path start tokens low (n ∷ nested) NoTrees whole = elim whole [ ]
  blocks_inside-sum path start tokens low [] (Beside tree more) whole = elim whole [ ]
  blocks_inside-sum path start tokens low (n ∷ nested) (Beside tree more) whole =
      let here = blocks_from-sum (path ++ n.step ∷ []) (start + n.semicolon + 1) tree whole.1 in
      let rest = blocks_inside-sum path (start + tokens_of tree) tokens (n.semicolon + 1) nested more whole.2 in
      sum_by-append own_count (blocks_from (path ++ n.step ∷ []) (start + n.semicolon + 1) tree) (blocks_inside path (start + tokens_of tree) nested more) ∙
      omega (arith, here, rest)

pub tokens_add_up : (tree : PlainTree) → IsWhole tree → TokensAddUp tree
tokens_add_up tree whole = blocks_from-sum [] 0 tree whole

-- ---- numbers from one on

range_map-agree :
    (f g : ℕ → ℕ) (low m : ℕ) → ((i : ℕ) → low ≤ i → i < low + m → f i ≡ g i) →
    map f (range_with_len low m) ≡ map g (range_with_len low m)
range_map-agree f g low zero h = refl
range_map-agree f g low (suc m) h =
    ap (λ x. x ∷ map f (range_with_len (low + 1) m)) (h low (omega arith) (omega arith)) ∙
    ap (λ l. g low ∷ l) (range_map-agree f g (low + 1) m (λ i a b. h i (omega (arith, a)) (omega (arith, b))))

range-shift : (start low m : ℕ) → map (λ i. start + i) (range_with_len low m) ≡ range_with_len (start + low) m
range-shift start low zero = refl
range-shift start low (suc m) =
    let next : start + (low + 1) ≡ start + low + 1 = omega arith in
    ap (λ l. (start + low) ∷ l) (range-shift start (low + 1) m ∙ ap (λ n. range_with_len n m) next)

range-append : (low a b : ℕ) → range_with_len low (a + b) ≡ range_with_len low a ++ range_with_len (low + a) b
range-append low zero b =
    let none : zero + b ≡ b = omega arith in
    let same : low ≡ low + zero = omega arith in
    ap (range_with_len low) none ∙ ap (λ n. range_with_len n b) same
range-append low (suc a) b =
    let more : suc a + b ≡ suc (a + b) = omega arith in
    let next : low + 1 + a ≡ low + suc a = omega arith in
    ap (range_with_len low) more ∙ ap (λ l. low ∷ l) (range-append (low + 1) a b ∙ ap (λ n. range_with_len (low + 1) a ++ range_with_len n b) next)

-- ---- own tokens

same_elements : {X : Type 0} {xs ys : List X} → xs ≡ ys → IsPermutation xs ys
same_elements {xs = xs} e = subst (IsPermutation xs) e (IsPermutation-refl xs)

-- the second of four lists put behind the third
moved_behind : (r m x y : List ℕ) → IsPermutation ((r ++ m) ++ (x ++ y)) (r ++ (x ++ (m ++ y)))
moved_behind r m x y =
    let swapped = IsPermutation-append_left y (m ++ x) (x ++ m) (IsPermutation-append_comm m x) in
    let inner = subst (IsPermutation (m ++ (x ++ y))) (append_assoc x m y) (subst (λ l. IsPermutation l ((x ++ m) ++ y)) (append_assoc m x y) swapped) in
    subst (λ l. IsPermutation l (r ++ (x ++ (m ++ y)))) (sym (append_assoc r m (x ++ y))) (IsPermutation-append_right r (m ++ (x ++ y)) (x ++ (m ++ y)) inner)

pub low_within : (tokens low : ℕ) (nested : List Nested) (trees : PlainTrees) → AreWhole tokens low nested trees → low ≤ tokens
low_within tokens low [] NoTrees whole = whole
low_within tokens low (n ∷ nested) NoTrees whole = elim whole [ ]
low_within tokens low [] (Beside tree more) whole = elim whole [ ]
low_within tokens low (n ∷ nested) (Beside tree more) whole =
    let rest = low_within tokens (n.semicolon + 1) nested more whole.2 in
    omega (arith, whole.0, rest)

-- of a block with a nested one, the own tokens up to its heading, and those behind it
module _ (start : ℕ) (n : Nested) (nested : List Nested) (tree : PlainTree) (more : PlainTrees) where
  pub index_near : (i : ℕ) → i ≤ n.semicolon → index_from start (n ∷ nested) (Beside tree more) i ≡ start + i
  index_near i h = cond-true (nat_le i n.semicolon) (start + i) (index_from (start + tokens_of tree) nested more i) (le-leb i n.semicolon h)

  pub index_far : (i : ℕ) → n.semicolon < i → index_from start (n ∷ nested) (Beside tree more) i ≡ index_from (start + tokens_of tree) nested more i
  index_far i h = cond-false (nat_le i n.semicolon) (start + i) (index_from (start + tokens_of tree) nested more i) (lt-leb i n.semicolon h)

  own_tokens-split :
      (low a b : ℕ) → low + a ≡ n.semicolon + 1 →
      map (index_from start (n ∷ nested) (Beside tree more)) (range_with_len low (a + b)) ≡
      range_with_len (start + low) a ++ map (index_from (start + tokens_of tree) nested more) (range_with_len (n.semicolon + 1) b)
  own_tokens-split low a b e =
      let f = index_from start (n ∷ nested) (Beside tree more) in
      let g = index_from (start + tokens_of tree) nested more in
      let front = range_map-agree f (λ i. start + i) low a (λ i _ below. index_near i (omega (arith, below, e))) ∙ range-shift start low a in
      let back = range_map-agree f g (n.semicolon + 1) b (λ i above _. index_far i (omega (arith, above))) in
      ap (map f) (range-append low a b) ∙ map-append f (range_with_len low a) (range_with_len (low + a) b) ∙
      ap (λ l. l ++ map f (range_with_len (low + a) b)) front ∙
      ap (λ k. range_with_len (start + low) a ++ map f (range_with_len k b)) e ∙
      ap (λ l. range_with_len (start + low) a ++ l) back

abbrev inside_own : ℕ → List Nested → PlainTrees → ℕ → ℕ → List ℕ
inside_own start nested trees low m = map (index_from start nested trees) (range_with_len low m)

-- three runs of numbers, one behind the other
three_runs : (first a b c : ℕ) → range_with_len first (a + (b + c)) ≡ range_with_len first a ++ (range_with_len (first + a) b ++ range_with_len (first + a + b) c)
three_runs first a b c = range-append first a (b + c) ∙ ap (λ l. range_with_len first a ++ l) (range-append (first + a) b c)

mutual
  unfolding own_tokens

  blocks_from-tokens :
      (path : List PathStep) (start : ℕ) (tree : PlainTree) → IsWhole tree →
      IsPermutation (flat_map own_tokens (blocks_from path start tree)) (range_with_len start (tokens_of tree))
  blocks_from-tokens path start (TreeOf own inside) whole =
      let from : start + 0 ≡ start = omega arith in
      let all : 0 + own.tokens ≡ own.tokens = omega arith in
      subst (λ n. IsPermutation (flat_map own_tokens (blocks_from path start (TreeOf own inside))) (range_with_len n (own.tokens + tokens_of_all inside))) from
      (blocks_inside-tokens path start own.tokens 0 own.tokens (nested_in own) inside all whole)

  blocks_inside-tokens :
      (path : List PathStep) (start tokens low m : ℕ) (nested : List Nested) (trees : PlainTrees) →
      low + m ≡ tokens → AreWhole tokens low nested trees →
      IsPermutation
      (inside_own start nested trees low m ++ flat_map own_tokens (blocks_inside path start nested trees))
      (range_with_len (start + low) (m + tokens_of_all trees))
  blocks_inside-tokens path start tokens low m [] NoTrees e whole =
      let all : m ≡ m + 0 = omega arith in
      same_elements (append-nil (inside_own start [] NoTrees low m) ∙ range-shift start low m ∙ ap (range_with_len (start + low)) all)
  blocks_inside-tokens path start tokens low m (n ∷ nested) NoTrees e whole = elim whole [ ]
  blocks_inside-tokens path start tokens low m [] (Beside tree more) e whole = elim whole [ ]
  blocks_inside-tokens path start tokens low m (n ∷ nested) (Beside tree more) e whole =
      let s = n.semicolon in
      let T = tokens_of tree in
      let K = tokens_of_all more in
      let a = s + 1 - low in
      let b = tokens - (s + 1) in
      let within = low_within tokens (s + 1) nested more whole.2 in
      let ea : low + a ≡ s + 1 = omega (arith, whole.0) in
      let em : m ≡ a + b = omega (arith, whole.0, within, e) in
      let eb : s + 1 + b ≡ tokens = omega (arith, within) in
      let r = range_with_len (start + low) a in
      let own = inside_own (start + T) nested more (s + 1) b in
      let x = flat_map own_tokens (blocks_from (path ++ n.step ∷ []) (start + s + 1) tree) in
      let y = flat_map own_tokens (blocks_inside path (start + T) nested more) in
      let here = blocks_from-tokens (path ++ n.step ∷ []) (start + s + 1) tree whole.1 in
      let rest = blocks_inside-tokens path (start + T) tokens (s + 1) b nested more eb whole.2 in
      let left :
      inside_own start (n ∷ nested) (Beside tree more) low m ++ flat_map own_tokens (blocks_inside path start (n ∷ nested) (Beside tree more)) ≡
      (r ++ own) ++ (x ++ y) =
      ap (λ k. inside_own start (n ∷ nested) (Beside tree more) low k ++ flat_map own_tokens (blocks_inside path start (n ∷ nested) (Beside tree more))) em ∙
      ap (λ l. l ++ flat_map own_tokens (blocks_inside path start (n ∷ nested) (Beside tree more))) (own_tokens-split start n nested tree more low a b ea) ∙
      ap (λ l. (r ++ own) ++ l) (flat_map-append own_tokens (blocks_from (path ++ n.step ∷ []) (start + s + 1) tree) (blocks_inside path (start + T) nested more)) in
      let e1 : start + low + a ≡ start + s + 1 = omega (arith, ea) in
      let e2 : start + low + a + T ≡ start + T + (s + 1) = omega (arith, ea) in
      let e3 : a + (T + (b + K)) ≡ m + (T + K) = omega (arith, em) in
      let runs :
      r ++ (range_with_len (start + s + 1) T ++ range_with_len (start + T + (s + 1)) (b + K)) ≡ range_with_len (start + low) (m + (T + K)) =
      ap (λ k. r ++ (range_with_len k T ++ range_with_len (start + T + (s + 1)) (b + K))) (sym e1) ∙
      ap (λ k. r ++ (range_with_len (start + low + a) T ++ range_with_len k (b + K))) (sym e2) ∙
      sym (three_runs (start + low) a T (b + K)) ∙
      ap (range_with_len (start + low)) e3 in
      let both = IsPermutation-append x (range_with_len (start + s + 1) T) (own ++ y) (range_with_len (start + T + (s + 1)) (b + K)) here rest in
      let middle = range_with_len (start + s + 1) T ++ range_with_len (start + T + (s + 1)) (b + K) in
      let joined = IsPermutation-trans ((r ++ own) ++ (x ++ y)) (r ++ (x ++ (own ++ y))) (r ++ middle)
      (moved_behind r own x y) (IsPermutation-append_right r (x ++ (own ++ y)) middle both) in
      subst (λ l. IsPermutation l (range_with_len (start + low) (m + (T + K)))) (sym left) (subst (IsPermutation ((r ++ own) ++ (x ++ y))) runs joined)

pub each_token_has_a_block : (tree : PlainTree) → IsWhole tree → EachTokenHasABlock tree
each_token_has_a_block tree whole = blocks_from-tokens [] 0 tree whole
