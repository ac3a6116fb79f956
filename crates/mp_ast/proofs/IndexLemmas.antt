-- The indices in the text of a block's own tokens rise with their ordinals; and a test as a number, by which lists are
-- counted.
use Rattle.std.proofs.Common.{◌≡◌, ℕ, ◌+◌, ◌≤◌, ◌<◌, ⊎_elim, Bool, true, false, cond, List, [], ◌∷◌, ap, arith}
use Rattle.std.proofs.lemmas.Bool.{cases_lt}
use Rattle.mp_ast.specs.PlainTrees.{PlainTrees, NoTrees, Beside}
use Rattle.mp_ast.specs.Blocks.{Nested, PlacedBlock, nested_in, tokens_of, index_from}
use Rattle.mp_ast.specs.LeavesInText.{IndicesRise}
use Rattle.mp_ast.proofs.BlockLemmas.{index_near, index_far}

pub index_from_least : (start : ℕ) (nested : List Nested) (trees : PlainTrees) (n : ℕ) → start + n ≤ index_from start nested trees n
index_from_least start nested NoTrees n = omega arith
index_from_least start [] (Beside tree more) n = omega arith
index_from_least start (x ∷ nested) (Beside tree more) n =
    let rest = index_from_least (start + tokens_of tree) nested more n in
    ⊎_elim
    (λ far. let e = index_far start x nested tree more n far in omega (arith, e, rest))
    (λ near. let e = index_near start x nested tree more n near in omega (arith, e))
    (cases_lt x.semicolon n)

pub index_from_rises : (start : ℕ) (nested : List Nested) (trees : PlainTrees) (m n : ℕ) → m < n → index_from start nested trees m < index_from start nested trees n
index_from_rises start nested NoTrees m n h = omega (arith, h)
index_from_rises start [] (Beside tree more) m n h = omega (arith, h)
index_from_rises start (x ∷ nested) (Beside tree more) m n h =
    let inner = index_from_rises (start + tokens_of tree) nested more m n h in
    let least = index_from_least start (x ∷ nested) (Beside tree more) n in
    ⊎_elim
    (λ far.
    let e = index_far start x nested tree more m far in
    let f = index_far start x nested tree more n (omega (arith, far, h)) in
    omega (arith, e, f, inner))
    (λ near. let e = index_near start x nested tree more m near in omega (arith, e, least, h))
    (cases_lt x.semicolon m)

pub indices_rise : (block : PlacedBlock) → IndicesRise block
indices_rise block m n h = index_from_rises block.start (nested_in block.own) block.inside m n h

-- ---- tests as numbers

abbrev pub number : Bool → ℕ
number b = cond b 1 0

pub yes_one : {b : Bool} → b ≡ true → number b ≡ 1
yes_one e = ap number e

pub not_zero : {b : Bool} → b ≡ false → number b ≡ 0
not_zero e = ap number e
