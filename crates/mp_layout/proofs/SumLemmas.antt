-- A saturated sum is the exact sum, saturated once: what holds of sizes and offsets follows from the exact sums.
use Rattle.std.proofs.Common.{
  ◌≡◌,
  ℕ,
  ◌+◌,
  ◌*◌,
  ◌<◌,
  ◌≤◌,
  zero,
  suc,
  List,
  [],
  ◌∷◌,
  ◌++◌,
  length,
  get_or,
  take,
  drop,
  Some,
  replicate,
  refl,
  sym,
  ap,
  ◌∙◌,
  subst,
  arith,
  append_assoc,
  length-append,
}
use Rattle.std.proofs.lemmas.List.{take-take}
use Rattle.std.proofs.lemmas.List.Folds.{sum_by-replicate}
use Rattle.std.proofs.lemmas.List.Sums.{sum_by-cons, sum_by-append, sum_by-take-le, sum_by_more}
use Rattle.std.specs.List.{sum}
use Rattle.mp_base.specs.declared.limits.TheConstants.{CELL_LIMIT}
use Rattle.mp_tables.specs.declared.types.Bounds.{Bounds}
use Rattle.mp_tables.specs.Sizes.{array_cells, saturated, sum_of, offsets, offsets_from, values_in}
use Rattle.mp_layout.specs.Laws.{EachOffsetIsTheSumBefore, OffsetsAscend, PartsStandApart, PartsStandWithin}

sum-cons : (n : ℕ) (sizes : List ℕ) → sum (n ∷ sizes) ≡ n + sum sizes
sum-cons n sizes = sum_by-cons (λ x. x) n sizes

-- ---- sums

pub saturated-inner : (a b : ℕ) → saturated (a + saturated b) ≡ saturated (a + b)
saturated-inner a b = omega arith

pub saturated-outer : (a b : ℕ) → saturated (saturated a + b) ≡ saturated (a + b)
saturated-outer a b = omega arith

pub sum_of-small : (sizes : List ℕ) → sum_of sizes ≤ CELL_LIMIT + 1
sum_of-small [] = omega arith
sum_of-small (n ∷ sizes) = omega arith

pub sum_of-sum : (sizes : List ℕ) → sum_of sizes ≡ saturated (sum sizes)
sum_of-sum [] = omega arith
sum_of-sum (n ∷ sizes) = ap (λ k. saturated (n + k)) (sum_of-sum sizes) ∙ saturated-inner n (sum sizes) ∙ ap saturated (sym (sum-cons n sizes))

pub sum_of-within : (sizes : List ℕ) → sum sizes ≤ CELL_LIMIT → sum_of sizes ≡ sum sizes
sum_of-within sizes h = sum_of-sum sizes ∙ omega arith

pub sum_of-past : (sizes : List ℕ) → CELL_LIMIT < sum sizes → sum_of sizes ≡ CELL_LIMIT + 1
sum_of-past sizes h = sum_of-sum sizes ∙ omega arith

pub sum_of-append : (xs ys : List ℕ) → sum_of (xs ++ ys) ≡ saturated (sum_of xs + sum_of ys)
sum_of-append xs ys =
    let whole = sum_of-sum (xs ++ ys) ∙ ap saturated (sum_by-append (λ x. x) xs ys) in
    let parts = ap (λ k. saturated (k + sum_of ys)) (sum_of-sum xs) ∙ ap (λ k. saturated (saturated (sum xs) + k)) (sum_of-sum ys) in
    whole ∙ sym (saturated-inner (sum xs) (sum ys)) ∙ sym (saturated-outer (sum xs) (saturated (sum ys))) ∙ sym parts

-- ---- arrays

pub array_cells-sum : (b : Bounds) (n : ℕ) → array_cells (Some b) n ≡ sum_of (replicate (values_in b) n)
array_cells-sum b n = sym (sum_of-sum (replicate (values_in b) n) ∙ ap saturated (sum_by-replicate (λ x. x) (values_in b) n))

-- ---- offsets

pub length-offsets_from : (start : ℕ) (sizes : List ℕ) → length (offsets_from start sizes) ≡ length sizes
length-offsets_from start [] = refl
length-offsets_from start (n ∷ sizes) = ap suc (length-offsets_from (saturated (start + n)) sizes)

pub length-offsets : (sizes : List ℕ) → length (offsets sizes) ≡ length sizes
length-offsets sizes = length-offsets_from 0 sizes

pub get_or-offsets_from :
    (start : ℕ) (sizes : List ℕ) (at : ℕ) → start ≤ CELL_LIMIT + 1 → at < length sizes →
    get_or (offsets_from start sizes) at 0 ≡ saturated (start + sum (take at sizes))
get_or-offsets_from start [] at s h = absurd (omega arith)
get_or-offsets_from start (n ∷ sizes) zero s h = omega arith
get_or-offsets_from start (n ∷ sizes) (suc at) s h =
    get_or-offsets_from (saturated (start + n)) sizes at (omega arith) (omega arith)
    ∙ saturated-outer (start + n) (sum (take at sizes))
    ∙ ap saturated (omega (arith, sum-cons n (take at sizes)))

pub offset_is : (sizes : List ℕ) → EachOffsetIsTheSumBefore sizes
offset_is sizes at h = get_or-offsets_from 0 sizes at (omega arith) h ∙ ap saturated (omega arith)

pub offsets_from-append :
    (start : ℕ) (sizes : List ℕ) (n : ℕ) → start ≤ CELL_LIMIT + 1 →
    offsets_from start (sizes ++ n ∷ []) ≡ offsets_from start sizes ++ saturated (start + sum_of sizes) ∷ []
offsets_from-append start [] n s = ap (λ k. k ∷ []) (omega arith)
offsets_from-append start (m ∷ sizes) n s =
    ap (λ l. start ∷ l) (offsets_from-append (saturated (start + m)) sizes n (omega arith))
    ∙ ap (λ k. start ∷ offsets_from (saturated (start + m)) sizes ++ k ∷ []) (saturated-outer (start + m) (sum_of sizes) ∙ omega arith)

pub offsets-append : (sizes : List ℕ) (n : ℕ) → offsets (sizes ++ n ∷ []) ≡ offsets sizes ++ sum_of sizes ∷ []
offsets-append sizes n = offsets_from-append 0 sizes n (omega arith) ∙ ap (λ k. offsets sizes ++ k ∷ []) (omega (arith, sum_of-small sizes))

-- ---- parts

sum_take-le : (sizes : List ℕ) (i j : ℕ) → i ≤ j → sum (take i sizes) ≤ sum (take j sizes)
sum_take-le sizes i j h = subst (λ l. sum l ≤ sum (take j sizes)) (take-take i j sizes h) (sum_by-take-le (λ x. x) (take j sizes) i)

pub ascend : (sizes : List ℕ) → OffsetsAscend sizes
ascend sizes i j h w = omega (arith, offset_is sizes i (omega arith), offset_is sizes j w, sum_take-le sizes i j h)

pub apart : (sizes : List ℕ) → sum sizes ≤ CELL_LIMIT → PartsStandApart sizes
apart sizes s i j h w =
    omega (
      arith,
      offset_is sizes i (omega arith),
      offset_is sizes j w,
      sum_by_more (λ x. x) sizes i 0 (omega arith),
      sum_take-le sizes (i + 1) j (omega arith),
      sum_by-take-le (λ x. x) sizes j,
    )

pub within : (sizes : List ℕ) → sum sizes ≤ CELL_LIMIT → PartsStandWithin sizes
within sizes s i w =
    omega (arith, offset_is sizes i w, sum_by_more (λ x. x) sizes i 0 w, sum_by-take-le (λ x. x) sizes (i + 1), sum_of-within sizes s)

-- ---- loops over sizes

-- the sum of the first sizes, saturated
pub record SumSoFar (sizes : List ℕ) (at sum_so_far : ℕ) : Type 0 where
  pub small : sum_so_far ≤ CELL_LIMIT + 1
  pub rest : saturated (sum_so_far + sum_of (drop at sizes)) ≡ sum_of sizes

-- the offsets of the first sizes, and where the next begins
pub record OffsetsSoFar (sizes : List ℕ) (at : ℕ) (out : List ℕ) (start : ℕ) : Type 0 where
  pub small : start ≤ CELL_LIMIT + 1
  pub rest : out ++ offsets_from start (drop at sizes) ≡ offsets sizes
