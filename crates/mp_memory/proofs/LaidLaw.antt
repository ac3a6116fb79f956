-- What stands where after cells were laid over others.
use Rattle.std.proofs.Common.{◌≡◌, ℕ, zero, suc, ◌+◌, ◌-◌, ◌<◌, List, [], ◌∷◌, ◌++◌, length, take, drop, refl, ap, ◌∙◌, arith}
use Rattle.std.specs.Prelude.{slice_get}
use Rattle.std.proofs.lemmas.List.{length-take-le}
use Rattle.mp_memory.specs.declared.cells.Cell.{Cell}
use Rattle.mp_memory.specs.Roots.{CellsAreLaidOver}
use Rattle.mp_memory.proofs.LaidLemmas.{front_length, laid_length}

get_first : (xs ys : List Cell) (k : ℕ) → k < length xs → slice_get (xs ++ ys) k ≡ slice_get xs k
get_first [] ys k l = absurd (let v : ⊥ = omega (arith, l) in v)
get_first (x ∷ xs) ys zero l = refl
get_first (x ∷ xs) ys (suc k) l = get_first xs ys k (omega (arith, l))

get_second : (xs ys : List Cell) (k j : ℕ) → j ≡ length xs + k → slice_get (xs ++ ys) j ≡ slice_get ys k
get_second [] ys k j e = ap (slice_get ys) (omega (arith, e))
get_second (x ∷ xs) ys k zero e = absurd (let v : ⊥ = omega (arith, e) in v)
get_second (x ∷ xs) ys k (suc j) e = get_second xs ys k j (omega (arith, e))

get_taken : (xs : List Cell) (n k : ℕ) → k < n → slice_get (take n xs) k ≡ slice_get xs k
get_taken xs zero k l = absurd (let v : ⊥ = omega (arith, l) in v)
get_taken [] (suc n) k l = refl
get_taken (x ∷ xs) (suc n) zero l = refl
get_taken (x ∷ xs) (suc n) (suc k) l = get_taken xs n k (omega (arith, l))

get_dropped : (xs : List Cell) (n k j : ℕ) → j ≡ n + k → slice_get (drop n xs) k ≡ slice_get xs j
get_dropped xs zero k j e = ap (slice_get xs) (omega (arith, e))
get_dropped [] (suc n) k j e = refl
get_dropped (x ∷ xs) (suc n) k zero e = absurd (let v : ⊥ = omega (arith, e) in v)
get_dropped (x ∷ xs) (suc n) k (suc j) e = get_dropped xs n k j (omega (arith, e))

pub cells_are_laid_over : CellsAreLaidOver
cells_are_laid_over cells o new l = record {
  as_many = laid_length cells o new l;
  before = λ k less. get_first front behind k (omega (arith, len, less)) ∙ get_first (take o cells) new k (omega (arith, taken, less)) ∙ get_taken cells o k less;
  inside = λ k less. get_first front behind (o + k) (omega (arith, len, less)) ∙ get_second (take o cells) new k (o + k) (omega (arith, taken));
  behind = λ k more. get_second front behind (k - (o + length new)) k (omega (arith, len, more)) ∙
      get_dropped cells (o + length new) (k - (o + length new)) k (omega (arith, more));
}
  where
    front : List Cell
    front = take o cells ++ new

    behind : List Cell
    behind = drop (o + length new) cells

    len : length (take o cells ++ new) ≡ o + length new
    len = front_length cells o new l

    taken : length (take o cells) ≡ o
    taken = length-take-le o cells (omega (arith, l))
