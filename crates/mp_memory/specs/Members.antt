-- Means of the sets on lanes, in the form in which they are proved; no statement of the crate's users cites this.
use Rattle.std.specs.Prelude.{◌≡◌, ℕ, ◌-◌, ◌<◌, List, [], ◌∷◌, filter, Bool, true, false, ◌&&◌, ◌||◌, not, nat_eq, nat_lt, if◌then◌else◌}
use Rattle.std.specs.Int.{bit_at}
use Rattle.mp_memory.specs.declared.bits.Bits.{Bits}
use Rattle.mp_memory.specs.Sets.{numbers}

abbrev pub bit : ℕ → ℕ → Bool
bit lane i = nat_eq (bit_at lane i) 1

abbrev pub holds : Bits → ℕ → Bool
holds s m =
    if nat_lt m 64 then bit s.first m
    else if nat_lt m 128 then bit s.second (m - 64)
    else if nat_lt m 192 then bit s.third (m - 128)
    else bit s.fourth (m - 192)

abbrev pub members : Bits → List ℕ
members s = filter (holds s) (numbers 256)

abbrev pub is_member : List ℕ → ℕ → Bool
is_member [] m = false
is_member (x ∷ xs) m = if nat_eq x m then true else is_member xs m

abbrev pub with_member : List ℕ → ℕ → List ℕ
with_member xs m = filter (λ k. nat_eq k m || is_member xs k) (numbers 256)

abbrev pub joined : List ℕ → List ℕ → List ℕ
joined xs ys = filter (λ m. is_member xs m || is_member ys m) (numbers 256)

abbrev pub common : List ℕ → List ℕ → List ℕ
common xs ys = filter (λ m. is_member xs m && is_member ys m) (numbers 256)

abbrev pub without : List ℕ → List ℕ → List ℕ
without xs ys = filter (λ m. is_member xs m && not (is_member ys m)) (numbers 256)

-- inclusion
abbrev pub are_in : List ℕ → List ℕ → Bool
are_in [] ys = true
are_in (x ∷ xs) ys = if is_member ys x then are_in xs ys else false

-- each bit of the second lane is one of the first
abbrev pub Covers : ℕ → ℕ → Type 0
Covers lane other = (i : ℕ) → i < 64 → bit other i ≡ true → bit lane i ≡ true
