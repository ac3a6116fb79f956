-- A list of pieces, and a place in it: in piece `at`, past its first `offset` bytes.
use Rattle.std.specs.Prelude.{ℕ, zero, suc, ◌<◌, List, [], ◌∷◌, ◌++◌, take, drop, length, min, slice_index_or}
use Rattle.mp_edge.specs.declared.source.Got.{Got}
use Rattle.mp_edge.specs.declared.source.Got.TheVariants as got

-- the bytes of the pieces, one piece after another
abbrev pub joined : List (List ℕ) → List ℕ
joined [] = []
joined (piece ∷ pieces) = piece ++ joined pieces

-- the pieces without the empty ones at their front
abbrev pub past_empty : List (List ℕ) → List (List ℕ)
past_empty [] = []
past_empty ([] ∷ pieces) = past_empty pieces
past_empty ((b ∷ piece) ∷ pieces) = (b ∷ piece) ∷ pieces

-- the pieces without the first n bytes of the first
abbrev pub without_front : ℕ → List (List ℕ) → List (List ℕ)
without_front n [] = []
without_front n (piece ∷ pieces) = drop n piece ∷ pieces

-- What a read with this room answers where it does not fail: the first piece, as much of it as there is room for.
abbrev pub answer_of : List (List ℕ) → ℕ → Got
answer_of pieces zero = got.Bytes 0
answer_of [] (suc room) = got.End
answer_of (piece ∷ pieces) (suc room) = got.Bytes (min (length piece) (suc room))

-- the bytes before the place
abbrev pub before : List (List ℕ) → ℕ → ℕ → List ℕ
before [] at offset = []
before (piece ∷ pieces) zero offset = take offset piece
before (piece ∷ pieces) (suc at) offset = piece ++ before pieces at offset

-- the pieces from the place on, of which the first is cut there
abbrev pub after : List (List ℕ) → ℕ → ℕ → List (List ℕ)
after [] at offset = []
after (piece ∷ pieces) zero offset = drop offset piece ∷ pieces
after (piece ∷ pieces) (suc at) offset = after pieces at offset

-- a byte stands at the place, or it is behind the last piece
abbrev pub IsAtByte : List (List ℕ) → ℕ → ℕ → Type 0
IsAtByte pieces at offset = at < length pieces → offset < length (slice_index_or pieces at [])
