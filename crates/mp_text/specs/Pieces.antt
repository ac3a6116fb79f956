-- No statement cites this: the bytes of a version in pieces, which other versions share.
use Rattle.std.specs.Prelude.{◌≡◌, ℕ, ◌+◌, ◌-◌, ◌<◌, ◌≤◌, ◌==◌, List, [], ◌∷◌, ◌++◌, length, take, slice_index, slice_index_or}
use Rattle.std.specs.Arc.{arc_value}
use Rattle.std.specs.List.{count_by}
use Rattle.mp_text.specs.declared.piece.Piece.{Piece}

abbrev pub piece_bytes : Piece → List ℕ
piece_bytes piece = (arc_value piece.bytes).items

abbrev pub all_bytes : List Piece → List ℕ
all_bytes [] = []
all_bytes (piece ∷ pieces) = piece_bytes piece ++ all_bytes pieces

-- each piece ends where its bytes do, the first of which starts at this place
abbrev pub EndsFrom : ℕ → List Piece → Type 0
EndsFrom start [] = Unit {0}
EndsFrom start (piece ∷ pieces) = (piece.end ≡ start + length (piece_bytes piece)) × EndsFrom piece.end pieces

-- how many line ends there are
abbrev pub line_ends : List ℕ → ℕ
line_ends bytes = count_by (λ b. b == 10) bytes

-- each piece counts the line ends up to its end, with so many before the first piece
abbrev pub CountsFrom : ℕ → List Piece → Type 0
CountsFrom before pieces = (i : ℕ) (d : Piece) → i < length pieces → (slice_index_or pieces i d).lines ≡ before + line_ends (all_bytes (take (i + 1) pieces))

-- what always holds of a version's pieces
pub record ArePieces (pieces : List Piece) : Type 0 where
  pub ends : EndsFrom 0 pieces
  pub lines : CountsFrom 0 pieces

-- The place just past this many line ends, which is 0 or stands behind a line end.
pub record IsLineStart (n : ℕ) (at : ℕ) (bytes : List ℕ) : Type 0 where
  pub within : at ≤ length bytes
  pub ends : line_ends (take at bytes) ≡ n
  pub start : 0 < at → slice_index bytes (at - 1) ≡ 10
