-- The number of cells of a frame with one more slot.
use Rattle.std.proofs.Common.{◌≡◌, ℕ, ◌+◌, List, [], ◌∷◌, ◌++◌, ap, ◌∙◌, arith}
use Rattle.mp_tables.specs.declared.typed_statements.FrameSlot.{FrameSlot}
use Rattle.mp_tables.specs.Sizes.{saturated, sum_of}
use Rattle.mp_tables.specs.Elaboration.{frame_cells}

over : (a b c : ℕ) → saturated (a + saturated (b + saturated (c + 0))) ≡ saturated (saturated (a + b) + saturated (c + 0))
over a b c = omega arith

pub one_more : (slots : List FrameSlot) (s : FrameSlot) → frame_cells (slots ++ s ∷ []) ≡ sum_of (frame_cells slots ∷ s.cells ∷ [])
one_more [] s = omega arith
one_more (t ∷ slots) s = ap (λ n. saturated (t.cells + n)) (one_more slots s) ∙ over t.cells (frame_cells slots) s.cells
