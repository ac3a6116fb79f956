use Rattle.std.proofs.Common.{◌≡◌, ◌++◌, take, ap, sym, ◌∙◌}
use Rattle.mp_text.specs.Pieces.{piece_bytes, all_bytes}
use Rattle.mp_text.proofs.PieceLemmas.{take_piece}
use Rattle.mp_text.proofs.pieces.Pieces.bytes.Goals as goal

pub pieces-preserved : goal.pieces-preserved
pieces-preserved c =
    let pieces = c.as_slice-pieces.result.now in
    let i = c.pieces.piece-index in
    let bytes : c.as_slice.result.now ≡ piece_bytes c.piece-item.result = c.as_slice.ensures.value ∙ ap (λ v. v.items) c.deref.ensures in
    c.in_ok-extend_from_slice.ensures.items ∙ ap (λ t. t ++ c.as_slice.result.now) c.pieces.invariant ∙ ap (λ t. all_bytes (take i pieces) ++ t) (bytes
    ∙ ap piece_bytes c.piece-item.is) ∙ sym (take_piece pieces i c.piece-item.result c.pieces-test.true)
