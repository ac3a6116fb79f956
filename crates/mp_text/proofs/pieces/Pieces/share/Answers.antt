use Rattle.std.proofs.Common.{◌≡◌, ◌++◌, length, take, refl, ap, sym, ◌∙◌, append_assoc, arith, length-append}
use Rattle.std.specs.Arc.{arc_value}
use Rattle.mp_text.specs.Pieces.{piece_bytes, all_bytes, line_ends}
use Rattle.mp_text.proofs.PieceLemmas.{next_lines, own_lines, take_piece, take_within}
use Rattle.mp_text.proofs.pieces.Pieces.share.Goals as goal

pub overflow_sub-piece : goal.overflow_sub-piece
overflow_sub-piece c =
    let own = own_lines c.args.pieces.now c.pieces.piece-index c.args.before c.pieces.lines c.piece-item.result c.requires.lines c.pieces-test.true
    c.piece-item.is c.pieces.invariant.lines in
    omega (arith, own)

pub add-requires : goal.add-requires
add-requires c =
    let pieces = c.args.pieces.now in
    let i = c.pieces.piece-index in
    let within = take_within pieces i c.piece-item.result c.pieces-test.true in
    let one = ap (λ p. length (piece_bytes p)) c.piece-item.is in
    let same = ap (λ v. length v.items) c.in_ok-try_clone.ensures in
    let so = ap length c.pieces.invariant.bytes in
    let own = own_lines pieces i c.args.before c.pieces.lines c.piece-item.result c.requires.lines c.pieces-test.true c.piece-item.is c.pieces.invariant.lines in
    let ends : line_ends (arc_value c.in_ok-try_clone.field-0).items ≡ line_ends (piece_bytes c.piece-item.result) = ap (λ v. line_ends v.items) c.in_ok-try_clone.ensures in
    record {
      room = omega (arith, within, one, same, so, c.requires.room, length-append c.args.self.now (all_bytes (take i pieces)));
      lines = omega (arith, own, ends);
    }

pub pieces-preserved : goal.pieces-preserved
pieces-preserved c =
    let pieces = c.args.pieces.now in
    let i = c.pieces.piece-index in
    let same = ap (λ v. v.items) c.in_ok-try_clone.ensures in
    record {
      bytes = c.in_ok-add.ensures.ok ∙ ap (λ t. t ++ (arc_value c.in_ok-try_clone.field-0).items) c.pieces.invariant.bytes
          ∙ append_assoc c.args.self.now (all_bytes (take i pieces)) (arc_value c.in_ok-try_clone.field-0).items
          ∙ ap (λ t. c.args.self.now ++ t) (ap (λ t. all_bytes (take i pieces) ++ t) (same ∙ ap piece_bytes c.piece-item.is)
          ∙ sym (take_piece pieces i c.piece-item.result c.pieces-test.true));
      lines = next_lines pieces i c.args.before c.piece-item.result.lines c.piece-item.result c.requires.lines c.pieces-test.true c.piece-item.is refl;
    }
