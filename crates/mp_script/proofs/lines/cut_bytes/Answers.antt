use Rattle.std.proofs.Common.{arith, length, ◌<◌, ◌+◌, take, ◌∙◌, ap, refl, ◌≡◌, [], ◌∷◌, ◌++◌}
use Rattle.mp_script.proofs.Pieces.{cut_take_end, cut_take_other, line_push, same_cut, cut_none}
use Rattle.mp_script.proofs.lines.cut_bytes.Goals as goal
use Rattle.mp_script.proofs.lines.cut_bytes.Goals.{then-byte-eq10+in_ok-push, else-byte-eq10+in_ok-push-2}

pub bytes-preserved : goal.bytes-preserved
bytes-preserved c =
    let lt : c.bytes.byte-index < length c.args.bytes.now = omega arith in
    elim c.if-byte-eq10.branch [
      | then-byte-eq10+in_ok-push w ↦ (
          let e = cut_take_end c.args.bytes.now c.bytes.byte-index lt w.if-byte-eq10.true c.bytes.invariant.parts in
          let r : c.if-byte-eq10.rest.items ≡ [] = cc (w.rest-is, w.replace-line.ensures.after, w.new.ensures.items) in
          let ls : c.if-byte-eq10.lines.items ≡ c.bytes.lines.items ++ c.bytes.rest.items ∷ [] =
          cc (w.lines-is, w.in_ok-push.ensures.items, w.from_vec.ensures, w.replace-line.ensures.value) in
          record { parts = same_cut (take (c.bytes.byte-index + 1) c.args.bytes.now) e ls r; line = rw r refl })
      | else-byte-eq10+in_ok-push-2 w ↦ (
          let e = cut_take_other c.args.bytes.now c.bytes.byte-index lt w.if-byte-eq10.false c.bytes.invariant.parts in
          let r = ap (λ v. v.items) w.rest-is ∙ w.in_ok-push-2.ensures.items in
          let ls = ap (λ v. v.items) w.lines-is in
          record {
            parts = same_cut (take (c.bytes.byte-index + 1) c.args.bytes.now) e ls r;
            line = rw r (line_push c.bytes.rest.items _ w.if-byte-eq10.false c.bytes.invariant.line);
          })
    ]

pub bytes-init : goal.bytes-init
bytes-init c = record { parts = same_cut [] cut_none c.new-lines.ensures.items c.new-rest.ensures.items; line = rw c.new-rest.ensures.items refl }
