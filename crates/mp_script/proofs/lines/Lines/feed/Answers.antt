use Rattle.std.proofs.Common.{◌≡◌, ap, sym, ◌∙◌, arith, get_or, ◌++◌}
use Rattle.std.proofs.lemmas.List.{take_rest, take_all}
use Rattle.mp_base.specs.Text.{IsLine}
use Rattle.mp_base.specs.Text.{cut}
use Rattle.mp_base.specs.Text.{Cut}
use Rattle.mp_script.proofs.Pieces.{cut_no_end, cut_first_end}
use Rattle.mp_script.proofs.lines.Lines.feed.Goals as goal
use Rattle.mp_script.proofs.lines.Lines.feed.Goals.{then-bytes-test+else-piece-at-ne10, else-bytes-test}

pub returns-then-at-piece-clause-lines : goal.returns-then-at-piece-clause-lines
returns-then-at-piece-clause-lines c =
    let k : IsLine c.args.piece.now = rw (sym (take_all c.bytes.at c.args.piece.now (omega arith))) c.bytes.invariant.line in
    let e = cut_no_end c.self.inside.rest.items c.args.piece.now c.self.invariant k in
    c.new.ensures ∙ sym (ap (λ x. x.whole) (ap (λ t. cut (t ++ c.args.piece.now)) (sym c.self.view_is) ∙ e))

pub returns-then-at-piece-clause-rest : goal.returns-then-at-piece-clause-rest
returns-then-at-piece-clause-rest c =
    let k : IsLine c.args.piece.now = rw (sym (take_all c.bytes.at c.args.piece.now (omega arith))) c.bytes.invariant.line in
    let e = cut_no_end c.self.inside.rest.items c.args.piece.now c.self.invariant k in
    c.in_ok-extend_from_slice.ensures.items ∙ sym (ap (λ x. x.rest) (ap (λ t. cut (t ++ c.args.piece.now)) (sym c.self.view_is) ∙ e))

pub returns-clause-lines : goal.returns-clause-lines
returns-clause-lines c =
    let e : get_or c.args.piece.now c.bytes.at 0 ≡ 10 =
    elim c.bytes-test.branch [ then-bytes-test+else-piece-at-ne10 w ↦ w.if-piece-at-ne10.false | else-bytes-test w ↦ absurd (omega arith) ] in
    let f = cut_first_end c.self.inside.rest.items c.args.piece.now c.bytes.at c.self.invariant c.bytes.invariant.line (omega arith) e
    (rw take_rest at c.in_ok-lines.ensures.cut) in
    let i = rw c.unwrap-2.ensures at c.insert.ensures.items in
    let x = rw c.unwrap.ensures at c.extend_from_slice-2.ensures.items in
    let g = sym (ap (λ (x : Cut). x.whole) (ap (λ t. cut (t ++ c.args.piece.now)) (sym c.self.view_is) ∙ f)) in
    let v = ap (λ v. v.items) c.replace-first.ensures.value in
    cc (i, x, g, v, c.from_vec.ensures, c.from_vec-2.ensures, c.reserve.ensures.items, c.reserve-2.ensures.items)

pub returns-clause-rest : goal.returns-clause-rest
returns-clause-rest c =
    let e : get_or c.args.piece.now c.bytes.at 0 ≡ 10 =
    elim c.bytes-test.branch [ then-bytes-test+else-piece-at-ne10 w ↦ w.if-piece-at-ne10.false | else-bytes-test w ↦ absurd (omega arith) ] in
    let f = cut_first_end c.self.inside.rest.items c.args.piece.now c.bytes.at c.self.invariant c.bytes.invariant.line (omega arith) e
    (rw take_rest at c.in_ok-lines.ensures.cut) in
    ap (λ v. v.items) c.replace-first.ensures.after ∙ sym (ap (λ (x : Cut). x.rest) (ap (λ t. cut (t ++ c.args.piece.now)) (sym c.self.view_is) ∙ f))
