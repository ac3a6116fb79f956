use Rattle.std.proofs.Common.{◌≡◌, ◌<◌, length, ap, ◌∙◌, arith}
use Rattle.mp_text.specs.Pieces.{piece_bytes}
use Rattle.mp_text.proofs.PieceLemmas.{cut_lines, ends_to_end}
use Rattle.mp_text.proofs.pieces.Pieces.line_ends_to.Goals as goal

pub returns-then-i-pieces : goal.returns-then-i-pieces
returns-then-i-pieces c =
    ends_to_end c.self.inside.pieces.items c.as_slice-pieces.result.now c.args.self.now c.args.at c.first_past-i.result c.line_ends.result
    c.as_slice-pieces.ensures.value c.self.invariant.ends c.self.view_is c.if-i-pieces.true c.first_past-i.ensures.before c.line_ends.ensures

pub slice_bounds-line_ends-count : goal.slice_bounds-line_ends-count
slice_bounds-line_ends-count c =
    let inside : c.first_past-i.result < length c.as_slice-pieces.result.now = omega (arith, c.first_past-i.ensures.within, c.if-i-pieces.false) in
    let bytes : c.as_slice-bytes.result.now ≡ piece_bytes c.index-pieces-i.result = c.as_slice-bytes.ensures.value ∙ ap (λ v. v.items) c.deref.ensures in
    let here = cut_lines c.self.inside.pieces.items c.as_slice-pieces.result.now c.args.self.now c.args.at c.first_past-i.result c.index-pieces-i.result
    c.as_slice-bytes.result.now c.lines_before-before.result c.as_slice-pieces.ensures.value c.self.invariant.ends c.self.view_is inside
    c.first_past-i.ensures.before c.first_past-i.ensures.after c.index-pieces-i.is bytes c.lines_before-before.ensures in
    here.starts

pub line_ends-requires-2 : goal.line_ends-requires-2
line_ends-requires-2 c =
    let inside : c.first_past-i.result < length c.as_slice-pieces.result.now = omega (arith, c.first_past-i.ensures.within, c.if-i-pieces.false) in
    let bytes : c.as_slice-bytes.result.now ≡ piece_bytes c.index-pieces-i.result = c.as_slice-bytes.ensures.value ∙ ap (λ v. v.items) c.deref.ensures in
    let here = cut_lines c.self.inside.pieces.items c.as_slice-pieces.result.now c.args.self.now c.args.at c.first_past-i.result c.index-pieces-i.result
    c.as_slice-bytes.result.now c.lines_before-before.result c.as_slice-pieces.ensures.value c.self.invariant.ends c.self.view_is inside
    c.first_past-i.ensures.before c.first_past-i.ensures.after c.index-pieces-i.is bytes c.lines_before-before.ensures in
    omega (arith, here.small, c.ranges.at.fits)

pub overflow_add-result : goal.overflow_add-result
overflow_add-result c =
    let inside : c.first_past-i.result < length c.as_slice-pieces.result.now = omega (arith, c.first_past-i.ensures.within, c.if-i-pieces.false) in
    let bytes : c.as_slice-bytes.result.now ≡ piece_bytes c.index-pieces-i.result = c.as_slice-bytes.ensures.value ∙ ap (λ v. v.items) c.deref.ensures in
    let here = cut_lines c.self.inside.pieces.items c.as_slice-pieces.result.now c.args.self.now c.args.at c.first_past-i.result c.index-pieces-i.result
    c.as_slice-bytes.result.now c.lines_before-before.result c.as_slice-pieces.ensures.value c.self.invariant.ends c.self.view_is inside
    c.first_past-i.ensures.before c.first_past-i.ensures.after c.index-pieces-i.is bytes c.lines_before-before.ensures in
    omega (arith, here.sum, here.few, c.line_ends-2.ensures, c.ranges.at.fits)

pub returns : goal.returns
returns c =
    let inside : c.first_past-i.result < length c.as_slice-pieces.result.now = omega (arith, c.first_past-i.ensures.within, c.if-i-pieces.false) in
    let bytes : c.as_slice-bytes.result.now ≡ piece_bytes c.index-pieces-i.result = c.as_slice-bytes.ensures.value ∙ ap (λ v. v.items) c.deref.ensures in
    let here = cut_lines c.self.inside.pieces.items c.as_slice-pieces.result.now c.args.self.now c.args.at c.first_past-i.result c.index-pieces-i.result
    c.as_slice-bytes.result.now c.lines_before-before.result c.as_slice-pieces.ensures.value c.self.invariant.ends c.self.view_is inside
    c.first_past-i.ensures.before c.first_past-i.ensures.after c.index-pieces-i.is bytes c.lines_before-before.ensures in
    omega (arith, here.sum, c.line_ends-2.ensures)
