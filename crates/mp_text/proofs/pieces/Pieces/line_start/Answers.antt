use Rattle.std.proofs.Common.{◌≡◌, ◌<◌, length, ap, ◌∙◌, arith}
use Rattle.mp_text.specs.Pieces.{piece_bytes}
use Rattle.mp_text.proofs.PieceLemmas.{counting_in, reached}
use Rattle.mp_text.proofs.pieces.Pieces.line_start.Goals as goal

pub bounds-pieces-i : goal.bounds-pieces-i
bounds-pieces-i c = counting_in c.self.inside.pieces.items c.as_slice-pieces.result.now c.args.self.now c.args.count c.first_counting-i.result
    c.as_slice-pieces.ensures.value c.self.invariant.lines c.self.view_is (omega arith) c.requires c.first_counting-i.ensures.within c.first_counting-i.ensures.before

pub past_line_ends-requires : goal.past_line_ends-requires
past_line_ends-requires c =
    let inside : c.first_counting-i.result < length c.as_slice-pieces.result.now =
    counting_in c.self.inside.pieces.items c.as_slice-pieces.result.now c.args.self.now c.args.count c.first_counting-i.result
    c.as_slice-pieces.ensures.value c.self.invariant.lines c.self.view_is (omega arith) c.requires c.first_counting-i.ensures.within c.first_counting-i.ensures.before in
    let bytes : c.as_slice-bytes.result.now ≡ piece_bytes c.index-pieces-i.result = c.as_slice-bytes.ensures.value ∙ ap (λ v. v.items) c.deref.ensures in
    let here = reached c.self.inside.pieces.items c.as_slice-pieces.result.now c.args.self.now c.args.count c.first_counting-i.result c.lines_before.result
    c.index-pieces-i.result c.as_slice-bytes.result.now c.as_slice-pieces.ensures.value c.self.invariant c.self.view_is
    (omega arith) inside c.first_counting-i.ensures.before c.first_counting-i.ensures.after c.index-pieces-i.is bytes c.lines_before.ensures in
    here.left

pub returns : goal.returns
returns c =
    let inside : c.first_counting-i.result < length c.as_slice-pieces.result.now =
    counting_in c.self.inside.pieces.items c.as_slice-pieces.result.now c.args.self.now c.args.count c.first_counting-i.result
    c.as_slice-pieces.ensures.value c.self.invariant.lines c.self.view_is (omega arith) c.requires c.first_counting-i.ensures.within c.first_counting-i.ensures.before in
    let bytes : c.as_slice-bytes.result.now ≡ piece_bytes c.index-pieces-i.result = c.as_slice-bytes.ensures.value ∙ ap (λ v. v.items) c.deref.ensures in
    let here = reached c.self.inside.pieces.items c.as_slice-pieces.result.now c.args.self.now c.args.count c.first_counting-i.result c.lines_before.result
    c.index-pieces-i.result c.as_slice-bytes.result.now c.as_slice-pieces.ensures.value c.self.invariant c.self.view_is
    (omega arith) inside c.first_counting-i.ensures.before c.first_counting-i.ensures.after c.index-pieces-i.is bytes c.lines_before.ensures in
    here.start c.past_line_ends.result c.past_line_ends.ensures

pub overflow_sub-result : goal.overflow_sub-result
overflow_sub-result c =
    let inside : c.first_counting-i.result < length c.as_slice-pieces.result.now =
    counting_in c.self.inside.pieces.items c.as_slice-pieces.result.now c.args.self.now c.args.count c.first_counting-i.result
    c.as_slice-pieces.ensures.value c.self.invariant.lines c.self.view_is (omega arith) c.requires c.first_counting-i.ensures.within c.first_counting-i.ensures.before in
    let bytes : c.as_slice-bytes.result.now ≡ piece_bytes c.index-pieces-i.result = c.as_slice-bytes.ensures.value ∙ ap (λ v. v.items) c.deref.ensures in
    let here = reached c.self.inside.pieces.items c.as_slice-pieces.result.now c.args.self.now c.args.count c.first_counting-i.result c.lines_before.result
    c.index-pieces-i.result c.as_slice-bytes.result.now c.as_slice-pieces.ensures.value c.self.invariant c.self.view_is
    (omega arith) inside c.first_counting-i.ensures.before c.first_counting-i.ensures.after c.index-pieces-i.is bytes c.lines_before.ensures in
    omega (arith, here.long)
