use Rattle.std.proofs.Common.{ap, ◌∙◌, arith}
use Rattle.mp_text.proofs.PieceLemmas.{place_of, held}
use Rattle.mp_text.proofs.pieces.Pieces.byte.Goals as goal

pub bounds-pieces-first_past : goal.bounds-pieces-first_past
bounds-pieces-first_past c =
    place_of c.self.inside.pieces.items c.as_slice-pieces.result.now c.args.self.now c.args.at c.first_past.result c.as_slice-pieces.ensures.value
    c.self.invariant.ends c.self.view_is c.requires c.first_past.ensures.within c.first_past.ensures.before

pub overflow_sub-result : goal.overflow_sub-result
overflow_sub-result c =
    let here = held c.self.inside.pieces.items c.as_slice-pieces.result.now c.args.self.now c.args.at c.first_past.result c.index-pieces-first_past.result
    c.as_slice-bytes.result.now c.as_slice-pieces.ensures.value c.self.invariant.ends c.self.view_is c.requires c.first_past.ensures.within
    c.first_past.ensures.before c.first_past.ensures.after c.index-pieces-first_past.is (c.as_slice-bytes.ensures.value ∙ ap (λ v. v.items) c.deref.ensures) in
    here.starts

pub bounds-bytes-at : goal.bounds-bytes-at
bounds-bytes-at c =
    let here = held c.self.inside.pieces.items c.as_slice-pieces.result.now c.args.self.now c.args.at c.first_past.result c.index-pieces-first_past.result
    c.as_slice-bytes.result.now c.as_slice-pieces.ensures.value c.self.invariant.ends c.self.view_is c.requires c.first_past.ensures.within
    c.first_past.ensures.before c.first_past.ensures.after c.index-pieces-first_past.is (c.as_slice-bytes.ensures.value ∙ ap (λ v. v.items) c.deref.ensures) in
    let a = here.starts in
    let b = here.ends in
    omega arith

pub returns : goal.returns
returns c =
    let here = held c.self.inside.pieces.items c.as_slice-pieces.result.now c.args.self.now c.args.at c.first_past.result c.index-pieces-first_past.result
    c.as_slice-bytes.result.now c.as_slice-pieces.ensures.value c.self.invariant.ends c.self.view_is c.requires c.first_past.ensures.within
    c.first_past.ensures.before c.first_past.ensures.after c.index-pieces-first_past.is (c.as_slice-bytes.ensures.value ∙ ap (λ v. v.items) c.deref.ensures) in
    here.byte
