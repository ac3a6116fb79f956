use Rattle.std.proofs.Common.{◌<◌, length, refl, ap, ◌∙◌, arith}
use Rattle.mp_text.proofs.PieceLemmas.{counts_front, front_whole, front_cut, front_within, front_starts}
use Rattle.mp_text.proofs.pieces.Pieces.add_front.Goals as goal

pub share-requires : goal.share-requires
share-requires c = record {
  room = omega (arith, front_within c.args.pieces.now c.first_past-first.result, c.requires.room);
  lines =
      counts_front c.args.pieces.now _ c.first_past-first.result c.requires.lines refl;
}

pub returns-then-first-pieces : goal.returns-then-first-pieces
returns-then-first-pieces c =
    front_whole c.args.pieces.now c.first_past-first.result c.args.place c.args.self.now c.args.run.now.items c.share.new.self c.requires.ends
    c.if-first-pieces.true (λ k d f h. let a = c.first_past-first.ensures.before k d f h in omega arith) c.requires.none c.in_ok-share.ensures

pub slice_bounds-extend_from_slice-count : goal.slice_bounds-extend_from_slice-count
slice_bounds-extend_from_slice-count c =
    let inside : c.first_past-first.result < length c.args.pieces.now = omega (arith, c.first_past-first.ensures.within, c.if-first-pieces.false) in
    front_starts c.args.pieces.now c.first_past-first.result c.args.place c.index-pieces-first.result c.as_slice-bytes.result.now c.requires.ends inside
    (λ k d f h. let a = c.first_past-first.ensures.before k d f h in omega arith) c.index-pieces-first.is (c.as_slice-bytes.ensures.value ∙ ap (λ v. v.items) c.deref.ensures)

pub returns : goal.returns
returns c =
    let inside : c.first_past-first.result < length c.args.pieces.now = omega (arith, c.first_past-first.ensures.within, c.if-first-pieces.false) in
    front_cut c.args.pieces.now c.first_past-first.result c.args.place c.index-pieces-first.result c.as_slice-bytes.result.now c.args.self.now
    c.args.run.now.items c.share.new.self c.extend_from_slice.new.self.items c.requires.ends inside (λ k d f h. let a =
    c.first_past-first.ensures.before k d f h in omega arith) (λ k d f h. let a = c.first_past-first.ensures.after k d f h in
    omega arith) c.index-pieces-first.is (c.as_slice-bytes.ensures.value
    ∙ ap (λ v. v.items) c.deref.ensures) c.requires.none c.in_ok-share.ensures c.in_ok-extend_from_slice.ensures.items
