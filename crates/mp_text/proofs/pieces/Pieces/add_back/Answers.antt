use Rattle.std.proofs.Common.{◌≡◌, ◌<◌, ◌+◌, ◌-◌, ◌++◌, drop, length, ap, ◌∙◌, arith, length-append}
use Rattle.std.proofs.lemmas.List.{take_rest}
use Rattle.mp_text.specs.Pieces.{piece_bytes, all_bytes}
use Rattle.mp_text.proofs.PieceLemmas.{counts_back, back_whole, back_cut, back_room, cut_starts}
use Rattle.mp_text.proofs.pieces.Pieces.add_back.Goals as goal

pub returns-then-last-pieces : goal.returns-then-last-pieces
returns-then-last-pieces c =
    back_whole c.args.pieces.now c.first_past-last.result c.args.place c.args.self.now c.args.run.items c.add_run.new.self c.requires.ends
    c.if-last-pieces.true c.first_past-last.ensures.before (c.in_ok-add_run.ensures ∙ ap (λ t. c.args.self.now ++ t) c.as_slice.ensures.value)

pub overflow_sub-place : goal.overflow_sub-place
overflow_sub-place c =
    let inside : c.first_past-last.result < length c.args.pieces.now = omega (arith, c.first_past-last.ensures.within, c.if-last-pieces.false) in
    let bytes : c.as_slice-bytes.result.now ≡ piece_bytes c.index-pieces-last.result = c.as_slice-bytes.ensures.value ∙ ap (λ v. v.items) c.deref.ensures in
    (cut_starts c.args.pieces.now c.first_past-last.result c.args.place c.index-pieces-last.result c.as_slice-bytes.result.now c.requires.ends inside
    c.first_past-last.ensures.before c.first_past-last.ensures.after c.index-pieces-last.is bytes).0

pub add_run-requires-2 : goal.add_run-requires-2
add_run-requires-2 c =
    let inside : c.first_past-last.result < length c.args.pieces.now = omega (arith, c.first_past-last.ensures.within, c.if-last-pieces.false) in
    let bytes : c.as_slice-bytes.result.now ≡ piece_bytes c.index-pieces-last.result = c.as_slice-bytes.ensures.value ∙ ap (λ v. v.items) c.deref.ensures in
    let part = drop (c.args.place + length c.as_slice-bytes.result.now - c.index-pieces-last.result.end) c.as_slice-bytes.result.now in
    let more : c.extend_from_slice.new.self.items ≡ c.args.run.items ++ part = c.in_ok-extend_from_slice.ensures.items
    ∙ ap (λ t. c.args.run.items ++ t) (take_rest c.as_slice-bytes.result.now (c.args.place + length c.as_slice-bytes.result.now - c.index-pieces-last.result.end)) in
    let room = back_room c.args.pieces.now c.first_past-last.result c.args.place c.index-pieces-last.result c.as_slice-bytes.result.now c.requires.ends inside
    c.first_past-last.ensures.before c.first_past-last.ensures.after c.index-pieces-last.is bytes in
    omega (arith, room, c.requires.room, ap length c.as_slice-2.ensures.value, ap length more, length-append c.args.run.items part)

pub share-requires : goal.share-requires
share-requires c =
    let inside : c.first_past-last.result < length c.args.pieces.now = omega (arith, c.first_past-last.ensures.within, c.if-last-pieces.false) in
    let bytes : c.as_slice-bytes.result.now ≡ piece_bytes c.index-pieces-last.result = c.as_slice-bytes.ensures.value ∙ ap (λ v. v.items) c.deref.ensures in
    let part = drop (c.args.place + length c.as_slice-bytes.result.now - c.index-pieces-last.result.end) c.as_slice-bytes.result.now in
    let more : c.extend_from_slice.new.self.items ≡ c.args.run.items ++ part = c.in_ok-extend_from_slice.ensures.items
    ∙ ap (λ t. c.args.run.items ++ t) (take_rest c.as_slice-bytes.result.now (c.args.place + length c.as_slice-bytes.result.now - c.index-pieces-last.result.end)) in
    let room = back_room c.args.pieces.now c.first_past-last.result c.args.place c.index-pieces-last.result c.as_slice-bytes.result.now c.requires.ends inside
    c.first_past-last.ensures.before c.first_past-last.ensures.after c.index-pieces-last.is bytes in
    let mid : c.add_run-2.new.self ≡ c.args.self.now ++ c.extend_from_slice.new.self.items = c.in_ok-add_run-2.ensures
    ∙ ap (λ t. c.args.self.now ++ t) c.as_slice-2.ensures.value in
    record {
      room = omega (
        arith,
        room,
        c.requires.room,
        ap length mid,
        length-append c.args.self.now c.extend_from_slice.new.self.items,
        ap length more,
        length-append c.args.run.items part,
        ap (λ ps. length (all_bytes ps)) (take_rest c.args.pieces.now (c.first_past-last.result + 1)),
      );
      lines = counts_back c.args.pieces.now _ (c.first_past-last.result + 1) c.lines_before.result c.requires.lines
          (take_rest c.args.pieces.now (c.first_past-last.result + 1)) c.lines_before.ensures;
    }

pub returns : goal.returns
returns c =
    let inside : c.first_past-last.result < length c.args.pieces.now = omega (arith, c.first_past-last.ensures.within, c.if-last-pieces.false) in
    let bytes : c.as_slice-bytes.result.now ≡ piece_bytes c.index-pieces-last.result = c.as_slice-bytes.ensures.value ∙ ap (λ v. v.items) c.deref.ensures in
    let part = drop (c.args.place + length c.as_slice-bytes.result.now - c.index-pieces-last.result.end) c.as_slice-bytes.result.now in
    let more : c.extend_from_slice.new.self.items ≡ c.args.run.items ++ part = c.in_ok-extend_from_slice.ensures.items
    ∙ ap (λ t. c.args.run.items ++ t) (take_rest c.as_slice-bytes.result.now (c.args.place + length c.as_slice-bytes.result.now - c.index-pieces-last.result.end)) in
    let mid : c.add_run-2.new.self ≡ c.args.self.now ++ c.extend_from_slice.new.self.items = c.in_ok-add_run-2.ensures
    ∙ ap (λ t. c.args.self.now ++ t) c.as_slice-2.ensures.value in
    back_cut c.args.pieces.now c.first_past-last.result c.args.place c.index-pieces-last.result c.as_slice-bytes.result.now c.args.self.now c.args.run.items
    c.extend_from_slice.new.self.items c.add_run-2.new.self c.share.new.self c.requires.ends inside c.first_past-last.ensures.before
    c.first_past-last.ensures.after c.index-pieces-last.is bytes more mid
    (c.in_ok-share.ensures ∙ ap (λ ps. c.add_run-2.new.self ++ all_bytes ps) (take_rest c.args.pieces.now (c.first_past-last.result + 1)))
