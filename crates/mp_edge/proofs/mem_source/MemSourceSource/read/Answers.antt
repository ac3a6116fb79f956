-- Each clause from what the steps say about the place, by lemmas over plain lists.
use Rattle.std.proofs.Common.{◌<◌, ◌≤◌, ℕ, List, [], length, ap, arith, rules, ◌∙◌}
use Rattle.std.proofs.lemmas.List.{get_or_read, take_rest}
use Rattle.mp_edge.specs.Pieces.{joined}
use Rattle.mp_edge.proofs.PiecesLemmas.{after_past, answer_past, answer_given, left_given, pieces_given, pieces_kept, taken_given}
use Rattle.mp_edge.proofs.mem_source.MemSourceSource.read.Goals as goal

pub returns-then-is_listed-clause-pieces : goal.returns-then-is_listed-clause-pieces
returns-then-is_listed-clause-pieces c = pieces_kept c.self.inside.pieces.items c.self.inside.at c.self.inside.offset c.self.invariant (ap (λ s. s.pieces) c.self.view_is)

pub returns-then-is_empty-clause-pieces : goal.returns-then-is_empty-clause-pieces
returns-then-is_empty-clause-pieces c = pieces_kept c.self.inside.pieces.items c.self.inside.at c.self.inside.offset c.self.invariant (ap (λ s. s.pieces) c.self.view_is)

pub returns-then-self-len-clause-answer : goal.returns-then-self-len-clause-answer
returns-then-self-len-clause-answer c =
    let past : length c.self.inside.pieces.items ≤ c.self.inside.at = omega arith in
    let room : 0 < length c.args.buf.now = search rules in
    λ _. answer_past c.self.inside.pieces.items c.self.inside.at c.self.inside.offset _ past room (ap (λ s. s.pieces) c.self.view_is)

pub returns-then-self-len-clause-pieces : goal.returns-then-self-len-clause-pieces
returns-then-self-len-clause-pieces c = pieces_kept c.self.inside.pieces.items c.self.inside.at c.self.inside.offset c.self.invariant (ap (λ s. s.pieces) c.self.view_is)

pub returns-then-self-len-clause-end : goal.returns-then-self-len-clause-end
returns-then-self-len-clause-end c =
    let past : length c.self.inside.pieces.items ≤ c.self.inside.at = omega arith in
    λ _. ap joined (after_past c.self.inside.pieces.items c.self.inside.at c.self.inside.offset past)

pub returns-clause-answer : goal.returns-clause-answer
returns-clause-answer c =
    let ps : List (List ℕ) = c.self.inside.pieces.items in
    let at = c.self.inside.at in
    let lt : at < length ps = omega arith in
    let room : 0 < length c.copy_front-count.new.buf = search rules in
    λ _. answer_given ps at c.self.inside.offset c.copy_front-count.result _ lt room (ap (λ s. s.pieces) c.self.view_is)
    (c.get.ensures ∙ get_or_read ps at _ lt c.index.ensures []) (rw take_rest at c.copy_front-count.ensures.count)

pub returns-clause-taken : goal.returns-clause-taken
returns-clause-taken c =
    let ps : List (List ℕ) = c.self.inside.pieces.items in
    let at = c.self.inside.at in
    let lt : at < length ps = omega arith in
    taken_given ps at c.self.inside.offset c.copy_front-count.result _ _ c.copy_front-count.new.buf lt
    (rw c.deref-2.ensures.value at c.next_place-at.ensures.before) (ap (λ s. s.taken) c.self.view_is)
    (c.get.ensures ∙ get_or_read ps at _ lt c.index.ensures []) (rw take_rest at c.copy_front-count.ensures.copied)

pub returns-clause-left : goal.returns-clause-left
returns-clause-left c =
    let ps : List (List ℕ) = c.self.inside.pieces.items in
    let at = c.self.inside.at in
    let lt : at < length ps = omega arith in
    left_given ps at c.self.inside.offset c.copy_front-count.result _ _ c.copy_front-count.new.buf lt
    (rw c.deref-2.ensures.value at c.next_place-at.ensures.after) (ap (λ s. s.pieces) c.self.view_is)
    (c.get.ensures ∙ get_or_read ps at _ lt c.index.ensures []) (rw take_rest at c.copy_front-count.ensures.copied)

pub returns-clause-pieces : goal.returns-clause-pieces
returns-clause-pieces c = pieces_given c.self.inside.pieces.items c.self.inside.at c.self.inside.offset c.copy_front-count.result _ _
    (rw c.deref-2.ensures.value at c.next_place-at.ensures.after) (ap (λ s. s.pieces) c.self.view_is)
