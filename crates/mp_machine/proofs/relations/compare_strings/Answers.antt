use Rattle.std.proofs.Common.{◌≡◌, ◌∙◌, ◌+◌, ◌≤◌, ◌⊎◌, List, ℕ, Option, Some, ap, drop, inl, inr, length, subst, sym, true}
use Rattle.std.specs.Prelude.{is_some}
use Rattle.mp_machine.specs.Strings.{before}
use Rattle.mp_machine.specs.ValueRows.{characters_of, string_relation}
use Rattle.mp_machine.proofs.StringLemmas.{character_here, differ, ends}
use Rattle.mp_machine.proofs.relations.compare_strings.Goals as goal
use Rattle.mp_machine.proofs.relations.compare_strings.Goals.{then-characters-test+else-i-ys, else-characters-test}

pub returns-then-x-y : goal.returns-then-x-y
returns-then-x-y c =
    let left : Option (List ℕ) = characters_of (drop (c.characters.i + 1) c.args.xs.now) in
    let right : Option (List ℕ) = characters_of (drop (c.characters.i + 1) c.args.ys.now) in
    let first : characters_of (drop c.characters.i c.args.xs.now) ≡ before c.in-Some.x left =
    character_here c.args.xs.now c.characters.i c.index-xs-i.result c.in-Some.x c.characters-test.true c.index-xs-i.is
    (sym c.character.ensures ∙ c.in-Some.is) in
    let second : characters_of (drop c.characters.i c.args.ys.now) ≡ before c.in-Some-character.y right =
    character_here c.args.ys.now c.characters.i c.index-ys-i.result c.in-Some-character.y c.if-i-ys.true c.index-ys-i.is
    (sym c.character-in-characters.ensures ∙ c.in-Some-character.is) in
    ap Some c.holds.ensures
    ∙ sym (differ c.args.relation c.in-Some.x c.in-Some-character.y left right c.if-x-y.true
    (subst (λ o. is_some o ≡ true) first c.characters.invariant.first) (subst (λ o. is_some o ≡ true) second
    c.characters.invariant.second))
    ∙ ap (λ o. string_relation c.args.relation o (before c.in-Some-character.y right)) (sym first)
    ∙ ap (λ o. string_relation c.args.relation (characters_of (drop c.characters.i c.args.xs.now)) o) (sym second)
    ∙ c.characters.invariant.same

pub returns : goal.returns
returns c =
    let over : (length c.args.xs.now ≤ c.characters.i) ⊎ (length c.args.ys.now ≤ c.characters.i) =
    elim c.characters-test.branch [
      | then-characters-test+else-i-ys w ↦ inr w.if-i-ys.false
      | else-characters-test w ↦ inl w.characters-test.false
    ] in
    ap Some c.holds-2.ensures
    ∙ sym (ends c.args.relation c.args.xs.now c.args.ys.now c.characters.i c.characters.invariant.first
    c.characters.invariant.second
    c.characters.invariant.within_first c.characters.invariant.within_second over)
    ∙ c.characters.invariant.same
