use Rattle.std.proofs.Common.{◌≡◌, ◌∙◌, ◌∷◌, ◌++◌, ◌+◌, [], List, ℕ, Option, None, Some, ap, arith, drop, rules, sym}
use Rattle.std.proofs.lemmas.List.{drop_all}
use Rattle.mp_machine.specs.Outcomes.{Done}
use Rattle.mp_machine.specs.Strings.{before, character_of}
use Rattle.mp_machine.specs.ValueRows.{characters_of}
use Rattle.mp_machine.proofs.BytesLemmas.{after, after-push, are_bytes, bytes-push, string_is, stuck_at, undefined_at}
use Rattle.mp_machine.proofs.EnterLemmas.{is_lt, not_lt}
use Rattle.mp_machine.proofs.StringLemmas.{character_here, none_here}
use Rattle.mp_machine.proofs.file_writes.bytes_of.Goals as goal

pub returns-in-None : goal.returns-in-None
returns-in-None c = record {
  row = λ s. undefined_at c.args.cells.now s c.cells.bytes.items
      (ap (after c.cells.bytes.items) (sym (none_here c.args.cells.now c.cells.i c.index-cells-i.result c.cells-test.true
      c.index-cells-i.is (sym c.character.ensures ∙ c.in-None.is)))
      ∙ c.cells.invariant.all);
}

pub returns-then-n-gt255 : goal.returns-then-n-gt255
returns-then-n-gt255 c =
    let more : Option (List ℕ) = characters_of (drop (c.cells.i + 1) c.args.cells.now) in
    let here : characters_of (drop c.cells.i c.args.cells.now) ≡ before c.in-Some.n more =
    character_here c.args.cells.now c.cells.i c.index-cells-i.result c.in-Some.n c.cells-test.true c.index-cells-i.is
    (sym c.character.ensures ∙ c.in-Some.is) in
    record {
      row = λ s. stuck_at c.args.cells.now s c.cells.bytes.items c.in-Some.n more c.requires
          (ap (after c.cells.bytes.items) (sym here) ∙ c.cells.invariant.all)
          (not_lt c.in-Some.n 256 (let h = c.if-n-gt255.true in omega (arith, h)));
    }

pub cells-preserved : goal.cells-preserved
cells-preserved c =
    let more : Option (List ℕ) = characters_of (drop (c.cells.i + 1) c.args.cells.now) in
    let here : characters_of (drop c.cells.i c.args.cells.now) ≡ before c.in-Some.n more =
    character_here c.args.cells.now c.cells.i c.index-cells-i.result c.in-Some.n c.cells-test.true c.index-cells-i.is
    (sym c.character.ensures ∙ c.in-Some.is) in
    let pushed : c.push.new.self.items ≡ c.cells.bytes.items ++ c.in-Some.n ∷ [] = search rules in
    record {
      all = ap (λ bytes. after bytes more) pushed ∙ after-push c.cells.bytes.items c.in-Some.n more
          ∙ ap (after c.cells.bytes.items) (sym here) ∙ c.cells.invariant.all;
      small = ap are_bytes pushed ∙ bytes-push c.cells.bytes.items c.in-Some.n c.cells.invariant.small
          (is_lt c.in-Some.n 256 (let h = c.if-n-gt255.false in omega (arith, h)));
    }

pub returns : goal.returns
returns c = record {
  row = λ s. string_is c.args.cells.now s c.cells.bytes.items
      (ap (λ cells. after c.cells.bytes.items (characters_of cells)) (sym (drop_all c.cells.i c.args.cells.now
      (let h = c.cells-test.false in omega (arith, h))))
      ∙ c.cells.invariant.all) c.cells.invariant.small
      ∙ ap (λ bytes. Done bytes s) (sym c.from_vec.ensures);
}
