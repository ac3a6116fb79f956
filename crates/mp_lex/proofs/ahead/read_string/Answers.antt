use Rattle.std.proofs.Common.{◌+◌, subst, arith, ◌∙◌}
use Rattle.mp_lex.specs.Windows.{IsByteAt, IsRead}
use Rattle.mp_lex.proofs.AheadLemmas.{found, string_more, string_quotes, string_some}
use Rattle.mp_lex.proofs.ahead.read_string.Goals as goal

pub elements-preserved-then-byte-ne39 : goal.elements-preserved-then-byte-ne39
elements-preserved-then-byte-ne39 g c =
    let text = g.T.Reader.bytes c.args.text.now in
    let so = c.elements.invariant in
    let bytes = c.peek.new.window.bytes.items in
    let byte = c.in-Some.byte in
    let here : IsByteAt text c.elements.window.from c.elements.end bytes byte = found _ _ _ _ c.in-Some.is c.in_ok-byte.ensures.byte in
    let first = so.from in
    let at : IsByteAt text c.args.window.now.from c.elements.end bytes byte = subst (λ k. IsByteAt text k c.elements.end bytes byte) first here in
    let read : IsRead text c.args.window.now.from bytes = subst (λ k. IsRead text k bytes) (c.peek.ensures.from ∙ first) c.peek.ensures.read in
    record {
      from = c.peek.ensures.from ∙ first;
      read = c.peek.ensures.read;
      end = omega (arith, here.inside);
      steps = omega (arith, so.steps, c.peek.ensures.steps);
      grown = omega (arith, so.grown, c.peek.ensures.grown);
      reach = omega (arith, so.reach, c.peek.ensures.reach);
      same = string_more text c.args.window.now.from c.elements.end bytes byte _ read at c.if-byte-ne39.true c.if-byte-eq10.false c.if-byte-eq13.false so.same;
    }

pub returns-then-next-ne39-clause-reach : goal.returns-then-next-ne39-clause-reach
returns-then-next-ne39-clause-reach g c =
    let text = g.T.Reader.bytes c.args.text.now in
    let so = c.elements.invariant in
    let bytes = c.peek.new.window.bytes.items in
    let byte = c.in-Some.byte in
    let here : IsByteAt text c.elements.window.from c.elements.end bytes byte = found _ _ _ _ c.in-Some.is c.in_ok-byte.ensures.byte in
    let first = so.from in
    let at : IsByteAt text c.args.window.now.from c.elements.end bytes byte = subst (λ k. IsByteAt text k c.elements.end bytes byte) first here in
    let read : IsRead text c.args.window.now.from bytes = subst (λ k. IsRead text k bytes) (c.peek.ensures.from ∙ first) c.peek.ensures.read in
    let some = string_some text c.args.window.now.from c.elements.end bytes byte read at c.if-byte-ne39.false in
    omega (arith, some, so.same, so.reach, c.peek.ensures.reach, c.peek-in-elements.ensures.reach)

pub elements-preserved : goal.elements-preserved
elements-preserved g c =
    let text = g.T.Reader.bytes c.args.text.now in
    let so = c.elements.invariant in
    let bytes = c.peek.new.window.bytes.items in
    let more = c.peek-in-elements.new.window.bytes.items in
    let byte = c.in-Some.byte in
    let next = c.in-Some-2.next in
    let here : IsByteAt text c.elements.window.from c.elements.end bytes byte = found _ _ _ _ c.in-Some.is c.in_ok-byte.ensures.byte in
    let there : IsByteAt text c.peek.new.window.from (c.elements.end + 1) more next = found _ _ _ _ c.in-Some-2.is c.in_ok-next.ensures.byte in
    let first = so.from in
    let at : IsByteAt text c.args.window.now.from c.elements.end bytes byte = subst (λ k. IsByteAt text k c.elements.end bytes byte) first here in
    let after : IsByteAt text c.args.window.now.from (c.elements.end + 1) more next = subst (λ k. IsByteAt text k (c.elements.end + 1) more next)
    (c.peek.ensures.from ∙ first) there in
    let from = c.peek-in-elements.ensures.from ∙ c.peek.ensures.from ∙ first in
    let read : IsRead text c.args.window.now.from more = subst (λ k. IsRead text k more) from c.peek-in-elements.ensures.read in
    record {
      from = from;
      read = c.peek-in-elements.ensures.read;
      end = omega (arith, there.inside);
      steps = omega (arith, so.steps, c.peek.ensures.steps, c.peek-in-elements.ensures.steps);
      grown = omega (arith, so.grown, c.peek.ensures.grown, c.peek-in-elements.ensures.grown);
      reach = omega (arith, so.reach, c.peek.ensures.reach, c.peek-in-elements.ensures.reach);
      same = string_quotes text c.args.window.now.from c.elements.end bytes more byte next _ read at after c.if-byte-ne39.false c.if-next-ne39.false so.same;
    }
