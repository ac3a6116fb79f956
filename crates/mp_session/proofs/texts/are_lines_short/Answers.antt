use Rattle.std.proofs.Common.{arith}
use Rattle.mp_session.proofs.TextLemmas.{none_is_long, short_from, short_up_to}
use Rattle.mp_session.proofs.texts.are_lines_short.Goals as goal

pub loop-at-init : goal.loop-at-init
loop-at-init c = record { within = omega arith; short = λ n. n }

pub overflow_sub-text : goal.overflow_sub-text
overflow_sub-text c = c.loop-at.invariant.within

pub loop-at-smaller : goal.loop-at-smaller
loop-at-smaller c = let found = c.in-Some.ensures.within in let from = found.0 in let to = found.1 in let more = c.loop-at-test.true in omega arith

pub loop-at-preserved : goal.loop-at-preserved
loop-at-preserved c =
    let found = c.in-Some.ensures.within in
    let to = found.1 in
    let more = c.loop-at-test.true in
    record {
      within = omega arith;
      short = λ n. c.loop-at.invariant.short (short_up_to c.args.text.now c.loop-at.at c.in-Some.end found.0 to (omega arith) c.in-Some.ensures.ends n);
    }

pub returns : goal.returns
returns c _ =
    let few = c.loop-at-test.false in
    let within = c.loop-at.invariant.within in
    none_is_long c.args.text.now (c.loop-at.invariant.short (short_from c.args.text.now c.loop-at.at within (omega arith)))
