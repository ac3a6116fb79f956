use Rattle.std.proofs.Common.{sym, ◌∙◌, arith}
use Rattle.mp_lex.proofs.AheadLemmas.{exponent_here}
use Rattle.mp_lex.proofs.ahead.read_exponent.Goals as goal

pub returns-in_err-read_digits-clause-reach : goal.returns-in_err-read_digits-clause-reach
returns-in_err-read_digits-clause-reach g c =
    let here = exponent_here
    (g.T.Reader.bytes c.args.text.now) c.args.window.now.from c.begins_exponent.new.window.from c.args.at c.begins_exponent.ensures.from
    (sym c.in_ok-begins_exponent.ensures.value ∙ c.if-branch.true) in
    omega (arith, here, c.begins_exponent.ensures.reach, c.read_digits.ensures.reach)

pub returns-in_ok-read_digits-clause-reach : goal.returns-in_ok-read_digits-clause-reach
returns-in_ok-read_digits-clause-reach g c =
    let here = exponent_here
    (g.T.Reader.bytes c.args.text.now) c.args.window.now.from c.begins_exponent.new.window.from c.args.at c.begins_exponent.ensures.from
    (sym c.in_ok-begins_exponent.ensures.value ∙ c.if-branch.true) in
    omega (arith, here, c.begins_exponent.ensures.reach, c.read_digits.ensures.reach)
