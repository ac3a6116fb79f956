use Rattle.std.proofs.Common.{◌≡◌, ◌+◌, drop, refl, ap, sym, ◌∙◌, arith}
use Rattle.mp_lex.specs.Lengths.{begins_exponent, exponent_len}
use Rattle.mp_lex.proofs.AheadLemmas.{exponent_alone, fraction_here}
use Rattle.mp_lex.proofs.ahead.read_number_end.Goals as goal

pub returns-in_err-end-clause-reach : goal.returns-in_err-end-clause-reach
returns-in_err-end-clause-reach g c =
    let here = fraction_here
    (g.T.Reader.bytes c.args.text.now) c.args.window.now.from c.begins_fraction.new.window.from c.args.at _ c.begins_fraction.ensures.from
    (sym c.in_ok-begins_fraction.ensures.value ∙ c.if-branch.true) refl in
    omega (arith, here, c.begins_fraction.ensures.reach, c.read_digits.ensures.reach)

pub returns-in_err-read_exponent-clause-reach : goal.returns-in_err-read_exponent-clause-reach
returns-in_err-read_exponent-clause-reach g c =
    let text = g.T.Reader.bytes c.args.text.now in
    let here = fraction_here text c.args.window.now.from c.begins_fraction.new.window.from c.args.at c.in_ok-end.end c.begins_fraction.ensures.from
    (sym c.in_ok-begins_fraction.ensures.value ∙ c.if-branch.true) c.in_ok-end.ensures.end in
    let same : exponent_len (drop (c.read_digits.new.window.from + c.in_ok-end.end) text) ≡ exponent_len
    (drop (c.args.window.now.from + c.in_ok-end.end) text) = ap (λ k. exponent_len (drop (k + c.in_ok-end.end) text)) (c.read_digits.ensures.from
    ∙ c.begins_fraction.ensures.from) in
    omega (arith, here, same, c.in_ok-end.ensures.end, c.begins_fraction.ensures.reach, c.read_digits.ensures.reach, c.read_exponent.ensures.reach)

pub returns-then-branch-clause-reach : goal.returns-then-branch-clause-reach
returns-then-branch-clause-reach g c =
    let text = g.T.Reader.bytes c.args.text.now in
    let here = fraction_here text c.args.window.now.from c.begins_fraction.new.window.from c.args.at c.in_ok-end.end c.begins_fraction.ensures.from
    (sym c.in_ok-begins_fraction.ensures.value ∙ c.if-branch.true) c.in_ok-end.ensures.end in
    let same : exponent_len (drop (c.read_digits.new.window.from + c.in_ok-end.end) text) ≡ exponent_len
    (drop (c.args.window.now.from + c.in_ok-end.end) text) = ap (λ k. exponent_len (drop (k + c.in_ok-end.end) text)) (c.read_digits.ensures.from
    ∙ c.begins_fraction.ensures.from) in
    omega (arith, here, same, c.in_ok-end.ensures.end, c.begins_fraction.ensures.reach, c.read_digits.ensures.reach, c.read_exponent.ensures.reach)

pub returns-in_err-read_digits-clause-reach : goal.returns-in_err-read_digits-clause-reach
returns-in_err-read_digits-clause-reach g c =
    let text = g.T.Reader.bytes c.args.text.now in
    let now = c.begins_exponent.new.window.from in
    let first = c.begins_fraction.ensures.from in
    let here = exponent_alone text c.args.window.now.from now c.args.at (c.begins_exponent.ensures.from ∙ first) (sym c.in_ok-begins_fraction.ensures.value
    ∙ c.if-branch.false) (ap (λ k. begins_exponent (drop (k + c.args.at) text)) c.begins_exponent.ensures.from ∙ sym c.in_ok-begins_exponent.ensures.value
    ∙ c.if-branch-2.true) in
    omega (arith, here, c.begins_fraction.ensures.reach, c.begins_exponent.ensures.reach, c.read_digits-then-branch-2.ensures.reach)

pub returns-then-branch-2-clause-reach : goal.returns-then-branch-2-clause-reach
returns-then-branch-2-clause-reach g c =
    let text = g.T.Reader.bytes c.args.text.now in
    let now = c.begins_exponent.new.window.from in
    let first = c.begins_fraction.ensures.from in
    let here = exponent_alone text c.args.window.now.from now c.args.at (c.begins_exponent.ensures.from ∙ first) (sym c.in_ok-begins_fraction.ensures.value
    ∙ c.if-branch.false) (ap (λ k. begins_exponent (drop (k + c.args.at) text)) c.begins_exponent.ensures.from ∙ sym c.in_ok-begins_exponent.ensures.value
    ∙ c.if-branch-2.true) in
    omega (arith, here, c.begins_fraction.ensures.reach, c.begins_exponent.ensures.reach, c.read_digits-then-branch-2.ensures.reach)
