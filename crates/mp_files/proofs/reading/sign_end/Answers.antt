use Rattle.std.proofs.Common.{◌+◌, ap, sym, ◌∙◌, arith}
use Rattle.mp_files.proofs.ReadingLemmas.{sign_on, sign_off, sign_past}
use Rattle.mp_files.proofs.reading.sign_end.Goals as goal

pub returns-then-is_sign : goal.returns-then-is_sign
returns-then-is_sign c = ap (λ n. c.args.at + n) (sym (sign_on c.args.items.now c.args.at c.in-Some.item (sym c.in-Some.ensures.item) (sym c.is_sign.ensures
    ∙ c.if-is_sign.true)))

pub returns-else-is_sign : goal.returns-else-is_sign
returns-else-is_sign c = let none = sign_off c.args.items.now c.args.at c.in-Some.item (sym c.in-Some.ensures.item) (sym c.is_sign.ensures
    ∙ c.if-is_sign.false) in omega (arith, none)

pub returns-in-None : goal.returns-in-None
returns-in-None c = let none = sign_past c.args.items.now c.args.at (sym c.in-None.ensures.item) in omega (arith, none)
