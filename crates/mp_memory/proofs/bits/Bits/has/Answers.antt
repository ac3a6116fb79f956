use Rattle.std.proofs.Common.{◌∙◌, arith}
use Rattle.mp_memory.proofs.Lanes.{tested, in_first, in_second, in_third, in_fourth}
use Rattle.mp_memory.proofs.bits.Bits.has.Goals as goal

pub returns-then-member-lt64 : goal.returns-then-member-lt64
returns-then-member-lt64 c = tested _ _ ∙ in_first c.args.self.now c.args.member c.if-member-lt64.true

pub returns-then-member-lt128 : goal.returns-then-member-lt128
returns-then-member-lt128 c = tested _ _ ∙ in_second c.args.self.now c.args.member c.if-member-lt64.false c.if-member-lt128.true

pub returns-then-member-lt192 : goal.returns-then-member-lt192
returns-then-member-lt192 c = tested _ _ ∙ in_third c.args.self.now c.args.member c.if-member-lt128.false c.if-member-lt192.true

pub returns : goal.returns
returns c = tested _ _ ∙ in_fourth c.args.self.now c.args.member c.if-member-lt192.false (let r = c.ranges.member.fits in omega arith)
