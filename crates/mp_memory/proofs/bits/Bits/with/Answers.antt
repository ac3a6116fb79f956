use Rattle.std.proofs.Common.{arith}
use Rattle.mp_memory.proofs.Lanes.{with_first, with_second, with_third, with_fourth}
use Rattle.mp_memory.proofs.bits.Bits.with.Goals as goal

pub returns-then-member-lt64 : goal.returns-then-member-lt64
returns-then-member-lt64 c = with_first c.args.self.now c.args.member c.if-member-lt64.true

pub returns-then-member-lt128 : goal.returns-then-member-lt128
returns-then-member-lt128 c = with_second c.args.self.now c.args.member c.if-member-lt64.false c.if-member-lt128.true

pub returns-then-member-lt192 : goal.returns-then-member-lt192
returns-then-member-lt192 c = with_third c.args.self.now c.args.member c.if-member-lt128.false c.if-member-lt192.true

pub returns : goal.returns
returns c = with_fourth c.args.self.now c.args.member c.if-member-lt192.false (let r = c.ranges.member.fits in omega arith)
