use Rattle.std.proofs.Common.{rules, Fits, w64}
use Rattle.mp_memory.proofs.Lanes.{less_is}
use Rattle.mp_memory.proofs.bits.Bits.less.Goals as goal

pub returns : goal.returns
returns c =
    let a : Fits w64 c.args.other.now.first = search rules in
    let b : Fits w64 c.args.other.now.second = search rules in
    let d : Fits w64 c.args.other.now.third = search rules in
    let e : Fits w64 c.args.other.now.fourth = search rules in
    less_is c.args.self.now c.args.other.now a.fits b.fits d.fits e.fits
