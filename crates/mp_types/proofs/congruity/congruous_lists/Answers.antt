use Rattle.std.proofs.Common.{sym, arith}
use Rattle.mp_types.proofs.CongruityLemmas.{other_lengths}
use Rattle.mp_types.proofs.congruity.congruous_lists.Goals as goal

pub returns-then-a-b : goal.returns-then-a-b
returns-then-a-b c = sym (other_lengths c.args.a.now c.args.b.now (λ e. omega (arith, e)))
