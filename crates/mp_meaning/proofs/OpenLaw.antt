-- A run with closed blocks is that of the program, until it meets a hole.
use Rattle.std.proofs.Common.{ℕ, zero, suc, [], refl, ap}
use Rattle.mp_meaning.specs.Programs.{Program, block_of}
use Rattle.mp_meaning.specs.Values.{NoValues}
use Rattle.mp_meaning.specs.Outcomes.{Outcome, Done, Jump, Fault, Limit, Hole, Paused, Spent, Wrong, needs}
use Rattle.mp_meaning.specs.Calls.{leave_procedure}
use Rattle.mp_meaning.specs.Statements.{run}
use Rattle.mp_meaning.specs.Steps.{before_program, program, up_to, standing}
use Rattle.mp_meaning.specs.Laws.{all_open, IsUntilHole, HolesAlone}
use Rattle.mp_meaning.proofs.OpenOutcomes.{Follows, Opens, alike, bind_opens}
use Rattle.mp_meaning.proofs.OpenExpressions.{call_block_opens}
use Rattle.mp_meaning.proofs.OpenStatements.{run_opens}

program_opens : (p : Program) (k : ℕ) → Opens (program p k) (program (all_open p) k)
program_opens p k = bind_opens (alike (needs (block_of p []))) (λ b. call_block_opens p (run p k) (run (all_open p) k) (run_opens p k) b.begin [] 0 NoValues leave_procedure)

until : (n : ℕ) (o q : Outcome (Unit {0})) → Follows o q → IsUntilHole (standing n o) (standing n q)
until n (Done v c) q g = ap (standing n) g.by
until n (Fault x at c) q g = ap (standing n) g.by
until n (Limit x at c) q g = ap (standing n) g.by
until n (Paused c) q g = ap (standing n) g.by
until n (Hole path at c) q g = tt
until n (Jump l r c) q g = tt
until n Spent q g = tt
until n Wrong q g = tt

pub holes_alone : HolesAlone
holes_alone p input zero = refl
holes_alone p input (suc n) = until (suc n) (up_to p input (suc n)) (up_to (all_open p) input (suc n)) ((program_opens p (suc n)).by (before_program input (suc n)))
