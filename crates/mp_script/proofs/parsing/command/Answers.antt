use Rattle.mp_script.proofs.WantsLemmas.{few_of}
use Rattle.mp_script.proofs.parsing.command.Goals as goal

pub returns-in-Ok-Some-clause-few : goal.returns-in-Ok-Some-clause-few
returns-in-Ok-Some-clause-few c = few_of c.get.result.now c.in-Ok-Some.verb c.wants_of.result (rw c.in-Ok-Some.field-0-is at c.in-Ok-Some.ensures.verb) c.wants_of.ensures
