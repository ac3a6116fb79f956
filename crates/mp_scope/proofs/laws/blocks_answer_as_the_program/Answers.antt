use Rattle.mp_scope.proofs.AnswerLemmas.{inner_names_stay}
use Rattle.mp_scope.proofs.laws.blocks_answer_as_the_program.Goals as goal

pub returns : goal.returns
returns c = inner_names_stay
