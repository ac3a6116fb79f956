use Rattle.mp_scope.proofs.AnswerLemmas.{closed_tables_answer, standing_stays}
use Rattle.mp_scope.proofs.laws.answers_stand.Goals as goal

pub returns-clause-answers : goal.returns-clause-answers
returns-clause-answers c = closed_tables_answer

pub returns-clause-stays : goal.returns-clause-stays
returns-clause-stays c = standing_stays
