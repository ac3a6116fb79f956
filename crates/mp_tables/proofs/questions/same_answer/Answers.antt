use Rattle.std.proofs.Common.{rules}
use Rattle.mp_tables.proofs.SameAnswers.{given_is}
use Rattle.mp_tables.proofs.questions.same_answer.Goals as goal

pub returns : goal.returns
returns c = search (rules, given_is)
