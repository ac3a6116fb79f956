use Rattle.mp_scope.proofs.AnswerLemmas.{order_is_free as any_order}
use Rattle.mp_scope.proofs.laws.order_is_free.Goals as goal

pub returns : goal.returns
returns c = any_order
