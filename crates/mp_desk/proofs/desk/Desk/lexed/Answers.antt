use Rattle.std.proofs.Common.{subst}
use Rattle.mp_base.specs.Text.{bytes_of}
use Rattle.mp_desk.specs.Desk.{last_text}
use Rattle.mp_lex.specs.Order.{AreErrorsInOrder, AreTokensInOrder}
use Rattle.mp_lex.proofs.OrderLemmas.{errors_in_order, tokens_in_order}
use Rattle.mp_desk.proofs.desk.Desk.lexed.Goals as goal

pub returns-clause-tokens_in_order : goal.returns-clause-tokens_in_order
returns-clause-tokens_in_order c =
    let tokens = c.self.inside.lexed.tokens in
    subst (λ versions. AreTokensInOrder (bytes_of (last_text versions)) tokens) c.self.view_is
    (tokens_in_order (bytes_of (last_text c.self.inside.texts)) tokens c.self.invariant.tokens_are)

pub returns-clause-errors_in_order : goal.returns-clause-errors_in_order
returns-clause-errors_in_order c =
    let errors = c.self.inside.lexed.errors in
    subst (λ versions. AreErrorsInOrder (bytes_of (last_text versions)) errors) c.self.view_is
    (errors_in_order (bytes_of (last_text c.self.inside.texts)) errors c.self.invariant.errors_are)
