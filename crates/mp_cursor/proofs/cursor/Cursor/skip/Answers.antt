use Rattle.std.proofs.Common.{drop, ap, ◌∙◌}
use Rattle.mp_cursor.proofs.TokenLemmas.{kinds_behind}
use Rattle.mp_cursor.proofs.cursor.Cursor.skip.Goals as goal

pub returns-clause-rest : goal.returns-clause-rest
returns-clause-rest c = kinds_behind c.args.tokens c.self.inside.rest.now ∙ ap (λ i. drop c.args.tokens i.rest) c.self.view_is
