use Rattle.std.proofs.Common.{drop}
use Rattle.mp_ast.specs.PlainStatements.{plain_statements}
use Rattle.mp_tables.specs.StatementWalks.{all_statements}
use Rattle.mp_decl.proofs.WalkLemmas.{RestOf}
use Rattle.mp_decl.proofs.walks.walk_all.Given as goal

abbrev pub invariant-statements : goal.invariant-statements
invariant-statements l =
    RestOf l.initial.out l.out (all_statements (plain_statements l.statements)) (all_statements (plain_statements (drop l.s-index l.statements)))
