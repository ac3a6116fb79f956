use Rattle.std.proofs.Common.{drop}
use Rattle.mp_ast.specs.PlainStatements.{plain_statement, plain_statements, arms_of}
use Rattle.mp_tables.specs.StatementWalks.{all_statements, arm_statements}
use Rattle.mp_decl.proofs.WalkLemmas.{RestOf}
use Rattle.mp_decl.proofs.walks.+walk.Given as goal

abbrev pub invariant-compound : goal.invariant-compound
invariant-compound l = RestOf l.fn.out l.out (all_statements (plain_statements l.s-items)) (all_statements (plain_statements (drop l.s-index l.s-items)))

abbrev pub invariant-arms : goal.invariant-arms
invariant-arms l =
    RestOf l.fn.out l.out (arm_statements (arms_of plain_statement l.arm-items)) (arm_statements (arms_of plain_statement (drop l.arm-index l.arm-items)))

abbrev pub invariant-repeated : goal.invariant-repeated
invariant-repeated l = RestOf l.fn.out l.out (all_statements (plain_statements l.s-items)) (all_statements (plain_statements (drop l.s-index l.s-items)))
