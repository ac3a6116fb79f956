use Rattle.mp_ast.proofs.PlainExpressionInverse.{plain_expr-injective}
use Rattle.mp_ast.proofs.PlainStatementInverse.{plain_statement-injective}
use Rattle.mp_ast.proofs.PlainTypeInverse.{plain_denoter-injective}
use Rattle.mp_ast.proofs.PlainHeadingInverse.{plain_formal_section-injective}
use Rattle.mp_ast.proofs.PlainTreeInverse.{plain_block-injective, plain_tree-injective}
use Rattle.mp_ast.proofs.laws.plain_forms_tell.Goals as goal

pub returns-clause-expressions : goal.returns-clause-expressions
returns-clause-expressions c = plain_expr-injective

pub returns-clause-statements : goal.returns-clause-statements
returns-clause-statements c = plain_statement-injective

pub returns-clause-types : goal.returns-clause-types
returns-clause-types c = plain_denoter-injective

pub returns-clause-formal_sections : goal.returns-clause-formal_sections
returns-clause-formal_sections c = plain_formal_section-injective

pub returns-clause-own_trees : goal.returns-clause-own_trees
returns-clause-own_trees c = plain_block-injective

pub returns-clause-trees : goal.returns-clause-trees
returns-clause-trees c = plain_tree-injective
