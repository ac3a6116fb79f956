use Rattle.mp_ast.proofs.PlainStatementLemmas.{plain_statement-Labelled, plain_statement-Empty, plain_statement-Assign, plain_statement-Call}
use Rattle.mp_ast.proofs.PlainStatementLemmas.{plain_statement-Goto, plain_statement-Compound, plain_statement-If, plain_statement-IfElse, plain_statement-Case}
use Rattle.mp_ast.proofs.PlainStatementLemmas.{plain_statement-While, plain_statement-Repeat, plain_statement-For, plain_statement-With}
use Rattle.mp_ast.proofs.laws.plain_statement_forms.Goals as goal

pub returns-clause-labelled : goal.returns-clause-labelled
returns-clause-labelled c = plain_statement-Labelled

pub returns-clause-empty_statement : goal.returns-clause-empty_statement
returns-clause-empty_statement c = plain_statement-Empty

pub returns-clause-assign : goal.returns-clause-assign
returns-clause-assign c = plain_statement-Assign

pub returns-clause-call : goal.returns-clause-call
returns-clause-call c = plain_statement-Call

pub returns-clause-goto_statement : goal.returns-clause-goto_statement
returns-clause-goto_statement c = plain_statement-Goto

pub returns-clause-compound_statement : goal.returns-clause-compound_statement
returns-clause-compound_statement c = plain_statement-Compound

pub returns-clause-if_statement : goal.returns-clause-if_statement
returns-clause-if_statement c = plain_statement-If

pub returns-clause-if_with_else : goal.returns-clause-if_with_else
returns-clause-if_with_else c = plain_statement-IfElse

pub returns-clause-case_statement : goal.returns-clause-case_statement
returns-clause-case_statement c = plain_statement-Case

pub returns-clause-while_statement : goal.returns-clause-while_statement
returns-clause-while_statement c = plain_statement-While

pub returns-clause-repeat_statement : goal.returns-clause-repeat_statement
returns-clause-repeat_statement c = plain_statement-Repeat

pub returns-clause-for_statement : goal.returns-clause-for_statement
returns-clause-for_statement c = plain_statement-For

pub returns-clause-with_statement : goal.returns-clause-with_statement
returns-clause-with_statement c = plain_statement-With
