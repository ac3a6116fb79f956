use Rattle.std.proofs.Common.{refl, sym, ◌∙◌}
use Rattle.mp_ast.proofs.PlainStatementLemmas.{plain_statement-Labelled, plain_statement-Empty, plain_statement-Assign, plain_statement-Call}
use Rattle.mp_ast.proofs.PlainStatementLemmas.{plain_statement-Goto, plain_statement-Compound, plain_statement-Case, plain_statement-While}
use Rattle.mp_ast.proofs.PlainStatementLemmas.{plain_statement-Repeat, plain_statement-For, plain_statement-With}
use Rattle.mp_ast.proofs.FirstTokenLemmas.{statement_begins, if_begins}
use Rattle.mp_ast.proofs.statements.Statement.first_token.Goals as goal

pub returns-in-Labelled : goal.returns-in-Labelled
returns-in-Labelled c = sym (statement_begins _ _ _ _ c.in-Labelled.is (plain_statement-Labelled c.in-Labelled.label c.in-Labelled.field-1) refl)

pub returns-in-Empty : goal.returns-in-Empty
returns-in-Empty c = sym (statement_begins _ _ _ _ c.in-Empty.is (plain_statement-Empty c.in-Empty.at) refl)

pub returns-in-Assign : goal.returns-in-Assign
returns-in-Assign c = c.first_token.ensures ∙
    sym (statement_begins _ _ _ _ c.in-Assign.is (plain_statement-Assign c.in-Assign.variable c.in-Assign.field-1 c.in-Assign.field-2) refl)

pub returns-in-Call : goal.returns-in-Call
returns-in-Call c = sym (statement_begins _ _ _ _ c.in-Call.is (plain_statement-Call c.in-Call.name c.in-Call.field-1) refl)

pub returns-in-Goto : goal.returns-in-Goto
returns-in-Goto c = sym (statement_begins _ _ _ _ c.in-Goto.is (plain_statement-Goto c.in-Goto.at c.in-Goto.field-1) refl)

pub returns-in-Compound : goal.returns-in-Compound
returns-in-Compound c = sym (statement_begins _ _ _ _ c.in-Compound.is (plain_statement-Compound c.in-Compound.at c.in-Compound.field-1) refl)

pub returns-in-If : goal.returns-in-If
returns-in-If c = sym (if_begins _ c.in-If.at c.in-If.field-1 c.in-If.field-2 c.in-If.field-3 c.in-If.is)

pub returns-in-Case : goal.returns-in-Case
returns-in-Case c = sym (statement_begins _ _ _ _ c.in-Case.is (plain_statement-Case c.in-Case.at c.in-Case.field-1 c.in-Case.field-2) refl)

pub returns-in-While : goal.returns-in-While
returns-in-While c = sym (statement_begins _ _ _ _ c.in-While.is (plain_statement-While c.in-While.at c.in-While.field-1 c.in-While.field-2) refl)

pub returns-in-Repeat : goal.returns-in-Repeat
returns-in-Repeat c = sym (statement_begins _ _ _ _ c.in-Repeat.is (plain_statement-Repeat c.in-Repeat.at c.in-Repeat.field-1 c.in-Repeat.field-2) refl)

pub returns-in-For : goal.returns-in-For
returns-in-For c = sym (statement_begins _ _ _ _ c.in-For.is (plain_statement-For c.in-For.at c.in-For.field-1 c.in-For.field-2) refl)

pub returns-in-With : goal.returns-in-With
returns-in-With c = sym (statement_begins _ _ _ _ c.in-With.is (plain_statement-With c.in-With.at c.in-With.field-1 c.in-With.field-2) refl)
