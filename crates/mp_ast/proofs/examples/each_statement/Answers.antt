use Rattle.mp_ast.proofs.ProductionExamples.{procedure_example, goto_example, compound_example, while_example, repeat_example, to_example, downto_example, with_example}
use Rattle.mp_ast.proofs.examples.each_statement.Goals as goal

pub returns-clause-procedure_call : goal.returns-clause-procedure_call
returns-clause-procedure_call c = procedure_example

pub returns-clause-goto_statement : goal.returns-clause-goto_statement
returns-clause-goto_statement c = goto_example

pub returns-clause-compound_statement : goal.returns-clause-compound_statement
returns-clause-compound_statement c = compound_example

pub returns-clause-while_statement : goal.returns-clause-while_statement
returns-clause-while_statement c = while_example

pub returns-clause-repeat_statement : goal.returns-clause-repeat_statement
returns-clause-repeat_statement c = repeat_example

pub returns-clause-for_to : goal.returns-clause-for_to
returns-clause-for_to c = to_example

pub returns-clause-for_downto : goal.returns-clause-for_downto
returns-clause-for_downto c = downto_example

pub returns-clause-with_statement : goal.returns-clause-with_statement
returns-clause-with_statement c = with_example
