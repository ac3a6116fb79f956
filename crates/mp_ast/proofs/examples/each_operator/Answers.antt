use Rattle.std.proofs.Common.{inl}
use Rattle.mp_ast.proofs.ExampleLemmas.{seq, took, nothing, past_1, past_2, past_3, past_4, past_5, past_6}
use Rattle.mp_ast.proofs.OperatorExamples.{relates, adds, multiplies}
use Rattle.mp_ast.proofs.examples.each_operator.Goals as goal

pub returns-clause-equal : goal.returns-clause-equal
returns-clause-equal c = relates (λ at declared rest. inl (seq _ _ took nothing))

pub returns-clause-not_equal : goal.returns-clause-not_equal
returns-clause-not_equal c = relates (λ at declared rest. past_1 (inl (seq _ _ took nothing)))

pub returns-clause-less : goal.returns-clause-less
returns-clause-less c = relates (λ at declared rest. past_2 (inl (seq _ _ took nothing)))

pub returns-clause-less_or_equal : goal.returns-clause-less_or_equal
returns-clause-less_or_equal c = relates (λ at declared rest. past_3 (inl (seq _ _ took nothing)))

pub returns-clause-greater : goal.returns-clause-greater
returns-clause-greater c = relates (λ at declared rest. past_4 (inl (seq _ _ took nothing)))

pub returns-clause-greater_or_equal : goal.returns-clause-greater_or_equal
returns-clause-greater_or_equal c = relates (λ at declared rest. past_5 (inl (seq _ _ took nothing)))

pub returns-clause-in_operator : goal.returns-clause-in_operator
returns-clause-in_operator c = relates (λ at declared rest. past_6 (seq _ _ took nothing))

pub returns-clause-add : goal.returns-clause-add
returns-clause-add c = adds (λ at declared rest. inl (seq _ _ took nothing))

pub returns-clause-subtract : goal.returns-clause-subtract
returns-clause-subtract c = adds (λ at declared rest. past_1 (inl (seq _ _ took nothing)))

pub returns-clause-or_operator : goal.returns-clause-or_operator
returns-clause-or_operator c = adds (λ at declared rest. past_2 (seq _ _ took nothing))

pub returns-clause-multiply : goal.returns-clause-multiply
returns-clause-multiply c = multiplies (λ at declared rest. inl (seq _ _ took nothing))

pub returns-clause-div_operator : goal.returns-clause-div_operator
returns-clause-div_operator c = multiplies (λ at declared rest. past_1 (inl (seq _ _ took nothing)))

pub returns-clause-mod_operator : goal.returns-clause-mod_operator
returns-clause-mod_operator c = multiplies (λ at declared rest. past_2 (inl (seq _ _ took nothing)))

pub returns-clause-and_operator : goal.returns-clause-and_operator
returns-clause-and_operator c = multiplies (λ at declared rest. past_3 (seq _ _ took nothing))
