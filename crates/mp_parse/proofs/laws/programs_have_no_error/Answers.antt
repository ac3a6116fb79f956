use Rattle.mp_parse.proofs.laws.programs_have_no_error.Goals as goal

pub returns : goal.returns
returns c = λ limits kinds index code tree error. error.no_tree tree
