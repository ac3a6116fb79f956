use Rattle.mp_ast.proofs.LeavesLaws.{ordinals_rise, ordinals_are_below, leaves_stand, each_identifier_is_told}
use Rattle.mp_ast.proofs.ordinal_laws.trees_tell_of_their_tokens.Goals as goal

pub returns-clause-ordinals_rise : goal.returns-clause-ordinals_rise
returns-clause-ordinals_rise c = ordinals_rise

pub returns-clause-ordinals_are_below : goal.returns-clause-ordinals_are_below
returns-clause-ordinals_are_below c = ordinals_are_below

pub returns-clause-leaves_stand : goal.returns-clause-leaves_stand
returns-clause-leaves_stand c = leaves_stand

pub returns-clause-each_identifier_is_told : goal.returns-clause-each_identifier_is_told
returns-clause-each_identifier_is_told c = each_identifier_is_told
