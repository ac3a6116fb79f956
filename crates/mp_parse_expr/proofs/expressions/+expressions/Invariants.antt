use Rattle.std.proofs.Common.{◌≡◌, ◌+◌, ◌-◌, ◌*◌}
use Rattle.mp_ast.specs.declared.symbols.Symbol.TheVariants as s
use Rattle.mp_cursor.specs.declared.next.Next.TheVariants.{Symbol}
use Rattle.mp_cursor.specs.Nexts.{is}
use Rattle.mp_cursor.specs.Parsers.{loop}
use Rattle.mp_parse_expr.specs.Operators.{adding, multiplying}
use Rattle.mp_parse_expr.specs.Expressions.{behind, selecting, further_index, further_indices, further_selection, selections, further_actual}
use Rattle.mp_parse_expr.specs.Expressions.{further_actuals, further_member, further_members, further_factor, further_factors, further_term}
use Rattle.mp_parse_expr.specs.Expressions.{further_terms}
use Rattle.mp_parse_expr.proofs.expressions.+expressions.Given as goal

-- each call has less room, or the same room and a lower rank
abbrev pub decreases-further_indices : goal.decreases-further_indices
decreases-further_indices l = 32 * l.room + 1

abbrev pub decreases-index_list : goal.decreases-index_list
decreases-index_list l = 32 * l.room + 2

abbrev pub decreases-selection : goal.decreases-selection
decreases-selection l = 32 * l.room + 3

abbrev pub decreases-selections : goal.decreases-selections
decreases-selections l = 32 * l.room + 5

abbrev pub decreases-access_behind : goal.decreases-access_behind
decreases-access_behind l = 32 * l.room + 6

abbrev pub decreases-actual : goal.decreases-actual
decreases-actual l = 32 * l.room + 2

abbrev pub decreases-further_actuals : goal.decreases-further_actuals
decreases-further_actuals l = 32 * l.room + 4

abbrev pub decreases-actuals : goal.decreases-actuals
decreases-actuals l = 32 * l.room + 5

abbrev pub decreases-member : goal.decreases-member
decreases-member l = 32 * l.room + 1

abbrev pub decreases-further_members : goal.decreases-further_members
decreases-further_members l = 32 * l.room + 3

abbrev pub decreases-members : goal.decreases-members
decreases-members l = 32 * l.room + 5

abbrev pub decreases-set_constructor : goal.decreases-set_constructor
decreases-set_constructor l = 32 * l.room + 6

abbrev pub decreases-parenthesized : goal.decreases-parenthesized
decreases-parenthesized l = 32 * l.room + 0

abbrev pub decreases-negation : goal.decreases-negation
decreases-negation l = 32 * l.room + 0

abbrev pub decreases-named : goal.decreases-named
decreases-named l = 32 * l.room + 7

abbrev pub decreases-factor : goal.decreases-factor
decreases-factor l = 32 * l.room + 8

abbrev pub decreases-further_factors : goal.decreases-further_factors
decreases-further_factors l = 32 * l.room + 10

abbrev pub decreases-term : goal.decreases-term
decreases-term l = 32 * l.room + 11

abbrev pub decreases-further_terms : goal.decreases-further_terms
decreases-further_terms l = 32 * l.room + 13

abbrev pub decreases-simple_expression : goal.decreases-simple_expression
decreases-simple_expression l = 32 * l.room + 14

abbrev pub decreases-expression : goal.decreases-expression
decreases-expression l = 32 * l.room + 16

abbrev pub invariant-further_indices-indices : goal.invariant-further_indices-indices
invariant-further_indices-indices l =
    further_indices (l.room) (behind l.room) l.fn.first l.fn.tokens ≡ loop (is (Symbol s.Comma)) (further_index l.room (behind l.room)) (l._turn-end - l._turn) l.found l.tokens

abbrev pub invariant-selections-selectors : goal.invariant-selections-selectors
invariant-selections-selectors l =
    selections l.room (behind l.room) l.fn.tokens ≡ loop selecting (further_selection l.room (behind l.room)) (l._turn-end - l._turn) l.found l.tokens

abbrev pub invariant-further_actuals-actuals : goal.invariant-further_actuals-actuals
invariant-further_actuals-actuals l =
    further_actuals l.room (behind l.room) l.fn.first l.fn.tokens ≡ loop (is (Symbol s.Comma)) (further_actual l.room (behind l.room)) (l._turn-end - l._turn) l.found l.tokens

abbrev pub invariant-further_members-members : goal.invariant-further_members-members
invariant-further_members-members l =
    further_members l.room (behind l.room) l.fn.first l.fn.tokens ≡ loop (is (Symbol s.Comma)) (further_member l.room (behind l.room)) (l._turn-end - l._turn) l.found l.tokens

abbrev pub invariant-further_factors-factors : goal.invariant-further_factors-factors
invariant-further_factors-factors l =
    further_factors l.room (behind l.room) l.fn.tokens ≡ loop multiplying (further_factor l.room (behind l.room)) (l._turn-end - l._turn) l.found l.tokens

abbrev pub invariant-further_terms-terms : goal.invariant-further_terms-terms
invariant-further_terms-terms l = further_terms l.room (behind l.room) l.fn.tokens ≡ loop adding (further_term l.room (behind l.room)) (l._turn-end - l._turn) l.found l.tokens
