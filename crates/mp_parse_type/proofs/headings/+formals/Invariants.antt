use Rattle.std.proofs.Common.{◌≡◌, ◌+◌, ◌-◌, ◌*◌}
use Rattle.mp_ast.specs.declared.symbols.Symbol.TheVariants as s
use Rattle.mp_cursor.specs.declared.next.Next.TheVariants.{Symbol}
use Rattle.mp_cursor.specs.Nexts.{is}
use Rattle.mp_cursor.specs.Parsers.{loop}
use Rattle.mp_parse_type.specs.Headings.{formals, further_formal, further_formals}
use Rattle.mp_parse_type.proofs.headings.+formals.Given as goal

-- each call has less room, or the same room and a lower rank
abbrev pub decreases-own_formals : goal.decreases-own_formals
decreases-own_formals l = 32 * l.room + 1

abbrev pub decreases-procedure_parameter : goal.decreases-procedure_parameter
decreases-procedure_parameter l = 32 * l.room + 2

abbrev pub decreases-function_parameter : goal.decreases-function_parameter
decreases-function_parameter l = 32 * l.room + 2

abbrev pub decreases-formal : goal.decreases-formal
decreases-formal l = 32 * l.room + 3

abbrev pub decreases-further_formals : goal.decreases-further_formals
decreases-further_formals l = 32 * l.room + 5

abbrev pub decreases-formal_sections : goal.decreases-formal_sections
decreases-formal_sections l = 32 * l.room + 6

abbrev pub decreases-formals : goal.decreases-formals
decreases-formals l = 32 * l.room + 0

abbrev pub invariant-further_formals-sections : goal.invariant-further_formals-sections
invariant-further_formals-sections l =
    further_formals (formals l.room) l.fn.first l.fn.tokens ≡ loop (is (Symbol s.Semicolon)) (further_formal (formals l.room)) (l._turn-end - l._turn) l.found l.tokens
