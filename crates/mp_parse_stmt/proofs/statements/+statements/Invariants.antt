use Rattle.std.proofs.Common.{◌≡◌, ◌+◌, ◌-◌, ◌*◌}
use Rattle.mp_ast.specs.declared.symbols.Symbol.TheVariants as s
use Rattle.mp_cursor.specs.declared.next.Next.TheVariants.{Symbol}
use Rattle.mp_cursor.specs.Nexts.{is}
use Rattle.mp_cursor.specs.Parsers.{loop, series}
use Rattle.mp_cursor.specs.LeafTokens.{constant_begins}
use Rattle.mp_parse_stmt.specs.Statements.{statement, further_statement, further_statements, further_arm, further_arms}
use Rattle.mp_parse_stmt.proofs.statements.+statements.Given as goal

-- each call has less room, or the same room and a lower rank
abbrev pub decreases-further_statements : goal.decreases-further_statements
decreases-further_statements l = 8 * l.room + 5

abbrev pub decreases-sequence : goal.decreases-sequence
decreases-sequence l = 8 * l.room + 6

abbrev pub decreases-else_part : goal.decreases-else_part
decreases-else_part l = 8 * l.room + 4

abbrev pub decreases-arm : goal.decreases-arm
decreases-arm l = 8 * l.room + 4

abbrev pub decreases-further_arms : goal.decreases-further_arms
decreases-further_arms l = 8 * l.room + 6

abbrev pub decreases-arms : goal.decreases-arms
decreases-arms l = 8 * l.room + 7

abbrev pub decreases-compound_statement : goal.decreases-compound_statement
decreases-compound_statement l = 8 * l.room + 0

abbrev pub decreases-if_statement : goal.decreases-if_statement
decreases-if_statement l = 8 * l.room + 0

abbrev pub decreases-case_statement : goal.decreases-case_statement
decreases-case_statement l = 8 * l.room + 0

abbrev pub decreases-while_statement : goal.decreases-while_statement
decreases-while_statement l = 8 * l.room + 0

abbrev pub decreases-repeat_statement : goal.decreases-repeat_statement
decreases-repeat_statement l = 8 * l.room + 0

abbrev pub decreases-for_statement : goal.decreases-for_statement
decreases-for_statement l = 8 * l.room + 0

abbrev pub decreases-with_statement : goal.decreases-with_statement
decreases-with_statement l = 8 * l.room + 0

abbrev pub decreases-unlabelled : goal.decreases-unlabelled
decreases-unlabelled l = 8 * l.room + 1

abbrev pub decreases-labelled : goal.decreases-labelled
decreases-labelled l = 8 * l.room + 2

abbrev pub decreases-statement : goal.decreases-statement
decreases-statement l = 8 * l.room + 3

abbrev pub invariant-further_statements-statements : goal.invariant-further_statements-statements
invariant-further_statements-statements l =
    further_statements (statement l.room) l.fn.first l.fn.tokens ≡ loop (is (Symbol s.Semicolon)) (further_statement (statement l.room)) (l._turn-end - l._turn) l.found l.tokens

abbrev pub invariant-further_arms-arms : goal.invariant-further_arms-arms
invariant-further_arms-arms l =
    further_arms (statement l.room) l.fn.first l.fn.tokens ≡ series (Symbol s.Semicolon) constant_begins (further_arm (statement l.room)) (l._turn-end - l._turn) l.found l.tokens
