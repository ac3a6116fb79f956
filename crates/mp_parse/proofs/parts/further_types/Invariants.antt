use Rattle.std.proofs.Common.{◌≡◌, ◌-◌}
use Rattle.mp_cursor.specs.declared.next.Next.TheVariants as next
use Rattle.mp_base.specs.declared.limits.TheConstants.{OPENER_LIMIT}
use Rattle.mp_cursor.specs.Nexts.{is}
use Rattle.mp_cursor.specs.Parsers.{loop}
use Rattle.mp_parse.specs.Blocks.{further_type, further_types}
use Rattle.mp_parse.proofs.parts.further_types.Given as goal

abbrev pub invariant-types : goal.invariant-types
invariant-types l = further_types OPENER_LIMIT l.fn.first l.fn.tokens ≡ loop (is next.Identifier) (further_type OPENER_LIMIT) (l._turn-end - l._turn) l.found l.tokens
