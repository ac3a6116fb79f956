use Rattle.std.proofs.Common.{◌≡◌, ◌-◌}
use Rattle.mp_cursor.specs.declared.next.Next.TheVariants as next
use Rattle.mp_base.specs.declared.limits.TheConstants.{OPENER_LIMIT}
use Rattle.mp_cursor.specs.Nexts.{is}
use Rattle.mp_cursor.specs.Parsers.{loop}
use Rattle.mp_parse.specs.Blocks.{further_section, further_sections}
use Rattle.mp_parse.proofs.parts.further_sections.Given as goal

abbrev pub invariant-sections : goal.invariant-sections
invariant-sections l = further_sections OPENER_LIMIT l.fn.first l.fn.tokens ≡ loop (is next.Identifier) (further_section OPENER_LIMIT) (l._turn-end - l._turn) l.found l.tokens
