use Rattle.std.proofs.Common.{◌≡◌, ◌-◌}
use Rattle.mp_cursor.specs.declared.next.Next.TheVariants as next
use Rattle.mp_cursor.specs.Nexts.{is}
use Rattle.mp_cursor.specs.Parsers.{loop}
use Rattle.mp_parse.specs.Blocks.{further_constant, further_constants}
use Rattle.mp_parse.proofs.parts.further_constants.Given as goal

abbrev pub invariant-constants : goal.invariant-constants
invariant-constants l = further_constants l.fn.first l.fn.tokens ≡ loop (is next.Identifier) (further_constant) (l._turn-end - l._turn) l.found l.tokens
