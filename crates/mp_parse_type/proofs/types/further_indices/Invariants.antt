use Rattle.std.proofs.Common.{◌≡◌, ◌-◌}
use Rattle.mp_ast.specs.declared.symbols.Symbol.TheVariants as s
use Rattle.mp_cursor.specs.declared.next.Next.TheVariants.{Symbol}
use Rattle.mp_cursor.specs.Nexts.{is}
use Rattle.mp_cursor.specs.Parsers.{loop}
use Rattle.mp_parse_type.specs.Types.{further_index, further_indices}
use Rattle.mp_parse_type.proofs.types.further_indices.Given as goal

abbrev pub invariant-indices : goal.invariant-indices
invariant-indices l = further_indices l.fn.first l.fn.tokens ≡ loop (is (Symbol s.Comma)) further_index (l._turn-end - l._turn) l.found l.tokens
