use Rattle.std.proofs.Common.{◌≡◌, ◌-◌}
use Rattle.mp_cursor.specs.declared.next.Next.TheVariants as next
use Rattle.mp_cursor.specs.Nexts.{is}
use Rattle.mp_cursor.specs.Parsers.{◌>>◌, loop, and_one, expect, further}
use Rattle.mp_cursor.proofs.productions.further.Given as goal

abbrev pub invariant-items : goal.invariant-items
invariant-items g l =
    further (next.Symbol l.fn.separator) (g.P.Production.parser l.fn.production) l.fn.first l.fn.tokens ≡
    loop (is (next.Symbol l.fn.separator)) (and_one (expect (next.Symbol l.fn.separator) >> g.P.Production.parser l.fn.production))
    (l._turn-end - l._turn) l.found l.tokens
