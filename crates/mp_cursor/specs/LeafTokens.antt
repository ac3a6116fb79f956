-- The tokens that begin a constant, and those that do not go on with what stands before them.
use Rattle.std.specs.Prelude.{[], ◌∷◌}
use Rattle.mp_ast.specs.declared.symbols.Symbol.TheVariants as s
use Rattle.mp_cursor.specs.declared.next.Next.TheVariants as next
use Rattle.mp_cursor.specs.Nexts.{Nexts, among, but}

-- the tokens that a constant begins with
abbrev pub constant_begins : Nexts
constant_begins = among (next.Identifier ∷ next.Number ∷ next.Text ∷ next.Symbol s.Plus ∷ next.Symbol s.Minus ∷ [])

-- the tokens that are no sign
abbrev pub but_sign : Nexts
but_sign = but (next.Symbol s.Plus ∷ next.Symbol s.Minus ∷ [])

-- the tokens that do not go on with a list with commas in it
abbrev pub but_comma : Nexts
but_comma = but (next.Symbol s.Comma ∷ [])
