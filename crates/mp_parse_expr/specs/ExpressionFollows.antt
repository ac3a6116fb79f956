-- The tokens that may follow variables and expressions.
use Rattle.std.specs.Prelude.{[], ◌∷◌}
use Rattle.mp_ast.specs.declared.words.WordSymbol.TheVariants as w
use Rattle.mp_ast.specs.declared.symbols.Symbol.TheVariants as s
use Rattle.mp_cursor.specs.declared.next.Next.TheVariants.{Word, Symbol}
use Rattle.mp_cursor.specs.Nexts.{Nexts, but}

-- the tokens that do not go on with a variable: they begin no selector
abbrev pub after_access : Nexts
after_access = but (Symbol s.LeftBracket ∷ Symbol s.Dot ∷ Symbol s.Caret ∷ [])

-- the tokens that do not go on with an expression: they begin neither a selector nor actual parameters, and are no operator
abbrev pub after_expression : Nexts
after_expression =
    but (Symbol s.LeftBracket ∷ Symbol s.Dot ∷ Symbol s.Caret ∷ Symbol s.LeftParen
    ∷ Symbol s.Star ∷ Word w.Div ∷ Word w.Mod ∷ Word w.And ∷ Symbol s.Plus ∷ Symbol s.Minus ∷ Word w.Or
    ∷ Symbol s.Equal ∷ Symbol s.NotEqual ∷ Symbol s.Less ∷ Symbol s.LessEqual ∷ Symbol s.Greater ∷ Symbol s.GreaterEqual ∷ Word w.In ∷ [])
