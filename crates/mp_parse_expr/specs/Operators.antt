-- Parsers of operators, which no statement outside names.
use Rattle.std.specs.Prelude.{ℕ, [], ◌∷◌}
use Rattle.mp_ast.specs.declared.words.WordSymbol.TheVariants as w
use Rattle.mp_ast.specs.declared.symbols.Symbol.TheVariants as s
use Rattle.mp_ast.specs.declared.expressions.Operator.{Operator}
use Rattle.mp_ast.specs.declared.expressions.Operator.TheVariants as op
use Rattle.mp_cursor.specs.declared.next.Next.{Next}
use Rattle.mp_cursor.specs.declared.next.Next.TheVariants.{Word, Symbol}
use Rattle.mp_cursor.specs.Nexts.{Nexts, is, among}
use Rattle.mp_cursor.specs.Parsers.{Parser, ◌>>=◌, pure, branch, expect}

abbrev pub written : Next → Operator → Parser (ℕ × Operator)
written n o = do
  at ← expect n
  pure (at, o)

abbrev pub relational : Nexts
relational = among (Symbol s.Equal ∷ Symbol s.NotEqual ∷ Symbol s.Less ∷ Symbol s.LessEqual ∷ Symbol s.Greater ∷ Symbol s.GreaterEqual ∷ Word w.In ∷ [])

unfoldable pub relational_operator : Parser (ℕ × Operator)
relational_operator =
    branch (is (Symbol s.Equal)) (written (Symbol s.Equal) op.Equal)
    (branch (is (Symbol s.NotEqual)) (written (Symbol s.NotEqual) op.NotEqual)
    (branch (is (Symbol s.Less)) (written (Symbol s.Less) op.Less)
    (branch (is (Symbol s.LessEqual)) (written (Symbol s.LessEqual) op.LessOrEqual)
    (branch (is (Symbol s.Greater)) (written (Symbol s.Greater) op.Greater)
    (branch (is (Symbol s.GreaterEqual)) (written (Symbol s.GreaterEqual) op.GreaterOrEqual) (written (Word w.In) op.In))))))

abbrev pub adding : Nexts
adding = among (Symbol s.Plus ∷ Symbol s.Minus ∷ Word w.Or ∷ [])

unfoldable pub adding_operator : Parser (ℕ × Operator)
adding_operator =
    branch (is (Symbol s.Plus)) (written (Symbol s.Plus) op.Add)
    (branch (is (Symbol s.Minus)) (written (Symbol s.Minus) op.Subtract) (written (Word w.Or) op.Or))

abbrev pub multiplying : Nexts
multiplying = among (Symbol s.Star ∷ Word w.Div ∷ Word w.Mod ∷ Word w.And ∷ [])

unfoldable pub multiplying_operator : Parser (ℕ × Operator)
multiplying_operator =
    branch (is (Symbol s.Star)) (written (Symbol s.Star) op.Multiply)
    (branch (is (Word w.Div)) (written (Word w.Div) op.Div) (branch (is (Word w.Mod)) (written (Word w.Mod) op.Mod) (written (Word w.And) op.And)))
