-- `is` tells what is the same.
use Rattle.std.proofs.Common.{◌≡◌, Bool, true, false, List, [], ◌∷◌, Some, refl, sym, ap, ◌∙◌}
use Rattle.std.proofs.lemmas.Bool.{eqb-true, eq-eqb}
use Rattle.std.specs.Prelude.{slice_get, ◌==◌, ◌↔◌, IsTrue}
use Rattle.mp_ast.specs.declared.tokens.TokenKind.{TokenKind}
use Rattle.mp_ast.specs.declared.tokens.TokenKind.TheVariants as kind
use Rattle.mp_ast.specs.declared.words.WordSymbol.{WordSymbol}
use Rattle.mp_ast.specs.declared.words.WordSymbol.TheVariants as w
use Rattle.mp_ast.specs.declared.symbols.Symbol.{Symbol}
use Rattle.mp_ast.specs.declared.symbols.Symbol.TheVariants as s
use Rattle.mp_cursor.specs.declared.next.Next.{Next}
use Rattle.mp_cursor.specs.declared.next.Next.TheVariants as next
use Rattle.mp_cursor.specs.Nexts.{class_of, word_number, symbol_number, is}

abbrev pub words : List WordSymbol
words =
    w.And ∷ w.Array ∷ w.Begin ∷ w.Case ∷ w.Const ∷ w.Div ∷ w.Do ∷ w.Downto ∷ w.Else ∷ w.End ∷ w.File ∷ w.For ∷ w.Function ∷ w.Goto ∷ w.If ∷ w.In ∷
    w.Label ∷ w.Mod ∷ w.Nil ∷ w.Not ∷ w.Of ∷ w.Or ∷ w.Packed ∷ w.Procedure ∷ w.Program ∷ w.Record ∷ w.Repeat ∷ w.Set ∷ w.Then ∷ w.To ∷ w.«Type» ∷
    w.Until ∷ w.Var ∷ w.While ∷ w.With ∷ []

abbrev pub symbols : List Symbol
symbols =
    s.Plus ∷ s.Minus ∷ s.Star ∷ s.Equal ∷ s.Less ∷ s.Greater ∷ s.LeftBracket ∷ s.RightBracket ∷ s.Dot ∷ s.Comma ∷ s.Colon ∷ s.Semicolon ∷ s.Caret ∷
    s.LeftParen ∷ s.RightParen ∷ s.NotEqual ∷ s.LessEqual ∷ s.GreaterEqual ∷ s.Assign ∷ s.DotDot ∷ []

pub word_found : (v : WordSymbol) → slice_get words (word_number v) ≡ Some v
word_found w.And = refl
word_found w.Array = refl
word_found w.Begin = refl
word_found w.Case = refl
word_found w.Const = refl
word_found w.Div = refl
word_found w.Do = refl
word_found w.Downto = refl
word_found w.Else = refl
word_found w.End = refl
word_found w.File = refl
word_found w.For = refl
word_found w.Function = refl
word_found w.Goto = refl
word_found w.If = refl
word_found w.In = refl
word_found w.Label = refl
word_found w.Mod = refl
word_found w.Nil = refl
word_found w.Not = refl
word_found w.Of = refl
word_found w.Or = refl
word_found w.Packed = refl
word_found w.Procedure = refl
word_found w.Program = refl
word_found w.Record = refl
word_found w.Repeat = refl
word_found w.Set = refl
word_found w.Then = refl
word_found w.To = refl
word_found w.«Type» = refl
word_found w.Until = refl
word_found w.Var = refl
word_found w.While = refl
word_found w.With = refl

pub symbol_found : (v : Symbol) → slice_get symbols (symbol_number v) ≡ Some v
symbol_found s.Plus = refl
symbol_found s.Minus = refl
symbol_found s.Star = refl
symbol_found s.Equal = refl
symbol_found s.Less = refl
symbol_found s.Greater = refl
symbol_found s.LeftBracket = refl
symbol_found s.RightBracket = refl
symbol_found s.Dot = refl
symbol_found s.Comma = refl
symbol_found s.Colon = refl
symbol_found s.Semicolon = refl
symbol_found s.Caret = refl
symbol_found s.LeftParen = refl
symbol_found s.RightParen = refl
symbol_found s.NotEqual = refl
symbol_found s.LessEqual = refl
symbol_found s.GreaterEqual = refl
symbol_found s.Assign = refl
symbol_found s.DotDot = refl

some_word : (v u : WordSymbol) → Some v ≡ Some u → v ≡ u
some_word v u e = cc

some_symbol : (v u : Symbol) → Some v ≡ Some u → v ≡ u
some_symbol v u e = cc

same_word : (v u : WordSymbol) → (word_number v == word_number u) ≡ true → v ≡ u
same_word v u e = some_word v u (sym (word_found v) ∙ ap (slice_get words) (eqb-true _ _ e) ∙ word_found u)

same_symbol : (v u : Symbol) → (symbol_number v == symbol_number u) ≡ true → v ≡ u
same_symbol v u e = some_symbol v u (sym (symbol_found v) ∙ ap (slice_get symbols) (eqb-true _ _ e) ∙ symbol_found u)

pub is_same : (m n : Next) → is m n ≡ true → m ≡ n
is_same (next.Word v) (next.Word u) e = ap next.Word (same_word v u e)
is_same (next.Symbol v) (next.Symbol u) e = ap next.Symbol (same_symbol v u e)
is_same next.Identifier next.Identifier e = refl
is_same next.Number next.Number e = refl
is_same next.Text next.Text e = refl
is_same next.End next.End e = refl
is_same m n e = absurd (let f : ⊥ = cc in f)

pub is_itself : (n : Next) → is n n ≡ true
is_itself (next.Word v) = eq-eqb _ _ refl
is_itself (next.Symbol v) = eq-eqb _ _ refl
is_itself next.Identifier = refl
is_itself next.Number = refl
is_itself next.Text = refl
is_itself next.End = refl

-- the only kind of its class
pub only_word : (v : WordSymbol) (k : TokenKind) → class_of k ≡ next.Word v → k ≡ kind.Word v
only_word v (kind.Word u) e = ap kind.Word (same_next u v e)
  where
    same_next : (u v : WordSymbol) → next.Word u ≡ next.Word v → u ≡ v
    same_next u v e = cc
only_word v (kind.Id name) e = absurd (let f : ⊥ = cc in f)
only_word v (kind.Number value) e = absurd (let f : ⊥ = cc in f)
only_word v (kind.Text characters) e = absurd (let f : ⊥ = cc in f)
only_word v (kind.Symbol u) e = absurd (let f : ⊥ = cc in f)

pub only_symbol : (v : Symbol) (k : TokenKind) → class_of k ≡ next.Symbol v → k ≡ kind.Symbol v
only_symbol v (kind.Symbol u) e = ap kind.Symbol (same_next u v e)
  where
    same_next : (u v : Symbol) → next.Symbol u ≡ next.Symbol v → u ≡ v
    same_next u v e = cc
only_symbol v (kind.Id name) e = absurd (let f : ⊥ = cc in f)
only_symbol v (kind.Number value) e = absurd (let f : ⊥ = cc in f)
only_symbol v (kind.Text characters) e = absurd (let f : ⊥ = cc in f)
only_symbol v (kind.Word u) e = absurd (let f : ⊥ = cc in f)

-- a test for sameness is `is`
pub is_test : (a b : Next) (r : Bool) → IsTrue r ↔ (a ≡ b) → r ≡ is a b
is_test a b true h = sym (ap (is a) (sym (h.0 refl)) ∙ is_itself a)
is_test a b false h = by (is a b) refl
  where
    by : (r : Bool) → is a b ≡ r → false ≡ is a b
    by true e = let q : false ≡ true = h.1 (is_same a b e) in absurd (let f : ⊥ = cc in f)
    by false e = sym e
