-- What the next token is, and whether it is what is looked for.
use Rattle.std.specs.Prelude.{ℕ, ◌==◌, Bool, true, false, ◌||◌, not, List, [], ◌∷◌}
use Rattle.mp_ast.specs.declared.tokens.TokenKind.{TokenKind}
use Rattle.mp_ast.specs.declared.tokens.TokenKind.TheVariants as kind
use Rattle.mp_ast.specs.declared.words.WordSymbol.{WordSymbol}
use Rattle.mp_ast.specs.declared.words.WordSymbol.TheVariants as w
use Rattle.mp_ast.specs.declared.symbols.Symbol.{Symbol}
use Rattle.mp_ast.specs.declared.symbols.Symbol.TheVariants as s
use Rattle.mp_cursor.specs.declared.next.Next.{Next}
use Rattle.mp_cursor.specs.declared.next.Next.TheVariants as next

abbrev pub class_of : TokenKind → Next
class_of (kind.Id name) = next.Identifier
class_of (kind.Number value) = next.Number
class_of (kind.Text characters) = next.Text
class_of (kind.Word word) = next.Word word
class_of (kind.Symbol symbol) = next.Symbol symbol

abbrev pub next_of : List TokenKind → Next
next_of [] = next.End
next_of (k ∷ kinds) = class_of k

-- a number for each word-symbol and each symbol
abbrev pub word_number : WordSymbol → ℕ
word_number w.And = 0
word_number w.Array = 1
word_number w.Begin = 2
word_number w.Case = 3
word_number w.Const = 4
word_number w.Div = 5
word_number w.Do = 6
word_number w.Downto = 7
word_number w.Else = 8
word_number w.End = 9
word_number w.File = 10
word_number w.For = 11
word_number w.Function = 12
word_number w.Goto = 13
word_number w.If = 14
word_number w.In = 15
word_number w.Label = 16
word_number w.Mod = 17
word_number w.Nil = 18
word_number w.Not = 19
word_number w.Of = 20
word_number w.Or = 21
word_number w.Packed = 22
word_number w.Procedure = 23
word_number w.Program = 24
word_number w.Record = 25
word_number w.Repeat = 26
word_number w.Set = 27
word_number w.Then = 28
word_number w.To = 29
word_number w.«Type» = 30
word_number w.Until = 31
word_number w.Var = 32
word_number w.While = 33
word_number w.With = 34

abbrev pub symbol_number : Symbol → ℕ
symbol_number s.Plus = 0
symbol_number s.Minus = 1
symbol_number s.Star = 2
symbol_number s.Equal = 3
symbol_number s.Less = 4
symbol_number s.Greater = 5
symbol_number s.LeftBracket = 6
symbol_number s.RightBracket = 7
symbol_number s.Dot = 8
symbol_number s.Comma = 9
symbol_number s.Colon = 10
symbol_number s.Semicolon = 11
symbol_number s.Caret = 12
symbol_number s.LeftParen = 13
symbol_number s.RightParen = 14
symbol_number s.NotEqual = 15
symbol_number s.LessEqual = 16
symbol_number s.GreaterEqual = 17
symbol_number s.Assign = 18
symbol_number s.DotDot = 19

-- whether the two are the same
abbrev pub is : Next → Next → Bool
is (next.Word v) (next.Word u) = word_number v == word_number u
is (next.Symbol v) (next.Symbol u) = symbol_number v == symbol_number u
is next.Identifier next.Identifier = true
is next.Number next.Number = true
is next.Text next.Text = true
is next.End next.End = true
is _ _ = false

-- ---- sets of next tokens

abbrev pub Nexts : Type 0
Nexts = Next → Bool

abbrev pub any : Nexts
any = λ n. true

abbrev pub either : Nexts → Nexts → Nexts
either f g = λ n. f n || g n

abbrev pub among : List Next → Nexts
among [] = λ n. false
among (m ∷ more) = λ n. is m n || among more n

abbrev pub but : List Next → Nexts
but tokens = λ n. not (among tokens n)
