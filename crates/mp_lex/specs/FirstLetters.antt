-- No statement cites this: the word-symbols by their first letters, for the code, which looks at no others.
use Rattle.std.specs.Prelude.{ℕ, ◌==◌, List, [], ◌∷◌, if◌then◌else◌}
use Rattle.mp_ast.specs.declared.words.WordSymbol.{WordSymbol}
use Rattle.mp_ast.specs.declared.words.WordSymbol.TheVariants.{And, Array, Begin, Case, Const, Div, Do, Downto, Else, End, File, For, Function, Goto, If, In, Label, Mod}
use Rattle.mp_ast.specs.declared.words.WordSymbol.TheVariants.{Nil, Not, Of, Or, Packed, Procedure, Program, Record, Repeat, Set, Then, To, «Type», Until, Var, While, With}

-- each letter that begins a word-symbol, in lower case, with the word-symbols that it begins
abbrev pub first_letters : List (ℕ × List WordSymbol)
first_letters =
    (97, And ∷ Array ∷ []) ∷
    (98, Begin ∷ []) ∷
    (99, Case ∷ Const ∷ []) ∷
    (100, Div ∷ Do ∷ Downto ∷ []) ∷
    (101, Else ∷ End ∷ []) ∷
    (102, File ∷ For ∷ Function ∷ []) ∷
    (103, Goto ∷ []) ∷
    (105, If ∷ In ∷ []) ∷
    (108, Label ∷ []) ∷
    (109, Mod ∷ []) ∷
    (110, Nil ∷ Not ∷ []) ∷
    (111, Of ∷ Or ∷ []) ∷
    (112, Packed ∷ Procedure ∷ Program ∷ []) ∷
    (114, Record ∷ Repeat ∷ []) ∷
    (115, Set ∷ []) ∷
    (116, Then ∷ To ∷ «Type» ∷ []) ∷
    (117, Until ∷ []) ∷
    (118, Var ∷ []) ∷
    (119, While ∷ With ∷ []) ∷
    []

-- what these rows give to a letter
abbrev pub words_in : List (ℕ × List WordSymbol) → ℕ → List WordSymbol
words_in [] letter = []
words_in (row ∷ rows) letter = if letter == row.0 then row.1 else words_in rows letter

-- the word-symbols whose spelling begins with this letter
unfoldable pub words_beginning : ℕ → List WordSymbol
words_beginning letter = words_in first_letters letter
