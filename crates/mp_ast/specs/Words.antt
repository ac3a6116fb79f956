-- How the 35 word-symbols are written (ISO 7185, 6.1.2).
use Rattle.std.specs.Prelude.{ℕ, List, codes}
use Rattle.mp_ast.specs.declared.words.WordSymbol.{WordSymbol}
use Rattle.mp_ast.specs.declared.words.WordSymbol.TheVariants.{And, Array, Begin, Case, Const, Div, Do, Downto, Else, End}
use Rattle.mp_ast.specs.declared.words.WordSymbol.TheVariants.{File, For, Function, Goto, If, In, Label, Mod, Nil, Not, Of, Or}
use Rattle.mp_ast.specs.declared.words.WordSymbol.TheVariants.{Packed, Procedure, Program, Record, Repeat, Set, Then, To}
use Rattle.mp_ast.specs.declared.words.WordSymbol.TheVariants.{«Type», Until, Var, While, With}

-- the letters of a word-symbol, in lower case
abbrev pub spelling : WordSymbol → List ℕ
spelling And = codes "and"
spelling Array = codes "array"
spelling Begin = codes "begin"
spelling Case = codes "case"
spelling Const = codes "const"
spelling Div = codes "div"
spelling Do = codes "do"
spelling Downto = codes "downto"
spelling Else = codes "else"
spelling End = codes "end"
spelling File = codes "file"
spelling For = codes "for"
spelling Function = codes "function"
spelling Goto = codes "goto"
spelling If = codes "if"
spelling In = codes "in"
spelling Label = codes "label"
spelling Mod = codes "mod"
spelling Nil = codes "nil"
spelling Not = codes "not"
spelling Of = codes "of"
spelling Or = codes "or"
spelling Packed = codes "packed"
spelling Procedure = codes "procedure"
spelling Program = codes "program"
spelling Record = codes "record"
spelling Repeat = codes "repeat"
spelling Set = codes "set"
spelling Then = codes "then"
spelling To = codes "to"
spelling «Type» = codes "type"
spelling Until = codes "until"
spelling Var = codes "var"
spelling While = codes "while"
spelling With = codes "with"
