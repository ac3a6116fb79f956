-- Runs of small programs with text files (ISO 7185, 6.6.5.2, 6.6.6.5, 6.9), worked out by hand.
use Rattle.std.specs.Prelude.{◌≡◌, ℕ, false, true, List, [], ◌∷◌, ◌++◌, None, codes, pos}
use Rattle.mp_tables.specs.declared.types.TypeId.{TypeId}
use Rattle.mp_tables.specs.declared.types.TypeId.TheVariants as type
use Rattle.mp_tables.specs.declared.typed_expressions.Check.TheVariants as check
use Rattle.mp_tables.specs.declared.typed_expressions.Root.TheVariants as root
use Rattle.mp_tables.specs.declared.typed_statements.FileProcedure.TheVariants as procedure
use Rattle.mp_tables.specs.declared.typed_statements.FrameKind.TheVariants as kind
use Rattle.mp_tables.specs.declared.typed_statements.ReadSort.TheVariants as reads
use Rattle.mp_tables.specs.PlainTypedExpressions as expr
use Rattle.mp_tables.specs.PlainTypedStatements.{PlainTypedStatement}
use Rattle.mp_tables.specs.PlainTypedStatements as tree
use Rattle.mp_meaning.specs.Forms.{Form, OneCell, FileForm}
use Rattle.mp_meaning.specs.Programs.{Program}
use Rattle.mp_meaning.specs.Steps.{at_step}
use Rattle.mp_meaning.specs.ExampleTrees.{slot, variable, own, input, output, file, buffer, load, assign_character, character, text_of, write, writeln, ◌then◌, last, block, of_blocks, of_types, ended, faulted}

-- ---- program p(input, output); var c: char;
-- begin while not eoln do begin read(c); write(c) end; readln; writeln end.

abbrev c : List ℕ
c = codes "c"

abbrev read_c : ℕ → PlainTypedStatement
read_c at = tree.Required at (tree.Read false input (record {
  of = reads.Char;
  target = record { access = own c 0 0; check = check.Range (pos 0) (pos 255); tagging = None };
} ∷ []))

abbrev pub copies_a_line : Program
copies_a_line = of_blocks (block [] (variable c ∷ []) 13 (
    tree.While 14 (expr.Not (expr.Eoln root.Input expr.NoSelectors)) (tree.Compound 18 (
    read_c 19 then
    last (write 24 (character (load (own c 0 0)) ∷ [])))) then
    tree.Required 30 (tree.Read true input []) then
    last (writeln 32 [])) ∷ [])

-- a line is copied; a file without a line has no `eoln`, which is fault 11
abbrev pub CopyExample : Type 0
CopyExample =
    (at_step copies_a_line (codes "ab" ++ 10 ∷ []) 20 ≡ ended 10 (codes "ab" ++ 10 ∷ [])) ×
    (at_step copies_a_line [] 20 ≡ faulted 11 14 2 [])

-- ---- program p(input, output); begin while not eof do get(input); write('e') end.

abbrev pub to_the_end : Program
to_the_end = of_blocks (block [] [] 8 (
    tree.While 9 (expr.Not (expr.Eof root.Input expr.NoSelectors)) (tree.Required 13 (tree.File procedure.Get input)) then
    last (write 18 (text_of (codes "e") 1 ∷ []))) ∷ [])

-- two items: a character and a line end
abbrev pub EofExample : Type 0
EofExample = at_step to_the_end (codes "a" ++ 10 ∷ []) 20 ≡ ended 5 (codes "e")

-- ---- program p(f, output); var f: text;
-- begin rewrite(f); f^ := 'x'; put(f); write(f, 'y'); reset(f); get(f); write(f^) end.

abbrev f : List ℕ
f = codes "f"

abbrev text_form : TypeId → Form
text_form type.Text = FileForm
text_form id = OneCell

abbrev pub own_file : Program
own_file = of_types text_form (block [] (record (slot f kind.Variable type.Text) { cells = 2 } ∷ []) 13 (
    tree.Required 14 (tree.File procedure.Rewrite (file f 0)) then
    assign_character 19 (buffer f 0) 120 then
    tree.Required 24 (tree.File procedure.Put (file f 0)) then
    tree.Required 29 (tree.Write false (file f 0) (text_of (codes "y") 1 ∷ [])) then
    tree.Required 36 (tree.File procedure.Reset (file f 0)) then
    tree.Required 41 (tree.File procedure.Get (file f 0)) then
    last (write 46 (character (load (buffer f 0)) ∷ []))) ∷ [])

abbrev pub OwnFileExample : Type 0
OwnFileExample = at_step own_file [] 20 ≡ ended 8 (codes "y")

-- ---- program p(output); begin write('a'); page(output) end.

abbrev pub pages : Program
pages = of_blocks (block [] [] 6 (
    write 7 (text_of (codes "a") 1 ∷ []) then
    last (tree.Required 12 (tree.File procedure.Page output))) ∷ [])

-- the unfinished line is ended before byte 12
abbrev pub PageExample : Type 0
PageExample = at_step pages [] 20 ≡ ended 3 (codes "a" ++ 10 ∷ 12 ∷ [])

-- ---- program p(output); begin rewrite(output); write('a'); reset(output); write('b') end.

abbrev pub standard_file : Program
standard_file = of_blocks (block [] [] 6 (
    tree.Required 7 (tree.File procedure.Rewrite output) then
    write 12 (text_of (codes "a") 1 ∷ []) then
    tree.Required 17 (tree.File procedure.Reset output) then
    last (write 22 (text_of (codes "b") 1 ∷ []))) ∷ [])

-- `reset` and `rewrite` have no effect on the standard files
abbrev pub StandardFileExample : Type 0
StandardFileExample = at_step standard_file [] 20 ≡ ended 5 (codes "ab")
