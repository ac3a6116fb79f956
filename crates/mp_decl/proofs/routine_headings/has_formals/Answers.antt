use Rattle.std.proofs.Common.{◌≡◌, ◌==◌, true, false, List, [], ◌∷◌, length, refl, sym, ◌∙◌}
use Rattle.mp_ast.specs.declared.headings.FormalSection.{FormalSection}
use Rattle.mp_ast.specs.PlainHeadings.{formals_of, plain_formal_section}
use Rattle.mp_tables.specs.Elaboration as rule
use Rattle.mp_decl.proofs.routine_headings.has_formals.Goals as goal

pub returns : goal.returns
returns c = by c.args.formals.now (sym c.is_empty.ensures ∙ c.if-is_empty.false)
  where
    by : (l : List FormalSection) → (length l == 0) ≡ false → true ≡ rule.has_formals (formals_of plain_formal_section l)
    by [] h = let f : true ≡ false = h in absurd (cc)
    by (f ∷ l) h = refl
