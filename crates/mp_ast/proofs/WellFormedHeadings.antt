-- The rules of headings give well-formed ones.
use Rattle.std.proofs.Common.{ℕ, zero, suc, List, [], ◌∷◌, sym, subst}
use Rattle.std.specs.List.{AllByRecursion}
use Rattle.mp_ast.specs.declared.headings.FormalSection.{FormalSection}
use Rattle.mp_ast.specs.declared.headings.HeadingTree.{HeadingTree}
use Rattle.mp_ast.specs.HeadingGrammar.{formals_behind, formals, heading}
use Rattle.mp_ast.specs.PlainHeadings.{formals_of, plain_formal_section}
use Rattle.mp_ast.specs.WellFormed.{IsFormal, AreFormals}
use Rattle.mp_ast.proofs.PlainHeadingLemmas.{plain_formal_section-Values, plain_formal_section-Variables, plain_formal_section-Procedure, plain_formal_section-Function}
use Rattle.mp_ast.proofs.Yielding.{Yields, Any, any, nothing, never, next, past, made, either, row, all_of}

abbrev Good : FormalSection → Type 0
Good f = IsFormal (plain_formal_section f)

formals_are : (l : List FormalSection) → AllByRecursion Good l → AreFormals (formals_of plain_formal_section l)
formals_are [] v = tt
formals_are (f ∷ l) v = (v.0, formals_are l v.1)

formals_yield_with : (room : ℕ) → Yields (AllByRecursion Good) (formals_behind room) → Yields (AllByRecursion Good) (formals room)
formals_yield_with room c =
    past (λ at. next
    (all_of (row {P = Good}
    (either (next (row {P = Any} any) (λ names v. made any (λ of u. subst IsFormal (sym (plain_formal_section-Values names of)) v.0)))
    (either (past (λ at. next (row {P = Any} any) (λ names v. made any (λ of u.
    subst IsFormal (sym (plain_formal_section-Variables at names of)) v.0))))
    (either (past (λ at. past (λ name. next (either c (nothing tt)) (λ own v. nothing (subst IsFormal (sym (plain_formal_section-Procedure at name own)) (formals_are own v))))))
    (past (λ at. past (λ name.
    next (either c (nothing tt)) (λ own v. made any (λ of u. subst IsFormal (sym (plain_formal_section-Function at name own of)) (formals_are own v)))))))))))
    (λ sections v. past (λ end. nothing v)))

behind_yields : (room : ℕ) → Yields (AllByRecursion Good) (formals_behind room)
unfolding formals_behind
behind_yields zero = never
behind_yields (suc room) = formals_yield_with room (behind_yields room)

formals_yield : (room : ℕ) → Yields (AllByRecursion Good) (formals room)
formals_yield room = formals_yield_with room (behind_yields room)

abbrev pub GoodHeading : HeadingTree → Type 0
GoodHeading h = AreFormals (formals_of plain_formal_section h.formals)

pub heading_yields : (room : ℕ) → Yields GoodHeading (heading room)
heading_yields room =
    either
    (past (λ at. past (λ name. next (either (formals_yield room) (nothing tt)) (λ sections v. nothing (formals_are sections v)))))
    (past (λ at. past (λ name. next (either (formals_yield room) (nothing tt)) (λ sections v. past (λ result. nothing (formals_are sections v))))))
