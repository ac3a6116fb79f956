-- What the rules of headings read is told by the leaves of the headings that they make.
use Rattle.std.proofs.Common.{ℕ, zero, suc, List, [], ◌∷◌, refl, sym, ap}
use Rattle.std.proofs.lemmas.List.{append-nil}
use Rattle.mp_ast.specs.declared.tokens.TokenKind.TheVariants as kind
use Rattle.mp_ast.specs.declared.words.WordSymbol.TheVariants as w
use Rattle.mp_ast.specs.declared.headings.FormalSection.{FormalSection}
use Rattle.mp_ast.specs.declared.headings.HeadingTree.{HeadingTree}
use Rattle.mp_ast.specs.Rules.{optional}
use Rattle.mp_ast.specs.HeadingGrammar.{result_type, formals_behind, formals, heading}
use Rattle.mp_ast.specs.PlainHeadings.{formals_of, plain_formal_section, plain_heading}
use Rattle.mp_ast.specs.Leaves.{Leaf, Mark, Name}
use Rattle.mp_ast.specs.LeavesOfBlocks.{leaves_of_tag, leaves_of_formal, leaves_of_formals, leaves_of_heading}
use Rattle.mp_ast.proofs.PlainHeadingLemmas.{plain_formal_section-Values, plain_formal_section-Variables, plain_formal_section-Procedure, plain_formal_section-Function}
use Rattle.mp_ast.proofs.LeavesTold.{Tells, done, never, next, last, ends, closed, either, row, silent, mark, opens, identifier_tells, names_tell}

abbrev formal_leaves : FormalSection → List Leaf
formal_leaves x = leaves_of_formal (plain_formal_section x)

abbrev formals_leaves : List FormalSection → List Leaf
formals_leaves xs = leaves_of_formals (formals_of plain_formal_section xs)

abbrev pub heading_leaves : HeadingTree → List Leaf
heading_leaves h = leaves_of_heading (plain_heading h)

result_tells : Tells result_type (λ name. Name name ∷ [])
result_tells = next (silent refl) (λ colon. last identifier_tells (λ name. refl))

optional_result_tells : Tells (optional result_type) leaves_of_tag
optional_result_tells = either (ends result_tells (λ name. refl)) (done refl)

formals_tell_with : (room : ℕ) → Tells (formals_behind room) formals_leaves → Tells (formals room) formals_leaves
formals_tell_with room c =
    next (opens room (silent refl)) (λ at. closed
    (row formals_leaves refl (λ x xs. refl) (silent refl)
    (either (next (names_tell (silent refl)) (λ names. ends result_tells (λ of. ap leaves_of_formal (sym (plain_formal_section-Values names of)))))
    (either
    (next (mark refl) (λ at. next (names_tell (silent refl)) (λ names. ends result_tells (λ of.
    ap leaves_of_formal (sym (plain_formal_section-Variables at names of))))))
    (either
    (next (mark refl) (λ at. next identifier_tells (λ name. ends (either c (done refl)) (λ own.
    ap leaves_of_formal (sym (plain_formal_section-Procedure at name own))))))
    (next (mark refl) (λ at. next identifier_tells (λ name. next {g = formals_leaves} (either c (done refl)) (λ own. ends result_tells (λ result.
    ap leaves_of_formal (sym (plain_formal_section-Function at name own result)))))))))))
    (silent refl) (λ sections. refl))

behind_tells : (room : ℕ) → Tells (formals_behind room) formals_leaves
unfolding formals_behind
behind_tells zero = never
behind_tells (suc room) = formals_tell_with room (behind_tells room)

formals_tell : (room : ℕ) → Tells (formals room) formals_leaves
formals_tell room = formals_tell_with room (behind_tells room)

pub heading_tells : (room : ℕ) → Tells (heading room) heading_leaves
heading_tells room =
    either
    (next (mark refl) (λ at. next identifier_tells (λ name. ends (either (formals_tell room) (done refl)) (λ sections.
    ap (λ l. Mark at (kind.Word w.Procedure) ∷ Name name ∷ l) (sym (append-nil (formals_leaves sections)))))))
    (next (mark refl) (λ at. next identifier_tells (λ name. next {g = formals_leaves} (either (formals_tell room) (done refl)) (λ sections.
    ends optional_result_tells (λ result. refl)))))
