-- The plain form of a formal parameter section is the plain forms of its parts, put together.
use Rattle.std.proofs.Common.{◌≡◌, ℕ, List, [], ◌∷◌, map, refl, sym, ap, ◌∙◌}
use Rattle.mp_ast.specs.declared.leaves.Identifier.{Identifier}
use Rattle.mp_ast.specs.declared.headings.FormalSection.{FormalSection, fold-roll-FormalSection}
use Rattle.mp_ast.specs.declared.headings.FormalSection.TheOpen.{FormalSection-F}
use Rattle.mp_ast.specs.declared.headings.FormalSection.TheVariants as tree
use Rattle.mp_ast.specs.PlainHeadings as plain
use Rattle.mp_ast.specs.PlainHeadings.{PlainFormalSection, formals_of, itself, layer_formal_section, plain_formal_section}

formals_of-map :
    {A B : Type 0} (f : A → B) (g : B → PlainFormalSection) (h : A → B) → ((s : A) → h s ≡ f s) →
    (l : List A) → formals_of g (map h l) ≡ formals_of (λ x. g (f x)) l
formals_of-map f g h each [] = refl
formals_of-map f g h each (s ∷ l) =
    ap (λ t. plain.Formal (g t) (formals_of g (map h l))) (each s) ∙ ap (plain.Formal (g (f s))) (formals_of-map f g h each l)

pub plain_formal_section-Values : (names : List Identifier) (of : Identifier) → plain_formal_section (tree.Values names of) ≡ plain.Values names of
unfolding plain_formal_section
plain_formal_section-Values names of =
    ap plain_formal_section (sym (tree.rolls-Values names of)) ∙ fold-roll-FormalSection PlainFormalSection layer_formal_section (FormalSection-F.Values names of)

pub plain_formal_section-Variables : (at : ℕ) (names : List Identifier) (of : Identifier) → plain_formal_section (tree.Variables at names of) ≡ plain.Variables at names of
unfolding plain_formal_section
plain_formal_section-Variables at names of =
    ap plain_formal_section (sym (tree.rolls-Variables at names of)) ∙ fold-roll-FormalSection PlainFormalSection layer_formal_section (FormalSection-F.Variables at names of)

pub plain_formal_section-Procedure : (at : ℕ) (name : Identifier) (own : List FormalSection) → plain_formal_section (tree.Procedure at name own) ≡
    plain.Procedure at name (formals_of plain_formal_section own)
unfolding plain_formal_section
plain_formal_section-Procedure at name own =
    ap plain_formal_section (sym (tree.rolls-Procedure at name own)) ∙ fold-roll-FormalSection PlainFormalSection layer_formal_section (FormalSection-F.Procedure at name own) ∙
    ap (plain.Procedure at name) (formals_of-map plain_formal_section itself _ (λ _. refl) own)

pub plain_formal_section-Function : (at : ℕ) (name : Identifier) (own : List FormalSection) (result : Identifier) →
    plain_formal_section (tree.Function at name own result) ≡ plain.Function at name (formals_of plain_formal_section own) result
unfolding plain_formal_section
plain_formal_section-Function at name own result =
    ap plain_formal_section (sym (tree.rolls-Function at name own result)) ∙
    fold-roll-FormalSection PlainFormalSection layer_formal_section (FormalSection-F.Function at name own result) ∙
    ap (λ l. plain.Function at name l result) (formals_of-map plain_formal_section itself _ (λ _. refl) own)
