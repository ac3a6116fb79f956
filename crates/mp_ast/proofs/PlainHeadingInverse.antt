-- Nothing of a heading is lost in its plain form: it can be made again from that. By induction over formal sections.
use Rattle.std.proofs.Common.{◌≡◌, List, [], ◌∷◌, map, refl, sym, ap, ◌∙◌, subst}
use Rattle.std.proofs.lemmas.List.{map-id}
use Rattle.mp_ast.specs.declared.headings.FormalSection.{FormalSection, roll-FormalSection, map-FormalSection, ind-FormalSection}
use Rattle.mp_ast.specs.declared.headings.FormalSection.TheOpen.{FormalSection-F}
use Rattle.mp_ast.specs.declared.headings.FormalSection.TheVariants as tree
use Rattle.mp_ast.specs.declared.headings.HeadingTree.{HeadingTree}
use Rattle.mp_ast.specs.PlainHeadings as plain
use Rattle.mp_ast.specs.PlainHeadings.{PlainFormalSection, PlainFormals, PlainHeading, formals_of, plain_formal_section, plain_heading}
use Rattle.mp_ast.proofs.PlainHeadingLemmas.{plain_formal_section-Values, plain_formal_section-Variables, plain_formal_section-Procedure, plain_formal_section-Function}

-- ---- from plain data to the trees

abbrev mutual
  pub formal_section_of : PlainFormalSection → FormalSection
  formal_section_of (plain.Values names of) = tree.Values names of
  formal_section_of (plain.Variables at names of) = tree.Variables at names of
  formal_section_of (plain.Procedure at name own) = tree.Procedure at name (formal_list own)
  formal_section_of (plain.Function at name own result) = tree.Function at name (formal_list own) result

  pub formal_list : PlainFormals → List FormalSection
  formal_list plain.NoFormals = []
  formal_list (plain.Formal f more) = formal_section_of f ∷ formal_list more

-- a section is made again from its plain form
abbrev pub IsTold : FormalSection → Type 0
IsTold f = formal_section_of (plain_formal_section f) ≡ f

formals-told :
    {X : Type 0} (value : X → FormalSection) (told : (x : X) → IsTold (value x)) (h : X → FormalSection) → ((x : X) → h x ≡ value x) →
    (l : List X) → formal_list (formals_of plain_formal_section (map h l)) ≡ map h l
formals-told value told h each [] = refl
formals-told value told h each (x ∷ l) =
    subst (λ f. formal_section_of (plain_formal_section f) ∷ formal_list (formals_of plain_formal_section (map h l)) ≡ f ∷ map h l) (sym (each x))
    (ap (λ f. f ∷ formal_list (formals_of plain_formal_section (map h l))) (told x) ∙ ap (λ r. value x ∷ r) (formals-told value told h each l))

-- ---- sections, by induction

-- a section that is told
abbrev Told : Type 0
Told = (f : FormalSection) × IsTold f

abbrev untold : Told → FormalSection
untold f = f.0

abbrev told : (f : Told) → IsTold (untold f)
told f = f.1

-- what is a variant that is told
at_variant : (f t : FormalSection) (p : PlainFormalSection) → f ≡ t → plain_formal_section t ≡ p → formal_section_of p ≡ t → IsTold f
at_variant f t p r e b = ap (λ x. formal_section_of (plain_formal_section x)) r ∙ ap formal_section_of e ∙ b ∙ sym r

node_told : (y : FormalSection-F Told) → IsTold (roll-FormalSection (map-FormalSection Told FormalSection untold y))
node_told (FormalSection-F.Values names of) = at_variant _ _ _ (tree.rolls-Values names of) (plain_formal_section-Values names of) refl
node_told (FormalSection-F.Variables at names of) = at_variant _ _ _ (tree.rolls-Variables at names of) (plain_formal_section-Variables at names of) refl
node_told (FormalSection-F.Procedure at name own) =
    at_variant _ _ _ (tree.rolls-Procedure at name _) (plain_formal_section-Procedure at name _) (ap (tree.Procedure at name) (formals-told untold told _ (λ _. refl) own))
node_told (FormalSection-F.Function at name own result) =
    at_variant _ _ _ (tree.rolls-Function at name _ result) (plain_formal_section-Function at name _ result)
    (ap (λ l. tree.Function at name l result) (formals-told untold told _ (λ _. refl) own))

pub formal_section_told : (f : FormalSection) → IsTold f
formal_section_told = ind-FormalSection IsTold (λ x y is. subst (λ z. IsTold (roll-FormalSection z)) is (node_told y))

pub plain_formal_section-injective : (s t : FormalSection) → plain_formal_section s ≡ plain_formal_section t → s ≡ t
plain_formal_section-injective s t e = sym (formal_section_told s) ∙ ap formal_section_of e ∙ formal_section_told t

-- ---- headings

abbrev pub heading_of : PlainHeading → HeadingTree
heading_of h = record { at = h.at; name = h.name; formals = formal_list h.formals; kind = h.kind }

abbrev heading_with : HeadingTree → List FormalSection → HeadingTree
heading_with h formals = record { at = h.at; name = h.name; formals = formals; kind = h.kind }

pub heading_told : (h : HeadingTree) → heading_of (plain_heading h) ≡ h
heading_told h =
    ap (heading_with h)
    (subst (λ k. formal_list (formals_of plain_formal_section k) ≡ k) (map-id h.formals)
    (formals-told (λ f. f) formal_section_told (λ f. f) (λ _. refl) h.formals))
