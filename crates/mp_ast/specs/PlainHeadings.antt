-- Headings of procedures and functions as plain data (ISO 7185, 6.6): the syntax trees without the memory that they
-- stand in.
use Rattle.std.specs.Prelude.{ℕ, List, [], ◌∷◌}
use Rattle.mp_ast.specs.declared.leaves.Identifier.{Identifier}
use Rattle.mp_ast.specs.declared.headings.FormalSection.{FormalSection, fold-FormalSection}
use Rattle.mp_ast.specs.declared.headings.FormalSection.TheOpen.{FormalSection-F}
use Rattle.mp_ast.specs.declared.headings.HeadingKind.{HeadingKind}
use Rattle.mp_ast.specs.declared.headings.HeadingTree.{HeadingTree}

-- The variants and ordinals are those of `FormalSection`.
mutual
  pub data PlainFormalSection : Type 0 where
    Values : (names : List Identifier) → (of : Identifier) → PlainFormalSection
    Variables : (at : ℕ) → (names : List Identifier) → (of : Identifier) → PlainFormalSection
    Procedure : (at : ℕ) → (name : Identifier) → PlainFormals → PlainFormalSection
    Function : (at : ℕ) → (name : Identifier) → PlainFormals → (result : Identifier) → PlainFormalSection

  -- formal parameter sections, in order
  pub data PlainFormals : Type 0 where
    NoFormals : PlainFormals
    Formal : PlainFormalSection → (more : PlainFormals) → PlainFormals

-- the heading of a procedure or function declaration
pub record PlainHeading : Type 0 where
  pub at : ℕ
  pub name : Identifier
  pub formals : PlainFormals
  pub kind : HeadingKind

-- ---- from the trees to plain data

-- Sections, where `plain` says what each becomes.
abbrev pub formals_of : {F : Type 0} → (F → PlainFormalSection) → List F → PlainFormals
formals_of plain [] = NoFormals
formals_of plain (f ∷ more) = Formal (plain f) (formals_of plain more)

abbrev pub itself : PlainFormalSection → PlainFormalSection
itself f = f

-- one node, whose parts are plain
abbrev pub layer_formal_section : FormalSection-F PlainFormalSection → PlainFormalSection
layer_formal_section (FormalSection-F.Values names of) = Values names of
layer_formal_section (FormalSection-F.Variables at names of) = Variables at names of
layer_formal_section (FormalSection-F.Procedure at name own) = Procedure at name (formals_of itself own)
layer_formal_section (FormalSection-F.Function at name own result) = Function at name (formals_of itself own) result

unfoldable pub plain_formal_section : FormalSection → PlainFormalSection
plain_formal_section t = fold-FormalSection PlainFormalSection layer_formal_section t

abbrev pub plain_heading : HeadingTree → PlainHeading
plain_heading h = record { at = h.at; name = h.name; formals = formals_of plain_formal_section h.formals; kind = h.kind }
