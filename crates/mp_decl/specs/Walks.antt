-- What a walk over statements keeps.
use Rattle.std.specs.Prelude.{◌≡◌, ℕ, List, [], ◌∷◌, ◌++◌, filter_map}
use Rattle.mp_ast.specs.declared.expressions.Expr.{Expr}
use Rattle.mp_ast.specs.declared.expressions.Access.{Access}
use Rattle.mp_ast.specs.declared.expressions.Selector.{Selector}
use Rattle.mp_ast.specs.PlainStatements.{PlainStatement, PlainStatements}
use Rattle.mp_tables.specs.StatementWalks.{controlled_by, assigned_by, prefix_of, controls_in, assigned_in, prefixes_in}
use Rattle.mp_decl.specs.declared.walks.Walked.{Walked}

-- the name of a variable, where it is bare
abbrev pub bare_names : Access Expr → List (List ℕ)
bare_names a = by_selectors a.selectors
  where
    by_selectors : List (Selector Expr) → List (List ℕ)
    by_selectors [] = a.name.name ∷ []
    by_selectors (s ∷ more) = []

-- what these statements set, and the labels before them, stand behind what was kept
pub record Walks (before : Walked) (statements : List PlainStatement) (after : Walked) : Type 0 where
  pub controls : after.controls ≡ before.controls ++ filter_map controlled_by statements
  pub assigned : after.assigned ≡ before.assigned ++ filter_map assigned_by statements
  pub prefixes : after.prefixes ≡ before.prefixes ++ filter_map prefix_of statements

-- what a statement part sets, and the labels before its statements
pub record WalksAll (statements : PlainStatements) (walked : Walked) : Type 0 where
  pub controls : walked.controls ≡ controls_in statements
  pub assigned : walked.assigned ≡ assigned_in statements
  pub prefixes : walked.prefixes ≡ prefixes_in statements
