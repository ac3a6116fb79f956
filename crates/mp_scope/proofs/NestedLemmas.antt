-- A block is found in the block around it: the search for it from the program inward ends there.
use Rattle.std.proofs.Common.{◌≡◌, Bool, ◌&&◌, List, [], ◌∷◌, ◌++◌, refl, sym, ap, ◌∙◌, append_assoc, append-nil}
use Rattle.std.specs.List.{starts_with}
use Rattle.mp_base.specs.declared.path.PathStep.{PathStep}
use Rattle.mp_ast.specs.Blocks.{same_step}
use Rattle.mp_tables.specs.declared.tables.Table.{Table}
use Rattle.mp_tables.specs.Seen.{nested_in, nested_at, begins_with}

module _ (tables : List Table) where
  nested_at-last : (around inner : List PathStep) (step : PathStep) → nested_at tables around (inner ++ step ∷ []) ≡ nested_in tables (around ++ inner) step
  nested_at-last around [] step = ap (λ p. nested_in tables p step) (sym (append-nil around))
  nested_at-last around (s ∷ []) step = refl
  nested_at-last around (s ∷ next ∷ inner) step =
      nested_at-last (around ++ s ∷ []) (next ∷ inner) step ∙ ap (λ p. nested_in tables p step) (append_assoc around (s ∷ []) (next ∷ inner))

  pub nested_at-around : (path inner : List PathStep) (step : PathStep) → path ≡ inner ++ step ∷ [] → nested_at tables [] path ≡ nested_in tables inner step
  nested_at-around path inner step e = ap (nested_at tables []) e ∙ nested_at-last [] inner step

pub begins-starts_with :
    (step_eq : PathStep → PathStep → Bool) → ((s t : PathStep) → step_eq s t ≡ same_step s t) →
    (outer path : List PathStep) → starts_with step_eq path outer ≡ begins_with outer path
begins-starts_with step_eq same [] path = refl
begins-starts_with step_eq same (s ∷ outer) [] = refl
begins-starts_with step_eq same (s ∷ outer) (t ∷ path) = (λ i. same s t i && begins-starts_with step_eq same outer path i)
