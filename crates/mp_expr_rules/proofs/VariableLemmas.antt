-- Steps from variables to parts of them.
use Rattle.std.proofs.Common.{◌≡◌, Bool, List, Option, None}
use Rattle.mp_tables.specs.declared.types.Typed.{Typed}
use Rattle.mp_tables.specs.declared.errors.RuleError.{RuleError}
use Rattle.mp_tables.specs.PlainTypedExpressions.{PlainTypedSelectors}
use Rattle.mp_tables.specs.Variables.{Step}

-- a step to a component, with the errors so far
abbrev pub component_found : (PlainTypedSelectors → PlainTypedSelectors) → Bool → Option Typed × List RuleError → Step × List RuleError
component_found t guarded p = (record { tree = t; typed = p.0; guarded = guarded; tagging = None }, p.1)

-- equal trees of equal types are equal steps
pub same_component :
    (t u : PlainTypedSelectors → PlainTypedSelectors) (guarded : Bool) (p q : Option Typed × List RuleError) → t ≡ u → p ≡ q →
    component_found t guarded p ≡ component_found u guarded q
same_component t u guarded p q e h = λ i. component_found (e i) guarded (h i)
