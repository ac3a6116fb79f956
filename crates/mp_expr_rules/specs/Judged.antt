-- How what the code finds is seen by the rules.
use Rattle.std.specs.Prelude.{Option, Some, None, option_map}
use Rattle.mp_tables.specs.declared.typed_expressions.TypedExpr.{TypedExpr}
use Rattle.mp_tables.specs.declared.typed_expressions.TypedSelector.{TypedSelector}
use Rattle.mp_tables.specs.PlainTypedExpressions.{PlainTypedExpr, PlainTypedSelectors, plain_typed_expr, plain_typed_access, selectors_of, with_selector}
use Rattle.mp_tables.specs.Variables as variable
use Rattle.mp_tables.specs.Operators as operator
use Rattle.mp_tables.specs.declared.types.ArrayShape.{ArrayShape}
use Rattle.mp_tables.specs.Standing.{Types}
use Rattle.mp_tables.specs.Reports.{Rule, pure, ◌>>=◌}
use Rattle.mp_tables.specs.Names.{typed_if}
use Rattle.mp_expr_rules.specs.Regions.{TypedIfStands}
use Rattle.mp_expr_rules.specs.declared.judged.Entire.{Entire}
use Rattle.mp_expr_rules.specs.declared.judged.Accessed.{Accessed}
use Rattle.mp_expr_rules.specs.declared.judged.Value.{Value}
use Rattle.mp_expr_rules.specs.declared.judged.Expressed.{Expressed}
use Rattle.mp_expr_rules.specs.declared.judged.Expressed.TheVariants as expressed
use Rattle.mp_expr_rules.specs.declared.judged.Operand.{Operand}
use Rattle.mp_expr_rules.specs.declared.judged.Operated.{Operated}
use Rattle.mp_expr_rules.specs.declared.judged.Resulting.{Resulting}
use Rattle.mp_expr_rules.specs.declared.judged.Step.{Step}
use Rattle.mp_expr_rules.specs.declared.judged.Selected.{Selected}

abbrev pub entire_of : Entire → variable.Entire
entire_of e = record { name = e.name; path = e.path; control = e.control }

abbrev pub accessed_of : Accessed → variable.Accessed
accessed_of a =
    record {
      access = plain_typed_access a.access;
      typed = a.typed;
      guarded = a.guarded;
      tagging = a.tagging;
      entire = option_map entire_of a.entire;
    }

abbrev pub value_of : Value → variable.Expressed
value_of v = record { typed = v.typed; node = plain_typed_expr v.node; variable = variable.NoVariable; constant = v.constant }

abbrev pub expressed_of : Expressed → variable.Expressed
expressed_of (expressed.Value v) = value_of v
expressed_of expressed.Unknown = variable.unknown
expressed_of (expressed.Variable a) = variable.loaded (accessed_of a)

-- the type and the tree of an expression
abbrev pub operand_of : Operand → variable.Expressed
operand_of x = variable.computed x.typed (plain_typed_expr x.node)

abbrev pub operated_of : Operated → operator.Operated
operated_of o = record { operator = o.operator; result = o.result }

abbrev pub resulting_of : Resulting → operator.Result
resulting_of r = record { typed = r.typed; operator = r.operator }

-- how the steps so far go on
abbrev pub with_step : Option (TypedSelector TypedExpr) → PlainTypedSelectors → PlainTypedSelectors
with_step None more = more
with_step (Some s) more = with_selector plain_typed_expr s more

abbrev pub step_of : Step → variable.Step
step_of s = record { tree = λ more. with_step s.selector more; typed = s.typed; guarded = s.guarded; tagging = s.tagging }

abbrev pub selected_of : Selected → variable.Selected
selected_of s = record { selectors = selectors_of plain_typed_expr s.selectors; typed = s.typed; guarded = s.guarded; tagging = s.tagging }

-- the step to a component, by the tree of its index
abbrev pub component_step : ArrayShape → PlainTypedExpr → Rule variable.Step
component_step a x = typed_if a.component >>= (λ t. pure (record { tree = variable.index_node x a.index a.size; typed = t; guarded = a.packed; tagging = None }))

-- ---- what stands

abbrev pub AccessedIfStands : Types → Option Accessed → Type 0
AccessedIfStands types None = Unit {0}
AccessedIfStands types (Some a) = TypedIfStands types a.typed
