-- How calls and their parameters are seen by the rules.
use Rattle.std.specs.Prelude.{ℕ, not, ◌||◌, List, Option, Some, None, option_map}
use Rattle.std.specs.List.{AllByRecursion}
use Rattle.mp_tables.specs.declared.typed_expressions.TypedExpr.{TypedExpr}
use Rattle.mp_tables.specs.declared.typed_expressions.TypedActual.{TypedActual}
use Rattle.mp_tables.specs.PlainTypedExpressions.{PlainTypedActuals, plain_typed_expr, with_actual}
use Rattle.mp_tables.specs.Standing.{Types, HeadingStands}
use Rattle.mp_tables.specs.declared.types.TypeId.{TypeId}
use Rattle.mp_tables.specs.declared.types.Typed.{Typed}
use Rattle.mp_tables.specs.Reports.{Rule, pure, ◌>>=◌, ◌>>◌, report_if}
use Rattle.mp_tables.specs.TypeRelations.{assignable, same, unless_missing}
use Rattle.mp_tables.specs.Names as names
use Rattle.mp_tables.specs.Variables as variable
use Rattle.mp_tables.specs.Headings as heading
use Rattle.mp_tables.specs.Calls as call
use Rattle.mp_expr_rules.specs.declared.formals.FormalParameter.{FormalParameter}
use Rattle.mp_expr_rules.specs.declared.judged.Given.{Given}
use Rattle.mp_expr_rules.specs.declared.judged.JudgedWidth.{JudgedWidth}
use Rattle.mp_expr_rules.specs.declared.judged.Judged.{Judged}
use Rattle.mp_expr_rules.specs.Regions.{TypedIfStands}
use Rattle.mp_expr_rules.specs.Judged.{expressed_of}

abbrev pub parameter_of : FormalParameter → heading.FormalParameter
parameter_of p = record { formal = p.formal.now; own = p.own }

abbrev pub given_of : Given → call.Given
given_of g = record { kind = g.kind; callee = g.callee; heading = g.heading }

abbrev pub width_of : JudgedWidth → call.JudgedWidth
width_of w = record { at = w.at; value = expressed_of w.value }

abbrev pub judged_of : Judged → call.Judged
judged_of j = record { first = j.first; value = expressed_of j.value; given = option_map given_of j.given; width = option_map width_of j.width }

-- an actual parameter before these, where there is one
abbrev pub added : PlainTypedActuals → Option (TypedActual TypedExpr) → PlainTypedActuals
added more None = more
added more (Some a) = with_actual plain_typed_expr a more

-- an actual parameter without a width
abbrev pub actual_of : ℕ → variable.Expressed → Option call.Given → call.Judged
actual_of first value given = record { first = first; value = value; given = given; width = None }

-- the type of a value parameter, for which a value of this type is checked
abbrev pub value_check : Option TypeId → ℕ → Option Typed → Rule (Option Typed)
value_check of first value = do
  t ← names.typed_if of
  report_if (not (unless_missing assignable value t)) 334 first
  pure t

-- what is checked of a variable that is passed
abbrev pub variable_checks : names.Region → Option TypeId → ℕ → variable.Accessed → Rule (Unit {0})
variable_checks r of first a = do
  threatened ← variable.threat r first a.entire
  report_if (not (threatened || unless_missing same (call.has_identity a.typed) of)) 342 first
  report_if a.guarded 343 first

-- ---- what stands

abbrev pub GivenIfStands : Types → Option Given → Type 0
GivenIfStands types None = Unit {0}
GivenIfStands types (Some g) = HeadingStands types g.heading

-- the types of the values
abbrev pub JudgedStands : Types → Judged → Type 0
JudgedStands types j = TypedIfStands types (expressed_of j.value).typed

abbrev pub AllJudgedStand : Types → List Judged → Type 0
AllJudgedStand types js = AllByRecursion (JudgedStands types) js
