-- Runs of programs with parameters of each kind (ISO 7185, 6.6.3), worked out by hand, and a run step by step.
use Rattle.std.specs.Prelude.{◌≡◌, ℕ, List, [], ◌∷◌, ◌++◌, Some, codes}
use Rattle.mp_base.specs.declared.place.Place.{Place}
use Rattle.mp_tables.specs.declared.typed_expressions.Callee.TheVariants as callee
use Rattle.mp_tables.specs.declared.typed_expressions.TypedOperator.TheVariants as operator
use Rattle.mp_tables.specs.declared.typed_expressions.Comparison.TheVariants as relation
use Rattle.mp_tables.specs.PlainTypedExpressions.{PlainTypedActuals, PlainTypedExpr}
use Rattle.mp_tables.specs.PlainTypedExpressions as expr
use Rattle.mp_tables.specs.PlainTypedStatements.{PlainTypedStatement}
use Rattle.mp_tables.specs.PlainTypedStatements as tree
use Rattle.mp_meaning.specs.Names.{Path}
use Rattle.mp_meaning.specs.Programs.{Program}
use Rattle.mp_meaning.specs.Steps.{at_step, Standing, Stands, chain}
use Rattle.mp_meaning.specs.ExampleTrees.{variable, value_parameter, variable_parameter, procedural_parameter, result, located, own, through, result_of, number, load, two, compare, integers, assign, integer_of_width, text_of, write, writeln, ◌then◌, last, block, inside, of_blocks, ended, call, apply, with_values, with_variables}

abbrev a : List ℕ
a = codes "a"

abbrev i : List ℕ
i = codes "i"

abbrev n : List ℕ
n = codes "n"

abbrev q : List ℕ
q = codes "q"

abbrev shown : PlainTypedExpr → PlainTypedStatement
shown e = writeln 1 (integer_of_width e (Some (number 1)) ∷ [])

-- where the activations are, innermost first
abbrev places : Standing → List Place
places (Stands c) = chain c
places _ = []

abbrev in_p : ℕ → Place
in_p at = record { path = []; ordinal = at }

-- ---- program p(output); var i: integer; procedure q(n: integer); begin n := n + 1 end;
-- begin i := 1; q(i); write(i: 1) end.

abbrev taking : Path
taking = inside [] q

abbrev by_value : Program
by_value = of_blocks (
    block [] (variable i ∷ []) 20 (
    assign 21 (own i 0 0) (number 1) then
    call 25 taking (with_values (load (own i 0 0) ∷ [])) then
    last (write 30 (integer_of_width (load (own i 0 0)) (Some (number 1)) ∷ []))) ∷
    block taking (value_parameter n ∷ []) 0 (last (assign 1 (own n 1 0) (two (load (own n 1 0)) operator.Add (number 1)))) ∷ [])

-- the same with `var n: integer`
abbrev by_variable : Program
by_variable = of_blocks (
    block [] (variable i ∷ []) 21 (
    assign 22 (own i 0 0) (number 1) then
    call 26 taking (with_variables (own i 0 0 ∷ [])) then
    last (write 31 (integer_of_width (load (own i 0 0)) (Some (number 1)) ∷ []))) ∷
    block taking (variable_parameter n ∷ []) 0
    (last (assign 1 (through n 1 0) (two (load (through n 1 0)) operator.Add (number 1)))) ∷ [])

-- a value parameter is a variable of its own, and a variable parameter is that of the caller
abbrev pub ParameterKindsExample : Type 0
ParameterKindsExample = (at_step by_value [] 9 ≡ ended 6 (codes "1")) × (at_step by_variable [] 9 ≡ ended 6 (codes "2"))

-- ---- program p(output); procedure z; begin end;
-- procedure a(n: integer; procedure q); procedure r; begin writeln(n: 1) end;
-- begin if n = 3 then q else if n = 1 then a(2, r) else a(n + 1, q) end;
-- begin a(1, z) end.

abbrev nothing : Path
nothing = inside [] (codes "z")

abbrev calling : Path
calling = inside [] a

abbrev within : Path
within = inside calling (codes "r")

-- the number and a procedure, which may be the parameter itself
abbrev with_block : PlainTypedExpr → (depth : ℕ) → Path → PlainTypedActuals
with_block e depth path = expr.Value e integers (expr.Routine (callee.Block depth path) expr.NoActuals)

abbrev with_parameter : PlainTypedExpr → PlainTypedActuals
with_parameter e = expr.Value e integers (expr.Routine (callee.Parameter (located q 1 1)) expr.NoActuals)

abbrev call_parameter : ℕ → PlainTypedStatement
call_parameter at = tree.Call at (record { callee = callee.Parameter (located q 1 1); actuals = expr.NoActuals })

abbrev n_is : ℕ → PlainTypedExpr
n_is k = compare (load (own n 1 0)) relation.Equal (number k)

abbrev handed_on : Program
handed_on = of_blocks (
    block [] [] 22 (last (call 23 calling (with_block (number 1) 0 nothing))) ∷
    block nothing [] 0 (last (tree.Empty 1)) ∷
    block calling (value_parameter n ∷ procedural_parameter q ∷ []) 4 (
    last (tree.IfElse 5 (n_is 3) (call_parameter 10)
    (tree.IfElse 12 (n_is 1) (call 17 calling (with_block (number 2) 1 within))
    (call 24 calling (with_parameter (two (load (own n 1 0)) operator.Add (number 1))))))) ∷
    block within [] 0 (last (shown (load (own n 1 0)))) ∷ [])

-- a procedural parameter keeps its static parent, which is the first activation of `a`
abbrev pub HandedOnExample : Type 0
HandedOnExample = at_step handed_on [] 20 ≡ ended 15 (codes "1" ++ 10 ∷ [])

-- ---- program p(output); procedure z; begin end;
-- procedure a(n: integer; procedure q); label 9; procedure g; begin goto 9 end;
-- begin if n = 1 then a(2, g) else q; write('n'); 9: writeln(n: 1) end;
-- begin a(1, z) end.

abbrev leaving : Path
leaving = inside calling (codes "g")

abbrev jumps_far : Program
jumps_far = of_blocks (
    block [] [] 22 (last (call 23 calling (with_block (number 1) 0 nothing))) ∷
    block nothing [] 0 (last (tree.Empty 1)) ∷
    block calling (value_parameter n ∷ procedural_parameter q ∷ []) 7 (
    tree.IfElse 8 (n_is 1) (call 13 calling (with_block (number 2) 1 leaving)) (call_parameter 20) then
    write 22 (text_of (codes "n") 1 ∷ []) then
    last (tree.Labelled 9 (shown (load (own n 1 0))))) ∷
    block leaving [] 0 (last (tree.Goto 1 1 9)) ∷ [])

-- its goto leads into that activation, and ends the newer ones
abbrev pub JumpsFarExample : Type 0
JumpsFarExample =
    (places (at_step jumps_far [] 11) ≡ record { path = calling; ordinal = 1 } ∷ in_p 23 ∷ []) ×
    (at_step jumps_far [] 20 ≡ ended 11 (codes "1" ++ 10 ∷ []))

-- ---- program p(output); var a: integer; function f(n: integer): integer;
-- begin if n < 2 then f := 1 else f := n * f(n - 1) end;
-- begin a := f(2); writeln(a: 1) end.

abbrev f : List ℕ
f = codes "f"

abbrev factorial : Path
factorial = inside [] f

abbrev told : Program
told = of_blocks (
    block [] (variable a ∷ []) 22 (
    assign 23 (own a 0 0) (apply factorial (with_values (number 2 ∷ []))) then
    last (writeln 30 (integer_of_width (load (own a 0 0)) (Some (number 1)) ∷ []))) ∷
    block factorial (value_parameter n ∷ result f ∷ []) 0 (
    last (tree.IfElse 1 (compare (load (own n 1 0)) relation.Less (number 2))
    (assign 6 (result_of f 1 1) (number 1))
    (assign 10 (result_of f 1 1) (two (load (own n 1 0)) operator.Multiply
    (apply factorial (with_values (two (load (own n 1 0)) operator.Subtract (number 1) ∷ []))))))) ∷ [])

abbrev in_f : ℕ → Place
in_f at = record { path = factorial; ordinal = at }

-- the run that docs/MEANING.md tells step by step
abbrev pub ToldExample : Type 0
ToldExample =
    (places (at_step told [] 1) ≡ in_p 22 ∷ []) ×
    (places (at_step told [] 2) ≡ in_p 23 ∷ []) ×
    (places (at_step told [] 3) ≡ in_f 0 ∷ in_p 23 ∷ []) ×
    (places (at_step told [] 4) ≡ in_f 1 ∷ in_p 23 ∷ []) ×
    (places (at_step told [] 5) ≡ in_f 10 ∷ in_p 23 ∷ []) ×
    (places (at_step told [] 6) ≡ in_f 0 ∷ in_f 10 ∷ in_p 23 ∷ []) ×
    (places (at_step told [] 7) ≡ in_f 1 ∷ in_f 10 ∷ in_p 23 ∷ []) ×
    (places (at_step told [] 8) ≡ in_f 6 ∷ in_f 10 ∷ in_p 23 ∷ []) ×
    (places (at_step told [] 9) ≡ in_p 30 ∷ []) ×
    (at_step told [] 10 ≡ ended 9 (codes "2" ++ 10 ∷ []))
