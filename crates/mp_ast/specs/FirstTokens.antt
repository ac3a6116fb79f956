-- The first token of each part of a tree, by its ordinal: the leftmost token of what the part is written as.
use Rattle.std.specs.Prelude.{ℕ, Some, None}
use Rattle.mp_ast.specs.declared.leaves.Constant.{Constant}
use Rattle.mp_ast.specs.declared.leaves.Constant.TheVariants as constant
use Rattle.mp_ast.specs.PlainExpressions as expr
use Rattle.mp_ast.specs.PlainExpressions.{PlainExpr, PlainAccess}
use Rattle.mp_ast.specs.PlainStatements as statement
use Rattle.mp_ast.specs.PlainStatements.{PlainStatement}
use Rattle.mp_ast.specs.PlainTypes as denoter
use Rattle.mp_ast.specs.PlainTypes.{PlainDenoter}

-- a constant begins with its sign, where it has one
abbrev pub first_of_constant : Constant → ℕ
first_of_constant (constant.Number None n) = n.at
first_of_constant (constant.Number (Some sign) n) = sign.at
first_of_constant (constant.Name None name) = name.at
first_of_constant (constant.Name (Some sign) name) = sign.at
first_of_constant (constant.Text s) = s.at

-- the steps to a part stand behind the name
abbrev pub first_of_access : PlainAccess → ℕ
first_of_access a = a.name.at

-- a sum begins with its sign, where it has one, and what has operators otherwise with its first operand
abbrev pub first_of_expression : PlainExpr → ℕ
first_of_expression (expr.Number n) = n.at
first_of_expression (expr.Text s) = s.at
first_of_expression (expr.Nil at) = at
first_of_expression (expr.Access name steps) = name.at
first_of_expression (expr.Call name given) = name.at
first_of_expression (expr.Inside at x) = at
first_of_expression (expr.Not at x) = at
first_of_expression (expr.Set at inside) = at
first_of_expression (expr.Product first more) = first_of_expression first
first_of_expression (expr.Sum None first more) = first_of_expression first
first_of_expression (expr.Sum (Some sign) first more) = sign.at
first_of_expression (expr.Relation left at operator right) = first_of_expression left

-- A field list stands in a record or in a variant, may have no token, and is no type: 0 stands for its first token.
abbrev pub first_of_denoter : PlainDenoter → ℕ
first_of_denoter (denoter.Named name) = name.at
first_of_denoter (denoter.Enumeration at constants) = at
first_of_denoter (denoter.Subrange first last) = first_of_constant first
first_of_denoter (denoter.Pointer at domain) = at
first_of_denoter (denoter.Array at packed by component) = at
first_of_denoter (denoter.Record at packed fields) = at
first_of_denoter (denoter.Set at packed base) = at
first_of_denoter (denoter.File at file component) = at
first_of_denoter (denoter.Fields fixed) = 0
first_of_denoter (denoter.FieldsWithVariants fixed case tag of cases) = 0

-- a statement begins with its label, where it has one, and an empty one stands at the token that follows
abbrev pub first_of_statement : PlainStatement → ℕ
first_of_statement (statement.Labelled label s) = label.at
first_of_statement (statement.Empty at) = at
first_of_statement (statement.Assign variable at value) = first_of_access variable
first_of_statement (statement.Call name given) = name.at
first_of_statement (statement.Goto at label) = at
first_of_statement (statement.Compound at inside) = at
first_of_statement (statement.If at condition first) = at
first_of_statement (statement.IfElse at condition first second) = at
first_of_statement (statement.Case at index arms) = at
first_of_statement (statement.While at condition body) = at
first_of_statement (statement.Repeat at inside condition) = at
first_of_statement (statement.For at head body) = at
first_of_statement (statement.With at records body) = at
