-- Tokens of example programs: an identifier and a number, with their ordinals in their block.
use Rattle.std.specs.Prelude.{ℕ, List}
use Rattle.mp_ast.specs.declared.leaves.Identifier.{Identifier}
use Rattle.mp_ast.specs.declared.leaves.Number.{Number}

abbrev pub i : ℕ → List ℕ → Identifier
i at name = record { at = at; name = name }

abbrev pub n : ℕ → ℕ → Number
n at value = record { at = at; value = value }
