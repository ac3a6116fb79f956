-- Which instructions put more operands than they take, which may want memory, and which call.
use Rattle.std.specs.Prelude.{Bool, true, false}
use Rattle.mp_code.specs.declared.instructions.Operation.{Operation}
use Rattle.mp_code.specs.declared.instructions.Operation.TheVariants as operation

-- It may put one operand more than it takes, so that there must be room for one.
abbrev pub grows : Operation → Bool
grows (operation.Int value) = true
grows operation.Nil = true
grows operation.Empty = true
grows (operation.Chars bytes) = true
grows (operation.Proc depth path) = true
grows (operation.Addr depth offset) = true
grows (operation.FileAt f) = true
grows operation.Dup = true
grows (operation.Return cell) = true
grows _ = false

abbrev pub wants_memory : Operation → Bool
wants_memory operation.Stmt = true
wants_memory (operation.Chars bytes) = true
wants_memory (operation.Proc depth path) = true
wants_memory (operation.LoadMany cells) = true
wants_memory (operation.Call depth path operands is_function) = true
wants_memory (operation.CallBy operands is_function) = true
wants_memory (operation.New cells) = true
wants_memory (operation.File f) = true
wants_memory _ = false

abbrev pub is_call : Operation → Bool
is_call (operation.Call depth path operands is_function) = true
is_call (operation.CallBy operands is_function) = true
is_call _ = false
