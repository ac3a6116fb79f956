-- Each row by itself, by computation.
use Rattle.std.proofs.Common.{refl}
use Rattle.mp_memory.specs.Sets.{numbers}
use Rattle.mp_machine.specs.RowExamples.{NumberRows, SetRows, ValueFaults, VariableRows, VariableFaults, DisposedFaults}
use Rattle.mp_machine.specs.RowExamples.{JumpRows, ObjectRows, Relations, BlockNumbers}

pub number_rows : NumberRows
number_rows = refl

pub set_rows : SetRows
unfolding numbers
set_rows = refl

pub value_faults : ValueFaults
value_faults = refl

pub variable_rows : VariableRows
variable_rows = refl

pub variable_faults : VariableFaults
variable_faults = refl

pub disposed_faults : DisposedFaults
disposed_faults = refl

pub jump_rows : JumpRows
jump_rows = refl

pub object_rows : ObjectRows
object_rows = (refl, refl, refl, refl)

pub relations : Relations
relations = (refl, refl, refl, refl, refl)

pub block_numbers : BlockNumbers
block_numbers = (refl, refl, refl, refl)
