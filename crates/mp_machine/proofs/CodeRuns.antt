-- Runs of codes and rows on files, by computation.
use Rattle.std.proofs.Common.{refl}
use Rattle.std.specs.Fmt.{digits}
use Rattle.mp_machine.specs.FileExamples.{ReadingRows, WritingRows, FileFaults, BeginningRows, RequiredFiles}
use Rattle.mp_machine.specs.RunExamples.{FunctionRun, NoResultRun, MissingRun, LeaveRun, ProcedureRun, PointerRun, ReadingRun}
use Rattle.mp_machine.specs.RunExamples.{HaveShape, CallLimits, BelowLimits, StartLimit, ActsSeen, ObjectsSeen}

pub reading_rows : ReadingRows
reading_rows = refl

pub writing_rows : WritingRows
unfolding digits
writing_rows = refl

pub file_faults : FileFaults
unfolding digits
file_faults = refl

pub beginning_rows : BeginningRows
beginning_rows = refl

pub required_files : RequiredFiles
required_files = refl

pub function_run : FunctionRun
unfolding digits
function_run = refl

pub no_result_run : NoResultRun
unfolding digits
no_result_run = refl

pub missing_run : MissingRun
missing_run = refl

pub leave_run : LeaveRun
unfolding digits
leave_run = refl

pub procedure_run : ProcedureRun
unfolding digits
procedure_run = refl

pub pointer_run : PointerRun
unfolding digits
pointer_run = refl

pub reading_run : ReadingRun
unfolding digits
reading_run = refl

pub have_shape : HaveShape
have_shape = refl

pub call_limits : CallLimits
call_limits = refl

pub start_limit : StartLimit
start_limit = (refl, refl)

pub below_limits : BelowLimits
below_limits = refl

pub acts_seen : ActsSeen
acts_seen = (refl, refl)

pub objects_seen : ObjectsSeen
objects_seen = refl
