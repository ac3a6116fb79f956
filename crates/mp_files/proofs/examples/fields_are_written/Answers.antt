use Rattle.std.proofs.Common.{refl}
use Rattle.std.specs.Fmt.{digits}
use Rattle.mp_files.proofs.examples.fields_are_written.Goals as goal

pub returns : goal.returns
unfolding digits
returns c = (refl, refl, refl, refl, refl, refl, refl, refl, refl, refl, refl, refl, refl)
