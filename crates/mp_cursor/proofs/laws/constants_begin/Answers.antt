use Rattle.std.proofs.Common.{refl}
use Rattle.mp_cursor.proofs.ConstantLaws.{law_constant}
use Rattle.mp_cursor.proofs.laws.constants_begin.Goals as goal

pub returns : goal.returns
returns c = λ i x j d. law_constant.begins i x j d refl
