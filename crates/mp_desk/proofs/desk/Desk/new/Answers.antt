use Rattle.std.proofs.Common.{[], refl}
use Rattle.mp_desk.proofs.DeskLemmas.{lexed_first}
use Rattle.mp_desk.proofs.desk.Desk.new.Goals as goal

pub invariant_of-result : goal.invariant_of-result
invariant_of-result c =
    lexed_first c.in_ok-texts.texts [] c.in_ok-lexed.lexed.tokens c.in_ok-lexed.lexed.errors c.in_ok-texts.ensures refl c.in_ok-lexed.ensures.tokens c.in_ok-lexed.ensures.errors
