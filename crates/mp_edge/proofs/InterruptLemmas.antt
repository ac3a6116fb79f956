-- Errors that a signal caused, and all others.
use Rattle.std.proofs.Common.{◌≡◌, ◌↔◌, Bool, true, false, IsTrue, refl, ap}
use Rattle.std.proofs.lemmas.Bool.Decides.{same_from_decides}
use Rattle.std.specs.Bool.{Decides}
use Rattle.std.specs.declared.io.ErrorKind.{ErrorKind}
use Rattle.std.specs.declared.io.ErrorKind.TheVariants as kind
use Rattle.mp_edge.specs.Interrupts.{is_interrupt}

only_interrupted : (k : ErrorKind) → is_interrupt k ≡ true → k ≡ kind.Interrupted
unfolding is_interrupt
only_interrupted kind.Interrupted e = refl
only_interrupted _ e = let f : false ≡ true = e in absurd (cc)

interrupted_is : (k : ErrorKind) → k ≡ kind.Interrupted → is_interrupt k ≡ true
unfolding is_interrupt
interrupted_is k e = ap is_interrupt e

-- interruptions are of one kind
pub interrupt_decided : (k : ErrorKind) → Decides (is_interrupt k) (k ≡ kind.Interrupted)
interrupt_decided k = (only_interrupted k, interrupted_is k)

-- a test for the kind is the definition
pub interrupt_told : (k : ErrorKind) (r : Bool) → (IsTrue r ↔ (k ≡ kind.Interrupted)) → r ≡ is_interrupt k
interrupt_told k r h = same_from_decides r (is_interrupt k) h (interrupt_decided k)
