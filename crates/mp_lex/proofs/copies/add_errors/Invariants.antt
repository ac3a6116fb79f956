use Rattle.std.proofs.Common.{◌≡◌, ◌++◌, map, take}
use Rattle.mp_lex.specs.Windows.{moved_error}
use Rattle.mp_lex.proofs.copies.add_errors.Given as goal

abbrev pub invariant-copies : goal.invariant-copies
invariant-copies l = l.out ≡ l.initial.out ++ map (moved_error l.from l.to) (take l.error-index l.errors)
