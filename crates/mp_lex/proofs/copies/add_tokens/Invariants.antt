use Rattle.std.proofs.Common.{◌≡◌, ◌++◌, map, take}
use Rattle.mp_lex.specs.Windows.{moved_token}
use Rattle.mp_lex.proofs.copies.add_tokens.Given as goal

abbrev pub invariant-copies : goal.invariant-copies
invariant-copies l = l.out ≡ l.initial.out ++ map (moved_token l.from l.to) (take l.token-index l.tokens)
