use Rattle.std.proofs.Common.{◌≡◌, take, map}
use Rattle.mp_script.specs.Numbers.{number_of}
use Rattle.mp_script.proofs.numbers.numbers_of.Given as goal

abbrev pub invariant-words : goal.invariant-words
invariant-words l = l.numbers.items ≡ map number_of (take l.word-index l.words)
