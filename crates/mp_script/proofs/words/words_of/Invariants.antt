use Rattle.std.proofs.Common.{◌≡◌, ◌++◌, [], drop}
use Rattle.mp_script.specs.Words.{words_from}
use Rattle.mp_script.proofs.words.words_of.Given as goal

abbrev pub invariant-bytes : goal.invariant-bytes
invariant-bytes l = l.words.items ++ words_from l.last.items (drop l.byte-index l.line) ≡ words_from [] l.line
