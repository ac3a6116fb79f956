use Rattle.std.proofs.Common.{◌≡◌, drop, map, max}
use Rattle.std.specs.List.{filter}
use Rattle.mp_lex.specs.Relexing.{token_end, greatest, is_before}
use Rattle.mp_lex.proofs.boundaries.tokens_kept_to.Given as goal

abbrev pub invariant-ends : goal.invariant-ends
invariant-ends l = max l.kept (greatest (filter (is_before l.start) (map token_end (drop l.token-index l.tokens))))
    ≡ greatest (filter (is_before l.start) (map token_end l.tokens))
