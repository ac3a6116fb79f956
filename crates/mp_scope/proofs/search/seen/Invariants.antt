use Rattle.std.proofs.Common.{◌≡◌, take, drop, []}
use Rattle.mp_tables.specs.Seen as spec
use Rattle.mp_tables.specs.RequiredNames.{required_name}
use Rattle.mp_scope.specs.Lent.{seen_of}
use Rattle.mp_scope.proofs.search.seen.Given as goal

-- from here inward the search ends as the whole search does
abbrev pub invariant-inward : goal.invariant-inward
invariant-inward l =
    spec.seen_from l.fn.tables (seen_of l.sight) (take l.i l.steps) (drop l.i l.steps) l.fn.place.ordinal l.fn.name
    ≡ spec.seen_from l.fn.tables (spec.around_program (required_name l.fn.name)) [] l.steps l.fn.place.ordinal l.fn.name
