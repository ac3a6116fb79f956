use Rattle.std.proofs.Common.{◌≡◌, drop}
use Rattle.mp_tables.specs.Seen as spec
use Rattle.mp_scope.proofs.search.assigned_within.Given as goal

-- what the tables from here on say is what all say
abbrev pub invariant-tables : goal.invariant-tables
invariant-tables l = spec.assigned_within (drop l.table-index l.tables) l.path l.name ≡ spec.assigned_within l.tables l.path l.name
