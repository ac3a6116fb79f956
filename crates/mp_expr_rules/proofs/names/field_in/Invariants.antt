use Rattle.std.proofs.Common.{◌≡◌, drop, map}
use Rattle.mp_tables.specs.Names as names
use Rattle.mp_expr_rules.specs.Regions.{opened_of}
use Rattle.mp_expr_rules.proofs.names.field_in.Given as goal

abbrev pub invariant-records : goal.invariant-records
invariant-records l = names.field_in (map opened_of (drop l.o-index l.opened)) l.name ≡ names.field_in (map opened_of l.opened) l.name
