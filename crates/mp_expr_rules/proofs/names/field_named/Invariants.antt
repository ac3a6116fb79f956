use Rattle.std.proofs.Common.{◌≡◌, ◌≤◌, ◌-◌, drop, length}
use Rattle.mp_tables.specs.Sizes as size
use Rattle.mp_expr_rules.proofs.names.field_named.Given as goal

abbrev pub invariant-slots : goal.invariant-slots
invariant-slots l = record {
  within : l.number ≤ length l.slots;
  same : size.numbered_slot l.name l.number (drop l.number l.slots) ≡ size.numbered_slot l.name 0 l.slots;
}

abbrev pub decreases-slots : goal.decreases-slots
decreases-slots l = length l.initial.slots - l.number
