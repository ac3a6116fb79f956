use Rattle.std.proofs.Common.{◌≡◌, [], drop, reverse}
use Rattle.mp_tables.specs.Names as names
use Rattle.mp_expr_rules.proofs.fields.guards.Given as goal

abbrev pub invariant-variants : goal.invariant-variants
invariant-variants l = names.guards_from l.of (drop l._part-index l.parts) l.around (reverse l.found) ≡ names.guards_from l.of l.parts l.initial.around []
