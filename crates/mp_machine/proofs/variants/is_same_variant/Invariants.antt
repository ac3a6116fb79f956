use Rattle.std.proofs.Common.{◌≡◌, drop}
use Rattle.mp_machine.specs.VariableRows.{same_variant}
use Rattle.mp_machine.proofs.variants.is_same_variant.Given as goal

-- the groups that are left tell for all
abbrev pub invariant-groups : goal.invariant-groups
invariant-groups l = same_variant (drop l.group-index l.groups) l.old l.new ≡ same_variant l.groups l.old l.new
