use Rattle.std.proofs.Common.{◌≡◌, ◌+◌, ◌-◌, drop, length}
use Rattle.std.specs.List.{prefix_len}
use Rattle.mp_files.specs.Stored.{is_of}
use Rattle.mp_files.proofs.reading.end_of.Given as goal

-- what is left to go over ends where all of it does
abbrev pub invariant-items : goal.invariant-items
invariant-items l = l.end + prefix_len (is_of l.class) (drop l.end l.items) ≡ l.from + prefix_len (is_of l.class) (drop l.from l.items)

abbrev pub decreases-items : goal.decreases-items
decreases-items l = length l.items - l.end
