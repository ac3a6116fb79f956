use Rattle.std.proofs.Common.{◌≡◌, ◌+◌, ◌-◌, ◌≤◌, min, drop, take}
use Rattle.mp_base.specs.declared.limits.TheConstants.{MAXINT}
use Rattle.mp_files.specs.TextFiles.{value_of}
use Rattle.mp_files.proofs.reading.value_between.Given as goal

-- the value of the digits so far, or one more than the greatest integer
abbrev pub invariant-digits : goal.invariant-digits
invariant-digits l = record {
  start : l.from ≤ l.at;
  value : l.value ≡ min (value_of (take (l.at - l.from) (drop l.from l.items))) (MAXINT + 1);
}
