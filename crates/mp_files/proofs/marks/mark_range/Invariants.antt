use Rattle.std.proofs.Common.{◌≡◌, ℕ, ◌*◌, ◌≤◌, ◌&&◌, ◌||◌, length}
use Rattle.std.specs.Prelude.{nat_le, nat_lt}
use Rattle.mp_files.specs.Stored.{is_marked}
use Rattle.mp_files.proofs.marks.mark_range.Given as goal

-- the places so far are marked, and those before
abbrev pub invariant-places : goal.invariant-places
invariant-places l = record {
  lanes : l.to ≤ 8 * length l.marks;
  marked : (k : ℕ) → is_marked l.marks k ≡ (nat_le l.from k && nat_lt k l.at || is_marked l.fn.marks k);
}
