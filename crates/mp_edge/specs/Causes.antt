-- Counts of what went wrong outside. Each is kept in a word of 64 bits, so it stops at 2^64 - 1.
use Rattle.std.specs.Prelude.{ℕ, ◌+◌, ◌-◌, ◌^◌, ◌≤◌, min, Bool, true, false}

-- the count rose, or stands where it stops
abbrev pub Rose : ℕ → ℕ → Type 0
Rose before now = min (before + 1) (2 ^ 64 - 1) ≤ now

-- the count rose by so many, or stands where it stops
abbrev pub RoseBy : ℕ → ℕ → ℕ → Type 0
RoseBy n before now = min (before + n) (2 ^ 64 - 1) ≤ now

-- the count after one call more: one higher where the call is counted
abbrev pub counted : Bool → ℕ → ℕ
counted true before = min (before + 1) (2 ^ 64 - 1)
counted false before = before
