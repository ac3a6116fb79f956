-- Counts that only rise.
use Rattle.std.proofs.Common.{ℕ, ◌≤◌, arith}
use Rattle.mp_edge.specs.Causes.{Rose}

pub rose_later : (a b c : ℕ) → Rose a b → b ≤ c → Rose a c
rose_later a b c h k = omega (arith, h)

pub rose_earlier : (a b c : ℕ) → a ≤ b → Rose b c → Rose a c
rose_earlier a b c h k = omega (arith, k)
