-- What contracts see of a source and a sink over memory.
use Rattle.std.specs.Prelude.{ℕ, List, Option}

-- the pieces still to give, of which the first may be cut and none at the front is empty, the bytes given so far,
-- the numbers of the reads that fail, how many reads were made, and how many failed
pub record SourceState : Type 0 where
  pub pieces : List (List ℕ)
  pub taken : List ℕ
  pub fail : List ℕ
  pub reads : ℕ
  pub failures : ℕ

-- the bytes written, unless memory for them was refused, the numbers of the writes that fail, how many writes were
-- made, and how many failed
pub record SinkState : Type 0 where
  pub written : Option (List ℕ)
  pub fail : List ℕ
  pub writes : ℕ
  pub failures : ℕ
