-- What one read and one write answer, and what std's answers mean.
use Rattle.std.specs.Prelude.{ℕ, zero, suc, ◌<◌, ◌≤◌, List, [], take, Bool, true, false, Result, Ok, Err}
use Rattle.mp_edge.specs.declared.source.Got.{Got}
use Rattle.mp_edge.specs.declared.source.Got.TheVariants as got
use Rattle.mp_edge.specs.declared.sink.Put.{Put}
use Rattle.mp_edge.specs.declared.sink.Put.TheVariants as put

-- the bytes that a read gave: those at the front of the buffer
abbrev pub given : Got → List ℕ → List ℕ
given (got.Bytes n) buffer = take n buffer
given got.End buffer = []
given got.Failed buffer = []

-- how many bytes a read gave
abbrev pub given_count : Got → ℕ
given_count (got.Bytes n) = n
given_count got.End = 0
given_count got.Failed = 0

-- A read gives at most as many bytes as there is room, and at least one where there is room. It finds the end only
-- where there is room.
abbrev pub IsWithin : Got → ℕ → Type 0
IsWithin (got.Bytes n) room = (n ≤ room) × (0 < room → 0 < n)
IsWithin got.End room = 0 < room
IsWithin got.Failed room = Unit {0}

abbrev pub read_failed : Got → Bool
read_failed (got.Bytes n) = false
read_failed got.End = false
read_failed got.Failed = true

-- the bytes that a write took: those at the front of the piece
abbrev pub accepted : Put → List ℕ → List ℕ
accepted (put.Took n) piece = take n piece
accepted put.Failed piece = []

-- A write takes at most the whole piece, and at least one byte of a piece that is not empty.
abbrev pub IsPart : Put → ℕ → Type 0
IsPart (put.Took n) len = (n ≤ len) × (0 < len → 0 < n)
IsPart put.Failed len = Unit {0}

abbrev pub write_failed : Put → Bool
write_failed (put.Took n) = false
write_failed put.Failed = true

-- a call ended with an error of which this holds
abbrev pub failed_by : {A E : Type 0} → (E → Bool) → Result A E → Bool
failed_by holds (Ok x) = false
failed_by holds (Err e) = holds e

-- What std's answer to a read with room means: no byte is the end.
abbrev pub got_of : {E : Type 0} → Result ℕ E → Got
got_of (Ok zero) = got.End
got_of (Ok (suc n)) = got.Bytes (suc n)
got_of (Err e) = got.Failed

-- What std's answer to a write of a piece that is not empty means: a write that takes no byte failed.
abbrev pub put_of : {E : Type 0} → Result ℕ E → Put
put_of (Ok zero) = put.Failed
put_of (Ok (suc n)) = put.Took (suc n)
put_of (Err e) = put.Failed
