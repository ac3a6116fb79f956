-- What the errors of a reader or a writer of std mean for the next try.
use Rattle.std.specs.Prelude.{ℕ, zero, suc, Bool, true, false, not, Result, Ok, Err}
use Rattle.std.specs.IoError.{error_kind}
use Rattle.std.specs.declared.io.Error.{Error}
use Rattle.std.specs.declared.io.ErrorKind.{ErrorKind}
use Rattle.std.specs.declared.io.ErrorKind.TheVariants as kind

-- a signal interrupted the call, so it may be made again
unfoldable pub is_interrupt : ErrorKind → Bool
is_interrupt kind.Interrupted = true
is_interrupt _ = false

-- any other error is hard: the call is not made again
abbrev pub is_hard : Error → Bool
is_hard error = not (is_interrupt (error_kind error))

-- A write of a piece that is not empty is not made again after a hard error, nor where it took no byte.
abbrev pub is_hard_write : Result ℕ Error → Bool
is_hard_write (Ok zero) = true
is_hard_write (Ok (suc n)) = false
is_hard_write (Err error) = is_hard error
