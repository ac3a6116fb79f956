-- What a cursor shows, and what it keeps.
use Rattle.std.specs.Prelude.{◌+◌, ◌≤◌, length}
use Rattle.mp_base.specs.declared.limits.TheConstants.{TEXT_LIMIT}
use Rattle.mp_cursor.specs.declared.cursor.Cursor.TheInside.{Inside}
use Rattle.mp_ast.specs.Rules.{Input}
use Rattle.mp_ast.specs.Programs.{kinds_of}

abbrev pub input_of : Inside → Input
input_of c = record { at = c.at; declared = c.declared; rest = kinds_of c.rest.now }

-- the ordinals of the tokens that are left are small
abbrev pub IsSmall : Inside → Type 0
IsSmall c = c.at + length c.rest.now ≤ TEXT_LIMIT
