-- What stands behind one more opener, for the code that has just opened.
use Rattle.std.proofs.Common.{◌≡◌, ℕ, zero, suc, ◌-◌, ◌<◌, refl, ap, ◌∙◌, arith}
use Rattle.mp_parse_expr.specs.Expressions.{expression, access}
use Rattle.mp_parse_stmt.specs.Statements.{Deeper, behind, statement}

abbrev one_less : ℕ → Deeper
one_less room = record { expression = expression room; access = access room; statement = statement room }

behind_suc : (room : ℕ) → behind (suc room) ≡ one_less room
unfolding behind
behind_suc room = refl

pub behind_is : (room : ℕ) → 0 < room → behind room ≡ one_less (room - 1)
behind_is zero h = absurd (omega arith)
behind_is (suc room) h = behind_suc room ∙ ap one_less (let e : room ≡ suc room - 1 = omega arith in e)
