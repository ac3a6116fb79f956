-- What stands behind one more opener, for the code that has just opened.
use Rattle.std.proofs.Common.{◌≡◌, ℕ, zero, suc, ◌-◌, ◌<◌, List, refl, ap, ◌∙◌, arith}
use Rattle.mp_ast.specs.Rules.{Input}
use Rattle.mp_ast.specs.declared.headings.FormalSection.{FormalSection}
use Rattle.mp_cursor.specs.Parsers.{Parser}
use Rattle.mp_parse_type.specs.Types.{Deeper, behind, denoter, field_list}
use Rattle.mp_parse_type.specs.Headings.{formals, formals_with, formals_behind, formal_sections, in_parentheses}

-- ---- type denoters

abbrev one_less : ℕ → Deeper
one_less room = record { denoter = denoter room; field_list = field_list room }

behind_suc : (room : ℕ) → behind (suc room) ≡ one_less room
unfolding behind
behind_suc room = refl

pub behind_is : (room : ℕ) → 0 < room → behind room ≡ one_less (room - 1)
behind_is zero h = absurd (omega arith)
behind_is (suc room) h = behind_suc room ∙ ap one_less (let e : room ≡ suc room - 1 = omega arith in e)

-- ---- formal parameters

formals_suc : (room : ℕ) → formals_behind (suc room) ≡ formals room
unfolding formals_behind
formals_suc room = refl

pub formals_behind_is : (room : ℕ) → 0 < room → formals_behind room ≡ formals (room - 1)
formals_behind_is zero h = absurd (omega arith)
formals_behind_is (suc room) h = formals_suc room ∙ ap formals (let e : room ≡ suc room - 1 = omega arith in e)

pub formals_are : (room : ℕ) (behind : Parser (List FormalSection)) (i : Input) → formals_with room behind i ≡ in_parentheses room (formal_sections behind) i
unfolding formals_with
formals_are room behind i = refl
