-- The first error is the one that the parser finds.
use Rattle.std.proofs.Common.{◌≡◌, ◌≢◌, ℕ, zero, suc, ◌-◌, ◌<◌, ◌≤◌, List, length, Some, None, refl, ap, ◌∙◌, arith}
use Rattle.mp_ast.specs.declared.tokens.TokenKind.{TokenKind}
use Rattle.mp_ast.specs.declared.blocks.Tree.{Tree}
use Rattle.mp_ast.specs.Rules.{Input}
use Rattle.mp_ast.specs.Programs.{standard}
use Rattle.mp_cursor.specs.declared.failure.Failure.{Failure}
use Rattle.mp_cursor.specs.declared.failure.Failure.TheVariants.{Memory, Wrong, TooDeep, TooMany}
use Rattle.mp_cursor.proofs.RuleLaws.{read}
use Rattle.mp_parse.specs.declared.errors.ParseError.TheVariants as error
use Rattle.mp_parse.specs.Errors.{first_error, first_error_of, behind_program, told, error_of}
use Rattle.mp_parse.proofs.ProgramLemmas.{parsed, stopped}

finds_stop : (kinds : List TokenKind) (e : Failure) → parsed standard kinds ≡ stopped e → first_error kinds ≡ told (error_of e (length kinds))
unfolding first_error
finds_stop kinds e h = ap (λ o. first_error_of o (length kinds)) h

-- where the parser stops
pub stop_found : (kinds : List TokenKind) (e : Failure) → ((e ≡ Memory → ⊥) → parsed standard kinds ≡ stopped e) →
    error_of e (length kinds) ≢ error.Memory → first_error kinds ≡ told (error_of e (length kinds))
stop_found kinds Memory h n = absurd (n refl)
stop_found kinds (Wrong left) h n = finds_stop kinds (Wrong left) (h (λ q. let m : ⊥ = cc in m))
stop_found kinds (TooDeep left) h n = finds_stop kinds (TooDeep left) (h (λ q. let m : ⊥ = cc in m))
stop_found kinds (TooMany left) h n = finds_stop kinds (TooMany left) (h (λ q. let m : ⊥ = cc in m))

behind_some : (left count : ℕ) → 0 < left → behind_program left count ≡ Some (record { token = count - left; code = 205 })
behind_some zero count h = absurd (omega (arith, h))
behind_some (suc left) count h = refl

behind_none : (left count : ℕ) → left ≤ 0 → behind_program left count ≡ None
behind_none zero count h = refl
behind_none (suc left) count h = absurd (omega (arith, h))

-- where it reads a program and tokens are left
pub rest_found : (kinds : List TokenKind) (t : Tree) (j : Input) → parsed standard kinds ≡ read t j → 0 < length j.rest →
    first_error kinds ≡ Some (record { token = length kinds - length j.rest; code = 205 })
unfolding first_error
rest_found kinds t j h n = ap (λ o. first_error_of o (length kinds)) h ∙ behind_some (length j.rest) (length kinds) n

-- where it reads a program and none is
pub none_found : (kinds : List TokenKind) (t : Tree) (j : Input) → parsed standard kinds ≡ read t j → length j.rest ≤ 0 → first_error kinds ≡ None
unfolding first_error
none_found kinds t j h n = ap (λ o. first_error_of o (length kinds)) h ∙ behind_none (length j.rest) (length kinds) n
