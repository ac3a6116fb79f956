-- Turns of loops whose items have separators between them, for the code that makes them.
use Rattle.std.proofs.Common.{◌≡◌, ℕ, zero, suc, ◌+◌, ◌-◌, ◌<◌, ◌≤◌, refl, ap, ◌∙◌, arith}
use Rattle.mp_ast.specs.Rules.{Input}
use Rattle.mp_cursor.specs.declared.next.Next.{Next}
use Rattle.mp_cursor.specs.Nexts.{Nexts, is}
use Rattle.mp_cursor.specs.Parsers.{Parser, ◌>>=◌, ◌>>◌, pure, branch, expect}
use Rattle.mp_cursor.proofs.RuleLaws.{read}
use Rattle.mp_parse_type.specs.Types.{series_and_last}

-- ---- lists that end with something else

module _ {A B : Type 0} (separator : Next) (f : Nexts) (turn : A → Parser A) (last : A → Parser B) (whole : A → B) where
  last_suc : (n : ℕ) (found : A) (i : Input) → series_and_last separator f turn last whole (suc n) found i ≡
      branch (is separator) (expect separator >> branch f (turn found >>= series_and_last separator f turn last whole n) (last found)) (pure (whole found)) i
  unfolding series_and_last
  last_suc n found i = refl

  pub last_more : (n at : ℕ) (found : A) (i : Input) → at < n → series_and_last separator f turn last whole (n - at) found i ≡
      branch (is separator) (expect separator >> branch f (turn found >>= series_and_last separator f turn last whole (n - (at + 1))) (last found)) (pure (whole found)) i
  last_more n at found i h =
      ap (λ m. series_and_last separator f turn last whole m found i) (let e : n - at ≡ suc (n - (at + 1)) = omega arith in e) ∙ last_suc (n - (at + 1)) found i

  pub last_done : (n at : ℕ) (found : A) (i : Input) → n ≤ at → series_and_last separator f turn last whole (n - at) found i ≡ read (whole found) i
  unfolding series_and_last
  last_done n at found i h = ap (λ m. series_and_last separator f turn last whole m found i) (let e : n - at ≡ zero = omega arith in e)
