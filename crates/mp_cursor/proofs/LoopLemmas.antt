-- Turns of a loop, for the code that makes them.
use Rattle.std.proofs.Common.{◌≡◌, ℕ, zero, suc, ◌+◌, ◌-◌, ◌<◌, ◌≤◌, false, refl, ap, ◌∙◌, arith}
use Rattle.std.specs.Prelude.{if◌then◌else◌}
use Rattle.mp_ast.specs.Rules.{Input}
use Rattle.mp_cursor.specs.declared.next.Next.{Next}
use Rattle.mp_cursor.specs.Nexts.{Nexts, is}
use Rattle.mp_cursor.specs.Parsers.{Parser, ◌>>=◌, ◌>>◌, pure, branch, expect, left, loop, next_token, repeated, series}
use Rattle.mp_cursor.proofs.RuleLaws.{read}

loop_suc : {A : Type 0} (f : Nexts) (turn : A → Parser A) (n : ℕ) (found : A) (i : Input) → loop f turn (suc n) found i ≡ branch f (turn found >>= loop f turn n) (pure found) i
unfolding loop
loop_suc f turn n found i = refl

pub loop_more : {A : Type 0} (f : Nexts) (turn : A → Parser A) (n at : ℕ) (found : A) (i : Input) → at < n →
    loop f turn (n - at) found i ≡ branch f (turn found >>= loop f turn (n - (at + 1))) (pure found) i
loop_more f turn n at found i h = ap (λ m. loop f turn m found i) (let e : n - at ≡ suc (n - (at + 1)) = omega arith in e) ∙ loop_suc f turn (n - (at + 1)) found i

pub loop_done : {A : Type 0} (f : Nexts) (turn : A → Parser A) (n at : ℕ) (found : A) (i : Input) → n ≤ at → loop f turn (n - at) found i ≡ read found i
unfolding loop
loop_done f turn n at found i h = ap (λ m. loop f turn m found i) (let e : n - at ≡ zero = omega arith in e)

loop_none : {A : Type 0} (f : Nexts) (turn : A → Parser A) (n : ℕ) (found : A) (i : Input) → f (next_token i) ≡ false → loop f turn n found i ≡ read found i
unfolding loop
loop_none f turn zero found i h = refl
loop_none f turn (suc n) found i h = ap (λ b. if b then (turn found >>= loop f turn n) i else pure found i) h

-- no turn is made where the next token begins none
pub no_turn : {A : Type 0} (f : Nexts) (turn : A → Parser A) (found : A) (i : Input) → f (next_token i) ≡ false → repeated f turn found i ≡ read found i
unfolding repeated
no_turn f turn found i h = loop_none f turn (left i) found i h

-- ---- items with separators between them

series_suc : {A : Type 0} (separator : Next) (f : Nexts) (turn : A → Parser A) (n : ℕ) (found : A) (i : Input) →
    series separator f turn (suc n) found i ≡ branch (is separator) (expect separator >> branch f (turn found >>= series separator f turn n) (pure found)) (pure found) i
unfolding series
series_suc separator f turn n found i = refl

pub series_more : {A : Type 0} (separator : Next) (f : Nexts) (turn : A → Parser A) (n at : ℕ) (found : A) (i : Input) → at < n →
    series separator f turn (n - at) found i ≡ branch (is separator) (expect separator >> branch f
    (turn found >>= series separator f turn (n - (at + 1))) (pure found)) (pure found) i
series_more separator f turn n at found i h =
    ap (λ m. series separator f turn m found i) (let e : n - at ≡ suc (n - (at + 1)) = omega arith in e) ∙ series_suc separator f turn (n - (at + 1)) found i

pub series_done : {A : Type 0} (separator : Next) (f : Nexts) (turn : A → Parser A) (n at : ℕ) (found : A) (i : Input) → n ≤ at →
    series separator f turn (n - at) found i ≡ read found i
unfolding series
series_done separator f turn n at found i h = ap (λ m. series separator f turn m found i) (let e : n - at ≡ zero = omega arith in e)
