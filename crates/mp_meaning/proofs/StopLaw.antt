-- A command stops at the first step at which it has to, and there is one such stop.
use Rattle.std.proofs.Common.{◌≡◌, ℕ, zero, suc, ◌+◌, ◌<◌, List, Bool, true, false, refl, sym, ◌∙◌, subst, inl, inr, arith, nat_eq, nat_lt, eqb-true}
use Rattle.std.proofs.lemmas.Bool.{eqb-false, ltb-true, ltb-false}
use Rattle.mp_base.specs.declared.place.Place.{Place}
use Rattle.mp_meaning.specs.Programs.{Program}
use Rattle.mp_meaning.specs.Configurations.{Configuration, place_of}
use Rattle.mp_meaning.specs.Steps.{Standing, NotBegun, Stands, Ends, Nowhere, at_step, Stop, Stopped, Budget, AtEnd, NoStop, stop, stop_at}
use Rattle.mp_meaning.specs.StepLaws.{GoesPast, IsStopAt, StopsFirst, StopIsFirst, NoOtherStop}
use Rattle.mp_meaning.proofs.SoundLaw.{step_begun}

true_false : {X : Type 0} → true ≡ false → X
true_false e = absurd (let f : ⊥ = cc in f)

module _ (program : Program) (input : List ℕ) (is_break : Place → Bool) where
  -- ---- there is one

  -- the stop at the next step
  at_next : (p b : ℕ) (s : Stop) → IsStopAt is_break (p + 1) (p + suc b) (at_step program input (p + 1)) s → StopsFirst program input is_break p (suc b) s
  at_next p b s is = record {
    step = p + 1;
    past = omega arith;
    within = omega arith;
    least = λ r more less. absurd (let f : ⊥ = omega (arith, more, less) in f);
    is = is;
  }

  -- the stop at a later step, where the run goes past the next one
  at_later : (p b : ℕ) (s : Stop) → GoesPast is_break (at_step program input (p + 1)) → StopsFirst program input is_break (p + 1) b s →
      StopsFirst program input is_break p (suc b) s
  at_later p b s goes later = record {
    step = later.step;
    past = let past = later.past in omega (arith, past);
    within = let within = later.within in omega (arith, within);
    least = λ r more less. by r more less (nat_eq r (p + 1)) refl;
    is = subst (λ last. IsStopAt is_break later.step last (at_step program input later.step) s) (same p b) later.is;
  }
    where
      same : (p b : ℕ) → p + 1 + b ≡ p + suc b
      same p b = omega arith

      by : (r : ℕ) → p < r → r < later.step → (x : Bool) → nat_eq r (p + 1) ≡ x → GoesPast is_break (at_step program input r)
      by r more less true e = subst (λ r. GoesPast is_break (at_step program input r)) (sym (eqb-true r (p + 1) e)) goes
      by r more less false e = later.least r (let other = eqb-false r (p + 1) e in omega (arith, more, other)) less

  first : (p b : ℕ) → 0 < b → StopsFirst program input is_break p b (stop program input is_break p b)
  first p zero some = absurd (let f : ⊥ = omega (arith, some) in f)
  first p (suc b) some = by_standing (λ more. first (p + 1) b more) (at_step program input (p + 1)) refl
    where
      later : Unit {0} → Stop
      later x = stop program input is_break (p + 1) b

      last_one : (p : ℕ) → p + 1 ≡ p + suc 0
      last_one p = omega arith

      next : (s : Standing) (q : Stop) → at_step program input (p + 1) ≡ s → IsStopAt is_break (p + 1) (p + suc b) s q → StopsFirst program input is_break p (suc b) q
      next s q e is = at_next p b q (subst (λ s. IsStopAt is_break (p + 1) (p + suc b) s q) (sym e) is)

      by_break : (0 < b → StopsFirst program input is_break (p + 1) b (stop program input is_break (p + 1) b)) → (c : Configuration) (more : ℕ) (t : Bool) → more ≡ b →
          is_break (place_of c) ≡ t → at_step program input (p + 1) ≡ Stands c →
          StopsFirst program input is_break p (suc b) (elim t as (λ is. Stop)
          [ true ↦ Stopped (p + 1) c | false ↦ elim more as (λ m. Stop) [ zero ↦ Budget (p + 1) c | suc m ↦ later tt ] ])
      by_break go c more true n t e = next (Stands c) (Stopped (p + 1) c) e (inl (t, refl))
      by_break go c zero false n t e = next (Stands c) (Budget (p + 1) c) e (inr (t, subst (λ b. p + 1 ≡ p + suc b) n (last_one p), refl))
      by_break go c (suc m) false n t e = at_later p b (later tt) (subst (GoesPast is_break) (sym e) t) (go (subst (λ b. 0 < b) n (omega arith)))

      by_standing : (0 < b → StopsFirst program input is_break (p + 1) b (stop program input is_break (p + 1) b)) → (s : Standing) → at_step program input (p + 1) ≡ s →
          StopsFirst program input is_break p (suc b) (stop_at is_break (p + 1) b s later)
      by_standing go NotBegun e = absurd (step_begun program input (p + 1) (omega arith) e)
      by_standing go Nowhere e = next Nowhere NoStop e refl
      by_standing go (Ends ending steps output) e = next (Ends ending steps output) (AtEnd ending steps output) e refl
      by_standing go (Stands c) e = by_break go c b (is_break (place_of c)) refl refl e

  -- ---- and no other

  -- where a run goes on, it stops for the last step alone
  goes_on : (step last : ℕ) (s : Standing) (q : Stop) → GoesPast is_break s → IsStopAt is_break step last s q → step ≡ last
  goes_on step last (Stands c) q goes (inl is) = true_false (sym is.0 ∙ goes)
  goes_on step last (Stands c) q goes (inr is) = is.1
  goes_on step last (Ends ending steps output) q goes is = absurd goes
  goes_on step last NotBegun q goes is = absurd goes
  goes_on step last Nowhere q goes is = absurd goes

  one_stop : (step last : ℕ) (s : Standing) (q r : Stop) → IsStopAt is_break step last s q → IsStopAt is_break step last s r → q ≡ r
  one_stop step last (Ends ending steps output) q r a b = a ∙ sym b
  one_stop step last (Stands c) q r (inl a) (inl b) = a.1 ∙ sym b.1
  one_stop step last (Stands c) q r (inl a) (inr b) = true_false (sym a.0 ∙ b.0)
  one_stop step last (Stands c) q r (inr a) (inl b) = true_false (sym b.0 ∙ a.0)
  one_stop step last (Stands c) q r (inr a) (inr b) = a.2 ∙ sym b.2
  one_stop step last NotBegun q r a b = absurd a
  one_stop step last Nowhere q r a b = a ∙ sym b

  -- no stop is before another
  not_before : (p b : ℕ) (q r : Stop) (a : StopsFirst program input is_break p b q) (d : StopsFirst program input is_break p b r) → a.step < d.step → ⊥
  not_before p b q r a d less =
      let last : a.step ≡ p + b = goes_on a.step (p + b) (at_step program input a.step) q (d.least a.step a.past less) a.is in
      let within = d.within in omega (arith, last, less, within)

  one : (p b : ℕ) (q r : Stop) → StopsFirst program input is_break p b q → StopsFirst program input is_break p b r → q ≡ r
  one p b q r a d = by (nat_lt a.step d.step) (nat_lt d.step a.step) refl refl
    where
      at_one : a.step ≡ d.step → q ≡ r
      at_one same = one_stop d.step (p + b) (at_step program input d.step) q r (subst (λ step. IsStopAt is_break step (p + b) (at_step program input step) q) same a.is) d.is

      by : (x y : Bool) → nat_lt a.step d.step ≡ x → nat_lt d.step a.step ≡ y → q ≡ r
      by true y e f = absurd (not_before p b q r a d (ltb-true a.step d.step e))
      by false true e f = absurd (not_before p b r q d a (ltb-true d.step a.step f))
      by false false e f = at_one (let low = ltb-false a.step d.step e in let high = ltb-false d.step a.step f in omega (arith, low, high))

pub stop_is_first : StopIsFirst
stop_is_first program input is_break p b some = first program input is_break p b some

pub no_other_stop : NoOtherStop
no_other_stop program input is_break p b s some is = one program input is_break p b s (stop program input is_break p b) is (first program input is_break p b some)
