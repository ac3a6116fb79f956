-- Runs with fewer and with more starts: what holds at each step, and of a step and a later one.
use Rattle.std.proofs.Common.{◌≡◌, ℕ, zero, suc, ◌+◌, ◌-◌, ◌<◌, ◌≤◌, List, [], ◌∷◌, Option, Some, None, Bool, true, refl, sym, ap, ◌∙◌, subst, arith}
use Rattle.mp_base.specs.declared.place.Place.{Place}
use Rattle.mp_files.specs.TextFiles.{TextFile, input_file, output_file, shown}
use Rattle.mp_meaning.specs.FileCalls.{buffer_value}
use Rattle.mp_meaning.specs.Names.{Path}
use Rattle.mp_meaning.specs.Programs.{Program, block_of}
use Rattle.mp_meaning.specs.Values.{File, Structure, NoValues, Then}
use Rattle.mp_meaning.specs.Configurations.{Configuration, Activation, output_of}
use Rattle.mp_meaning.specs.Outcomes.{Outcome, Done, Jump, Fault, Limit, Hole, Paused, Spent, Wrong}
use Rattle.mp_meaning.specs.Calls.{leave_procedure}
use Rattle.mp_meaning.specs.Statements.{run}
use Rattle.mp_meaning.specs.Steps.{before_program, program, up_to, Ending, Ended, Faulted, Limited, MetHole, Standing, NotBegun, Stands, Ends, Nowhere, standing, place_at}
use Rattle.mp_meaning.specs.Laws.{HasParent, IsNotSpent, AreInOrder, ActivationsAreInOrder, AddsTo, OutputGrows, EndingsStay, StandsBefore, StartsAreCounted, HolesAreClosed}
use Rattle.mp_meaning.proofs.FuelLaw.{runs_are_bounded}
use Rattle.mp_meaning.proofs.SameLaw.{bound_is_enough}
use Rattle.mp_meaning.proofs.GrowthValues.{NoTags, output_grown}
use Rattle.mp_meaning.proofs.SteadyOutcomes.{Upright, Onward, So, SteadyAt, bind_at, needs_steady}
use Rattle.mp_meaning.proofs.SteadyExpressions.{needs_still, left_steady, call_block_at}
use Rattle.mp_meaning.proofs.SteadyStatements.{run_steady}

-- ---- the whole program

program_steady : (p : Program) (k : ℕ) (input : List ℕ) (n : ℕ) → SteadyAt p.is_closed (before_program input n) (program p k)
program_steady p k input n =
    bind_at (before_program input n) ((needs_steady (block_of p [])).by (before_program input n)) (λ b block d roots acts e.
    let same : d.activations ≡ [] = ap (λ d. d.activations) (needs_still (block_of p []) b block d e) ∙ acts in
    call_block_at p (run p k) (run_steady p k) block.begin [] 0 NoValues leave_procedure d (by d.activations same) (λ block number. left_steady block number))
  where
    by : (acts : List Activation) → acts ≡ [] → HasParent 0 acts
    by [] e = tt
    by (a ∷ older) e = absurd (let f : ⊥ = cc in f)

-- ---- before the program

buffer_tags : (b : Option ℕ) → NoTags (buffer_value b)
buffer_tags None = tt
buffer_tags (Some n) = tt

file_tags : (f : TextFile) (b : Option ℕ) → NoTags (Structure (Then (File f) (Then (buffer_value b) NoValues)))
file_tags f b = (λ e. absurd (let f : ⊥ = cc in f), tt, (λ e. refl, buffer_tags b, tt))

upright : (input : List ℕ) (n : ℕ) → 0 < n → Upright (before_program input n)
upright input n some = record {
  in_order = tt;
  some = omega arith;
  left = some;
  tags = (λ e. absurd (let f : ⊥ = cc in f), file_tags (input_file input) (shown (input_file input)), (λ e. refl, file_tags output_file (shown output_file), tt));
}

run_onward : (p : Program) (input : List ℕ) (n : ℕ) → 0 < n → Onward p.is_closed (before_program input n) (up_to p input n)
run_onward p input n some = (program_steady p n input n).onward (upright input n some)

-- the same run with more starts
run_so : (p : Program) (input : List ℕ) (n m : ℕ) → 0 < n → n ≤ m → So p.is_closed (m - n) (up_to p input n) (up_to p input m)
run_so p input n m some le =
    subst (λ o. So p.is_closed (m - n) o (up_to p input m)) (bound_is_enough p input n m some le)
    (subst (λ left. So p.is_closed (m - n) (program p m (before_program input n)) (program p m (before_program input left))) (all n m le)
    ((program_steady p m input n).so (m - n) (upright input n some)))
  where
    all : (n m : ℕ) → n ≤ m → n + (m - n) ≡ m
    all n m le = omega (arith, le)

-- ---- at one step

in_order : {closed : Path → Bool} (b c : Configuration) (n : ℕ) (o : Outcome (Unit {0})) → Onward closed b o → standing n o ≡ Stands c → AreInOrder c.next c.activations
in_order b c n (Paused d) g e = let same : d ≡ c = cc in subst (λ d. AreInOrder d.next d.activations) same (let h = g.by in h.0)
in_order b c n (Done v d) g e = absurd (let f : ⊥ = cc in f)
in_order b c n (Jump l r d) g e = absurd (let f : ⊥ = cc in f)
in_order b c n (Fault x at d) g e = absurd (let f : ⊥ = cc in f)
in_order b c n (Limit x at d) g e = absurd (let f : ⊥ = cc in f)
in_order b c n (Hole path at d) g e = absurd (let f : ⊥ = cc in f)
in_order b c n Spent g e = absurd (let f : ⊥ = cc in f)
in_order b c n Wrong g e = absurd (let f : ⊥ = cc in f)

pub activations_are_in_order : ActivationsAreInOrder
activations_are_in_order p input zero c e = absurd (let f : ⊥ = cc in f)
activations_are_in_order p input (suc n) c e = in_order (before_program input (suc n)) c (suc n) (up_to p input (suc n)) (run_onward p input (suc n) (omega arith)) e

none_left : {closed : Path → Bool} (b c : Configuration) (n : ℕ) (o : Outcome (Unit {0})) → Onward closed b o → standing n o ≡ Stands c → c.left ≡ 0
none_left b c n (Paused d) g e = let same : d ≡ c = cc in subst (λ d. d.left ≡ 0) same (let h = g.by in h.1)
none_left b c n (Done v d) g e = absurd (let f : ⊥ = cc in f)
none_left b c n (Jump l r d) g e = absurd (let f : ⊥ = cc in f)
none_left b c n (Fault x at d) g e = absurd (let f : ⊥ = cc in f)
none_left b c n (Limit x at d) g e = absurd (let f : ⊥ = cc in f)
none_left b c n (Hole path at d) g e = absurd (let f : ⊥ = cc in f)
none_left b c n Spent g e = absurd (let f : ⊥ = cc in f)
none_left b c n Wrong g e = absurd (let f : ⊥ = cc in f)

fewer : (n left : ℕ) → 0 < n → 0 < left → n - left < n
fewer n left some more = omega (arith, some, more)

fewer_steps : {closed : Path → Bool} (b : Configuration) (n steps : ℕ) (ending : Ending) (output : List ℕ) (o : Outcome (Unit {0})) → 0 < n → Onward closed b o →
    standing n o ≡ Ends ending steps output → steps < n
fewer_steps b n steps ending output (Done v d) some g e = let same : n - d.left ≡ steps = cc in subst (λ s. s < n) same (let h = g.by in fewer n d.left some h.0.left)
fewer_steps b n steps ending output (Fault x at d) some g e = let same : n - d.left ≡ steps = cc in subst (λ s. s < n) same (let h = g.by in fewer n d.left some h.0.left)
fewer_steps b n steps ending output (Limit x at d) some g e = let same : n - d.left ≡ steps = cc in subst (λ s. s < n) same (let h = g.by in fewer n d.left some h.0.left)
fewer_steps b n steps ending output (Hole path at d) some g e = let same : n - d.left ≡ steps = cc in subst (λ s. s < n) same (let h = g.by in fewer n d.left some h.1.0.left)
fewer_steps b n steps ending output (Paused d) some g e = absurd (let f : ⊥ = cc in f)
fewer_steps b n steps ending output (Jump l r d) some g e = absurd (let f : ⊥ = cc in f)
fewer_steps b n steps ending output Spent some g e = absurd (let f : ⊥ = cc in f)
fewer_steps b n steps ending output Wrong some g e = absurd (let f : ⊥ = cc in f)

pub starts_are_counted : StartsAreCounted
starts_are_counted p input zero = (λ c e. absurd (let f : ⊥ = cc in f), λ ending steps output e. absurd (let f : ⊥ = cc in f))
starts_are_counted p input (suc n) =
    let g = run_onward p input (suc n) (omega arith) in (
      λ c e. none_left (before_program input (suc n)) c (suc n) (up_to p input (suc n)) g e,
      λ ending steps output e. fewer_steps (before_program input (suc n)) (suc n) steps ending output (up_to p input (suc n)) (omega arith) g e,
    )

met_closed : {closed : Path → Bool} (b : Configuration) (n steps : ℕ) (path : Path) (place : Place) (output : List ℕ) (o : Outcome (Unit {0})) → Onward closed b o →
    standing n o ≡ Ends (MetHole path place) steps output → closed path ≡ true
met_closed {closed} b n steps path place output (Hole q at d) g e = let same : q ≡ path = cc in subst (λ q. closed q ≡ true) same (let h = g.by in h.0)
met_closed b n steps path place output (Done v d) g e = absurd (let f : ⊥ = cc in f)
met_closed b n steps path place output (Jump l r d) g e = absurd (let f : ⊥ = cc in f)
met_closed b n steps path place output (Fault x at d) g e = absurd (let f : ⊥ = cc in f)
met_closed b n steps path place output (Limit x at d) g e = absurd (let f : ⊥ = cc in f)
met_closed b n steps path place output (Paused d) g e = absurd (let f : ⊥ = cc in f)
met_closed b n steps path place output Spent g e = absurd (let f : ⊥ = cc in f)
met_closed b n steps path place output Wrong g e = absurd (let f : ⊥ = cc in f)

pub holes_are_closed : HolesAreClosed
holes_are_closed p input zero steps path place output e = absurd (let f : ⊥ = cc in f)
holes_are_closed p input (suc n) steps path place output e =
    met_closed (before_program input (suc n)) (suc n) steps path place output (up_to p input (suc n)) (run_onward p input (suc n) (omega arith)) e

-- ---- at a step and a later one

abbrev IsEnding : Standing → Type 0
IsEnding (Ends ending steps output) = Unit {0}
IsEnding NotBegun = ⊥
IsEnding (Stands c) = ⊥
IsEnding Nowhere = ⊥

as_many : (n m left : ℕ) → n ≤ m → m - (left + (m - n)) ≡ n - left
as_many n m left le = omega (arith, le)

-- what has ended ends so with more starts
ending_stays : {closed : Path → Bool} (n m : ℕ) (o q : Outcome (Unit {0})) → n ≤ m → So closed (m - n) o q → IsEnding (standing n o) → standing m q ≡ standing n o
ending_stays n m (Done v d) q le s is = ap (standing m) s.by ∙ ap (λ k. Ends Ended k (output_of d)) (as_many n m d.left le)
ending_stays n m (Fault x at d) q le s is = ap (standing m) s.by ∙ ap (λ k. Ends (Faulted x (place_at at d)) k (output_of d)) (as_many n m d.left le)
ending_stays n m (Limit x at d) q le s is = ap (standing m) s.by ∙ ap (λ k. Ends (Limited x (place_at at d)) k (output_of d)) (as_many n m d.left le)
ending_stays n m (Hole path at d) q le s is = ap (standing m) s.by ∙ ap (λ k. Ends (MetHole path (place_at at d)) k (output_of d)) (as_many n m d.left le)
ending_stays n m (Paused d) q le s is = absurd is
ending_stays n m (Jump l r d) q le s is = absurd is
ending_stays n m Spent q le s is = absurd is
ending_stays n m Wrong q le s is = absurd is

pub endings_stay : EndingsStay
endings_stay p input zero m steps ending output le e = absurd (let f : ⊥ = cc in f)
endings_stay p input (suc n) zero steps ending output le e = absurd (let f : ⊥ = omega (arith, le) in f)
endings_stay p input (suc n) (suc m) steps ending output le e =
    ending_stays (suc n) (suc m) (up_to p input (suc n)) (up_to p input (suc m)) le (run_so p input (suc n) (suc m) (omega arith) le) (subst IsEnding (sym e) tt) ∙ e

stood : {closed : Path → Bool} (more n m : ℕ) (o q : Outcome (Unit {0})) (c : Configuration) → So closed more o q → IsNotSpent o → standing m q ≡ Stands c → (b : Configuration) ×
    (standing n o ≡ Stands b)
stood more n m (Paused d) q c s some e = (d, refl)
stood more n m (Done v d) q c s some e = absurd (let other = sym (ap (standing m) s.by) ∙ e in let f : ⊥ = cc in f)
stood more n m (Jump l r d) q c s some e = absurd (let other = sym (ap (standing m) s.by) ∙ e in let f : ⊥ = cc in f)
stood more n m (Fault x at d) q c s some e = absurd (let other = sym (ap (standing m) s.by) ∙ e in let f : ⊥ = cc in f)
stood more n m (Limit x at d) q c s some e = absurd (let other = sym (ap (standing m) s.by) ∙ e in let f : ⊥ = cc in f)
stood more n m (Hole path at d) q c s some e = absurd (let other = sym (ap (standing m) s.by) ∙ e in let f : ⊥ = cc in f)
stood more n m Spent q c s some e = absurd some
stood more n m Wrong q c s some e = absurd (let other = sym (ap (standing m) s.by) ∙ e in let f : ⊥ = cc in f)

pub stands_before : StandsBefore
stands_before p input zero m c some le e = absurd (let f : ⊥ = omega (arith, some) in f)
stands_before p input (suc n) zero c some le e = absurd (let f : ⊥ = cc in f)
stands_before p input (suc n) (suc m) c some le e =
    stood (suc m - suc n) (suc n) (suc m) (up_to p input (suc n)) (up_to p input (suc m)) c (run_so p input (suc n) (suc m) some le) (runs_are_bounded p input (suc n) some) e

-- what goes on from a pause adds to what was written
adds : {closed : Path → Bool} (m : ℕ) (c : Configuration) (q : Outcome (Unit {0})) → Onward closed c q → AddsTo (output_of c) (standing m q)
adds m c (Done v d) g = let h = g.by in output_grown c d h.1.output
adds m c (Jump l r d) g = tt
adds m c (Fault x at d) g = let h = g.by in output_grown c d h.1.output
adds m c (Limit x at d) g = let h = g.by in output_grown c d h.1.output
adds m c (Hole path at d) g = let h = g.by in output_grown c d h.1.1.output
adds m c (Paused d) g = let h = g.by in output_grown c d h.2.output
adds m c Spent g = tt
adds m c Wrong g = tt

grows : {closed : Path → Bool} (more n m : ℕ) (o q : Outcome (Unit {0})) (c : Configuration) → So closed more o q → standing n o ≡ Stands c → AddsTo (output_of c) (standing m q)
grows more n m (Paused d) q c s e = let same : d ≡ c = cc in subst (λ d. AddsTo (output_of d) (standing m q)) same (adds m d q s.by)
grows more n m (Done v d) q c s e = absurd (let f : ⊥ = cc in f)
grows more n m (Jump l r d) q c s e = absurd (let f : ⊥ = cc in f)
grows more n m (Fault x at d) q c s e = absurd (let f : ⊥ = cc in f)
grows more n m (Limit x at d) q c s e = absurd (let f : ⊥ = cc in f)
grows more n m (Hole path at d) q c s e = absurd (let f : ⊥ = cc in f)
grows more n m Spent q c s e = absurd (let f : ⊥ = cc in f)
grows more n m Wrong q c s e = absurd (let f : ⊥ = cc in f)

pub output_grows : OutputGrows
output_grows p input zero m c le e = absurd (let f : ⊥ = cc in f)
output_grows p input (suc n) zero c le e = absurd (let f : ⊥ = omega (arith, le) in f)
output_grows p input (suc n) (suc m) c le e =
    grows (suc m - suc n) (suc n) (suc m) (up_to p input (suc n)) (up_to p input (suc m)) c (run_so p input (suc n) (suc m) (omega arith) le) e
