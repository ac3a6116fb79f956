-- What is asked of a file, in terms of the files of a run.
use Rattle.std.proofs.Common.{◌≡◌, ℕ, true, false, Some, length, refl, sym, subst, ◌∙◌, ap}
use Rattle.std.specs.Prelude.{nat_lt, slice_index_or}
use Rattle.std.proofs.lemmas.Bool.{ltb-true, ltb-false}
use Rattle.std.proofs.lemmas.Option.{slice_get-get_or, slice_get_past}
use Rattle.mp_files.specs.declared.causes.FileEnd.{FileEnd}
use Rattle.mp_files.specs.declared.causes.FileEnd.TheVariants as end
use Rattle.mp_files.specs.RunFiles.{fault_of}
use Rattle.mp_files.specs.TextFiles.{FileCall, Fails, Gives, TextFile, closed_file}
use Rattle.mp_machine.specs.FileRows.{answer, asked}
use Rattle.mp_machine.specs.FileStops.{stop_for}
use Rattle.mp_machine.specs.Outcomes.{Done, bind, needs}
use Rattle.mp_machine.specs.Shown.{IsStuck, Stops}
use Rattle.mp_machine.specs.States.{State}

module _ {A : Type 0} (k : ℕ) (q : TextFile → FileCall A) (s : State) where
  asked_is : nat_lt k (length s.files) ≡ true → asked (Some k) q s ≡ answer (q (slice_index_or s.files k closed_file)) s
  asked_is there = ap (λ o. bind (needs o s) (λ f t. answer (q f) t)) (slice_get-get_or s.files k closed_file (ltb-true k (length s.files) there))

  pub asked_gives : (x : A) (g : TextFile) → nat_lt k (length s.files) ≡ true → q (slice_index_or s.files k closed_file) ≡ Gives x g → asked (Some k) q s ≡ Done x s
  asked_gives x g there e = asked_is there ∙ ap (λ c. answer c s) e

  stops_by : (c : FileCall A) (e : FileEnd) → fault_of c ≡ Some e → Stops (stop_for e) (answer c s) s
  stops_by (Gives x g) e h = absurd (let v : ⊥ = cc in v)
  stops_by (Fails n) e h = let same : end.Fault n ≡ e = cc in subst (λ e. Stops (stop_for e) (answer {A = A} (Fails n) s) s) same refl

  pub asked_stops : (e : FileEnd) → nat_lt k (length s.files) ≡ true → fault_of (q (slice_index_or s.files k closed_file)) ≡ Some e → Stops (stop_for e) (asked (Some k) q s) s
  asked_stops e there h = subst (λ o. Stops (stop_for e) o s) (sym (asked_is there)) (stops_by (q (slice_index_or s.files k closed_file)) e h)

  pub asked_nothing : nat_lt k (length s.files) ≡ false → IsStuck (asked (Some k) q s)
  asked_nothing none = subst IsStuck (sym (ap (λ o. bind (needs o s) (λ f t. answer (q f) t)) (slice_get_past s.files k (ltb-false k (length s.files) none)))) tt
