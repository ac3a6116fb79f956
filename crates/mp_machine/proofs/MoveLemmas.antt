-- A file that is moved or written, among the files of a run.
use Rattle.std.proofs.Common.{◌≡◌, ℕ, true, false, Some, length, refl, sym, subst, ◌∙◌, ap}
use Rattle.std.specs.Prelude.{nat_lt, slice_index_or, slice_set}
use Rattle.std.proofs.lemmas.Bool.{ltb-true, ltb-false}
use Rattle.std.proofs.lemmas.Option.{slice_get-get_or, slice_get_past}
use Rattle.mp_files.specs.declared.causes.FileEnd.{FileEnd}
use Rattle.mp_files.specs.declared.causes.FileEnd.TheVariants as end
use Rattle.mp_files.specs.RunFiles.{fault_of}
use Rattle.mp_files.specs.TextFiles.{FileCall, Fails, Gives, TextFile, closed_file}
use Rattle.mp_machine.specs.FileRows.{on_number, result}
use Rattle.mp_machine.specs.FileStops.{stop_for}
use Rattle.mp_machine.specs.Outcomes.{Done, bind, needs}
use Rattle.mp_machine.specs.Shown.{IsStuck, Stops}
use Rattle.mp_machine.specs.States.{State}

module _ {A : Type 0} (k : ℕ) (q : TextFile → FileCall A) (s : State) where
  moved_is : nat_lt k (length s.files) ≡ true → on_number (Some k) q s ≡ result (Some k) (q (slice_index_or s.files k closed_file)) s
  moved_is there = ap (λ o. bind (needs o s) (λ f t. result (Some k) (q f) t)) (slice_get-get_or s.files k closed_file (ltb-true k (length s.files) there))

  pub moved_gives : (x : A) (g : TextFile) → nat_lt k (length s.files) ≡ true → q (slice_index_or s.files k closed_file) ≡ Gives x g →
      on_number (Some k) q s ≡ Done x (record s { files = slice_set s.files k g })
  moved_gives x g there e = moved_is there ∙ ap (λ c. result (Some k) c s) e

  stops_by : (c : FileCall A) (e : FileEnd) → fault_of c ≡ Some e → Stops (stop_for e) (result (Some k) c s) s
  stops_by (Gives x g) e h = absurd (let v : ⊥ = cc in v)
  stops_by (Fails n) e h = let same : end.Fault n ≡ e = cc in subst (λ e. Stops (stop_for e) (result {A = A} (Some k) (Fails n) s) s) same refl

  pub moved_stops : (e : FileEnd) → nat_lt k (length s.files) ≡ true → fault_of (q (slice_index_or s.files k closed_file)) ≡ Some e →
      Stops (stop_for e) (on_number (Some k) q s) s
  moved_stops e there h = subst (λ o. Stops (stop_for e) o s) (sym (moved_is there)) (stops_by (q (slice_index_or s.files k closed_file)) e h)

  pub moved_nothing : nat_lt k (length s.files) ≡ false → IsStuck (on_number (Some k) q s)
  moved_nothing none = subst IsStuck (sym (ap (λ o. bind (needs o s) (λ f t. result (Some k) (q f) t)) (slice_get_past s.files k (ltb-false k (length s.files) none)))) tt
