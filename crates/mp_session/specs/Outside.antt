-- What went wrong outside in a call.
use Rattle.std.specs.Prelude.{◌≡◌, ℕ, ◌≤◌, Bool, true}
use Rattle.mp_edge.specs.Causes.{Rose, counted}

-- What the counts of a sink, or of a source, say of a call in which a write, or a read, failed or did not: the count of
-- faults never falls, and rose where one failed; that of failed calls says whether one did; and what never fails did not
-- and never will.
pub record Failures (failed : Bool) (faults_before faults_after failures_before failures_after : ℕ) (quiet_before quiet_after : Type 0) : Type 0 where
  pub later : faults_before ≤ faults_after
  pub cause : failed ≡ true → Rose faults_before faults_after
  pub failures : failures_after ≡ counted failed failures_before
  pub quiet : quiet_before → quiet_after × (faults_after ≡ faults_before)
