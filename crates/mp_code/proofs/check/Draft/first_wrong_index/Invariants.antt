use Rattle.std.proofs.Common.{◌≡◌, ◌<◌, ℕ, false}
use Rattle.mp_code.specs.Drafts.{draft_code, is_wrong_here}
use Rattle.mp_code.proofs.check.Draft.first_wrong_index.Given as goal

-- no clause fails before this index
abbrev pub invariant-indexes : goal.invariant-indexes
invariant-indexes l = (j : ℕ) → j < l.at → is_wrong_here (draft_code l.fn.self) j ≡ false
