-- Means of the check; no statement of the crate cites this.
use Rattle.std.specs.Prelude.{◌≡◌, ℕ, ◌<◌, Bool, true, false, not, ◌||◌}
use Rattle.mp_code.specs.declared.check.Draft.{Draft}
use Rattle.mp_code.specs.BlockCode.{BlockCode}
use Rattle.mp_code.specs.Shape.{is_wrong_instruction, is_wrong_length, is_wrong_start, leads_well}

-- code that may have any shape, as plain data
abbrev pub draft_code : Draft → BlockCode
draft_code d = record { instructions = d.instructions.items; depths = d.depths.items; labels = d.labels.items; frame = d.frame; counted = d.counted }

-- a clause fails at the index, that on labels aside
abbrev pub is_wrong_here : BlockCode → ℕ → Bool
is_wrong_here code k = (is_wrong_start code k || is_wrong_length code k) || is_wrong_instruction code k

-- no label may stand at the index
abbrev pub is_wrong_target : BlockCode → ℕ → Bool
is_wrong_target code k = not (leads_well code 0 k)

pub record IsFirst (test : ℕ → Bool) (k : ℕ) : Type 0 where
  pub passes : test k ≡ true
  pub least : (j : ℕ) → j < k → test j ≡ false
