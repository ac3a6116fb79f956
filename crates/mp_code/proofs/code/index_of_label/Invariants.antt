use Rattle.std.proofs.Common.{◌≡◌, drop}
use Rattle.mp_code.specs.BlockCode.{index_of_label}
use Rattle.mp_code.proofs.code.index_of_label.Given as goal

-- the labels that are left tell for all
abbrev pub invariant-labels : goal.invariant-labels
invariant-labels l = index_of_label (drop l.pair-index l.labels) l.label ≡ index_of_label l.labels l.label
