use Rattle.std.proofs.Common.{◌≡◌, drop}
use Rattle.mp_machine.specs.CallRows.{number_from}
use Rattle.mp_machine.proofs.frames.number_of_block.Given as goal

-- the blocks that are left tell for all
abbrev pub invariant-blocks-2 : goal.invariant-blocks-2
invariant-blocks-2 l = number_from l.k (drop l.k l.blocks.items) l.path ≡ number_from 0 l.blocks.items l.path
