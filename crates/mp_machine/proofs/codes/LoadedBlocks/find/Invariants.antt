use Rattle.std.proofs.Common.{◌≡◌, drop}
use Rattle.mp_machine.specs.States.{code_of}
use Rattle.mp_machine.proofs.codes.LoadedBlocks.find.Given as goal

-- the blocks that are left tell for all
abbrev pub invariant-blocks-2 : goal.invariant-blocks-2
invariant-blocks-2 l = code_of (drop l.place l.self) l.path ≡ code_of l.self l.path
