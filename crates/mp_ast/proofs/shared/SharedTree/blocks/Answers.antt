use Rattle.std.proofs.Common.{arith}
use Rattle.mp_ast.proofs.shared.SharedTree.blocks.Goals as goal

pub add_blocks-requires : goal.add_blocks-requires
add_blocks-requires c = let p = c.own-own.ensures.tree in let s = p.small in omega (arith, s)
