use Rattle.std.proofs.Common.{◌≡◌, filter, length}
use Rattle.mp_ast.specs.Blocks.{is_block}
use Rattle.mp_ast.proofs.nested.next_block.Given as goal

-- the same have a block
abbrev pub invariant-declarations : goal.invariant-declarations
invariant-declarations l = filter (λ d. is_block d.body) l.declarations ≡ filter (λ d. is_block d.body) l.rest

abbrev pub decreases-declarations : goal.decreases-declarations
decreases-declarations l = length l.rest
