use Rattle.std.proofs.Common.{◌≡◌, ◌+◌, ◌-◌, ◌*◌}
use Rattle.mp_ast.specs.Programs.{standard}
use Rattle.mp_cursor.specs.Parsers.{loop}
use Rattle.mp_parse.specs.Blocks.{declaring, declarations, further_declaration, nested_block}
use Rattle.mp_parse.proofs.blocks.+blocks.Given as goal

-- each call is for less depth, or for the same and of a lower rank
abbrev pub decreases-nested_block : goal.decreases-nested_block
decreases-nested_block l = 8 * l.depth

abbrev pub decreases-block_body : goal.decreases-block_body
decreases-block_body l = 8 * l.depth + 1

abbrev pub decreases-declared_body : goal.decreases-declared_body
decreases-declared_body l = 8 * l.depth + 2

abbrev pub decreases-declaration : goal.decreases-declaration
decreases-declaration l = 8 * l.depth + 3

abbrev pub decreases-further_declaration : goal.decreases-further_declaration
decreases-further_declaration l = 8 * l.depth + 4

abbrev pub decreases-declarations : goal.decreases-declarations
decreases-declarations l = 8 * l.depth + 5

abbrev pub decreases-block : goal.decreases-block
decreases-block l = 8 * l.depth + 6

abbrev pub invariant-declarations-declarations : goal.invariant-declarations-declarations
invariant-declarations-declarations l =
    declarations standard l.depth (nested_block standard l.depth) l.fn.tokens ≡ loop declaring
    (further_declaration standard l.depth (nested_block standard l.depth)) (l._turn-end - l._turn) l.found l.tokens
