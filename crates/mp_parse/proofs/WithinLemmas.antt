-- What the parser makes a tree of is within the limits of a program: its parts fit together, and it has no more tokens
-- than the text and no more declarations than a program may have.
use Rattle.std.proofs.Common.{◌≡◌, ℕ, ◌+◌, ◌≤◌, List, length, Option, Some, ap, ◌∙◌, arith}
use Rattle.mp_base.specs.declared.limits.TheConstants.{TEXT_LIMIT}
use Rattle.mp_ast.specs.declared.symbols.Symbol.TheVariants as s
use Rattle.mp_ast.specs.declared.blocks.Block.{Block}
use Rattle.mp_ast.specs.declared.blocks.ProgramHeading.{ProgramHeading}
use Rattle.mp_ast.specs.declared.blocks.Tree.{Tree}
use Rattle.mp_ast.specs.Rules.{Input}
use Rattle.mp_ast.specs.Programs.{standard}
use Rattle.mp_ast.specs.SharedTrees.{IsOfAProgram, node}
use Rattle.mp_ast.proofs.CountingBlocks.{block_within_limits, program_within_limits}
use Rattle.mp_cursor.specs.declared.next.Next.TheVariants.{Symbol}
use Rattle.mp_cursor.specs.Parsers.{Outcome, and_then, expect}
use Rattle.mp_cursor.proofs.RuleLaws.{read}
use Rattle.mp_parse.specs.Blocks as p
use Rattle.mp_parse.proofs.DeclarationLaws.{law_program, law_nested_block, law_block}

-- a block in which so many more may stand in one another
pub block_within :
    (heading : Option ProgramHeading) (depth : ℕ) (i : Input) (own : Block) (inside : List Tree) (j : Input) →
    p.block standard heading depth i ≡ read (own, inside) j → i.at + length i.rest ≤ TEXT_LIMIT → IsOfAProgram (node own inside)
block_within heading depth i own inside j h small =
    block_within_limits standard heading depth i own inside j
    ((law_block (law_nested_block standard depth) standard (λ room. room) heading depth).sound i (own, inside) j h) small (omega arith)

after : {A B : Type 0} (o : Outcome A) (x : A) (j : Input) (f : A → Input → Outcome B) → o ≡ read x j → and_then o f ≡ f x j
after o x j f h = ap (λ o. and_then o f) h

-- a program, by what is read of it one after another
pub program_within :
    (i m n k : Input) (heading : ProgramHeading) (own : Block) (inside : List Tree) (at : ℕ) →
    p.program_heading standard i ≡ read heading m →
    p.block standard (Some heading) standard.depth m ≡ read (own, inside) n →
    expect (Symbol s.Dot) n ≡ read at k → i.at + length i.rest ≤ TEXT_LIMIT →
    IsOfAProgram (node (record own { tokens = k.at }) inside)
unfolding p.program
program_within i m n k heading own inside at a b c small =
    program_within_limits standard i (node (record own { tokens = k.at }) inside) k
    ((law_program standard).sound i (node (record own { tokens = k.at }) inside) k
    (after (p.program_heading standard i) heading m _ a ∙ after (p.block standard (Some heading) standard.depth m) (own, inside) n _ b ∙
    after (expect (Symbol s.Dot) n) at k _ c))
    small (omega arith)
