-- What stands one block deeper, for the code that has tested that it may.
use Rattle.std.proofs.Common.{◌≡◌, ℕ, zero, suc, ◌-◌, ◌<◌, ◌≤◌, None, refl, ap, ◌∙◌, arith}
use Rattle.mp_ast.specs.declared.blocks.Tree.{Tree}
use Rattle.mp_ast.specs.Rules.{Input}
use Rattle.mp_ast.specs.BlockGrammar.{Limits}
use Rattle.mp_cursor.specs.Parsers.{Outcome, Parser, ◌<$>◌, deeper, too_deep, with_own_ordinals}
use Rattle.mp_parse.specs.Blocks.{nested_block, block_with, tree_of}

abbrev failed : {A : Type 0} → Input → Outcome A
failed i = Rattle.std.proofs.Common.Err (too_deep i)

pub deeper_more : {A : Type 0} (depth : ℕ) (p : Parser A) → 0 < depth → deeper depth p ≡ p
deeper_more zero p h = absurd (omega arith)
deeper_more (suc depth) p h = refl

pub deeper_none : {A : Type 0} (depth : ℕ) (p : Parser A) (i : Input) → depth ≤ 0 → deeper depth p i ≡ failed i
deeper_none zero p i h = refl
deeper_none (suc depth) p i h = absurd (omega arith)

abbrev one_deeper : Limits → ℕ → Parser Tree
one_deeper limits depth = with_own_ordinals (tree_of limits <$> block_with limits None depth (nested_block limits depth))

nested_suc : (limits : Limits) (depth : ℕ) → nested_block limits (suc depth) ≡ one_deeper limits depth
unfolding nested_block
nested_suc limits depth = refl

pub nested_is : (limits : Limits) (depth : ℕ) → 0 < depth → nested_block limits depth ≡ one_deeper limits (depth - 1)
nested_is limits zero h = absurd (omega arith)
nested_is limits (suc depth) h = nested_suc limits depth ∙ ap (one_deeper limits) (let e : depth ≡ suc depth - 1 = omega arith in e)
