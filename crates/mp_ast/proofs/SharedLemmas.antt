-- What a tree that is kept whole has in all: what its block has, and what the trees in it have, one after another.
use Rattle.std.proofs.Common.{◌≡◌, ℕ, zero, suc, ◌+◌, ◌<◌, ◌≤◌, List, [], ◌∷◌, map, length, drop, get_or, sym, ap, ◌∙◌, subst, arith}
use Rattle.std.proofs.lemmas.List.{length-map, drop_more}
use Rattle.mp_ast.specs.declared.blocks.Block.{Block}
use Rattle.mp_ast.specs.declared.blocks.Tree.{Tree}
use Rattle.mp_ast.specs.declared.blocks.Tree.TheViews.{out-roll-Tree, roll-out-Tree}
use Rattle.mp_base.specs.declared.limits.TheConstants.{DECLARATION_LIMIT}
use Rattle.mp_ast.specs.PlainTrees.{TreeOf, plain_declaration, plain_block, trees_of, plain_tree}
use Rattle.mp_ast.specs.Blocks.{tokens_of, tokens_of_all}
use Rattle.mp_ast.specs.WholeTrees.{IsWhole}
use Rattle.mp_ast.specs.SharedTrees.{IsOfAProgram, node, own_of, inside_of, declarations_of, declarations_of_all}
use Rattle.mp_ast.specs.TreeSizes.{total, size_of, size_of-roll}
use Rattle.mp_ast.proofs.PlainTreeLemmas.{plain_tree-roll}

-- ---- the parts of a tree

pub node-parts : (t : Tree) → node (own_of t) (inside_of t) ≡ t
node-parts t = roll-out-Tree t

pub own_of-node : (own : Block) (inside : List Tree) → own_of (node own inside) ≡ own
own_of-node own inside = ap (λ x. x.own) (out-roll-Tree (record { own = own; inside = inside }))

pub inside_of-node : (own : Block) (inside : List Tree) → inside_of (node own inside) ≡ inside
inside_of-node own inside = ap (λ x. x.inside) (out-roll-Tree (record { own = own; inside = inside }))

pub plain_tree-parts : (t : Tree) → plain_tree t ≡ TreeOf (plain_block (own_of t)) (trees_of plain_tree (inside_of t))
plain_tree-parts t = ap plain_tree (sym (node-parts t)) ∙ plain_tree-roll (own_of t) (inside_of t)

-- ---- what it has in all

pub tokens_of-node : (own : Block) (inside : List Tree) → tokens_of (plain_tree (node own inside)) ≡ own.tokens + tokens_of_all (trees_of plain_tree inside)
tokens_of-node own inside = ap tokens_of (plain_tree-roll own inside)

pub declarations_of-node : (own : Block) (inside : List Tree) → declarations_of (plain_tree (node own inside)) ≡
    length own.declarations + declarations_of_all (trees_of plain_tree inside)
declarations_of-node own inside =
    ap declarations_of (plain_tree-roll own inside) ∙ ap (λ n. n + declarations_of_all (trees_of plain_tree inside)) (length-map own.declarations plain_declaration)

-- the rest of a list, from an item on
pub rest_from : {X : Type 0} (l : List X) (i : ℕ) (x : X) → i < length l → x ≡ get_or l i x → drop i l ≡ x ∷ drop (i + 1) l
rest_from l i x lt e = drop_more l i x lt ∙ ap (λ y. y ∷ drop (i + 1) l) (sym e)

pub tokens_of-rest :
    (l : List Tree) (i : ℕ) (t : Tree) → i < length l → t ≡ get_or l i t →
    tokens_of_all (trees_of plain_tree (drop i l)) ≡ tokens_of (plain_tree t) + tokens_of_all (trees_of plain_tree (drop (i + 1) l))
tokens_of-rest l i t lt e = ap (λ m. tokens_of_all (trees_of plain_tree m)) (rest_from l i t lt e)

pub declarations_of-rest :
    (l : List Tree) (i : ℕ) (t : Tree) → i < length l → t ≡ get_or l i t →
    declarations_of_all (trees_of plain_tree (drop i l)) ≡ declarations_of (plain_tree t) + declarations_of_all (trees_of plain_tree (drop (i + 1) l))
declarations_of-rest l i t lt e = ap (λ m. declarations_of_all (trees_of plain_tree m)) (rest_from l i t lt e)

-- ---- a tree of a program

pub whole-parts : (t : Tree) → IsOfAProgram t → IsWhole (TreeOf (plain_block (own_of t)) (trees_of plain_tree (inside_of t)))
whole-parts t p = subst IsWhole (plain_tree-parts t) p.whole

pub tokens_of-parts : (t : Tree) → tokens_of (plain_tree t) ≡ (own_of t).tokens + tokens_of_all (trees_of plain_tree (inside_of t))
tokens_of-parts t = ap tokens_of (plain_tree-parts t)

pub few-declarations : (t : Tree) → IsOfAProgram t → length (own_of t).declarations < DECLARATION_LIMIT
few-declarations t p =
    let e = ap declarations_of (plain_tree-parts t) in
    let n = length-map (own_of t).declarations plain_declaration in
    let f = p.few in
    omega (arith, e, n, f)

-- ---- each part is smaller than the whole

part_of_total : (l : List Tree) (i : ℕ) (u : Tree) (behind : List Tree) → drop i l ≡ u ∷ behind → size_of u ≤ total (map size_of l)
part_of_total l zero u behind e = let n = ap (λ l. total (map size_of l)) e in omega (arith, n)
part_of_total [] (suc i) u behind e = let n = ap length e in absurd (omega (arith, n))
part_of_total (t ∷ l) (suc i) u behind e = let rest = part_of_total l i u behind e in omega (arith, rest)

pub part_is_smaller : (t : Tree) (i : ℕ) (u : Tree) (behind : List Tree) → drop i (inside_of t) ≡ u ∷ behind → size_of u < size_of t
part_is_smaller t i u behind e =
    let part = part_of_total (inside_of t) i u behind e in
    let whole = ap size_of (sym (node-parts t)) ∙ size_of-roll (own_of t) (inside_of t) in
    omega (arith, part, whole)
