-- How many blocks a tree has. No statement cites this: it says that a tree is larger than each of those in it.
use Rattle.std.specs.Prelude.{ℕ, ◌+◌, ◌≤◌, ◌≡◌, List, [], ◌∷◌, map}
use Rattle.std.proofs.Common.{arith, ap, refl, ◌∙◌}
use denote.Param.Weighed.{most}
use Rattle.mp_ast.specs.declared.blocks.Block.{Block}
use Rattle.mp_ast.specs.declared.blocks.Tree.{Tree, roll-Tree, fold-Tree, fold-roll-Tree}
use Rattle.mp_ast.specs.declared.blocks.Tree.TheOpen.{Tree-F}

abbrev pub total : List ℕ → ℕ
total [] = 0
total (n ∷ l) = n + total l

abbrev size_layer : Tree-F ℕ → ℕ
size_layer t = 1 + total t.inside

unfoldable pub size_of : Tree → ℕ
size_of t = fold-Tree ℕ size_layer t

same_total : (h : Tree → ℕ) → ((t : Tree) → h t ≡ size_of t) → (l : List Tree) → total (map h l) ≡ total (map size_of l)
same_total h each [] = refl
same_total h each (t ∷ l) = ap (λ n. n + total (map h l)) (each t) ∙ ap (λ n. size_of t + n) (same_total h each l)

pub size_of-roll : (own : Block) (inside : List Tree) → size_of (roll-Tree (record { own = own; inside = inside })) ≡ 1 + total (map size_of inside)
unfolding size_of
size_of-roll own inside =
    fold-roll-Tree ℕ size_layer (record { own = own; inside = inside }) ∙ ap (λ s. 1 + s) (same_total _ (λ _. refl) inside)

most_le : (l : List Tree) → most (λ t. size_of t + 1) l ≤ total (map size_of l) + 1
most_le [] = omega arith
most_le (t ∷ l) = let rest = most_le l in omega (arith, rest)

pub children_are_smaller : (own : Block) (inside : List Tree) → most (λ t. size_of t + 1) inside ≤ size_of (roll-Tree (record { own = own; inside = inside }))
children_are_smaller own inside =
    let e = size_of-roll own inside in
    let m = most_le inside in
    omega (arith, m, e)
