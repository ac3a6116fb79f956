-- Walking over the blocks that stand directly in a block: each turn takes the next declaration with a block, and its tree.
use Rattle.std.proofs.Common.{◌≡◌, ℕ, ◌+◌, ◌≤◌, Bool, true, false, cond, List, [], ◌∷◌, map, filter, count_by, length, refl, sym, ap, ◌∙◌, subst, arith}
use Rattle.std.specs.Prelude.{bytes_eq}
use Rattle.mp_base.specs.declared.limits.TheConstants.{TEXT_LIMIT}
use Rattle.mp_ast.specs.declared.blocks.Block.{Block}
use Rattle.mp_ast.specs.declared.blocks.Declaration.{Declaration}
use Rattle.mp_ast.specs.declared.blocks.Tree.{Tree}
use Rattle.mp_ast.specs.PlainTrees.{PlainDeclaration, plain_declaration, trees_of, plain_tree}
use Rattle.mp_ast.specs.Blocks.{Nested, nested_after, is_block, tokens_of, tokens_of_all}
use Rattle.mp_ast.specs.WholeTrees.{AreWhole}
use Rattle.mp_ast.specs.SharedTrees.{IsOfAProgram, own_of, inside_of}
use Rattle.mp_ast.specs.Descent.{nested_of}
use Rattle.mp_ast.proofs.BlockLemmas.{low_within}
use Rattle.mp_ast.proofs.SharedLemmas.{whole-parts, tokens_of-parts}

-- those of these declarations that have a block
abbrev pub with_blocks : List Declaration → List Declaration
with_blocks declarations = filter (λ d. is_block d.body) declarations

kept : (b : Bool) (d : Declaration) (xs : List PlainDeclaration) (ys : List Declaration) → xs ≡ map plain_declaration ys →
    cond b (plain_declaration d ∷ xs) xs ≡ map plain_declaration (cond b (d ∷ ys) ys)
kept true d xs ys e = ap (λ l. plain_declaration d ∷ l) e
kept false d xs ys e = e

plain_blocks : (ds : List Declaration) → filter (λ d. is_block d.body) (map plain_declaration ds) ≡ map plain_declaration (with_blocks ds)
plain_blocks [] = refl
plain_blocks (d ∷ ds) = kept (is_block d.body) d (filter (λ d. is_block d.body) (map plain_declaration ds)) (with_blocks ds) (plain_blocks ds)

-- the nested block of a declaration, behind those of these names
abbrev pub nested_by : List (List ℕ) → Declaration → Nested
nested_by earlier d =
    let name = d.heading.name.name in
    record { step = record { name = name; nth = count_by (bytes_eq name) earlier + 1 }; semicolon = d.semicolon }

pub nested_next :
    (earlier : List (List ℕ)) (ds : List Declaration) (d : Declaration) (more : List Declaration) → with_blocks ds ≡ d ∷ with_blocks more →
    nested_of earlier ds ≡ nested_by earlier d ∷ nested_of (d.heading.name.name ∷ earlier) more
nested_next earlier ds d more h =
    ap (nested_after earlier) (plain_blocks ds ∙ ap (map plain_declaration) h) ∙
    ap (λ l. nested_by earlier d ∷ nested_after (d.heading.name.name ∷ earlier) l) (sym (plain_blocks more))

pub nested_none : (earlier : List (List ℕ)) (ds : List Declaration) → with_blocks ds ≡ [] → nested_of earlier ds ≡ []
nested_none earlier ds h = ap (nested_after earlier) (plain_blocks ds ∙ ap (map plain_declaration) h)

-- ---- what is still to come

-- These declarations and trees are what is left of a block's own, behind nested blocks of these names, where the block's
-- tokens stand from the index `start` on.
pub record Remain (own : Block) (start : ℕ) (earlier : List (List ℕ)) (ds : List Declaration) (trees : List Tree) : Type 0 where
  pub low : ℕ
  pub whole : AreWhole own.tokens low (nested_of earlier ds) (trees_of plain_tree trees)
  pub few : length earlier ≤ low
  pub small : start + own.tokens + tokens_of_all (trees_of plain_tree trees) ≤ TEXT_LIMIT

pub all_remain :
    (t : Tree) (start : ℕ) → IsOfAProgram t → start + tokens_of (plain_tree t) ≤ TEXT_LIMIT →
    Remain (own_of t) start [] (own_of t).declarations (inside_of t)
all_remain t start p small =
    let e = tokens_of-parts t in
    record { low = 0; whole = whole-parts t p; few = omega arith; small = omega (arith, e, small) }

module _ (own : Block) (start : ℕ) (earlier : List (List ℕ)) (ds : List Declaration) (trees : List Tree) (r : Remain own start earlier ds trees) where
  -- there are no more of them than tokens
  pub few_remain : length earlier ≤ own.tokens
  few_remain =
      let w = low_within own.tokens r.low (nested_of earlier ds) (trees_of plain_tree trees) r.whole in
      let f = r.few in
      omega (arith, w, f)

  pub start_is_small : start + own.tokens ≤ TEXT_LIMIT
  start_is_small = let s = r.small in omega (arith, s)

  module _ (d : Declaration) (more : List Declaration) (t : Tree) (behind : List Tree) (h : with_blocks ds ≡ d ∷ with_blocks more) (e : trees ≡ t ∷ behind) where
    parts : AreWhole own.tokens r.low (nested_by earlier d ∷ nested_of (d.heading.name.name ∷ earlier) more) (trees_of plain_tree (t ∷ behind))
    parts =
        subst (λ ts. AreWhole own.tokens r.low (nested_by earlier d ∷ nested_of (d.heading.name.name ∷ earlier) more) (trees_of plain_tree ts)) e
        (subst (λ n. AreWhole own.tokens r.low n (trees_of plain_tree trees)) (nested_next earlier ds d more h) r.whole)

    -- its first own token, and all of its tokens, are within the text
    pub next_is_small : start + d.semicolon + 1 + tokens_of (plain_tree t) ≤ TEXT_LIMIT
    next_is_small =
        let w = low_within own.tokens (d.semicolon + 1) (nested_of (d.heading.name.name ∷ earlier) more) (trees_of plain_tree behind) parts.2 in
        let s = r.small in
        let c = ap (λ ts. tokens_of_all (trees_of plain_tree ts)) e in
        omega (arith, w, s, c)

    pub next_remain : Remain own (start + tokens_of (plain_tree t)) (d.heading.name.name ∷ earlier) more behind
    next_remain =
        let c = ap (λ ts. tokens_of_all (trees_of plain_tree ts)) e in
        let p = parts in
        let l = p.0 in
        let f = r.few in
        let s = r.small in
        record { low = d.semicolon + 1; whole = p.2; few = omega (arith, l, f); small = omega (arith, s, c) }
