-- What one turn of a walk over nested blocks does for the way down to a block, for the index of an own token, and for the
-- list of blocks.
use Rattle.std.proofs.Common.{◌≡◌, ℕ, ◌+◌, ◌≤◌, ◌<◌, Bool, true, false, ◌&&◌, cond, List, [], ◌∷◌, ◌++◌, count_by, nat_eq, nat_le, length, Some, None}
use Rattle.std.proofs.Common.{refl, sym, ap, ◌∙◌, arith}
use Rattle.std.specs.Prelude.{bytes_eq}
use Rattle.std.proofs.lemmas.Bool.{cond-true, cond-false, eq-eqb, eqb-true, le-leb, lt-leb, false_from_ne_true}
use Rattle.std.proofs.lemmas.List.Sums.{sum_by-cons, count_by-le-length}
use Rattle.std.proofs.lemmas.Slice.Eq.{bytes_eq-Decides}
use Rattle.mp_base.specs.declared.path.PathStep.{PathStep}
use Rattle.mp_ast.specs.declared.blocks.Declaration.{Declaration}
use Rattle.mp_ast.specs.declared.blocks.Tree.{Tree}
use Rattle.mp_ast.specs.PlainTrees.{PlainTrees, NoTrees, Beside, trees_of, plain_tree}
use Rattle.mp_ast.specs.Blocks.{Nested, tokens_of, same_step, index_from, blocks_from, blocks_inside}
use Rattle.mp_ast.specs.Descent.{StandingTree, nested_of, entered}
use Rattle.mp_ast.proofs.NestedLemmas.{with_blocks, nested_by, nested_next, nested_none}

-- ---- steps

and_false : (b : Bool) → (b && false) ≡ false
and_false true = refl
and_false false = refl

same_name : (a b : List ℕ) → a ≡ b → bytes_eq a b ≡ true
same_name a b e = (bytes_eq-Decides a b).1 e

other_name : (a b : List ℕ) → (a ≡ b → ⊥) → bytes_eq a b ≡ false
other_name a b n = false_from_ne_true (bytes_eq a b) (λ t. n ((bytes_eq-Decides a b).0 t))

module _ (step : PathStep) (earlier : List (List ℕ)) (d : Declaration) where
  abbrev name : List ℕ
  name = d.heading.name.name

  abbrev named : ℕ
  named = count_by (bytes_eq step.name) earlier

  same_number : name ≡ step.name → count_by (bytes_eq name) earlier ≡ named
  same_number e = ap (λ x. count_by (bytes_eq x) earlier) e

  pub is_step : name ≡ step.name → named + 1 ≡ step.nth → same_step (nested_by earlier d).step step ≡ true
  is_step e n =
      let c = same_number e in
      ap (λ b. b && nat_eq (count_by (bytes_eq name) earlier + 1) step.nth) (same_name name step.name e) ∙
      eq-eqb (count_by (bytes_eq name) earlier + 1) step.nth (omega (arith, c, n))

  pub is_other_name : (name ≡ step.name → ⊥) → same_step (nested_by earlier d).step step ≡ false
  is_other_name n = ap (λ b. b && nat_eq (count_by (bytes_eq name) earlier + 1) step.nth) (other_name name step.name n)

  pub is_other_number : name ≡ step.name → (named + 1 ≡ step.nth → ⊥) → same_step (nested_by earlier d).step step ≡ false
  is_other_number e n =
      let c = same_number e in
      ap (λ b. bytes_eq name step.name && b)
      (false_from_ne_true (nat_eq (count_by (bytes_eq name) earlier + 1) step.nth) (λ t.
      let q = eqb-true (count_by (bytes_eq name) earlier + 1) step.nth t in
      n (omega (arith, c, q)))) ∙ and_false (bytes_eq name step.name)

  pub one_more_named : name ≡ step.name → count_by (bytes_eq step.name) (name ∷ earlier) ≡ named + 1
  one_more_named e =
      let c = sum_by-cons (λ x. cond (bytes_eq step.name x) 1 0) name earlier in
      let one = ap {B = ℕ} (λ b. cond b 1 0) (same_name step.name name (sym e)) in
      omega (arith, c, one)

  pub no_more_named : (name ≡ step.name → ⊥) → count_by (bytes_eq step.name) (name ∷ earlier) ≡ named
  no_more_named n =
      let c = sum_by-cons (λ x. cond (bytes_eq step.name x) 1 0) name earlier in
      let none = ap {B = ℕ} (λ b. cond b 1 0) (other_name step.name name (λ e. n (sym e))) in
      omega (arith, c, none)

pub counts_are_few : (name : List ℕ) (earlier : List (List ℕ)) → count_by (bytes_eq name) earlier ≤ length earlier
counts_are_few name earlier = count_by-le-length (bytes_eq name) earlier

-- ---- a turn

module _ (start : ℕ) (earlier : List (List ℕ)) (ds : List Declaration) (trees : List Tree) (d : Declaration) (more : List Declaration) (t : Tree) (behind : List Tree)
    (h : with_blocks ds ≡ d ∷ with_blocks more) (e : trees ≡ t ∷ behind) where
  abbrev next_nested : List Nested
  next_nested = nested_of (d.heading.name.name ∷ earlier) more

  abbrev next_trees : PlainTrees
  next_trees = trees_of plain_tree behind

  abbrev next_start : ℕ
  next_start = start + tokens_of (plain_tree t)

  -- any function of what is to come
  turned : {X : Type 0} (f : List Nested → PlainTrees → X) →
      f (nested_of earlier ds) (trees_of plain_tree trees) ≡ f (nested_by earlier d ∷ next_nested) (Beside (plain_tree t) next_trees)
  turned f = ap (λ n. f n (trees_of plain_tree trees)) (nested_next earlier ds d more h) ∙ ap (λ ts. f (nested_by earlier d ∷ next_nested) (trees_of plain_tree ts)) e

  abbrev begun : StandingTree
  begun = record { start = start + d.semicolon + 1; tree = plain_tree t }

  pub entered_here : (step : PathStep) → same_step (nested_by earlier d).step step ≡ true → entered start step (nested_of earlier ds) (trees_of plain_tree trees) ≡ Some begun
  entered_here step s =
      turned (entered start step) ∙ cond-true (same_step (nested_by earlier d).step step) (Some begun) (entered next_start step next_nested next_trees) s

  pub entered_past : (step : PathStep) → same_step (nested_by earlier d).step step ≡ false →
      entered start step (nested_of earlier ds) (trees_of plain_tree trees) ≡ entered next_start step next_nested next_trees
  entered_past step s =
      turned (entered start step) ∙ cond-false (same_step (nested_by earlier d).step step) (Some begun) (entered next_start step next_nested next_trees) s

  pub index_here : (n : ℕ) → n ≤ d.semicolon → index_from start (nested_of earlier ds) (trees_of plain_tree trees) n ≡ start + n
  index_here n l =
      turned (λ nested trees. index_from start nested trees n) ∙
      cond-true (nat_le n d.semicolon) (start + n) (index_from next_start next_nested next_trees n) (le-leb n d.semicolon l)

  pub index_past : (n : ℕ) → d.semicolon < n → index_from start (nested_of earlier ds) (trees_of plain_tree trees) n ≡ index_from next_start next_nested next_trees n
  index_past n l =
      turned (λ nested trees. index_from start nested trees n) ∙
      cond-false (nat_le n d.semicolon) (start + n) (index_from next_start next_nested next_trees n) (lt-leb n d.semicolon l)

  pub blocks_turn : (path : List PathStep) →
      blocks_inside path start (nested_of earlier ds) (trees_of plain_tree trees) ≡
      blocks_from (path ++ (nested_by earlier d).step ∷ []) (start + d.semicolon + 1) (plain_tree t) ++ blocks_inside path next_start next_nested next_trees
  blocks_turn path = turned (blocks_inside path start)

-- ---- where none is left

module _ (start : ℕ) (earlier : List (List ℕ)) (ds : List Declaration) (trees : PlainTrees) (h : with_blocks ds ≡ []) where
  none_entered : (trees : PlainTrees) (step : PathStep) → entered start step [] trees ≡ None
  none_entered NoTrees step = refl
  none_entered (Beside tree more) step = refl

  pub entered_none : (step : PathStep) → entered start step (nested_of earlier ds) trees ≡ None
  entered_none step = ap (λ n. entered start step n trees) (nested_none earlier ds h) ∙ none_entered trees step

  last_index : (trees : PlainTrees) (n : ℕ) → index_from start [] trees n ≡ start + n
  last_index NoTrees n = refl
  last_index (Beside tree more) n = refl

  pub index_last : (n : ℕ) → index_from start (nested_of earlier ds) trees n ≡ start + n
  index_last n = ap (λ x. index_from start x trees n) (nested_none earlier ds h) ∙ last_index trees n

  no_blocks : (trees : PlainTrees) (path : List PathStep) → blocks_inside path start [] trees ≡ []
  no_blocks NoTrees path = refl
  no_blocks (Beside tree more) path = refl

  pub blocks_none : (path : List PathStep) → blocks_inside path start (nested_of earlier ds) trees ≡ []
  blocks_none path = ap (λ n. blocks_inside path start n trees) (nested_none earlier ds h) ∙ no_blocks trees path
