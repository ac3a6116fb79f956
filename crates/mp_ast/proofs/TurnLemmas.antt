-- The way down to a block, the index of an own token, and the list of blocks, as far as a walk over the nested blocks of a
-- block has come, and one turn on.
use Rattle.std.proofs.Common.{◌≡◌, ℕ, ◌+◌, ◌≤◌, ◌<◌, List, [], ◌∷◌, ◌++◌, map, count_by, nat_lt, Option, Some, None, refl, sym, ap, ◌∙◌, subst, append_assoc, arith}
use Rattle.std.specs.Prelude.{bytes_eq, option_and_then}
use Rattle.std.proofs.lemmas.Bool.{cond-true, cond-false, lt-ltb, le-ltb}
use Rattle.std.proofs.lemmas.List.{append-nil, map-append}
use Rattle.mp_base.specs.declared.limits.TheConstants.{TEXT_LIMIT}
use Rattle.mp_base.specs.declared.path.PathStep.{PathStep}
use Rattle.mp_base.specs.declared.place.Place.{Place}
use Rattle.mp_ast.specs.declared.blocks.Declaration.{Declaration}
use Rattle.mp_ast.specs.declared.blocks.Tree.{Tree}
use Rattle.mp_ast.specs.PlainTrees.{PlainTree, TreeOf, plain_block, trees_of, plain_tree}
use Rattle.mp_ast.specs.Blocks.{PlacedBlock, nested_in, tokens_of, index_from, index_of, blocks_from, blocks_inside}
use Rattle.mp_ast.specs.SharedTrees.{IsOfAProgram, own_of, inside_of}
use Rattle.mp_ast.specs.Descent.{StandingTree, standing_at, nested_of, entered, entered_from, descended, index_at}
use Rattle.mp_ast.specs.declared.block_list.PlacedBlock.{PlacedBlock as ListedBlock}
use Rattle.mp_ast.specs.BlockLists.{placed}
use Rattle.mp_ast.proofs.DescentLemmas.{index_by_steps}
use Rattle.mp_ast.proofs.SharedLemmas.{plain_tree-parts}
use Rattle.mp_ast.proofs.NestedLemmas.{Remain, with_blocks, all_remain, few_remain, start_is_small, next_is_small, next_remain}
use Rattle.mp_ast.proofs.WalkLemmas.{is_step, is_other_name, is_other_number, one_more_named, no_more_named, counts_are_few, entered_here, entered_past}
use Rattle.mp_ast.proofs.WalkLemmas.{index_here, index_past, blocks_turn, entered_none, index_last, blocks_none}

-- a block of a program's tree, in its parts
abbrev parts : Tree → PlainTree
parts t = TreeOf (plain_block (own_of t)) (trees_of plain_tree (inside_of t))

-- the walk from the block `t`, which begins at `first`, to the block to which a step goes
pub record Entering (t : Tree) (first : ℕ) (step : PathStep) (start : ℕ) (ds : List Declaration) (trees : List Tree) (named : ℕ) : Type 0 where
  pub earlier : List (List ℕ)
  pub remain : Remain (own_of t) start earlier ds trees
  pub counted : named ≡ count_by (bytes_eq step.name) earlier
  pub goes_on : entered_from (standing_at first t) step ≡ entered start step (nested_of earlier ds) (trees_of plain_tree trees)

-- the walk to the own token with an ordinal
pub record Indexing (t : Tree) (first ordinal start : ℕ) (ds : List Declaration) (trees : List Tree) : Type 0 where
  pub earlier : List (List ℕ)
  pub remain : Remain (own_of t) start earlier ds trees
  pub goes_on : index_at (standing_at first t) ordinal ≡ Some (index_from start (nested_of earlier ds) (trees_of plain_tree trees) ordinal)

-- The walk over all nested blocks, where so many of each name were before: with those that follow, these blocks are all.
pub record Listing (t : Tree) (path : List PathStep) (start : ℕ) (ds : List Declaration) (trees : List Tree) (count : List ℕ → ℕ) (found all : List PlacedBlock) : Type 0 where
  pub earlier : List (List ℕ)
  pub remain : Remain (own_of t) start earlier ds trees
  pub counted : (name : List ℕ) → count name ≡ count_by (bytes_eq name) earlier
  pub goes_on : all ≡ found ++ blocks_inside path start (nested_of earlier ds) (trees_of plain_tree trees)

-- ---- the way down

pub entering :
    (t : Tree) (first : ℕ) (step : PathStep) (ds : List Declaration) (trees : List Tree) → IsOfAProgram t → first + tokens_of (plain_tree t) ≤ TEXT_LIMIT →
    ds ≡ (own_of t).declarations → trees ≡ inside_of t → Entering t first step first ds trees 0
entering t first step ds trees p small d i =
    subst (λ ds. Entering t first step first ds trees 0) (sym d)
    (subst (λ trees. Entering t first step first (own_of t).declarations trees 0) (sym i)
    (record {
      earlier = [];
      remain = all_remain t first p small;
      counted = refl;
      goes_on = ap (λ x. entered_from (record { start = first; tree = x }) step) (plain_tree-parts t);
    }))

module _ (t : Tree) (first : ℕ) (step : PathStep) (start : ℕ) (ds : List Declaration) (trees : List Tree) (named : ℕ) (w : Entering t first step start ds trees named) where
  pub named_is_small : named ≤ TEXT_LIMIT
  named_is_small =
      let few = few_remain (own_of t) start w.earlier ds trees w.remain in
      let most = counts_are_few step.name w.earlier in
      let small = start_is_small (own_of t) start w.earlier ds trees w.remain in
      let counted = w.counted in
      omega (arith, few, most, small, counted)

  pub none_entered : with_blocks ds ≡ [] → entered_from (standing_at first t) step ≡ None
  none_entered h = w.goes_on ∙ entered_none start w.earlier ds (trees_of plain_tree trees) h step

  pub end_entered : trees ≡ [] → entered_from (standing_at first t) step ≡ None
  end_entered e = w.goes_on ∙ ap (λ ts. entered start step (nested_of w.earlier ds) (trees_of plain_tree ts)) e

  module _ (d : Declaration) (more : List Declaration) (u : Tree) (behind : List Tree) (h : with_blocks ds ≡ d ∷ with_blocks more) (e : trees ≡ u ∷ behind) where
    pub begun_is_small : start + d.semicolon + 1 + tokens_of (plain_tree u) ≤ TEXT_LIMIT
    begun_is_small = next_is_small (own_of t) start w.earlier ds trees w.remain d more u behind h e

    pub this_entered : d.heading.name.name ≡ step.name → named + 1 ≡ step.nth → Some (standing_at (start + d.semicolon + 1) u) ≡ entered_from (standing_at first t) step
    this_entered same number =
        let counted = w.counted in
        sym (w.goes_on ∙ entered_here start w.earlier ds trees d more u behind h e step (is_step step w.earlier d same (omega (arith, counted, number))))

    pub another_number : d.heading.name.name ≡ step.name → (named + 1 ≡ step.nth → ⊥) →
        Entering t first step (start + tokens_of (plain_tree u)) more behind (named + 1)
    another_number same other =
        let counted = w.counted in
        let one = one_more_named step w.earlier d same in
        let differs = is_other_number step w.earlier d same (λ q. other (omega (arith, counted, q))) in
        record {
          earlier = d.heading.name.name ∷ w.earlier;
          remain = next_remain (own_of t) start w.earlier ds trees w.remain d more u behind h e;
          counted = omega (arith, counted, one);
          goes_on = w.goes_on ∙ entered_past start w.earlier ds trees d more u behind h e step differs;
        }

    pub another_name : (d.heading.name.name ≡ step.name → ⊥) → Entering t first step (start + tokens_of (plain_tree u)) more behind named
    another_name other =
        record {
          earlier = d.heading.name.name ∷ w.earlier;
          remain = next_remain (own_of t) start w.earlier ds trees w.remain d more u behind h e;
          counted = w.counted ∙ sym (no_more_named step w.earlier d other);
          goes_on = w.goes_on ∙ entered_past start w.earlier ds trees d more u behind h e step (is_other_name step w.earlier d other);
        }

pub entering_at :
    {t : Tree} {first : ℕ} {step : PathStep} {start : ℕ} {ds : List Declaration} {trees : List Tree} {named : ℕ} (further many : ℕ) →
    further ≡ start → many ≡ named → Entering t first step start ds trees named → Entering t first step further ds trees many
entering_at {t} {first} {step} {start} {ds} {trees} {named} further many e f w =
    subst (λ n. Entering t first step further ds trees n) (sym f) (subst (λ n. Entering t first step n ds trees named) (sym e) w)

-- ---- the index of an own token

-- where the block has it
pub own_index : (t : Tree) (first ordinal : ℕ) → ordinal < (own_of t).tokens →
    index_at (standing_at first t) ordinal ≡ Some (index_from first (nested_in (plain_block (own_of t))) (trees_of plain_tree (inside_of t)) ordinal)
own_index t first ordinal h =
    ap (λ x. index_at (record { start = first; tree = x }) ordinal) (plain_tree-parts t) ∙
    cond-true (nat_lt ordinal (own_of t).tokens) (Some (index_from first (nested_in (plain_block (own_of t))) (trees_of plain_tree (inside_of t)) ordinal)) None
    (lt-ltb ordinal (own_of t).tokens h)

pub no_own_index : (t : Tree) (first ordinal : ℕ) → (own_of t).tokens ≤ ordinal → None ≡ index_at (standing_at first t) ordinal
no_own_index t first ordinal h =
    sym (ap (λ x. index_at (record { start = first; tree = x }) ordinal) (plain_tree-parts t) ∙
    cond-false (nat_lt ordinal (own_of t).tokens) (Some (index_from first (nested_in (plain_block (own_of t))) (trees_of plain_tree (inside_of t)) ordinal)) None
    (le-ltb ordinal (own_of t).tokens h))

pub indexing :
    (t : Tree) (first ordinal : ℕ) (ds : List Declaration) (trees : List Tree) → IsOfAProgram t → first + tokens_of (plain_tree t) ≤ TEXT_LIMIT →
    ordinal < (own_of t).tokens → ds ≡ (own_of t).declarations → trees ≡ inside_of t → Indexing t first ordinal first ds trees
indexing t first ordinal ds trees p small within d i =
    subst (λ ds. Indexing t first ordinal first ds trees) (sym d)
    (subst (λ trees. Indexing t first ordinal first (own_of t).declarations trees) (sym i)
    (record { earlier = []; remain = all_remain t first p small; goes_on = own_index t first ordinal within }))

module _ (t : Tree) (first ordinal start : ℕ) (ds : List Declaration) (trees : List Tree) (w : Indexing t first ordinal start ds trees) where
  pub last_index : with_blocks ds ≡ [] → Some (start + ordinal) ≡ index_at (standing_at first t) ordinal
  last_index h = sym (w.goes_on ∙ ap Some (index_last start w.earlier ds (trees_of plain_tree trees) h ordinal))

  pub end_index : trees ≡ [] → Some (start + ordinal) ≡ index_at (standing_at first t) ordinal
  end_index e = sym (w.goes_on ∙ ap (λ ts. Some (index_from start (nested_of w.earlier ds) (trees_of plain_tree ts) ordinal)) e)

  module _ (d : Declaration) (more : List Declaration) (u : Tree) (behind : List Tree) (h : with_blocks ds ≡ d ∷ with_blocks more) (e : trees ≡ u ∷ behind) where
    pub this_index : ordinal ≤ d.semicolon → Some (start + ordinal) ≡ index_at (standing_at first t) ordinal
    this_index l = sym (w.goes_on ∙ ap Some (index_here start w.earlier ds trees d more u behind h e ordinal l))

    pub further_index : d.semicolon < ordinal → Indexing t first ordinal (start + tokens_of (plain_tree u)) more behind
    further_index l =
        record {
          earlier = d.heading.name.name ∷ w.earlier;
          remain = next_remain (own_of t) start w.earlier ds trees w.remain d more u behind h e;
          goes_on = w.goes_on ∙ ap Some (index_past start w.earlier ds trees d more u behind h e ordinal l);
        }

pub indexing_at :
    {t : Tree} {first ordinal start : ℕ} {ds : List Declaration} {trees : List Tree} (further : ℕ) →
    further ≡ start → Indexing t first ordinal start ds trees → Indexing t first ordinal further ds trees
indexing_at {t} {first} {ordinal} {start} {ds} {trees} further e w = subst (λ n. Indexing t first ordinal n ds trees) (sym e) w

-- ---- the way down a path

-- The way to a place as far as the block `u`, which begins at `start`; these steps are left.
pub record Descending (t : Tree) (place : Place) (start : ℕ) (u : Tree) (rest : List PathStep) : Type 0 where
  pub small : start + tokens_of (plain_tree u) ≤ TEXT_LIMIT
  pub goes_on : index_of (plain_tree t) place ≡ option_and_then (λ x. index_at x place.ordinal) (descended (standing_at start u) rest)

pub descending : (t : Tree) (place : Place) (steps : List PathStep) → IsOfAProgram t → steps ≡ place.path → Descending t place 0 t steps
descending t place steps p e =
    let small = p.small in
    record {
      small = omega (arith, small);
      goes_on = index_by_steps (plain_tree t) place ∙ ap (λ path. option_and_then (λ x. index_at x place.ordinal) (descended (standing_at 0 t) path)) (sym e);
    }

module _ (t : Tree) (place : Place) (start : ℕ) (u : Tree) (rest : List PathStep) (w : Descending t place start u rest) where
  abbrev then_down : List PathStep → Option StandingTree → Option ℕ
  then_down path o = option_and_then (λ x. index_at x place.ordinal) (option_and_then (λ x. descended x path) o)

  one_down : (step : PathStep) (behind : List PathStep) → rest ≡ step ∷ behind →
      index_of (plain_tree t) place ≡ then_down behind (entered_from (standing_at start u) step)
  one_down step behind e = w.goes_on ∙ ap (λ path. option_and_then (λ x. index_at x place.ordinal) (descended (standing_at start u) path)) e

  pub further_down :
      (step : PathStep) (behind : List PathStep) (next : ℕ) (v : Tree) → rest ≡ step ∷ behind → Some (standing_at next v) ≡ entered_from (standing_at start u) step →
      next + tokens_of (plain_tree v) ≤ TEXT_LIMIT → Descending t place next v behind
  further_down step behind next v e is small = record { small = small; goes_on = one_down step behind e ∙ ap (then_down behind) (sym is) }

  pub no_place : (step : PathStep) (behind : List PathStep) → rest ≡ step ∷ behind → None ≡ entered_from (standing_at start u) step → None ≡ index_of (plain_tree t) place
  no_place step behind e is = sym (one_down step behind e ∙ ap (then_down behind) (sym is))

  pub place_reached : (result : Option ℕ) → rest ≡ [] → result ≡ index_at (standing_at start u) place.ordinal → result ≡ index_of (plain_tree t) place
  place_reached result e is =
      is ∙ sym (w.goes_on ∙ ap (λ path. option_and_then (λ x. index_at x place.ordinal) (descended (standing_at start u) path)) e)

-- ---- the list of blocks

abbrev placed_at : List PathStep → ℕ → Tree → PlacedBlock
placed_at path start t = record { path = path; start = start; own = plain_block (own_of t); inside = trees_of plain_tree (inside_of t) }

-- one more
pub one_listed :
    (found : List ListedBlock) (path inner : List PathStep) (start : ℕ) (t u : Tree) (after : List ListedBlock) →
    after ≡ found ++ record { path = inner; start = start; tree = u } ∷ [] → inner ≡ path → u ≡ t →
    map placed after ≡ map placed found ++ placed_at path start t ∷ []
one_listed found path inner start t u after e p q =
    let block : ListedBlock = record { path = inner; start = start; tree = u } in
    ap (map placed) e ∙ map-append placed found (block ∷ []) ∙
    ap (λ x. map placed found ++ placed_at x start u ∷ []) p ∙ ap (λ x. map placed found ++ placed_at path start x ∷ []) q

-- a block, and those in it
pub block_first : (t : Tree) (path : List PathStep) (start : ℕ) →
    blocks_from path start (plain_tree t) ≡
    record { path = path; start = start; own = plain_block (own_of t); inside = trees_of plain_tree (inside_of t) } ∷
    blocks_inside path start (nested_of [] (own_of t).declarations) (trees_of plain_tree (inside_of t))
block_first t path start = ap (blocks_from path start) (plain_tree-parts t)

pub listing :
    (t : Tree) (path : List PathStep) (start : ℕ) (ds : List Declaration) (trees : List Tree) (count : List ℕ → ℕ) (before found : List PlacedBlock) →
    IsOfAProgram t → start + tokens_of (plain_tree t) ≤ TEXT_LIMIT → ds ≡ (own_of t).declarations → trees ≡ inside_of t →
    ((name : List ℕ) → count name ≡ 0) →
    found ≡ before ++ record { path = path; start = start; own = plain_block (own_of t); inside = trees_of plain_tree (inside_of t) } ∷ [] →
    Listing t path start ds trees count found (before ++ blocks_from path start (plain_tree t))
listing t path start ds trees count before found p small d i none e =
    let block : PlacedBlock = record { path = path; start = start; own = plain_block (own_of t); inside = trees_of plain_tree (inside_of t) } in
    let rest = blocks_inside path start (nested_of [] (own_of t).declarations) (trees_of plain_tree (inside_of t)) in
    subst (λ ds. Listing t path start ds trees count found (before ++ blocks_from path start (plain_tree t))) (sym d)
    (subst (λ trees. Listing t path start (own_of t).declarations trees count found (before ++ blocks_from path start (plain_tree t))) (sym i)
    (record {
      earlier = [];
      remain = all_remain t start p small;
      counted = none;
      goes_on =
          ap (λ l. before ++ l) (block_first t path start) ∙ sym (append_assoc before (block ∷ []) rest) ∙ ap (λ l. l ++ rest) (sym e);
    }))

module _ (t : Tree) (path : List PathStep) (start : ℕ) (ds : List Declaration) (trees : List Tree) (count : List ℕ → ℕ) (found all : List PlacedBlock)
    (w : Listing t path start ds trees count found all) where
  pub counts_are_small : (name : List ℕ) → count name ≤ TEXT_LIMIT
  counts_are_small name =
      let few = few_remain (own_of t) start w.earlier ds trees w.remain in
      let most = counts_are_few name w.earlier in
      let small = start_is_small (own_of t) start w.earlier ds trees w.remain in
      let counted = w.counted name in
      omega (arith, few, most, small, counted)

  pub none_listed : with_blocks ds ≡ [] → found ≡ all
  none_listed h = sym (w.goes_on ∙ ap (λ l. found ++ l) (blocks_none start w.earlier ds (trees_of plain_tree trees) h path) ∙ append-nil found)

  pub end_listed : trees ≡ [] → found ≡ all
  end_listed e = sym (w.goes_on ∙ ap (λ ts. found ++ blocks_inside path start (nested_of w.earlier ds) (trees_of plain_tree ts)) e ∙ append-nil found)

  module _ (d : Declaration) (more : List Declaration) (u : Tree) (behind : List Tree) (h : with_blocks ds ≡ d ∷ with_blocks more) (e : trees ≡ u ∷ behind) where
    pub block_is_small : start + d.semicolon + 1 + tokens_of (plain_tree u) ≤ TEXT_LIMIT
    block_is_small = next_is_small (own_of t) start w.earlier ds trees w.remain d more u behind h e

    pub further_listed :
        (inner : List PathStep) (nth : ℕ) (counts : List ℕ → ℕ) (listed : List PlacedBlock) →
        inner ≡ path ++ record { name = d.heading.name.name; nth = nth } ∷ [] → nth ≡ count d.heading.name.name + 1 →
        ((earlier : List (List ℕ)) → ((name : List ℕ) → count name ≡ count_by (bytes_eq name) earlier) →
        (name : List ℕ) → counts name ≡ count_by (bytes_eq name) (d.heading.name.name ∷ earlier)) →
        listed ≡ found ++ blocks_from inner (start + d.semicolon + 1) (plain_tree u) →
        Listing t path (start + tokens_of (plain_tree u)) more behind counts listed all
    further_listed inner nth counts listed is number counted add =
        let name = d.heading.name.name in
        let begin = start + d.semicolon + 1 in
        let number_is : nth ≡ count_by (bytes_eq name) w.earlier + 1 = number ∙ ap (λ n. n + 1) (w.counted name) in
        let step = ap (λ n. path ++ record { name = name; nth = n } ∷ []) number_is in
        let rest = blocks_inside path (start + tokens_of (plain_tree u)) (nested_of (name ∷ w.earlier) more) (trees_of plain_tree behind) in
        let here = ap (λ p. blocks_from p begin (plain_tree u)) (is ∙ step) in
        record {
          earlier = name ∷ w.earlier;
          remain = next_remain (own_of t) start w.earlier ds trees w.remain d more u behind h e;
          counted = counted w.earlier w.counted;
          goes_on =
              w.goes_on ∙ ap (λ l. found ++ l) (blocks_turn start w.earlier ds trees d more u behind h e path) ∙
              ap (λ l. found ++ (l ++ rest)) (sym here) ∙ sym (append_assoc found (blocks_from inner begin (plain_tree u)) rest) ∙ ap (λ l. l ++ rest) (sym add);
        }

pub listing_at :
    {t : Tree} {path : List PathStep} {start : ℕ} {ds : List Declaration} {trees : List Tree} {count : List ℕ → ℕ} {found all : List PlacedBlock} (further : ℕ) →
    further ≡ start → Listing t path start ds trees count found all → Listing t path further ds trees count found all
listing_at {t} {path} {start} {ds} {trees} {count} {found} {all} further e w = subst (λ n. Listing t path n ds trees count found all) (sym e) w
