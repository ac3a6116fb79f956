-- The block with a path is the one to which its steps go: the blocks of another nested block have another step there, and
-- no two nested blocks have the same one.
use Rattle.std.proofs.Common.{◌≡◌, ℕ, ◌+◌, ⊎_elim, false, List, [], ◌∷◌, ◌++◌, filter, Option, Some, None, refl, sym, ap, ◌∙◌, subst, append_assoc}
use Rattle.std.specs.Prelude.{find, option_map, option_and_then}
use Rattle.std.specs.Option.{option_or}
use Rattle.std.specs.List.{AllByRecursion, IsDistinct}
use Rattle.std.proofs.lemmas.Bool.{cases_Bool, cond-true, cond-false, false_from_ne_true, false≢true}
use Rattle.std.proofs.lemmas.List.{append-nil}
use Rattle.std.proofs.lemmas.List.Folds.{find-append}
use Rattle.mp_base.specs.declared.path.PathStep.{PathStep}
use Rattle.mp_base.specs.declared.place.Place.{Place}
use Rattle.mp_ast.specs.PlainTrees.{PlainTree, PlainTrees, TreeOf, NoTrees, Beside}
use Rattle.mp_ast.specs.Blocks.{Nested, PlacedBlock, nested_in, is_block, tokens_of, blocks_from, blocks_inside, blocks, same_step, same_path, own_index, index_of}
use Rattle.mp_ast.specs.Descent.{StandingTree, entered, descended, index_at}
use Rattle.mp_ast.proofs.PathLemmas.{all-map, GoesOn, GoesInto, from_goes_on, inside_goes_into, not_longer, other_step, steps_differ, same_path_itself}
use Rattle.mp_ast.proofs.PlaceLemmas.{step_equal}

abbrev standing : PlacedBlock → StandingTree
standing b = record { start = b.start; tree = TreeOf b.own b.inside }

-- the first of these blocks with the path
abbrev found : List PathStep → List PlacedBlock → Option PlacedBlock
found path blocks = find (λ b. same_path b.path path) blocks

abbrev IsElsewhere : List PathStep → PlacedBlock → Type 0
IsElsewhere path b = same_path b.path path ≡ false

none_found : (path : List PathStep) (bs : List PlacedBlock) → AllByRecursion (IsElsewhere path) bs → found path bs ≡ None
none_found path [] a = refl
none_found path (b ∷ bs) a = cond-false (same_path b.path path) (Some b) (found path bs) a.0 ∙ none_found path bs a.1

or_none : {X : Type 0} (o : Option X) → option_or o None ≡ o
or_none None = refl
or_none (Some x) = refl

found_in_front : (path : List PathStep) (xs ys : List PlacedBlock) → found path ys ≡ None → found path (xs ++ ys) ≡ found path xs
found_in_front path xs ys e = find-append (λ b. same_path b.path path) xs ys ∙ ap (option_or (found path xs)) e ∙ or_none (found path xs)

found_behind : (path : List PathStep) (xs ys : List PlacedBlock) → found path xs ≡ None → found path (xs ++ ys) ≡ found path ys
found_behind path xs ys e = find-append (λ b. same_path b.path path) xs ys ∙ ap (λ o. option_or o (found path ys)) e

-- ---- blocks elsewhere

other_way : (s t : PathStep) → same_step s t ≡ false → same_step t s ≡ false
other_way s t e =
    false_from_ne_true (same_step t s)
    (λ same. let q = step_equal t s same in absurd (false≢true (sym e ∙ ap (λ x. same_step x t) (sym q) ∙ ap (same_step t) q ∙ same)))

-- the blocks of a nested block with another step
in_another : (prefix : List PathStep) (s : PathStep) (path : List PathStep) (step : PathStep) (start : ℕ) (tree : PlainTree) → same_step step s ≡ false →
    AllByRecursion (IsElsewhere (prefix ++ s ∷ path)) (blocks_from (prefix ++ step ∷ []) start tree)
in_another prefix s path step start tree e =
    all-map (GoesOn (prefix ++ step ∷ [])) (IsElsewhere (prefix ++ s ∷ path))
    (λ b g. ap (λ p. same_path p (prefix ++ s ∷ path)) (g.1 ∙ append_assoc prefix (step ∷ []) g.0) ∙ other_step prefix step s g.0 path e)
    (blocks_from (prefix ++ step ∷ []) start tree) (from_goes_on (prefix ++ step ∷ []) start tree)

-- the blocks of nested blocks with other steps
in_others :
    (prefix : List PathStep) (s : PathStep) (path : List PathStep) (start : ℕ) (nested : List Nested) (trees : PlainTrees) →
    AllByRecursion (λ n. same_step s n.step ≡ false) nested → AllByRecursion (IsElsewhere (prefix ++ s ∷ path)) (blocks_inside prefix start nested trees)
in_others prefix s path start nested trees a =
    let left = λ (n : Nested). same_step s n.step in
    all-map (GoesInto left prefix) (IsElsewhere (prefix ++ s ∷ path))
    (λ b g. ap (λ p. same_path p (prefix ++ s ∷ path)) g.3 ∙ other_step prefix g.0.step s g.2 path (other_way s g.0.step g.1))
    (blocks_inside prefix start nested trees) (inside_goes_into left prefix start nested trees a)

-- ---- step by step

mutual
  unfolding IsDistinct

  from_found :
      (prefix path : List PathStep) (start : ℕ) (tree : PlainTree) →
      option_map standing (found (prefix ++ path) (blocks_from prefix start tree)) ≡ descended (record { start = start; tree = tree }) path
  from_found prefix [] start (TreeOf own inside) =
      let block : PlacedBlock = record { path = prefix; start = start; own = own; inside = inside } in
      ap (option_map standing)
      (cond-true (same_path prefix (prefix ++ [])) (Some block) (found (prefix ++ []) (blocks_inside prefix start (nested_in own) inside))
      (ap (same_path prefix) (append-nil prefix) ∙ same_path_itself prefix))
  from_found prefix (s ∷ path) start (TreeOf own inside) =
      let block : PlacedBlock = record { path = prefix; start = start; own = own; inside = inside } in
      ap (option_map standing)
      (cond-false (same_path prefix (prefix ++ s ∷ path)) (Some block) (found (prefix ++ s ∷ path) (blocks_inside prefix start (nested_in own) inside))
      (not_longer prefix s path)) ∙
      inside_found prefix s path start (nested_in own) inside (steps_differ [] (filter (λ d. is_block d.body) own.declarations))

  inside_found :
      (prefix : List PathStep) (s : PathStep) (path : List PathStep) (start : ℕ) (nested : List Nested) (trees : PlainTrees) →
      IsDistinct (λ m n. same_step m.step n.step) nested →
      option_map standing (found (prefix ++ s ∷ path) (blocks_inside prefix start nested trees)) ≡
      option_and_then (λ t. descended t path) (entered start s nested trees)
  inside_found prefix s path start nested NoTrees d = refl
  inside_found prefix s path start [] (Beside tree more) d = refl
  inside_found prefix s path start (n ∷ nested) (Beside tree more) d =
      let inner = prefix ++ n.step ∷ [] in
      let goal = prefix ++ s ∷ path in
      let begin = start + n.semicolon + 1 in
      let here = blocks_from inner begin tree in
      let rest = blocks_inside prefix (start + tokens_of tree) nested more in
      let there : StandingTree = record { start = begin; tree = tree } in
      let behind = entered (start + tokens_of tree) s nested more in
      ⊎_elim
      (λ same.
      let e = step_equal n.step s same in
      let none = none_found goal rest
      (in_others prefix s path (start + tokens_of tree) nested more (subst (λ x. AllByRecursion (λ (m : Nested). same_step x m.step ≡ false) nested) e d.0)) in
      ap (option_map standing) (found_in_front goal here rest none) ∙
      ap (λ p. option_map standing (found p here)) (ap (λ x. prefix ++ x ∷ path) (sym e) ∙ sym (append_assoc prefix (n.step ∷ []) path)) ∙
      from_found inner path begin tree ∙
      sym (ap (option_and_then (λ t. descended t path)) (cond-true (same_step n.step s) (Some there) behind same)))
      (λ other.
      ap (option_map standing) (found_behind goal here rest (none_found goal here (in_another prefix s path n.step begin tree other))) ∙
      inside_found prefix s path (start + tokens_of tree) nested more d.1 ∙
      sym (ap (option_and_then (λ t. descended t path)) (cond-false (same_step n.step s) (Some there) behind other)))
      (cases_Bool (same_step n.step s))

-- the index of a place, by the way down to its block
own_index_at : (o : Option PlacedBlock) (ordinal : ℕ) →
    option_and_then (λ b. own_index b ordinal) o ≡ option_and_then (λ t. index_at t ordinal) (option_map standing o)
own_index_at None ordinal = refl
own_index_at (Some b) ordinal = refl

pub index_by_steps : (tree : PlainTree) (place : Place) →
    index_of tree place ≡ option_and_then (λ t. index_at t place.ordinal) (descended (record { start = 0; tree = tree }) place.path)
index_by_steps tree place =
    own_index_at (found place.path (blocks tree)) place.ordinal ∙
    ap (option_and_then (λ t. index_at t place.ordinal)) (from_found [] place.path 0 tree)
