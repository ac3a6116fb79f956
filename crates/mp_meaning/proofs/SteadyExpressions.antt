-- Calls and evaluation: an activation is made behind its static parent, and ended.
use Rattle.std.proofs.Common.{◌≡◌, ℕ, ◌+◌, ◌≤◌, List, [], ◌∷◌, Option, Some, None, Bool, true, false, refl, sym, ap, ◌∙◌, subst, arith, eqb-true}
use Rattle.std.specs.Prelude.{is_none, nat_eq, nat_lt, nat_le, length, slice_get, not, ◌||◌, ◌*◌, ◌&&◌, ◌-ℤ◌}
use Rattle.mp_base.specs.declared.limits.TheConstants.{ACTIVATION_LIMIT, CELL_LIMIT}
use Rattle.mp_tables.specs.declared.typed_expressions.Located.{Located}
use Rattle.mp_tables.specs.declared.typed_expressions.Root.{Root}
use Rattle.mp_tables.specs.declared.typed_expressions.Root.TheVariants as root
use Rattle.mp_tables.specs.declared.typed_expressions.Sort.{Sort}
use Rattle.mp_tables.specs.declared.typed_expressions.Sort.TheVariants as sort
use Rattle.mp_tables.specs.declared.typed_expressions.Callee.{Callee}
use Rattle.mp_tables.specs.declared.typed_expressions.Callee.TheVariants as callee
use Rattle.mp_tables.specs.PlainTypedExpressions.{PlainTypedExpr, PlainTypedSelectors, PlainTypedActuals, PlainTypedOperations, PlainTypedMembers, PlainTypedAccess}
use Rattle.mp_tables.specs.PlainTypedExpressions as tree
use Rattle.mp_tables.specs.PlainTypedStatements.{PlainTypedBlock}
use Rattle.mp_tables.specs.Sizes.{saturated}
use Rattle.mp_meaning.specs.Names.{Path}
use Rattle.mp_meaning.specs.Numbers.{lies_in, natural}
use Rattle.mp_files.specs.TextFiles.{eof, eoln}
use Rattle.mp_meaning.specs.Values.{Reference, Value, Undefined, Number, Members, Pointer, Routine, Refers, File, Structure, Values, NoValues, Then, string_of, is_structure, is_plain, cells_in, cells_in_all}
use Rattle.mp_meaning.specs.Programs.{Program, block_of, variable_number, result_number, parameter_count, frame_cells, frame_values, result_offset}
use Rattle.mp_meaning.specs.Configurations.{Root as Held}
use Rattle.mp_meaning.specs.Configurations.{holder, find_activation, live_cells, Activation, Configuration, without_root, ended_in, ended_until}
use Rattle.mp_meaning.specs.Outcomes.{Outcome, Done, Jump, Fault, Limit, Hole, Paused, Spent, Wrong, Action, bind, ◌>>=◌, ◌>>◌, needs, unless, choose, skip, limit, wrong}
use Rattle.mp_meaning.specs.Calls.{Self, Task, Body, activation_at, block_in, variable_at, result_at, routine_of, count, entered, enter, must_have_room, hole, variables_of, call_block, call, left_behind, outward, leave_newest, leave_procedure, leave_function}
use Rattle.mp_meaning.specs.Expressions.{goes_through, load, root_of, eval, eval_chain, eval_members, eval_actuals, walk, form, eval_number}
use Rattle.mp_meaning.specs.Operators.{stands_in, is_true}
use Rattle.mp_meaning.proofs.SteadyVariables.{number_steady, with_number_steady, members_steady, pointer_steady, reference_steady, defined_steady, held_steady, read_steady, must_fit_steady, pass_all_steady, object_steady, operate_steady, boolean_steady, sign_steady, part_steady, scalar_steady, routine_value_steady, compare_steady, with_member_steady, with_members_steady, apply_steady, ask_steady}
use Rattle.mp_meaning.specs.Laws.{AreInOrder, HasParent, is_live}
use Rattle.mp_meaning.proofs.GrowthValues.{Grown, grown_itself}
use Rattle.mp_meaning.proofs.SteadyOutcomes.{Upright, Further, Goes, further_itself, further_still, tags_further, with_more, Onward, onward_still, onward_bind, so_bind, upright_done, onward_outward, so_outward, SteadyAt, Steady, bind_at, then_at, bind_steady, then_steady, gives_steady, skip_steady, now_at, now_steady, fault_steady, limit_steady, wrong_steady, needs_steady, update_at, choose_at, unless_steady}

module _ {closed : Path → Bool} where
  -- ---- what is around the newest activation

  pub activation_steady : (d : ℕ) → Steady closed (activation_at d)
  activation_steady d = now_steady (λ more c. refl) (λ c. needs_steady (holder c.activations d))

  pub block_steady : (p : Program) (number : ℕ) → Steady closed (block_in p number)
  block_steady p number = now_steady (λ more c. refl) (λ c. bind_steady (needs_steady (find_activation c.activations number)) (λ a. needs_steady (block_of p a.block)))

  variables_steady : (number : ℕ) → Steady closed (variables_of number)
  variables_steady number = now_steady (λ more c. refl) (λ c. gives_steady _)

  pub variable_steady : (p : Program) (v : Located) → Steady closed (variable_at p v)
  variable_steady p v =
      bind_steady (activation_steady v.depth) (λ number. bind_steady (block_steady p number) (λ block.
      bind_steady (needs_steady (variable_number block.frame v.name)) (λ i. bind_steady (variables_steady number) (λ root. part_steady root i v.offset))))

  result_steady : (p : Program) (v : Located) → Steady closed (result_at p v)
  result_steady p v =
      bind_steady (activation_steady v.depth) (λ number. bind_steady (block_steady p number) (λ block.
      bind_steady (needs_steady (result_number block.frame)) (λ i. bind_steady (variables_steady number) (λ root. part_steady root i v.offset))))

  pub routine_steady : (p : Program) (at : ℕ) (f : Callee) → Steady closed (routine_of p at f)
  routine_steady p at (callee.Block d path) = bind_steady (activation_steady d) (λ number. gives_steady (Routine path number))
  routine_steady p at (callee.Parameter v) = bind_steady (variable_steady p v) (λ r. bind_steady (held_steady at r) (λ f. routine_value_steady f))

  pub load_steady : (at : ℕ) (s : Sort) (r : Reference) → Steady closed (load at s r)
  load_steady at sort.Ordinal r = bind_steady (read_steady at r) (λ v. scalar_steady v)
  load_steady at sort.Set r = bind_steady (read_steady at r) (λ v. scalar_steady v)
  load_steady at sort.Pointer r = bind_steady (read_steady at r) (λ v. scalar_steady v)
  load_steady at (sort.Block cells) r =
      bind_steady (held_steady at r) (λ v. then_steady (unless_steady (is_structure v && is_plain v && nat_eq (cells_in v) cells) wrong_steady) (gives_steady v))
  load_steady at sort.File r = wrong_steady

  pub root_steady : (p : Program) (opened : List Reference) (at : ℕ) (r : Root) → Steady closed (root_of p opened at r)
  root_steady p opened at (root.Own v) = variable_steady p v
  root_steady p opened at (root.Through v) = bind_steady (variable_steady p v) (λ r. bind_steady (held_steady at r) (λ target. reference_steady target))
  root_steady p opened at (root.Result v) = result_steady p v
  root_steady p opened at (root.Opened i) = needs_steady (slice_get opened i)
  root_steady p opened at root.Input = bind_steady (variables_steady 0) (λ r. part_steady r 0 0)
  root_steady p opened at root.Output = bind_steady (variables_steady 0) (λ r. part_steady r 1 2)

-- ---- activations that end

pub in_order_wider : (m n : ℕ) (acts : List Activation) → m ≤ n → AreInOrder m acts → AreInOrder n acts
in_order_wider m n [] le g = tt
in_order_wider m n (a ∷ older) le g = (let less = g.0 in omega (arith, le, less), g.1, g.2)

-- the variables of a root that is no more live are as they were
pub output_ended : (roots : ℕ → Held) (r : ℕ) → Grown (roots 0).value ((without_root roots r) 0).value
output_ended roots r = by (nat_eq 0 r) refl
  where
    by : (b : Bool) → nat_eq 0 r ≡ b → Grown (roots 0).value (elim b as (λ is. Held) [ true ↦ record (roots r) { live = false } | false ↦ roots 0 ]).value
    by true e = subst (λ q. Grown (roots q).value (roots r).value) (sym (eqb-true 0 r e)) (grown_itself (roots r).value)
    by false e = grown_itself (roots 0).value

goes_itself : (c : Configuration) → Upright c → Goes c c
goes_itself c up = (up, further_itself c)

goes_still : (b c d : Configuration) → Goes b c → Goes c d → Goes b d
goes_still b c d f g = (g.0, further_still b c d f.1 g.1)

ended_goes : (acts : List Activation) (c : Configuration) → c.activations ≡ acts → Upright c → Goes c (ended_in acts c)
ended_goes [] c e up = goes_itself c up
ended_goes (a ∷ older) c e up =
    let order : AreInOrder c.next (a ∷ older) = subst (AreInOrder c.next) e up.in_order in
    let further : Further c (ended_in (a ∷ older) c) = record { next = omega arith; output = output_ended c.roots a.number } in
    let less = order.0 in (
      record {
        in_order = in_order_wider a.number c.next older (omega (arith, less)) order.2;
        some = up.some;
        left = up.left;
        tags =
            tags_further c (ended_in (a ∷ older) c) further up.tags;
      },
      further,
    )

ended_more : (acts : List Activation) (more : ℕ) (c : Configuration) → ended_in acts (with_more more c) ≡ with_more more (ended_in acts c)
ended_more [] more c = refl
ended_more (a ∷ older) more c = refl

pub until_goes : (r : ℕ) (acts : List Activation) (c : Configuration) → c.activations ≡ acts → Upright c → Goes c (ended_until r acts c)
until_goes r [] c e up = goes_itself c up
until_goes r (a ∷ older) c e up = by (nat_eq a.number r) (λ up. until_goes r older (ended_in (a ∷ older) c) refl up)
  where
    by : (b : Bool) → (Upright (ended_in (a ∷ older) c) → Goes (ended_in (a ∷ older) c) (ended_until r older (ended_in (a ∷ older) c))) →
        Goes c (elim b as (λ is. Configuration) [ true ↦ c | false ↦ ended_until r older (ended_in (a ∷ older) c) ])
    by true later = goes_itself c up
    by false later = let now = ended_goes (a ∷ older) c e up in goes_still c (ended_in (a ∷ older) c) (ended_until r older (ended_in (a ∷ older) c)) now (later now.0)

pub until_more : (r : ℕ) (acts : List Activation) (more : ℕ) (c : Configuration) → ended_until r acts (with_more more c) ≡ with_more more (ended_until r acts c)
until_more r [] more c = refl
until_more r (a ∷ older) more c = by (nat_eq a.number r) (until_more r older more (ended_in (a ∷ older) c))
  where
    by : (b : Bool) → ended_until r older (with_more more (ended_in (a ∷ older) c)) ≡ with_more more (ended_until r older (ended_in (a ∷ older) c)) →
        (elim b as (λ is. Configuration) [ true ↦ with_more more c | false ↦ ended_until r older (ended_in (a ∷ older) (with_more more c)) ]) ≡ with_more more
        (elim b as (λ is. Configuration) [ true ↦ c | false ↦ ended_until r older (ended_in (a ∷ older) c) ])
    by true later = refl
    by false later = later

-- ---- tests that leave the configuration as it is

abbrev Still : {A : Type 0} → Action A → Type 0
Still {A} m = (b : Configuration) (v : A) (d : Configuration) → m b ≡ Done v d → d ≡ b

pub needs_still : {A : Type 0} (o : Option A) → Still (needs o)
needs_still None b v d e = absurd (let f : ⊥ = cc in f)
needs_still (Some x) b v d e = cc

needs_found : {A : Type 0} (o : Option A) (b : Configuration) (v : A) (d : Configuration) → needs o b ≡ Done v d → o ≡ Some v
needs_found None b v d e = absurd (let f : ⊥ = cc in f)
needs_found (Some x) b v d e = let same : x ≡ v = cc in ap Some same

tested_still : (t : Bool) → Still (unless t wrong)
tested_still true b v d e = cc
tested_still false b v d e = absurd (let f : ⊥ = cc in f)

limited_still : (t : Bool) (at number : ℕ) → Still (unless t (limit at number))
limited_still true at number b v d e = cc
limited_still false at number b v d e = absurd (let f : ⊥ = cc in f)

hole_still : (t : Bool) (path : Path) (at : ℕ) → Still (choose t (hole path at) skip)
hole_still true path at b v d e = absurd (let f : ⊥ = cc in f)
hole_still false path at b v d e = cc

still_then : {A B : Type 0} {m : Action A} {o : Action B} → Still m → Still o → Still (m >> o)
still_then {A} {B} {m} {o} f g b v d e = by (m b) refl e
  where
    by : (x : Outcome A) → m b ≡ x → bind x (λ v c. o c) ≡ Done v d → d ≡ b
    by (Done w c) h e = g c v d e ∙ f b w c h
    by (Jump l r c) h e = absurd (let f : ⊥ = cc in f)
    by (Fault n at c) h e = absurd (let f : ⊥ = cc in f)
    by (Limit n at c) h e = absurd (let f : ⊥ = cc in f)
    by (Hole p at c) h e = absurd (let f : ⊥ = cc in f)
    by (Paused c) h e = absurd (let f : ⊥ = cc in f)
    by Spent h e = absurd (let f : ⊥ = cc in f)
    by Wrong h e = absurd (let f : ⊥ = cc in f)

room_still : (at cells : ℕ) → Still (must_have_room at cells)
room_still at cells b v d e =
    still_then (limited_still (nat_lt (length b.activations) ACTIVATION_LIMIT) at 1) (limited_still (nat_le (live_cells b + cells) CELL_LIMIT) at 2) b v d e

still_at : {A B : Type 0} {closed : Path → Bool} {m : Action A} {o : Action B} (c : Configuration) → Steady closed m → Still m →
    ((d : Configuration) → d.activations ≡ c.activations → SteadyAt closed d o) → SteadyAt closed c (m >> o)
still_at c f still g = then_at c (f.by c) (λ b v d roots acts e. g d (ap (λ d. d.activations) (still b v d e) ∙ acts))

-- ---- calls

-- a live activation is one that may be a static parent
found_live : (acts : List Activation) (r : ℕ) (a : Activation) → find_activation acts r ≡ Some a → HasParent r acts
found_live [] r a e = tt
found_live (x ∷ older) r a e = by (nat_eq x.number r) e
  where
    live_in : (acts : List Activation) → find_activation acts r ≡ Some a → is_live acts r ≡ true
    live_in [] e = absurd (let f : ⊥ = cc in f)
    live_in (y ∷ more) e = by_number (nat_eq y.number r) (live_in more) e
      where
        by_number : (b : Bool) → (find_activation more r ≡ Some a → is_live more r ≡ true) →
            (elim b as (λ is. Option Activation) [ true ↦ Some y | false ↦ find_activation more r ]) ≡ Some a → (b || is_live more r) ≡ true
        by_number true f e = refl
        by_number false f e = f e

    by : (b : Bool) → (elim b as (λ is. Option Activation) [ true ↦ Some x | false ↦ find_activation older r ]) ≡ Some a → (b || is_live older r) ≡ true
    by true e = refl
    by false e = live_in older e

newest_steady : {closed : Path → Bool} → Steady closed leave_newest
newest_steady = record { by = λ c. update_at left_behind c (λ more. ended_more c.activations more c) (ended_goes c.activations c refl) }

pub left_steady : {closed : Path → Bool} (block : PlainTypedBlock) (number : ℕ) → Steady closed (leave_procedure block number)
left_steady block number = then_steady (unless_steady (is_none (result_number block.frame)) wrong_steady) newest_steady

leave_function_steady : {closed : Path → Bool} (at : ℕ) (block : PlainTypedBlock) (number : ℕ) → Steady closed (leave_function at block number)
leave_function_steady at block number =
    bind_steady (needs_steady (result_number block.frame)) (λ i. bind_steady (variables_steady number) (λ root.
    bind_steady (part_steady root i (result_offset block.frame)) (λ r. bind_steady (held_steady at r) (λ v.
    then_steady newest_steady (bind_steady (defined_steady at v) (λ x. scalar_steady x))))))

room_steady : {closed : Path → Bool} (at cells : ℕ) → Steady closed (must_have_room at cells)
room_steady at cells = now_steady (λ more c. refl) (λ c.
    then_steady (unless_steady (nat_lt (length c.activations) ACTIVATION_LIMIT) (limit_steady at 1))
    (unless_steady (nat_le (live_cells c + cells) CELL_LIMIT) (limit_steady at 2)))

hole_steady : (p : Program) (path : Path) (at : ℕ) → Steady p.is_closed (choose (p.is_closed path) (hole path at) skip)
hole_steady p path at = record {
  by = λ c. choose_at (p.is_closed path) c
      (λ is. record { onward = λ up. record { by = (is, goes_itself c up) }; so = λ more up. record { by = refl } })
      (λ is. skip_steady.by c);
}

-- what all tasks do
pub record SelfSteady (p : Program) (self : Self) : Type 0 where
  pub by : (t : Task) → Steady p.is_closed (self t)

module _ (p : Program) (self : Self) (good : SelfSteady p self) where
  entered_goes : (at : ℕ) (block : PlainTypedBlock) (parent : ℕ) (actuals : Values) (c : Configuration) → HasParent parent c.activations → Upright c →
      Goes c (entered p at block parent actuals c)
  entered_goes at block parent actuals c has up =
      let further : Further c (entered p at block parent actuals c) = record { next = omega arith; output = by (nat_eq 0 c.next) refl } in (
        record { in_order = (omega arith, has, up.in_order); some = omega arith; left = up.left; tags = tags_further c (entered p at block parent actuals c) further up.tags },
        further,
      )
    where
      by : (b : Bool) → nat_eq 0 c.next ≡ b → Grown (c.roots 0).value
          (elim b as (λ is. Held) [ true ↦ record { value = Structure (frame_values p.form actuals block.frame); live = true } | false ↦ c.roots 0 ]).value
      by true e = absurd (let same : 0 ≡ c.next = eqb-true 0 c.next e in let some = up.some in let f : ⊥ = omega (arith, same, some) in f)
      by false e = grown_itself (c.roots 0).value

  enter_at : {A : Type 0} (at : ℕ) (block : PlainTypedBlock) (parent : ℕ) (actuals : Values) (leave : ℕ → Action A) (c : Configuration) → HasParent parent c.activations →
      ((number : ℕ) → Steady p.is_closed (leave number)) → SteadyAt p.is_closed c (enter p self at block parent actuals leave)
  enter_at {A} at block parent actuals leave c has f = record {
    onward = λ up.
        let goes = entered_goes at block parent actuals c has up in
        onward_still c inside _ goes.1 (onward_bind inside done rest (outside up) (λ v d e up. ((f c.next).by d).onward up));
    so = λ more up.
        let goes = entered_goes at block parent actuals c has up in
        so_bind more done (outward c.next (self (Body block.path) (with_more more inside))) rest
        (so_outward c.next more _ _ (((good.by (Body block.path)).by inside).so more goes.0))
        (λ v d e. ((f c.next).by d).so more (upright_done inside done v d (outside up) e))
        (λ v d e up. ((f c.next).by d).onward up);
  }
    where
      inside : Configuration
      inside = entered p at block parent actuals c

      done : Outcome (Unit {0})
      done = outward c.next (self (Body block.path) inside)

      rest : Unit {0} → Configuration → Outcome A
      rest v after = leave c.next after

      outside : Upright c → Onward p.is_closed inside done
      outside up = let goes = entered_goes at block parent actuals c has up in onward_outward c.next inside _ (((good.by (Body block.path)).by inside).onward goes.0)

  pub call_block_at : {A : Type 0} (at : ℕ) (path : Path) (parent : ℕ) (actuals : Values) (leave : PlainTypedBlock → ℕ → Action A) (c : Configuration) →
      HasParent parent c.activations → ((block : PlainTypedBlock) (number : ℕ) → Steady p.is_closed (leave block number)) →
      SteadyAt p.is_closed c (call_block p self at path parent actuals leave)
  call_block_at at path parent actuals leave c has g =
      bind_at c ((needs_steady (block_of p path)).by c) (λ b block d roots acts e.
      still_at d (unless_steady (nat_eq (count actuals) (parameter_count block.frame)) wrong_steady) (tested_still (nat_eq (count actuals) (parameter_count block.frame)))
      (λ d1 a1.
      still_at d1 (unless_steady (nat_le (saturated (cells_in_all actuals)) block.counted) wrong_steady) (tested_still (nat_le (saturated (cells_in_all actuals)) block.counted))
      (λ d2 a2.
      still_at d2 (hole_steady p path at) (hole_still (p.is_closed path) path at) (λ d3 a3.
      still_at d3 (room_steady at block.counted) (room_still at block.counted) (λ d4 a4.
      still_at d4 (unless_steady (nat_eq (frame_cells p.form block.frame) block.counted) wrong_steady) (tested_still (nat_eq (frame_cells p.form block.frame) block.counted))
      (λ d5 a5.
      still_at d5 (unless_steady (nat_eq (cells_in_all (frame_values p.form actuals block.frame)) block.counted) wrong_steady)
      (tested_still (nat_eq (cells_in_all (frame_values p.form actuals block.frame)) block.counted)) (λ d6 a6.
      let d0 : d.activations ≡ c.activations = ap (λ d. d.activations) (needs_still (block_of p path) b block d e) ∙ acts in
      enter_at at block parent actuals (leave block) d6 (subst (HasParent parent) (sym (a6 ∙ a5 ∙ a4 ∙ a3 ∙ a2 ∙ a1 ∙ d0)) has) (λ number. g block number))))))))

  pub call_steady : {A : Type 0} (at : ℕ) (f : Value) (actuals : Values) (leave : PlainTypedBlock → ℕ → Action A) →
      ((block : PlainTypedBlock) (number : ℕ) → Steady p.is_closed (leave block number)) → Steady p.is_closed (call p self at f actuals leave)
  call_steady at (Routine path parent) actuals leave g = record {
    by = λ c. now_at {go = λ c. needs (find_activation c.activations parent) >>= (λ a. call_block p self at path parent actuals leave)} c (λ more c. refl)
        (bind_at c ((needs_steady (find_activation c.activations parent)).by c) (λ b a d roots acts e.
        let same : d.activations ≡ c.activations = ap (λ d. d.activations) (needs_still (find_activation c.activations parent) b a d e) ∙ acts in
        call_block_at at path parent actuals leave d (subst (HasParent parent) (sym same)
        (found_live c.activations parent a (needs_found (find_activation c.activations parent) b a d e))) g));
  }
  call_steady at Undefined actuals leave g = wrong_steady
  call_steady at (Number n) actuals leave g = wrong_steady
  call_steady at (Members set) actuals leave g = wrong_steady
  call_steady at (Pointer object) actuals leave g = wrong_steady
  call_steady at (Refers root way type) actuals leave g = wrong_steady
  call_steady at (File f) actuals leave g = wrong_steady
  call_steady at (Structure vs) actuals leave g = wrong_steady

  -- ---- expressions

  module _ (opened : List Reference) (at : ℕ) where
    mutual
      pub eval_steady : (e : PlainTypedExpr) → Steady p.is_closed (eval p self opened at e)
      eval_steady (tree.Ordinal n) = gives_steady (Number n)
      eval_steady (tree.Text cs) = gives_steady (string_of cs)
      eval_steady tree.Nil = gives_steady (Pointer 0)
      eval_steady (tree.Load s r selectors) =
          bind_steady (root_steady p opened at r) (λ base. bind_steady (walk_steady false base selectors) (λ v. load_steady at s v))
      eval_steady (tree.Call s f actuals) =
          bind_steady (routine_steady p at f) (λ f. bind_steady (actuals_steady actuals) (λ vs.
          call_steady at f vs (leave_function at) (λ block number. leave_function_steady at block number)))
      eval_steady (tree.Apply f e) = bind_steady (eval_steady e) (λ v. bind_steady (number_steady v) (λ n. apply_steady at f n))
      eval_steady (tree.Eof r selectors) =
          bind_steady (root_steady p opened at r) (λ base. bind_steady (walk_steady false base selectors) (λ file.
          bind_steady (ask_steady at file eof) (λ is. boolean_steady is)))
      eval_steady (tree.Eoln r selectors) =
          bind_steady (root_steady p opened at r) (λ base. bind_steady (walk_steady false base selectors) (λ file.
          bind_steady (ask_steady at file eoln) (λ is. boolean_steady is)))
      eval_steady (tree.Not e) = bind_steady (eval_steady e) (λ v. bind_steady (number_steady v) (λ n. boolean_steady (not (is_true n))))
      eval_steady (tree.Signed s e) = bind_steady (eval_steady e) (λ v. bind_steady (number_steady v) (λ n. sign_steady at s n))
      eval_steady (tree.Chain first more) = bind_steady (eval_steady first) (λ v. chain_steady v more)
      eval_steady (tree.Compare s relation left right) =
          bind_steady (eval_steady left) (λ v. bind_steady (eval_steady right) (λ w. compare_steady at s relation v w))
      eval_steady (tree.In left right) =
          bind_steady (eval_steady left) (λ v. bind_steady (number_steady v) (λ n.
          bind_steady (eval_steady right) (λ w. bind_steady (members_steady w) (λ set. boolean_steady (stands_in n set)))))
      eval_steady (tree.Set members) = bind_steady (member_list_steady [] members) (λ set. gives_steady (Members set))
      eval_steady tree.Wrong = wrong_steady

      chain_steady : (v : Value) (more : PlainTypedOperations) → Steady p.is_closed (eval_chain p self opened at v more)
      chain_steady v tree.NoOperations = gives_steady v
      chain_steady v (tree.Operation o e more) =
          bind_steady (eval_steady e) (λ w. bind_steady (operate_steady at o v w) (λ x. chain_steady x more))

      member_list_steady : (set : List ℕ) (members : PlainTypedMembers) → Steady p.is_closed (eval_members p self opened at set members)
      member_list_steady set tree.NoMembers = gives_steady set
      member_list_steady set (tree.Member e more) =
          bind_steady (eval_steady e) (λ v. bind_steady (number_steady v) (λ n.
          bind_steady (with_member_steady at set n) (λ wider. member_list_steady wider more)))
      member_list_steady set (tree.MemberRange e f more) =
          bind_steady (eval_steady e) (λ v. bind_steady (number_steady v) (λ first.
          bind_steady (eval_steady f) (λ w. bind_steady (number_steady w) (λ last.
          bind_steady (with_members_steady at set first last) (λ wider. member_list_steady wider more)))))

      pub actuals_steady : (actuals : PlainTypedActuals) → Steady p.is_closed (eval_actuals p self opened at actuals)
      actuals_steady tree.NoActuals = gives_steady NoValues
      actuals_steady (tree.Value e check more) =
          bind_steady (eval_steady e) (λ v. then_steady (must_fit_steady at check v)
          (bind_steady (actuals_steady more) (λ vs. gives_steady (Then v vs))))
      actuals_steady (tree.Variable r selectors more) =
          bind_steady (root_steady p opened at r) (λ base. bind_steady (walk_steady false base selectors) (λ target.
          bind_steady (actuals_steady more) (λ vs. gives_steady (Then (Refers target.root target.way target.type) vs))))
      actuals_steady (tree.Routine f more) =
          bind_steady (routine_steady p at f) (λ v. bind_steady (actuals_steady more) (λ vs. gives_steady (Then v vs)))

      walk_steady : (setting : Bool) (r : Reference) (selectors : PlainTypedSelectors) → Steady p.is_closed (walk p self opened at setting r selectors)
      walk_steady setting r tree.NoSelectors = gives_steady r
      walk_steady setting r (tree.Index index low high size more) =
          bind_steady (eval_steady index) (λ v. bind_steady (number_steady v) (λ i.
          then_steady (unless_steady (lies_in low high i) (fault_steady at 4))
          (bind_steady (part_steady r (natural (i -ℤ low)) (natural (i -ℤ low) * size)) (λ component. walk_steady setting component more))))
      walk_steady setting r (tree.Field field more) =
          then_steady (pass_all_steady at (setting && not (goes_through more)) r field.guards)
          (bind_steady (part_steady r field.slot field.offset) (λ component. walk_steady setting component more))
      walk_steady setting r (tree.Follow more) =
          bind_steady (load_steady at sort.Pointer r) (λ v. bind_steady (pointer_steady v) (λ i. bind_steady (object_steady at i) (λ o. walk_steady setting o more)))
      walk_steady setting r (tree.Buffer more) = bind_steady (part_steady r 1 1) (λ buffer. walk_steady setting buffer more)

    pub form_steady : (setting : Bool) (a : PlainTypedAccess) → Steady p.is_closed (form p self opened at setting a)
    form_steady setting a = bind_steady (root_steady p opened at a.root) (λ base. walk_steady setting base a.selectors)

    pub eval_number_steady : (e : PlainTypedExpr) → Steady p.is_closed (eval_number p self opened at e)
    eval_number_steady e = with_number_steady (eval_steady e) (λ n. gives_steady n)
