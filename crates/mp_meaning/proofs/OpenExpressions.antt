-- Evaluation in a program, and in the same one with no block closed.
use Rattle.std.proofs.Common.{ℕ, List, [], Bool, true, false}
use Rattle.std.specs.Prelude.{not, ◌&&◌, nat_eq, nat_le, ◌*◌, ℤ, ◌-ℤ◌}
use Rattle.mp_tables.specs.PlainTypedExpressions.{PlainTypedExpr, PlainTypedSelectors, PlainTypedActuals, PlainTypedOperations, PlainTypedMembers, PlainTypedAccess}
use Rattle.mp_tables.specs.PlainTypedExpressions as tree
use Rattle.mp_tables.specs.declared.typed_expressions.Sort.TheVariants as sort
use Rattle.mp_tables.specs.declared.typed_expressions.Root.{Root}
use Rattle.mp_tables.specs.declared.typed_expressions.Root.TheVariants as root
use Rattle.mp_tables.specs.declared.typed_expressions.Callee.{Callee}
use Rattle.mp_tables.specs.declared.typed_expressions.Callee.TheVariants as callee
use Rattle.mp_meaning.specs.Laws.{all_open}
use Rattle.mp_tables.specs.Sizes.{saturated}
use Rattle.mp_meaning.specs.Names.{Path}
use Rattle.mp_meaning.specs.Configurations.{find_activation}
use Rattle.mp_tables.specs.PlainTypedStatements.{PlainTypedBlock}
use Rattle.mp_meaning.specs.Numbers.{natural, lies_in}
use Rattle.mp_files.specs.TextFiles.{eof, eoln}
use Rattle.mp_meaning.specs.Variables.{as_number, as_members, as_pointer, with_number, part, must_fit, pass_all, object_of}
use Rattle.mp_meaning.specs.Operators.{operate, with_sign, compare, stands_in, boolean, is_true, with_member, with_members, apply}
use Rattle.mp_meaning.specs.Values.{Reference, Value, Undefined, Number, Members, Pointer, Routine, Refers, File, Structure, Values, Then, cells_in_all}
use Rattle.mp_meaning.specs.Programs.{Program, block_of, parameter_count, frame_cells, frame_values}
use Rattle.mp_meaning.specs.Outcomes.{Action, ◌>>=◌, now, needs, unless, wrong, choose, skip, gives, fault}
use Rattle.mp_meaning.specs.Calls.{Self, Task, Body, count, entered, outward, enter, hole, must_have_room, call_block, call, routine_of, leave_function}
use Rattle.mp_meaning.specs.FileCalls.{ask}
use Rattle.mp_meaning.specs.Expressions.{goes_through, load, root_of, eval, eval_chain, eval_members, eval_actuals, walk, form, eval_number}
use Rattle.mp_meaning.proofs.OpenOutcomes.{Opens, itself, alike, follows_bind, follows_itself, follows_outward, bind_opens, then_opens}

number_opens : {A : Type 0} {v w : Action Value} {go on : ℤ → Action A} → Opens v w → ((n : ℤ) → Opens (go n) (on n)) → Opens (with_number v go) (with_number w on)
number_opens f g = bind_opens f (λ v. bind_opens (alike (as_number v)) (λ n. g n))

root_opens : (p : Program) (opened : List Reference) (at : ℕ) (r : Root) → Opens (root_of p opened at r) (root_of (all_open p) opened at r)
root_opens p opened at (root.Own v) = itself
root_opens p opened at (root.Through v) = itself
root_opens p opened at (root.Result v) = itself
root_opens p opened at (root.Opened k) = itself
root_opens p opened at root.Input = itself
root_opens p opened at root.Output = itself

pub routine_opens : (p : Program) (at : ℕ) (f : Callee) → Opens (routine_of p at f) (routine_of (all_open p) at f)
routine_opens p at (callee.Block d path) = itself
routine_opens p at (callee.Parameter v) = itself

hole_opens : (closed : Bool) (path : Path) (at : ℕ) → Opens (choose closed (hole path at) skip) (choose false (hole path at) skip)
hole_opens true path at = record { by = λ c. record { by = tt } }
hole_opens false path at = itself

pub record SelfOpens (low high : Self) : Type 0 where
  pub by : (t : Task) → Opens (low t) (high t)

module _ (p : Program) (low high : Self) (good : SelfOpens low high) where
  enter_opens : {A : Type 0} (at : ℕ) (block : PlainTypedBlock) (parent : ℕ) (actuals : Values) (leave : ℕ → Action A) →
      Opens (enter p low at block parent actuals leave) (enter (all_open p) high at block parent actuals leave)
  enter_opens at block parent actuals leave = record {
    by = λ c. follows_bind (outward c.next (low (Body block.path) (entered p at block parent actuals c)))
        (outward c.next (high (Body block.path) (entered p at block parent actuals c))) (λ v after. leave c.next after) (λ v after. leave c.next after)
        (follows_outward c.next _ _ ((good.by (Body block.path)).by (entered p at block parent actuals c)))
        (λ v after. follows_itself (leave c.next after));
  }

  pub call_block_opens : {A : Type 0} (at : ℕ) (path : Path) (parent : ℕ) (actuals : Values) (leave : PlainTypedBlock → ℕ → Action A) →
      Opens (call_block p low at path parent actuals leave) (call_block (all_open p) high at path parent actuals leave)
  call_block_opens at path parent actuals leave =
      bind_opens (alike (needs (block_of p path))) (λ block.
      then_opens (alike (unless (nat_eq (count actuals) (parameter_count block.frame)) wrong))
      (then_opens (alike (unless (nat_le (saturated (cells_in_all actuals)) block.counted) wrong))
      (then_opens (hole_opens (p.is_closed path) path at)
      (then_opens (alike (must_have_room at block.counted))
      (then_opens (alike (unless (nat_eq (frame_cells p.form block.frame) block.counted) wrong))
      (then_opens (alike (unless (nat_eq (cells_in_all (frame_values p.form actuals block.frame)) block.counted) wrong))
      (enter_opens at block parent actuals (leave block))))))))

  pub call_opens : {A : Type 0} (at : ℕ) (f : Value) (actuals : Values) (leave : PlainTypedBlock → ℕ → Action A) →
      Opens (call p low at f actuals leave) (call (all_open p) high at f actuals leave)
  call_opens at (Routine path parent) actuals leave =
      bind_opens (alike now) (λ c. bind_opens (alike (needs (find_activation c.activations parent))) (λ a. call_block_opens at path parent actuals leave))
  call_opens at Undefined actuals leave = itself
  call_opens at (Number n) actuals leave = itself
  call_opens at (Members set) actuals leave = itself
  call_opens at (Pointer object) actuals leave = itself
  call_opens at (Refers root way type) actuals leave = itself
  call_opens at (File f) actuals leave = itself
  call_opens at (Structure vs) actuals leave = itself

  module _ (opened : List Reference) (at : ℕ) where
    mutual
      pub eval_opens : (e : PlainTypedExpr) → Opens (eval p low opened at e) (eval (all_open p) high opened at e)
      eval_opens (tree.Ordinal n) = itself
      eval_opens (tree.Text cs) = itself
      eval_opens tree.Nil = itself
      eval_opens (tree.Load s r selectors) = bind_opens (root_opens p opened at r) (λ base. bind_opens (walk_opens false base selectors) (λ v. alike (load at s v)))
      eval_opens (tree.Call s f actuals) = bind_opens (routine_opens p at f) (λ f. bind_opens (actuals_opens actuals) (λ vs. call_opens at f vs (leave_function at)))
      eval_opens (tree.Apply f e) = number_opens (eval_opens e) (λ n. alike (apply at f n))
      eval_opens (tree.Eof r selectors) =
          bind_opens (root_opens p opened at r) (λ base. bind_opens (walk_opens false base selectors) (λ file. alike (ask at file eof >>= boolean)))
      eval_opens (tree.Eoln r selectors) =
          bind_opens (root_opens p opened at r) (λ base. bind_opens (walk_opens false base selectors) (λ file. alike (ask at file eoln >>= boolean)))
      eval_opens (tree.Not e) = number_opens (eval_opens e) (λ n. alike (boolean (not (is_true n))))
      eval_opens (tree.Signed s e) = number_opens (eval_opens e) (λ n. alike (with_sign at s n))
      eval_opens (tree.Chain first more) = bind_opens (eval_opens first) (λ v. chain_opens v more)
      eval_opens (tree.Compare s relation left right) = bind_opens (eval_opens left) (λ v. bind_opens (eval_opens right) (λ w. alike (compare at s relation v w)))
      eval_opens (tree.In left right) = number_opens (eval_opens left) (λ n. bind_opens (eval_opens right) (λ w. alike (as_members w >>= (λ set. boolean (stands_in n set)))))
      eval_opens (tree.Set members) = bind_opens (member_list_opens [] members) (λ set. alike (gives (Members set)))
      eval_opens tree.Wrong = itself

      chain_opens : (v : Value) (more : PlainTypedOperations) → Opens (eval_chain p low opened at v more) (eval_chain (all_open p) high opened at v more)
      chain_opens v tree.NoOperations = itself
      chain_opens v (tree.Operation o e more) = bind_opens (eval_opens e) (λ w. bind_opens (alike (operate at o v w)) (λ x. chain_opens x more))

      member_list_opens : (set : List ℕ) (members : PlainTypedMembers) → Opens (eval_members p low opened at set members) (eval_members (all_open p) high opened at set members)
      member_list_opens set tree.NoMembers = itself
      member_list_opens set (tree.Member e more) = number_opens (eval_opens e) (λ n. bind_opens (alike (with_member at set n)) (λ wider. member_list_opens wider more))
      member_list_opens set (tree.MemberRange e f more) =
          number_opens (eval_opens e) (λ first. number_opens (eval_opens f) (λ last.
          bind_opens (alike (with_members at set first last)) (λ wider. member_list_opens wider more)))

      pub actuals_opens : (actuals : PlainTypedActuals) → Opens (eval_actuals p low opened at actuals) (eval_actuals (all_open p) high opened at actuals)
      actuals_opens tree.NoActuals = itself
      actuals_opens (tree.Value e check more) =
          bind_opens (eval_opens e) (λ v. then_opens (alike (must_fit at check v)) (bind_opens (actuals_opens more) (λ vs. alike (gives (Then v vs)))))
      actuals_opens (tree.Variable r selectors more) =
          bind_opens (root_opens p opened at r) (λ base. bind_opens (walk_opens false base selectors)
          (λ target. bind_opens (actuals_opens more) (λ vs. alike (gives (Then (Refers target.root target.way target.type) vs)))))
      actuals_opens (tree.Routine f more) = bind_opens (routine_opens p at f) (λ v. bind_opens (actuals_opens more) (λ vs. alike (gives (Then v vs))))

      walk_opens : (setting : Bool) (r : Reference) (selectors : PlainTypedSelectors) → Opens (walk p low opened at setting r selectors)
          (walk (all_open p) high opened at setting r selectors)
      walk_opens setting r tree.NoSelectors = itself
      walk_opens setting r (tree.Index index first last size more) =
          number_opens (eval_opens index) (λ i. then_opens (alike (unless (lies_in first last i) (fault at 4)))
          (bind_opens (alike (part r (natural (i -ℤ first)) (natural (i -ℤ first) * size))) (λ component. walk_opens setting component more)))
      walk_opens setting r (tree.Field field more) = then_opens (alike (pass_all at (setting && not (goes_through more)) r field.guards))
          (bind_opens (alike (part r field.slot field.offset)) (λ component. walk_opens setting component more))
      walk_opens setting r (tree.Follow more) =
          bind_opens (alike (load at sort.Pointer r)) (λ v. bind_opens (alike (as_pointer v)) (λ i. bind_opens (alike (object_of at i)) (λ o. walk_opens setting o more)))
      walk_opens setting r (tree.Buffer more) = bind_opens (alike (part r 1 1)) (λ buffer. walk_opens setting buffer more)

    pub form_opens : (setting : Bool) (a : PlainTypedAccess) → Opens (form p low opened at setting a) (form (all_open p) high opened at setting a)
    form_opens setting a = bind_opens (root_opens p opened at a.root) (λ base. walk_opens setting base a.selectors)

    pub eval_number_opens : (e : PlainTypedExpr) → Opens (eval_number p low opened at e) (eval_number (all_open p) high opened at e)
    eval_number_opens e = number_opens (eval_opens e) (λ n. alike (gives n))
