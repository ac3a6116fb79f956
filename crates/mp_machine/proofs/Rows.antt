-- What every row keeps, for a relation between the states before and after: it is enough that the few changes of which
-- rows consist keep it. The rows of calls and of `New` add to these.
use Rattle.std.proofs.Common.{◌≡◌, ℕ, zero, suc, ◌+◌, ◌*◌, List, [], ◌∷◌, ◌++◌, Option, Some, None, Bool, true, false, refl}
use Rattle.std.proofs.Common.{sym, ap, subst}
use Rattle.std.specs.List.{list_all}
use Rattle.std.specs.Prelude.{nat_eq, nat_le, nat_lt, ◌&&◌, slice_get, slice_set, length, map, ℤ, pos, ◌+ℤ◌, ◌-ℤ◌, ◌*ℤ◌, int_lt}
use Rattle.std.specs.Prelude.{int_div}
use Rattle.mp_code.specs.declared.instructions.Operation.{Operation}
use Rattle.mp_code.specs.declared.instructions.Operation.TheVariants as operation
use Rattle.mp_code.specs.declared.instructions.FileOperation.{FileOperation}
use Rattle.mp_code.specs.declared.instructions.FileOperation.TheVariants as file
use Rattle.mp_code.specs.declared.instructions.Relation.{Relation}
use Rattle.mp_code.specs.declared.instructions.RangeFault.{RangeFault}
use Rattle.mp_code.specs.declared.instructions.Group.{Group}
use Rattle.mp_code.specs.declared.instructions.CaseArm.{CaseArm}
use Rattle.mp_memory.specs.declared.cells.Cell.{Cell}
use Rattle.mp_memory.specs.declared.cells.Cell.TheVariants as cell
use Rattle.mp_memory.specs.Roots.{Found, Got, Dropped, Outside, cell_at, cells_at, with_cells, with_root}
use Rattle.mp_machine.specs.Blocks.{Path}
use Rattle.mp_machine.specs.Numbers.{lies_in, members_lie_in, same_number, natural}
use Rattle.mp_memory.specs.Sets.{union, intersection, difference}
use Rattle.mp_machine.specs.Numbers.{may_be_member}
use Rattle.mp_files.specs.declared.items.Item.{Item}
use Rattle.mp_files.specs.declared.items.Item.TheVariants.{Character, LineEnd}
use Rattle.mp_files.specs.TextFiles.{TextFile, FileCall, Gives, Fails, closed_file, write_items, shown, page_items}
use Rattle.mp_files.specs.TextFiles as text
use Rattle.mp_files.specs.WrittenFields.{width_refusal}
use Rattle.mp_files.specs.declared.causes.FileEnd.{FileEnd}
use Rattle.mp_files.specs.declared.causes.FileEnd.TheVariants as end
use Rattle.mp_base.specs.declared.limits.TheConstants.{OUTPUT_LIMIT}
use Rattle.mp_memory.specs.Integers.{as_integer}
use Rattle.mp_machine.specs.Activations.{holder}
use Rattle.mp_machine.specs.declared.operands.Operand.{Operand}
use Rattle.mp_machine.specs.declared.operands.Operand.TheVariants.{One, Block}
use Rattle.mp_machine.specs.States.{Frame, State, Codes, code_of, activations_in, newest_path}
use Rattle.mp_machine.specs.Outcomes.{Outcome, Done, Fault, Limit, Missing, Ended, Lacking, Stuck, Action, Row, bind, ◌>>=◌}
use Rattle.mp_machine.specs.Outcomes.{◌>>◌, gives, skip, now, update, fault, limit, ended, stuck, needs, choose, unless}
use Rattle.mp_machine.specs.declared.addresses.Address.{Address}
use Rattle.mp_machine.specs.Operands.{with_newest, change_newest, go_on_at, put, taken, without_operand, take, as_cell}
use Rattle.mp_machine.specs.Operands.{as_block, as_number, as_members, as_pointer, as_address, take_cell, take_block}
use Rattle.mp_machine.specs.Operands.{take_number, take_members, take_pointer, take_address, cells_in, take_all}
use Rattle.mp_machine.specs.Memory.{what_is, cell_of, cells_of, defined, with_root_cells, set_cells, set_cell, undefined_cells}
use Rattle.mp_machine.specs.Memory.{beyond, nothing_there, offset_limit, reach, activation_at, must_be_there, object_at}
use Rattle.mp_machine.specs.ValueRows as value
use Rattle.mp_machine.specs.VariableRows as variable
use Rattle.mp_machine.specs.CallRows as call
use Rattle.mp_machine.specs.ObjectRows as object
use Rattle.mp_machine.specs.FileRows as files
use Rattle.mp_machine.specs.Table.{row}
use Rattle.mp_machine.specs.Laws.{Leads, IsLonger, adds_a_root}
use Rattle.mp_machine.proofs.FileLemmas.{AfterCall, Appends, writes_append, get_appends, line_appends, number_appends}

-- the changes of which rows consist
pub record Keeping (R : State → State → Type 0) : Type 0 where
  pub same : (s : State) → R s s
  pub two : (s t u : State) → R s t → R t u → R s u
  pub newest : (s : State) (fs : List Frame) → activations_in fs ≡ activations_in s.frames → R s (record s { frames = fs })
  pub older : (s : State) (f : Frame) (older : List Frame) → s.frames ≡ f ∷ older → R s (record s { frames = older })
  pub place : (s : State) (k : ℕ) → R s (record s { at = k })
  pub cells : (s : State) (r : ℕ) (old new : List Cell) → s.roots r ≡ Some old → R s (with_root_cells r new s)
  pub none : (s : State) (r : ℕ) → R s (record s { roots = with_root s.roots r None })
  pub blocks : (s : State) (more : List Path) → R s (record s { blocks = s.blocks ++ more })
  pub file : (s : State) (k : ℕ) (f g : TextFile) → slice_get s.files k ≡ Some f → (k ≡ 1 → IsLonger f.before g.before) →
      R s (record s { files = slice_set s.files k g })
  pub files : (s : State) (more : List TextFile) → R s (record s { files = s.files ++ more })
  pub written : (s : State) (n : ℕ) → R s (record s { written = s.written + n })

module _ (R : State → State → Type 0) (P : Path → Type 0) (h : Keeping R) where
  pub record Keeps {A : Type 0} (s : State) (o : Outcome A) : Type 0 where
    pub by : Leads R P s o

  pub record Kept {A : Type 0} (m : Action A) : Type 0 where
    pub by : (s : State) → Keeps s (m s)

  -- ---- outcomes and actions

  pub keeps_two : {A : Type 0} (s t : State) (o : Outcome A) → R s t → Keeps t o → Keeps s o
  keeps_two s t (Done x u) g k = record { by = h.two s t u g k.by }
  keeps_two s t (Fault n u) g k = record { by = h.two s t u g k.by }
  keeps_two s t (Limit n u) g k = record { by = h.two s t u g k.by }
  keeps_two s t (Ended u) g k = record { by = h.two s t u g k.by }
  keeps_two s t (Missing path) g k = record { by = k.by }
  keeps_two s t Lacking g k = record { by = tt }
  keeps_two s t Stuck g k = record { by = tt }

  pub keeps_bind : {A B : Type 0} (s : State) (o : Outcome A) (go : A → State → Outcome B) → Keeps s o →
      ((x : A) (t : State) → Keeps t (go x t)) → Keeps s (bind o go)
  keeps_bind s (Done x t) go k f = keeps_two s t (go x t) k.by (f x t)
  keeps_bind s (Fault n t) go k f = record { by = k.by }
  keeps_bind s (Limit n t) go k f = record { by = k.by }
  keeps_bind s (Ended t) go k f = record { by = k.by }
  keeps_bind s (Missing path) go k f = record { by = k.by }
  keeps_bind s Lacking go k f = record { by = tt }
  keeps_bind s Stuck go k f = record { by = tt }

  pub bind_kept : {A B : Type 0} {m : Action A} {go : A → Action B} → Kept m → ((x : A) → Kept (go x)) → Kept (m >>= go)
  bind_kept {m} {go} f g = record { by = λ s. keeps_bind s (m s) go (f.by s) (λ x t. (g x).by t) }

  pub then_kept : {A B : Type 0} {m : Action A} {o : Action B} → Kept m → Kept o → Kept (m >> o)
  then_kept {m} {o} f g = record { by = λ s. keeps_bind s (m s) (λ x t. o t) (f.by s) (λ x t. g.by t) }

  -- the state at hand
  pub update_kept : (change : State → State) → ((s : State) → R s (change s)) → Kept (update change)
  update_kept change g = record { by = λ s. record { by = g s } }

  pub looks_kept : {A : Type 0} {go : State → Action A} → ((s : State) → Kept (go s)) → Kept (now >>= go)
  looks_kept g = record { by = λ s. (g s).by s }

  pub gives_kept : {A : Type 0} (x : A) → Kept (gives x)
  gives_kept x = record { by = λ s. record { by = h.same s } }

  pub skip_kept : Kept skip
  skip_kept = record { by = λ s. record { by = h.same s } }

  pub fault_kept : {A : Type 0} (n : ℕ) → Kept {A = A} (fault n)
  fault_kept n = record { by = λ s. record { by = h.same s } }

  pub limit_kept : {A : Type 0} (n : ℕ) → Kept {A = A} (limit n)
  limit_kept n = record { by = λ s. record { by = h.same s } }

  pub ended_kept : {A : Type 0} → Kept {A = A} ended
  ended_kept = record { by = λ s. record { by = h.same s } }

  pub stuck_kept : {A : Type 0} → Kept {A = A} stuck
  stuck_kept = record { by = λ s. record { by = tt } }

  pub needs_kept : {A : Type 0} (o : Option A) → Kept (needs o)
  needs_kept None = record { by = λ s. record { by = tt } }
  needs_kept (Some x) = record { by = λ s. record { by = h.same s } }

  pub choose_kept : {A : Type 0} (b : Bool) {m o : Action A} → Kept m → Kept o → Kept (choose b m o)
  choose_kept true f g = record { by = λ s. f.by s }
  choose_kept false f g = record { by = λ s. g.by s }

  pub unless_kept : (b : Bool) {m : Row} → Kept m → Kept (unless b m)
  unless_kept true f = record { by = λ s. record { by = h.same s } }
  unless_kept false f = record { by = λ s. f.by s }

  -- ---- operands

  same_activations : (change : Frame → Frame) → ((f : Frame) → (change f).activation ≡ f.activation) → (fs : List Frame) →
      activations_in (with_newest change fs) ≡ activations_in fs
  same_activations change same [] = refl
  same_activations change same (f ∷ older) = ap (λ a. a ∷ activations_in older) (same f)

  pub newest_kept : (change : Frame → Frame) → ((f : Frame) → (change f).activation ≡ f.activation) →
      Kept (change_newest change)
  newest_kept change same = record {
    by =
        λ s. record { by = h.newest s (with_newest change s.frames) (same_activations change same s.frames) };
  }

  pub go_on_kept : (k : ℕ) → Kept (go_on_at k)
  go_on_kept k = newest_kept (λ f. record f { next = k }) (λ f. refl)

  pub put_kept : (x : Operand) → Kept (put x)
  put_kept x = newest_kept (λ f. record f { operands = x ∷ f.operands }) (λ f. refl)

  pub take_kept : Kept take
  take_kept = record { by = λ s. by_frames s s.frames refl }
    where
      by_operands : (s : State) (f : Frame) (older : List Frame) (xs : List Operand) → s.frames ≡ f ∷ older →
          Keeps s (without_operand s f older xs)
      by_operands s f older [] e = record { by = tt }
      by_operands s f older (x ∷ more) e = record {
        by = h.newest s (record f { operands = more } ∷ older) (ap activations_in
            (sym e));
      }

      by_frames : (s : State) (fs : List Frame) → s.frames ≡ fs → Keeps s (taken s fs)
      by_frames s [] e = record { by = tt }
      by_frames s (f ∷ older) e = by_operands s f older f.operands e

  pub cell_kept : (x : Operand) → Kept (as_cell x)
  cell_kept (One x) = gives_kept x
  cell_kept (Block xs) = stuck_kept

  pub block_kept : (x : Operand) → Kept (as_block x)
  block_kept (One x) = stuck_kept
  block_kept (Block xs) = gives_kept xs

  pub number_kept : (x : Cell) → Kept (as_number x)
  number_kept (cell.Int n) = gives_kept n
  number_kept _ = stuck_kept

  pub members_kept : (x : Cell) → Kept (as_members x)
  members_kept (cell.Members set) = gives_kept set
  members_kept _ = stuck_kept

  pub pointer_kept : (x : Cell) → Kept (as_pointer x)
  pointer_kept (cell.Ptr k) = gives_kept k
  pointer_kept _ = stuck_kept

  pub address_kept : (x : Cell) → Kept (as_address x)
  address_kept (cell.Ref r o) = gives_kept (record { root = r; offset = o })
  address_kept _ = stuck_kept

  pub take_cell_kept : Kept take_cell
  take_cell_kept = bind_kept take_kept (λ x. cell_kept x)

  pub take_block_kept : Kept take_block
  take_block_kept = bind_kept take_kept (λ x. block_kept x)

  pub take_number_kept : Kept take_number
  take_number_kept = bind_kept take_cell_kept (λ x. number_kept x)

  pub take_members_kept : Kept take_members
  take_members_kept = bind_kept take_cell_kept (λ x. members_kept x)

  pub take_pointer_kept : Kept take_pointer
  take_pointer_kept = bind_kept take_cell_kept (λ x. pointer_kept x)

  pub take_address_kept : Kept take_address
  take_address_kept = bind_kept take_cell_kept (λ x. address_kept x)

  pub take_all_kept : (n : ℕ) → Kept (take_all n)
  take_all_kept zero = gives_kept []
  take_all_kept (suc n) = bind_kept take_kept (λ last. bind_kept (take_all_kept n) (λ before. gives_kept (before ++ cells_in
      last)))

  -- ---- cells

  pub what_is_kept : {A : Type 0} (f : Found A) → Kept (what_is f)
  what_is_kept (Got x) = gives_kept x
  what_is_kept Dropped = fault_kept 8
  what_is_kept Outside = stuck_kept

  pub cell_of_kept : (a : Address) → Kept (cell_of a)
  cell_of_kept a = looks_kept (λ s. what_is_kept (cell_at (s.roots a.root) a.offset))

  pub cells_of_kept : (a : Address) (n : ℕ) → Kept (cells_of a n)
  cells_of_kept a n = looks_kept (λ s. what_is_kept (cells_at (s.roots a.root) a.offset n))

  pub defined_kept : (x : Cell) → Kept (defined x)
  defined_kept cell.Undef = fault_kept 9
  defined_kept x = gives_kept x

  pub set_cells_kept : (a : Address) (new : List Cell) → Kept (set_cells a new)
  set_cells_kept a new = record { by = λ s. by_root s (s.roots a.root) refl }
    where
      by_found : (s : State) (old : List Cell) (f : Found (List Cell)) → s.roots a.root ≡ Some old →
          Keeps s (bind (what_is f s) (λ cells t. update (with_root_cells a.root cells) t))
      by_found s old (Got cells) e = record { by = h.cells s a.root old cells e }
      by_found s old Dropped e = record { by = h.same s }
      by_found s old Outside e = record { by = tt }

      by_root : (s : State) (c : Option (List Cell)) → s.roots a.root ≡ c →
          Keeps s (bind (what_is (with_cells c a.offset new) s) (λ cells t. update (with_root_cells a.root cells) t))
      by_root s None e = record { by = h.same s }
      by_root s (Some old) e = by_found s old (with_cells (Some old) a.offset new) e

  pub set_cell_kept : (a : Address) (x : Cell) → Kept (set_cell a x)
  set_cell_kept a x = set_cells_kept a (x ∷ [])

  pub activation_at_kept : (d : ℕ) → Kept (activation_at d)
  activation_at_kept d = looks_kept (λ s. needs_kept (holder (activations_in s.frames) d))

  nothing_there_kept : (c : Option (List Cell)) → Kept (what_is (nothing_there c))
  nothing_there_kept None = fault_kept 8
  nothing_there_kept (Some cells) = stuck_kept

  pub reach_kept : (a : Address) (n : ℕ) → Kept (reach a n)
  reach_kept a n = looks_kept (λ s. choose_kept (nat_lt (a.offset + n) offset_limit) (gives_kept (beyond a n))
      (nothing_there_kept (s.roots a.root)))

  must_be_there_kept : (c : Option (List Cell)) → Kept (must_be_there c)
  must_be_there_kept None = fault_kept 8
  must_be_there_kept (Some cells) = skip_kept

  pub object_at_kept : (k : ℕ) → Kept (object_at k)
  object_at_kept zero = fault_kept 7
  object_at_kept (suc k) = looks_kept (λ s. bind_kept (needs_kept (slice_get s.objects k))
      (λ o. then_kept (must_be_there_kept (s.roots o.root)) (gives_kept o)))

  -- ---- rows on values

  put_or_overflow_kept : (o : Option ℤ) → Kept (value.put_or_overflow o)
  put_or_overflow_kept None = fault_kept 1
  put_or_overflow_kept (Some n) = put_kept _

  pub put_integer_kept : (n : ℤ) → Kept (value.put_integer n)
  put_integer_kept n = put_or_overflow_kept (as_integer n)

  on_numbers_kept : (f : ℤ → ℤ → Row) → ((i j : ℤ) → Kept (f i j)) → Kept (value.on_numbers f)
  on_numbers_kept f g = bind_kept take_number_kept (λ j. bind_kept take_number_kept (λ i. g i j))

  on_sets_kept : (f : List ℕ → List ℕ → List ℕ) → Kept (value.on_sets f)
  on_sets_kept f = bind_kept take_members_kept (λ b. bind_kept take_members_kept (λ a. put_kept _))

  dup_kept : Kept value.dup
  dup_kept = bind_kept take_cell_kept (λ x. then_kept (put_kept (One x)) (put_kept (One x)))

  range_kept : (low high : ℤ) (f : RangeFault) → Kept (value.range low high f)
  range_kept low high f = bind_kept take_number_kept
      (λ i. then_kept (unless_kept (lies_in low high i) (fault_kept (value.range_fault f))) (put_kept _))

  within_kept : (low high : ℤ) → Kept (value.within low high)
  within_kept low high = bind_kept take_members_kept
      (λ set. then_kept (unless_kept (members_lie_in low high set) (fault_kept 3)) (put_kept _))

  has_kept : Kept value.has
  has_kept = bind_kept take_members_kept (λ set. bind_kept take_number_kept (λ i. put_kept _))

  one_kept : Kept value.one
  one_kept = bind_kept take_number_kept (λ i. bind_kept take_members_kept
      (λ set. then_kept (unless_kept (may_be_member i) (fault_kept 15)) (put_kept _)))

  span_kept : Kept value.span
  span_kept = bind_kept take_number_kept (λ j. bind_kept take_number_kept (λ i. bind_kept take_members_kept (λ set.
      choose_kept (int_lt j i) (put_kept _) (then_kept (unless_kept (may_be_member i && may_be_member j) (fault_kept 15))
      (put_kept _)))))

  put_defined_kept : (o : Option Bool) → Kept (value.put_defined o)
  put_defined_kept None = fault_kept 9
  put_defined_kept (Some b) = put_kept _

  compare_strings_kept : (r : Relation) (xs ys : Option (List ℕ)) → Kept (value.compare_strings r xs ys)
  compare_strings_kept r xs ys = put_defined_kept (value.string_relation r xs ys)

  compare_cells_kept : (r : Relation) (x y : Cell) → Kept (value.compare_cells r x y)
  compare_cells_kept r (cell.Int i) (cell.Int j) = put_kept _
  compare_cells_kept r (cell.Members a) (cell.Members b) = put_kept _
  compare_cells_kept r (cell.Ptr a) (cell.Ptr b) = put_kept _
  compare_cells_kept r _ _ = stuck_kept

  compare_kept : (r : Relation) (x y : Operand) → Kept (value.compare r x y)
  compare_kept r (One x) (One y) = compare_cells_kept r x y
  compare_kept r (Block xs) (Block ys) = compare_strings_kept r (value.characters_of xs) (value.characters_of ys)
  compare_kept r (One x) (Block ys) = stuck_kept
  compare_kept r (Block xs) (One y) = stuck_kept

  cmp_kept : (r : Relation) → Kept (value.cmp r)
  cmp_kept r = bind_kept take_kept (λ y. bind_kept take_kept (λ x. compare_kept r x y))

  -- ---- rows on variables

  put_far_kept : (a : Address) → Kept (variable.put_far a)
  put_far_kept a = choose_kept (nat_lt a.offset offset_limit) (put_kept _) stuck_kept

  addr_kept : (d o : ℕ) → Kept (variable.addr d o)
  addr_kept d o = bind_kept (activation_at_kept d) (λ number. put_kept _)

  offset_kept : (n : ℕ) → Kept (variable.offset n)
  offset_kept n = bind_kept take_address_kept (λ a. put_far_kept (beyond a n))

  index_kept : (low high : ℤ) (size : ℕ) → Kept (variable.index low high size)
  index_kept low high size = bind_kept take_number_kept (λ i. bind_kept take_address_kept (λ a.
      then_kept (unless_kept (lies_in low high i) (fault_kept 4)) (put_far_kept (beyond a (natural (i -ℤ low) * size)))))

  follow_kept : Kept variable.follow
  follow_kept = bind_kept take_pointer_kept (λ k. bind_kept (object_at_kept k) (λ o. put_kept _))

  load_kept : Kept variable.load
  load_kept = bind_kept take_address_kept
      (λ a. bind_kept (cell_of_kept a) (λ x. bind_kept (defined_kept x) (λ y. put_kept (One y))))

  store_kept : Kept variable.store
  store_kept = bind_kept take_cell_kept (λ x. bind_kept take_address_kept (λ a. set_cell_kept a x))

  clear_kept : (n : ℕ) → Kept (variable.clear n)
  clear_kept n = bind_kept take_address_kept (λ a. set_cells_kept a (undefined_cells n))

  load_many_kept : (n : ℕ) → Kept (variable.load_many n)
  load_many_kept n = bind_kept take_address_kept (λ a. bind_kept (cells_of_kept a n) (λ xs. put_kept (Block xs)))

  store_many_kept : (n : ℕ) → Kept (variable.store_many n)
  store_many_kept n = bind_kept take_block_kept (λ xs. bind_kept take_address_kept (λ a. set_cells_kept a xs))

  set_tag_kept : (a : Address) (x : Cell) (n : ℕ) → Kept (variable.set_tag a x n)
  set_tag_kept a x n = then_kept (set_cell_kept a x) (bind_kept (reach_kept a 1) (λ b. set_cells_kept b (undefined_cells n)))

  active_kept : (o : ℕ) (constants : List ℤ) → Kept (variable.active o constants)
  active_kept o constants = bind_kept take_address_kept
      (λ a. bind_kept (reach_kept a o) (λ b. bind_kept (cell_of_kept b) (λ tag.
      then_kept (unless_kept (variable.is_tag_of constants tag) (fault_kept 10)) (put_kept _))))

  select_kept : (o : ℕ) (constant : ℤ) (constants : List ℤ) (n : ℕ) → Kept (variable.select o constant constants n)
  select_kept o constant constants n = bind_kept take_address_kept
      (λ a. bind_kept (reach_kept a o) (λ b. bind_kept (cell_of_kept b) (λ tag.
      then_kept (unless_kept (variable.is_tag_of constants tag) (set_tag_kept b (cell.Int constant) n)) (put_kept _))))

  tag_kept : (groups : List Group) (n : ℕ) → Kept (variable.tag groups n)
  tag_kept groups n = bind_kept take_cell_kept (λ x. bind_kept take_address_kept (λ a. bind_kept (cell_of_kept a) (λ old.
      choose_kept (variable.same_variant groups old x) (set_cell_kept a x) (set_tag_kept a x n))))

  -- ---- jumps

  jump_if_false_kept : (target : ℕ) → Kept (call.jump_if_false target)
  jump_if_false_kept target = bind_kept take_number_kept (λ i. choose_kept (same_number i (pos 0)) (go_on_kept target)
      skip_kept)

  go_to_arm_kept : (o : Option ℕ) → Kept (call.go_to_arm o)
  go_to_arm_kept None = fault_kept 5
  go_to_arm_kept (Some target) = go_on_kept target

  case_kept : (arms : List CaseArm) → Kept (call.case arms)
  case_kept arms = bind_kept take_number_kept (λ i. go_to_arm_kept (call.arm_of arms i))

  -- ---- procedural values

  put_routine_kept : (path : Path) (parent : ℕ) (s : State) (o : Option ℕ) → Kept (call.put_routine path parent s o)
  put_routine_kept path parent s (Some number) = put_kept _
  put_routine_kept path parent s None = then_kept (update_kept (λ t. record t { blocks = t.blocks ++ path ∷ [] })
      (λ t. h.blocks t (path ∷ []))) (put_kept _)

  proc_kept : (d : ℕ) (path : Path) → Kept (call.proc d path)
  proc_kept d path = bind_kept (activation_at_kept d)
      (λ parent. looks_kept (λ s. put_routine_kept path parent s (call.number_of_block s.blocks path)))

  -- ---- the end of activations

  pub without_newest_keeps : (s : State) (fs : List Frame) → s.frames ≡ fs → R s (call.without_newest s fs)
  without_newest_keeps s [] e = h.same s
  without_newest_keeps s (f ∷ older) e =
      let t : State = record s { frames = older } in
      let u : State = record t { roots = with_root t.roots f.activation.number None } in
      h.two s t _ (h.older s f older e) (h.two t u _ (h.none t f.activation.number) (h.place u f.activation.from))

  left_until_keeps : (number : ℕ) (s : State) (fs : List Frame) → s.frames ≡ fs → R s (call.left_until number s fs)
  left_until_keeps number s [] e = h.same s
  left_until_keeps number s (f ∷ older) e = by_test (nat_eq f.activation.number number)
      (left_until_keeps number (call.without_newest s (f ∷ older)) older refl)
    where
      by_test : (b : Bool) → R (call.without_newest s (f ∷ older)) (call.left_until number (call.without_newest s (f ∷ older))
          older) → R s (elim b as (λ is. State) [
            | true ↦ s
            | false ↦ call.left_until number (call.without_newest s (f ∷ older))
                older
          ])
      by_test true k = h.same s
      by_test false k = h.two s (call.without_newest s (f ∷ older)) _ (without_newest_keeps s (f ∷ older) e) k

  leave_newest_kept : Kept call.leave_newest
  leave_newest_kept = update_kept (λ s. call.without_newest s s.frames) (λ s. without_newest_keeps s s.frames refl)

  return_cell_kept : (f : Frame) (o : Option ℕ) → Kept (call.return_cell f o)
  return_cell_kept f None = leave_newest_kept
  return_cell_kept f (Some o) = bind_kept (cell_of_kept (record { root = f.activation.number; offset = o }))
      (λ x. then_kept leave_newest_kept (bind_kept (defined_kept x) (λ y. put_kept (One y))))

  return_in_kept : (fs : List Frame) (o : Option ℕ) → Kept (call.return_in fs o)
  return_in_kept [] o = stuck_kept
  return_in_kept (f ∷ []) o = ended_kept
  return_in_kept (f ∷ g ∷ older) o = return_cell_kept f o

  return_kept : (o : Option ℕ) → Kept (call.«return» o)
  return_kept o = looks_kept (λ s. return_in_kept s.frames o)

  leave_kept : (codes : Codes) (d l : ℕ) → Kept (call.leave codes d l)
  leave_kept codes d l = bind_kept (activation_at_kept d) (λ number.
      then_kept (update_kept (λ s. call.left_until number s s.frames) (λ s. left_until_keeps number s s.frames refl))
      (looks_kept (λ s. bind_kept (needs_kept (call.label_in (code_of codes (newest_path s.frames)) l))
      (λ k. newest_kept (λ f. record f { next = k; operands = [] }) (λ f. refl)))))

  -- ---- objects

  dispose_kept : Kept object.dispose
  dispose_kept = bind_kept take_pointer_kept (λ k. bind_kept (object_at_kept k)
      (λ o. update_kept (λ s. record s { roots = with_root s.roots o.root None }) (λ s. h.none s o.root)))

  -- ---- files

  as_file_kept : (x : Cell) → Kept (files.as_file x)
  as_file_kept cell.Undef = gives_kept None
  as_file_kept (cell.FileNo k) = gives_kept (Some k)
  as_file_kept _ = stuck_kept

  file_number_kept : (a : Address) → Kept (files.file_number a)
  file_number_kept a = bind_kept (cell_of_kept a) (λ x. as_file_kept x)

  file_of_kept : (k : Option ℕ) → Kept (files.file_of k)
  file_of_kept None = gives_kept closed_file
  file_of_kept (Some k) = looks_kept (λ s. needs_kept (slice_get s.files k))

  answer_kept : {A : Type 0} (c : FileCall A) → Kept (files.answer c)
  answer_kept (Gives x f) = gives_kept x
  answer_kept (Fails n) = fault_kept n

  ask_kept : {A : Type 0} (a : Address) (question : TextFile → FileCall A) → Kept (files.ask a question)
  ask_kept a question = bind_kept (file_number_kept a) (λ k. bind_kept (file_of_kept k) (λ f. answer_kept (question f)))

  result_kept : {A : Type 0} (k : Option ℕ) (operation : TextFile → FileCall A) → Appends operation →
      Kept (files.file_of k >>= (λ f. files.result k (operation f)))
  result_kept {A} None operation g = bind_kept (gives_kept closed_file) (λ f. by_call (operation f))
    where
      by_call : (c : FileCall A) → Kept (files.result None c)
      by_call (Gives x f) = then_kept {A = Unit {0}} {m = stuck} stuck_kept (gives_kept x)
      by_call (Fails n) = fault_kept n
  result_kept {A} (Some k) operation g = record { by = λ s. by_file s (slice_get s.files k) refl }
    where
      by_call : (s : State) (f : TextFile) (c : FileCall A) → slice_get s.files k ≡ Some f → AfterCall f c →
          Keeps s (files.result (Some k) c s)
      by_call s f (Gives x new) e longer = record { by = h.file s k f new e (λ is. longer) }
      by_call s f (Fails n) e longer = record { by = h.same s }

      by_file : (s : State) (o : Option TextFile) → slice_get s.files k ≡ o →
          Keeps s (bind (needs o s) (λ f t. files.result (Some k) (operation f) t))
      by_file s None e = record { by = tt }
      by_file s (Some f) e = by_call s f (operation f) e (g.by f)

  on_file_kept : {A : Type 0} (a : Address) (operation : TextFile → FileCall A) → Appends operation →
      Kept (files.on_file a operation)
  on_file_kept a operation g = bind_kept (file_number_kept a) (λ k. result_kept k operation g)

  renew_kept : (a : Address) → Kept (files.renew_buffer a)
  renew_kept a = bind_kept (ask_kept a (λ f. Gives (shown f) f))
      (λ x. bind_kept (reach_kept a 1) (λ b. set_cell_kept b (files.buffer_cell x)))

  choose_by : {A : Type 0} (b : Bool) {m o : Action A} → (b ≡ true → Kept m) → (b ≡ false → Kept o) → Kept (choose b m o)
  choose_by true f g = record { by = λ s. (f refl).by s }
  choose_by false f g = record { by = λ s. (g refl).by s }

  abbrev begun_file : (TextFile → TextFile) → Address → Option ℕ → Row
  begun_file new a k = files.file_of k >>= (λ f. files.make_file a k (new f) >> files.renew_buffer a)

  begun_file_kept : (new : TextFile → TextFile) (a : Address) (k : Option ℕ) → files.is_required k ≡ false →
      Kept (begun_file new a k)
  begun_file_kept new a None e =
      bind_kept (gives_kept closed_file) (λ f. then_kept
      (looks_kept (λ s. then_kept (set_cell_kept a (cell.FileNo (length s.files)))
      (update_kept (λ t. record t { files = t.files ++ new f ∷ [] }) (λ t. h.files t (new f ∷ [])))))
      (renew_kept a))
  begun_file_kept new a (Some k) e = record { by = λ s. by_file s (slice_get s.files k) refl }
    where
      not_output : (f g : TextFile) → k ≡ 1 → IsLonger f.before g.before
      not_output f g is = let w : true ≡ false = subst (λ k. nat_lt k 2 ≡ false) is e in absurd (let v : ⊥ = cc in v)

      by_file : (s : State) (o : Option TextFile) → slice_get s.files k ≡ o →
          Keeps s (bind (needs o s) (λ f t. (files.make_file a (Some k) (new f) >> files.renew_buffer a) t))
      by_file s None found = record { by = tt }
      by_file s (Some f) found = keeps_bind s (files.make_file a (Some k) (new f) s) (λ x t. files.renew_buffer a t)
          (record { by = h.file s k f (new f) found (not_output f (new f)) }) (λ x t. (renew_kept a).by t)

  begin_file_kept : (new : TextFile → TextFile) → Kept (files.begin_file new)
  begin_file_kept new = bind_kept take_address_kept (λ a. bind_kept (file_number_kept a) (λ k. choose_by (files.is_required k)
      (λ is. skip_kept) (λ is. begun_file_kept new a k is)))

  get_at_kept : (a : Address) → Kept (files.get_at a)
  get_at_kept a = then_kept (on_file_kept a text.get get_appends) (renew_kept a)

  asked_kept : {A : Type 0} (k : Option ℕ) (question : TextFile → FileCall A) → Kept (files.asked k question)
  asked_kept k question = bind_kept (file_of_kept k) (λ f. answer_kept (question f))

  must_read_kept : (a : Address) → Kept (files.must_read a)
  must_read_kept a = bind_kept (file_number_kept a) (λ k. asked_kept k _)

  must_write_kept : (a : Address) → Kept (files.must_write a)
  must_write_kept a = bind_kept (file_number_kept a) (λ k. asked_kept k _)

  charge_kept : (n : ℕ) → Kept (files.charge n)
  charge_kept n = looks_kept (λ s. then_kept (unless_kept (nat_le (s.written + n) OUTPUT_LIMIT) (limit_kept 4))
      (update_kept (λ t. record t { written = t.written + n }) (λ t. h.written t n)))

  write_on_kept : (k : Option ℕ) (items : List Item) → Kept (files.write_on k items)
  write_on_kept k items = then_kept (asked_kept k _) (then_kept (charge_kept (length items))
      (result_kept k (write_items items) (writes_append items)))

  write_to_kept : (a : Address) (items : List Item) → Kept (files.write_to a items)
  write_to_kept a items = bind_kept (file_number_kept a) (λ k. write_on_kept k items)

  write_bytes_kept : (a : Address) (bytes : List ℕ) → Kept (files.write_bytes a bytes)
  write_bytes_kept a bytes = write_to_kept a (map Character bytes)

  as_byte_kept : (n : ℤ) → Kept (files.as_byte n)
  as_byte_kept n = choose_kept (files.is_byte n) (gives_kept (natural n)) stuck_kept

  buffered_byte_kept : (a : Address) → Kept (files.buffered_byte a)
  buffered_byte_kept a = bind_kept (reach_kept a 1) (λ b. bind_kept (cell_of_kept b)
      (λ x. bind_kept (defined_kept x) (λ y. bind_kept (number_kept y) (λ n. as_byte_kept n))))

  put_file_kept : Kept files.put_file
  put_file_kept = bind_kept take_address_kept (λ a. then_kept (must_write_kept a)
      (bind_kept (buffered_byte_kept a) (λ b. then_kept (write_bytes_kept a (b ∷ [])) (renew_kept a))))

  refuse_kept : (o : Option FileEnd) → Kept (files.refuse o)
  refuse_kept None = skip_kept
  refuse_kept (Some (end.Fault number)) = fault_kept number
  refuse_kept (Some (end.Limit number)) = limit_kept number
  refuse_kept (Some end.Memory) = stuck_kept

  field_kept : (width : ℤ) (bytes : List ℕ) → Kept (files.refuse (width_refusal width) >> gives bytes)
  field_kept width bytes = then_kept (refuse_kept (width_refusal width)) (gives_kept bytes)

  integer_to_kept : (a : Address) (n width : ℤ) → Kept (files.write_integer_to a n width)
  integer_to_kept a n width = bind_kept (field_kept width _) (λ field. write_bytes_kept a field)

  truth_to_kept : (a : Address) (n width : ℤ) → Kept (files.write_truth_to a n width)
  truth_to_kept a n width = bind_kept (field_kept width _) (λ field. write_bytes_kept a field)

  characters_to_kept : (a : Address) (characters : List ℕ) (width : ℤ) → Kept (files.write_characters_to a characters width)
  characters_to_kept a characters width = bind_kept (field_kept width _) (λ field. write_bytes_kept a field)

  character_to_kept : (a : Address) (n width : ℤ) → Kept (files.write_character_to a n width)
  character_to_kept a n width = bind_kept (as_byte_kept n) (λ b. characters_to_kept a (b ∷ []) width)

  write_number_kept : (write : Address → ℤ → ℤ → Row) → ((a : Address) (n width : ℤ) → Kept (write a n width)) →
      Kept (files.write_number write)
  write_number_kept write g = bind_kept take_number_kept (λ width. bind_kept take_number_kept
      (λ n. bind_kept take_address_kept (λ a. g a n width)))

  defined_string_kept : (o : Option (List ℕ)) → Kept (files.defined_string o)
  defined_string_kept None = fault_kept 9
  defined_string_kept (Some bytes) = gives_kept bytes

  as_bytes_kept : (characters : List ℕ) → Kept (files.as_bytes characters)
  as_bytes_kept characters = choose_kept (list_all (λ n. nat_lt n 256) characters) (gives_kept characters) stuck_kept

  write_string_kept : Kept files.write_string
  write_string_kept = bind_kept take_number_kept (λ width. bind_kept take_block_kept (λ xs. bind_kept take_address_kept
      (λ a. bind_kept (bind_kept (defined_string_kept (value.characters_of xs)) (λ cs. as_bytes_kept cs))
      (λ bytes. characters_to_kept a bytes width))))

  read_char_kept : Kept files.read_char
  read_char_kept = bind_kept take_address_kept (λ a. then_kept (must_read_kept a)
      (bind_kept (reach_kept a 1) (λ b. bind_kept (cell_of_kept b)
      (λ x. bind_kept (defined_kept x) (λ y. then_kept (get_at_kept a) (put_kept (One y)))))))

  file_row_kept : (o : FileOperation) → Kept (files.file_row o)
  file_row_kept file.Eof = bind_kept take_address_kept (λ a. bind_kept (ask_kept a text.eof) (λ is. put_kept _))
  file_row_kept file.Eoln = bind_kept take_address_kept (λ a. bind_kept (ask_kept a text.eoln) (λ is. put_kept _))
  file_row_kept file.Get = bind_kept take_address_kept (λ a. get_at_kept a)
  file_row_kept file.Put = put_file_kept
  file_row_kept file.Reset = begin_file_kept text.reset
  file_row_kept file.Rewrite = begin_file_kept text.rewrite
  file_row_kept file.ReadLine = bind_kept take_address_kept (λ a. then_kept (on_file_kept a text.read_line line_appends)
      (renew_kept a))
  file_row_kept file.WriteLine = bind_kept take_address_kept (λ a. write_to_kept a (LineEnd ∷ []))
  file_row_kept file.Page = bind_kept take_address_kept (λ a. bind_kept (file_number_kept a)
      (λ k. bind_kept (file_of_kept k) (λ f. write_on_kept k (page_items f))))
  file_row_kept file.ReadInt = bind_kept take_address_kept (λ a. bind_kept (on_file_kept a text.read_number number_appends)
      (λ n. then_kept (renew_kept a) (put_kept _)))
  file_row_kept file.ReadChar = read_char_kept
  file_row_kept file.WriteInt = write_number_kept files.write_integer_to integer_to_kept
  file_row_kept file.WriteChar = write_number_kept files.write_character_to character_to_kept
  file_row_kept file.WriteBool = write_number_kept files.write_truth_to truth_to_kept
  file_row_kept file.WriteChars = write_string_kept

  -- ---- all rows, where those that add a root keep it

  pub row_kept : (codes : Codes) (o : Operation) → (adds_a_root o ≡ true → Kept (row codes o)) → Kept (row codes o)
  row_kept codes operation.Stmt k = skip_kept
  row_kept codes (operation.Int n) k = put_kept _
  row_kept codes operation.Nil k = put_kept _
  row_kept codes operation.Empty k = put_kept _
  row_kept codes (operation.Chars bytes) k = put_kept _
  row_kept codes (operation.Proc d path) k = proc_kept d path
  row_kept codes (operation.Addr d o) k = addr_kept d o
  row_kept codes (operation.FileAt f) k = put_kept _
  row_kept codes operation.Dup k = dup_kept
  row_kept codes operation.Load k = load_kept
  row_kept codes operation.Store k = store_kept
  row_kept codes (operation.Clear n) k = clear_kept n
  row_kept codes (operation.LoadMany n) k = load_many_kept n
  row_kept codes (operation.StoreMany n) k = store_many_kept n
  row_kept codes (operation.Offset n) k = offset_kept n
  row_kept codes (operation.Index low high size) k = index_kept low high size
  row_kept codes operation.Follow k = follow_kept
  row_kept codes (operation.Active o constants) k = active_kept o constants
  row_kept codes (operation.Choose o constant constants n) k = select_kept o constant constants n
  row_kept codes (operation.Tag groups n) k = tag_kept groups n
  row_kept codes operation.Add k = on_numbers_kept _ (λ i j. put_integer_kept (i +ℤ j))
  row_kept codes operation.Sub k = on_numbers_kept _ (λ i j. put_integer_kept (i -ℤ j))
  row_kept codes operation.Mul k = on_numbers_kept _ (λ i j. put_integer_kept (i *ℤ j))
  row_kept codes operation.Div k = on_numbers_kept _ (λ i j. choose_kept (same_number j (pos 0)) (fault_kept 2)
      (put_integer_kept (int_div i j)))
  row_kept codes operation.Mod k = on_numbers_kept _ (λ i j. choose_kept (int_lt (pos 0) j) (put_kept _) (fault_kept 2))
  row_kept codes operation.Neg k = bind_kept take_number_kept (λ i. put_integer_kept (pos 0 -ℤ i))
  row_kept codes operation.Odd k = bind_kept take_number_kept (λ i. put_kept _)
  row_kept codes operation.Not k = bind_kept take_number_kept (λ i. put_kept _)
  row_kept codes operation.And k = on_numbers_kept _ (λ i j. put_kept _)
  row_kept codes operation.Or k = on_numbers_kept _ (λ i j. put_kept _)
  row_kept codes (operation.Range low high f) k = range_kept low high f
  row_kept codes (operation.Within low high) k = within_kept low high
  row_kept codes (operation.Cmp r) k = cmp_kept r
  row_kept codes operation.Has k = has_kept
  row_kept codes operation.One k = one_kept
  row_kept codes operation.Span k = span_kept
  row_kept codes operation.Union k = on_sets_kept union
  row_kept codes operation.Meet k = on_sets_kept intersection
  row_kept codes operation.Less k = on_sets_kept difference
  row_kept codes (operation.Jump target) k = go_on_kept target
  row_kept codes (operation.False target) k = jump_if_false_kept target
  row_kept codes (operation.Case arms) k = case_kept arms
  row_kept codes (operation.Leave d l) k = leave_kept codes d l
  row_kept codes (operation.Call d path n is_function) k = k refl
  row_kept codes (operation.CallBy n is_function) k = k refl
  row_kept codes (operation.Return o) k = return_kept o
  row_kept codes (operation.New n) k = k refl
  row_kept codes operation.Dispose k = dispose_kept
  row_kept codes (operation.File f) k = file_row_kept f
