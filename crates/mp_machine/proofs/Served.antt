-- How many operands each row takes and puts: with as many as it takes, none wants for one.
use Rattle.std.proofs.Common.{◌≡◌, ℕ, zero, suc, ◌+◌, ◌*◌, List, [], ◌∷◌, ◌++◌, Option, Some, None, Bool, true, false, refl}
use Rattle.std.proofs.Common.{sym, ap, ◌∙◌, subst, arith}
use Rattle.std.specs.List.{list_all}
use Rattle.std.specs.Prelude.{nat_le, nat_lt, ◌&&◌, slice_get, slice_set, length, map, ℤ, ◌-ℤ◌, int_lt}
use Rattle.mp_code.specs.declared.instructions.FileOperation.{FileOperation}
use Rattle.mp_code.specs.declared.instructions.FileOperation.TheVariants as file
use Rattle.mp_code.specs.declared.instructions.Relation.{Relation}
use Rattle.mp_code.specs.declared.instructions.RangeFault.{RangeFault}
use Rattle.mp_code.specs.declared.instructions.Group.{Group}
use Rattle.mp_code.specs.Shape.{file_takes, file_puts}
use Rattle.mp_memory.specs.declared.cells.Cell.{Cell}
use Rattle.mp_memory.specs.declared.cells.Cell.TheVariants as cell
use Rattle.mp_memory.specs.Roots.{Found, Got, Dropped, Outside, cell_at, cells_at, with_cells, with_root}
use Rattle.mp_machine.specs.Blocks.{Path}
use Rattle.mp_machine.specs.Numbers.{lies_in, members_lie_in, natural}
use Rattle.mp_machine.specs.Numbers.{may_be_member}
use Rattle.mp_files.specs.WrittenFields.{width_refusal}
use Rattle.mp_files.specs.declared.causes.FileEnd.{FileEnd}
use Rattle.mp_files.specs.declared.causes.FileEnd.TheVariants as end
use Rattle.mp_base.specs.declared.limits.TheConstants.{CELL_LIMIT, OUTPUT_LIMIT}
use Rattle.mp_memory.specs.Integers.{as_integer}
use Rattle.mp_files.specs.declared.items.Item.{Item}
use Rattle.mp_files.specs.declared.items.Item.TheVariants.{Character, LineEnd}
use Rattle.mp_files.specs.TextFiles.{TextFile, FileCall, Gives, Fails, closed_file, write_items, shown, page_items}
use Rattle.mp_files.specs.TextFiles as text
use Rattle.mp_machine.specs.Activations.{Activation, holder}
use Rattle.mp_machine.specs.declared.operands.Operand.{Operand}
use Rattle.mp_machine.specs.declared.operands.Operand.TheVariants.{One, Block}
use Rattle.mp_machine.specs.States.{Frame, State, activations_in}
use Rattle.mp_machine.specs.Outcomes.{Outcome, Done, Fault, Limit, Missing, Ended, Lacking, Stuck, Action, Row, bind, ◌>>=◌}
use Rattle.mp_machine.specs.Outcomes.{◌>>◌, gives, skip, now, update, fault, limit, stuck, needs, choose, unless}
use Rattle.mp_machine.specs.declared.addresses.Address.{Address}
use Rattle.mp_machine.specs.Operands.{with_newest, put, taken, without_operand, take, as_cell, as_block, as_number}
use Rattle.mp_machine.specs.Operands.{as_members, as_pointer, as_address, take_cell, take_block, take_number, take_members}
use Rattle.mp_machine.specs.Operands.{take_pointer, take_address, cells_in, take_all}
use Rattle.mp_machine.specs.Memory.{what_is, cell_of, cells_of, defined, with_root_cells, set_cells, set_cell, undefined_cells}
use Rattle.mp_machine.specs.Memory.{beyond, nothing_there, offset_limit, reach, activation_at, must_be_there, object_at}
use Rattle.mp_machine.specs.ValueRows as value
use Rattle.mp_machine.specs.VariableRows as variable
use Rattle.mp_machine.specs.CallRows as call
use Rattle.mp_machine.specs.ObjectRows as object
use Rattle.mp_machine.specs.FileRows as files
use Rattle.mp_machine.specs.DepthLaws.{IsServed}

-- the newest frame is that of the activation, with so many operands
pub record Has (a : Activation) (older : List Frame) (k n : ℕ) (s : State) : Type 0 where
  pub operands : List Operand
  pub frames : s.frames ≡ record { activation = a; next = k; operands = operands } ∷ older
  pub count : length operands ≡ n

pub record Served {A : Type 0} (Q : State → Type 0) (o : Outcome A) : Type 0 where
  pub by : IsServed Q o

-- with n operands it finds those that it wants, and leaves m
pub record Uses {A : Type 0} (n m : ℕ) (act : Action A) : Type 0 where
  pub by : (a : Activation) (older : List Frame) (k : ℕ) (s : State) → Has a older k n s → Served (Has a older k m) (act s)

-- ---- outcomes and actions

pub served_bind : {A B : Type 0} {Q Q' : State → Type 0} (o : Outcome A) (go : A → State → Outcome B) → Served Q o →
    ((x : A) (t : State) → Q t → Served Q' (go x t)) → Served Q' (bind o go)
served_bind (Done x t) go g f = f x t g.by
served_bind (Fault n t) go g f = record { by = tt }
served_bind (Limit n t) go g f = record { by = tt }
served_bind (Missing path) go g f = record { by = tt }
served_bind (Ended t) go g f = record { by = tt }
served_bind Lacking go g f = absurd g.by
served_bind Stuck go g f = record { by = tt }

pub bind_uses : {A B : Type 0} {n m l : ℕ} {act : Action A} {go : A → Action B} → Uses n m act → ((x : A) → Uses m l (go x)) →
    Uses n l (act >>= go)
bind_uses {act} {go} f g = record {
  by = λ a older k s h. served_bind (act s) go (f.by a older k s h)
      (λ x t. (g x).by a older k t);
}

pub then_uses : {A B : Type 0} {n m l : ℕ} {act : Action A} {o : Action B} → Uses n m act → Uses m l o → Uses n l (act >> o)
then_uses {act} {o} f g = record {
  by = λ a older k s h. served_bind (act s) (λ x t. o t) (f.by a older k s h)
      (λ x t. g.by a older k t);
}

pub looks_uses : {A : Type 0} {n m : ℕ} {go : State → Action A} → ((s : State) → Uses n m (go s)) → Uses n m (now >>= go)
looks_uses g = record { by = λ a older k s. (g s).by a older k s }

pub gives_uses : {A : Type 0} {n : ℕ} (x : A) → Uses n n (gives x)
gives_uses x = record { by = λ a older k s h. record { by = h } }

pub skip_uses : {n : ℕ} → Uses n n skip
skip_uses = record { by = λ a older k s h. record { by = h } }

pub fault_uses : {A : Type 0} {n m : ℕ} (k : ℕ) → Uses {A = A} n m (fault k)
fault_uses k = record { by = λ a older j s h. record { by = tt } }

pub limit_uses : {A : Type 0} {n m : ℕ} (k : ℕ) → Uses {A = A} n m (limit k)
limit_uses k = record { by = λ a older j s h. record { by = tt } }

pub stuck_uses : {A : Type 0} {n m : ℕ} → Uses {A = A} n m stuck
stuck_uses = record { by = λ a older j s h. record { by = tt } }

pub needs_uses : {A : Type 0} {n : ℕ} (o : Option A) → Uses n n (needs o)
needs_uses None = record { by = λ a older k s h. record { by = tt } }
needs_uses (Some x) = record { by = λ a older k s h. record { by = h } }

pub choose_uses : {A : Type 0} {n m : ℕ} (b : Bool) {act o : Action A} → Uses n m act → Uses n m o → Uses n m (choose b act o)
choose_uses true f g = record { by = λ a older k s. f.by a older k s }
choose_uses false f g = record { by = λ a older k s. g.by a older k s }

pub unless_uses : {n : ℕ} (b : Bool) {act : Row} → Uses n n act → Uses n n (unless b act)
unless_uses true f = record { by = λ a older k s h. record { by = h } }
unless_uses false f = record { by = λ a older k s. f.by a older k s }

pub update_uses : {n : ℕ} (change : State → State) → ((s : State) → (change s).frames ≡ s.frames) → Uses n n (update change)
update_uses change same = record {
  by = λ a older k s h. record {
    by = record {
      operands = h.operands;
      frames = same s ∙
          h.frames;
      count = h.count;
    };
  };
}

pub uses_as : {A : Type 0} {act : Action A} (n n' m m' : ℕ) → n ≡ n' → m ≡ m' → Uses n' m' act → Uses n m act
uses_as {act} n n' m m' e f g = subst (λ x. Uses x m act) (sym e) (subst (λ y. Uses n' y act) (sym f) g)

-- ---- operands

pub take_uses : {n : ℕ} → Uses (suc n) n take
take_uses {n} = record {
  by = λ a older k s h. subst (λ fs. Served (Has a older k n) (taken s fs)) (sym h.frames)
      (by_operands a older k s h.operands h.count);
}
  where
    by_operands : (a : Activation) (older : List Frame) (k : ℕ) (s : State) (xs : List Operand) → length xs ≡ suc n →
        Served (Has a older k n) (without_operand s (record { activation = a; next = k; operands = xs }) older xs)
    by_operands a older k s [] e = absurd (let v : ⊥ = omega (arith, e) in v)
    by_operands a older k s (x ∷ more) e = record { by = record { operands = more; frames = refl; count = omega (arith, e) } }

pub put_uses : {n : ℕ} (x : Operand) → Uses n (suc n) (put x)
put_uses x = record {
  by = λ a older k s h. record {
    by = record {
      operands = x ∷ h.operands;
      frames =
          ap (with_newest (λ f. record f { operands = x ∷ f.operands })) h.frames;
      count = ap suc h.count;
    };
  };
}

pub cell_uses : {n : ℕ} (x : Operand) → Uses n n (as_cell x)
cell_uses (One x) = gives_uses x
cell_uses (Block xs) = stuck_uses

pub block_uses : {n : ℕ} (x : Operand) → Uses n n (as_block x)
block_uses (One x) = stuck_uses
block_uses (Block xs) = gives_uses xs

pub number_uses : {n : ℕ} (x : Cell) → Uses n n (as_number x)
number_uses (cell.Int n) = gives_uses n
number_uses _ = stuck_uses

pub members_uses : {n : ℕ} (x : Cell) → Uses n n (as_members x)
members_uses (cell.Members set) = gives_uses set
members_uses _ = stuck_uses

pub pointer_uses : {n : ℕ} (x : Cell) → Uses n n (as_pointer x)
pointer_uses (cell.Ptr k) = gives_uses k
pointer_uses _ = stuck_uses

pub address_uses : {n : ℕ} (x : Cell) → Uses n n (as_address x)
address_uses (cell.Ref r o) = gives_uses (record { root = r; offset = o })
address_uses _ = stuck_uses

pub take_cell_uses : {n : ℕ} → Uses (suc n) n take_cell
take_cell_uses = bind_uses take_uses (λ x. cell_uses x)

pub take_block_uses : {n : ℕ} → Uses (suc n) n take_block
take_block_uses = bind_uses take_uses (λ x. block_uses x)

pub take_number_uses : {n : ℕ} → Uses (suc n) n take_number
take_number_uses = bind_uses take_cell_uses (λ x. number_uses x)

pub take_members_uses : {n : ℕ} → Uses (suc n) n take_members
take_members_uses = bind_uses take_cell_uses (λ x. members_uses x)

pub take_pointer_uses : {n : ℕ} → Uses (suc n) n take_pointer
take_pointer_uses = bind_uses take_cell_uses (λ x. pointer_uses x)

pub take_address_uses : {n : ℕ} → Uses (suc n) n take_address
take_address_uses = bind_uses take_cell_uses (λ x. address_uses x)

pub take_all_uses : (n d : ℕ) → Uses (n + d) d (take_all n)
take_all_uses zero d = uses_as (0 + d) d d d (omega arith) refl (gives_uses [])
take_all_uses (suc n) d = uses_as (suc n + d) (suc (n + d)) d d (omega arith) refl
    (bind_uses take_uses (λ last. bind_uses (take_all_uses n d) (λ before. gives_uses (before ++ cells_in last))))

-- ---- cells

pub what_is_uses : {A : Type 0} {n : ℕ} (f : Found A) → Uses n n (what_is f)
what_is_uses (Got x) = gives_uses x
what_is_uses Dropped = fault_uses 8
what_is_uses Outside = stuck_uses

pub cell_of_uses : {n : ℕ} (a : Address) → Uses n n (cell_of a)
cell_of_uses a = looks_uses (λ s. what_is_uses (cell_at (s.roots a.root) a.offset))

pub cells_of_uses : {n : ℕ} (a : Address) (count : ℕ) → Uses n n (cells_of a count)
cells_of_uses a count = looks_uses (λ s. what_is_uses (cells_at (s.roots a.root) a.offset count))

pub defined_uses : {n : ℕ} (x : Cell) → Uses n n (defined x)
defined_uses cell.Undef = fault_uses 9
defined_uses x = gives_uses x

pub set_cells_uses : {n : ℕ} (a : Address) (new : List Cell) → Uses n n (set_cells a new)
set_cells_uses a new = looks_uses (λ s. bind_uses (what_is_uses (with_cells (s.roots a.root) a.offset new))
    (λ cells. update_uses (with_root_cells a.root cells) (λ t. refl)))

pub set_cell_uses : {n : ℕ} (a : Address) (x : Cell) → Uses n n (set_cell a x)
set_cell_uses a x = set_cells_uses a (x ∷ [])

pub activation_at_uses : {n : ℕ} (d : ℕ) → Uses n n (activation_at d)
activation_at_uses d = looks_uses (λ s. needs_uses (holder (activations_in s.frames) d))

pub reach_uses : {m : ℕ} (a : Address) (n : ℕ) → Uses m m (reach a n)
reach_uses a n = looks_uses (λ s. choose_uses (nat_lt (a.offset + n) offset_limit) (gives_uses (beyond a n))
    (what_is_uses (nothing_there (s.roots a.root))))

must_be_there_uses : {n : ℕ} (c : Option (List Cell)) → Uses n n (must_be_there c)
must_be_there_uses None = fault_uses 8
must_be_there_uses (Some cells) = skip_uses

pub object_at_uses : {n : ℕ} (k : ℕ) → Uses n n (object_at k)
object_at_uses zero = fault_uses 7
object_at_uses (suc k) = looks_uses (λ s. bind_uses (needs_uses (slice_get s.objects k))
    (λ o. then_uses (must_be_there_uses (s.roots o.root)) (gives_uses o)))

-- ---- rows on values

put_or_overflow_uses : {n : ℕ} (o : Option ℤ) → Uses n (suc n) (value.put_or_overflow o)
put_or_overflow_uses None = fault_uses 1
put_or_overflow_uses (Some i) = put_uses _

pub put_integer_uses : {n : ℕ} (i : ℤ) → Uses n (suc n) (value.put_integer i)
put_integer_uses i = put_or_overflow_uses (as_integer i)

pub on_numbers_uses : {n m : ℕ} (f : ℤ → ℤ → Row) → ((i j : ℤ) → Uses n m (f i j)) → Uses (suc (suc n)) m (value.on_numbers f)
on_numbers_uses f g = bind_uses take_number_uses (λ j. bind_uses take_number_uses (λ i. g i j))

pub on_sets_uses : {n : ℕ} (f : List ℕ → List ℕ → List ℕ) → Uses (suc (suc n)) (suc n) (value.on_sets f)
on_sets_uses f = bind_uses take_members_uses (λ b. bind_uses take_members_uses (λ a. put_uses _))

pub dup_uses : {n : ℕ} → Uses (suc n) (suc (suc n)) value.dup
dup_uses = bind_uses take_cell_uses (λ x. then_uses (put_uses (One x)) (put_uses (One x)))

pub range_uses : {n : ℕ} (low high : ℤ) (f : RangeFault) → Uses (suc n) (suc n) (value.range low high f)
range_uses low high f = bind_uses take_number_uses
    (λ i. then_uses (unless_uses (lies_in low high i) (fault_uses (value.range_fault f))) (put_uses _))

pub within_uses : {n : ℕ} (low high : ℤ) → Uses (suc n) (suc n) (value.within low high)
within_uses low high = bind_uses take_members_uses (λ set. then_uses (unless_uses (members_lie_in low high set) (fault_uses 3))
    (put_uses _))

pub has_uses : {n : ℕ} → Uses (suc (suc n)) (suc n) value.has
has_uses = bind_uses take_members_uses (λ set. bind_uses take_number_uses (λ i. put_uses _))

pub one_uses : {n : ℕ} → Uses (suc (suc n)) (suc n) value.one
one_uses = bind_uses take_number_uses (λ i. bind_uses take_members_uses
    (λ set. then_uses (unless_uses (may_be_member i) (fault_uses 15)) (put_uses _)))

pub span_uses : {n : ℕ} → Uses (suc (suc (suc n))) (suc n) value.span
span_uses = bind_uses take_number_uses (λ j. bind_uses take_number_uses (λ i. bind_uses take_members_uses (λ set.
    choose_uses (int_lt j i) (put_uses _) (then_uses (unless_uses (may_be_member i && may_be_member j) (fault_uses 15))
    (put_uses _)))))

put_defined_uses : {n : ℕ} (o : Option Bool) → Uses n (suc n) (value.put_defined o)
put_defined_uses None = fault_uses 9
put_defined_uses (Some b) = put_uses _

compare_strings_uses : {n : ℕ} (r : Relation) (xs ys : Option (List ℕ)) → Uses n (suc n) (value.compare_strings r xs ys)
compare_strings_uses r xs ys = put_defined_uses (value.string_relation r xs ys)

compare_cells_uses : {n : ℕ} (r : Relation) (x y : Cell) → Uses n (suc n) (value.compare_cells r x y)
compare_cells_uses r (cell.Int i) (cell.Int j) = put_uses _
compare_cells_uses r (cell.Members a) (cell.Members b) = put_uses _
compare_cells_uses r (cell.Ptr a) (cell.Ptr b) = put_uses _
compare_cells_uses r _ _ = stuck_uses

compare_uses : {n : ℕ} (r : Relation) (x y : Operand) → Uses n (suc n) (value.compare r x y)
compare_uses r (One x) (One y) = compare_cells_uses r x y
compare_uses r (Block xs) (Block ys) = compare_strings_uses r (value.characters_of xs) (value.characters_of ys)
compare_uses r (One x) (Block ys) = stuck_uses
compare_uses r (Block xs) (One y) = stuck_uses

pub cmp_uses : {n : ℕ} (r : Relation) → Uses (suc (suc n)) (suc n) (value.cmp r)
cmp_uses r = bind_uses take_uses (λ y. bind_uses take_uses (λ x. compare_uses r x y))

-- ---- rows on variables

put_far_uses : {n : ℕ} (a : Address) → Uses n (suc n) (variable.put_far a)
put_far_uses a = choose_uses (nat_lt a.offset offset_limit) (put_uses _) stuck_uses

pub addr_uses : {n : ℕ} (d o : ℕ) → Uses n (suc n) (variable.addr d o)
addr_uses d o = bind_uses (activation_at_uses d) (λ number. put_uses _)

pub offset_uses : {n : ℕ} (o : ℕ) → Uses (suc n) (suc n) (variable.offset o)
offset_uses o = bind_uses take_address_uses (λ a. put_far_uses (beyond a o))

pub index_uses : {n : ℕ} (low high : ℤ) (size : ℕ) → Uses (suc (suc n)) (suc n) (variable.index low high size)
index_uses low high size = bind_uses take_number_uses (λ i. bind_uses take_address_uses (λ a.
    then_uses (unless_uses (lies_in low high i) (fault_uses 4)) (put_far_uses (beyond a (natural (i -ℤ low) * size)))))

pub follow_uses : {n : ℕ} → Uses (suc n) (suc n) variable.follow
follow_uses = bind_uses take_pointer_uses (λ k. bind_uses (object_at_uses k) (λ o. put_uses _))

pub load_uses : {n : ℕ} → Uses (suc n) (suc n) variable.load
load_uses = bind_uses take_address_uses (λ a. bind_uses (cell_of_uses a)
    (λ x. bind_uses (defined_uses x) (λ y. put_uses (One y))))

pub store_uses : {n : ℕ} → Uses (suc (suc n)) n variable.store
store_uses = bind_uses take_cell_uses (λ x. bind_uses take_address_uses (λ a. set_cell_uses a x))

pub clear_uses : {n : ℕ} (count : ℕ) → Uses (suc n) n (variable.clear count)
clear_uses count = bind_uses take_address_uses (λ a. set_cells_uses a (undefined_cells count))

pub load_many_uses : {n : ℕ} (count : ℕ) → Uses (suc n) (suc n) (variable.load_many count)
load_many_uses count = bind_uses take_address_uses (λ a. bind_uses (cells_of_uses a count) (λ xs. put_uses (Block xs)))

pub store_many_uses : {n : ℕ} (count : ℕ) → Uses (suc (suc n)) n (variable.store_many count)
store_many_uses count = bind_uses take_block_uses (λ xs. bind_uses take_address_uses (λ a. set_cells_uses a xs))

set_tag_uses : {n : ℕ} (a : Address) (x : Cell) (count : ℕ) → Uses n n (variable.set_tag a x count)
set_tag_uses a x count = then_uses (set_cell_uses a x)
    (bind_uses (reach_uses a 1) (λ b. set_cells_uses b (undefined_cells count)))

pub active_uses : {n : ℕ} (o : ℕ) (constants : List ℤ) → Uses (suc n) (suc n) (variable.active o constants)
active_uses o constants = bind_uses take_address_uses (λ a. bind_uses (reach_uses a o) (λ b. bind_uses (cell_of_uses b) (λ tag.
    then_uses (unless_uses (variable.is_tag_of constants tag) (fault_uses 10)) (put_uses _))))

pub select_uses : {n : ℕ} (o : ℕ) (constant : ℤ) (constants : List ℤ) (count : ℕ) →
    Uses (suc n) (suc n) (variable.select o constant constants count)
select_uses o constant constants count =
    bind_uses take_address_uses (λ a. bind_uses (reach_uses a o) (λ b. bind_uses (cell_of_uses b) (λ tag.
    then_uses (unless_uses (variable.is_tag_of constants tag) (set_tag_uses b (cell.Int constant) count)) (put_uses _))))

pub tag_uses : {n : ℕ} (groups : List Group) (count : ℕ) → Uses (suc (suc n)) n (variable.tag groups count)
tag_uses groups count = bind_uses take_cell_uses (λ x. bind_uses take_address_uses (λ a. bind_uses (cell_of_uses a) (λ old.
    choose_uses (variable.same_variant groups old x) (set_cell_uses a x) (set_tag_uses a x count))))

-- ---- procedural values and objects

put_routine_uses : {n : ℕ} (path : Path) (parent : ℕ) (s : State) (o : Option ℕ) →
    Uses n (suc n) (call.put_routine path parent s o)
put_routine_uses path parent s (Some number) = put_uses _
put_routine_uses path parent s None = then_uses (update_uses (λ t. record t { blocks = t.blocks ++ path ∷ [] }) (λ t. refl))
    (put_uses _)

pub proc_uses : {n : ℕ} (d : ℕ) (path : Path) → Uses n (suc n) (call.proc d path)
proc_uses d path = bind_uses (activation_at_uses d)
    (λ parent. looks_uses (λ s. put_routine_uses path parent s (call.number_of_block s.blocks path)))

pub new_uses : {n : ℕ} (count : ℕ) → Uses (suc n) n (object.new count)
new_uses count = bind_uses take_address_uses (λ a. bind_uses (cell_of_uses a) (λ x. looks_uses (λ s.
    then_uses (unless_uses (nat_le (call.cells_with s count) CELL_LIMIT) (limit_uses 2))
    (then_uses (update_uses (object.with_object count) (λ t. refl))
    (set_cell_uses a (cell.Ptr (suc (length s.objects))))))))

pub dispose_uses : {n : ℕ} → Uses (suc n) n object.dispose
dispose_uses = bind_uses take_pointer_uses (λ k. bind_uses (object_at_uses k)
    (λ o. update_uses (λ s. record s { roots = with_root s.roots o.root None }) (λ s. refl)))

-- ---- files

as_file_uses : {n : ℕ} (x : Cell) → Uses n n (files.as_file x)
as_file_uses cell.Undef = gives_uses None
as_file_uses (cell.FileNo k) = gives_uses (Some k)
as_file_uses _ = stuck_uses

file_number_uses : {n : ℕ} (a : Address) → Uses n n (files.file_number a)
file_number_uses a = bind_uses (cell_of_uses a) (λ x. as_file_uses x)

file_of_uses : {n : ℕ} (k : Option ℕ) → Uses n n (files.file_of k)
file_of_uses None = gives_uses closed_file
file_of_uses (Some k) = looks_uses (λ s. needs_uses (slice_get s.files k))

set_file_uses : {n : ℕ} (k : Option ℕ) (f : TextFile) → Uses n n (files.set_file k f)
set_file_uses None f = stuck_uses
set_file_uses (Some k) f = update_uses (λ s. record s { files = slice_set s.files k f }) (λ s. refl)

answer_uses : {A : Type 0} {n : ℕ} (c : FileCall A) → Uses n n (files.answer c)
answer_uses (Gives x f) = gives_uses x
answer_uses (Fails k) = fault_uses k

ask_uses : {A : Type 0} {n : ℕ} (a : Address) (question : TextFile → FileCall A) → Uses n n (files.ask a question)
ask_uses a question = bind_uses (file_number_uses a) (λ k. bind_uses (file_of_uses k) (λ f. answer_uses (question f)))

result_uses : {A : Type 0} {n : ℕ} (k : Option ℕ) (c : FileCall A) → Uses n n (files.result k c)
result_uses k (Gives x f) = then_uses (set_file_uses k f) (gives_uses x)
result_uses k (Fails number) = fault_uses number

on_file_uses : {A : Type 0} {n : ℕ} (a : Address) (operation : TextFile → FileCall A) → Uses n n (files.on_file a operation)
on_file_uses a operation = bind_uses (file_number_uses a) (λ k. bind_uses (file_of_uses k) (λ f. result_uses k (operation f)))

renew_uses : {n : ℕ} (a : Address) → Uses n n (files.renew_buffer a)
renew_uses a = bind_uses (ask_uses a (λ f. Gives (shown f) f))
    (λ x. bind_uses (reach_uses a 1) (λ b. set_cell_uses b (files.buffer_cell x)))

make_file_uses : {n : ℕ} (a : Address) (k : Option ℕ) (f : TextFile) → Uses n n (files.make_file a k f)
make_file_uses a (Some k) f = set_file_uses (Some k) f
make_file_uses a None f = looks_uses (λ s. then_uses (set_cell_uses a (cell.FileNo (length s.files)))
    (update_uses (λ s. record s { files = s.files ++ f ∷ [] }) (λ s. refl)))

begin_file_uses : {n : ℕ} (new : TextFile → TextFile) → Uses (suc n) n (files.begin_file new)
begin_file_uses new = bind_uses take_address_uses (λ a. bind_uses (file_number_uses a) (λ k. choose_uses (files.is_required k)
    skip_uses
    (bind_uses (file_of_uses k) (λ f. then_uses (make_file_uses a k (new f)) (renew_uses a)))))

get_at_uses : {n : ℕ} (a : Address) → Uses n n (files.get_at a)
get_at_uses a = then_uses (on_file_uses a text.get) (renew_uses a)

asked_uses : {A : Type 0} {n : ℕ} (k : Option ℕ) (question : TextFile → FileCall A) → Uses n n (files.asked k question)
asked_uses k question = bind_uses (file_of_uses k) (λ f. answer_uses (question f))

must_read_uses : {n : ℕ} (a : Address) → Uses n n (files.must_read a)
must_read_uses a = bind_uses (file_number_uses a) (λ k. asked_uses k _)

must_write_uses : {n : ℕ} (a : Address) → Uses n n (files.must_write a)
must_write_uses a = bind_uses (file_number_uses a) (λ k. asked_uses k _)

charge_uses : {n : ℕ} (bytes : ℕ) → Uses n n (files.charge bytes)
charge_uses bytes = looks_uses (λ s. then_uses (unless_uses (nat_le (s.written + bytes) OUTPUT_LIMIT) (limit_uses 4))
    (update_uses (λ t. record t { written = t.written + bytes }) (λ t. refl)))

write_on_uses : {n : ℕ} (k : Option ℕ) (items : List Item) → Uses n n (files.write_on k items)
write_on_uses k items = then_uses (asked_uses k _) (then_uses (charge_uses (length items))
    (bind_uses (file_of_uses k) (λ f. result_uses k (write_items items f))))

write_to_uses : {n : ℕ} (a : Address) (items : List Item) → Uses n n (files.write_to a items)
write_to_uses a items = bind_uses (file_number_uses a) (λ k. write_on_uses k items)

write_bytes_uses : {n : ℕ} (a : Address) (bytes : List ℕ) → Uses n n (files.write_bytes a bytes)
write_bytes_uses a bytes = write_to_uses a (map Character bytes)

as_byte_uses : {n : ℕ} (i : ℤ) → Uses n n (files.as_byte i)
as_byte_uses i = choose_uses (files.is_byte i) (gives_uses (natural i)) stuck_uses

buffered_byte_uses : {n : ℕ} (a : Address) → Uses n n (files.buffered_byte a)
buffered_byte_uses a = bind_uses (reach_uses a 1) (λ b. bind_uses (cell_of_uses b)
    (λ x. bind_uses (defined_uses x) (λ y. bind_uses (number_uses y) (λ i. as_byte_uses i))))

put_file_uses : {n : ℕ} → Uses (suc n) n files.put_file
put_file_uses = bind_uses take_address_uses (λ a. then_uses (must_write_uses a)
    (bind_uses (buffered_byte_uses a) (λ b. then_uses (write_bytes_uses a (b ∷ [])) (renew_uses a))))

refuse_uses : {n : ℕ} (o : Option FileEnd) → Uses n n (files.refuse o)
refuse_uses None = skip_uses
refuse_uses (Some (end.Fault number)) = fault_uses number
refuse_uses (Some (end.Limit number)) = limit_uses number
refuse_uses (Some end.Memory) = stuck_uses

field_uses : {n : ℕ} (width : ℤ) (bytes : List ℕ) → Uses n n (files.refuse (width_refusal width) >> gives bytes)
field_uses width bytes = then_uses (refuse_uses (width_refusal width)) (gives_uses bytes)

integer_to_uses : {n : ℕ} (a : Address) (i width : ℤ) → Uses n n (files.write_integer_to a i width)
integer_to_uses a i width = bind_uses (field_uses width _) (λ field. write_bytes_uses a field)

truth_to_uses : {n : ℕ} (a : Address) (i width : ℤ) → Uses n n (files.write_truth_to a i width)
truth_to_uses a i width = bind_uses (field_uses width _) (λ field. write_bytes_uses a field)

characters_to_uses : {n : ℕ} (a : Address) (characters : List ℕ) (width : ℤ) →
    Uses n n (files.write_characters_to a characters width)
characters_to_uses a characters width = bind_uses (field_uses width _) (λ field. write_bytes_uses a field)

character_to_uses : {n : ℕ} (a : Address) (i width : ℤ) → Uses n n (files.write_character_to a i width)
character_to_uses a i width = bind_uses (as_byte_uses i) (λ b. characters_to_uses a (b ∷ []) width)

write_number_uses : {n : ℕ} (write : Address → ℤ → ℤ → Row) → ((a : Address) (i width : ℤ) → Uses n n (write a i width)) →
    Uses (suc (suc (suc n))) n (files.write_number write)
write_number_uses write g = bind_uses take_number_uses (λ width. bind_uses take_number_uses
    (λ i. bind_uses take_address_uses (λ a. g a i width)))

defined_string_uses : {n : ℕ} (o : Option (List ℕ)) → Uses n n (files.defined_string o)
defined_string_uses None = fault_uses 9
defined_string_uses (Some bytes) = gives_uses bytes

as_bytes_uses : {n : ℕ} (characters : List ℕ) → Uses n n (files.as_bytes characters)
as_bytes_uses characters = choose_uses (list_all (λ k. nat_lt k 256) characters) (gives_uses characters) stuck_uses

write_string_uses : {n : ℕ} → Uses (suc (suc (suc n))) n files.write_string
write_string_uses = bind_uses take_number_uses (λ width. bind_uses take_block_uses (λ xs. bind_uses take_address_uses
    (λ a. bind_uses (bind_uses (defined_string_uses (value.characters_of xs)) (λ cs. as_bytes_uses cs))
    (λ bytes. characters_to_uses a bytes width))))

read_char_uses : {n : ℕ} → Uses (suc n) (suc n) files.read_char
read_char_uses = bind_uses take_address_uses
    (λ a. then_uses (must_read_uses a) (bind_uses (reach_uses a 1) (λ b. bind_uses (cell_of_uses b)
    (λ x. bind_uses (defined_uses x) (λ y. then_uses (get_at_uses a) (put_uses (One y)))))))

three : {n : ℕ} {act : Row} → Uses (suc (suc (suc n))) n act → Uses (3 + n) (0 + n) act
three {n} g = uses_as (3 + n) (suc (suc (suc n))) (0 + n) n (omega arith) (omega arith) g

one_none : {n : ℕ} {act : Row} → Uses (suc n) n act → Uses (1 + n) (0 + n) act
one_none {n} g = uses_as (1 + n) (suc n) (0 + n) n (omega arith) (omega arith) g

one_one : {n : ℕ} {act : Row} → Uses (suc n) (suc n) act → Uses (1 + n) (1 + n) act
one_one {n} g = uses_as (1 + n) (suc n) (1 + n) (suc n) (omega arith) (omega arith) g

pub file_row_uses : (n : ℕ) (o : FileOperation) → Uses (file_takes o + n) (file_puts o + n) (files.file_row o)
file_row_uses n file.Eof = one_one (bind_uses take_address_uses (λ a. bind_uses (ask_uses a text.eof) (λ is. put_uses _)))
file_row_uses n file.Eoln = one_one (bind_uses take_address_uses (λ a. bind_uses (ask_uses a text.eoln) (λ is. put_uses _)))
file_row_uses n file.Get = one_none (bind_uses take_address_uses (λ a. get_at_uses a))
file_row_uses n file.Put = one_none put_file_uses
file_row_uses n file.Reset = one_none (begin_file_uses text.reset)
file_row_uses n file.Rewrite = one_none (begin_file_uses text.rewrite)
file_row_uses n file.ReadLine = one_none (bind_uses take_address_uses (λ a. then_uses (on_file_uses a text.read_line)
    (renew_uses a)))
file_row_uses n file.WriteLine = one_none (bind_uses take_address_uses (λ a. write_to_uses a (LineEnd ∷ [])))
file_row_uses n file.Page = one_none (bind_uses take_address_uses
    (λ a. bind_uses (file_number_uses a) (λ k. bind_uses (file_of_uses k) (λ f. write_on_uses k (page_items f)))))
file_row_uses n file.ReadInt = one_one (bind_uses take_address_uses (λ a. bind_uses (on_file_uses a text.read_number)
    (λ i. then_uses (renew_uses a) (put_uses _))))
file_row_uses n file.ReadChar = one_one read_char_uses
file_row_uses n file.WriteInt = three (write_number_uses files.write_integer_to integer_to_uses)
file_row_uses n file.WriteChar = three (write_number_uses files.write_character_to character_to_uses)
file_row_uses n file.WriteBool = three (write_number_uses files.write_truth_to truth_to_uses)
file_row_uses n file.WriteChars = three write_string_uses
