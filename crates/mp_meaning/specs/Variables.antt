-- Reading and setting variables (ISO 7185, 6.5, 6.8.2.2), with the faults: 3 for a value outside its type, 7 for nil, 8 for
-- a disposed variable, 9 for an undefined value, 10 for a variant that is not active.
use Rattle.std.specs.Prelude.{ℕ, zero, suc, ◌+◌, nat_le, Bool, ◌&&◌, List, [], ◌∷◌, Option, Some, None, ℤ, slice_get, nat_eq}
use Rattle.std.specs.List.{list_any}
use Rattle.mp_base.specs.declared.limits.TheConstants.{CELL_LIMIT}
use Rattle.mp_tables.specs.declared.typed_expressions.Check.{Check}
use Rattle.mp_tables.specs.declared.typed_expressions.Check.TheVariants as check
use Rattle.mp_tables.specs.declared.typed_expressions.Guard.{Guard}
use Rattle.mp_tables.specs.declared.typed_statements.Tagging.{Tagging}
use Rattle.mp_meaning.specs.Faults.{disposed_variable, nil_pointer, outside_type, undefined_value, variant_not_active}
use Rattle.mp_meaning.specs.Numbers.{lies_in, members_lie_in}
use Rattle.mp_files.specs.TextFiles.{TextFile}
use Rattle.mp_meaning.specs.Values.{Reference, Value, Undefined, Number, Members, Pointer, Routine, Refers, File, cleared, is_scalar, is_structure, is_plain, alike, can_retag, component, changed, retagged, selects, part_of, whole_of, number_in_whole}
use Rattle.mp_meaning.specs.Leaves.{leaves_before_in, offset}
use Rattle.mp_meaning.specs.Configurations.{Configuration, set_root, find_activation}
use Rattle.mp_meaning.specs.Outcomes.{Action, Command, ◌>>=◌, ◌>>◌, gives, skip, update, now, fault, wrong, needs, choose, unless}

-- ---- what a value is

abbrev pub as_number : Value → Action ℤ
as_number (Number n) = gives n
as_number _ = wrong

-- what follows a number
abbrev pub with_number : {A : Type 0} → Action Value → (ℤ → Action A) → Action A
with_number value go = do
  v ← value
  n ← as_number v
  go n

abbrev pub as_members : Value → Action (List ℕ)
as_members (Members set) = gives set
as_members _ = wrong

abbrev pub as_pointer : Value → Action ℕ
as_pointer (Pointer object) = gives object
as_pointer _ = wrong

abbrev pub as_reference : Value → Action Reference
as_reference (Refers root way type) = gives (record { root = root; way = way; type = type })
as_reference _ = wrong

-- a procedure or function whose static parent is live (6.6.3.4)
abbrev pub as_live_routine : Value → Action Value
as_live_routine (Routine path parent) = do
  c ← now
  _ ← needs (find_activation c.activations parent)
  gives (Routine path parent)
as_live_routine _ = wrong

abbrev pub as_file : Value → Action TextFile
as_file (File f) = gives f
as_file _ = wrong

-- an undefined value is fault 9
abbrev pub defined : (at : ℕ) → Value → Action Value
defined at Undefined = fault at undefined_value
defined at v = gives v

-- a defined value of one cell
abbrev pub as_scalar : Value → Action Value
as_scalar (Number n) = gives (Number n)
as_scalar (Members set) = gives (Members set)
as_scalar (Pointer object) = gives (Pointer object)
as_scalar _ = wrong

-- ---- reading and setting

-- the variable is not that of a disposed object
abbrev pub must_live : (at : ℕ) → Reference → Command
must_live at r = do
  c ← now
  unless (c.roots r.root).live (fault at disposed_variable)

-- the value of a variable, be it defined or not
abbrev pub held : (at : ℕ) → Reference → Action Value
held at r = do
  must_live at r
  c ← now
  unless (alike r.type (c.roots r.root).value) wrong
  needs (component (c.roots r.root).value r.way)

-- its component of this number, before which so many cells stand: no variable has more than a run may have
abbrev pub part : Reference → (number before : ℕ) → Action Reference
part r k before = do
  unless (nat_eq (leaves_before_in (component r.type r.way) k) before) wrong
  unless (nat_le (offset r.type r.way + before) CELL_LIMIT) wrong
  gives (part_of r k)

-- the value of a variable that is read
abbrev pub read : (at : ℕ) → Reference → Action Value
read at r = do
  v ← held at r
  defined at v

abbrev pub with_changed : Reference → (Value → Value) → Configuration → Configuration
with_changed r change c = set_root r.root (record (c.roots r.root) { value = changed (c.roots r.root).value r.way change }) c

-- the variable gets a value of its form
abbrev pub set : (at : ℕ) → Reference → Value → Command
set at r v = do
  old ← held at r
  unless (alike old v) wrong
  update (with_changed r (λ old. v))

-- a tag gets a value, and the fields of its variants, the next so many behind it, become undefined
abbrev pub retag : (at : ℕ) → Reference → Value → (slots cells : ℕ) → Command
retag at r v slots cells = do
  whole ← held at (whole_of r)
  unless (is_scalar v && can_retag (number_in_whole r) slots cells whole) wrong
  update (with_changed (whole_of r) (retagged (number_in_whole r) v slots))

-- ---- the values of a type (6.4.6): what may not be stored is fault 3

abbrev pub must_fit : (at : ℕ) → Check → Value → Command
must_fit at (check.Range low high) v = do
  n ← as_number v
  unless (lies_in low high n) (fault at outside_type)
must_fit at (check.Members low high) v = do
  members ← as_members v
  unless (members_lie_in low high members) (fault at outside_type)
must_fit at check.Pointer v = do
  _ ← as_pointer v
  skip
must_fit at (check.Block cells) v = unless (is_structure v && is_plain v) wrong

-- ---- variants (6.4.3.3, 6.5.3.3)

-- the old and the new value of the tag select the same variant
abbrev pub same_variant : Tagging → Value → Value → Bool
same_variant t old new = list_any (λ g. selects old g.constants && selects new g.constants) t.variants

-- a tag that selects another variant, or none, makes the fields of all variants undefined
abbrev pub set_tag : (at : ℕ) → Tagging → Reference → Value → Command
set_tag at t r v = do
  old ← held at r
  choose (same_variant t old v) (set at r v) (retag at r v t.slots t.cells)

-- a tested value is stored
abbrev pub assign : (at : ℕ) → Option Tagging → Reference → Value → Command
assign at None r v = set at r v
assign at (Some t) r v = set_tag at t r v

abbrev pub first_constant : List ℤ → Value
first_constant [] = Undefined
first_constant (n ∷ more) = Number n

-- A variant without a tag field is selected where the variable is formed to be set, and else the access is fault 10.
abbrev pub select : (at : ℕ) → (setting : Bool) → Reference → Guard → Command
select at setting tag g =
    choose (setting && g.hidden) (retag at tag (first_constant g.constants) g.slots g.cells) (fault at variant_not_active)

-- the variant must be active
abbrev pub pass : (at : ℕ) → (setting : Bool) → Reference → Guard → Command
pass at setting r g = do
  tag ← part r g.slot g.offset
  v ← held at tag
  unless (is_scalar v) wrong
  choose (selects v g.constants) skip (select at setting tag g)

abbrev pub pass_all : (at : ℕ) → (setting : Bool) → Reference → List Guard → Command
pass_all at setting r [] = skip
pass_all at setting r (g ∷ more) = do
  pass at setting r g
  pass_all at setting r more

-- ---- pointers (6.5.4): nil is fault 7, a disposed object fault 8

abbrev pub object_root : Configuration → ℕ → Option ℕ
object_root c k = elim (slice_get c.objects k) as (λ o. Option ℕ) [ None ↦ None | Some o ↦ Some o.root ]

abbrev pub object_of : (at : ℕ) → (object : ℕ) → Action Reference
object_of at zero = fault at nil_pointer
object_of at (suc k) = do
  c ← now
  root ← needs (object_root c k)
  unless (c.roots root).live (fault at disposed_variable)
  gives (record { root = root; way = []; type = cleared (c.roots root).value })
