-- Type denoters (ISO 7185, 6.4): which types they denote, and their errors.
use Rattle.std.specs.Prelude.{ℕ, ◌+◌, pos, Bool, false, not, ◌&&◌, ◌||◌, List, [], ◌∷◌, ◌++◌, Option, Some, None, map, length, drop, bytes_eq, nat_eq, int_lt, int_le, find, is_some, is_none, option_map, unwrap_or, if◌then◌else◌}
use Rattle.std.specs.Map.{lookup}
use Rattle.mp_base.specs.declared.path.PathStep.{PathStep}
use Rattle.mp_ast.specs.declared.leaves.Identifier.{Identifier}
use Rattle.mp_ast.specs.declared.leaves.Constant.{Constant}
use Rattle.mp_ast.specs.Blocks.{same_path}
use Rattle.mp_ast.specs.PlainTypes.{PlainDenoter, Named, Enumeration, Subrange, Pointer, Array, Record, Set, File, Fields, FieldsWithVariants, PlainIndices, NoIndices, Index, PlainSections, NoSections, Section, PlainVariants, NoVariants, Variant}
use Rattle.mp_ast.specs.FirstTokens.{first_of_constant, first_of_denoter}
use Rattle.mp_tables.specs.declared.types.TypeId.{TypeId}
use Rattle.mp_tables.specs.declared.types.TypeId.TheVariants as type
use Rattle.mp_tables.specs.declared.types.Bounds.{Bounds}
use Rattle.mp_tables.specs.declared.types.Within.{Within}
use Rattle.mp_tables.specs.declared.types.Slot.{Slot}
use Rattle.mp_tables.specs.declared.types.Part.{Part}
use Rattle.mp_tables.specs.declared.types.VariantConstants.{VariantConstants}
use Rattle.mp_tables.specs.declared.types.Shape.{Shape}
use Rattle.mp_tables.specs.declared.types.Shape.TheVariants as shape
use Rattle.mp_tables.specs.declared.types.Typed.{Typed}
use Rattle.mp_tables.specs.declared.errors.RuleError.{RuleError}
use Rattle.mp_tables.specs.declared.required.Required.TheVariants as name
use Rattle.mp_tables.specs.declared.declarations.ConstantValue.{ConstantValue}
use Rattle.mp_tables.specs.declared.declarations.ConstantValue.TheVariants as value
use Rattle.mp_tables.specs.declared.declarations.Decl.{Decl}
use Rattle.mp_tables.specs.declared.declarations.Decl.TheVariants as decl
use Rattle.mp_tables.specs.declared.headings.Heading.{Heading}
use Rattle.mp_tables.specs.declared.tables.Entry.{Entry}
use Rattle.mp_tables.specs.declared.tables.Nested.{Nested}
use Rattle.mp_tables.specs.declared.tables.Shaped.{Shaped}
use Rattle.mp_tables.specs.declared.typed_statements.FrameSlot.{FrameSlot}
use Rattle.mp_tables.specs.Asks.{◌>>=◌ as ◌>>=ᵃ◌, pure as pureᵃ}
use Rattle.mp_tables.specs.Reports.{Threads, Rule, pure, ◌>>=◌, ◌>>◌, report_if, refuse}
use Rattle.mp_tables.specs.TypeRelations.{same, ordinal, holds_file}
use Rattle.mp_tables.specs.Sizes.{saturated, cells_of, array_cells, sum_of, slot_named}
use Rattle.mp_tables.specs.Seen.{seen_entry}
use Rattle.mp_tables.specs.Names.{Use, Declared, Lookup, declared_use, looked_up, typed}
use Rattle.mp_tables.specs.Constants.{constant, selecting, Selecting}
use Rattle.mp_tables.specs.DefiningPoints.{Points, filled}

-- ---- what is known of a block while its declarations are read

-- the heading that a name's first heading gives, by the ordinal of that name
pub record Headed : Type 0 where
  pub at : ℕ
  pub heading : Heading

pub record Known : Type 0 where
  pub names : Points
  pub shapes : List Shaped
  pub headings : List Headed
  pub nested : List Nested
  -- the frame so far
  pub frame : List FrameSlot
  pub errors : List RuleError

-- a rule for declarations: what is known goes from step to step
abbrev pub Elaboration : Type 0 → Type 0
Elaboration A = Threads Known A

abbrev pub by_rule : {A : Type 0} → Rule A → Elaboration A
by_rule m = λ k. m k.errors >>=ᵃ (λ p. pureᵃ (p.0, record k { errors = p.1 }))

abbrev pub change : (Known → Known) → Elaboration (Unit {0})
change f = λ k. pureᵃ (tt, f k)

abbrev pub fill : List ℕ → ℕ → Decl → Elaboration (Unit {0})
fill n at d = change (λ k. record k { names = filled n at d k.names })

-- where types are denoted: the block, and the end of its type part, where the denoter stands in that
pub record TypePlace : Type 0 where
  pub path : List PathStep
  pub type_part_end : Option ℕ

-- ---- names in declarations

abbrev pub look_by : List PathStep → ℕ → List ℕ → ℕ → Option Entry → Rule (Option Use)
look_by path at n place None = looked_up path at n place
look_by path at n place (Some e) = declared_use at (seen_entry place e)

-- A name that is used at one ordinal and looked up at another. What the block itself declares is known; only what it does not
-- declare is asked.
abbrev pub look_at : List PathStep → Points → ℕ → List ℕ → ℕ → Rule (Option Use)
look_at path known at n place = look_by path at n place (lookup (bytes_eq n) known)

abbrev pub look : List PathStep → Points → Lookup
look path known x = look_at path known x.at x.name x.at

-- a rule that looks up names, by what is known
abbrev pub looking : {A : Type 0} → List PathStep → (Lookup → Rule A) → Elaboration A
looking path m = λ k. by_rule (m (look path k.names)) k

-- 305: a type is wanted, and the name is none. At the name.
abbrev pub type_use : ℕ → Option Use → Rule (Option TypeId)
type_use at None = pure None
type_use at (Some (Declared (decl.Sort path t))) = pure t
type_use at (Some (Declared (decl.Required name.Integer))) = pure (Some type.Integer)
type_use at (Some (Declared (decl.Required name.Boolean))) = pure (Some type.Boolean)
type_use at (Some (Declared (decl.Required name.Char))) = pure (Some type.Char)
type_use at (Some (Declared (decl.Required name.Text))) = pure (Some type.Text)
type_use at (Some _) = refuse 305 at

-- a type's name
abbrev pub type_name : List PathStep → Identifier → Elaboration (Option TypeId)
type_name path x = looking path (λ look. look x >>= type_use x.at)

-- ---- the shapes of types

abbrev pub shaped : List Shaped → ℕ → Shape
shaped shapes at = unwrap_or (option_map (λ x. x.shape) (find (λ x. nat_eq x.at at) shapes)) (shape.Ptr None)

abbrev pub own_typed : ℕ → TypeId → Elaboration Typed
own_typed at id = λ k. pureᵃ (record { id = Some id; shape = shaped k.shapes at }, k)

-- a type with its shape: the block's own shapes are known
abbrev pub typed_here : List PathStep → TypeId → Elaboration Typed
typed_here path (type.Own p at) = if same_path p path then own_typed at (type.Own p at) else typed (type.Own p at)
typed_here path id = typed id

abbrev pub typed_here_if : List PathStep → Option TypeId → Elaboration (Option Typed)
typed_here_if path None = pure None
typed_here_if path (Some id) = typed_here path id >>= (λ t. pure (Some t))

-- a new type
abbrev pub new_type : List PathStep → ℕ → Shape → Elaboration (Option TypeId)
new_type path at s =
    change (λ k. record k { shapes = k.shapes ++ record { at = at; shape = s } ∷ [] }) >> pure (Some (type.Own path at))

abbrev pub size_of : Option Typed → ℕ
size_of None = 0
size_of (Some t) = cells_of t.shape

abbrev pub file_in : Option Typed → Bool
file_in None = false
file_in (Some t) = holds_file t.shape

-- ---- simple types (6.4.2)

-- 316: the first bound is greater. 317: the bounds are not two constants of one ordinal type. At the last bound.
abbrev pub bounds_by : ℕ → Option ConstantValue → Option ConstantValue → Rule (Option Bounds)
bounds_by at None _ = pure None
bounds_by at (Some v) None = pure None
bounds_by at (Some (value.Ordinal a m)) (Some (value.Ordinal b n)) =
    if not (same a b) then refuse 317 at
    else (if int_lt n m then refuse 316 at else pure (Some (record { host = a; low = m; high = n })))
bounds_by at (Some v) (Some w) = refuse 317 at

abbrev pub bounds : Constant → Constant → Lookup → Rule (Option Bounds)
bounds first last look = constant look first >>= (λ a. constant look last >>= bounds_by (first_of_constant last) a)

abbrev pub new_range : List PathStep → ℕ → Option Bounds → Elaboration (Option TypeId)
new_range path at None = pure None
new_range path at (Some b) = new_type path at (shape.Range b)

-- the constants of an enumeration, which number its values from 0
abbrev pub fill_constants : List PathStep → TypeId → ℕ → List Identifier → Elaboration (Unit {0})
fill_constants path id n [] = pure tt
fill_constants path id n (x ∷ xs) =
    fill x.name x.at (decl.Const path (Some (value.Ordinal id (pos n)))) >> fill_constants path id (n + 1) xs

abbrev pub enumeration : List PathStep → ℕ → List Identifier → Elaboration (Option TypeId)
enumeration path at constants =
    fill_constants path (type.Own path at) 0 constants >> new_type path at (shape.Names (map (λ x. x.name) constants))

abbrev pub ordinal_by : ℕ → Option Bounds → Rule (Option Bounds)
ordinal_by at None = refuse 318 at
ordinal_by at (Some b) = pure (Some b)

-- 318: an index type, base type or tag type is not ordinal. At its first token.
abbrev pub ordinal_type : List PathStep → ℕ → Option TypeId → Elaboration (Option Bounds)
ordinal_type path at None = pure None
ordinal_type path at (Some id) = typed_here path id >>= (λ t. by_rule (ordinal_by at (ordinal t)))

-- ---- pointers (6.4.4)

abbrev pub domain : TypePlace → Identifier → Elaboration (Option TypeId)
domain p x = by_end p.type_part_end
  where
    by_end : Option ℕ → Elaboration (Option TypeId)
    by_end None = type_name p.path x
    by_end (Some end) = pure None

-- ---- sets (6.4.3.4)

-- 319: a value of the base type lies outside 0..255. At its first token.
abbrev pub base_by : ℕ → Option Bounds → Rule (Option Bounds)
base_by at None = pure None
base_by at (Some b) = if int_le (pos 0) b.low && int_le b.high (pos 255) then pure (Some b) else refuse 319 at

-- ---- arrays (6.4.3.2)

-- an index type, with the ordinal of the array that it belongs to
pub record IndexType : Type 0 where
  pub at : ℕ
  pub bounds : Option Bounds

-- The array types of these index types, the last one first: each is the component type of the one before it.
abbrev pub arrays : List PathStep → Bool → List IndexType → Option TypeId → Elaboration (Option TypeId)
arrays path packed [] component = pure component
arrays path packed (i ∷ outer) component = do
  t ← typed_here_if path component
  a ← new_type path i.at (shape.Arr (record { packed = packed; index = i.bounds; component = component; size = size_of t; cells = array_cells i.bounds (size_of t); file = file_in t }))
  arrays path packed outer a

-- ---- records (6.4.3.3)

-- the part of a record that was read
pub record RecordSoFar : Type 0 where
  pub slots : List Slot
  pub parts : List Part
  pub offset : ℕ
  pub file : Bool

abbrev pub free_name : List Slot → List ℕ → Option (List ℕ)
free_name slots n = if is_some (slot_named n slots) then None else Some n

abbrev pub with_slot : Option TypeId → Option Typed → Option Within → Option ℕ → Option (List ℕ) → RecordSoFar → RecordSoFar
with_slot id t within tags n r =
    record r {
      slots = r.slots ++ record { name = n; of = id; offset = r.offset; cells = size_of t; within = within; tags = tags } ∷ [];
      offset = saturated (r.offset + size_of t);
      file = r.file || file_in t;
    }

-- 304: the record has a field of this name already. At the later name.
abbrev pub field : Option TypeId → Option Typed → Option Within → Option ℕ → RecordSoFar → Identifier → Elaboration RecordSoFar
field id t within tags r x = do
  by_rule (report_if (is_some (slot_named x.name r.slots)) 304 x.at)
  pure (with_slot id t within tags (free_name r.slots x.name) r)

abbrev pub fields_of : Option TypeId → Option Typed → Option Within → RecordSoFar → List Identifier → Elaboration RecordSoFar
fields_of id t within r [] = pure r
fields_of id t within r (x ∷ xs) = field id t within None r x >>= (λ s. fields_of id t within s xs)

-- a tag has one cell, whatever its type
abbrev pub tag_cell : Option TypeId → ℕ → Option Within → Option (List ℕ) → RecordSoFar → RecordSoFar
tag_cell id number within n r =
    record r {
      slots = r.slots ++ record { name = n; of = id; offset = r.offset; cells = 1; within = within; tags = Some number } ∷ [];
      offset = saturated (r.offset + 1);
    }

-- a tag field, or the hidden tag of a variant part without one
abbrev pub tag_slot : Option TypeId → ℕ → Option Within → Option Identifier → RecordSoFar → Elaboration RecordSoFar
tag_slot id number within None r = pure (tag_cell id number within None r)
tag_slot id number within (Some x) r =
    by_rule (report_if (is_some (slot_named x.name r.slots)) 304 x.at)
    >> pure (tag_cell id number within (free_name r.slots x.name) r)

-- a variant part, of which the variants are not read yet
abbrev pub with_part : Option TypeId → Option Within → Bool → RecordSoFar → RecordSoFar
with_part host within hidden r =
    record r { parts = r.parts ++ record { within = within; tag = length r.slots; hidden = hidden; host = host; variants = []; slots = 0; cells = 0 } ∷ [] }

-- the variants of a part, and the slots behind its tag
abbrev pub put_variants : List VariantConstants → List Slot → Part → Part
put_variants variants behind p = record p { variants = variants; slots = length behind; cells = sum_of (map (λ x. x.cells) behind) }

abbrev pub changed_at : ℕ → ℕ → (Part → Part) → List Part → List Part
changed_at k n f [] = []
changed_at k n f (p ∷ parts) = (if nat_eq k n then f p else p) ∷ changed_at k (n + 1) f parts

-- the slots that are new in the second record
abbrev pub added : RecordSoFar → RecordSoFar → List Slot
added r s = drop (length r.slots) s.slots

-- the variant part with this number has these variants, whose fields were added to those of r
abbrev pub close_part : ℕ → List VariantConstants → RecordSoFar → RecordSoFar → RecordSoFar
close_part k variants r s = record s { parts = changed_at k 0 (put_variants variants (added r s)) s.parts }

abbrev pub host_of : Option Bounds → Option TypeId
host_of None = None
host_of (Some b) = Some b.host

-- the type of a tag: missing, where it is not ordinal
abbrev pub tag_type : Option TypeId → Option Bounds → Option TypeId
tag_type id None = None
tag_type id (Some b) = id

-- a record before its variants were read, and with those that were
pub record Reading : Type 0 where
  pub before : RecordSoFar
  pub now : RecordSoFar

-- the constants of the variants that were read, and all that must differ from the next ones
pub record VariantsSoFar : Type 0 where
  pub known : List ConstantValue
  pub variants : List VariantConstants

abbrev pub more_variants : VariantsSoFar → Selecting → VariantsSoFar
more_variants v s = record { known = s.known; variants = v.variants ++ record { constants = s.values } ∷ [] }

abbrev pub empty_record : RecordSoFar
empty_record = record { slots = []; parts = []; offset = 0; file = false }

abbrev pub record_shape : Bool → RecordSoFar → Shape
record_shape packed r = shape.Rec (record { packed = packed; slots = r.slots; parts = r.parts; cells = r.offset; file = r.file })

-- ---- all denoters

abbrev mutual
  -- the type that is denoted, where it is not missing
  pub denote : TypePlace → PlainDenoter → Elaboration (Option TypeId)
  denote p (Named x) = type_name p.path x
  denote p (Enumeration at constants) = enumeration p.path at constants
  denote p (Subrange first last) = looking p.path (bounds first last) >>= new_range p.path (first_of_constant first)
  denote p (Pointer at x) = domain p x >>= (λ d. new_type p.path at (shape.Ptr d))
  denote p (Array at packed is d) = indices p is >>= (λ outer. denote p d >>= arrays p.path packed outer)
  denote p (Record at packed d) = field_list p None d empty_record >>= (λ r. new_type p.path at (record_shape packed r))
  denote p (Set at packed d) = do
    t ← denote p d
    b ← ordinal_type p.path (first_of_denoter d) t
    c ← by_rule (base_by (first_of_denoter d) b)
    new_type p.path at (shape.SetOf (Some packed) c)
  -- 321: only files of characters are there, which the type text has. At `file`.
  denote p (File at file d) = denote p d >> by_rule (refuse 321 file)
  -- A field list alone is no type; no text has one.
  denote p (Fields fixed) = by_rule (refuse 321 0)
  denote p (FieldsWithVariants fixed at tag of vs) = by_rule (refuse 321 at)

  -- index types, the last one first
  pub indices : TypePlace → PlainIndices → Elaboration (List IndexType)
  indices p NoIndices = pure []
  indices p (Index at d more) = do
    t ← denote p d
    b ← ordinal_type p.path (first_of_denoter d) t
    outer ← indices p more
    pure (outer ++ record { at = at; bounds = b } ∷ [])

  -- a field list, in this variant
  pub field_list : TypePlace → Option Within → PlainDenoter → RecordSoFar → Elaboration RecordSoFar
  field_list p within (Fields fixed) r = fixed_fields p within fixed r
  field_list p within (FieldsWithVariants fixed at tag of vs) r = do
    s ← fixed_fields p within fixed r
    id ← type_name p.path of
    b ← ordinal_type p.path of.at id
    u ← tag_slot (tag_type id b) (length s.parts) within tag (with_part (host_of b) within (is_none tag) s)
    variants p (length s.parts) 0 (host_of b) vs (record { known = []; variants = [] }) (record { before = u; now = u })
  field_list p within _ r = pure r

  pub fixed_fields : TypePlace → Option Within → PlainSections → RecordSoFar → Elaboration RecordSoFar
  fixed_fields p within NoSections r = pure r
  fixed_fields p within (Section names d more) r = do
    id ← denote p d
    t ← typed_here_if p.path id
    s ← fields_of id t within r names
    fixed_fields p within more s

  -- the variants of the variant part with this number, from the variant n on
  pub variants : TypePlace → ℕ → ℕ → Option TypeId → PlainVariants → VariantsSoFar → Reading → Elaboration RecordSoFar
  variants p k n host NoVariants v r = pure (close_part k v.variants r.before r.now)
  variants p k n host (Variant constants d more) v r = do
    s ← looking p.path (λ look. selecting look host constants (record { values = []; known = v.known }))
    u ← field_list p (Some (record { part = k; variant = n })) d r.now
    variants p k (n + 1) host more (more_variants v s) (record r { now = u })
