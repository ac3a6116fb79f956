-- The derived tests of identities, shapes, headings and declarations tell whether two are the same: a struct's test is that
-- of its fields, one after the other, and an enum's is true of one variant with the same parts.
use Rattle.std.proofs.Common.{rules, ◌≡◌, ℕ, ℤ, Bool, true, false, ◌&&◌, nat_eq, List, Option, Some, None, Decides, refl, ap}
use Rattle.std.proofs.lemmas.Bool.Decides.{Decides-and, Decides-like, Decides-eqb, Decides-int_eq}
use Rattle.std.proofs.lemmas.Slice.Eq.{bytes_eq-Decides}
use Rattle.std.specs.Option.{option_eq}
use Rattle.std.specs.Prelude.{bytes_eq}
use mathlib.Core.Bool.{beq}
use Rattle.std.specs.Cmp.Lexicographic.{pointwise, pointwise_decides}
use Rattle.mp_base.specs.declared.path.PathStep.{PathStep}
use Rattle.mp_tables.specs.declared.types.TypeId.{TypeId}
use Rattle.mp_tables.specs.declared.types.TypeId.TheVariants as type
use Rattle.mp_tables.specs.declared.types.Bounds.{Bounds}
use Rattle.mp_tables.specs.declared.types.ArrayShape.{ArrayShape}
use Rattle.mp_tables.specs.declared.types.Within.{Within}
use Rattle.mp_tables.specs.declared.types.Slot.{Slot}
use Rattle.mp_tables.specs.declared.types.VariantConstants.{VariantConstants}
use Rattle.mp_tables.specs.declared.types.Part.{Part}
use Rattle.mp_tables.specs.declared.types.RecordShape.{RecordShape}
use Rattle.mp_tables.specs.declared.types.Shape.{Shape}
use Rattle.mp_tables.specs.declared.types.Shape.TheVariants as shape
use Rattle.mp_tables.specs.declared.headings.FormalKind.{FormalKind}
use Rattle.mp_tables.specs.declared.headings.Formal.{Formal}
use Rattle.mp_tables.specs.declared.headings.Heading.{Heading}
use Rattle.mp_tables.specs.declared.required.Required.{Required}
use Rattle.mp_tables.specs.declared.declarations.ConstantValue.{ConstantValue}
use Rattle.mp_tables.specs.declared.declarations.ConstantValue.TheVariants as value
use Rattle.mp_tables.specs.declared.declarations.Variable.{Variable}
use Rattle.mp_tables.specs.declared.declarations.Parameter.{Parameter}
use Rattle.mp_tables.specs.declared.declarations.Routine.{Routine}
use Rattle.mp_tables.specs.declared.declarations.LabelStanding.{LabelStanding}
use Rattle.mp_tables.specs.declared.declarations.Decl.{Decl}
use Rattle.mp_tables.specs.declared.declarations.Decl.TheVariants as decl
use Rattle.mp_tables.specs.declared.questions.Seen.{Seen}
use Rattle.mp_tables.specs.declared.questions.Seen.TheVariants as see
use Rattle.mp_tables.specs.declared.questions.Given.{Given}
use Rattle.mp_tables.specs.declared.questions.Given.TheVariants as given
use Rattle.mp_tables.specs.contracts.types.TypeIdPartialEq.TheImpl as same_type
use Rattle.mp_tables.specs.contracts.types.BoundsPartialEq.TheImpl as same_bounds
use Rattle.mp_tables.specs.contracts.types.ArrayShapePartialEq.TheImpl as same_array
use Rattle.mp_tables.specs.contracts.types.WithinPartialEq.TheImpl as same_within
use Rattle.mp_tables.specs.contracts.types.SlotPartialEq.TheImpl as same_slot
use Rattle.mp_tables.specs.contracts.types.VariantConstantsPartialEq.TheImpl as same_constants
use Rattle.mp_tables.specs.contracts.types.PartPartialEq.TheImpl as same_part
use Rattle.mp_tables.specs.contracts.types.RecordShapePartialEq.TheImpl as same_record
use Rattle.mp_tables.specs.contracts.types.ShapePartialEq.TheImpl as same_shape
use Rattle.mp_tables.specs.contracts.headings.FormalKindPartialEq.TheImpl as same_kind
use Rattle.mp_tables.specs.contracts.headings.FormalPartialEq.TheImpl as same_formal
use Rattle.mp_tables.specs.contracts.headings.HeadingPartialEq.TheImpl as same_heading
use Rattle.mp_tables.specs.contracts.required.RequiredPartialEq.TheImpl as same_required
use Rattle.mp_tables.specs.contracts.declarations.ConstantValuePartialEq.TheImpl as same_value
use Rattle.mp_tables.specs.contracts.declarations.VariablePartialEq.TheImpl as same_variable
use Rattle.mp_tables.specs.contracts.declarations.ParameterPartialEq.TheImpl as same_parameter
use Rattle.mp_tables.specs.contracts.declarations.RoutinePartialEq.TheImpl as same_routine
use Rattle.mp_tables.specs.contracts.declarations.LabelStandingPartialEq.TheImpl as same_standing
use Rattle.mp_tables.specs.contracts.declarations.DeclPartialEq.TheImpl as same_decl
use Rattle.mp_tables.specs.contracts.questions.SeenPartialEq.TheImpl as same_seen
use Rattle.mp_tables.specs.contracts.questions.GivenPartialEq.TheImpl as same_given

-- a test of a type
abbrev Tells : {A : Type 0} → (A → A → Bool) → Type 0
Tells {A} test = (a b : A) → Decides (test a b) (a ≡ b)

infixr 5 ◌also◌
◌also◌ : {P Q : Type 0} {x y : Bool} → Decides x P → Decides y Q → Decides (x && y) (P × Q)
◌also◌ {x = x} {y = y} d k = Decides-and x y d k

-- ---- parts

some_is : {A : Type 0} {test : A → A → Bool} → Tells test → (a b : A) → Decides (test a b) (Some a ≡ Some b)
some_is d a b = Decides-like _ (λ e. ap Some e) (λ e. let n : a ≡ b = cc in n) (d a b)

option_is : {A : Type 0} {test : A → A → Bool} → Tells test → Tells (option_eq test)
option_is d None None = (λ h. refl, λ e. refl)
option_is d (Some a) (Some b) = some_is d a b
option_is d _ _ = (λ h. absurd (let n : ⊥ = cc in n), λ e. absurd (let n : ⊥ = cc in n))

list_is : {A : Type 0} {test : A → A → Bool} → Tells test → Tells (pointwise test)
list_is d = pointwise_decides d

bool_is : Tells beq
bool_is true true = (λ h. refl, λ e. refl)
bool_is false false = (λ h. refl, λ e. refl)
bool_is _ _ = (λ h. absurd (let n : ⊥ = cc in n), λ e. absurd (let n : ⊥ = cc in n))

step_is : (s t : PathStep) → Decides (bytes_eq s.name t.name && nat_eq s.nth t.nth) (s ≡ t)
step_is s t =
    Decides-like _ (λ h i. record { name = h.0 i; nth = h.1 i }) (λ e. (ap (λ x. x.name) e, ap (λ x. x.nth) e)) (bytes_eq-Decides s.name t.name also Decides-eqb s.nth t.nth)

required_is : (a b : Required) → Decides ((same_required.ghosts).eq a b) (a ≡ b)
required_is a b = search rules

kind_is : (a b : FormalKind) → Decides ((same_kind.ghosts).eq a b) (a ≡ b)
kind_is a b = search rules

standing_is : (a b : LabelStanding) → Decides ((same_standing.ghosts).eq a b) (a ≡ b)
standing_is a b = search rules

-- ---- types

own_type_is : (p p' : List PathStep) (n n' : ℕ) → Decides ((same_type.ghosts).eq (type.Own p n) (type.Own p' n')) (type.Own p n ≡ type.Own p' n')
own_type_is p p' n n' =
    Decides-like _ (λ h i. type.Own (h.0 i) (h.1 i)) (λ e. (let f : p ≡ p' = cc in f, let f : n ≡ n' = cc in f)) (list_is step_is p p' also Decides-eqb n n')

pub type_is : (a b : TypeId) → Decides ((same_type.ghosts).eq a b) (a ≡ b)
type_is type.Integer type.Integer = (λ h. refl, λ e. refl)
type_is type.Boolean type.Boolean = (λ h. refl, λ e. refl)
type_is type.Char type.Char = (λ h. refl, λ e. refl)
type_is type.Text type.Text = (λ h. refl, λ e. refl)
type_is (type.Own p n) (type.Own p' n') = own_type_is p p' n n'
type_is _ _ = (λ h. absurd (let n : ⊥ = cc in n), λ e. absurd (let n : ⊥ = cc in n))

bounds_is : (a b : Bounds) → Decides ((same_bounds.ghosts).eq a b) (a ≡ b)
bounds_is a b =
    Decides-like _
    (λ h i. record { host = h.0 i; low = h.1.0 i; high = h.1.1 i })
    (λ e. (ap (λ x. x.host) e, (ap (λ x. x.low) e, ap (λ x. x.high) e)))
    (type_is a.host b.host also Decides-int_eq a.low b.low also Decides-int_eq a.high b.high)

array_is : (a b : ArrayShape) → Decides ((same_array.ghosts).eq a b) (a ≡ b)
array_is a b =
    Decides-like _
    (λ h i. record { packed = h.0 i; index = h.1.0 i; component = h.1.1.0 i; size = h.1.1.1.0 i; cells = h.1.1.1.1.0 i; file = h.1.1.1.1.1 i })
    (λ e. (ap (λ x. x.packed) e, (ap (λ x. x.index) e, (ap (λ x. x.component) e, (ap (λ x. x.size) e, (ap (λ x. x.cells) e, ap (λ x. x.file) e))))))
    (bool_is a.packed b.packed also option_is bounds_is a.index b.index also option_is type_is a.component b.component also Decides-eqb a.size b.size also Decides-eqb a.cells b.cells also bool_is a.file b.file)

within_is : (a b : Within) → Decides ((same_within.ghosts).eq a b) (a ≡ b)
within_is a b =
    Decides-like _
    (λ h i. record { part = h.0 i; variant = h.1 i })
    (λ e. (ap (λ x. x.part) e, ap (λ x. x.variant) e))
    (Decides-eqb a.part b.part also Decides-eqb a.variant b.variant)

slot_is : (a b : Slot) → Decides ((same_slot.ghosts).eq a b) (a ≡ b)
slot_is a b =
    Decides-like _
    (λ h i. record { name = h.0 i; of = h.1.0 i; offset = h.1.1.0 i; cells = h.1.1.1.0 i; within = h.1.1.1.1.0 i; tags = h.1.1.1.1.1 i })
    (λ e. (ap (λ x. x.name) e, (ap (λ x. x.of) e, (ap (λ x. x.offset) e, (ap (λ x. x.cells) e, (ap (λ x. x.within) e, ap (λ x. x.tags) e))))))
    (option_is bytes_eq-Decides a.name b.name also option_is type_is a.of b.of also Decides-eqb a.offset b.offset also Decides-eqb a.cells b.cells also option_is within_is a.within b.within also option_is Decides-eqb a.tags b.tags)

constants_is : (a b : VariantConstants) → Decides ((same_constants.ghosts).eq a b) (a ≡ b)
constants_is a b =
    Decides-like _ (λ h i. record { constants = h i }) (λ e. ap (λ x. x.constants) e) (list_is Decides-int_eq a.constants b.constants)

part_is : (a b : Part) → Decides ((same_part.ghosts).eq a b) (a ≡ b)
part_is a b =
    Decides-like _
    (λ h i. record { within = h.0 i; tag = h.1.0 i; hidden = h.1.1.0 i; host = h.1.1.1.0 i; variants = h.1.1.1.1.0 i; slots = h.1.1.1.1.1.0 i; cells = h.1.1.1.1.1.1 i })
    (λ e. (ap (λ x. x.within) e, (ap (λ x. x.tag) e, (ap (λ x. x.hidden) e, (ap (λ x. x.host) e, (ap (λ x. x.variants) e, (ap (λ x. x.slots) e, ap (λ x. x.cells) e)))))))
    (option_is within_is a.within b.within also Decides-eqb a.tag b.tag also bool_is a.hidden b.hidden also option_is type_is a.host b.host also list_is constants_is a.variants b.variants also Decides-eqb a.slots b.slots also Decides-eqb a.cells b.cells)

record_is : (a b : RecordShape) → Decides ((same_record.ghosts).eq a b) (a ≡ b)
record_is a b =
    Decides-like _
    (λ h i. record { packed = h.0 i; slots = h.1.0 i; parts = h.1.1.0 i; cells = h.1.1.1.0 i; file = h.1.1.1.1 i })
    (λ e. (ap (λ x. x.packed) e, (ap (λ x. x.slots) e, (ap (λ x. x.parts) e, (ap (λ x. x.cells) e, ap (λ x. x.file) e)))))
    (bool_is a.packed b.packed also list_is slot_is a.slots b.slots also list_is part_is a.parts b.parts also Decides-eqb a.cells b.cells also bool_is a.file b.file)

range_shape_is : (b b' : Bounds) → Decides ((same_shape.ghosts).eq (shape.Range b) (shape.Range b')) (shape.Range b ≡ shape.Range b')
range_shape_is b b' =
    Decides-like _ (λ h i. shape.Range (h i)) (λ e. let f : b ≡ b' = cc in f) (bounds_is b b')

names_shape_is : (xs xs' : List (List ℕ)) → Decides ((same_shape.ghosts).eq (shape.Names xs) (shape.Names xs')) (shape.Names xs ≡ shape.Names xs')
names_shape_is xs xs' =
    Decides-like _ (λ h i. shape.Names (h i)) (λ e. let f : xs ≡ xs' = cc in f) (list_is bytes_eq-Decides xs xs')

arr_shape_is : (r r' : ArrayShape) → Decides ((same_shape.ghosts).eq (shape.Arr r) (shape.Arr r')) (shape.Arr r ≡ shape.Arr r')
arr_shape_is r r' =
    Decides-like _ (λ h i. shape.Arr (h i)) (λ e. let f : r ≡ r' = cc in f) (array_is r r')

rec_shape_is : (r r' : RecordShape) → Decides ((same_shape.ghosts).eq (shape.Rec r) (shape.Rec r')) (shape.Rec r ≡ shape.Rec r')
rec_shape_is r r' =
    Decides-like _ (λ h i. shape.Rec (h i)) (λ e. let f : r ≡ r' = cc in f) (record_is r r')

setof_shape_is : (p p' : Option Bool) (b b' : Option Bounds) → Decides ((same_shape.ghosts).eq (shape.SetOf p b) (shape.SetOf p' b')) (shape.SetOf p b ≡ shape.SetOf p' b')
setof_shape_is p p' b b' =
    Decides-like _ (λ h i. shape.SetOf (h.0 i) (h.1 i)) (λ e. (let f : p ≡ p' = cc in f, let f : b ≡ b' = cc in f)) (option_is bool_is p p' also option_is bounds_is b b')

ptr_shape_is : (d d' : Option TypeId) → Decides ((same_shape.ghosts).eq (shape.Ptr d) (shape.Ptr d')) (shape.Ptr d ≡ shape.Ptr d')
ptr_shape_is d d' =
    Decides-like _ (λ h i. shape.Ptr (h i)) (λ e. let f : d ≡ d' = cc in f) (option_is type_is d d')

str_shape_is : (n n' : ℕ) → Decides ((same_shape.ghosts).eq (shape.Str n) (shape.Str n')) (shape.Str n ≡ shape.Str n')
str_shape_is n n' =
    Decides-like _ (λ h i. shape.Str (h i)) (λ e. let f : n ≡ n' = cc in f) (Decides-eqb n n')

shape_is : (a b : Shape) → Decides ((same_shape.ghosts).eq a b) (a ≡ b)
shape_is (shape.Range b) (shape.Range b') = range_shape_is b b'
shape_is (shape.Names xs) (shape.Names xs') = names_shape_is xs xs'
shape_is (shape.Arr r) (shape.Arr r') = arr_shape_is r r'
shape_is (shape.Rec r) (shape.Rec r') = rec_shape_is r r'
shape_is (shape.SetOf p b) (shape.SetOf p' b') = setof_shape_is p p' b b'
shape_is (shape.Ptr d) (shape.Ptr d') = ptr_shape_is d d'
shape_is shape.Text shape.Text = (λ h. refl, λ e. refl)
shape_is (shape.Str n) (shape.Str n') = str_shape_is n n'
shape_is _ _ = (λ h. absurd (let n : ⊥ = cc in n), λ e. absurd (let n : ⊥ = cc in n))

-- ---- headings and declarations

formal_is : (a b : Formal) → Decides ((same_formal.ghosts).eq a b) (a ≡ b)
formal_is a b =
    Decides-like _
    (λ h i. record { depth = h.0 i; section = h.1.0 i; name = h.1.1.0 i; kind = h.1.1.1.0 i; of = h.1.1.1.1 i })
    (λ e. (ap (λ x. x.depth) e, (ap (λ x. x.section) e, (ap (λ x. x.name) e, (ap (λ x. x.kind) e, ap (λ x. x.of) e)))))
    (Decides-eqb a.depth b.depth also Decides-eqb a.section b.section also bytes_eq-Decides a.name b.name also kind_is a.kind b.kind also option_is type_is a.of b.of)

heading_is : (a b : Heading) → Decides ((same_heading.ghosts).eq a b) (a ≡ b)
heading_is a b =
    Decides-like _
    (λ h i. record { formals = h.0 i; result = h.1 i })
    (λ e. (ap (λ x. x.formals) e, ap (λ x. x.result) e))
    (list_is formal_is a.formals b.formals also option_is type_is a.result b.result)

ordinal_value_is : (t t' : TypeId) (n n' : ℤ) → Decides ((same_value.ghosts).eq (value.Ordinal t n) (value.Ordinal t' n')) (value.Ordinal t n ≡ value.Ordinal t' n')
ordinal_value_is t t' n n' =
    Decides-like _ (λ h i. value.Ordinal (h.0 i) (h.1 i)) (λ e. (let f : t ≡ t' = cc in f, let f : n ≡ n' = cc in f)) (type_is t t' also Decides-int_eq n n')

text_value_is : (s s' : List ℕ) → Decides ((same_value.ghosts).eq (value.Text s) (value.Text s')) (value.Text s ≡ value.Text s')
text_value_is s s' =
    Decides-like _ (λ h i. value.Text (h i)) (λ e. let f : s ≡ s' = cc in f) (bytes_eq-Decides s s')

value_is : (a b : ConstantValue) → Decides ((same_value.ghosts).eq a b) (a ≡ b)
value_is (value.Ordinal t n) (value.Ordinal t' n') = ordinal_value_is t t' n n'
value_is (value.Text s) (value.Text s') = text_value_is s s'
value_is _ _ = (λ h. absurd (let n : ⊥ = cc in n), λ e. absurd (let n : ⊥ = cc in n))

variable_is : (a b : Variable) → Decides ((same_variable.ghosts).eq a b) (a ≡ b)
variable_is a b =
    Decides-like _
    (λ h i. record { of = h.0 i; offset = h.1.0 i; control = h.1.1 i })
    (λ e. (ap (λ x. x.of) e, (ap (λ x. x.offset) e, ap (λ x. x.control) e)))
    (option_is type_is a.of b.of also Decides-eqb a.offset b.offset also bool_is a.control b.control)

parameter_is : (a b : Parameter) → Decides ((same_parameter.ghosts).eq a b) (a ≡ b)
parameter_is a b =
    Decides-like _
    (λ h i. record { kind = h.0 i; of = h.1.0 i; offset = h.1.1.0 i; own = h.1.1.1 i })
    (λ e. (ap (λ x. x.kind) e, (ap (λ x. x.of) e, (ap (λ x. x.offset) e, ap (λ x. x.own) e))))
    (kind_is a.kind b.kind also option_is type_is a.of b.of also Decides-eqb a.offset b.offset also option_is heading_is a.own b.own)

routine_is : (a b : Routine) → Decides ((same_routine.ghosts).eq a b) (a ≡ b)
routine_is a b =
    Decides-like _
    (λ h i. record { heading = h.0 i; block = h.1 i })
    (λ e. (ap (λ x. x.heading) e, ap (λ x. x.block) e))
    (heading_is a.heading b.heading also option_is (list_is step_is) a.block b.block)

const_decl_is : (p p' : List PathStep) (v v' : Option ConstantValue) → Decides ((same_decl.ghosts).eq (decl.Const p v) (decl.Const p' v')) (decl.Const p v ≡ decl.Const p' v')
const_decl_is p p' v v' =
    Decides-like _ (λ h i. decl.Const (h.0 i) (h.1 i)) (λ e. (let f : p ≡ p' = cc in f, let f : v ≡ v' = cc in f)) (list_is step_is p p' also option_is value_is v v')

sort_decl_is : (p p' : List PathStep) (t t' : Option TypeId) → Decides ((same_decl.ghosts).eq (decl.Sort p t) (decl.Sort p' t')) (decl.Sort p t ≡ decl.Sort p' t')
sort_decl_is p p' t t' =
    Decides-like _ (λ h i. decl.Sort (h.0 i) (h.1 i)) (λ e. (let f : p ≡ p' = cc in f, let f : t ≡ t' = cc in f)) (list_is step_is p p' also option_is type_is t t')

var_decl_is : (p p' : List PathStep) (v v' : Variable) → Decides ((same_decl.ghosts).eq (decl.Var p v) (decl.Var p' v')) (decl.Var p v ≡ decl.Var p' v')
var_decl_is p p' v v' =
    Decides-like _ (λ h i. decl.Var (h.0 i) (h.1 i)) (λ e. (let f : p ≡ p' = cc in f, let f : v ≡ v' = cc in f)) (list_is step_is p p' also variable_is v v')

param_decl_is : (p p' : List PathStep) (v v' : Parameter) → Decides ((same_decl.ghosts).eq (decl.Param p v) (decl.Param p' v')) (decl.Param p v ≡ decl.Param p' v')
param_decl_is p p' v v' =
    Decides-like _ (λ h i. decl.Param (h.0 i) (h.1 i)) (λ e. (let f : p ≡ p' = cc in f, let f : v ≡ v' = cc in f)) (list_is step_is p p' also parameter_is v v')

proc_decl_is : (p p' : List PathStep) (r r' : Routine) → Decides ((same_decl.ghosts).eq (decl.Proc p r) (decl.Proc p' r')) (decl.Proc p r ≡ decl.Proc p' r')
proc_decl_is p p' r r' =
    Decides-like _ (λ h i. decl.Proc (h.0 i) (h.1 i)) (λ e. (let f : p ≡ p' = cc in f, let f : r ≡ r' = cc in f)) (list_is step_is p p' also routine_is r r')

func_decl_is : (p p' : List PathStep) (r r' : Routine) (n n' : ℕ) → Decides ((same_decl.ghosts).eq (decl.Func p r n) (decl.Func p' r' n')) (decl.Func p r n ≡ decl.Func p' r' n')
func_decl_is p p' r r' n n' =
    Decides-like _ (λ h i. decl.Func (h.0 i) (h.1.0 i) (h.1.1 i)) (λ e. (let f : p ≡ p' = cc in f, (let f : r ≡ r' = cc in f, let f : n ≡ n' = cc in f))) (list_is step_is p p' also routine_is r r' also Decides-eqb n n')

label_decl_is : (p p' : List PathStep) (s s' : LabelStanding) → Decides ((same_decl.ghosts).eq (decl.Label p s) (decl.Label p' s')) (decl.Label p s ≡ decl.Label p' s')
label_decl_is p p' s s' =
    Decides-like _ (λ h i. decl.Label (h.0 i) (h.1 i)) (λ e. (let f : p ≡ p' = cc in f, let f : s ≡ s' = cc in f)) (list_is step_is p p' also standing_is s s')

required_decl_is : (r r' : Required) → Decides ((same_decl.ghosts).eq (decl.Required r) (decl.Required r')) (decl.Required r ≡ decl.Required r')
required_decl_is r r' =
    Decides-like _ (λ h i. decl.Required (h i)) (λ e. let f : r ≡ r' = cc in f) (required_is r r')

decl_is : (a b : Decl) → Decides ((same_decl.ghosts).eq a b) (a ≡ b)
decl_is (decl.Const p v) (decl.Const p' v') = const_decl_is p p' v v'
decl_is (decl.Sort p t) (decl.Sort p' t') = sort_decl_is p p' t t'
decl_is (decl.Var p v) (decl.Var p' v') = var_decl_is p p' v v'
decl_is (decl.Param p v) (decl.Param p' v') = param_decl_is p p' v v'
decl_is (decl.Proc p r) (decl.Proc p' r') = proc_decl_is p p' r r'
decl_is (decl.Func p r n) (decl.Func p' r' n') = func_decl_is p p' r r' n n'
decl_is (decl.Label p s) (decl.Label p' s') = label_decl_is p p' s s'
decl_is (decl.Required r) (decl.Required r') = required_decl_is r r'
decl_is _ _ = (λ h. absurd (let n : ⊥ = cc in n), λ e. absurd (let n : ⊥ = cc in n))

-- ---- answers

is_seen_is : (d d' : Decl) → Decides ((same_seen.ghosts).eq (see.Is d) (see.Is d')) (see.Is d ≡ see.Is d')
is_seen_is d d' =
    Decides-like _ (λ h i. see.Is (h i)) (λ e. let f : d ≡ d' = cc in f) (decl_is d d')

seen_is : (a b : Seen) → Decides ((same_seen.ghosts).eq a b) (a ≡ b)
seen_is (see.Is d) (see.Is d') = is_seen_is d d'
seen_is see.NotYet see.NotYet = (λ h. refl, λ e. refl)
seen_is see.Absent see.Absent = (λ h. refl, λ e. refl)
seen_is _ _ = (λ h. absurd (let n : ⊥ = cc in n), λ e. absurd (let n : ⊥ = cc in n))

seen_given_is : (s s' : Seen) → Decides ((same_given.ghosts).eq (given.Seen s) (given.Seen s')) (given.Seen s ≡ given.Seen s')
seen_given_is s s' =
    Decides-like _ (λ h i. given.Seen (h i)) (λ e. let f : s ≡ s' = cc in f) (seen_is s s')

shape_given_is : (s s' : Shape) → Decides ((same_given.ghosts).eq (given.Shape s) (given.Shape s')) (given.Shape s ≡ given.Shape s')
shape_given_is s s' =
    Decides-like _ (λ h i. given.Shape (h i)) (λ e. let f : s ≡ s' = cc in f) (shape_is s s')

heading_given_is : (h h' : Heading) → Decides ((same_given.ghosts).eq (given.Heading h) (given.Heading h')) (given.Heading h ≡ given.Heading h')
heading_given_is h h' =
    Decides-like _ (λ h i. given.Heading (h i)) (λ e. let f : h ≡ h' = cc in f) (heading_is h h')

assigns_given_is : (b b' : Bool) → Decides ((same_given.ghosts).eq (given.Assigns b) (given.Assigns b')) (given.Assigns b ≡ given.Assigns b')
assigns_given_is b b' =
    Decides-like _ (λ h i. given.Assigns (h i)) (λ e. let f : b ≡ b' = cc in f) (bool_is b b')

pub given_is : (a b : Given) → Decides ((same_given.ghosts).eq a b) (a ≡ b)
given_is (given.Seen s) (given.Seen s') = seen_given_is s s'
given_is (given.Shape s) (given.Shape s') = shape_given_is s s'
given_is (given.Heading h) (given.Heading h') = heading_given_is h h'
given_is (given.Assigns b) (given.Assigns b') = assigns_given_is b b'
given_is _ _ = (λ h. absurd (let n : ⊥ = cc in n), λ e. absurd (let n : ⊥ = cc in n))
