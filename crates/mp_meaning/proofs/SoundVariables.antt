-- Reading and setting variables of checked programs.
use Rattle.std.proofs.Common.{◌≡◌, ℕ, zero, suc, List, [], ◌∷◌, Option, Some, None, Bool, true, false, refl, sym, ap, ◌∙◌, subst, eqb-true, ◌+◌, ◌≤◌, arith}
use Rattle.std.specs.Prelude.{◌&&◌, ◌||◌, nat_eq, nat_le, slice_get, ℤ}
use Rattle.mp_base.specs.declared.limits.TheConstants.{CELL_LIMIT}
use Rattle.mp_tables.specs.declared.types.TypeId.{TypeId}
use Rattle.mp_tables.specs.declared.types.Slot.{Slot}
use Rattle.mp_tables.specs.declared.types.RecordShape.{RecordShape}
use Rattle.mp_tables.specs.declared.types.Shape.{Shape}
use Rattle.mp_tables.specs.declared.types.Shape.TheVariants as shape
use Rattle.mp_tables.specs.declared.typed_expressions.Sort.{Sort}
use Rattle.mp_tables.specs.declared.typed_expressions.Sort.TheVariants as sort
use Rattle.mp_tables.specs.declared.typed_expressions.Check.{Check}
use Rattle.mp_tables.specs.declared.typed_expressions.Check.TheVariants as check
use Rattle.mp_tables.specs.declared.typed_expressions.Guard.{Guard}
use Rattle.mp_tables.specs.declared.typed_statements.Tagging.{Tagging}
use Rattle.mp_tables.specs.Seen.{shape_of}
use Rattle.mp_tables.specs.Variables.{sort_of, check_of}
use Rattle.mp_meaning.specs.Numbers.{lies_in, members_lie_in}
use Rattle.mp_meaning.specs.Values.{Reference, Value, Undefined, Number, Members, Pointer, Routine, Refers, File, Structure, cleared, is_scalar, is_structure, is_plain, alike, can_retag, component, changed, retagged, selects, part_of, whole_of, number_in_whole}
use Rattle.mp_meaning.specs.Configurations.{Configuration, Activation, Root, Object, with_root, set_root}
use Rattle.mp_meaning.specs.Outcomes.{Action, wrong}
use Rattle.mp_meaning.specs.Variables.{as_number, with_number, as_members, as_pointer, as_reference, defined, must_live, held, read, part, retag, with_changed, set, must_fit, same_variant, assign, first_constant, pass, pass_all, object_root, object_of}
use Rattle.mp_meaning.proofs.SoundKinds.{IsOne, kind_cells, Given, Kind, Of, Numbers, Sets, Pointers, class, class_by, class_of_shape, part_kind, part_at, slot_kind, part_of_shape, World, Later, then_later, Spot, spot_later, Routed, domain, PointsTo, IfSingle, IfNumbers, IfSets, IfFile, IfPointers, IfParts, IfReferences, IfRoutines, HasKind, HasParts, Fits, fits_later, Files}
use Rattle.mp_tables.specs.declared.types.Part.{Part}
use Rattle.mp_tables.specs.Checked.{IsSimple, Selected, tags, tags_part, tags_in}
use Rattle.std.specs.List.{list_any}
use Rattle.std.proofs.lemmas.Bool.{and_parts}
use Rattle.mp_meaning.specs.Leaves.{leaves_before_in, offset}
use Rattle.mp_meaning.specs.CheckedPrograms.{RecordFits}
use Rattle.mp_meaning.specs.Offsets.{PartStands, GuardStands, GuardsStand}
use Rattle.mp_meaning.proofs.SoundCells.{both, has_shape, cleared_shape, alike_is, scalar_one, total, spot_small, PartStandsAt, part_stands_at, field_offset, can_retag_is}
use Rattle.mp_meaning.proofs.SoundValues.{whole_kind, component_has, changed_has, retagged_has}
use Rattle.mp_meaning.proofs.SoundOutcomes.{unless_true, nat_eq_refl, nat_le_is, Sane, Reach, Safe, Any, bind_safe, then_safe, gives_safe, skip_safe, fault_safe, needs_safe, choose_safe, unless_fault, weaker, update_safe}
use Rattle.mp_meaning.proofs.SoundFiles.{all_open, plain_open, component_open, KeepsOpen, changed_open, at_standard, no_standard_record}

-- ---- the values of sorts

abbrev pub IsDefined : Value → Type 0
IsDefined Undefined = ⊥
IsDefined _ = Unit {0}

abbrev pub SortHas : World → Sort → Value → Type 0
SortHas w sort.Ordinal v = (n : ℤ) × (v ≡ Number n)
SortHas w sort.Set v = (set : List ℕ) × (v ≡ Members set)
SortHas w sort.Pointer v = (o : ℕ) × (v ≡ Pointer o) × PointsTo w None o
SortHas w (sort.Block n) v = (is_structure v ≡ true) × (is_plain v ≡ true)
SortHas w sort.File v = ⊥

pub record Sorted (s : Sort) (w : World) (v : Value) : Type 0 where
  pub by : SortHas w s v

points_any : (w : World) (d : Option TypeId) (o : ℕ) → PointsTo w d o → PointsTo w None o
points_any w d zero h = tt
points_any w d (suc i) h = (h.0, h.1, λ t e. absurd (let f : ⊥ = cc in f))

points_none_later : (w v : World) (o : ℕ) → Later w v → PointsTo w None o → PointsTo v None o
points_none_later w v zero l h = tt
points_none_later w v (suc i) l h = (h.0, l.object i h.0 h.1, λ t e. absurd (let f : ⊥ = cc in f))

sort_later : {w v : World} (s : Sort) (x : Value) → Later w v → SortHas w s x → SortHas v s x
sort_later sort.Ordinal x l h = h
sort_later sort.Set x l h = h
sort_later {w} {v} sort.Pointer x l h = (h.0, h.1, points_none_later w v h.0 l h.2)
sort_later (sort.Block n) x l h = h
sort_later sort.File x l h = h

pub sorted_later : {s : Sort} {w v : World} {x : Value} → Later w v → Sorted s w x → Sorted s v x
sorted_later {s} {x} l h = record { by = sort_later s x l h.by }

number_has : (g : Given) (w : World) (k : Kind) (v : Value) → class g k ≡ Numbers → IsDefined v → HasKind g w k v → SortHas w sort.Ordinal v
number_has g w k Undefined e d h = absurd d
number_has g w k (Number n) e d h = (n, refl)
number_has g w k (Members m) e d h = absurd (subst IfSets e h)
number_has g w k (Pointer o) e d h = absurd (subst (λ c. IfPointers c (PointsTo w (domain g k) o)) e h)
number_has g w k (Routine path parent) e d h = absurd (subst (λ c. IfRoutines c (λ a older. Routed g w a older path parent)) e h)
number_has g w k (Refers root way type) e d h = absurd (subst (λ c. IfReferences c (λ t. Spot g (Of (Some t)) w (record { root = root; way = way; type = type }))) e h)
number_has g w k (File f) e d h = absurd (subst IfFile e h)
number_has g w k (Structure vs) e d h = absurd (subst (λ c. IfParts c (HasParts g w (part_kind g k) vs)) e h)

set_has : (g : Given) (w : World) (k : Kind) (v : Value) → class g k ≡ Sets → IsDefined v → HasKind g w k v → SortHas w sort.Set v
set_has g w k Undefined e d h = absurd d
set_has g w k (Number n) e d h = absurd (subst IfNumbers e h)
set_has g w k (Members m) e d h = (m, refl)
set_has g w k (Pointer o) e d h = absurd (subst (λ c. IfPointers c (PointsTo w (domain g k) o)) e h)
set_has g w k (Routine path parent) e d h = absurd (subst (λ c. IfRoutines c (λ a older. Routed g w a older path parent)) e h)
set_has g w k (Refers root way type) e d h = absurd (subst (λ c. IfReferences c (λ t. Spot g (Of (Some t)) w (record { root = root; way = way; type = type }))) e h)
set_has g w k (File f) e d h = absurd (subst IfFile e h)
set_has g w k (Structure vs) e d h = absurd (subst (λ c. IfParts c (HasParts g w (part_kind g k) vs)) e h)

pointer_has : (g : Given) (w : World) (k : Kind) (v : Value) → class g k ≡ Pointers → IsDefined v → HasKind g w k v → SortHas w sort.Pointer v
pointer_has g w k Undefined e d h = absurd d
pointer_has g w k (Number n) e d h = absurd (subst IfNumbers e h)
pointer_has g w k (Members m) e d h = absurd (subst IfSets e h)
pointer_has g w k (Pointer o) e d h = (o, refl, points_any w (domain g k) o (subst (λ c. IfPointers c (PointsTo w (domain g k) o)) e h))
pointer_has g w k (Routine path parent) e d h = absurd (subst (λ c. IfRoutines c (λ a older. Routed g w a older path parent)) e h)
pointer_has g w k (Refers root way type) e d h = absurd (subst (λ c. IfReferences c (λ t. Spot g (Of (Some t)) w (record { root = root; way = way; type = type }))) e h)
pointer_has g w k (File f) e d h = absurd (subst IfFile e h)
pointer_has g w k (Structure vs) e d h = absurd (subst (λ c. IfParts c (HasParts g w (part_kind g k) vs)) e h)

-- the values of a type are of its sort
abbrev pub SortOf : Given → TypeId → Sort → Type 0
SortOf g t s = (x : Shape) × (shape_of g.tables t ≡ Some x) × (sort_of (record { id = Some t; shape = x }) ≡ s)

pub class_is : (g : Given) (t : TypeId) (s : Sort) (h : SortOf g t s) → class g (Of (Some t)) ≡ class_by s h.0
class_is g t s h = ap (class_of_shape t) h.1 ∙ ap (λ s. class_by s h.0) h.2

pub sort_has : (g : Given) (w : World) (t : TypeId) (s : Sort) (v : Value) → IsSimple s → SortOf g t s → IsDefined v → HasKind g w (Of (Some t)) v → SortHas w s v
sort_has g w t sort.Ordinal v i e d h = number_has g w (Of (Some t)) v (class_is g t sort.Ordinal e) d h
sort_has g w t sort.Set v i e d h = set_has g w (Of (Some t)) v (class_is g t sort.Set e) d h
sort_has g w t sort.Pointer v i e d h = pointer_has g w (Of (Some t)) v (class_is g t sort.Pointer e) d h
sort_has g w t (sort.Block n) v i e d h = absurd i
sort_has g w t sort.File v i e d h = absurd i

pub number_fits : (g : Given) (w : World) (t : TypeId) (n : ℤ) → SortOf g t sort.Ordinal → HasKind g w (Of (Some t)) (Number n)
number_fits g w t n e = subst IfNumbers (sym (class_is g t sort.Ordinal e)) tt

pub set_fits : (g : Given) (w : World) (t : TypeId) (m : List ℕ) → SortOf g t sort.Set → HasKind g w (Of (Some t)) (Members m)
set_fits g w t m e = subst IfSets (sym (class_is g t sort.Set e)) tt

pub undefined_fits : (g : Given) (w : World) (t : TypeId) → SortOf g t sort.Ordinal → HasKind g w (Of (Some t)) Undefined
undefined_fits g w t e = subst IfSingle (sym (class_is g t sort.Ordinal e)) tt

-- what a test needs
abbrev pub CheckHas : Check → Value → Type 0
CheckHas (check.Range low high) v = (n : ℤ) × (v ≡ Number n)
CheckHas (check.Members low high) v = (set : List ℕ) × (v ≡ Members set)
CheckHas check.Pointer v = (o : ℕ) × (v ≡ Pointer o)
CheckHas (check.Block cells) v = (is_structure v ≡ true) × (is_plain v ≡ true)

abbrev pub CheckOf : Given → TypeId → Check → Type 0
CheckOf g t fit = (x : Shape) × (shape_of g.tables t ≡ Some x) × (check_of (record { id = Some t; shape = x }) ≡ fit)

check_shape : (w : World) (t : TypeId) (x : Shape) (s : Sort) (fit : Check) (v : Value) → sort_of (record { id = Some t; shape = x }) ≡ s →
    check_of (record { id = Some t; shape = x }) ≡ fit → SortHas w s v → CheckHas fit v
check_shape w t (shape.Range b) s fit v e f h = subst (λ c. CheckHas c v) f (subst (λ s. SortHas w s v) (sym e) h)
check_shape w t (shape.Names b) s fit v e f h = subst (λ c. CheckHas c v) f (subst (λ s. SortHas w s v) (sym e) h)
check_shape w t (shape.SetOf packed None) s fit v e f h = subst (λ c. CheckHas c v) f (subst (λ s. SortHas w s v) (sym e) h)
check_shape w t (shape.SetOf packed (Some b)) s fit v e f h = subst (λ c. CheckHas c v) f (subst (λ s. SortHas w s v) (sym e) h)
check_shape w t (shape.Ptr b) s fit v e f h = let x = subst (λ s. SortHas w s v) (sym e) h in subst (λ c. CheckHas c v) f (x.0, x.1)
check_shape w t (shape.Arr b) s fit v e f h = subst (λ c. CheckHas c v) f (subst (λ s. SortHas w s v) (sym e) h)
check_shape w t (shape.Rec b) s fit v e f h = subst (λ c. CheckHas c v) f (subst (λ s. SortHas w s v) (sym e) h)
check_shape w t (shape.Str b) s fit v e f h = subst (λ c. CheckHas c v) f (subst (λ s. SortHas w s v) (sym e) h)
check_shape w t shape.Text s fit v e f h = absurd (subst (λ s. SortHas w s v) (sym e) h)

pub check_has : (g : Given) (w : World) (t : TypeId) (s : Sort) (fit : Check) (v : Value) → SortOf g t s → CheckOf g t fit → SortHas w s v → CheckHas fit v
check_has g w t s fit v e f h =
    let one : Some e.0 ≡ Some f.0 = sym e.1 ∙ f.1 in
    let same : e.0 ≡ f.0 = cc in
    check_shape w t f.0 s fit v (ap (λ x. sort_of (record { id = Some t; shape = x })) (sym same) ∙ e.2) f.2 h

-- a test of an ordinal type
pub range_sort : (g : Given) (t : TypeId) (low high : ℤ) → CheckOf g t (check.Range low high) → SortOf g t sort.Ordinal
range_sort g t low high f = (f.0, f.1, by_shape f.0 f.2)
  where
    by_shape : (x : Shape) → check_of (record { id = Some t; shape = x }) ≡ check.Range low high → sort_of (record { id = Some t; shape = x }) ≡ sort.Ordinal
    by_shape (shape.Range b) e = refl
    by_shape (shape.Names b) e = refl
    by_shape (shape.SetOf packed None) e = absurd (let h : ⊥ = cc in h)
    by_shape (shape.SetOf packed (Some b)) e = absurd (let h : ⊥ = cc in h)
    by_shape (shape.Ptr b) e = absurd (let h : ⊥ = cc in h)
    by_shape (shape.Arr b) e = absurd (let h : ⊥ = cc in h)
    by_shape (shape.Rec b) e = absurd (let h : ⊥ = cc in h)
    by_shape (shape.Str b) e = absurd (let h : ⊥ = cc in h)
    by_shape shape.Text e = absurd (let h : ⊥ = cc in h)

-- what passes a test holds no file
pub check_open : (fit : Check) (v : Value) → CheckHas fit v → all_open v ≡ true
check_open (check.Range low high) v h = ap all_open h.1
check_open (check.Members low high) v h = ap all_open h.1
check_open check.Pointer v h = ap all_open h.1
check_open (check.Block cells) v h = plain_open v h.1

-- ---- roots with a value changed

pub root_cases : (P : Root → Type 0) (roots : ℕ → Root) (r : ℕ) (new : Root) (q : ℕ) → (q ≡ r → P new) → (nat_eq q r ≡ false → P (roots q)) → P (with_root roots r new q)
root_cases P roots r new q here there = by_test (nat_eq q r) refl
  where
    by_test : (b : Bool) → nat_eq q r ≡ b → P (elim b as (λ is. Root) [ true ↦ new | false ↦ roots q ])
    by_test true e = here (eqb-true q r e)
    by_test false e = there e

-- another value of the same kind under a root
pub sane_root : (g : Given) (w : World) (c : Configuration) (r : ℕ) (k : Kind) (new : Root) → Sane g w c → w.kind r ≡ Some k → HasKind g w k new.value →
    (r ≡ 0 → all_open new.value ≡ true) → Sane g w (set_root r new c)
sane_root g w c r k new s e h opened = record {
  values = λ q m f. root_cases (λ x. HasKind g w m x.value) c.roots r new q
      (λ same. let one : Some k ≡ Some m = sym e ∙ subst (λ q. w.kind q ≡ Some m) same f in let two : k ≡ m = cc in subst (λ k. HasKind g w k new.value) two h)
      (λ differs. s.values q m f);
  fresh = s.fresh;
  objects = s.objects;
  activations = s.activations;
  files = s.files;
  small = s.small;
  typed = s.typed;
  opened = root_cases (λ x. all_open x.value ≡ true) c.roots r new 0 (λ same. opened (sym same)) (λ differs. s.opened);
}

-- ---- what a value is

module _ {g : Given} {acts : List Activation} {reach : Reach} where
  pub as_number_safe : {w : World} {P : World → ℤ → Type 0} (v : Value) (n : ℤ) → v ≡ Number n → P w n → Safe g w acts reach P (as_number v)
  as_number_safe {w} {P} v n e h = subst (λ v. Safe g w acts reach P (as_number v)) (sym e) (gives_safe n h)

  pub as_members_safe : {w : World} {P : World → List ℕ → Type 0} (v : Value) (n : List ℕ) → v ≡ Members n → P w n → Safe g w acts reach P (as_members v)
  as_members_safe {w} {P} v n e h = subst (λ v. Safe g w acts reach P (as_members v)) (sym e) (gives_safe n h)

  pub as_pointer_safe : {w : World} {P : World → ℕ → Type 0} (v : Value) (n : ℕ) → v ≡ Pointer n → P w n → Safe g w acts reach P (as_pointer v)
  as_pointer_safe {w} {P} v n e h = subst (λ v. Safe g w acts reach P (as_pointer v)) (sym e) (gives_safe n h)

  pub as_reference_safe : {w : World} {P : World → Reference → Type 0} (v : Value) (n : Reference) → v ≡ Refers n.root n.way n.type → P w n →
      Safe g w acts reach P (as_reference v)
  as_reference_safe {w} {P} v n e h = subst (λ v. Safe g w acts reach P (as_reference v)) (sym e) (gives_safe n h)

  pub with_number_safe : {w : World} {A : Type 0} {P : World → A → Type 0} {value : Action Value} {go : ℤ → Action A} → Safe g w acts reach (Sorted sort.Ordinal) value →
      ((u : World) → Later w u → (n : ℤ) → Safe g u acts reach P (go n)) → Safe g w acts reach P (with_number value go)
  with_number_safe f h = bind_safe f (λ u l v s. let x = s.by in bind_safe {P = Any} (as_number_safe v x.0 x.1 tt) (λ u' l' n any. h u' (then_later l l') n))

  -- ---- reading

  pub must_live_safe : {w : World} (at : ℕ) (r : Reference) → Safe g w acts reach Any (must_live at r)
  must_live_safe at r = record { by = λ c sane e. (weaker {Q = Any} (unless_fault (c.roots r.root).live at 8) (λ u l v h. tt)).by c sane e }

  -- the value is of the variable's kind, and in the standard files no file is closed
  pub held_open_safe : {w : World} {k : Kind} (at : ℕ) (r : Reference) → Spot g k w r → Safe g w acts reach (λ u v. Fits g k u v × (r.root ≡ 0 → all_open v ≡ true)) (held at r)
  held_open_safe {k} at r s = then_safe (must_live_safe at r) (λ u l v any. record {
    by = λ c sane e.
        let whole = sane.values r.root s.whole (l.kind _ _ s.root) in
        let x = component_has g u s.whole (c.roots r.root).value r.way k whole s.there in
        let opens : r.root ≡ 0 → all_open x.value ≡ true =
        λ first. component_open (c.roots r.root).value r.way x.value (subst (λ n. all_open (c.roots n).value ≡ true) (sym first) sane.opened) x.found in
        (then_safe {Q = λ u v. Fits g k u v × (r.root ≡ 0 → all_open v ≡ true)}
        (unless_true (alike r.type (c.roots r.root).value) wrong
        (alike_is g s.whole r.type (c.roots r.root).value s.shape (has_shape g u s.whole (c.roots r.root).value whole))) (λ u' l' v any.
        needs_safe {P = λ u v. Fits g k u v × (r.root ≡ 0 → all_open v ≡ true)} (component (c.roots r.root).value r.way) x.value x.found
        (fits_later l' (record { by = x.has }), opens))).by c sane e;
  })

  pub held_safe : {w : World} {k : Kind} (at : ℕ) (r : Reference) → Spot g k w r → Safe g w acts reach (Fits g k) (held at r)
  held_safe {k} at r s = weaker (held_open_safe at r s) (λ u l v h. h.0)

-- a value that is defined
pub record Known (g : Given) (k : Kind) (w : World) (v : Value) : Type 0 where
  pub fits : Fits g k w v
  pub is : IsDefined v

module _ {g : Given} {acts : List Activation} {reach : Reach} where
  pub defined_safe : {w : World} {k : Kind} (at : ℕ) (v : Value) → Fits g k w v → Safe g w acts reach (Known g k) (defined at v)
  defined_safe at Undefined f = fault_safe at 9
  defined_safe at (Number n) f = gives_safe (Number n) (record { fits = f; is = tt })
  defined_safe at (Members n) f = gives_safe (Members n) (record { fits = f; is = tt })
  defined_safe at (Pointer n) f = gives_safe (Pointer n) (record { fits = f; is = tt })
  defined_safe at (Routine path parent) f = gives_safe (Routine path parent) (record { fits = f; is = tt })
  defined_safe at (Refers root way type) f = gives_safe (Refers root way type) (record { fits = f; is = tt })
  defined_safe at (File x) f = gives_safe (File x) (record { fits = f; is = tt })
  defined_safe at (Structure vs) f = gives_safe (Structure vs) (record { fits = f; is = tt })

  pub read_safe : {w : World} {k : Kind} (at : ℕ) (r : Reference) → Spot g k w r → Safe g w acts reach (Known g k) (read at r)
  read_safe at r s = bind_safe (held_safe at r s) (λ u l v f. defined_safe at v f)

-- ---- setting

sane_changed : (g : Given) (w : World) (c : Configuration) (k : Kind) (r : Reference) (change : Value → Value) → Sane g w c → Spot g k w r →
    ((v : Value) → HasKind g w k v → HasKind g w k (change v)) → (r.root ≡ 0 → KeepsOpen change) → Sane g w (with_changed r change c)
sane_changed g w c k r change sane s f opens =
    sane_root g w c r.root s.whole (record (c.roots r.root) { value = changed (c.roots r.root).value r.way change }) sane s.root
    (changed_has g w s.whole (c.roots r.root).value r.way k change (sane.values r.root s.whole s.root) s.there f)
    (λ first. changed_open (c.roots r.root).value r.way change (opens first) (subst (λ n. all_open (c.roots n).value ≡ true) (sym first) sane.opened))

-- a value that is set in a part of the standard files has no closed file
abbrev pub MayStand : World → Reference → Value → Type 0
MayStand w r v = (u : World) → Later w u → u.kind 0 ≡ Some Files → r.root ≡ 0 → all_open v ≡ true

pub part_spot : {g : Given} {w : World} {k q : Kind} (r : Reference) (i : ℕ) → Spot g k w r → part_kind g k i ≡ Some q → Spot g q w (part_of r i)
part_spot {g} r i s e = record { whole = s.whole; root = s.root; there = ap (λ o. part_at g o i) s.there ∙ e; shape = s.shape; small = s.small }

-- a field that was selected, and the record around it
pub record FieldSpot (g : Given) (b : Selected) (k : Kind) (w : World) (r : Reference) : Type 0 where
  pub spot : Spot g (Of (Some b.record_type)) w (whole_of r)
  pub number : number_in_whole r ≡ b.slot
  pub part : part_kind g (Of (Some b.record_type)) (number_in_whole r) ≡ Some k

pub field_later : {g : Given} {b : Selected} {k : Kind} {w v : World} {r : Reference} → Later w v → FieldSpot g b k w r → FieldSpot g b k v r
field_later l s = record { spot = spot_later l s.spot; number = s.number; part = s.part }

-- what selects variants is the tag of a variant part
abbrev pub IsTag : Given → Option Tagging → Kind → World → Reference → Type 0
IsTag g None k w r = Unit {0}
IsTag g (Some t) k w r = (b : Selected) × FieldSpot g b k w r × (tags_part g.tables (Some b) t ≡ true)

abbrev pub IsGuard : Given → RecordShape → Guard → Type 0
IsGuard g r x = (s : Slot) × (t : TypeId) × (slice_get r.slots x.slot ≡ Some s) × (s.of ≡ Some t) × SortOf g t sort.Ordinal

abbrev pub AreGuards : Given → RecordShape → List Guard → Type 0
AreGuards g r [] = Unit {0}
AreGuards g r (x ∷ more) = IsGuard g r x × AreGuards g r more

constant_fits : (g : Given) (w : World) (t : TypeId) (ns : List ℤ) → SortOf g t sort.Ordinal → HasKind g w (Of (Some t)) (first_constant ns)
constant_fits g w t [] e = undefined_fits g w t e
constant_fits g w t (n ∷ ns) e = number_fits g w t n e

pub record_part : (g : Given) (t : TypeId) (r : RecordShape) (i : ℕ) (s : Slot) (c : TypeId) → shape_of g.tables t ≡ Some (shape.Rec r) → slice_get r.slots i ≡ Some s →
    s.of ≡ Some c → part_kind g (Of (Some t)) i ≡ Some (Of (Some c))
record_part g t r i s c e f h = ap (λ o. part_of_shape o i) e ∙ ap slot_kind f ∙ ap (λ o. Some (Of o)) h

-- an ordinal value is a single one
ordinal_one : (g : Given) (t : TypeId) → SortOf g t sort.Ordinal → IsOne (class g (Of (Some t)))
ordinal_one g t e = subst IsOne (sym (class_is g t sort.Ordinal e)) tt

-- the tag of a variant part, with its slots and cells
record Tags (r : RecordShape) (slot : ℕ) (t : Tagging) : Type 0 where
  number : ℕ
  part : Part
  is : slice_get r.parts number ≡ Some part
  tag : part.tag ≡ slot
  slots : part.slots ≡ t.slots
  counts : part.cells ≡ t.cells

abbrev FoundPart : List Part → ℕ → Tagging → Type 0
FoundPart parts slot t = (i : ℕ) × (q : Part) × (slice_get parts i ≡ Some q) × (tags q slot t ≡ true)

any_part : (parts : List Part) (slot : ℕ) (t : Tagging) → list_any (λ q. tags q slot t) parts ≡ true → FoundPart parts slot t
any_part [] slot t e = absurd (let f : ⊥ = cc in f)
any_part (q ∷ parts) slot t e = by_test (any_part parts slot t) (tags q slot t) refl e
  where
    by_test : (list_any (λ q. tags q slot t) parts ≡ true → FoundPart parts slot t) → (b : Bool) → tags q slot t ≡ b → (b || list_any (λ q. tags q slot t) parts) ≡ true →
        FoundPart (q ∷ parts) slot t
    by_test rec true is e = (0, q, refl, is)
    by_test rec false is e = let x = rec e in (suc x.0, x.1, x.2, x.3)

-- what is known of a tag field
record IsTagOf (g : Given) (t : TypeId) (slot : ℕ) (x : Tagging) : Type 0 where
  fields : RecordShape
  shape_is : shape_of g.tables t ≡ Some (shape.Rec fields)
  tags : Tags fields slot x

found_tags : (r : RecordShape) (slot : ℕ) (t : Tagging) → FoundPart r.parts slot t → Tags r slot t
found_tags r slot t (i, q, is, e) =
    let p = and_parts (nat_eq q.tag slot && nat_eq q.slots t.slots) (nat_eq q.cells t.cells) e in
    let o = and_parts (nat_eq q.tag slot) (nat_eq q.slots t.slots) p.0 in
    record { number = i; part = q; is = is; tag = eqb-true q.tag slot o.0; slots = eqb-true q.slots t.slots o.1; counts = eqb-true q.cells t.cells p.1 }

tag_of : (g : Given) (t : TypeId) (slot : ℕ) (x : Tagging) → tags_in (shape_of g.tables t) slot x ≡ true → IsTagOf g t slot x
tag_of g t slot x e = by_shape (shape_of g.tables t) refl e
  where
    by_shape : (o : Option Shape) → shape_of g.tables t ≡ o → tags_in o slot x ≡ true → IsTagOf g t slot x
    by_shape (Some (shape.Rec r)) is e = record { fields = r; shape_is = is; tags = found_tags r slot x (any_part r.parts slot x e) }
    by_shape None is e = absurd (let f : ⊥ = cc in f)
    by_shape (Some (shape.Range b)) is e = absurd (let f : ⊥ = cc in f)
    by_shape (Some (shape.Names b)) is e = absurd (let f : ⊥ = cc in f)
    by_shape (Some (shape.Arr b)) is e = absurd (let f : ⊥ = cc in f)
    by_shape (Some (shape.SetOf packed b)) is e = absurd (let f : ⊥ = cc in f)
    by_shape (Some (shape.Ptr b)) is e = absurd (let f : ⊥ = cc in f)
    by_shape (Some (shape.Str b)) is e = absurd (let f : ⊥ = cc in f)
    by_shape (Some shape.Text) is e = absurd (let f : ⊥ = cc in f)

module _ {g : Given} {acts : List Activation} {reach : Reach} where
  -- a part of a variable, with the tree's offset
  pub part_is_safe : {w : World} {k q : Kind} (r : Reference) (i before : ℕ) → Spot g k w r → part_kind g k i ≡ Some q →
      (total g (part_kind g k) i ≤ CELL_LIMIT → before ≡ total g (part_kind g k) i) → Safe g w acts reach (λ u x. x ≡ part_of r i) (part r i before)
  part_is_safe {w} {k} {q} r i before s e same =
      let p : PartStandsAt g k r i = part_stands_at r i (whole_kind g k i q e) s in
      let within : offset r.type r.way + total g (part_kind g k) i ≤ CELL_LIMIT = p.within in
      let is : before ≡ total g (part_kind g k) i = same (omega arith) in
      let small : offset r.type r.way + before ≤ CELL_LIMIT = subst (λ n. offset r.type r.way + n ≤ CELL_LIMIT) (sym is) within in
      then_safe (unless_true (nat_eq (leaves_before_in (component r.type r.way) i) before) wrong
      (subst (λ n. nat_eq n before ≡ true) (sym (p.before ∙ sym is)) (nat_eq_refl before))) (λ u l x any.
      then_safe (unless_true (nat_le (offset r.type r.way + before) CELL_LIMIT) wrong (nat_le_is (offset r.type r.way + before) CELL_LIMIT small)) (λ u' l' y any.
      gives_safe (part_of r i) refl))

  pub part_safe : {w : World} {k q : Kind} (r : Reference) (i before : ℕ) → Spot g k w r → part_kind g k i ≡ Some q →
      (total g (part_kind g k) i ≤ CELL_LIMIT → before ≡ total g (part_kind g k) i) → Safe g w acts reach (Spot g q) (part r i before)
  part_safe {q} r i before s e same = weaker (part_is_safe r i before s e same) (λ u l x is. subst (Spot g q u) (sym is) (part_spot r i (spot_later l s) e))

  pub set_safe : {w : World} {k : Kind} (at : ℕ) (r : Reference) (v : Value) → Spot g k w r → Fits g k w v → MayStand w r v → Safe g w acts reach Any (set at r v)
  set_safe {k} at r v s f may = bind_safe (held_safe at r s) (λ u l old fits.
      let new = fits_later l f in
      then_safe (unless_true (alike old v) wrong (alike_is g k old v (has_shape g u k old fits.by) (has_shape g u k v new.by))) (λ u' l' x any.
      update_safe (with_changed r (λ old. v)) (λ c sane. sane_changed g u' c k r (λ old. v) sane (spot_later (then_later l l') s) (λ x h. let y = fits_later l' new in y.by)
      (λ first x e. may u' (then_later l l') sane.files first)) (λ c. refl) tt))

  pub retag_safe : {w : World} (at : ℕ) (r : Reference) (v : Value) (slots cells : ℕ) (t c : TypeId) (fields : RecordShape) (s : Slot) → Spot g (Of (Some t)) w (whole_of r) →
      shape_of g.tables t ≡ Some (shape.Rec fields) → slice_get fields.slots (number_in_whole r) ≡ Some s → s.of ≡ Some c → SortOf g c sort.Ordinal →
      PartStands g.program.form fields (number_in_whole r) slots cells → Fits g (Of (Some c)) w v → Safe g w acts reach Any (retag at r v slots cells)
  retag_safe at r v slots cells t c fields s spot e is of ordinal stands f = bind_safe (held_safe at (whole_of r) spot) (λ u l whole fits.
      let new = fits_later l f in
      let one : IsOne (class g (Of (Some c))) = ordinal_one g c ordinal in
      let part : part_kind g (Of (Some t)) (number_in_whole r) ≡ Some (Of (Some c)) = record_part g t fields (number_in_whole r) s c e is of in
      let small : kind_cells g (Of (Some t)) ≤ CELL_LIMIT = spot_small (whole_of r) spot in
      let can : can_retag (number_in_whole r) slots cells whole ≡ true = can_retag_is g t fields (number_in_whole r) s whole slots cells e is
      (subst (λ o. IsOne (class g (Of o))) (sym of) one) stands small (has_shape g u (Of (Some t)) whole fits.by) in
      then_safe (unless_true (is_scalar v && can_retag (number_in_whole r) slots cells whole) wrong
      (both (is_scalar v) (can_retag (number_in_whole r) slots cells whole) (scalar_one g (Of (Some c)) v one (has_shape g u (Of (Some c)) v new.by)) can)) (λ u' l' x any.
      update_safe (with_changed (whole_of r) (retagged (number_in_whole r) v slots))
      (λ c' sane. sane_changed g u' c' (Of (Some t)) (whole_of r) (retagged (number_in_whole r) v slots) sane (spot_later (then_later l l') spot)
      (λ y h. let x = fits_later l' new in retagged_has g u' (Of (Some t)) (number_in_whole r) (Of (Some c)) v slots tt part x.by y h)
      (λ first. absurd (no_standard_record g t fields e (at_standard (whole_of r) (spot_later (then_later l l') spot) sane.files first)))) (λ c. refl) tt))

  pub must_fit_safe : {w : World} (at : ℕ) (fit : Check) (v : Value) → CheckHas fit v → Safe g w acts reach Any (must_fit at fit v)
  must_fit_safe at (check.Range low high) v h = bind_safe {P = Any} (as_number_safe v h.0 h.1 tt) (λ u l n any. weaker (unless_fault (lies_in low high n) at 3) (λ u l v h. tt))
  must_fit_safe at (check.Members low high) v h =
      bind_safe {P = Any} (as_members_safe v h.0 h.1 tt) (λ u l n any. weaker (unless_fault (members_lie_in low high n) at 3) (λ u l v h. tt))
  must_fit_safe at check.Pointer v h = bind_safe {P = Any} (as_pointer_safe v h.0 h.1 tt) (λ u l n any. skip_safe tt)
  must_fit_safe at (check.Block cells) v h = unless_true (is_structure v && is_plain v) wrong (both (is_structure v) (is_plain v) h.0 h.1)

module _ {g : Given} {acts : List Activation} {reach : Reach} where
  pub assign_safe : {w : World} {k : Kind} (at : ℕ) (tagging : Option Tagging) (r : Reference) (v : Value) → Spot g k w r → IsTag g tagging k w r → Fits g k w v →
      all_open v ≡ true → Safe g w acts reach Any (assign at tagging r v)
  assign_safe at None r v s tag f opens = set_safe at r v s f (λ u l files first. opens)
  assign_safe {k} at (Some t) r v s tag f opens =
      bind_safe (held_safe at r s) (λ u l old h. choose_safe (same_variant t old v)
      (λ is. set_safe at r v (spot_later l s) (fits_later l f) (λ u l files first. opens))
      (λ is.
      let b = tag.0 in
      let field = tag.1 in
      let x : IsTagOf g b.record_type b.slot t = tag_of g b.record_type b.slot t tag.2 in
      let y = x.tags in
      let fits : RecordFits g.tables x.fields = g.is.records b.record_type x.fields x.shape_is in
      let slot = fits.tag y.number y.part y.is in
      let there : slice_get x.fields.slots (number_in_whole r) ≡ Some slot.0 = ap (slice_get x.fields.slots) (field.number ∙ sym y.tag) ∙ slot.2 in
      let part : part_kind g (Of (Some b.record_type)) (number_in_whole r) ≡ Some (Of (Some slot.1)) =
      record_part g b.record_type x.fields (number_in_whole r) slot.0 slot.1 x.shape_is there slot.3 in
      let one : Some k ≡ Some (Of (Some slot.1)) = sym field.part ∙ part in
      let same : k ≡ Of (Some slot.1) = cc in
      let stands : PartStands g.program.form x.fields (number_in_whole r) t.slots t.cells =
      subst (λ n. PartStands g.program.form x.fields n t.slots t.cells) (y.tag ∙ sym field.number)
      (subst (λ m. PartStands g.program.form x.fields y.part.tag m t.cells) y.slots
      (subst (PartStands g.program.form x.fields y.part.tag y.part.slots) y.counts (g.cells.parts b.record_type x.fields x.shape_is y.number y.part y.is))) in
      retag_safe at r v t.slots t.cells b.record_type slot.1 x.fields slot.0 (spot_later l field.spot) x.shape_is there slot.3 slot.4 stands
      (subst (λ k. Fits g k u v) same (fits_later l f))))

  pass_safe : {w : World} (at : ℕ) (setting : Bool) (r : Reference) (x : Guard) (t : TypeId) (fields : RecordShape) → Spot g (Of (Some t)) w r →
      shape_of g.tables t ≡ Some (shape.Rec fields) → IsGuard g fields x → GuardStands g.program.form fields x → Safe g w acts reach Any (pass at setting r x)
  pass_safe at setting r x t fields s e h stands =
      let part = record_part g t fields x.slot h.0 h.1 e h.2 h.3 in
      bind_safe (part_is_safe r x.slot x.offset s part (λ small. field_offset g t fields x.slot x.offset e stands.0 small)) (λ u0 l0 tag is.
      let there : Spot g (Of (Some h.1)) u0 tag = subst (Spot g (Of (Some h.1)) u0) (sym is) (part_spot r x.slot (spot_later l0 s) part) in
      bind_safe (held_safe at tag there) (λ u l v held.
      then_safe (unless_true (is_scalar v) wrong (scalar_one g (Of (Some h.1)) v (ordinal_one g h.1 h.4) (has_shape g u (Of (Some h.1)) v held.by))) (λ u1 l1 y any.
      choose_safe (selects v x.constants)
      (λ is. skip_safe tt)
      (λ not. choose_safe (setting && x.hidden)
      (λ sets. subst (λ r. Safe g u1 acts reach Any (retag at r (first_constant x.constants) x.slots x.cells)) (sym is)
      (retag_safe at (part_of r x.slot) (first_constant x.constants) x.slots x.cells t h.1 fields h.0 (spot_later (then_later l0 (then_later l l1)) s) e h.2 h.3 h.4 stands.1
      (record { by = constant_fits g u1 h.1 x.constants h.4 })))
      (λ not. fault_safe at 10)))))

module _ {g : Given} {acts : List Activation} {reach : Reach} where
  pub pass_all_safe : {w : World} (at : ℕ) (setting : Bool) (r : Reference) (xs : List Guard) (t : TypeId) (fields : RecordShape) → Spot g (Of (Some t)) w r →
      shape_of g.tables t ≡ Some (shape.Rec fields) → AreGuards g fields xs → GuardsStand g.program.form fields xs → Safe g w acts reach Any (pass_all at setting r xs)
  pass_all_safe at setting r [] t fields s e h k = skip_safe tt
  pass_all_safe at setting r (x ∷ xs) t fields s e h k =
      then_safe (pass_safe at setting r x t fields s e h.0 k.0) (λ u l v any. pass_all_safe at setting r xs t fields (spot_later l s) e h.1 k.1)

-- ---- pointers

abbrev object_by : Option Object → Option ℕ
object_by o = elim o as (λ o. Option ℕ) [ None ↦ None | Some x ↦ Some x.root ]

-- the variable that an object is
pub object_spot : (g : Given) (w : World) (c : Configuration) (root : ℕ) (k : Kind) → Sane g w c → w.kind root ≡ Some k →
    Spot g k w (record { root = root; way = []; type = cleared (c.roots root).value })
object_spot g w c root k sane e =
    record {
      whole = k;
      root = e;
      there = refl;
      shape = cleared_shape g k (c.roots root).value (has_shape g w k (c.roots root).value (sane.values root k e));
      small =
          sane.small root k e;
    }

module _ {g : Given} {acts : List Activation} {reach : Reach} where
  pub object_safe : {w : World} {P : World → Reference → Type 0} (at o : ℕ) (d : Option TypeId) → PointsTo w d o →
      ((i : ℕ) (x : Object) → slice_get w.objects i ≡ Some x → ((t : TypeId) → d ≡ Some t → w.kind x.root ≡ Some (Of (Some t))) → (c : Configuration) → Sane g w c → (u : World) →
      Later w u → P u (record { root = x.root; way = []; type = cleared (c.roots x.root).value })) → Safe g w acts reach P (object_of at o)
  object_safe at zero d h f = fault_safe at 7
  object_safe {w} {P} at (suc i) d h f = record {
    by = λ c sane e.
        let found : object_root c i ≡ Some h.0.root = ap (λ objects. object_by (slice_get objects i)) sane.objects ∙ ap object_by h.1 in
        (bind_safe {P = λ u r. r ≡ h.0.root} {Q = P} (needs_safe (object_root c i) h.0.root found refl)
        (λ u l root same. then_safe (unless_fault (c.roots root).live at 8) (λ u' l' v live.
        gives_safe (record { root = root; way = []; type = cleared (c.roots root).value })
        (subst (λ root. P u' (record { root = root; way = []; type = cleared (c.roots root).value })) (sym same) (f i h.0 h.1 h.2 c sane u' (then_later l l')))))).by c sane e;
  }
