-- Calls of required procedures in checked programs.
use Rattle.std.proofs.Common.{◌≡◌, ℕ, zero, suc, ◌+◌, ◌≤◌, List, [], ◌∷◌, ◌++◌, Option, Some, None, Bool, true, false, refl, sym, ap, ◌∙◌, subst, arith, eqb-true}
use Rattle.std.specs.Prelude.{if◌then◌else◌, ◌-◌, ◌&&◌, nat_eq, length, slice_get, nat_le, ℤ, pos, ◌+ℤ◌, ◌-ℤ◌, int_le, int_lt, is_none}
use Rattle.mp_base.specs.declared.limits.TheConstants.{CELL_LIMIT, WIDTH_LIMIT}
use Rattle.mp_tables.specs.declared.types.TypeId.{TypeId}
use Rattle.mp_tables.specs.declared.types.TypeId.TheVariants as type
use Rattle.mp_tables.specs.declared.types.ArrayShape.{ArrayShape}
use Rattle.mp_tables.specs.declared.types.Shape.TheVariants as shape
use Rattle.mp_tables.specs.declared.typed_expressions.Sort.TheVariants as sort
use Rattle.mp_tables.specs.declared.typed_statements.Tagging.{Tagging}
use Rattle.mp_tables.specs.declared.typed_statements.ReadSort.{ReadSort}
use Rattle.mp_tables.specs.declared.typed_statements.ReadSort.TheVariants as reads
use Rattle.mp_tables.specs.declared.typed_statements.WriteSort.{WriteSort}
use Rattle.mp_tables.specs.declared.typed_statements.WriteSort.TheVariants as writes
use Rattle.mp_tables.specs.declared.typed_statements.FileProcedure.{FileProcedure}
use Rattle.mp_tables.specs.declared.typed_statements.FileProcedure.TheVariants as procedure
use Rattle.mp_tables.specs.PlainTypedExpressions.{PlainTypedExpr, PlainTypedSelectors}
use Rattle.mp_tables.specs.PlainTypedStatements.{PlainTarget, PlainReading, PlainWriting, PlainPacking, PlainRequiredCall}
use Rattle.mp_tables.specs.PlainTypedStatements as tree
use Rattle.mp_tables.specs.Seen.{shape_of}
use Rattle.mp_tables.specs.Checked.{Selected, last_field, tags_part, sort_in, write_sort_in, IsTagField, CheckedReading, CheckedWidth, CheckedWriting, CheckedPacking, CheckedRequired, Each}
use Rattle.mp_meaning.specs.Names.{Path}
use Rattle.mp_meaning.specs.Numbers.{natural}
use Rattle.mp_files.specs.declared.causes.FileEnd.TheVariants as end
use Rattle.mp_files.specs.declared.causes.TheConstants.{WIDTH_BELOW_ONE, WIDTH_TOO_LARGE}
use Rattle.mp_files.specs.WrittenFields.{integer_field, character_field, truth_field, width_refusal, width_of}
use Rattle.mp_meaning.specs.Forms.{cells_of}
use Rattle.mp_meaning.specs.Operators.{is_true}
use Rattle.mp_meaning.specs.Values.{Reference, Value, Pointer, Structure, Values, NoValues, Then, undefined, is_structure, string_in, values_in, values_from, first_values, laid_over, is_scalar}
use Rattle.mp_meaning.specs.Configurations.{Configuration, Activation, Root, Object, live_cells, find_activation}
use Rattle.mp_tables.specs.Sizes.{saturated}
use Rattle.mp_meaning.specs.Outcomes.{wrong, ◌>>◌, update, limit, unless}
use Rattle.mp_meaning.specs.Variables.{set}
use Rattle.mp_meaning.specs.Calls.{Self}
use Rattle.mp_meaning.specs.RequiredProcedures.{must_be_width, on_file_procedure, default_width, defined_string, field, take_value, with_object, make, disposed, dispose, set_array, pack, unpack, read_all, eval_width, write_one, write_all, required}
use Rattle.mp_meaning.proofs.SoundKinds.{kind_cells, Given, Kind, Of, class_of_shape, domain_of, World, Later, then_later, Spot, spot_later, PointsTo, IfPointers, HasKind, HasParts, fits_later, IsOne, Frame}
use Rattle.mp_meaning.proofs.SoundFrames.{type_has}
use Rattle.mp_meaning.proofs.SoundOutcomes.{limit_safe, unless_true, nat_eq_refl, Sane, activations_later, Reach, Within, Sound, Safe, Any, sound_earlier, bind_safe, then_safe, gives_safe, skip_safe, fault_safe, choose_safe, unless_fault, update_safe, ActivationsFit}
use Rattle.mp_meaning.proofs.SoundVariables.{SortHas, Sorted, sorted_later, check_has, number_fits, root_cases, as_number_safe, as_pointer_safe, held_safe, must_fit_safe, set_safe, assign_safe, IsTag, field_later, object_safe}
use Rattle.mp_meaning.proofs.SoundOperators.{IsText, write_bytes_safe, write_line_safe, page_safe, put_safe, get_safe, read_line_safe, read_character_safe, read_integer_safe, reset_safe, rewrite_safe}
use Rattle.mp_meaning.proofs.SoundNumbers.{packed_within}
use Rattle.mp_meaning.proofs.SoundCalls.{context, At, at_later, SelfSafe, grown, grown_kind, grown_later, sane_grown}
use Rattle.mp_meaning.proofs.SoundExpressions.{array_kinds, array_has, array_values, Walked, eval_safe, form_safe, eval_number_safe}
use Rattle.mp_meaning.proofs.SoundCells.{scalar_one, has_shape}
use Rattle.mp_meaning.proofs.SoundFiles.{all_open, at_standard, no_standard_array}

-- ---- components of arrays

first_parts : (g : Given) (w : World) (c : TypeId) (m n : ℕ) (vs : Values) → m ≤ n → HasParts g w (array_kinds n c) vs → HasParts g w (array_kinds m c) (first_values m vs)
first_parts g w c zero n vs less h = λ i. refl
first_parts g w c (suc m) zero vs less h = absurd (let f : ⊥ = omega arith in f)
first_parts g w c (suc m) (suc n) NoValues less h = absurd (let e : Some (Of (Some c)) ≡ None = h 0 in let f : ⊥ = cc in f)
first_parts g w c (suc m) (suc n) (Then v more) less h = (h.0, h.1, h.2, first_parts g w c m n more (omega arith) h.3)

from_parts : (g : Given) (w : World) (c : TypeId) (k n r : ℕ) (vs : Values) → n ≡ k + r → HasParts g w (array_kinds n c) vs → HasParts g w (array_kinds r c) (values_from k vs)
from_parts g w c zero n r vs e h = let same : n ≡ r = omega arith in subst (λ n. HasParts g w (array_kinds n c) vs) same h
from_parts g w c (suc k) zero r vs e h = absurd (let f : ⊥ = omega arith in f)
from_parts g w c (suc k) (suc n) r NoValues e h = absurd (let e : Some (Of (Some c)) ≡ None = h 0 in let f : ⊥ = cc in f)
from_parts g w c (suc k) (suc n) r (Then v more) e h = from_parts g w c k n r more (omega arith) h.3

over_parts : (g : Given) (w : World) (c : TypeId) (i m n : ℕ) (new old : Values) → HasParts g w (array_kinds m c) new → HasParts g w (array_kinds n c) old →
    HasParts g w (array_kinds n c) (laid_over i new old)
over_parts g w c i m n new NoValues h k = k
over_parts g w c (suc i) m zero new (Then v more) h k = absurd (let e : None ≡ Some k.0 = k.1 in let f : ⊥ = cc in f)
over_parts g w c (suc i) m (suc n) new (Then v more) h k = (k.0, k.1, k.2, over_parts g w c i m n new more h k.3)
over_parts g w c zero m n NoValues (Then v more) h k = k
over_parts g w c zero zero n (Then x new) (Then v more) h k = absurd (let e : None ≡ Some h.0 = h.1 in let f : ⊥ = cc in f)
over_parts g w c zero (suc m) zero (Then x new) (Then v more) h k = absurd (let e : None ≡ Some k.0 = k.1 in let f : ⊥ = cc in f)
over_parts g w c zero (suc m) (suc n) (Then x new) (Then v more) h k = (h.0, h.1, h.2, over_parts g w c zero m n new more h.3 k.3)

-- ---- objects

slice_last : {X : Type 0} (xs : List X) (x : X) → slice_get (xs ++ x ∷ []) (length xs) ≡ Some x
slice_last [] x = refl
slice_last (y ∷ xs) x = slice_last xs x

slice_more : {X : Type 0} (xs ys : List X) (i : ℕ) (x : X) → slice_get xs i ≡ Some x → slice_get (xs ++ ys) i ≡ Some x
slice_more [] ys i x e = absurd (let f : ⊥ = cc in f)
slice_more (y ∷ xs) ys zero x e = e
slice_more (y ∷ xs) ys (suc i) x e = slice_more xs ys i x e

sane_disposed : (g : Given) (w : World) (c : Configuration) (o : Reference) → Sane g w c → Sane g w (disposed o c)
sane_disposed g w c o s = record {
  values = λ q k e. root_cases (λ x. HasKind g w k x.value) c.roots o.root (record (c.roots o.root) { live = false }) q
      (λ same. s.values o.root k (subst (λ q. w.kind q ≡ Some k) same e)) (λ differs. s.values q k e);
  fresh = s.fresh;
  objects = s.objects;
  activations = s.activations;
  files = s.files;
  small = s.small;
  typed = s.typed;
  opened = root_cases (λ x. all_open x.value ≡ true) c.roots o.root (record (c.roots o.root) { live = false }) 0
      (λ same. subst (λ n. all_open (c.roots n).value ≡ true) same s.opened) (λ differs. s.opened);
}

-- an object is no activation
no_activation : (g : Given) (w : World) (acts : List Activation) (r : ℕ) (t : TypeId) → ActivationsFit g w acts → w.kind r ≡ Some (Of (Some t)) → find_activation acts r ≡ None
no_activation g w [] r t fits e = refl
no_activation g w (a ∷ older) r t fits e = by_number (no_activation g w older r t fits.1 e) (nat_eq a.number r) refl
  where
    by_number : find_activation older r ≡ None → (b : Bool) → nat_eq a.number r ≡ b →
        (elim b as (λ is. Option Activation) [ true ↦ Some a | false ↦ find_activation older r ]) ≡ None
    by_number deeper true is =
        let same : a.number ≡ r = eqb-true a.number r is in
        let f = fits.0 in
        let there : w.kind r ≡ Some (Frame a.block older) = subst (λ n. w.kind n ≡ Some (Frame a.block older)) same f.kind in
        absurd (let f : ⊥ = cc in f)
    by_number deeper false is = deeper

slice_one : {X : Type 0} (xs : List X) (o x : X) (i : ℕ) → slice_get xs i ≡ None → slice_get (xs ++ o ∷ []) i ≡ Some x → o ≡ x
slice_one [] o x zero e f = cc
slice_one [] o x (suc i) e f = absurd (let f : ⊥ = cc in f)
slice_one (y ∷ xs) o x zero e f = absurd (let f : ⊥ = cc in f)
slice_one (y ∷ xs) o x (suc i) e f = slice_one xs o x i e f

-- the objects with one more are of types
last_typed : (g : Given) (w : World) (c : Configuration) (d : TypeId) (o : Object) → o.root ≡ c.next → Sane g w c → Later w (grown w c.next (Of (Some d)) (c.objects ++ o ∷ [])) →
    (i : ℕ) (x : Object) → slice_get (c.objects ++ o ∷ []) i ≡ Some x → (t : TypeId) × ((grown w c.next (Of (Some d)) (c.objects ++ o ∷ [])).kind x.root ≡ Some (Of (Some t)))
last_typed g w c d o root sane later i x f = by_old (slice_get c.objects i) refl
  where
    v : World
    v = grown w c.next (Of (Some d)) (c.objects ++ o ∷ [])

    by_old : (there : Option Object) → slice_get c.objects i ≡ there → (t : TypeId) × (v.kind x.root ≡ Some (Of (Some t)))
    by_old (Some y) e =
        let one : Some y ≡ Some x = sym (slice_more c.objects (o ∷ []) i y e) ∙ f in
        let same : y ≡ x = cc in
        let z = sane.typed i y (ap (λ os. slice_get os i) (sym sane.objects) ∙ e) in
        (z.0, subst (λ x. v.kind x.root ≡ Some (Of (Some z.0))) same (later.kind y.root (Of (Some z.0)) z.1))
    by_old None e =
        let same : o ≡ x = slice_one c.objects o x i e f in
        (d, subst (λ x. v.kind x.root ≡ Some (Of (Some d))) same (subst (λ n. v.kind n ≡ Some (Of (Some d))) (sym root) (grown_kind w c.next (Of (Some d)) (c.objects ++ o ∷ []))))

few_of : (n cells : ℕ) → nat_le (n + cells) CELL_LIMIT ≡ true → cells ≤ CELL_LIMIT
few_of n cells h = grind arith

exact_of : (n m : ℕ) → n ≡ saturated m → n ≤ CELL_LIMIT → n ≡ m
exact_of n m is room = omega arith

module _ {g : Given} {acts : List Activation} {reach : Reach} where
  make_sound : {w : World} (at : ℕ) (d t : TypeId) (n : ℕ) (r : Reference) (c : Configuration) → Sane g w c → c.activations ≡ acts → Spot g (Of (Some t)) w r →
      shape_of g.tables t ≡ Some (shape.Ptr (Some d)) → n ≡ saturated (cells_of (g.program.form d)) → (b : Bool) → nat_le (live_cells c + n) CELL_LIMIT ≡ b →
      Sound g w acts reach Any ((unless b (limit at 2) >> (unless (nat_eq (cells_of (g.program.form d)) n) wrong >>
      (update (with_object (g.program.form d)) >> set at r (Pointer (suc (length c.objects)))))) c)
  make_sound at d t n r c sane e s is counts false room = record { by = tt }
  make_sound {w} at d t n r c sane e s is counts true room =
      let less : n ≤ CELL_LIMIT = few_of (live_cells c) n room in
      let exact : n ≡ cells_of (g.program.form d) = exact_of n (cells_of (g.program.form d)) counts less in
      let few : kind_cells g (Of (Some d)) ≤ CELL_LIMIT = subst (λ m. m ≤ CELL_LIMIT) exact less in
      let o : Object = record { root = c.next; cells = cells_of (g.program.form d) } in
      let objects : List Object = c.objects ++ o ∷ [] in
      let v : World = grown w c.next (Of (Some d)) objects in
      let later : Later w v =
      grown_later w c.next (Of (Some d)) objects (sane.fresh c.next (omega arith)) (λ i x f. slice_more c.objects (o ∷ []) i x (ap (λ os. slice_get os i) sane.objects ∙ f)) in
      let root : Root = record { value = undefined (g.program.form d); live = true } in
      let after : Sane g v (with_object (g.program.form d) c) =
      sane_grown g w c (Of (Some d)) root objects c.activations sane later (type_has g v d) few (activations_later g c.activations later sane.activations)
      (λ i x f. last_typed g w c d o refl sane later i x f) in
      let points : PointsTo v (domain_of (shape_of g.tables t)) (suc (length c.objects)) =
      (o, slice_last c.objects o, λ u f. let same : Some d ≡ Some u = ap domain_of (sym is) ∙ f in grown_kind w c.next (Of (Some d)) objects ∙ ap (λ o. Some (Of o)) same) in
      let has : HasKind g v (Of (Some t)) (Pointer (suc (length c.objects))) =
      subst (λ k. IfPointers k (PointsTo v (domain_of (shape_of g.tables t)) (suc (length c.objects)))) (sym (ap (class_of_shape t) is)) points in
      let same : nat_eq (cells_of (g.program.form d)) n ≡ true = subst (λ m. nat_eq m n ≡ true) exact (nat_eq_refl n) in
      subst (λ b. Sound g w acts reach Any ((unless b wrong >> (update (with_object (g.program.form d)) >> set at r (Pointer (suc (length c.objects))))) c)) (sym same)
      (sound_earlier (set at r (Pointer (suc (length c.objects))) (with_object (g.program.form d) c)) later
      ((set_safe {reach = reach} at r (Pointer (suc (length c.objects))) (spot_later later s) (record { by = has }) (λ u l files first. refl)).by
      (with_object (g.program.form d) c) after e))

  make_safe : {w : World} (at : ℕ) (d t : TypeId) (n : ℕ) (r : Reference) → Spot g (Of (Some t)) w r → shape_of g.tables t ≡ Some (shape.Ptr (Some d)) →
      n ≡ saturated (cells_of (g.program.form d)) → Safe g w acts reach Any (make at (g.program.form d) n r)
  make_safe at d t n r s is counts = bind_safe (held_safe at r s) (λ u l old fits.
      then_safe (unless_true (is_scalar old) wrong (scalar_one g (Of (Some t)) old (subst IsOne (sym (ap (class_of_shape t) is)) tt) (has_shape g u (Of (Some t)) old fits.by)))
      (λ u1 l1 x any. record {
        by = λ c sane e. make_sound at d t n r c sane e (spot_later (then_later l l1) s) is counts (nat_le (live_cells c + n) CELL_LIMIT) refl;
      }))

  dispose_safe : {w : World} (at o : ℕ) → PointsTo w None o → Safe g w acts reach Any (dispose at o)
  dispose_safe at o h =
      bind_safe {P = λ u r. (t : TypeId) × (u.kind r.root ≡ Some (Of (Some t)))}
      (object_safe at o None h (λ i x is typed c sane u l. let y = sane.typed i x is in (y.0, l.kind x.root (Of (Some y.0)) y.1)))
      (λ u l r typed. record {
        by = λ c sane e.
            (then_safe {Q = Any} (unless_true (is_none (find_activation c.activations r.root)) wrong
            (ap is_none (no_activation g u c.activations r.root typed.0 sane.activations typed.1))) (λ u' l' x any.
            update_safe (disposed r) (λ c sane. sane_disposed g u' c r sane) (λ c. refl) tt)).by c sane e;
      })

  -- ---- files and fields

  file_procedure_safe : {w : World} (at : ℕ) (f : FileProcedure) (r : Reference) → IsText g w r → Safe g w acts reach Any (on_file_procedure at f r)
  file_procedure_safe at procedure.Reset r s = reset_safe at r s
  file_procedure_safe at procedure.Rewrite r s = rewrite_safe at r s
  file_procedure_safe at procedure.Get r s = get_safe at r s
  file_procedure_safe at procedure.Put r s = put_safe at r s
  file_procedure_safe at procedure.Page r s = page_safe at r s

  string_safe : {w : World} (at : ℕ) (bytes : Option (List ℕ)) → Safe g w acts reach Any (defined_string at bytes)
  string_safe at None = fault_safe at 9
  string_safe at (Some bytes) = gives_safe bytes tt

  must_be_width_safe : {w : World} (at : ℕ) (width : ℤ) → Safe g w acts reach Any (must_be_width at (width_refusal width))
  must_be_width_safe {w = w} at width = by_tests (int_lt width (pos 1)) (int_lt (pos WIDTH_LIMIT) width)
    where
      by_tests : (small large : Bool) → Safe g w acts reach Any
          (must_be_width at (if small then Some (end.Fault WIDTH_BELOW_ONE) else if large then Some (end.Limit WIDTH_TOO_LARGE) else None))
      by_tests true large = fault_safe at WIDTH_BELOW_ONE
      by_tests false true = limit_safe at WIDTH_TOO_LARGE
      by_tests false false = skip_safe tt

  field_safe : {w : World} (at : ℕ) (of : WriteSort) (v : Value) → SortHas w (write_sort_in of) v → Safe g w acts reach Any (field at of v)
  field_safe at writes.Integer v s = bind_safe {P = Any} (as_number_safe v s.0 s.1 tt) (λ u l n any. gives_safe (λ width. integer_field width n) tt)
  field_safe at writes.Char v s = bind_safe {P = Any} (as_number_safe v s.0 s.1 tt) (λ u l n any. gives_safe (λ width. character_field width (natural n ∷ [])) tt)
  field_safe at writes.Boolean v s = bind_safe {P = Any} (as_number_safe v s.0 s.1 tt) (λ u l n any. gives_safe (λ width. truth_field width (is_true n)) tt)
  field_safe at (writes.Text count) v s = then_safe (unless_true (is_structure v) wrong s.0)
      (λ u0 l0 y any. bind_safe (string_safe at (string_in v)) (λ u l bytes any. gives_safe (λ width. character_field width bytes) tt))

  take_safe : {w : World} (at : ℕ) (of : ReadSort) (file : Reference) → IsText g w file → Safe g w acts reach (Sorted sort.Ordinal) (take_value at of file)
  take_safe at reads.Integer file s = read_integer_safe at file s
  take_safe at reads.Char file s = read_character_safe at file s

-- a target that is formed
pub tag_is : {g : Given} {w : World} {u : TypeId} {r : Reference} (t : TypeId) (tagging : Option Tagging) (steps : PlainTypedSelectors) → IsTagField g.tables t tagging steps →
    Walked g u (last_field g.tables None (Some t) steps) w r → IsTag g tagging (Of (Some u)) w r
tag_is t None steps e walked = tt
tag_is {g} {w} {u} {r} t (Some x) steps e walked = by_last (last_field g.tables None (Some t) steps) e walked
  where
    by_last : (o : Option Selected) → tags_part g.tables o x ≡ true → Walked g u o w r → IsTag g (Some x) (Of (Some u)) w r
    by_last None e walked = absurd (let f : ⊥ = cc in f)
    by_last (Some b) e walked = (b, walked.field b refl, e)

pub tag_later : (g : Given) (k : Kind) {w u : World} (r : Reference) (tagging : Option Tagging) → Later w u → IsTag g tagging k w r → IsTag g tagging k u r
tag_later g k r None l h = tt
tag_later g k r (Some t) l h = (h.0, field_later l h.1, h.2)

-- ---- the calls

module _ (g : Given) (self : Self) (good : SelfSafe g self) (acts : List Activation) (path : Path) (ts : List TypeId) (labels : List ℕ) (opened : List Reference) (at : ℕ) where
  read_all_safe : {w : World} (file : Reference) (readings : List PlainReading) → At g w acts path ts opened → IsText g w file →
      Each (CheckedReading (context g path ts labels)) readings → Safe g w acts (Within labels) Any (read_all g.program self opened at file readings)
  read_all_safe file [] h s c = skip_safe tt
  read_all_safe file (r ∷ more) h s c =
      let k = c.0 in
      bind_safe (form_safe g self good acts path ts labels opened at true r.target.access k.of h k.leads) (λ a la target walked.
      bind_safe (take_safe at r.of file (spot_later la s)) (λ b lb v sorted.
      then_safe (must_fit_safe at r.target.check v (check_has g b k.of sort.Ordinal r.target.check v k.sorted k.tested sorted.by)) (λ d ld x any.
      let n = sorted.by in
      let fits : HasKind g d (Of (Some k.of)) v = subst (HasKind g d (Of (Some k.of))) (sym n.1) (number_fits g d k.of n.0 k.sorted) in
      then_safe (assign_safe at r.target.tagging target v (spot_later (then_later lb ld) walked.spot)
      (tag_later g (Of (Some k.of)) target r.target.tagging (then_later lb ld) (tag_is k.leads.0 r.target.tagging r.target.access.selectors k.tagged walked))
      (record { by = fits }) (ap all_open n.1)) (λ q lq y any.
      read_all_safe file more (at_later (then_later (then_later la lb) (then_later ld lq)) h) (spot_later (then_later (then_later la lb) (then_later ld lq)) s) c.1))))

  width_safe : {w : World} (of : WriteSort) (width : Option PlainTypedExpr) → At g w acts path ts opened → CheckedWidth (context g path ts labels) width →
      Safe g w acts (Within labels) Any (eval_width g.program self opened at of width)
  width_safe of None h c = gives_safe (default_width of) tt
  width_safe of (Some e) h c = eval_number_safe g self good acts path ts labels opened at e h c

  write_one_safe : {w : World} (file : Reference) (x : PlainWriting) → At g w acts path ts opened → IsText g w file → CheckedWriting (context g path ts labels) x →
      Safe g w acts (Within labels) Any (write_one g.program self opened at file x)
  write_one_safe file x h s c =
      bind_safe (eval_safe g self good acts path ts labels opened at x.value h c.0) (λ a la v worth.
      bind_safe (width_safe x.of x.width (at_later la h) c.2) (λ b lb width any.
      bind_safe (field_safe at x.of v (let later = sorted_later {s = sort_in x.value} lb (record { by = worth.sorted }) in subst (λ s. SortHas b s v) c.1 later.by))
      (λ d ld bytes any.
      then_safe (must_be_width_safe at width) (λ p lp y so.
      write_bytes_safe at file (bytes (width_of width)) (spot_later (then_later (then_later la lb) (then_later ld lp)) s)))))

  write_all_safe : {w : World} (file : Reference) (writings : List PlainWriting) → At g w acts path ts opened → IsText g w file →
      Each (CheckedWriting (context g path ts labels)) writings → Safe g w acts (Within labels) Any (write_all g.program self opened at file writings)
  write_all_safe file [] h s c = skip_safe tt
  write_all_safe file (x ∷ more) h s c = then_safe (write_one_safe file x h s c.0) (λ u l v any. write_all_safe file more (at_later l h) (spot_later l s) c.1)

  -- no standard file is an array, so an array is set as any variable is
  set_array_safe : {w : World} (r : Reference) (vs : Values) (t : TypeId) (a : ArrayShape) → shape_of g.tables t ≡ Some (shape.Arr a) → Spot g (Of (Some t)) w r →
      Safe g w acts (Within labels) Any (set at r (Structure vs)) → Safe g w acts (Within labels) Any (set_array at r vs)
  set_array_safe r vs t a is spot safe = record {
    by = λ c sane e. (choose_safe (nat_eq r.root 0) (λ standard. absurd (no_standard_array g t a is (at_standard r spot sane.files (eqb-true r.root 0 standard))))
        (λ own. safe)).by c sane e;
  }

  pack_safe : {w : World} (p : PlainPacking) (a z : Reference) (i : ℤ) (k : CheckedPacking (context g path ts labels) p) → Spot g (Of (Some k.unpacked)) w a →
      Spot g (Of (Some k.packed)) w z → Safe g w acts (Within labels) Any (pack at p a z i)
  pack_safe p a z i k sa sz =
      then_safe (unless_fault (int_le p.low i && int_le (i +ℤ pos p.count -ℤ pos 1) p.high) at 4) (λ b lb x so.
      bind_safe (held_safe at a (spot_later lb sa)) (λ d ld v fits.
      let s = array_values g d path ts labels k.unpacked p.low p.high p.size k.component v k.first fits.by in
      let low = k.count.0 in let high = k.count.1 in
      let n : ℕ = natural (p.high -ℤ p.low +ℤ pos 1) in
      let first : ℕ = natural (i -ℤ p.low) in
      let enough : first + p.count ≤ n = packed_within p.low p.high i p.count so in
      let from : HasParts g d (array_kinds (n - first) k.component) (values_from first (values_in v)) =
      subst (λ v. HasParts g d (array_kinds (n - first) k.component) (values_from first (values_in v))) (sym s.is)
      (from_parts g d k.component first n (n - first) s.values (omega arith) s.parts) in
      let parts : HasParts g d (array_kinds p.count k.component) (first_values p.count (values_from first (values_in v))) =
      first_parts g d k.component p.count (n - first) (values_from first (values_in v)) (omega arith) from in
      set_array_safe z (first_values p.count (values_from first (values_in v))) k.packed k.count.2.array k.count.2.shape (spot_later (then_later lb ld) sz)
      (set_safe at z (Structure (first_values p.count (values_from first (values_in v)))) (spot_later (then_later lb ld) sz)
      (record {
        by = array_has g d path ts labels k.packed low high p.size k.component (first_values p.count (values_from first (values_in v))) k.count.2
            (subst (λ m. HasParts g d (array_kinds m k.component) (first_values p.count (values_from first (values_in v)))) (ap natural k.count.3) parts);
      })
      (λ u l files first. let shape =
      k.count.2 in absurd (no_standard_array g k.packed shape.array shape.shape (at_standard z (spot_later (then_later (then_later lb ld) l) sz) files first))))))

  unpack_safe : {w : World} (p : PlainPacking) (a z : Reference) (i : ℤ) (k : CheckedPacking (context g path ts labels) p) → Spot g (Of (Some k.unpacked)) w a →
      Spot g (Of (Some k.packed)) w z → Safe g w acts (Within labels) Any (unpack at p a z i)
  unpack_safe p a z i k sa sz =
      let low = k.count.0 in let high = k.count.1 in
      let n : ℕ = natural (p.high -ℤ p.low +ℤ pos 1) in
      let m : ℕ = natural (high -ℤ low +ℤ pos 1) in
      let first : ℕ = natural (i -ℤ p.low) in
      then_safe (unless_fault (int_le p.low i && int_le (i +ℤ pos p.count -ℤ pos 1) p.high) at 4) (λ b lb x so.
      bind_safe (held_safe at z (spot_later lb sz)) (λ d ld v fits.
      bind_safe (held_safe at a (spot_later (then_later lb ld) sa)) (λ q lq old held.
      let later = fits_later lq fits in
      let new = array_values g q path ts labels k.packed low high p.size k.component v k.count.2 later.by in
      let before = array_values g q path ts labels k.unpacked p.low p.high p.size k.component old k.first held.by in
      set_array_safe a (laid_over first (values_in v) (values_in old)) k.unpacked k.first.array k.first.shape (spot_later (then_later (then_later lb ld) lq) sa)
      (set_safe at a (Structure (laid_over first (values_in v) (values_in old))) (spot_later (then_later (then_later lb ld) lq) sa) (record {
        by = array_has g q path ts labels k.unpacked p.low p.high p.size k.component (laid_over first (values_in v) (values_in old)) k.first
            (subst (λ v. HasParts g q (array_kinds n k.component) (laid_over first (values_in v) (values_in old))) (sym new.is)
            (subst (λ old. HasParts g q (array_kinds n k.component) (laid_over first new.values (values_in old))) (sym before.is)
            (over_parts g q k.component first m n new.values before.values new.parts before.parts)));
      })
      (λ u l files first. absurd (no_standard_array g k.unpacked k.first.array k.first.shape
      (at_standard a (spot_later (then_later (then_later (then_later lb ld) lq) l) sa) files first)))))))

  pub required_safe : {w : World} (call : PlainRequiredCall) → At g w acts path ts opened → CheckedRequired (context g path ts labels) call →
      Safe g w acts (Within labels) Any (required g.program self opened at call)
  required_safe (tree.File f access) h c =
      bind_safe (form_safe g self good acts path ts labels opened at false access type.Text h c) (λ u l file walked. file_procedure_safe at f file walked.spot)
  required_safe (tree.Read line access readings) h c =
      bind_safe (form_safe g self good acts path ts labels opened at false access type.Text h c.0) (λ u l file walked.
      then_safe (read_all_safe file readings (at_later l h) walked.spot c.1)
      (λ a la v any. choose_safe line (λ is. read_line_safe at file (spot_later la walked.spot)) (λ is. skip_safe tt)))
  required_safe (tree.Write line access writings) h c =
      bind_safe (form_safe g self good acts path ts labels opened at false access type.Text h c.0) (λ u l file walked.
      then_safe (write_all_safe file writings (at_later l h) walked.spot c.1)
      (λ a la v any. choose_safe line (λ is. write_line_safe at file (spot_later la walked.spot)) (λ is. skip_safe tt)))
  required_safe (tree.New access domain cells) h c =
      bind_safe (form_safe g self good acts path ts labels opened at false access c.0 h c.1)
      (λ u l r walked. make_safe at domain c.0 cells r walked.spot c.2 (sym c.5 ∙ g.types.cells domain c.3 c.4))
  required_safe (tree.Dispose e) h c =
      bind_safe (eval_safe g self good acts path ts labels opened at e h c.0) (λ u l v worth.
      let s : SortHas u sort.Pointer v = subst (λ s. SortHas u s v) c.1 worth.sorted in
      bind_safe {P = λ u o. PointsTo u None o} (as_pointer_safe v s.0 s.1 s.2) (λ a la o points. dispose_safe at o points))
  required_safe (tree.Pack p) h k =
      bind_safe (form_safe g self good acts path ts labels opened at false p.unpacked k.unpacked h k.leads.0) (λ u l a sa.
      bind_safe (eval_number_safe g self good acts path ts labels opened at p.index (at_later l h) k.index) (λ b lb i any.
      bind_safe (form_safe g self good acts path ts labels opened at false p.packed k.packed (at_later (then_later l lb) h) k.leads.1) (λ d ld z sz.
      pack_safe p a z i k (spot_later (then_later lb ld) sa.spot) sz.spot)))
  required_safe (tree.Unpack p) h k =
      bind_safe (form_safe g self good acts path ts labels opened at false p.packed k.packed h k.leads.1) (λ u l z sz.
      bind_safe (form_safe g self good acts path ts labels opened at false p.unpacked k.unpacked (at_later l h) k.leads.0) (λ b lb a sa.
      bind_safe (eval_number_safe g self good acts path ts labels opened at p.index (at_later (then_later l lb) h) k.index) (λ d ld i any.
      unpack_safe p a z i k (spot_later ld sa.spot) (spot_later (then_later lb ld) sz.spot))))
