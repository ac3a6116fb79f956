-- Reading, setting and writing variables and files.
use Rattle.std.proofs.Common.{◌≡◌, ℕ, zero, suc, List, [], ◌∷◌, Option, Some, None, Bool, true, false, refl, sym, ap, ◌∙◌, subst, arith, eqb-true}
use Rattle.std.proofs.lemmas.Bool.{and_parts}
use Rattle.mp_tables.proofs.CleanLemmas.{some_inj}
use Rattle.std.specs.Prelude.{◌&&◌, ◌||◌, length, nat_eq, bytes_eq, ℤ, pos, ◌+ℤ◌, ◌-ℤ◌, ◌*ℤ◌, neg_ℤ, nat_le, ◌+◌, int_lt, int_div}
use Rattle.std.specs.Int.{int_rem_euclid}
use Rattle.mp_base.specs.declared.limits.TheConstants.{CELL_LIMIT}
use Rattle.mp_ast.specs.declared.leaves.SignKind.{SignKind}
use Rattle.mp_ast.specs.declared.leaves.SignKind.TheVariants as sign
use Rattle.mp_tables.specs.declared.typed_expressions.Check.{Check}
use Rattle.mp_tables.specs.declared.typed_expressions.Check.TheVariants as check
use Rattle.mp_tables.specs.declared.typed_expressions.Guard.{Guard}
use Rattle.mp_tables.specs.declared.typed_expressions.Sort.{Sort}
use Rattle.mp_tables.specs.declared.typed_expressions.Sort.TheVariants as sort
use Rattle.mp_tables.specs.declared.typed_expressions.TypedOperator.{TypedOperator}
use Rattle.mp_tables.specs.declared.typed_expressions.TypedOperator.TheVariants as operator
use Rattle.mp_tables.specs.declared.typed_expressions.Comparison.{Comparison}
use Rattle.mp_tables.specs.declared.typed_expressions.OrdinalFunction.{OrdinalFunction}
use Rattle.mp_tables.specs.declared.typed_expressions.OrdinalFunction.TheVariants as function
use Rattle.mp_tables.specs.declared.typed_statements.Tagging.{Tagging}
use Rattle.mp_meaning.specs.Numbers.{members_lie_in, maxint, least_integer, lies_in, same_number, natural, is_odd}
use Rattle.mp_files.specs.declared.items.Item.{Item}
use Rattle.mp_files.specs.declared.items.Item.TheVariants.{LineEnd}
use Rattle.mp_files.specs.Items.{characters}
use Rattle.mp_files.specs.TextFiles.{TextFile, FileCall, Gives, Fails, at_item, in_writing, write_items, page_items, shown}
use Rattle.mp_files.specs.TextFiles as text
use Rattle.mp_meaning.specs.Values.{changed, Reference, Value, Undefined, Number, Members, Pointer, Routine, Refers, File, Structure, cleared, is_scalar, is_structure, is_plain, alike, can_retag, component, string_in, part_of, whole_of, number_in_whole, retagged, selects}
use Rattle.mp_meaning.specs.Leaves.{leaves_before_in, offset}
use Rattle.mp_meaning.specs.Configurations.{Configuration, Root, find_activation}
use Rattle.mp_meaning.specs.Outcomes.{Outcome, Done, Jump, Fault, Limit, Hole, Paused, Spent, Wrong, Action, bind, ◌>>◌, skip, fault, wrong, needs, unless}
use Rattle.mp_meaning.specs.Variables.{as_number, with_number, as_members, as_pointer, as_reference, as_file, defined, must_live, held, read, part, as_live_routine, as_scalar, retag, with_changed, set, must_fit, assign, select, pass, pass_all, object_of, same_variant, first_constant, object_root}
use Rattle.mp_meaning.specs.Operators.{integer, boolean, on_numbers, on_sets, operate, with_sign, compare, compare_strings, with_member, with_members, value_if, apply, is_true, holds, comes_before, compare_numbers, compare_sets, compare_pointers}
use Rattle.mp_meaning.specs.FileCalls.{file_at, file_of, buffer_of, answer, ask, result, buffer_value, on_file, renew_buffer, charge, must_write, write_to, write_bytes, write_line, page, put, get, read_line, read_character, read_integer, begin_file, reset, rewrite, is_open}
use Rattle.mp_meaning.specs.Names.{Path}
use Rattle.mp_meaning.proofs.GrowthValues.{Grown, grown_itself, grown_plain, grown_changed, NoTags, tags_of_component, retagged_grown, FileGrows, get_grows, read_line_grows, read_number_grows, write_grows}
use Rattle.mp_meaning.proofs.SteadyOutcomes.{Upright, Further, Goes, tags_further, SteadyAt, Steady, bind_at, then_at, bind_with, then_with, bind_steady, then_steady, gives_steady, skip_steady, now_steady, fault_steady, limit_steady, wrong_steady, needs_steady, update_at, update_steady, choose_at, choose_steady, unless_steady, tested_at}

-- what is held is that of a live root, in its form
pub held_is : (at : ℕ) (r : Reference) (c : Configuration) (v : Value) (d : Configuration) → held at r c ≡ Done v d → (d ≡ c) × (component (c.roots r.root).value r.way ≡ Some v)
held_is at r c v d e = by_live (c.roots r.root).live e
  where
    by_found : (o : Option Value) → component (c.roots r.root).value r.way ≡ o → needs o c ≡ Done v d → (d ≡ c) × (component (c.roots r.root).value r.way ≡ Some v)
    by_found None f e = absurd (let f : ⊥ = cc in f)
    by_found (Some x) f e = let same : x ≡ v = cc in (cc, f ∙ ap Some same)

    by_alike : (b : Bool) → bind (unless b wrong c) (λ u c2. needs (component (c.roots r.root).value r.way) c2) ≡ Done v d → (d ≡ c) ×
        (component (c.roots r.root).value r.way ≡ Some v)
    by_alike true e = by_found (component (c.roots r.root).value r.way) refl e
    by_alike false e = absurd (let f : ⊥ = cc in f)

    by_live : (b : Bool) → bind (unless b (fault at 8) c) (λ u c2. bind (unless (alike r.type (c2.roots r.root).value) wrong c2)
        (λ u c3. needs (component (c2.roots r.root).value r.way) c3)) ≡ Done v d →
        (d ≡ c) × (component (c.roots r.root).value r.way ≡ Some v)
    by_live true e = by_alike (alike r.type (c.roots r.root).value) e
    by_live false e = absurd (let f : ⊥ = cc in f)

-- a component that is changed: in the standard files it has to grow
changed_grown : (c : Configuration) (r : Reference) (old : Value) (change : Value → Value) → component (c.roots r.root).value r.way ≡ Some old →
    (r.root ≡ 0 → Grown old (change old)) → Grown (c.roots 0).value ((with_changed r change c).roots 0).value
changed_grown c r old change e g = by (nat_eq 0 r.root) refl
  where
    by : (b : Bool) → nat_eq 0 r.root ≡ b → Grown (c.roots 0).value
        (elim b as (λ is. Root) [ true ↦ record (c.roots r.root) { value = changed (c.roots r.root).value r.way change } | false ↦ c.roots 0 ]).value
    by true h =
        let standard : 0 ≡ r.root = eqb-true 0 r.root h in
        subst (λ q. Grown (c.roots q).value (changed (c.roots r.root).value r.way change)) (sym standard)
        (grown_changed (c.roots r.root).value r.way old change e (g (sym standard)))
    by false h = grown_itself (c.roots 0).value

changed_goes : (c : Configuration) (r : Reference) (old : Value) (change : Value → Value) → component (c.roots r.root).value r.way ≡ Some old →
    (r.root ≡ 0 → Grown old (change old)) → Upright c → Goes c (with_changed r change c)
changed_goes c r old change e g up =
    let further : Further c (with_changed r change c) = record { next = omega arith; output = changed_grown c r old change e g } in
    (record { in_order = up.in_order; some = up.some; left = up.left; tags = tags_further c (with_changed r change c) further up.tags }, further)

-- a value that passed the test has no files
number_plain : {B : Type 0} (v : Value) (c : Configuration) (go : ℤ → Configuration → Outcome B) (u : B) (d : Configuration) → bind (as_number v c) go ≡ Done u d →
    is_plain v ≡ true
number_plain (Number n) c go u d e = refl
number_plain Undefined c go u d e = refl
number_plain (Members set) c go u d e = refl
number_plain (Pointer o) c go u d e = refl
number_plain (Routine path parent) c go u d e = absurd (let f : ⊥ = cc in f)
number_plain (Refers root way type) c go u d e = absurd (let f : ⊥ = cc in f)
number_plain (File f) c go u d e = absurd (let f : ⊥ = cc in f)
number_plain (Structure vs) c go u d e = absurd (let f : ⊥ = cc in f)

members_plain : {B : Type 0} (v : Value) (c : Configuration) (go : List ℕ → Configuration → Outcome B) (u : B) (d : Configuration) → bind (as_members v c) go ≡ Done u d →
    is_plain v ≡ true
members_plain (Number n) c go u d e = refl
members_plain Undefined c go u d e = refl
members_plain (Members set) c go u d e = refl
members_plain (Pointer o) c go u d e = refl
members_plain (Routine path parent) c go u d e = absurd (let f : ⊥ = cc in f)
members_plain (Refers root way type) c go u d e = absurd (let f : ⊥ = cc in f)
members_plain (File f) c go u d e = absurd (let f : ⊥ = cc in f)
members_plain (Structure vs) c go u d e = absurd (let f : ⊥ = cc in f)

pointer_plain : {B : Type 0} (v : Value) (c : Configuration) (go : ℕ → Configuration → Outcome B) (u : B) (d : Configuration) → bind (as_pointer v c) go ≡ Done u d →
    is_plain v ≡ true
pointer_plain (Number n) c go u d e = refl
pointer_plain Undefined c go u d e = refl
pointer_plain (Members set) c go u d e = refl
pointer_plain (Pointer o) c go u d e = refl
pointer_plain (Routine path parent) c go u d e = absurd (let f : ⊥ = cc in f)
pointer_plain (Refers root way type) c go u d e = absurd (let f : ⊥ = cc in f)
pointer_plain (File f) c go u d e = absurd (let f : ⊥ = cc in f)
pointer_plain (Structure vs) c go u d e = absurd (let f : ⊥ = cc in f)

fits_plain : (at : ℕ) (fit : Check) (v : Value) (c : Configuration) (u : Unit {0}) (d : Configuration) → must_fit at fit v c ≡ Done u d → is_plain v ≡ true
fits_plain at (check.Range low high) v c u d e = number_plain v c (λ n. unless (lies_in low high n) (fault at 3)) u d e
fits_plain at (check.Members low high) v c u d e = members_plain v c (λ n. unless (members_lie_in low high n) (fault at 3)) u d e
fits_plain at check.Pointer v c u d e = pointer_plain v c (λ n. skip) u d e
fits_plain at (check.Block cells) v c u d e = by (is_structure v && is_plain v) refl e
  where
    by : (b : Bool) → (is_structure v && is_plain v) ≡ b → unless b wrong c ≡ Done u d → is_plain v ≡ true
    by true h e = (and_parts (is_structure v) (is_plain v) h).1
    by false h e = absurd (let f : ⊥ = cc in f)

as_file_is : (v : Value) (c : Configuration) (f : TextFile) (d : Configuration) → as_file v c ≡ Done f d → (d ≡ c) × (v ≡ File f)
as_file_is (File g) c f d e = let same : g ≡ f = cc in (cc, ap File same)
as_file_is Undefined c f d e = absurd (let f : ⊥ = cc in f)
as_file_is (Number n) c f d e = absurd (let f : ⊥ = cc in f)
as_file_is (Members set) c f d e = absurd (let f : ⊥ = cc in f)
as_file_is (Pointer o) c f d e = absurd (let f : ⊥ = cc in f)
as_file_is (Routine path parent) c f d e = absurd (let f : ⊥ = cc in f)
as_file_is (Refers root way type) c f d e = absurd (let f : ⊥ = cc in f)
as_file_is (Structure vs) c f d e = absurd (let f : ⊥ = cc in f)

file_at_is : (at : ℕ) (r : Reference) (c : Configuration) (f : TextFile) (d : Configuration) → file_at at r c ≡ Done f d → (d ≡ c) ×
    (component (c.roots r.root).value (file_of r).way ≡ Some (File f))
file_at_is at r c f d e = by (held at (file_of r) c) refl e
  where
    by : (o : Outcome Value) → held at (file_of r) c ≡ o → bind o as_file ≡ Done f d → (d ≡ c) × (component (c.roots r.root).value (file_of r).way ≡ Some (File f))
    by (Done v b) h e = let x = held_is at (file_of r) c v b h in let y = as_file_is v b f d e in (y.0 ∙ x.0, x.1 ∙ ap Some y.1)
    by (Jump l a b) h e = absurd (let f : ⊥ = cc in f)
    by (Fault n a b) h e = absurd (let f : ⊥ = cc in f)
    by (Limit n a b) h e = absurd (let f : ⊥ = cc in f)
    by (Hole p a b) h e = absurd (let f : ⊥ = cc in f)
    by (Paused b) h e = absurd (let f : ⊥ = cc in f)
    by Spent h e = absurd (let f : ⊥ = cc in f)
    by Wrong h e = absurd (let f : ⊥ = cc in f)

buffer_plain : (b : Option ℕ) → is_plain (buffer_value b) ≡ true
buffer_plain None = refl
buffer_plain (Some n) = refl

pub not_zero : (n : ℕ) → nat_eq n 0 ≡ false → n ≡ 0 → ⊥
not_zero n e standard = let wrong : nat_eq 0 0 ≡ false = subst (λ n. nat_eq n 0 ≡ false) standard e in let f : ⊥ = cc in f

module _ {closed : Path → Bool} where
  -- ---- what a value is

  pub number_steady : (v : Value) → Steady closed (as_number v)
  number_steady (Number n) = gives_steady n
  number_steady _ = wrong_steady

  pub with_number_steady : {A : Type 0} {value : Action Value} {go : ℤ → Action A} → Steady closed value → ((n : ℤ) → Steady closed (go n)) → Steady closed (with_number value go)
  with_number_steady f g = bind_steady f (λ v. bind_steady (number_steady v) (λ n. g n))

  pub members_steady : (v : Value) → Steady closed (as_members v)
  members_steady (Members set) = gives_steady set
  members_steady _ = wrong_steady

  pub pointer_steady : (v : Value) → Steady closed (as_pointer v)
  pointer_steady (Pointer object) = gives_steady object
  pointer_steady _ = wrong_steady

  pub reference_steady : (v : Value) → Steady closed (as_reference v)
  reference_steady (Refers root way type) = gives_steady _
  reference_steady _ = wrong_steady

  pub file_steady : (v : Value) → Steady closed (as_file v)
  file_steady (File f) = gives_steady f
  file_steady _ = wrong_steady

  pub defined_steady : (at : ℕ) (v : Value) → Steady closed (defined at v)
  defined_steady at Undefined = fault_steady at 9
  defined_steady at v = gives_steady v

  pub routine_value_steady : (v : Value) → Steady closed (as_live_routine v)
  routine_value_steady (Routine path parent) =
      now_steady (λ more c. refl) (λ c. bind_steady (needs_steady (find_activation c.activations parent)) (λ a. gives_steady (Routine path parent)))
  routine_value_steady _ = wrong_steady

  pub scalar_steady : (v : Value) → Steady closed (as_scalar v)
  scalar_steady (Number n) = gives_steady (Number n)
  scalar_steady (Members set) = gives_steady (Members set)
  scalar_steady (Pointer object) = gives_steady (Pointer object)
  scalar_steady _ = wrong_steady

  -- ---- variables

  pub must_live_steady : (at : ℕ) (r : Reference) → Steady closed (must_live at r)
  must_live_steady at r = now_steady (λ more c. refl) (λ c. unless_steady _ (fault_steady at 8))

  pub held_steady : (at : ℕ) (r : Reference) → Steady closed (held at r)
  held_steady at r =
      then_steady (must_live_steady at r) (now_steady (λ more c. refl) (λ c. then_steady (unless_steady (alike r.type (c.roots r.root).value) wrong_steady) (needs_steady _)))

  pub part_steady : (r : Reference) (i before : ℕ) → Steady closed (part r i before)
  part_steady r i before =
      then_steady (unless_steady (nat_eq (leaves_before_in (component r.type r.way) i) before) wrong_steady)
      (then_steady (unless_steady (nat_le (offset r.type r.way + before) CELL_LIMIT) wrong_steady) (gives_steady (part_of r i)))

  pub read_steady : (at : ℕ) (r : Reference) → Steady closed (read at r)
  read_steady at r = bind_steady (held_steady at r) (λ v. defined_steady at v)

  pub set_at : (at : ℕ) (r : Reference) (v : Value) (c : Configuration) →
      ((old : Value) → component (c.roots r.root).value r.way ≡ Some old → r.root ≡ 0 → alike old v ≡ true → Grown old v) → SteadyAt closed c (set at r v)
  set_at at r v c g = bind_at c ((held_steady at r).by c) (λ b old d same acts e.
      let h = held_is at r b old d e in
      let roots : d.roots ≡ c.roots = ap (λ d. d.roots) h.0 ∙ same in
      let here : component (c.roots r.root).value r.way ≡ Some old = subst (λ roots. component (roots r.root).value r.way ≡ Some old) same h.1 in
      let there : component (d.roots r.root).value r.way ≡ Some old = subst (λ roots. component (roots r.root).value r.way ≡ Some old) (sym roots) here in
      tested_at (alike old v) d (λ form. update_at (with_changed r (λ old. v)) d (λ more. refl) (changed_goes d r old (λ old. v) there (λ standard. g old here standard form))))

  -- a value without files
  pub set_steady : (at : ℕ) (r : Reference) (v : Value) → is_plain v ≡ true → Steady closed (set at r v)
  set_steady at r v plain = record { by = λ c. set_at at r v c (λ old e standard form. grown_plain old v form plain) }

  retag_steady : (at : ℕ) (r : Reference) (v : Value) (slots cells : ℕ) → Steady closed (retag at r v slots cells)
  retag_steady at r v slots cells = bind_with (held_steady at (whole_of r)) (λ b whole d e.
      let h = held_is at (whole_of r) b whole d e in
      let there : component (d.roots r.root).value (whole_of r).way ≡ Some whole = subst (λ d. component (d.roots r.root).value (whole_of r).way ≡ Some whole) (sym h.0) h.1 in
      tested_at (is_scalar v && can_retag (number_in_whole r) slots cells whole) d (λ may.
      let p = and_parts (is_scalar v) (can_retag (number_in_whole r) slots cells whole) may in
      update_at (with_changed (whole_of r) (retagged (number_in_whole r) v slots)) d (λ more. refl) (λ up.
      changed_goes d (whole_of r) whole (retagged (number_in_whole r) v slots) there
      (λ standard. retagged_grown (number_in_whole r) v slots cells whole
      (tags_of_component (d.roots r.root).value (whole_of r).way whole (subst (λ q. NoTags (d.roots q).value) (sym standard) up.tags) there) p.0 p.1) up)))

  pub must_fit_steady : (at : ℕ) (fit : Check) (v : Value) → Steady closed (must_fit at fit v)
  must_fit_steady at (check.Range low high) v = bind_steady (number_steady v) (λ n. unless_steady _ (fault_steady at 3))
  must_fit_steady at (check.Members low high) v = bind_steady (members_steady v) (λ n. unless_steady _ (fault_steady at 3))
  must_fit_steady at check.Pointer v = bind_steady (pointer_steady v) (λ n. skip_steady)
  must_fit_steady at (check.Block cells) v = unless_steady (is_structure v && is_plain v) wrong_steady

  pub fits_then : {A : Type 0} (at : ℕ) (fit : Check) (v : Value) {o : Action A} → (is_plain v ≡ true → Steady closed o) → Steady closed (must_fit at fit v >> o)
  fits_then at fit v f = then_with (must_fit_steady at fit v) (λ c u d e. (f (fits_plain at fit v c u d e)).by d)

  pub assign_steady : (at : ℕ) (tagging : Option Tagging) (r : Reference) (v : Value) → is_plain v ≡ true → Steady closed (assign at tagging r v)
  assign_steady at None r v plain = set_steady at r v plain
  assign_steady at (Some t) r v plain =
      bind_steady (held_steady at r) (λ old. choose_steady (same_variant t old v) (set_steady at r v plain) (retag_steady at r v t.slots t.cells))

  select_steady : (at : ℕ) (setting : Bool) (r : Reference) (g : Guard) → Steady closed (select at setting r g)
  select_steady at setting r g = choose_steady (setting && g.hidden) (retag_steady at r (first_constant g.constants) g.slots g.cells) (fault_steady at 10)

  pass_steady : (at : ℕ) (setting : Bool) (r : Reference) (g : Guard) → Steady closed (pass at setting r g)
  pass_steady at setting r g =
      bind_steady (part_steady r g.slot g.offset) (λ tag. bind_steady (held_steady at tag) (λ v.
      then_steady (unless_steady (is_scalar v) wrong_steady) (choose_steady (selects v g.constants) skip_steady (select_steady at setting tag g))))

  pub pass_all_steady : (at : ℕ) (setting : Bool) (r : Reference) (gs : List Guard) → Steady closed (pass_all at setting r gs)
  pass_all_steady at setting r [] = skip_steady
  pass_all_steady at setting r (g ∷ more) = then_steady (pass_steady at setting r g) (pass_all_steady at setting r more)

  pub object_steady : (at object : ℕ) → Steady closed (object_of at object)
  object_steady at zero = fault_steady at 7
  object_steady at (suc n) =
      now_steady (λ more c. refl) (λ c. bind_steady (needs_steady (object_root c n))
      (λ root. then_steady (unless_steady (c.roots root).live (fault_steady at 8)) (gives_steady (record { root = root; way = []; type = cleared (c.roots root).value }))))

  -- ---- operators

  integer_steady : (at : ℕ) (n : ℤ) → Steady closed (integer at n)
  integer_steady at n = choose_steady (lies_in least_integer maxint n) (gives_steady (Number n)) (fault_steady at 1)

  pub sign_steady : (at : ℕ) (s : SignKind) (n : ℤ) → Steady closed (with_sign at s n)
  sign_steady at sign.Plus n = gives_steady (Number n)
  sign_steady at sign.Minus n = integer_steady at (neg_ℤ n)

  pub boolean_steady : (b : Bool) → Steady closed (boolean b)
  boolean_steady b = gives_steady _

  on_numbers_steady : (f : ℤ → ℤ → Action Value) (v w : Value) → ((i j : ℤ) → Steady closed (f i j)) → Steady closed (on_numbers f v w)
  on_numbers_steady f v w h = bind_steady (number_steady v) (λ i. bind_steady (number_steady w) (λ j. h i j))

  on_sets_steady : (f : List ℕ → List ℕ → List ℕ) (v w : Value) → Steady closed (on_sets f v w)
  on_sets_steady f v w = bind_steady (members_steady v) (λ i. bind_steady (members_steady w) (λ j. gives_steady _))

  pub operate_steady : (at : ℕ) (o : TypedOperator) (v w : Value) → Steady closed (operate at o v w)
  operate_steady at operator.Add v w = on_numbers_steady _ v w (λ i j. integer_steady at (i +ℤ j))
  operate_steady at operator.Subtract v w = on_numbers_steady _ v w (λ i j. integer_steady at (i -ℤ j))
  operate_steady at operator.Multiply v w = on_numbers_steady _ v w (λ i j. integer_steady at (i *ℤ j))
  operate_steady at operator.Div v w = on_numbers_steady _ v w (λ i j. choose_steady (same_number j (pos 0)) (fault_steady at 2) (integer_steady at (int_div i j)))
  operate_steady at operator.Mod v w = on_numbers_steady _ v w (λ i j. choose_steady (int_lt (pos 0) j) (gives_steady (Number (int_rem_euclid i j))) (fault_steady at 2))
  operate_steady at operator.And v w = on_numbers_steady _ v w (λ i j. boolean_steady (is_true i && is_true j))
  operate_steady at operator.Or v w = on_numbers_steady _ v w (λ i j. boolean_steady (is_true i || is_true j))
  operate_steady at operator.Union v w = on_sets_steady _ v w
  operate_steady at operator.Difference v w = on_sets_steady _ v w
  operate_steady at operator.Intersection v w = on_sets_steady _ v w

  compare_strings_steady : (at : ℕ) (r : Comparison) (xs ys : Option (List ℕ)) → Steady closed (compare_strings at r xs ys)
  compare_strings_steady at r (Some xs) (Some ys) = boolean_steady (holds r (comes_before xs ys) (bytes_eq xs ys))
  compare_strings_steady at r None ys = fault_steady at 9
  compare_strings_steady at r (Some xs) None = fault_steady at 9

  pub compare_steady : (at : ℕ) (s : Sort) (r : Comparison) (v w : Value) → Steady closed (compare at s r v w)
  compare_steady at sort.Ordinal r v w = on_numbers_steady _ v w (λ i j. boolean_steady (compare_numbers r i j))
  compare_steady at sort.Set r v w = bind_steady (members_steady v) (λ a. bind_steady (members_steady w) (λ b. boolean_steady (compare_sets r a b)))
  compare_steady at sort.Pointer r v w = bind_steady (pointer_steady v) (λ a. bind_steady (pointer_steady w) (λ b. boolean_steady (compare_pointers r a b)))
  compare_steady at (sort.Block cells) r v w =
      then_steady (unless_steady (is_structure v && is_structure w) wrong_steady) (compare_strings_steady at r (string_in v) (string_in w))
  compare_steady at sort.File r v w = wrong_steady

  pub with_member_steady : (at : ℕ) (set : List ℕ) (n : ℤ) → Steady closed (with_member at set n)
  with_member_steady at set n = then_steady (unless_steady _ (fault_steady at 15)) (gives_steady _)

  pub with_members_steady : (at : ℕ) (set : List ℕ) (first last : ℤ) → Steady closed (with_members at set first last)
  with_members_steady at set first last = choose_steady (int_lt last first) (gives_steady set) (then_steady (unless_steady _ (fault_steady at 15)) (gives_steady _))

  value_if_steady : (at : ℕ) (b : Bool) (n : ℤ) → Steady closed (value_if at b n)
  value_if_steady at b n = choose_steady b (gives_steady _) (fault_steady at 6)

  pub apply_steady : (at : ℕ) (f : OrdinalFunction) (n : ℤ) → Steady closed (apply at f n)
  apply_steady at function.Abs n = choose_steady (int_lt n (pos 0)) (integer_steady at (neg_ℤ n)) (gives_steady _)
  apply_steady at function.Sqr n = integer_steady at (n *ℤ n)
  apply_steady at function.Odd n = boolean_steady (is_odd n)
  apply_steady at function.Ord n = gives_steady _
  apply_steady at function.Chr n = value_if_steady at (lies_in (pos 0) (pos 255) n) n
  apply_steady at (function.Succ least greatest) n = choose_steady (lies_in least (greatest -ℤ pos 1) n) (integer_steady at (n +ℤ pos 1)) (fault_steady at 6)
  apply_steady at (function.Pred least greatest) n = choose_steady (lies_in (least +ℤ pos 1) greatest n) (integer_steady at (n -ℤ pos 1)) (fault_steady at 6)

  -- ---- files

  file_at_steady : (at : ℕ) (r : Reference) → Steady closed (file_at at r)
  file_at_steady at r = bind_steady (held_steady at (file_of r)) (λ v. file_steady v)

  answer_steady : {A : Type 0} (at : ℕ) (o : FileCall A) → Steady closed (answer at o)
  answer_steady at (Gives v f) = gives_steady v
  answer_steady at (Fails number) = fault_steady at number

  pub ask_steady : {A : Type 0} (at : ℕ) (r : Reference) (question : TextFile → FileCall A) → Steady closed (ask at r question)
  ask_steady at r question = bind_steady (file_at_steady at r) (λ f. answer_steady at (question f))

  result_at : {A : Type 0} (at : ℕ) (r : Reference) (f : TextFile) (o : FileCall A) (c : Configuration) → component (c.roots r.root).value (file_of r).way ≡ Some (File f) →
      (r.root ≡ 0 → FileGrows f o) → SteadyAt closed c (result at r o)
  result_at at r f (Gives v g) c e grows =
      then_at c (set_at at (file_of r) (File g) c (λ old h standard form. let same : File f ≡ old = some_inj (sym e ∙ h) in subst (λ x. Grown x (File g)) same (grows standard)))
      (λ b u d roots acts e. (gives_steady v).by d)
  result_at at r f (Fails number) c e grows = (fault_steady at number).by c

  on_file_steady : {A : Type 0} (at : ℕ) (r : Reference) (o : TextFile → FileCall A) → (r.root ≡ 0 → (f : TextFile) → FileGrows f (o f)) → Steady closed (on_file at r o)
  on_file_steady at r o grows = bind_with (file_at_steady at r) (λ c f d e.
      let h = file_at_is at r c f d e in
      result_at at r f (o f) d (subst (λ d. component (d.roots r.root).value (file_of r).way ≡ Some (File f)) (sym h.0) h.1) (λ standard. grows standard f))

  renew_steady : (at : ℕ) (r : Reference) → Steady closed (renew_buffer at r)
  renew_steady at r = bind_steady (file_at_steady at r) (λ f. set_steady at (buffer_of r) (buffer_value (shown f)) (buffer_plain (shown f)))

  charge_steady : (at bytes : ℕ) → Steady closed (charge at bytes)
  charge_steady at bytes = now_steady (λ more c. refl) (λ c. then_steady (unless_steady _ (limit_steady at 4))
      (update_steady (λ c. record c { written = c.written + bytes }) (λ more c. refl)
      (λ c up. (record { in_order = up.in_order; some = up.some; left = up.left; tags = up.tags }, record { next = omega arith; output = grown_itself (c.roots 0).value }))))

  must_write_steady : (at : ℕ) (r : Reference) → Steady closed (must_write at r)
  must_write_steady at r = ask_steady at r (λ f. in_writing f (Gives tt f))

  write_to_steady : (at : ℕ) (r : Reference) (items : List Item) → Steady closed (write_to at r items)
  write_to_steady at r items =
      then_steady (must_write_steady at r) (then_steady (charge_steady at (length items)) (on_file_steady at r (write_items items) (λ standard f. write_grows items f)))

  pub write_bytes_steady : (at : ℕ) (r : Reference) (bytes : List ℕ) → Steady closed (write_bytes at r bytes)
  write_bytes_steady at r bytes = write_to_steady at r (characters bytes)

  pub write_line_steady : (at : ℕ) (r : Reference) → Steady closed (write_line at r)
  write_line_steady at r = write_to_steady at r (LineEnd ∷ [])

  pub page_steady : (at : ℕ) (r : Reference) → Steady closed (page at r)
  page_steady at r = bind_steady (file_at_steady at r) (λ f. write_to_steady at r (page_items f))

  pub put_steady : (at : ℕ) (r : Reference) → Steady closed (put at r)
  put_steady at r =
      then_steady (must_write_steady at r) (bind_steady (read_steady at (buffer_of r)) (λ v. bind_steady (number_steady v) (λ n.
      then_steady (write_bytes_steady at r (natural n ∷ [])) (renew_steady at r))))

  pub get_steady : (at : ℕ) (r : Reference) → Steady closed (get at r)
  get_steady at r = then_steady (on_file_steady at r text.get (λ standard f. get_grows f)) (renew_steady at r)

  pub read_line_steady : (at : ℕ) (r : Reference) → Steady closed (read_line at r)
  read_line_steady at r = then_steady (on_file_steady at r text.read_line (λ standard f. read_line_grows f)) (renew_steady at r)

  pub read_character_steady : (at : ℕ) (r : Reference) → Steady closed (read_character at r)
  read_character_steady at r = then_steady (ask_steady at r (λ f. at_item f (Gives tt f)))
      (bind_steady (read_steady at (buffer_of r)) (λ v. bind_steady (number_steady v) (λ n. then_steady (get_steady at r) (gives_steady (Number n)))))

  pub read_integer_steady : (at : ℕ) (r : Reference) → Steady closed (read_integer at r)
  read_integer_steady at r =
      bind_steady (on_file_steady at r text.read_number (λ standard f. read_number_grows f)) (λ n. then_steady (renew_steady at r) (gives_steady (Number n)))

  -- the standard files are left as they are
  begin_file_steady : (at : ℕ) (new : TextFile → TextFile) (r : Reference) → Steady closed (begin_file at new r)
  begin_file_steady at new r = bind_with (file_at_steady at r) (λ c f d e.
      choose_at (nat_eq r.root 0) d (λ standard. (unless_steady (is_open f.state) wrong_steady).by d)
      (λ own. (then_steady (on_file_steady {A = Unit {0}} at r (λ f. Gives tt (new f)) (λ standard. absurd (let f : ⊥ = not_zero r.root own standard in f)))
      (renew_steady at r)).by d))

  pub reset_steady : (at : ℕ) (r : Reference) → Steady closed (reset at r)
  reset_steady at r = begin_file_steady at text.reset r

  pub rewrite_steady : (at : ℕ) (r : Reference) → Steady closed (rewrite at r)
  rewrite_steady at r = begin_file_steady at text.rewrite r
