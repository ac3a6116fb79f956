-- A program that passes the test is checked.
use Rattle.std.proofs.Common.{◌≡◌, ℕ, zero, suc, List, [], ◌∷◌, ◌++◌, Option, Some, None, Bool, true, false, refl, sym, ap, ◌∙◌, subst, eqb-true, append_assoc}
use Rattle.std.specs.Prelude.{◌||◌, not, slice_get, bytes_eq, nat_eq, nat_lt, find, cond, option_map, option_and_then}
use Rattle.std.specs.List.{list_any}
use Rattle.std.specs.Map.{lookup}
use Rattle.std.proofs.lemmas.Bool.{ltb-true}
use Rattle.std.proofs.lemmas.Slice.Eq.{bytes_eq-Decides}
use Rattle.mp_base.specs.declared.path.PathStep.{PathStep}
use Rattle.mp_ast.specs.Blocks.{same_step, same_path}
use Rattle.mp_tables.specs.declared.types.TypeId.{TypeId}
use Rattle.mp_tables.specs.declared.types.TypeId.TheVariants as type
use Rattle.mp_tables.specs.declared.types.Within.{Within}
use Rattle.mp_tables.specs.declared.types.Slot.{Slot}
use Rattle.mp_tables.specs.declared.types.RecordShape.{RecordShape}
use Rattle.mp_tables.specs.declared.types.Shape.{Shape}
use Rattle.mp_tables.specs.declared.types.Shape.TheVariants as shape
use Rattle.mp_tables.specs.declared.headings.Formal.{Formal}
use Rattle.mp_tables.specs.declared.headings.Heading.{Heading}
use Rattle.mp_tables.specs.declared.declarations.Decl.{Decl}
use Rattle.mp_tables.specs.declared.declarations.Decl.TheVariants as decl
use Rattle.mp_tables.specs.declared.declarations.Variable.{Variable}
use Rattle.mp_tables.specs.declared.declarations.Parameter.{Parameter}
use Rattle.mp_tables.specs.declared.declarations.LabelStanding.TheVariants as standing
use Rattle.mp_tables.specs.declared.tables.Entry.{Entry}
use Rattle.mp_tables.specs.declared.tables.Nested.{Nested}
use Rattle.mp_tables.specs.declared.tables.Shaped.{Shaped}
use Rattle.mp_tables.specs.declared.tables.Table.{Table}
use Rattle.mp_tables.specs.declared.typed_expressions.Sort.TheVariants as sort
use Rattle.mp_tables.specs.declared.typed_statements.FrameKind.{FrameKind}
use Rattle.mp_tables.specs.declared.typed_statements.FrameKind.TheVariants as kind
use Rattle.mp_tables.specs.declared.typed_statements.FrameSlot.{FrameSlot}
use Rattle.mp_tables.specs.PlainTypedStatements.{PlainTypedBlock}
use Rattle.mp_tables.specs.TypeRelations.{same_kind}
use Rattle.mp_tables.specs.StatementWalks.{label_name}
use Rattle.mp_tables.specs.Headings.{FormalParameter}
use Rattle.mp_tables.specs.Seen.{table_at, shape_of, shape_in, heading_of, nested_in, nested_at}
use Rattle.mp_tables.specs.Variables.{sort_of}
use Rattle.mp_tables.specs.Checked.{outermost_labels}
use Rattle.mp_tables.specs.CompleteTest.{same_type_if}
use Rattle.mp_tables.specs.CheckedTests.{all_true, some, each, same_sort, block_checked}
use Rattle.mp_tables.proofs.DigitLemmas.{label_same}
use Rattle.mp_tables.proofs.CheckedTestLemmas.{AllTrue, all_parts, some_is, path_is, step_is, kind_is, type_is, sort_is}
use Rattle.mp_tables.proofs.CheckedTestTrees.{tests_tell}
use Rattle.mp_meaning.specs.Names.{Path, same_path as same_name_path}
use Rattle.mp_meaning.specs.Forms.{Form, OneCell, FileForm, ArrayForm, RecordForm, Forms, NoForms, Beside}
use Rattle.mp_meaning.specs.Programs.{Program, block_of, variable_number, result_number, is_parameter, is_result, from_label, is_found, form_of}
use Rattle.mp_meaning.specs.TypeForms.{form_of_shape, forms_of_slots, form_within, values_of}
use Rattle.mp_meaning.specs.CheckedPrograms.{BeginsWith, declared_in, parameters_of, IsVariableSlot, IsParameterSlot, IsResultSlot, BlockFits, HasPart, RecordFits}
use Rattle.mp_meaning.specs.CheckedProgramTests.{is_parameter_of, is_variable, begins_with, same_formals, same_own, if_there, names_in, label_stands, entry_fits, result_fits, block_fits, part_there, is_ordinal_type, tag_fits, record_fits, same_form, same_forms, form_fits, tested_program, table_fits, TestTells}
use Rattle.mp_meaning.proofs.SoundNumbers.{path_of_block, find_passes}

-- ---- lists

pub each_found : {A : Type 0} (test query : A → Bool) (xs : List A) (x : A) → each test xs ≡ true → find query xs ≡ Some x → test x ≡ true
each_found test query [] x k e = absurd (let f : ⊥ = cc in f)
each_found {A} test query (y ∷ xs) x k e =
    let p = all_parts (test y ∷ each test xs ∷ []) k in
    by_test p.0 (each_found test query xs x p.1.0) (query y) e
  where
    by_test : test y ≡ true → (find query xs ≡ Some x → test x ≡ true) → (b : Bool) → cond b (Some y) (find query xs) ≡ Some x → test x ≡ true
    by_test here deeper true e = let same : y ≡ x = cc in subst (λ y. test y ≡ true) same here
    by_test here deeper false e = deeper e

pub each_at : {A : Type 0} (test : A → Bool) (xs : List A) (i : ℕ) (x : A) → each test xs ≡ true → slice_get xs i ≡ Some x → test x ≡ true
each_at test [] i x k e = absurd (let f : ⊥ = cc in f)
each_at test (y ∷ xs) zero x k e = let p = all_parts (test y ∷ each test xs ∷ []) k in let same : y ≡ x = cc in subst (λ y. test y ≡ true) same p.0
each_at test (y ∷ xs) (suc i) x k e = let p = all_parts (test y ∷ each test xs ∷ []) k in each_at test xs i x p.1.0 e

pub any_found : {A : Type 0} (test : A → Bool) (xs : List A) → list_any test xs ≡ true → (x : A) × (test x ≡ true)
any_found test [] e = absurd (let f : ⊥ = cc in f)
any_found {A} test (y ∷ xs) e = by_test (any_found test xs) (test y) refl e
  where
    by_test : (list_any test xs ≡ true → (x : A) × (test x ≡ true)) → (b : Bool) → test y ≡ b → (b || list_any test xs) ≡ true → (x : A) × (test x ≡ true)
    by_test deeper true is e = (y, is)
    by_test deeper false is e = deeper e

-- an entry that a name finds has that name
pub entry_found : (test : List ℕ → Entry → Bool) (n : List ℕ) (es : List (List ℕ × Entry)) (x : Entry) → each (λ e. test e.0 e.1) es ≡ true → lookup (bytes_eq n) es ≡ Some x →
    test n x ≡ true
entry_found test n [] x k e = absurd (let f : ⊥ = cc in f)
entry_found test n (y ∷ es) x k e =
    let p = all_parts (test y.0 y.1 ∷ each (λ e. test e.0 e.1) es ∷ []) k in
    by_test p.0 (entry_found test n es x p.1.0) (bytes_eq n y.0) refl e
  where
    by_test : test y.0 y.1 ≡ true → (lookup (bytes_eq n) es ≡ Some x → test n x ≡ true) → (b : Bool) → bytes_eq n y.0 ≡ b → cond b (Some y.1) (lookup (bytes_eq n) es) ≡ Some x →
        test n x ≡ true
    by_test here deeper true is e =
        let d = bytes_eq-Decides n y.0 in
        let name : n ≡ y.0 = d.0 is in
        let same : y.1 ≡ x = cc in
        subst (λ x. test n x ≡ true) same (subst (λ n. test n y.1 ≡ true) (sym name) here)
    by_test here deeper false is e = deeper e

-- ---- frames

begins_is : (fs : List FormalParameter) (frame : List FrameSlot) → begins_with fs frame ≡ true → BeginsWith fs frame
begins_is [] [] k = tt
begins_is [] (s ∷ frame) k = let p = all_parts (not (is_parameter s.kind) ∷ begins_with [] frame ∷ []) k in (by_test (is_parameter s.kind) p.0, begins_is [] frame p.1.0)
  where
    by_test : (b : Bool) → not b ≡ true → b ≡ false
    by_test false e = refl
    by_test true e = absurd (let f : ⊥ = cc in f)
begins_is (f ∷ fs) [] k = absurd (let f : ⊥ = cc in f)
begins_is (f ∷ fs) (s ∷ frame) k = let p = all_parts (is_parameter_of s.kind f.formal.kind ∷ begins_with fs frame ∷ []) k in (by_kind s.kind p.0, begins_is fs frame p.1.0)
  where
    by_kind : (k : FrameKind) → is_parameter_of k f.formal.kind ≡ true → k ≡ kind.Parameter f.formal.kind
    by_kind (kind.Parameter k) e = ap kind.Parameter (kind_is k f.formal.kind e)
    by_kind kind.Result e = absurd (let f : ⊥ = cc in f)
    by_kind kind.Variable e = absurd (let f : ⊥ = cc in f)

variable_is : (k : FrameKind) → is_variable k ≡ true → k ≡ kind.Variable
variable_is kind.Variable e = refl
variable_is kind.Result e = absurd (let f : ⊥ = cc in f)
variable_is (kind.Parameter k) e = absurd (let f : ⊥ = cc in f)

result_is : (k : FrameKind) → is_result k ≡ true → k ≡ kind.Result
result_is kind.Result e = refl
result_is kind.Variable e = absurd (let f : ⊥ = cc in f)
result_is (kind.Parameter k) e = absurd (let f : ⊥ = cc in f)

formal_same : (a b : Formal) → a.depth ≡ b.depth → a.section ≡ b.section → a.name ≡ b.name → a.kind ≡ b.kind → a.of ≡ b.of → a ≡ b
formal_same a b e f g h k =
    ap (λ x. record { depth = x; section = a.section; name = a.name; kind = a.kind; of = a.of }) e ∙
    ap (λ x. record { depth = b.depth; section = x; name = a.name; kind = a.kind; of = a.of }) f ∙
    ap (λ x. record { depth = b.depth; section = b.section; name = x; kind = a.kind; of = a.of }) g ∙
    ap (λ x. record { depth = b.depth; section = b.section; name = b.name; kind = x; of = a.of }) h ∙
    ap (λ x. record { depth = b.depth; section = b.section; name = b.name; kind = b.kind; of = x }) k

formals_same : (a b : List Formal) → same_formals a b ≡ true → a ≡ b
formals_same [] [] e = refl
formals_same (a ∷ xs) (b ∷ ys) e =
    let p = all_parts (nat_eq a.depth b.depth ∷ nat_eq a.section b.section ∷ bytes_eq a.name b.name ∷ same_kind a.kind b.kind ∷ same_type_if a.of b.of ∷ same_formals xs ys ∷
    []) e in
    let d = bytes_eq-Decides a.name b.name in
    ap (λ x. x ∷ xs) (formal_same a b (eqb-true a.depth b.depth p.0) (eqb-true a.section b.section p.1.0) (d.0 p.1.1.0) (kind_is a.kind b.kind p.1.1.1.0)
    (type_is a.of b.of p.1.1.1.1.0)) ∙
    ap (λ x. b ∷ x) (formals_same xs ys p.1.1.1.1.1.0)
formals_same [] (n ∷ ns) e = absurd (let f : ⊥ = cc in f)
formals_same (m ∷ ms) [] e = absurd (let f : ⊥ = cc in f)

own_same : (a b : Option Heading) → same_own a b ≡ true → a ≡ b
own_same None None e = refl
own_same (Some a) (Some b) e =
    let p = all_parts (same_formals a.formals b.formals ∷ same_type_if a.result b.result ∷ []) e in
    ap (λ x. Some (record { formals = x; result = a.result })) (formals_same a.formals b.formals p.0) ∙
    ap (λ x. Some (record { formals = b.formals; result = x })) (type_is a.result b.result p.1.0)
own_same None (Some b) e = absurd (let f : ⊥ = cc in f)
own_same (Some a) None e = absurd (let f : ⊥ = cc in f)

there_is : (o u : Option TypeId) → if_there o u ≡ true → (t : TypeId) → o ≡ Some t → u ≡ Some t
there_is None u k t e = absurd (let f : ⊥ = cc in f)
there_is (Some x) u k t e = type_is u (Some x) k ∙ e

-- ---- what a block declares

pub record Declared (tables : List Table) (path : Path) (n : List ℕ) (d : Decl) : Type 0 where
  pub entry : Entry
  pub found : lookup (bytes_eq n) (names_in (table_at tables path)) ≡ Some entry
  pub is : entry.decl ≡ d

pub declared_entry : (tables : List Table) (path : Path) (n : List ℕ) (d : Decl) → declared_in tables path n ≡ Some d → Declared tables path n d
declared_entry tables path n d e = by_table (table_at tables path) refl e
  where
    by_entry : (o : Option Entry) → lookup (bytes_eq n) (names_in (table_at tables path)) ≡ o → option_map (λ e. e.decl) o ≡ Some d → Declared tables path n d
    by_entry None is e = absurd (let f : ⊥ = cc in f)
    by_entry (Some x) is e = record { entry = x; found = is; is = let same : x.decl ≡ d = cc in same }

    by_table : (o : Option Table) → table_at tables path ≡ o → option_map (λ e. e.decl) (option_and_then (λ t. lookup (bytes_eq n) t.names) o) ≡ Some d → Declared tables path n d
    by_table None is e = absurd (let f : ⊥ = cc in f)
    by_table (Some t) is e = by_entry (lookup (bytes_eq n) t.names) (ap (λ o. lookup (bytes_eq n) (names_in o)) is) e

-- ---- blocks

module _ (tables : List Table) (p : Program) (b : PlainTypedBlock) (k : block_fits tables p b ≡ true) where
  parts : AllTrue (begins_with (parameters_of tables b.path) b.frame ∷ each (λ e. entry_fits tables p b e.0 e.1.decl) (names_in (table_at tables b.path)) ∷
      result_fits tables p b (heading_of tables b.path).result ∷ (p.is_closed b.path || block_checked tables b) ∷ [])
  parts = all_parts (begins_with (parameters_of tables b.path) b.frame ∷ each (λ e. entry_fits tables p b e.0 e.1.decl) (names_in (table_at tables b.path)) ∷
      result_fits tables p b (heading_of tables b.path).result ∷ (p.is_closed b.path || block_checked tables b) ∷ []) k

  entry_is : (n : List ℕ) (d : Decl) → declared_in tables b.path n ≡ Some d → entry_fits tables p b n d ≡ true
  entry_is n d e =
      let x = declared_entry tables b.path n d e in
      subst (λ d. entry_fits tables p b n d ≡ true) x.is (entry_found (λ n x. entry_fits tables p b n x.decl) n (names_in (table_at tables b.path)) x.entry parts.1.0 x.found)

  slot_is : (n : List ℕ) (v : Variable) → entry_fits tables p b n (decl.Var b.path v) ≡ true → IsVariableSlot b.frame n v
  slot_is n v e =
      let i = some_is (variable_number b.frame n) (λ i. some (slice_get b.frame i) (λ s. all_true (is_variable s.kind ∷ same_type_if s.of v.of ∷ []))) e in
      let s = some_is (slice_get b.frame i.value) (λ s. all_true (is_variable s.kind ∷ same_type_if s.of v.of ∷ [])) i.passes in
      let q = all_parts (is_variable s.value.kind ∷ same_type_if s.value.of v.of ∷ []) s.passes in
      record { number = i.value; slot = s.value; found = i.is; is = s.is; of_kind = variable_is s.value.kind q.0; of = type_is s.value.of v.of q.1.0 }

  parameter_is : (n : List ℕ) (q : Parameter) → entry_fits tables p b n (decl.Param b.path q) ≡ true → IsParameterSlot (parameters_of tables b.path) b.frame n q
  parameter_is n q e =
      let i = some_is (variable_number b.frame n) (λ i. some (slice_get (parameters_of tables b.path) i)
      (λ f. all_true (same_kind f.formal.kind q.kind ∷ if_there q.of f.formal.of ∷ same_own f.own q.own ∷ []))) e in
      let s = some_is (slice_get (parameters_of tables b.path) i.value)
      (λ f. all_true (same_kind f.formal.kind q.kind ∷ if_there q.of f.formal.of ∷ same_own f.own q.own ∷ [])) i.passes in
      let f = s.value in
      let a = all_parts (same_kind f.formal.kind q.kind ∷ if_there q.of f.formal.of ∷ same_own f.own q.own ∷ []) s.passes in
      record {
        number = i.value;
        parameter = f;
        found = i.is;
        is = s.is;
        of_kind = kind_is f.formal.kind q.kind a.0;
        of = there_is q.of f.formal.of a.1.0;
        own =
            own_same f.own q.own a.1.1.0;
      }

  result_slot : (t : TypeId) → (heading_of tables b.path).result ≡ Some t → IsResultSlot b.frame t
  result_slot t e =
      let r : result_fits tables p b (Some t) ≡ true = ap (result_fits tables p b) (sym e) ∙ parts.1.1.0 in
      let i = some_is (result_number b.frame) (λ i. some (slice_get b.frame i) (λ s. all_true (is_result s.kind ∷ same_type_if s.of (Some t) ∷ []))) r in
      let s = some_is (slice_get b.frame i.value) (λ s. all_true (is_result s.kind ∷ same_type_if s.of (Some t) ∷ [])) i.passes in
      let q = all_parts (is_result s.value.kind ∷ same_type_if s.value.of (Some t) ∷ []) s.passes in
      record { number = i.value; slot = s.value; found = i.is; is = s.is; of_kind = result_is s.value.kind q.0; of = type_is s.value.of (Some t) q.1.0 }

  or_open : (a c : Bool) → a ≡ false → (a || c) ≡ true → c ≡ true
  or_open false c e k = k
  or_open true c e k = absurd (let f : ⊥ = cc in f)

  label_is : p.is_closed b.path ≡ false → (l : ℕ) → declared_in tables b.path (label_name l) ≡ Some (decl.Label b.path standing.Outermost) →
      is_found (from_label l b.statements) ≡ true
  label_is entered l e =
      let any = or_open (p.is_closed b.path) (list_any (label_stands tables p b (label_name l)) (outermost_labels b.statements)) entered
      (entry_is (label_name l) (decl.Label b.path standing.Outermost) e) in
      let m = any_found (label_stands tables p b (label_name l)) (outermost_labels b.statements) any in
      let q = all_parts (bytes_eq (label_name m.0) (label_name l) ∷ nat_lt m.0 10000 ∷ is_found (from_label m.0 b.statements) ∷ []) m.1 in
      let d = bytes_eq-Decides (label_name m.0) (label_name l) in
      let same : m.0 ≡ l = label_same m.0 l (ltb-true m.0 10000 q.1.0) (d.0 q.0) in
      subst (λ l. is_found (from_label l b.statements) ≡ true) same q.1.1.0

  block_is : BlockFits tables p b.path b
  block_is = record {
    parameters = begins_is (parameters_of tables b.path) b.frame parts.0;
    variable = λ n v e. slot_is n v (entry_is n (decl.Var b.path v) e);
    parameter = λ n q e. parameter_is n q (entry_is n (decl.Param b.path q) e);
    result = result_slot;
    label = label_is;
    checked = λ entered. tests_tell tables b (or_open (p.is_closed b.path) (block_checked tables b) entered parts.1.1.1.0);
  }

-- ---- record types

part_is : (r : RecordShape) (o : Option Within) (w : Within) → part_there r o ≡ true → o ≡ Some w → HasPart r w
part_is r None w k e = absurd (let f : ⊥ = cc in f)
part_is r (Some v) w k e = let q = some_is (slice_get r.parts v.part) (λ q. true) k in let same : v ≡ w = cc in (q.value, ap (λ w. slice_get r.parts w.part) (sym same) ∙ q.is)

record_is : (tables : List Table) (r : RecordShape) → record_fits tables (shape.Rec r) ≡ true → RecordFits tables r
record_is tables r k =
    let p = all_parts (each (λ s. part_there r s.within) r.slots ∷ each (λ q. all_true (part_there r q.within ∷ tag_fits tables r q ∷ [])) r.parts ∷ []) k in
    record {
      within = λ i s w e f. part_is r s.within w (each_at (λ s. part_there r s.within) r.slots i s p.0 e) f;
      outer = λ i q w e f. let a = all_parts (part_there r q.within ∷ tag_fits tables r q ∷ [])
          (each_at (λ q. all_true (part_there r q.within ∷ tag_fits tables r q ∷ [])) r.parts i q p.1.0 e) in part_is r q.within w a.0 f;
      tag = λ i q e.
          let a = all_parts (part_there r q.within ∷ tag_fits tables r q ∷ []) (each_at (λ q. all_true (part_there r q.within ∷ tag_fits tables r q ∷ [])) r.parts i q p.1.0 e) in
          let s = some_is (slice_get r.slots q.tag) (λ s. some s.of (is_ordinal_type tables)) a.1.0 in
          let t = some_is s.value.of (is_ordinal_type tables) s.passes in
          let x = some_is (shape_of tables t.value) (λ x. same_sort (sort_of (record { id = Some t.value; shape = x })) sort.Ordinal) t.passes in
          (s.value, t.value, s.is, t.is, (x.value, x.is, sort_is (sort_of (record { id = Some t.value; shape = x.value })) sort.Ordinal x.passes));
    }

-- ---- forms

mutual
  form_is : (a b : Form) → same_form a b ≡ true → a ≡ b
  form_is OneCell OneCell k = refl
  form_is FileForm FileForm k = refl
  form_is (ArrayForm m a) (ArrayForm n b) k =
      let p = all_parts (nat_eq m n ∷ same_form a b ∷ []) k in ap (λ m. ArrayForm m a) (eqb-true m n p.0) ∙ ap (ArrayForm n) (form_is a b p.1.0)
  form_is (RecordForm a) (RecordForm b) k = ap RecordForm (forms_are a b k)
  form_is OneCell FileForm k = absurd (let f : ⊥ = cc in f)
  form_is OneCell (ArrayForm n b) k = absurd (let f : ⊥ = cc in f)
  form_is OneCell (RecordForm b) k = absurd (let f : ⊥ = cc in f)
  form_is FileForm OneCell k = absurd (let f : ⊥ = cc in f)
  form_is FileForm (ArrayForm n b) k = absurd (let f : ⊥ = cc in f)
  form_is FileForm (RecordForm b) k = absurd (let f : ⊥ = cc in f)
  form_is (ArrayForm m a) OneCell k = absurd (let f : ⊥ = cc in f)
  form_is (ArrayForm m a) FileForm k = absurd (let f : ⊥ = cc in f)
  form_is (ArrayForm m a) (RecordForm b) k = absurd (let f : ⊥ = cc in f)
  form_is (RecordForm a) OneCell k = absurd (let f : ⊥ = cc in f)
  form_is (RecordForm a) FileForm k = absurd (let f : ⊥ = cc in f)
  form_is (RecordForm a) (ArrayForm n b) k = absurd (let f : ⊥ = cc in f)

  forms_are : (a b : Forms) → same_forms a b ≡ true → a ≡ b
  forms_are NoForms NoForms k = refl
  forms_are (Beside a more) (Beside b others) k =
      let p = all_parts (same_form a b ∷ same_forms more others ∷ []) k in ap (λ a. Beside a more) (form_is a b p.0) ∙ ap (Beside b) (forms_are more others p.1.0)
  forms_are NoForms (Beside b others) k = absurd (let f : ⊥ = cc in f)
  forms_are (Beside a more) NoForms k = absurd (let f : ⊥ = cc in f)

form_more : (n : ℕ) (shapes : TypeId → Option Shape) (t : TypeId) → form_within (suc n) shapes t ≡ form_of_shape (form_within n shapes) (shapes t)
unfolding form_within
form_more n shapes t = refl

of_alike : (f g : TypeId → Form) (o : Option TypeId) → ((t : TypeId) → f t ≡ g t) → form_of f o ≡ form_of g o
of_alike f g None h = refl
of_alike f g (Some t) h = h t

slots_alike : (f g : TypeId → Form) (slots : List Slot) → ((t : TypeId) → f t ≡ g t) → forms_of_slots f slots ≡ forms_of_slots g slots
slots_alike f g [] h = refl
slots_alike f g (s ∷ slots) h = ap (λ x. Beside x (forms_of_slots f slots)) (of_alike f g s.of h) ∙ ap (Beside (form_of g s.of)) (slots_alike f g slots h)

shapes_alike : (f g : TypeId → Form) (o : Option Shape) → ((t : TypeId) → f t ≡ g t) → form_of_shape f o ≡ form_of_shape g o
shapes_alike f g None h = refl
shapes_alike f g (Some (shape.Range b)) h = refl
shapes_alike f g (Some (shape.Names b)) h = refl
shapes_alike f g (Some (shape.Arr a)) h = ap (ArrayForm (values_of a.index)) (of_alike f g a.component h)
shapes_alike f g (Some (shape.Rec r)) h = ap RecordForm (slots_alike f g r.slots h)
shapes_alike f g (Some (shape.SetOf packed b)) h = refl
shapes_alike f g (Some (shape.Ptr b)) h = refl
shapes_alike f g (Some shape.Text) h = refl
shapes_alike f g (Some (shape.Str b)) h = refl

-- ---- tables

module _ (tables : List Table) (levels : ℕ) (p : Program) (k : each (table_fits tables levels p) tables ≡ true) where
  -- the table of a path, and what holds of it
  record TableIs (path : Path) (t : Table) : Type 0 where
    same : path ≡ t.path
    nested : each (λ n. some (block_of p (t.path ++ n.step ∷ [])) (λ b. true)) t.nested ≡ true
    shapes : each (λ x. all_true (form_fits tables (suc levels) (type.Own t.path x.at) ∷ record_fits tables x.shape ∷ [])) t.shapes ≡ true

  table_is : (path : Path) (t : Table) → table_at tables path ≡ Some t → TableIs path t
  table_is path t e =
      let a = all_parts (each (λ n. some (block_of p (t.path ++ n.step ∷ [])) (λ b. true)) t.nested ∷
      each (λ x. all_true (form_fits tables (suc levels) (type.Own t.path x.at) ∷ record_fits tables x.shape ∷ [])) t.shapes ∷ [])
      (each_found (table_fits tables levels p) (λ t. same_path path t.path) tables t k e) in
      record { same = path_is path t.path (find_passes (λ t. same_path path t.path) tables t e); nested = a.0; shapes = a.1.0 }

  nested_block : (outer : Path) (step : PathStep) (n : Nested) → nested_in tables outer step ≡ Some n → (b : PlainTypedBlock) × (block_of p (outer ++ step ∷ []) ≡ Some b)
  nested_block outer step n e = by_table (table_at tables outer) refl e
    where
      by_table : (o : Option Table) → table_at tables outer ≡ o → option_and_then (λ t. find (λ x. same_step step x.step) t.nested) o ≡ Some n → (b : PlainTypedBlock) ×
          (block_of p (outer ++ step ∷ []) ≡ Some b)
      by_table None is e = absurd (let f : ⊥ = cc in f)
      by_table (Some t) is e =
          let h = table_is outer t is in
          let b = some_is (block_of p (t.path ++ n.step ∷ [])) (λ b. true)
          (each_found (λ n. some (block_of p (t.path ++ n.step ∷ [])) (λ b. true)) (λ x. same_step step x.step) t.nested n h.nested e) in
          let one : step ≡ n.step = step_is step n.step (find_passes (λ x. same_step step x.step) t.nested n e) in
          (b.value, ap (λ q. block_of p (q ++ step ∷ [])) h.same ∙ ap (λ s. block_of p (t.path ++ s ∷ [])) one ∙ b.is)

  nested_found : (around path : Path) (n : Nested) → nested_at tables around path ≡ Some n → (b : PlainTypedBlock) × (block_of p (around ++ path) ≡ Some b)
  nested_found around [] n e = absurd (let f : ⊥ = cc in f)
  nested_found around (step ∷ []) n e = nested_block around step n e
  nested_found around (step ∷ next ∷ inward) n e =
      let b = nested_found (around ++ step ∷ []) (next ∷ inward) n e in
      (b.0, ap (block_of p) (sym (append_assoc around (step ∷ []) (next ∷ inward))) ∙ b.1)

  -- a type of the program
  record ShapeIs (t : TypeId) (x : Shape) : Type 0 where
    form : form_fits tables (suc levels) t ≡ true
    fields : record_fits tables x ≡ true

  shape_is : (path : Path) (at : ℕ) (x : Shape) → shape_of tables (type.Own path at) ≡ Some x → ShapeIs (type.Own path at) x
  shape_is path at x e = by_table (table_at tables path) refl e
    where
      by_shaped : (t : Table) → TableIs path t → (o : Option Shaped) → find (λ x. nat_eq x.at at) t.shapes ≡ o → option_map (λ x. x.shape) o ≡ Some x →
          ShapeIs (type.Own path at) x
      by_shaped t h None is e = absurd (let f : ⊥ = cc in f)
      by_shaped t h (Some y) is e =
          let a = all_parts (form_fits tables (suc levels) (type.Own t.path y.at) ∷ record_fits tables y.shape ∷ [])
          (each_found (λ x. all_true (form_fits tables (suc levels) (type.Own t.path x.at) ∷ record_fits tables x.shape ∷ [])) (λ x. nat_eq x.at at) t.shapes y h.shapes is) in
          let number : y.at ≡ at = eqb-true y.at at (find_passes (λ x. nat_eq x.at at) t.shapes y is) in
          let same : y.shape ≡ x = cc in
          record {
            form = subst (λ at. form_fits tables (suc levels) (type.Own path at) ≡ true) number
                (subst (λ q. form_fits tables (suc levels) (type.Own q y.at) ≡ true) (sym h.same) a.0);
            fields = subst (λ x. record_fits tables x ≡ true) same a.1.0;
          }

      by_table : (o : Option Table) → table_at tables path ≡ o → option_and_then (λ t. shape_in t.shapes at) o ≡ Some x → ShapeIs (type.Own path at) x
      by_table None is e = absurd (let f : ⊥ = cc in f)
      by_table (Some t) is e = by_shaped t (table_is path t is) (find (λ x. nat_eq x.at at) t.shapes) refl e

  -- one level more changes nothing
  stable : (t : TypeId) → form_within (suc levels) (λ t. shape_of tables t) t ≡ form_within (suc (suc levels)) (λ t. shape_of tables t) t
  stable type.Integer = form_more levels (λ t. shape_of tables t) type.Integer ∙ sym (form_more (suc levels) (λ t. shape_of tables t) type.Integer)
  stable type.Boolean = form_more levels (λ t. shape_of tables t) type.Boolean ∙ sym (form_more (suc levels) (λ t. shape_of tables t) type.Boolean)
  stable type.Char = form_more levels (λ t. shape_of tables t) type.Char ∙ sym (form_more (suc levels) (λ t. shape_of tables t) type.Char)
  stable type.Text = form_more levels (λ t. shape_of tables t) type.Text ∙ sym (form_more (suc levels) (λ t. shape_of tables t) type.Text)
  stable (type.Own path at) = by_shape (shape_of tables (type.Own path at)) refl
    where
      by_shape : (o : Option Shape) → shape_of tables (type.Own path at) ≡ o → form_within (suc levels) (λ t. shape_of tables t) (type.Own path at) ≡ form_within
          (suc (suc levels)) (λ t. shape_of tables t) (type.Own path at)
      by_shape None e =
          form_more levels (λ t. shape_of tables t) (type.Own path at) ∙ ap (form_of_shape (form_within levels (λ t. shape_of tables t))) e ∙
          sym (form_more (suc levels) (λ t. shape_of tables t) (type.Own path at) ∙ ap (form_of_shape (form_within (suc levels) (λ t. shape_of tables t))) e)
      by_shape (Some x) e =
          let h = shape_is path at x e in
          form_is (form_within (suc levels) (λ t. shape_of tables t) (type.Own path at)) (form_within (suc (suc levels)) (λ t. shape_of tables t) (type.Own path at)) h.form

  forms_fit : (t : TypeId) → form_within (suc (suc levels)) (λ t. shape_of tables t) t ≡ form_of_shape (form_within (suc (suc levels)) (λ t. shape_of tables t))
      (shape_of tables t)
  forms_fit t =
      form_more (suc levels) (λ t. shape_of tables t) t ∙
      shapes_alike (form_within (suc levels) (λ t. shape_of tables t)) (form_within (suc (suc levels)) (λ t. shape_of tables t)) (shape_of tables t) stable

  records_fit : (t : TypeId) (r : RecordShape) → shape_of tables t ≡ Some (shape.Rec r) → RecordFits tables r
  records_fit type.Integer r e = absurd (let f : ⊥ = cc in f)
  records_fit type.Boolean r e = absurd (let f : ⊥ = cc in f)
  records_fit type.Char r e = absurd (let f : ⊥ = cc in f)
  records_fit type.Text r e = absurd (let f : ⊥ = cc in f)
  records_fit (type.Own path at) r e = let h = shape_is path at (shape.Rec r) e in record_is tables r h.fields

pub test_tells : TestTells
test_tells tables levels is_closed bs k =
    let p : Program = tested_program tables levels is_closed bs in
    let a = all_parts (some (block_of p []) (λ b. true) ∷ each (block_fits tables p) bs ∷ each (table_fits tables levels p) tables ∷ []) k in
    let whole = some_is (block_of p []) (λ b. true) a.0 in
    record {
      whole = (whole.value, whole.is);
      blocks = λ path n e. nested_found tables levels p a.1.1.0 [] path n e;
      fits = λ path b e.
          let same : b.path ≡ path = path_of_block p path b e in
          subst (λ path. BlockFits tables p path b) same (block_is tables p b (each_found (block_fits tables p) (λ b. same_name_path b.path path) bs b a.1.0 e));
      forms = λ t. forms_fit tables levels p a.1.1.0 t;
      records = λ t r e. records_fit tables levels p a.1.1.0 t r e;
    }
