-- The blocks that the rules give fit the tables: what mp_tables proves of each block, for the block that is found.
use Rattle.std.proofs.Common.{◌≡◌, ℕ, Bool, true, false, cond, ◌&&◌, ◌||◌, List, [], ◌∷◌, ◌++◌, Option, Some, None, refl, sym, ap, inl, inr, ◌∙◌, subst, map, nat_eq, eqb-true, eq-eqb}
use Rattle.std.specs.Prelude.{◌⊎◌, find, slice_get}
use Rattle.std.proofs.lemmas.Slice.Eq.{bytes_eq-Decides}
use Rattle.std.specs.List.{AllByRecursion, list_any}
use Rattle.mp_ast.specs.PlainTrees.{PlainTree, TreeOf}
use Rattle.mp_ast.specs.Blocks.{PlacedBlock, blocks}
use Rattle.mp_ast.specs.Blocks.{same_path as tables_path}
use Rattle.mp_tables.specs.declared.types.TypeId.{TypeId}
use Rattle.mp_tables.specs.declared.types.Slot.{Slot}
use Rattle.mp_tables.specs.declared.types.RecordShape.{RecordShape}
use Rattle.mp_tables.specs.declared.types.Shape.TheVariants as shape
use Rattle.mp_tables.specs.TypeRelations.{ordinal}
use Rattle.mp_tables.specs.Growth.{HasTable}
use Rattle.mp_tables.specs.Complete.{HasPart, OrdinalIf, TagStands, CompleteRecord, HasNoFile, FileAs, CompleteArray}
use Rattle.mp_tables.specs.declared.tables.Table.{Table}
use Rattle.mp_tables.specs.PlainTypedStatements.{PlainTypedBlock, PlainTypedStatement, PlainTypedStatements}
use Rattle.mp_tables.specs.PlainTypedStatements as tree
use Rattle.mp_tables.specs.Seen.{table_at, answers_of, shape_of}
use Rattle.mp_tables.specs.ProgramErrors.{table_after, tables_from, tables_of, typed_in}
use Rattle.mp_tables.specs.Checked.{outermost_labels, CheckedBlock, CheckedBlocks}
use Rattle.mp_tables.specs.Frames.{FrameFits, LabelsStand, BeginsWith, HasTypes}
use Rattle.mp_tables.proofs.CleanLemmas.{none_some, some_inj, false_true}
use Rattle.mp_tables.proofs.SortLemmas.{same_path-eq, some_ordinal}
use Rattle.mp_tables.proofs.CheckedLemmas.{complete_is_checked}
use Rattle.mp_tables.proofs.FrameLemmas.{frames_fit}
use Rattle.mp_tables.proofs.LabelLemmas.{labels_found}
use Rattle.mp_tables.specs.declared.headings.FormalKind.TheVariants as formal
use Rattle.mp_tables.specs.declared.typed_statements.FrameKind.TheVariants as kind
use Rattle.mp_meaning.specs.Names.{Path, same_path}
use Rattle.mp_meaning.specs.Programs.{Program, block_of, from_label, is_found, form_of, slot_form}
use Rattle.mp_meaning.specs.CheckedPrograms.{BlockFits, IsOrdinal, RecordFits, parameters_of}
use Rattle.mp_meaning.specs.AcceptedPrograms.{rules_blocks, TypesAreRight, AcceptedIsChecked, AcceptedFits, AcceptedIsNeverWrong}
use Rattle.mp_meaning.proofs.SoundNumbers.{path_is}
use Rattle.mp_meaning.proofs.SoundLaw.{never_wrong}
use Rattle.mp_tables.specs.declared.types.Shape.{Shape}
use Rattle.mp_tables.specs.declared.types.Bounds.{Bounds}
use Rattle.mp_tables.specs.Sizes.{saturated, cells_of as table_cells}
use Rattle.mp_meaning.specs.Forms.{cells_of, Form}
use Rattle.mp_meaning.specs.Offsets.{HoldsNoFile, ParametersTyped}
use Rattle.mp_meaning.specs.Soundness.{FitsItsTables}
use Rattle.mp_tables.specs.Elaboration.{parameter_type}
use Rattle.mp_tables.specs.Headings.{FormalParameter}
use Rattle.mp_tables.specs.declared.typed_statements.FrameSlot.{FrameSlot}
use Rattle.mp_tables.specs.declared.headings.FormalKind.{FormalKind}

abbrev chosen : Bool → Option PlainTypedStatements → Option PlainTypedStatements → Option PlainTypedStatements
chosen x s t = elim x as (λ is. Option PlainTypedStatements) [
  | true ↦ s
  | false ↦ t
]

-- a label of the outermost sequence is found in it
label_is_found : (l : ℕ) (ss : PlainTypedStatements) → list_any (nat_eq l) (outermost_labels ss) ≡ true → is_found (from_label l ss) ≡ true
label_is_found l tree.NoStatements e = false_true e
label_is_found l (tree.Sequence (tree.Labelled m s) more) e = by (nat_eq l m) refl e (label_is_found l more)
  where
    by : (b : Bool) → nat_eq l m ≡ b → (b || list_any (nat_eq l) (outermost_labels more)) ≡ true →
        (list_any (nat_eq l) (outermost_labels more) ≡ true → is_found (from_label l more) ≡ true) → is_found (from_label l (tree.Sequence (tree.Labelled m s) more)) ≡ true
    by b p q f = here (nat_eq m l) refl
      where
        swapped : (x : Bool) → nat_eq m l ≡ false → nat_eq l m ≡ x → x ≡ false
        swapped true h k = false_true (sym h ∙ eq-eqb m l (sym (eqb-true l m k)))
        swapped false h k = refl

        here : (x : Bool) → nat_eq m l ≡ x → is_found (chosen x (Some (tree.Sequence (tree.Labelled m s) more)) (from_label l more)) ≡ true
        here true h = refl
        here false h = f (subst (λ y. (y || list_any (nat_eq l) (outermost_labels more)) ≡ true) (sym p ∙ swapped (nat_eq l m) h refl) q)
label_is_found l (tree.Sequence s more) e = label_is_found l more e

module _ (tables : List Table) where
  abbrev typed_of : PlacedBlock → PlainTypedBlock
  typed_of b = typed_in (answers_of tables) b.path b.own

  abbrev IsRight : Path → PlainTypedBlock → Type 0
  IsRight path b = (b.path ≡ path) × CheckedBlock tables b × FrameFits tables b.path b.frame × LabelsStand tables b

  found : (path : Path) (b : PlainTypedBlock) (bs : List PlacedBlock) → CheckedBlocks tables bs → AllByRecursion (λ c. FrameFits tables c.path (typed_of c).frame) bs →
      AllByRecursion (λ c. LabelsStand tables (typed_of c)) bs →
      find (λ c. same_path c.path path) (map typed_of bs) ≡ Some b → IsRight path b
  found path b [] c f l e = none_some e
  found path b (x ∷ bs) c f l e = by (same_path x.path path) refl e (found path b bs c.1 f.1 l.1)
    where
      by : (y : Bool) → same_path x.path path ≡ y → cond y (Some (typed_of x)) (find (λ z. same_path z.path path) (map typed_of bs)) ≡ Some b →
          (find (λ z. same_path z.path path) (map typed_of bs) ≡ Some b → IsRight path b) → IsRight path b
      by true k h g = subst (IsRight path) (some_inj h) (path_is x.path path k, c.0, f.0, l.0)
      by false k h g = g h

  block_right : (p : Program) (path : Path) (b : PlainTypedBlock) → IsRight path b → BlockFits tables p path b
  block_right p path b g = subst (λ q. BlockFits tables p q b) g.0 made
    where
      f : FrameFits tables b.path b.frame
      f = g.2

      made : BlockFits tables p b.path b
      made =
          record {
            parameters = f.parameters;
            variable = λ n v d. let s = f.variable n v d in record { number = s.number; slot = s.slot; found = s.found; is = s.is; of_kind = s.of_kind; of = s.of };
            parameter = λ n q d. let s =
                f.parameter n q d in record { number = s.number; parameter = s.parameter; found = s.found; is = s.is; of_kind = s.of_kind; of = s.of; own = s.own };
            result = λ t d. let s = f.result t d in record { number = s.number; slot = s.slot; found = s.found; is = s.is; of_kind = s.of_kind; of = s.of };
            label = λ entered l d. label_is_found l b.statements (g.3 l d);
            checked = λ entered. g.1;
          }

-- the first block is the program's
whole_block : (program : PlainTree) → (b : PlainTypedBlock) × (find (λ c. same_path c.path []) (rules_blocks program) ≡ Some b)
whole_block (TreeOf own inside) = (typed_in (answers_of (tables_of (TreeOf own inside))) [] own, refl)

-- ---- the blocks of procedures and functions

same_path_refl : (p : Path) → same_path p p ≡ true
same_path_refl [] = refl
same_path_refl (s ∷ p) =
    ap (λ x. (x && nat_eq s.nth s.nth) && same_path p p) ((bytes_eq-Decides s.name s.name).1 refl) ∙ ap (λ x. x && same_path p p) (eq-eqb s.nth s.nth refl) ∙ same_path_refl p

abbrev InBlocks : Path → List PlacedBlock → Type 0
InBlocks path [] = ⊥
InBlocks path (b ∷ bs) = (b.path ≡ path) ⊎ InBlocks path bs

has_before : (ts : List Table) (t : Table) (path : Path) → HasTable (ts ++ t ∷ []) path → HasTable ts path ⊎ (t.path ≡ path)
has_before [] t path h = by (tables_path path t.path) refl h.1
  where
    by : (x : Bool) → tables_path path t.path ≡ x → cond x (Some t) None ≡ Some h.0 → HasTable [] path ⊎ (t.path ≡ path)
    by true k e = inr (sym (same_path-eq path t.path k))
    by false k e = none_some e
has_before (x ∷ ts) t path h = by (tables_path path x.path) refl h.1 (has_before ts t path)
  where
    by : (y : Bool) → tables_path path x.path ≡ y → cond y (Some x) (table_at (ts ++ t ∷ []) path) ≡ Some h.0 →
        (HasTable (ts ++ t ∷ []) path → HasTable ts path ⊎ (t.path ≡ path)) → HasTable (x ∷ ts) path ⊎ (t.path ≡ path)
    by true k e f = inl (x, ap (λ z. cond z (Some x) (table_at ts path)) k)
    by false k e f = more (f (h.0, e))
      where
        more : HasTable ts path ⊎ (t.path ≡ path) → HasTable (x ∷ ts) path ⊎ (t.path ≡ path)
        more (inl g) = inl (g.0, ap (λ z. cond z (Some x) (table_at ts path)) k ∙ g.1)
        more (inr g) = inr g

-- each table is a block's
of_block : (ts : List Table) (bs : List PlacedBlock) (path : Path) → HasTable (tables_from ts bs) path → HasTable ts path ⊎ InBlocks path bs
of_block ts [] path h = inl h
of_block ts (b ∷ bs) path h = by (of_block (ts ++ table_after ts b ∷ []) bs path h)
  where
    first : HasTable ts path ⊎ (b.path ≡ path) → HasTable ts path ⊎ InBlocks path (b ∷ bs)
    first (inl g) = inl g
    first (inr g) = inr (inl g)

    by : HasTable (ts ++ table_after ts b ∷ []) path ⊎ InBlocks path bs → HasTable ts path ⊎ InBlocks path (b ∷ bs)
    by (inl g) = first (has_before ts (table_after ts b) path g)
    by (inr g) = inr (inr g)

module _ (tables : List Table) where
  in_blocks : (bs : List PlacedBlock) (path : Path) → InBlocks path bs → (b : PlainTypedBlock) × (find (λ c. same_path c.path path) (map (typed_of tables) bs) ≡ Some b)
  in_blocks [] path g = absurd g
  in_blocks (x ∷ bs) path g = by (same_path x.path path) refl g (in_blocks bs path)
    where
      by : (y : Bool) → same_path x.path path ≡ y → (x.path ≡ path) ⊎ InBlocks path bs →
          (InBlocks path bs → (b : PlainTypedBlock) × (find (λ c. same_path c.path path) (map (typed_of tables) bs) ≡ Some b)) → (b : PlainTypedBlock) ×
          (cond y (Some (typed_of tables x)) (find (λ c. same_path c.path path) (map (typed_of tables) bs)) ≡ Some b)
      by true k g f = (typed_of tables x, refl)
      by false k (inl g) f = false_true (sym k ∙ subst (λ q. same_path x.path q ≡ true) g (same_path_refl x.path))
      by false k (inr g) f = f g

  -- ---- record types

  tag_fits : (o : Option Slot) → TagStands tables o → (s : Slot) × (t : TypeId) × (o ≡ Some s) × (s.of ≡ Some t) × IsOrdinal tables t
  tag_fits None g = absurd g
  tag_fits (Some s) g = by s.of refl g
    where
      by : (of : Option TypeId) → s.of ≡ of → OrdinalIf tables of → (r : Slot) × (t : TypeId) × (Some s ≡ Some r) × (r.of ≡ Some t) × IsOrdinal tables t
      by None e g = absurd g
      by (Some t) e g = (s, t, refl, e, (g.0, g.1, some_ordinal (ordinal (record { id = Some t; shape = g.0 })) g.0 g.2))

  record_fits : (r : RecordShape) → CompleteRecord tables r → RecordFits tables r
  record_fits r g =
      record {
        within = λ i s w h e. subst (HasPart r) e (g.slots i s h).1;
        outer = λ i q w h e. subst (HasPart r) e (g.parts i q h).0;
        tag = λ i q h. tag_fits (slice_get r.slots q.tag) (g.parts i q h).1;
      }

pub accepted_is_checked : AcceptedIsChecked
accepted_is_checked program p is missing short accepted forms =
    record {
      whole = let w = whole_block program in (w.0, ap (find (λ c. same_path c.path [])) is ∙ w.1);
      blocks = λ path n e. named path (of_block [] (blocks program) path (missing.blocks path n e));
      fits = λ path b e. block_right (tables_of program) p path b
          (found (tables_of program) path b (blocks program) (complete_is_checked program missing short accepted) (frames_fit program accepted)
          (labels_found program missing accepted)
          (sym (ap (find (λ c. same_path c.path path)) is) ∙ e));
      forms = forms;
      records = λ t r h. record_fits (tables_of program) r (missing.shapes t (shape.Rec r) h);
    }
  where
    named : (path : Path) → HasTable [] path ⊎ InBlocks path (blocks program) → (b : PlainTypedBlock) × (block_of p path ≡ Some b)
    named path (inl g) = none_some g.1
    named path (inr g) = let b = in_blocks (tables_of program) (blocks program) path g in (b.0, ap (find (λ c. same_path c.path path)) is ∙ b.1)

-- ---- offsets and cells

-- a parameter's slot has the type that the heading has, where it holds a value
parameters_typed : (form : TypeId → Form) (fs : List FormalParameter) (frame : List FrameSlot) → BeginsWith fs frame → HasTypes fs frame → ParametersTyped form fs frame
parameters_typed form [] frame g h = tt
parameters_typed form (f ∷ fs) [] g h = tt
parameters_typed form (f ∷ fs) (s ∷ frame) g h = (
  ap (λ o. cells_of (slot_form form s.kind o)) h.0
      ∙ subst (λ k. cells_of (slot_form form k (parameter_type f)) ≡ cells_of (slot_form form k f.formal.of)) (sym g.0) (by f.formal.kind),
  parameters_typed form fs frame g.1 h.1,
)
  where
    by : (k : FormalKind) → cells_of (slot_form form (kind.Parameter k) (parameter_type (record f { formal = record f.formal { kind = k } }))) ≡ cells_of
        (slot_form form (kind.Parameter k) f.formal.of)
    by formal.Value = refl
    by formal.Variable = refl
    by formal.Procedure = refl
    by formal.Function = refl

module _ (tables : List Table) (p : Program) where
  -- an array's component has the cells of its form
  size_is : ((t : TypeId) (x : Shape) → shape_of tables t ≡ Some x → table_cells x ≡ saturated (cells_of (p.form t))) → (i : Option Bounds) (c : Option TypeId) (size cells : ℕ) →
      CompleteArray tables i c size cells → size ≡ saturated (cells_of (form_of p.form c))
  size_is f None c size cells k = absurd k
  size_is f (Some b) None size cells k = absurd k
  size_is f (Some b) (Some c) size cells k = k.0.2 ∙ f c k.0.0 k.0.1

  array_files : (c : TypeId) (of : Option TypeId) (file : Bool) → FileAs tables of file → file ≡ false → of ≡ Some c → HoldsNoFile tables c
  array_files c of file k n e x h = sym (subst (λ y. FileAs tables y file) e k x h) ∙ n

  record_files : (c : TypeId) (of : Option TypeId) → HasNoFile tables of → of ≡ Some c → HoldsNoFile tables c
  record_files c of k e x h = subst (HasNoFile tables) e k x h

pub accepted_fits : AcceptedFits
accepted_fits program p is missing short accepted types =
    record {
      checked = accepted_is_checked program p is missing short accepted types.forms;
      cells =
          record {
            frame = types.frame;
            variable = λ path b e n v d.
                let g = found tables path b (blocks program) (complete_is_checked program missing short accepted) (frames_fit program accepted)
                (labels_found program missing accepted) (sym (ap (find (λ c. same_path c.path path)) is) ∙ e) in
                let f : FrameFits tables path b.frame = subst (λ q. FrameFits tables q b.frame) g.0 g.2 in
                let s = f.variable n v d in
                record { number = s.number; slot = s.slot; found = s.found; is = s.is; at = s.offset };
            parameter = λ path b e n q d.
                let g = found tables path b (blocks program) (complete_is_checked program missing short accepted) (frames_fit program accepted)
                (labels_found program missing accepted) (sym (ap (find (λ c. same_path c.path path)) is) ∙ e) in
                let f : FrameFits tables path b.frame = subst (λ q. FrameFits tables q b.frame) g.0 g.2 in
                let s = f.parameter n q d in
                record { number = s.number; slot = s.slot; found = s.found; is = s.at; at = s.offset };
            result = types.result;
            fields = types.fields;
            parts = types.parts;
          };
      types =
          record {
            counted = types.counted;
            parameters = λ path b e.
                let g = found tables path b (blocks program) (complete_is_checked program missing short accepted) (frames_fit program accepted)
                (labels_found program missing accepted) (sym (ap (find (λ c. same_path c.path path)) is) ∙ e) in
                let f : FrameFits tables path b.frame = subst (λ q. FrameFits tables q b.frame) g.0 g.2 in
                parameters_typed p.form (parameters_of tables path) b.frame f.parameters f.types;
            size = λ t a h. size_is tables p types.cells a.index a.component a.size a.cells (missing.shapes t (shape.Arr a) h).0;
            cells = types.cells;
            arrays = λ t a c h n e. array_files tables p c a.component a.file (missing.shapes t (shape.Arr a) h).1 n e;
            records = λ t r i s c h n k e. record_files tables p c s.of ((missing.shapes t (shape.Rec r) h).files n i s k) e;
            ordinals = types.ordinals;
          };
      procedures = types.procedures;
    }
  where
    tables : List Table
    tables = tables_of program

pub accepted_is_never_wrong : AcceptedIsNeverWrong
accepted_is_never_wrong program p is missing short accepted types input bound n =
    never_wrong (tables_of program) p (accepted_fits program p is missing short accepted types) input bound n

-- a program that fits its tables has what is asked for
pub fits_right : (tables : List Table) (p : Program) → FitsItsTables tables p → TypesAreRight tables p
fits_right tables p f =
    record {
      forms = f.checked.forms;
      frame = f.cells.frame;
      result = f.cells.result;
      fields = f.cells.fields;
      parts = f.cells.parts;
      counted = f.types.counted;
      cells = f.types.cells;
      ordinals = f.types.ordinals;
      procedures = f.procedures;
    }
