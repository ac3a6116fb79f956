-- The files `input` and `output` are never closed: values in which no file is closed, and the kinds of the parts of the
-- standard files, which are no arrays and no records.
use Rattle.std.proofs.Common.{◌≡◌, ℕ, zero, suc, List, [], ◌∷◌, Option, Some, None, Bool, true, false, refl, sym, ap, ◌∙◌, subst}
use Rattle.std.specs.Prelude.{◌&&◌, ◌||◌, if◌then◌else◌}
use Rattle.std.proofs.lemmas.Bool.{and_parts}
use Rattle.mp_files.specs.declared.causes.TheConstants.{WRONG_STATE, END_OF_FILE}
use Rattle.mp_files.specs.TextFiles.{TextFile, FileCall, Gives, Fails, is_reading, is_writing, is_nothing, in_writing, at_item}
use Rattle.mp_tables.specs.declared.types.TypeId.{TypeId}
use Rattle.mp_tables.specs.declared.types.TypeId.TheVariants as type
use Rattle.mp_tables.specs.declared.types.ArrayShape.{ArrayShape}
use Rattle.mp_tables.specs.declared.types.RecordShape.{RecordShape}
use Rattle.mp_tables.specs.declared.types.Shape.TheVariants as shape
use Rattle.mp_tables.specs.Seen.{shape_of}
use Rattle.mp_meaning.specs.Values.{Reference, Value, Undefined, Number, Members, Pointer, Routine, Refers, File, Structure, Values, NoValues, Then, is_plain, all_plain, value_at, part_in, component, changed_at, changed_in, changed}
use Rattle.mp_meaning.specs.FileCalls.{is_open, buffer_value}
use Rattle.mp_meaning.proofs.SoundKinds.{Given, Kind, Of, TheFile, RefersTo, Runs, Frame, Files, part_kind, part_at, kind_at, World, Spot}
use Rattle.mp_meaning.proofs.SoundCells.{both}

-- ---- values in which no file is closed

abbrev mutual
  pub all_open : Value → Bool
  all_open (File f) = is_open f.state
  all_open (Structure vs) = each_open vs
  all_open _ = true

  pub each_open : Values → Bool
  each_open NoValues = true
  each_open (Then v more) = all_open v && each_open more

pub buffer_open : (b : Option ℕ) → all_open (buffer_value b) ≡ true
buffer_open None = refl
buffer_open (Some n) = refl

mutual
  pub plain_open : (v : Value) → is_plain v ≡ true → all_open v ≡ true
  plain_open (Structure vs) e = each_plain_open vs e
  plain_open (File f) e = absurd (let f : ⊥ = cc in f)
  plain_open Undefined e = refl
  plain_open (Number n) e = refl
  plain_open (Members set) e = refl
  plain_open (Pointer o) e = refl
  plain_open (Routine path parent) e = refl
  plain_open (Refers root way type) e = refl

  each_plain_open : (vs : Values) → all_plain vs ≡ true → each_open vs ≡ true
  each_plain_open NoValues e = refl
  each_plain_open (Then v more) e =
      let p = and_parts (is_plain v) (all_plain more) e in
      both (all_open v) (each_open more) (plain_open v p.0) (each_plain_open more p.1)

-- components

value_open : (vs : Values) (i : ℕ) (x : Value) → each_open vs ≡ true → value_at vs i ≡ Some x → all_open x ≡ true
value_open NoValues i x e f = absurd (let f : ⊥ = cc in f)
value_open (Then v more) zero x e f =
    let p = and_parts (all_open v) (each_open more) e in
    let same : v ≡ x = cc in
    ap all_open (sym same) ∙ p.0
value_open (Then v more) (suc i) x e f = let p = and_parts (all_open v) (each_open more) e in value_open more i x p.1 f

part_open : (v : Value) (i : ℕ) (x : Value) → all_open v ≡ true → part_in (Some v) i ≡ Some x → all_open x ≡ true
part_open (Structure vs) i x e f = value_open vs i x e f
part_open (File g) i x e f = absurd (let f : ⊥ = cc in f)
part_open Undefined i x e f = absurd (let f : ⊥ = cc in f)
part_open (Number n) i x e f = absurd (let f : ⊥ = cc in f)
part_open (Members set) i x e f = absurd (let f : ⊥ = cc in f)
part_open (Pointer o) i x e f = absurd (let f : ⊥ = cc in f)
part_open (Routine path parent) i x e f = absurd (let f : ⊥ = cc in f)
part_open (Refers root way type) i x e f = absurd (let f : ⊥ = cc in f)

pub component_open : (v : Value) (way : List ℕ) (x : Value) → all_open v ≡ true → component v way ≡ Some x → all_open x ≡ true
component_open v [] x e f = let same : v ≡ x = cc in ap all_open (sym same) ∙ e
component_open v (i ∷ way) x e f = by_whole (λ w h. component_open v way w e h) (component v way) refl f
  where
    by_whole : ((w : Value) → component v way ≡ Some w → all_open w ≡ true) → (o : Option Value) → component v way ≡ o → part_in o i ≡ Some x → all_open x ≡ true
    by_whole whole None h f = absurd (let f : ⊥ = cc in f)
    by_whole whole (Some w) h f = part_open w i x (whole w h) f

abbrev pub KeepsOpen : (Value → Value) → Type 0
KeepsOpen change = (v : Value) → all_open v ≡ true → all_open (change v) ≡ true

each_changed_open : (i : ℕ) (change : Value → Value) (vs : Values) → KeepsOpen change → each_open vs ≡ true → each_open (changed_at i change vs) ≡ true
each_changed_open i change NoValues f e = e
each_changed_open zero change (Then v more) f e =
    let p = and_parts (all_open v) (each_open more) e in both (all_open (change v)) (each_open more) (f v p.0) p.1
each_changed_open (suc i) change (Then v more) f e =
    let p = and_parts (all_open v) (each_open more) e in
    both (all_open v) (each_open (changed_at i change more)) p.0 (each_changed_open i change more f p.1)

part_changed_open : (i : ℕ) (change : Value → Value) → KeepsOpen change → KeepsOpen (changed_in i change)
part_changed_open i change f (Structure vs) e = each_changed_open i change vs f e
part_changed_open i change f (File g) e = e
part_changed_open i change f Undefined e = e
part_changed_open i change f (Number n) e = e
part_changed_open i change f (Members set) e = e
part_changed_open i change f (Pointer o) e = e
part_changed_open i change f (Routine path parent) e = e
part_changed_open i change f (Refers root way type) e = e

pub changed_open : (v : Value) (way : List ℕ) (change : Value → Value) → KeepsOpen change → all_open v ≡ true → all_open (changed v way change) ≡ true
changed_open v [] change f e = f v e
changed_open v (i ∷ way) change f e = changed_open v way (changed_in i change) (part_changed_open i change f) e

-- ---- a call that gives something leaves its file open

abbrev pub LeavesOpen : {A : Type 0} → FileCall A → Type 0
LeavesOpen (Gives v f) = is_open f.state ≡ true
LeavesOpen (Fails fault) = Unit {0}

or_left : (a b : Bool) → a ≡ true → (a || b) ≡ true
or_left true b e = refl
or_left false b e = absurd (let f : ⊥ = cc in f)

or_second : (a b : Bool) → b ≡ true → (a || b) ≡ true
or_second true b e = refl
or_second false b e = e

if_open : {A : Type 0} (b : Bool) (call : FileCall A) (n : ℕ) → (b ≡ true → LeavesOpen call) → LeavesOpen (if b then call else Fails n)
if_open true call n f = f refl
if_open false call n f = tt

unless_open : {A : Type 0} (b : Bool) (call : FileCall A) (n : ℕ) → LeavesOpen call → LeavesOpen (if b then Fails n else call)
unless_open true call n f = tt
unless_open false call n f = f

pub writing_open : {A : Type 0} (f : TextFile) (call : FileCall A) → (is_open f.state ≡ true → LeavesOpen call) → LeavesOpen (in_writing f call)
writing_open f call h = if_open (is_writing f.state) call WRONG_STATE (λ e. h (or_second (is_reading f.state) (is_writing f.state) e))

pub item_open : {A : Type 0} (f : TextFile) (call : FileCall A) → (is_open f.state ≡ true → LeavesOpen call) → LeavesOpen (at_item f call)
item_open f call h =
    if_open (is_reading f.state) (if is_nothing f.behind then Fails END_OF_FILE else call) WRONG_STATE (λ e.
    unless_open (is_nothing f.behind) call END_OF_FILE (h (or_left (is_reading f.state) (is_writing f.state) e)))

pub if_leaves : {A : Type 0} (b : Bool) (n : ℕ) (call : FileCall A) → LeavesOpen call → LeavesOpen (if b then Fails n else call)
if_leaves b n call f = unless_open b call n f

-- ---- the parts of the standard files

abbrev pub IsStandard : Kind → Type 0
IsStandard Files = Unit {0}
IsStandard TheFile = Unit {0}
IsStandard (Of (Some type.Text)) = Unit {0}
IsStandard (Of (Some type.Char)) = Unit {0}
IsStandard _ = ⊥

standard_part : (g : Given) (k q : Kind) (i : ℕ) → IsStandard k → part_kind g k i ≡ Some q → IsStandard q
standard_part g Files q zero h e = let same : Of (Some type.Text) ≡ q = cc in subst IsStandard same tt
standard_part g Files q (suc zero) h e = let same : Of (Some type.Text) ≡ q = cc in subst IsStandard same tt
standard_part g Files q (suc (suc i)) h e = absurd (let f : ⊥ = cc in f)
standard_part g (Of (Some type.Text)) q zero h e = let same : TheFile ≡ q = cc in subst IsStandard same tt
standard_part g (Of (Some type.Text)) q (suc zero) h e = let same : Of (Some type.Char) ≡ q = cc in subst IsStandard same tt
standard_part g (Of (Some type.Text)) q (suc (suc i)) h e = absurd (let f : ⊥ = cc in f)
standard_part g (Of (Some type.Char)) q i h e = absurd (let f : ⊥ = cc in f)
standard_part g TheFile q i h e = absurd (let f : ⊥ = cc in f)
standard_part g (Of (Some type.Integer)) q i h e = absurd h
standard_part g (Of (Some type.Boolean)) q i h e = absurd h
standard_part g (Of (Some (type.Own path at))) q i h e = absurd h
standard_part g (Of None) q i h e = absurd h
standard_part g (RefersTo t) q i h e = absurd h
standard_part g (Runs a older) q i h e = absurd h
standard_part g (Frame path older) q i h e = absurd h

standard_at : (g : Given) (way : List ℕ) (q : Kind) → kind_at g Files way ≡ Some q → IsStandard q
standard_at g [] q e = let same : Files ≡ q = cc in subst IsStandard same tt
standard_at g (i ∷ way) q e = by_kind (λ k h. standard_at g way k h) (kind_at g Files way) refl e
  where
    by_kind : ((k : Kind) → kind_at g Files way ≡ Some k → IsStandard k) → (o : Option Kind) → kind_at g Files way ≡ o → part_at g o i ≡ Some q → IsStandard q
    by_kind deeper None h e = absurd (let f : ⊥ = cc in f)
    by_kind deeper (Some k) h e = standard_part g k q i (deeper k h) e

-- a part of the variable of number 0
pub at_standard : {g : Given} {k : Kind} {w : World} (r : Reference) → Spot g k w r → w.kind 0 ≡ Some Files → r.root ≡ 0 → IsStandard k
at_standard {g} {k} {w} r s files first =
    let here : w.kind 0 ≡ Some s.whole = subst (λ n. w.kind n ≡ Some s.whole) first s.root in
    let one : Some s.whole ≡ Some Files = sym here ∙ files in
    let same : s.whole ≡ Files = cc in
    standard_at g r.way k (subst (λ q. kind_at g q r.way ≡ Some k) same s.there)

pub no_standard_record : (g : Given) (t : TypeId) (r : RecordShape) → shape_of g.tables t ≡ Some (shape.Rec r) → IsStandard (Of (Some t)) → ⊥
no_standard_record g type.Text r e h = cc
no_standard_record g type.Char r e h = cc
no_standard_record g type.Integer r e h = h
no_standard_record g type.Boolean r e h = h
no_standard_record g (type.Own path at) r e h = h

pub no_standard_array : (g : Given) (t : TypeId) (a : ArrayShape) → shape_of g.tables t ≡ Some (shape.Arr a) → IsStandard (Of (Some t)) → ⊥
no_standard_array g type.Text a e h = cc
no_standard_array g type.Char a e h = cc
no_standard_array g type.Integer a e h = h
no_standard_array g type.Boolean a e h = h
no_standard_array g (type.Own path at) a e h = h
