-- What each step keeps.
use Rattle.std.proofs.Common.{◌≡◌, ℕ, zero, suc, ◌+◌, ◌<◌, ◌≤◌, List, [], ◌∷◌, ◌++◌, Option, Some, None, Bool, true, false}
use Rattle.std.proofs.Common.{refl, sym, ap, ◌∙◌, subst, append_assoc, arith}
use Rattle.std.proofs.lemmas.List.{append-nil}
use Rattle.std.specs.Prelude.{nat_eq, nat_le, nat_lt, slice_get, slice_set, length}
use Rattle.mp_base.specs.declared.limits.TheConstants.{ACTIVATION_LIMIT, CELL_LIMIT}
use Rattle.mp_code.specs.declared.instructions.Operation.{Operation}
use Rattle.mp_code.specs.declared.instructions.Operation.TheVariants as operation
use Rattle.mp_code.specs.BlockCode.{BlockCode}
use Rattle.mp_memory.specs.declared.cells.Cell.{Cell}
use Rattle.mp_memory.specs.declared.cells.Cell.TheVariants as cell
use Rattle.mp_memory.specs.Roots.{Roots, with_root}
use Rattle.mp_machine.specs.Blocks.{Path}
use Rattle.mp_files.specs.TextFiles.{TextFile}
use Rattle.mp_machine.specs.Activations.{Activation, seek, holder, find_activation}
use Rattle.mp_machine.specs.States.{Frame, State, Codes, code_of, activations_in}
use Rattle.mp_machine.specs.Outcomes.{Outcome, Done, Fault, Limit, Missing, Ended, Lacking, Stuck, bind, ◌>>=◌, ◌>>◌, needs}
use Rattle.mp_machine.specs.Outcomes.{unless, limit, stuck, update}
use Rattle.mp_machine.specs.Operands.{take_all}
use Rattle.mp_machine.specs.Memory.{with_root_cells}
use Rattle.mp_machine.specs.CallRows.{loaded, entered, enter, must_have_room, call, call_by, as_routine}
use Rattle.mp_machine.specs.CallRows as calls
use Rattle.mp_machine.specs.ObjectRows.{with_object, new}
use Rattle.mp_machine.specs.Table.{row}
use Rattle.mp_machine.specs.Laws.{HasNoCode, IsLonger, AreFresh, AreInOrder, Later, adds_a_root}
use Rattle.mp_machine.proofs.Rows.{Keeping, Keeps, Kept, keeps_two, bind_kept, then_kept, looks_kept, unless_kept, limit_kept}
use Rattle.mp_machine.proofs.Rows.{stuck_kept, update_kept, gives_kept, take_all_kept, take_cell_kept, take_address_kept}
use Rattle.mp_machine.proofs.Rows.{cell_of_kept, set_cell_kept, row_kept}

-- ---- lists that grow

none_longer : {A : Type 0} (xs : List A) → IsLonger xs xs
none_longer xs = ([], sym (append-nil xs))

more_longer : {A : Type 0} (xs more : List A) → IsLonger xs (xs ++ more)
more_longer xs more = (more, refl)

two_longer : {A : Type 0} (xs ys zs : List A) → IsLonger xs ys → IsLonger ys zs → IsLonger xs zs
two_longer xs ys zs f g = (f.0 ++ g.0, g.1 ∙ ap (λ l. l ++ g.0) f.1 ∙ append_assoc xs f.0 g.0)

-- ---- the file of a number

get_set_same : {A : Type 0} (xs : List A) (k : ℕ) (old new : A) → slice_get xs k ≡ Some old →
    slice_get (slice_set xs k new) k ≡ Some new
get_set_same [] k old new e = absurd (let v : ⊥ = cc in v)
get_set_same (x ∷ xs) zero old new e = refl
get_set_same (x ∷ xs) (suc k) old new e = get_set_same xs k old new e

get_set_other : {A : Type 0} (xs : List A) (k j : ℕ) (new : A) → (k ≡ j → ⊥) → slice_get (slice_set xs k new) j ≡ slice_get xs j
get_set_other [] k j new apart = refl
get_set_other (x ∷ xs) zero zero new apart = absurd (apart refl)
get_set_other (x ∷ xs) zero (suc j) new apart = refl
get_set_other (x ∷ xs) (suc k) zero new apart = refl
get_set_other (x ∷ xs) (suc k) (suc j) new apart = get_set_other xs k j new (λ is. apart (ap suc is))

get_longer : {A : Type 0} (xs more : List A) (k : ℕ) (x : A) → slice_get xs k ≡ Some x → slice_get (xs ++ more) k ≡ Some x
get_longer [] more k x e = absurd (let v : ⊥ = cc in v)
get_longer (y ∷ xs) more zero x e = e
get_longer (y ∷ xs) more (suc k) x e = get_longer xs more k x e

-- ---- roots

root_other : {A : Type 0} (roots : ℕ → A) (r : ℕ) (new : A) (q : ℕ) → (q ≡ r → ⊥) → with_root roots r new q ≡ roots q
root_other {A} roots r new q apart = by_test (nat_eq q r) refl
  where
    by_test : (b : Bool) → nat_eq q r ≡ b → (elim b as (λ is. A) [ true ↦ new | false ↦ roots q ]) ≡ roots q
    by_test true e = absurd (apart (grind (arith, e)))
    by_test false e = refl

-- ---- the changes of which rows consist

-- what does not change roots, frames, objects, blocks and files
later_if : (s t : State) → s.next_root ≤ t.next_root → ((r : ℕ) → r < s.next_root → s.roots r ≡ None → t.roots r ≡ None) →
    (AreFresh s.roots s.next_root → AreFresh t.roots t.next_root) → (AreInOrder s.next_root s.frames →
    AreInOrder t.next_root t.frames) → s.objects ≡ t.objects → s.blocks ≡ t.blocks → s.files ≡ t.files →
    s.written ≡ t.written → Later s t
later_if s t numbers dropped fresh order objects blocks files written = record {
  numbers = numbers;
  dropped = dropped;
  fresh = fresh;
  order = order;
  objects = subst (λ l. IsLonger s.objects l) objects (none_longer s.objects);
  blocks = subst (λ l. IsLonger s.blocks l) blocks (none_longer s.blocks);
  output = λ f e. (f, subst (λ l. slice_get l 1 ≡ Some f) files e, none_longer f.before);
  written = omega (arith, written);
}

same_later : (s : State) → Later s s
same_later s = later_if s s (omega arith) (λ r l e. e) (λ g. g) (λ g. g) refl refl refl refl

two_later : (s t u : State) → Later s t → Later t u → Later s u
two_later s t u f g = record {
  numbers = omega (arith, f.numbers, g.numbers);
  dropped = λ r l e. g.dropped r (omega (arith, l, f.numbers)) (f.dropped r l e);
  fresh = λ h. g.fresh (f.fresh h);
  order = λ h. g.order (f.order h);
  objects = two_longer s.objects t.objects u.objects f.objects g.objects;
  blocks = two_longer s.blocks t.blocks u.blocks f.blocks g.blocks;
  output = λ o e. let a = f.output o e in let b = g.output a.0 a.1 in
      (b.0, b.1, two_longer o.before (a.0).before (b.0).before a.2 b.2);
  written = omega (arith, f.written, g.written);
}

-- the order speaks of the activations alone
order_of : ℕ → List Activation → Type 0
order_of n [] = Unit {0}
order_of n (a ∷ older) = (a.number < n) × (a.parent < a.number) × order_of a.number older

to_order : (n : ℕ) (fs : List Frame) → AreInOrder n fs → order_of n (activations_in fs)
unfolding order_of
to_order n [] g = tt
to_order n (f ∷ older) g = (g.0, g.1, to_order f.activation.number older g.2)

from_order : (n : ℕ) (fs : List Frame) → order_of n (activations_in fs) → AreInOrder n fs
unfolding order_of
from_order n [] g = tt
from_order n (f ∷ older) g = (g.0, g.1, from_order f.activation.number older g.2)

newest_later : (s : State) (fs : List Frame) → activations_in fs ≡ activations_in s.frames → Later s (record s { frames = fs })
newest_later s fs same = later_if s (record s { frames = fs }) (omega arith) (λ r l e. e) (λ g. g)
    (λ g. from_order s.next_root fs (subst (λ l. order_of s.next_root l) (sym same) (to_order s.next_root s.frames g))) refl
    refl refl refl

wider : (n m : ℕ) (fs : List Frame) → n ≤ m → AreInOrder n fs → AreInOrder m fs
wider n m [] l g = tt
wider n m (f ∷ older) l g = (omega (arith, l, g.0), g.1, g.2)

older_later : (s : State) (f : Frame) (older : List Frame) → s.frames ≡ f ∷ older → Later s (record s { frames = older })
older_later s f older e = later_if s (record s { frames = older }) (omega arith) (λ r l e. e) (λ g. g)
    (λ g. let h : AreInOrder s.next_root (f ∷ older) = subst (λ l. AreInOrder s.next_root l) e g in
    wider f.activation.number s.next_root older (omega (arith, h.0)) h.2) refl refl refl refl

place_later : (s : State) (k : ℕ) → Later s (record s { at = k })
place_later s k = later_if s (record s { at = k }) (omega arith) (λ r l e. e) (λ g. g) (λ g. g) refl refl refl refl

pub none_where_was_none : (roots : Roots) (r : ℕ) (old new : List Cell) (q : ℕ) → roots r ≡ Some old → roots q ≡ None →
    with_root roots r (Some new) q ≡ None
none_where_was_none roots r old new q e n = root_other roots r (Some new) q (λ is. let w : None ≡ Some old = sym n ∙
    ap roots is ∙ e in absurd (let v : ⊥ = cc in v)) ∙ n

cells_later : (s : State) (r : ℕ) (old new : List Cell) → s.roots r ≡ Some old → Later s (with_root_cells r new s)
cells_later s r old new e = later_if s (with_root_cells r new s) (omega arith) (λ q l n. none_where_was_none s.roots r old new
    q e n) (λ g q l. none_where_was_none s.roots r old new q e (g q l)) (λ g. g) refl refl refl refl

pub still_none : (roots : Roots) (r q : ℕ) → roots q ≡ None → with_root roots r None q ≡ None
still_none roots r q e = by_test (nat_eq q r)
  where
    by_test : (b : Bool) → (elim b as (λ is. Option (List Cell)) [ true ↦ None | false ↦ roots q ]) ≡ None
    by_test true = refl
    by_test false = e

none_later : (s : State) (r : ℕ) → Later s (record s { roots = with_root s.roots r None })
none_later s r = later_if s (record s { roots = with_root s.roots r None }) (omega arith) (λ q l n. still_none s.roots r q n)
    (λ g q l. still_none s.roots r q (g q l)) (λ g. g) refl refl refl refl

blocks_later : (s : State) (more : List Path) → Later s (record s { blocks = s.blocks ++ more })
blocks_later s more = record {
  numbers = omega arith;
  dropped = λ r l e. e;
  fresh = λ g. g;
  order = λ g. g;
  objects =
      none_longer s.objects;
  blocks = more_longer s.blocks more;
  output = λ o found. (o, found, none_longer o.before);
  written =
      omega arith;
}

file_later : (s : State) (k : ℕ) (f g : TextFile) → slice_get s.files k ≡ Some f → (k ≡ 1 → IsLonger f.before g.before) →
    Later s (record s { files = slice_set s.files k g })
file_later s k f g e longer = record {
  numbers = omega arith;
  dropped = λ r l e. e;
  fresh = λ g. g;
  order = λ g. g;
  objects =
      none_longer s.objects;
  blocks = none_longer s.blocks;
  output = λ o found. by_test o found (nat_eq k 1) refl;
  written =
      omega arith;
}
  where
    by_test : (o : TextFile) → slice_get s.files 1 ≡ Some o → (b : Bool) → nat_eq k 1 ≡ b → (p : TextFile) ×
        (slice_get (slice_set s.files k g) 1 ≡ Some p) × IsLonger o.before p.before
    by_test o found true is =
        let at : k ≡ 1 = grind (arith, is) in
        let here : slice_get s.files k ≡ Some o = ap (slice_get s.files) at ∙ found in
        let w : Some f ≡ Some o = sym e ∙ here in
        let one : f ≡ o = cc in (
          g,
          subst (λ j. slice_get (slice_set s.files k g) j ≡ Some g) at (get_set_same s.files k f g e),
          subst
              (λ x. IsLonger x.before g.before) one (longer at),
        )
    by_test o found false is = (
      o,
      get_set_other s.files k 1 g (λ at. let w : true ≡ false =
          subst (λ j. nat_eq j 1 ≡ false) at is in absurd (let v : ⊥ = cc in v)) ∙ found,
      none_longer o.before,
    )

files_later : (s : State) (more : List TextFile) → Later s (record s { files = s.files ++ more })
files_later s more = record {
  numbers = omega arith;
  dropped = λ r l e. e;
  fresh = λ g. g;
  order = λ g. g;
  objects =
      none_longer s.objects;
  blocks = none_longer s.blocks;
  output =
      λ o found. (o, get_longer s.files more 1 o found, none_longer o.before);
  written = omega arith;
}

written_later : (s : State) (n : ℕ) → Later s (record s { written = s.written + n })
written_later s n = record {
  numbers = omega arith;
  dropped = λ r l e. e;
  fresh = λ g. g;
  order = λ g. g;
  objects =
      none_longer s.objects;
  blocks = none_longer s.blocks;
  output = λ o found. (o, found, none_longer o.before);
  written =
      omega arith;
}

pub later_keeping : Keeping Later
later_keeping = record {
  same = same_later;
  two = two_later;
  newest = newest_later;
  older = older_later;
  place = place_later;
  cells = cells_later;
  none = none_later;
  blocks = blocks_later;
  file = file_later;
  files = files_later;
  written = written_later;
}

-- ---- calls: a static parent that is found is one of the live activations

-- what is found outward from an activation is one below the bound
sought : (n : ℕ) (fs : List Frame) (number d r : ℕ) → AreInOrder n fs → seek (activations_in fs) number d ≡ Some r → r < n
sought n [] number d r g e = absurd (let v : ⊥ = cc in v)
sought n (f ∷ older) number d r g e =
    by_number (nat_eq f.activation.number number) refl e (λ m found. let l : r < f.activation.number =
    sought f.activation.number older m d r g.2 found in omega (arith, l, g.0))
  where
    by_depth : (b : Bool) → nat_eq f.activation.number number ≡ true →
        (elim b as (λ is. Option ℕ) [ true ↦ Some number | false ↦ seek (activations_in older) f.activation.parent d ]) ≡ Some
        r → ((m : ℕ) → seek (activations_in older) m d ≡ Some r → r < n) → r < n
    by_depth true same found below = let is : number ≡ r = cc in let at : f.activation.number ≡ number = grind (arith, same) in
        omega (arith, is, at, g.0)
    by_depth false same found below = below f.activation.parent found

    by_number : (b : Bool) → nat_eq f.activation.number number ≡ b →
        (elim b as (λ is. Option ℕ) [
          | true ↦ elim (nat_eq (length f.activation.block) d) as (λ is. Option ℕ) [
            | true ↦
                Some number
            | false ↦ seek (activations_in older) f.activation.parent d
          ]
          | false ↦
              seek (activations_in older) number d
        ]) ≡ Some r → ((m : ℕ) → seek (activations_in older) m d ≡ Some r → r < n) → r < n
    by_number true same found below = by_depth (nat_eq (length f.activation.block) d) same found below
    by_number false same found below = below number found

held : (n : ℕ) (fs : List Frame) (d r : ℕ) → AreInOrder n fs → holder (activations_in fs) d ≡ Some r → r < n
held n [] d r g e = absurd (let v : ⊥ = cc in v)
held n (f ∷ older) d r g e = sought n (f ∷ older) f.activation.number d r g e

found_live : (n : ℕ) (fs : List Frame) (r : ℕ) (a : Activation) → AreInOrder n fs →
    find_activation (activations_in fs) r ≡ Some a → a.number < n
found_live n [] r a g e = absurd (let v : ⊥ = cc in v)
found_live n (f ∷ older) r a g e = by_number (nat_eq f.activation.number r) e
    (λ found. let l : a.number < f.activation.number = found_live f.activation.number older r a g.2 found in
    omega (arith, l, g.0))
  where
    by_number : (b : Bool) → (elim b as (λ is. Option Activation) [
      | true ↦ Some f.activation
      | false ↦
          find_activation (activations_in older) r
    ]) ≡ Some a → (find_activation (activations_in older) r ≡ Some a →
        a.number < n) → a.number < n
    by_number true found below = let is : f.activation ≡ a = cc in subst (λ x. x.number < n) is g.0
    by_number false found below = below found

-- ---- calls: the new activation

entered_later : (s u : State) (code : BlockCode) (path : Path) (parent : ℕ) (cells : List Cell) → Later s u →
    (AreInOrder s.next_root s.frames → parent < s.next_root) → Later s (entered code path parent cells u)
entered_later s u code path parent cells g older = record {
  numbers = omega (arith, g.numbers);
  dropped = λ r l e. root_other u.roots u.next_root _ r (λ is. let w : ⊥ = omega (arith, is, l, g.numbers) in w) ∙
      g.dropped r l e;
  fresh = λ h r l. root_other u.roots u.next_root _ r (λ is. let w : ⊥ = omega (arith, is, l) in w) ∙
      g.fresh h r (omega (arith, l));
  order = λ h. (omega arith, omega (arith, older h, g.numbers), g.order h);
  objects = g.objects;
  blocks = g.blocks;
  output = g.output;
  written = g.written;
}

module _ (codes : Codes) where
  -- from a fixed state on
  from : {A B : Type 0} (s : State) (o : Outcome A) (go : A → State → Outcome B) → Keeps Later (HasNoCode codes) later_keeping
      s o → ((x : A) (t : State) → Later s t → Keeps Later (HasNoCode codes) later_keeping s (go x t)) →
      Keeps Later (HasNoCode codes) later_keeping s (bind o go)
  from s (Done x t) go k f = f x t k.by
  from s (Fault n t) go k f = record { by = k.by }
  from s (Limit n t) go k f = record { by = k.by }
  from s (Ended t) go k f = record { by = k.by }
  from s (Missing path) go k f = record { by = k.by }
  from s Lacking go k f = record { by = tt }
  from s Stuck go k f = record { by = tt }

  unless_from : (s u : State) (b : Bool) (m : State → Outcome (Unit {0})) → Later s u →
      ((t : State) → Later s t → Keeps Later (HasNoCode codes) later_keeping s (m t)) →
      Keeps Later (HasNoCode codes) later_keeping s (unless b m u)
  unless_from s u true m g f = record { by = g }
  unless_from s u false m g f = f u g

  enter_from : (s u : State) (code : BlockCode) (path : Path) (parent : ℕ) (cells : List Cell) → Later s u →
      (AreInOrder s.next_root s.frames → parent < s.next_root) → Keeps Later (HasNoCode codes) later_keeping s
      (enter code path parent cells u)
  enter_from s u code path parent cells g older =
      from s (unless (nat_le (length cells) code.frame) stuck u)
      (λ x t. (must_have_room code.counted >> update (entered code path parent cells)) t)
      (unless_from s u (nat_le (length cells) code.frame) stuck g (λ t k. record { by = tt })) (λ x t k.
      from s (must_have_room code.counted t) (λ y v. update (entered code path parent cells) v) (room t k)
      (λ y v l. record { by = entered_later s v code path parent cells l older }))
    where
      room : (t : State) → Later s t → Keeps Later (HasNoCode codes) later_keeping s (must_have_room code.counted t)
      room t k = from s (unless (nat_lt (length t.frames) ACTIVATION_LIMIT) (limit 1) t)
          (λ y v. unless (nat_le (calls.cells_with t code.counted) CELL_LIMIT) (limit 2) v)
          (unless_from s t (nat_lt (length t.frames) ACTIVATION_LIMIT) (limit 1) k (λ v l. record { by = l }))
          (λ y v l. unless_from s v (nat_le (calls.cells_with t code.counted) CELL_LIMIT) (limit 2) l
          (λ w m. record { by = m }))

  loaded_kept : (path : Path) → Kept Later (HasNoCode codes) later_keeping (loaded (code_of codes path) path)
  loaded_kept path = by_code (code_of codes path) refl
    where
      by_code : (o : Option BlockCode) → code_of codes path ≡ o → Kept Later (HasNoCode codes) later_keeping (loaded o path)
      by_code None e = record { by = λ s. record { by = e } }
      by_code (Some code) e = gives_kept Later (HasNoCode codes) later_keeping code

  call_later : (d : ℕ) (path : Path) (n : ℕ) → Kept Later (HasNoCode codes) later_keeping (call codes d path n)
  call_later d path n = record { by = λ s. by_parent s (holder (activations_in s.frames) d) refl }
    where
      by_parent : (s : State) (o : Option ℕ) → holder (activations_in s.frames) d ≡ o →
          Keeps Later (HasNoCode codes) later_keeping s (bind (needs o s) (λ parent t. calls.call_with codes path n parent t))
      by_parent s None e = record { by = tt }
      by_parent s (Some parent) e =
          from s (loaded (code_of codes path) path s) (λ code t. (take_all n >>= (λ cells. enter code path parent cells)) t)
          ((loaded_kept path).by s) (λ code t g.
          from s (take_all n t) (λ cells u. enter code path parent cells u) (keeps_two Later (HasNoCode codes) later_keeping s
          t (take_all n t) g ((take_all_kept Later (HasNoCode codes) later_keeping n).by t)) (λ cells u k.
          enter_from s u code path parent cells k (λ h. held s.next_root s.frames d parent h e)))

  routine_kept : (x : Cell) → Kept Later (HasNoCode codes) later_keeping (as_routine x)
  routine_kept (cell.Code block act) = gives_kept Later (HasNoCode codes) later_keeping (block, act)
  routine_kept cell.Undef = stuck_kept Later (HasNoCode codes) later_keeping
  routine_kept (cell.Int n) = stuck_kept Later (HasNoCode codes) later_keeping
  routine_kept (cell.Members set) = stuck_kept Later (HasNoCode codes) later_keeping
  routine_kept (cell.Ptr k) = stuck_kept Later (HasNoCode codes) later_keeping
  routine_kept (cell.Ref r o) = stuck_kept Later (HasNoCode codes) later_keeping
  routine_kept (cell.FileNo k) = stuck_kept Later (HasNoCode codes) later_keeping

  call_by_later : (n : ℕ) → Kept Later (HasNoCode codes) later_keeping (call_by codes n)
  call_by_later n =
      bind_kept Later (HasNoCode codes) later_keeping (take_all_kept Later (HasNoCode codes) later_keeping n)
      (λ cells. bind_kept Later (HasNoCode codes) later_keeping (take_cell_kept Later (HasNoCode codes) later_keeping)
      (λ x. bind_kept Later (HasNoCode codes) later_keeping (routine_kept x) (λ routine.
      record { by = λ s. by_path s cells routine (slice_get s.blocks routine.0) })))
    where
      by_parent : (s : State) (cells : List Cell) (path : Path) (act : ℕ) (o : Option Activation) →
          find_activation (activations_in s.frames) act ≡ o → Keeps Later (HasNoCode codes) later_keeping s
          (bind (needs o s) (λ parent t. (loaded (code_of codes path) path >>= (λ code. enter code path parent.number cells))
          t))
      by_parent s cells path act None e = record { by = tt }
      by_parent s cells path act (Some parent) e =
          from s (loaded (code_of codes path) path s) (λ code t. enter code path parent.number cells t)
          ((loaded_kept path).by s) (λ code t g.
          enter_from s t code path parent.number cells g (λ h. found_live s.next_root s.frames act parent h e))

      by_path : (s : State) (cells : List Cell) (routine : ℕ × ℕ) (o : Option Path) →
          Keeps Later (HasNoCode codes) later_keeping s
          (bind (needs o s) (λ path t. (needs (find_activation (activations_in s.frames) routine.1) >>=
          (λ parent. loaded (code_of codes path) path >>= (λ code. enter code path parent.number cells))) t))
      by_path s cells routine None = record { by = tt }
      by_path s cells routine (Some path) = by_parent s cells path routine.1 (find_activation (activations_in s.frames)
          routine.1) refl

  -- ---- new objects

  object_later : (n : ℕ) (s : State) → Later s (with_object n s)
  object_later n s = record {
    numbers = omega arith;
    dropped = λ r l e. root_other s.roots s.next_root _ r (λ is. let w : ⊥ = omega (arith, is, l) in w) ∙ e;
    fresh = λ h r l. root_other s.roots s.next_root _ r (λ is. let w : ⊥ = omega (arith, is, l) in w) ∙ h r (omega (arith, l));
    order = λ h. wider s.next_root (suc s.next_root) s.frames (omega arith) h;
    objects = more_longer s.objects (record { root = s.next_root; cells = n } ∷ []);
    blocks = none_longer s.blocks;
    output = λ o found. (o, found, none_longer o.before);
    written = omega arith;
  }

  new_later : (n : ℕ) → Kept Later (HasNoCode codes) later_keeping (new n)
  new_later n = bind_kept Later (HasNoCode codes) later_keeping (take_address_kept Later (HasNoCode codes) later_keeping)
      (λ a. bind_kept Later (HasNoCode codes) later_keeping (cell_of_kept Later (HasNoCode codes) later_keeping a)
      (λ x. looks_kept Later (HasNoCode codes) later_keeping (λ s.
      then_kept Later (HasNoCode codes) later_keeping (unless_kept Later (HasNoCode codes) later_keeping
      (nat_le (calls.cells_with s n) CELL_LIMIT) (limit_kept Later (HasNoCode codes) later_keeping 2))
      (then_kept Later (HasNoCode codes) later_keeping (update_kept Later (HasNoCode codes) later_keeping (with_object n)
      (object_later n))
      (set_cell_kept Later (HasNoCode codes) later_keeping a (cell.Ptr (suc (length s.objects))))))))

  -- ---- rows and steps

  pub row_later : (o : Operation) → Kept Later (HasNoCode codes) later_keeping (row codes o)
  row_later o = row_kept Later (HasNoCode codes) later_keeping codes o (λ e. added o e)
    where
      added : (o : Operation) → adds_a_root o ≡ true → Kept Later (HasNoCode codes) later_keeping (row codes o)
      added (operation.Call d path n is_function) e = call_later d path n
      added (operation.CallBy n is_function) e = call_by_later n
      added (operation.New n) e = new_later n
      added _ e = absurd (let v : ⊥ = cc in v)
