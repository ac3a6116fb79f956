-- An activation that begins, and the tests before it.
use Rattle.std.proofs.Common.{◌≡◌, ℕ, suc, ◌+◌, ◌-◌, ◌<◌, ◌≤◌, Bool, true, false, Option, Some, None, List, [], ◌∷◌, ◌++◌}
use Rattle.std.proofs.Common.{length, get_or}
use Rattle.std.proofs.Common.{reverse, take, drop, replicate, refl, sym, ◌∙◌, ap, subst, arith, add-one, nat_le}
use Rattle.std.proofs.Common.{nat_lt}
use Rattle.std.specs.Prelude.{nat_eq, sum_by}
use Rattle.std.specs.List.{fold}
use Rattle.std.proofs.lemmas.List.{drop-replicate, drop_more, length-replicate, length-reverse, reverse-append, take_all}
use Rattle.std.proofs.lemmas.Bool.{eq-eqb}
use Rattle.std.proofs.lemmas.Bool.Decides.{nat_tests}
use Rattle.mp_base.specs.declared.limits.TheConstants.{ACTIVATION_LIMIT, CELL_LIMIT}
use Rattle.mp_memory.specs.declared.cells.Cell.{Cell}
use Rattle.mp_memory.specs.declared.cells.Cell.TheVariants as cell
use Rattle.mp_memory.specs.Roots.{Contents, Found, Got, Outside, Roots, laid_over, new_or_old, roots_of, with_cells}
use Rattle.mp_memory.specs.Roots.{with_cells_at, with_root}
use Rattle.mp_code.specs.BlockCode.{BlockCode}
use Rattle.mp_machine.specs.declared.operands.Operand.{Operand}
use Rattle.mp_machine.specs.declared.objects.Object.{Object}
use Rattle.mp_machine.specs.declared.activations.Activation.{Activation}
use Rattle.mp_machine.specs.Blocks.{Path}
use Rattle.mp_machine.specs.States.{Frame, State, cells_while, first_ordinal, live_cells, object_cells}
use Rattle.mp_machine.specs.declared.addresses.Address.{Address}
use Rattle.mp_machine.specs.Outcomes.{Done, Limit, Stuck, bind, limit, unless, update, ◌>>◌}
use Rattle.mp_machine.specs.ObjectRows.{new_at, with_object}
use Rattle.mp_machine.specs.Memory.{set_cell, undefined_cells}
use Rattle.mp_machine.specs.CallRows as call
use Rattle.mp_machine.specs.Shown.{World, frame_seen, frames_seen, own_operands, returned_with, shown}
use Rattle.mp_machine.proofs.PassedLemmas.{no_operands}

-- ---- the tests

pub enter_done : (code : BlockCode) (path : Path) (parent : ℕ) (cells : List Cell) (s : State) →
    nat_le (length cells) code.frame ≡ true →
    nat_lt (length s.frames) ACTIVATION_LIMIT ≡ true → nat_le (call.cells_with s code.counted) CELL_LIMIT ≡ true →
    call.enter code path parent cells s ≡ Done tt (call.entered code path parent cells s)
enter_done code path parent cells s p q r = rw (p, q, r) refl

pub enter_unfit : (code : BlockCode) (path : Path) (parent : ℕ) (cells : List Cell) (s : State) →
    nat_le (length cells) code.frame ≡ false →
    call.enter code path parent cells s ≡ Stuck
enter_unfit code path parent cells s p = rw p refl

pub enter_past_activations : (code : BlockCode) (path : Path) (parent : ℕ) (cells : List Cell) (s : State) →
    nat_le (length cells) code.frame ≡ true →
    nat_lt (length s.frames) ACTIVATION_LIMIT ≡ false → call.enter code path parent cells s ≡ Limit 1 s
enter_past_activations code path parent cells s p q = rw (p, q) refl

pub enter_past_cells : (code : BlockCode) (path : Path) (parent : ℕ) (cells : List Cell) (s : State) →
    nat_le (length cells) code.frame ≡ true →
    nat_lt (length s.frames) ACTIVATION_LIMIT ≡ true → nat_le (call.cells_with s code.counted) CELL_LIMIT ≡ false →
    call.enter code path parent cells s ≡ Limit 2 s
enter_past_cells code path parent cells s p q r = rw (p, q, r) refl

pub is_le : (a b : ℕ) → a ≤ b → nat_le a b ≡ true
is_le a b l = grind (arith, nat_tests)

pub is_lt : (a b : ℕ) → a < b → nat_lt a b ≡ true
is_lt a b l = grind (arith, nat_tests)

pub not_le : (a b : ℕ) → b < a → nat_le a b ≡ false
not_le a b l = grind (arith, nat_tests)

pub not_lt : (a b : ℕ) → b ≤ a → nat_lt a b ≡ false
not_lt a b l = grind (arith, nat_tests)

-- ---- sums over the frames

frames_length : (paths : ℕ → Path) (fs : List Activation) (xs : List Operand) → length (frames_seen paths fs xs) ≡ length fs
frames_length paths [] xs = refl
frames_length paths (a ∷ fs) xs = ap suc (frames_length paths fs (take a.below xs))

counted_from : (paths : ℕ → Path) (m : ℕ) (fs : List Activation) (xs : List Operand) →
    fold (λ n f. n + f.activation.cells) m (frames_seen paths fs xs) ≡ fold (λ n a. n + a.cells) m fs
counted_from paths m [] xs = refl
counted_from paths m (a ∷ fs) xs = counted_from paths (m + a.cells) fs (take a.below xs)

pub live_frames : (w : World) (k : Contents) (xs : List Operand) (a : Activation) (older : List Activation) (at : ℕ) →
    length (shown w k xs a older at).frames ≡ length older + 1
live_frames w k xs a older at = frames_length w.paths (a ∷ reverse older) xs ∙ ap suc (length-reverse older) ∙
    sym (add-one (length older))

pub live_shown : (w : World) (k : Contents) (xs : List Operand) (a : Activation) (older : List Activation) (at used held : ℕ) →
    used ≡ sum_by (λ a. a.cells) (a ∷ reverse older) → held ≡ object_cells (roots_of k) w.objects →
    live_cells (shown w k xs a older at) ≡ used + held
live_shown w k xs a older at used held u h =
    ap (λ n. n + object_cells (roots_of k) w.objects) (counted_from w.paths 0 (a ∷ reverse older) xs ∙ sym u) ∙
    ap (λ n. used + n) (sym h)

-- ---- the roots

none_more : (n : ℕ) → 0 + n ≡ n
none_more n = omega arith

-- undefined cells, of which the first become these
begun_cells : (frame : ℕ) (cells : List Cell) → length cells ≤ frame →
    with_cells (Some (replicate frame cell.Undef)) 0 cells ≡ Got (cells ++ replicate (frame - length cells) cell.Undef)
begun_cells frame cells fit =
    ap (λ b. elim b as (λ fit. Found (List Cell)) [
      | true ↦ Got (laid_over (replicate frame cell.Undef) 0 cells)
      | false ↦
          Outside
    ])
    (is_le (0 + length cells) (length (replicate frame cell.Undef)) (let h = length-replicate frame cell.Undef in
    omega (arith, h, fit)))
    ∙ ap (λ l. Got (cells ++ l)) (drop-replicate (0 + length cells) frame cell.Undef ∙
    ap (λ n. replicate (frame - n) cell.Undef) (none_more (length cells)))

pub begun_roots : (k mid new : Contents) (n frame : ℕ) (cells : List Cell) → length cells ≤ frame →
    ((q : ℕ) → roots_of mid q ≡ with_root (roots_of k) n (Some (replicate frame cell.Undef)) q) →
    ((q : ℕ) → roots_of new q ≡ with_cells_at (roots_of mid) n 0 cells q) →
    with_root (roots_of k) n (Some (cells ++ undefined_cells (frame - length cells))) ≡ roots_of new
begun_roots k mid new n frame cells fit added written = λ i q. at_root q (nat_eq q n) refl i
  where
    there : roots_of mid n ≡ Some (replicate frame cell.Undef)
    there = added n ∙ ap (λ b. elim b as (λ is. Option (List Cell)) [
      | true ↦ Some (replicate frame cell.Undef)
      | false ↦
          roots_of k n
    ]) (eq-eqb n n refl)

    filled : new_or_old (with_cells (roots_of mid n) 0 cells) (roots_of mid n) ≡ Some (cells ++
        replicate (frame - length cells) cell.Undef)
    filled = ap (λ c. new_or_old (with_cells c 0 cells) c) there ∙ ap (λ f. new_or_old f (Some (replicate frame cell.Undef)))
        (begun_cells frame cells fit)

    at_root : (q : ℕ) (b : Bool) → nat_eq q n ≡ b →
        with_root (roots_of k) n (Some (cells ++ undefined_cells (frame - length cells))) q ≡ roots_of new q
    at_root q true e =
        ap (λ b. elim b as (λ is. Option (List Cell)) [
          | true ↦ Some (cells ++ undefined_cells (frame - length cells))
          | false ↦
              roots_of k q
        ]) e
        ∙ sym (written q ∙ ap (λ b. elim b as (λ is. Option (List Cell)) [
          | true ↦ new_or_old (with_cells (roots_of mid n) 0 cells) (roots_of mid n)
          | false ↦ roots_of mid q
        ]) e ∙ filled)
    at_root q false e =
        ap (λ b. elim b as (λ is. Option (List Cell)) [
          | true ↦ Some (cells ++ undefined_cells (frame - length cells))
          | false ↦
              roots_of k q
        ]) e
        ∙ sym (written q ∙ ap (λ b. elim b as (λ is. Option (List Cell)) [
          | true ↦ new_or_old (with_cells (roots_of mid n) 0 cells) (roots_of mid n)
          | false ↦ roots_of mid q
        ]) e
        ∙ added q ∙ ap (λ b. elim b as (λ is. Option (List Cell)) [
          | true ↦ Some (replicate frame cell.Undef)
          | false ↦
              roots_of k q
        ]) e)

-- ---- the new activation

abbrev pub begun_by : (number block parent from cells below : ℕ) → Activation
begun_by number block parent from cells below = record {
  number = number;
  block = block;
  parent = parent;
  from = from;
  cells =
      cells;
  below = below;
  next = 0;
}

-- the state with a new activation, by the parts that are to be compared
abbrev with_new : World → Activation → List Operand → List Frame → Roots → (next first : ℕ) → State
with_new w a ops older roots next first = record {
  frames = frame_seen w.paths a ops ∷ older;
  roots = roots;
  next_root = next;
  objects = w.objects;
  files = w.files.files;
  written = w.files.written;
  blocks = w.blocks;
  at = first;
}

pub entered_shown : (w : World) (k new : Contents) (xs : List Operand) (cells : List Cell) (a : Activation)
    (older longer : List Activation)
    (at : ℕ) (code : BlockCode) (block parent number below first counted : ℕ) →
    number ≡ k.next → below ≡ length xs → longer ≡ older ++ a ∷ [] → first ≡ first_ordinal code → counted ≡ code.counted →
    with_root (roots_of k) k.next (Some (cells ++ undefined_cells (code.frame - length cells))) ≡ roots_of new →
    new.next ≡ k.next + 1 →
    call.entered code (w.paths block) parent cells (shown w k xs a older at)
    ≡ shown w new xs (begun_by number block parent at counted below) longer first
entered_shown w k new xs cells a older longer at code block parent number below first counted n b l f c h m =
    ap (λ ops. with_new w (begun_by k.next block parent at code.counted (length xs)) ops
    (frames_seen w.paths (a ∷ reverse older) xs)
    (with_root (roots_of k) k.next (Some (cells ++ undefined_cells (code.frame - length cells)))) (suc k.next)
    (first_ordinal code))
    (sym (no_operands (length xs) xs (omega arith)))
    ∙ ap (λ rs. with_new w (begun_by k.next block parent at code.counted (length xs)) (own_operands (length xs) xs)
    (frames_seen w.paths rs xs)
    (with_root (roots_of k) k.next (Some (cells ++ undefined_cells (code.frame - length cells)))) (suc k.next)
    (first_ordinal code))
    (sym (ap reverse l ∙ reverse-append older (a ∷ [])))
    ∙ ap (λ ys. with_new w (begun_by k.next block parent at code.counted (length xs)) (own_operands (length xs) xs)
    (frames_seen w.paths (reverse longer) ys)
    (with_root (roots_of k) k.next (Some (cells ++ undefined_cells (code.frame - length cells)))) (suc k.next)
    (first_ordinal code))
    (sym (take_all (length xs) xs (omega arith)))
    ∙ ap (λ r. with_new w (begun_by k.next block parent at code.counted (length xs)) (own_operands (length xs) xs)
    (frames_seen w.paths (reverse longer) (take (length xs) xs)) r (suc k.next) (first_ordinal code)) h
    ∙ ap (λ m. with_new w (begun_by k.next block parent at code.counted (length xs)) (own_operands (length xs) xs)
    (frames_seen w.paths (reverse longer) (take (length xs) xs)) (roots_of new) m (first_ordinal code))
    (sym (m ∙ add-one k.next))
    ∙ ap (λ x. shown w new xs (begun_by k.next block parent at code.counted x) longer (first_ordinal code)) (sym b)
    ∙ ap (λ x. shown w new xs (begun_by x block parent at code.counted below) longer (first_ordinal code)) (sym n)
    ∙ ap (λ x. shown w new xs (begun_by number block parent at x below) longer (first_ordinal code)) (sym c)
    ∙ ap (λ x. shown w new xs (begun_by number block parent at counted below) longer x) (sym f)

-- ---- the call, as its tests come out

module _ (w : World) (k : Contents) (xs : List Operand) (a : Activation) (older : List Activation) (at : ℕ) (code : BlockCode)
    (path : Path) (parent : ℕ)
    (cells : List Cell) where
  pub enter_limit_1 : length cells ≤ code.frame → ACTIVATION_LIMIT ≤ length older + 1 →
      call.enter code path parent cells (shown w k xs a older at) ≡ Limit 1 (shown w k xs a older at)
  enter_limit_1 fit many = enter_past_activations code path parent cells (shown w k xs a older at)
      (is_le (length cells) code.frame fit)
      (not_lt (length (shown w k xs a older at).frames) ACTIVATION_LIMIT (subst (λ n. ACTIVATION_LIMIT ≤ n)
      (sym (live_frames w k xs a older at)) many))

  few_frames : length older + 1 < ACTIVATION_LIMIT → nat_lt (length (shown w k xs a older at).frames) ACTIVATION_LIMIT ≡ true
  few_frames few = is_lt (length (shown w k xs a older at).frames) ACTIVATION_LIMIT (subst (λ n. n < ACTIVATION_LIMIT)
      (sym (live_frames w k xs a older at)) few)

  module _ (used held : ℕ) (u : used ≡ sum_by (λ a. a.cells) (a ∷ reverse older)) (h : held ≡ object_cells (roots_of k)
      w.objects) where
    pub enter_limit_2 : length cells ≤ code.frame → length older + 1 < ACTIVATION_LIMIT →
        CELL_LIMIT < used + held + code.counted →
        call.enter code path parent cells (shown w k xs a older at) ≡ Limit 2 (shown w k xs a older at)
    enter_limit_2 fit few much = enter_past_cells code path parent cells (shown w k xs a older at)
        (is_le (length cells) code.frame fit) (few_frames few)
        (not_le (call.cells_with (shown w k xs a older at) code.counted) CELL_LIMIT
        (subst (λ n. CELL_LIMIT < n + code.counted) (sym (live_shown w k xs a older at used held u h)) much))

    pub enter_room : length cells ≤ code.frame → length older + 1 < ACTIVATION_LIMIT → used + held + code.counted ≤ CELL_LIMIT →
        call.enter code path parent cells (shown w k xs a older at) ≡ Done tt (call.entered code path parent cells
        (shown w k xs a older at))
    enter_room fit few room = enter_done code path parent cells (shown w k xs a older at) (is_le (length cells) code.frame fit)
        (few_frames few)
        (is_le (call.cells_with (shown w k xs a older at) code.counted) CELL_LIMIT
        (subst (λ n. n + code.counted ≤ CELL_LIMIT) (sym (live_shown w k xs a older at used held u h)) room))

-- ---- the end of an activation

pub ended_shown : (w : World) (k new : Contents) (xs left : List Operand) (a b : Activation) (older shorter : List Activation)
    (at : ℕ) →
    older ≡ shorter ++ b ∷ [] → left ≡ take a.below xs → ((q : ℕ) → roots_of new q ≡ with_root (roots_of k) a.number None q) →
    new.next ≡ k.next →
    call.leave_newest (shown w k xs a older at) ≡ Done tt (shown w new left b shorter a.from)
ended_shown w k new xs left a b older shorter at e l h n =
    ap (λ rs. Done tt (record (shown w k (take a.below xs) b shorter a.from) {
      frames = frames_seen w.paths rs (take a.below xs);
      roots = with_root (roots_of k) a.number None;
    })) (ap reverse e ∙ reverse-append shorter (b ∷ []))
    ∙ ap (λ r. Done tt (record (shown w k (take a.below xs) b shorter a.from) { roots = r })) (λ i q. sym (h q) i)
    ∙ ap (λ ys. Done tt (record (shown w k ys b shorter a.from) { roots = roots_of new })) (sym l)
    ∙ ap (λ m. Done tt (record (shown w new left b shorter a.from) { next_root = m })) (sym n)

return_by : (paths : ℕ → Path) (f : Frame) (fs : List Activation) (ys : List Operand) (o : ℕ) (s : State) → 0 < length fs →
    call.return_in (f ∷ frames_seen paths fs ys) (Some o) s ≡ call.return_cell f (Some o) s
return_by paths f [] ys o s some = absurd (omega (arith, some))
return_by paths f (g ∷ more) ys o s some = refl

pub return_shown : (w : World) (k : Contents) (xs : List Operand) (a : Activation) (older : List Activation) (at o : ℕ) →
    0 < length older →
    call.«return» (Some o) (shown w k xs a older at) ≡ returned_with a.number o (shown w k xs a older at)
return_shown w k xs a older at o some =
    return_by w.paths (frame_seen w.paths a (own_operands a.below xs)) (reverse older) (take a.below xs) o
    (shown w k xs a older at)
    (let h = length-reverse older in omega (arith, h, some))

-- ---- the cells of objects, one after another

pub object_next : (roots : Roots) (objects : List Object) (cells more total i : ℕ) (o : Object) → i < length objects →
    o ≡ get_or objects i o →
    fold (λ n o. n + cells_while (roots o.root) o.cells) cells (drop i objects) ≡ total →
    more ≡ cells_while (roots o.root) o.cells →
    fold (λ n o. n + cells_while (roots o.root) o.cells) (cells + more) (drop (i + 1) objects) ≡ total
object_next roots objects cells more total i o inside is left m =
    ap (λ m. fold (λ n o. n + cells_while (roots o.root) o.cells) (cells + m) (drop (i + 1) objects)) m
    ∙ sym (ap (fold (λ n o. n + cells_while (roots o.root) o.cells) cells) (drop_more objects i o inside ∙
    ap (λ x. x ∷ drop (i + 1) objects) (sym is)))
    ∙ left

-- ---- a new object

module _ (w : World) (k : Contents) (xs : List Operand) (a : Activation) (older : List Activation) (at : ℕ) (there : Address)
    (n used held : ℕ)
    (u : used ≡ sum_by (λ a. a.cells) (a ∷ reverse older)) (h : held ≡ object_cells (roots_of k) w.objects) where
  pub new_limit : CELL_LIMIT < used + held + n → new_at there n (shown w k xs a older at) ≡ Limit 2 (shown w k xs a older at)
  new_limit much = ap (λ b. bind (unless b (limit 2) (shown w k xs a older at))
      (λ x t. (update (with_object n) >> set_cell there (cell.Ptr (suc (length w.objects)))) t))
      (not_le (call.cells_with (shown w k xs a older at) n) CELL_LIMIT
      (subst (λ m. CELL_LIMIT < m + n) (sym (live_shown w k xs a older at used held u h)) much))

  pub new_room : used + held + n ≤ CELL_LIMIT → new_at there n (shown w k xs a older at)
      ≡ set_cell there (cell.Ptr (suc (length w.objects))) (with_object n (shown w k xs a older at))
  new_room room = ap (λ b. bind (unless b (limit 2) (shown w k xs a older at))
      (λ x t. (update (with_object n) >> set_cell there (cell.Ptr (suc (length w.objects)))) t))
      (is_le (call.cells_with (shown w k xs a older at) n) CELL_LIMIT
      (subst (λ m. m + n ≤ CELL_LIMIT) (sym (live_shown w k xs a older at used held u h)) room))
