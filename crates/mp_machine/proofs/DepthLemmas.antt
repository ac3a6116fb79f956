-- Code that has its shape keeps its depths: by its clauses at the next instruction, and what the row uses.
use Rattle.std.proofs.Common.{◌≡◌, ◌⊎◌, inl, inr, ⊎_elim, ℕ, suc, ◌+◌, ◌-◌, ◌<◌, ◌≤◌, List, [], ◌∷◌, ◌++◌, Option, Some, None}
use Rattle.std.proofs.Common.{Bool, true, false, refl, sym, ap, ◌∙◌, subst, arith, eqb-true, eq-eqb, leb-true}
use Rattle.std.specs.Prelude.{nat_eq, nat_le, nat_lt, not, ◌&&◌, ◌||◌, slice_get, length, map, ℤ, pos, int_lt, int_div}
use Rattle.std.specs.Prelude.{◌+ℤ◌, ◌-ℤ◌, ◌*ℤ◌}
use Rattle.std.specs.List.{list_all, list_any}
use Rattle.std.proofs.lemmas.Bool.{and_parts, or_parts, or_left, or_right}
use Rattle.std.proofs.lemmas.Option.{slice_get_cases, slice_get_within}
use Rattle.mp_base.specs.declared.limits.TheConstants.{ACTIVATION_LIMIT, CELL_LIMIT}
use Rattle.mp_code.specs.declared.check.TheConstants.{OPERAND_LIMIT}
use Rattle.mp_code.specs.declared.instructions.Instr.{Instr}
use Rattle.mp_code.specs.declared.instructions.CaseArm.{CaseArm}
use Rattle.mp_code.specs.declared.instructions.Operation.{Operation}
use Rattle.mp_code.specs.declared.instructions.Operation.TheVariants as operation
use Rattle.mp_code.specs.BlockCode.{BlockCode, index_of_label}
use Rattle.mp_code.specs.Shape.{IsShaped, takes, puts, targets, target_of, goes_on, is_bare, next_index, successors, is_depth}
use Rattle.mp_code.specs.Shape.{leads_well, is_right, instruction_is_right, shorter, is_wrong_start, is_wrong_length}
use Rattle.mp_code.specs.Shape.{is_wrong_label, is_wrong_instruction, result_count}
use Rattle.mp_memory.specs.declared.cells.Cell.{Cell}
use Rattle.mp_memory.specs.declared.cells.Cell.TheVariants as cell
use Rattle.mp_machine.specs.Blocks.{Path}
use Rattle.mp_machine.specs.Numbers.{same_number}
use Rattle.mp_memory.specs.Sets.{union, intersection, difference}
use Rattle.mp_machine.specs.Activations.{Activation, seek, holder, find_activation}
use Rattle.mp_machine.specs.declared.operands.Operand.TheVariants.{One}
use Rattle.mp_machine.specs.States.{Frame, State, Codes, code_of, activations_in, newest_path}
use Rattle.mp_machine.specs.Outcomes.{Outcome, Done, Fault, Limit, Missing, Ended, Lacking, Stuck, Row, bind, ◌>>=◌, ◌>>◌}
use Rattle.mp_machine.specs.Outcomes.{update, needs, unless, stuck, choose, skip, now}
use Rattle.mp_machine.specs.Operands.{with_newest, change_newest, go_on_at, put_cell, take_all, take_cell, take_number}
use Rattle.mp_machine.specs.Memory.{defined, cell_of, activation_at}
use Rattle.mp_machine.specs.CallRows as call
use Rattle.mp_machine.specs.CallRows.{label_in}
use Rattle.mp_machine.specs.Table.{row}
use Rattle.mp_machine.specs.Steps.{begun, execute, next_in, instruction_in, next_instruction}
use Rattle.mp_machine.specs.DepthLaws.{HasDepth, Leading, Onward, Entered, Returned, Left, IsServed, DepthsAreKept}
use Rattle.mp_machine.specs.DepthLaws.{BeginningsHaveDepthZero, LabelsHaveDepthZero}
use Rattle.mp_machine.proofs.Served.{Has, Served, Uses, served_bind, uses_as, bind_uses, then_uses, looks_uses, limit_uses}
use Rattle.mp_machine.proofs.Served.{unless_uses, defined_uses, cell_of_uses, activation_at_uses, gives_uses, skip_uses}
use Rattle.mp_machine.proofs.Served.{stuck_uses, fault_uses, choose_uses, put_uses, take_cell_uses, take_number_uses}
use Rattle.mp_machine.proofs.Served.{take_all_uses, on_numbers_uses, on_sets_uses, put_integer_uses, dup_uses, range_uses}
use Rattle.mp_machine.proofs.Served.{within_uses, has_uses, one_uses, span_uses, cmp_uses, addr_uses, offset_uses, index_uses}
use Rattle.mp_machine.proofs.Served.{follow_uses, load_uses, store_uses, clear_uses, load_many_uses, store_many_uses}
use Rattle.mp_machine.proofs.Served.{active_uses, select_uses, tag_uses, proc_uses, new_uses, dispose_uses, file_row_uses}

-- ---- what the shape says

inside_depth : (code : BlockCode) (d k : ℕ) → leads_well code d k ≡ true → HasDepth code k d
inside_depth code d k e = by_depth (slice_get code.depths k) refl (and_parts (nat_lt k (length code.instructions))
    (is_depth d (slice_get code.depths k)) e).1
  where
    by_depth : (o : Option ℕ) → slice_get code.depths k ≡ o → is_depth d o ≡ true → slice_get code.depths k ≡ Some d
    by_depth None is w = absurd (let v : false ≡ true = w in let u : ⊥ = cc in u)
    by_depth (Some e) is w = is ∙ ap Some (eqb-true e d w)

not_true : (b : Bool) → not b ≡ false → b ≡ true
not_true true e = refl
not_true false e = absurd (let v : true ≡ false = e in let u : ⊥ = cc in u)

pub beginnings : BeginningsHaveDepthZero
beginnings code shaped =
    let f = or_parts (is_wrong_start code 0 || is_wrong_length code 0) (is_wrong_label code 0 || is_wrong_instruction code 0)
    (shaped 0) in
    let g : is_wrong_start code 0 ≡ false = (or_parts (is_wrong_start code 0) (is_wrong_length code 0) f.0).0 in
    inside_depth code 0 0 (not_true (leads_well code 0 0) g)

label_is_right : (code : BlockCode) (k : ℕ) → IsShaped code → list_any (λ pair. nat_eq pair.1 k) code.labels ≡ true →
    HasDepth code k 0
label_is_right code k shaped stands =
    let f = or_parts (is_wrong_start code k || is_wrong_length code k) (is_wrong_label code k || is_wrong_instruction code k)
    (shaped k) in
    let g : is_wrong_label code k ≡ false = (or_parts (is_wrong_label code k) (is_wrong_instruction code k) f.1).0 in
    let h : (true && not (leads_well code 0 k)) ≡ false = subst (λ b. (b && not (leads_well code 0 k)) ≡ false) stands g in
    inside_depth code 0 k (not_true (leads_well code 0 k) h)

labelled_here : (p : ℕ × ℕ) (more : List (ℕ × ℕ)) (label k : ℕ) (b : Bool) →
    (elim b as (λ is. Option ℕ) [ true ↦ Some p.1 | false ↦ index_of_label more label ]) ≡ Some k →
    (index_of_label more label ≡ Some k → list_any (λ pair. nat_eq pair.1 k) more ≡ true) →
    list_any (λ pair. nat_eq pair.1 k) (p ∷ more) ≡ true
labelled_here p more label k true e rest = let is : p.1 ≡ k = cc in
    or_left (nat_eq p.1 k) (list_any (λ pair. nat_eq pair.1 k) more) (eq-eqb p.1 k is)
labelled_here p more label k false e rest = or_right (nat_eq p.1 k) (list_any (λ pair. nat_eq pair.1 k) more) (rest e)

labelled : (pairs : List (ℕ × ℕ)) (label k : ℕ) → index_of_label pairs label ≡ Some k →
    list_any (λ pair. nat_eq pair.1 k) pairs ≡ true
labelled [] label k e = absurd (let v : ⊥ = cc in v)
labelled (p ∷ more) label k e = labelled_here p more label k (nat_eq p.0 label) e (labelled more label k)

pub labels : LabelsHaveDepthZero
labels code label k shaped found = label_is_right code k shaped (labelled code.labels label k found)

same_length : (code : BlockCode) → IsShaped code → length code.depths ≡ length code.instructions
same_length code shaped =
    let n = shorter code in
    let f = or_parts (is_wrong_start code n || is_wrong_length code n) (is_wrong_label code n || is_wrong_instruction code n)
    (shaped n) in
    let g : is_wrong_length code n ≡ false = (or_parts (is_wrong_start code n) (is_wrong_length code n) f.0).1 in
    let h : (true && not (nat_eq (length code.depths) (length code.instructions))) ≡ false =
    subst (λ b. (b && not (nat_eq (length code.depths) (length code.instructions))) ≡ false) (eq-eqb n n refl) g in
    eqb-true (length code.depths) (length code.instructions) (not_true (nat_eq (length code.depths) (length code.instructions))
    h)

instruction_right : (code : BlockCode) (k e : ℕ) → IsShaped code → HasDepth code k e → (i : Instr) ×
    (slice_get code.instructions k ≡ Some i) × (is_right code k e i.operation ≡ true)
instruction_right code k e shaped depth = by_instruction (slice_get code.instructions k) refl
  where
    parts : is_wrong_instruction code k ≡ false
    parts = (or_parts (is_wrong_label code k) (is_wrong_instruction code k) (or_parts (is_wrong_start code k ||
        is_wrong_length code k) (is_wrong_label code k || is_wrong_instruction code k) (shaped k)).1).1

    none : slice_get code.instructions k ≡ None → ⊥
    none is = ⊎_elim
        (λ some. let w : None ≡ Some some.0 = sym is ∙ some.2 in let v : ⊥ = cc in v)
        (λ past. let l : k < length code.depths = slice_get_within code.depths k e depth in let v : ⊥ =
        omega (arith, l, past.0, same_length code shaped) in v)
        (slice_get_cases code.instructions k).1

    by_instruction : (o : Option Instr) → slice_get code.instructions k ≡ o → (i : Instr) ×
        (slice_get code.instructions k ≡ Some i) × (is_right code k e i.operation ≡ true)
    by_instruction None is = absurd (none is)
    by_instruction (Some i) is = (
      i,
      is,
      subst (λ d. instruction_is_right code k (Some i) d ≡ true) depth
          (subst (λ j. instruction_is_right code k j (slice_get code.depths k) ≡ true) is
          (not_true (instruction_is_right code k (slice_get code.instructions k) (slice_get code.depths k)) parts)),
    )

-- ---- the parts of a right instruction

enough : (code : BlockCode) (k e : ℕ) (o : Operation) → is_right code k e o ≡ true → e ≡ takes o + (e - takes o)
enough code k e o right =
    let a = and_parts (nat_le (takes o) e && list_all (leads_well code (e - takes o + puts o)) (successors k o))
    ((not (is_bare o) || nat_eq e 0) && nat_le e OPERAND_LIMIT) right in
    let l : nat_le (takes o) e ≡ true = (and_parts (nat_le (takes o) e) (list_all (leads_well code (e - takes o + puts o))
    (successors k o)) a.0).0 in
    let m : takes o ≤ e = leb-true (takes o) e l in
    omega (arith, m)

lead : (code : BlockCode) (k e : ℕ) (o : Operation) → is_right code k e o ≡ true →
    list_all (leads_well code (e - takes o + puts o)) (successors k o) ≡ true
lead code k e o right =
    let a = and_parts (nat_le (takes o) e && list_all (leads_well code (e - takes o + puts o)) (successors k o))
    ((not (is_bare o) || nat_eq e 0) && nat_le e OPERAND_LIMIT) right in
    (and_parts (nat_le (takes o) e) (list_all (leads_well code (e - takes o + puts o)) (successors k o)) a.0).1

next_depth : (code : BlockCode) (k e : ℕ) (o : Operation) → goes_on o ≡ true → is_right code k e o ≡ true →
    HasDepth code (k + 1) (e - takes o + puts o)
next_depth code k e o on right =
    let l : list_all (leads_well code (e - takes o + puts o)) (next_index true k ++ targets o) ≡ true =
    subst (λ b. list_all (leads_well code (e - takes o + puts o)) (next_index b k ++ targets o) ≡ true) on
    (lead code k e o right) in
    inside_depth code (e - takes o + puts o) (k + 1) (and_parts (leads_well code (e - takes o + puts o) (k + 1))
    (list_all (leads_well code (e - takes o + puts o)) (targets o)) l).0

-- ---- rows that go on

served_as : {A : Type 0} {Q Q' : State → Type 0} (o : Outcome A) → Served Q o → ((t : State) → Q t → Q' t) → Served Q' o
served_as (Done x t) g f = record { by = f t g.by }
served_as (Fault n t) g f = record { by = tt }
served_as (Limit n t) g f = record { by = tt }
served_as (Missing path) g f = record { by = tt }
served_as (Ended t) g f = record { by = tt }
served_as Lacking g f = absurd g.by
served_as Stuck g f = record { by = tt }

has_as : {a : Activation} {older : List Frame} {k : ℕ} {s : State} (n m : ℕ) → n ≡ m → Has a older k n s → Has a older k m s
has_as n m e h = record { operands = h.operands; frames = h.frames; count = h.count ∙ e }

onward : (codes : Codes) (code : BlockCode) (a : Activation) (older : List Frame) (k n : ℕ) (t : State) → HasDepth code k n →
    Has a older k n t → Leading codes code a older t
onward codes code a older k n t depth h = Onward (record { activation = a; next = k; operands = h.operands }) h.frames refl
    (depth ∙ ap Some (sym h.count))

none_one : {n : ℕ} {act : Row} → Uses n (suc n) act → Uses (0 + n) (1 + n) act
none_one {n} g = uses_as (0 + n) n (1 + n) (suc n) (omega arith) (omega arith) g

one_none : {n : ℕ} {act : Row} → Uses (suc n) n act → Uses (1 + n) (0 + n) act
one_none {n} g = uses_as (1 + n) (suc n) (0 + n) n (omega arith) (omega arith) g

one_one : {n : ℕ} {act : Row} → Uses (suc n) (suc n) act → Uses (1 + n) (1 + n) act
one_one {n} g = uses_as (1 + n) (suc n) (1 + n) (suc n) (omega arith) (omega arith) g

two_none : {n : ℕ} {act : Row} → Uses (suc (suc n)) n act → Uses (2 + n) (0 + n) act
two_none {n} g = uses_as (2 + n) (suc (suc n)) (0 + n) n (omega arith) (omega arith) g

two_one : {n : ℕ} {act : Row} → Uses (suc (suc n)) (suc n) act → Uses (2 + n) (1 + n) act
two_one {n} g = uses_as (2 + n) (suc (suc n)) (1 + n) (suc n) (omega arith) (omega arith) g

-- ---- a holder is among the live activations, so it is left as the newest

StandsAmong : ℕ → List Frame → Type 0
StandsAmong r [] = ⊥
StandsAmong r (f ∷ older) = (nat_eq f.activation.number r ≡ true) ⊎ StandsAmong r older

sought_among : (fs : List Frame) (number d r : ℕ) → seek (activations_in fs) number d ≡ Some r → StandsAmong r fs
unfolding StandsAmong
sought_among [] number d r e = absurd (let v : ⊥ = cc in v)
sought_among (f ∷ older) number d r e = by_number (nat_eq f.activation.number number) refl e
    (λ m found. inr (sought_among older m d r found))
  where
    by_depth : (b : Bool) → nat_eq f.activation.number number ≡ true →
        (elim b as (λ is. Option ℕ) [ true ↦ Some number | false ↦ seek (activations_in older) f.activation.parent d ]) ≡ Some
        r → ((m : ℕ) → seek (activations_in older) m d ≡ Some r → StandsAmong r (f ∷ older)) → StandsAmong r (f ∷ older)
    by_depth true same found further = let is : number ≡ r = cc in
        inl (subst (λ m. nat_eq f.activation.number m ≡ true) is same)
    by_depth false same found further = further f.activation.parent found

    by_number : (b : Bool) → nat_eq f.activation.number number ≡ b →
        (elim b as (λ is. Option ℕ) [
          | true ↦ elim (nat_eq (length f.activation.block) d) as (λ is. Option ℕ) [
            | true ↦
                Some number
            | false ↦ seek (activations_in older) f.activation.parent d
          ]
          | false ↦
              seek (activations_in older) number d
        ]) ≡ Some r → ((m : ℕ) → seek (activations_in older) m d ≡ Some r →
        StandsAmong r (f ∷ older)) → StandsAmong r (f ∷ older)
    by_number true same found further = by_depth (nat_eq (length f.activation.block) d) same found further
    by_number false same found further = further number found

held_among : (fs : List Frame) (d r : ℕ) → holder (activations_in fs) d ≡ Some r → StandsAmong r fs
held_among [] d r e = absurd (let v : ⊥ = cc in v)
held_among (f ∷ older) d r e = sought_among (f ∷ older) f.activation.number d r e

left_frames : (number : ℕ) (s : State) (fs : List Frame) → s.frames ≡ fs → StandsAmong number fs → (f : Frame) ×
    (rest : List Frame) × ((call.left_until number s fs).frames ≡ f ∷ rest)
unfolding StandsAmong
left_frames number s [] e among = absurd among
left_frames number s (f ∷ older) e among = by_test (nat_eq f.activation.number number) refl
    (λ further. left_frames number (call.without_newest s (f ∷ older)) older refl further) among
  where
    by_test : (b : Bool) → nat_eq f.activation.number number ≡ b → (StandsAmong number older → (g : Frame) ×
        (rest : List Frame) × ((call.left_until number (call.without_newest s (f ∷ older)) older).frames ≡ g ∷ rest)) →
        (nat_eq f.activation.number number ≡ true) ⊎ StandsAmong number older →
        (g : Frame) × (rest : List Frame) ×
        ((elim b as (λ is. State) [
          | true ↦ s
          | false ↦ call.left_until number (call.without_newest s (f ∷ older))
              older
        ]).frames ≡ g ∷ rest)
    by_test true is further stands = (f, older, e)
    by_test false is further (inl here) = let w : false ≡ true = sym is ∙ here in absurd (let v : ⊥ = cc in v)
    by_test false is further (inr more) = further more

module _ (codes : Codes) (code : BlockCode) (a : Activation) (older : List Frame) (k e : ℕ) where
  abbrev Goal : {A : Type 0} → Outcome A → Type 0
  Goal o = Served (Leading codes code a older) o

  plain : (o : Operation) → goes_on o ≡ true → is_right code k e o ≡ true →
      ((d : ℕ) → Uses (takes o + d) (puts o + d) (row codes o)) → (s : State) → Has a older (k + 1) e s → Goal (row codes o s)
  plain o on right uses s h =
      let d : ℕ = e - takes o in
      served_as {Q = Has a older (k + 1) (puts o + d)} (row codes o s)
      ((uses d).by a older (k + 1) s (has_as e (takes o + d) (enough code k e o right) h))
      (λ t g. onward codes code a older (k + 1) (puts o + d) t (next_depth code k e o on right ∙ ap Some (omega arith)) g)

  jumped : (n target : ℕ) (s : State) → leads_well code n target ≡ true → Has a older (k + 1) n s → Goal (go_on_at target s)
  jumped n target s well h = record {
    by = onward codes code a older target n _ (inside_depth code n target well)
        (record {
          operands = h.operands;
          frames = ap (with_newest (λ f. record f { next = target })) h.frames;
          count =
              h.count;
        });
  }

  -- ---- jumps

  jump_served : (target : ℕ) → is_right code k e (operation.Jump target) ≡ true → (s : State) → Has a older (k + 1) e s →
      Goal (row codes (operation.Jump target) s)
  jump_served target right s h =
      let l : list_all (leads_well code (e - 0 + 0)) (target ∷ []) ≡ true = lead code k e (operation.Jump target) right in
      jumped (e - 0 + 0) target s (and_parts (leads_well code (e - 0 + 0) target) true l).0 (has_as e (e - 0 + 0) (omega arith)
      h)

  false_served : (target : ℕ) → is_right code k e (operation.False target) ≡ true → (s : State) → Has a older (k + 1) e s →
      Goal (row codes (operation.False target) s)
  false_served target right s h =
      let o : Operation = operation.False target in
      let l : list_all (leads_well code (e - 1 + 0)) ((k + 1) ∷ target ∷ []) ≡ true = lead code k e o right in
      let more : list_all (leads_well code (e - 1 + 0)) (target ∷ []) ≡ true =
      (and_parts (leads_well code (e - 1 + 0) (k + 1)) (list_all (leads_well code (e - 1 + 0)) (target ∷ [])) l).1 in
      let d : ℕ = e - 1 + 0 in
      let full : e ≡ suc d = let x : e ≡ 1 + (e - 1) = enough code k e o right in omega (arith, x) in
      served_bind (take_number s) (λ i. choose (same_number i (pos 0)) (go_on_at target) skip)
      (take_number_uses.by a older (k + 1) s (has_as e (suc d) full h))
      (λ i t g. by_test t g (and_parts (leads_well code d target) true more).0 (next_depth code k e o refl right)
      (same_number i (pos 0)))
    where
      by_test : (t : State) → Has a older (k + 1) (e - 1 + 0) t → leads_well code (e - 1 + 0) target ≡ true →
          HasDepth code (k + 1) (e - 1 + 0) → (b : Bool) → Goal (choose b (go_on_at target) skip t)
      by_test t g well next true = jumped (e - 1 + 0) target t well g
      by_test t g well next false = record { by = onward codes code a older (k + 1) (e - 1 + 0) t next g }

  arm_well : (n : ℕ) (arms : List CaseArm) (i : ℤ) (target : ℕ) → list_all (leads_well code n) (map target_of arms) ≡ true →
      call.arm_of arms i ≡ Some target → leads_well code n target ≡ true
  arm_well n [] i target l found = absurd (let v : ⊥ = cc in v)
  arm_well n (arm ∷ more) i target l found = by_test (same_number arm.constant i) found
      (arm_well n more i target (and_parts (leads_well code n arm.target) (list_all (leads_well code n) (map target_of more))
      l).1)
    where
      by_test : (b : Bool) → (elim b as (λ is. Option ℕ) [ true ↦ Some arm.target | false ↦ call.arm_of more i ]) ≡ Some
          target → (call.arm_of more i ≡ Some target → leads_well code n target ≡ true) → leads_well code n target ≡ true
      by_test true is rest = let at : arm.target ≡ target = cc in subst (λ j. leads_well code n j ≡ true) at
          (and_parts (leads_well code n arm.target) (list_all (leads_well code n) (map target_of more)) l).0
      by_test false is rest = rest is

  case_served : (arms : List CaseArm) → is_right code k e (operation.Case arms) ≡ true → (s : State) →
      Has a older (k + 1) e s → Goal (row codes (operation.Case arms) s)
  case_served arms right s h =
      let o : Operation = operation.Case arms in
      let d : ℕ = e - 1 + 0 in
      let full : e ≡ suc d = let x : e ≡ 1 + (e - 1) = enough code k e o right in omega (arith, x) in
      served_bind (take_number s) (λ i. call.go_to_arm (call.arm_of arms i)) (take_number_uses.by a older (k + 1) s
      (has_as e (suc d) full h)) (λ i t g. by_arm t g i (call.arm_of arms i) refl)
    where
      by_arm : (t : State) → Has a older (k + 1) (e - 1 + 0) t → (i : ℤ) (found : Option ℕ) → call.arm_of arms i ≡ found →
          Goal (call.go_to_arm found t)
      by_arm t g i None is = record { by = tt }
      by_arm t g i (Some target) is = jumped (e - 1 + 0) target t (arm_well (e - 1 + 0) arms i target
          (lead code k e (operation.Case arms) right) is) g

  -- ---- calls

  abbrev entering : (is_function : Bool) → (d : ℕ) → Type 0
  entering is_function d = slice_get code.depths (k + 1) ≡ Some (d + result_count is_function)

  enter_served : (is_function : Bool) (d : ℕ) → entering is_function d → (callee : BlockCode) (path : Path) (parent : ℕ)
      (cells : List Cell) (s : State) → code_of codes path ≡ Some callee → Has a older (k + 1) d s →
      Goal (call.enter callee path parent cells s)
  enter_served is_function d next callee path parent cells s loaded h =
      served_bind (unless (nat_le (length cells) callee.frame) stuck s)
      (λ x t. (call.must_have_room callee.counted >> update (call.entered callee path parent cells)) t)
      ((unless_uses (nat_le (length cells) callee.frame) stuck_uses).by a older (k + 1) s h) (λ x t g.
      served_bind (call.must_have_room callee.counted t) (λ y u. update (call.entered callee path parent cells) u)
      (room.by a older (k + 1) t g) (λ y u f. record { by = entered u f }))
    where
      room : Uses d d (call.must_have_room callee.counted)
      room = looks_uses (λ t. then_uses (unless_uses (nat_lt (length t.frames) ACTIVATION_LIMIT) (limit_uses 1))
          (unless_uses (nat_le (call.cells_with t callee.counted) CELL_LIMIT) (limit_uses 2)))

      entered : (u : State) → Has a older (k + 1) d u → Leading codes code a older (call.entered callee path parent cells u)
      entered u f =
          let new : Frame = record {
            activation = record {
              number = u.next_root;
              block = path;
              parent = parent;
              from =
                  u.at;
              cells = callee.counted;
            };
            next = 0;
            operands = [];
          } in
          Entered new (record { activation = a; next = k + 1; operands = f.operands }) callee is_function
          (ap (λ fs. new ∷ fs) f.frames) refl
          (next ∙ ap (λ n. Some (n + result_count is_function)) (sym f.count)) loaded refl refl

  loaded_served : (is_function : Bool) (d n : ℕ) → entering is_function d → (path : Path) (parent : ℕ) (s : State) →
      Has a older (k + 1) (n + d) s → Goal (call.call_with codes path n parent s)
  loaded_served is_function d n next path parent s h = by_code (code_of codes path) refl
    where
      by_code : (o : Option BlockCode) → code_of codes path ≡ o →
          Goal ((call.loaded o path >>= (λ callee. take_all n >>= (λ cells. call.enter callee path parent cells))) s)
      by_code None is = record { by = tt }
      by_code (Some callee) is =
          served_bind (take_all n s) (λ cells t. call.enter callee path parent cells t) ((take_all_uses n d).by a older (k + 1)
          s h) (λ cells t g. enter_served is_function d next callee path parent cells t is g)

  call_served : (depth : ℕ) (path : Path) (n : ℕ) (is_function : Bool) →
      is_right code k e (operation.Call depth path n is_function) ≡ true → (s : State) → Has a older (k + 1) e s →
      Goal (row codes (operation.Call depth path n is_function) s)
  call_served depth path n is_function right s h =
      let o : Operation = operation.Call depth path n is_function in
      served_bind (activation_at depth s) (λ parent. call.call_with codes path n parent) ((activation_at_uses depth).by a older
      (k + 1) s h) (λ parent t g.
      loaded_served is_function (e - n) n (next_depth code k e o refl right) path parent t
      (has_as e (n + (e - n)) (enough code k e o right) g))

  routine_uses : {n : ℕ} (x : Cell) → Uses n n (call.as_routine x)
  routine_uses (cell.Code block act) = gives_uses (block, act)
  routine_uses cell.Undef = stuck_uses
  routine_uses (cell.Int i) = stuck_uses
  routine_uses (cell.Members set) = stuck_uses
  routine_uses (cell.Ptr p) = stuck_uses
  routine_uses (cell.Ref r o) = stuck_uses
  routine_uses (cell.FileNo j) = stuck_uses

  call_by_served : (n : ℕ) (is_function : Bool) → is_right code k e (operation.CallBy n is_function) ≡ true → (s : State) →
      Has a older (k + 1) e s → Goal (row codes (operation.CallBy n is_function) s)
  call_by_served n is_function right s h =
      let o : Operation = operation.CallBy n is_function in
      let d : ℕ = e - (n + 1) in
      let full : e ≡ n + suc d = let x : e ≡ n + 1 + (e - (n + 1)) = enough code k e o right in omega (arith, x) in
      served_bind (take_all n s) (λ cells t. (take_cell >>=
      (λ x. call.as_routine x >>= (λ routine. call.call_routine codes cells routine))) t)
      ((take_all_uses n (suc d)).by a older (k + 1) s (has_as e (n + suc d) full h)) (λ cells t g.
      served_bind (take_cell t) (λ x u. (call.as_routine x >>= (λ routine. call.call_routine codes cells routine)) u)
      (take_cell_uses.by a older (k + 1) t g) (λ x u f.
      served_bind (call.as_routine x u) (λ routine v. call.call_routine codes cells routine v)
      ((routine_uses x).by a older (k + 1) u f) (λ routine v m.
      by_path cells routine.1 v (next_depth code k e o refl right) m (slice_get v.blocks routine.0))))
    where
      by_code : (cells : List Cell) (parent : ℕ) (path : Path) (v : State) → entering is_function (e - (n + 1)) →
          Has a older (k + 1) (e - (n + 1)) v → (o : Option BlockCode) → code_of codes path ≡ o →
          Goal ((call.loaded o path >>= (λ callee. call.enter callee path parent cells)) v)
      by_code cells parent path v next m None is = record { by = tt }
      by_code cells parent path v next m (Some callee) is = enter_served is_function (e - (n + 1)) next callee path parent
          cells v is m

      by_parent : (cells : List Cell) (path : Path) (v : State) → entering is_function (e - (n + 1)) →
          Has a older (k + 1) (e - (n + 1)) v → (o : Option Activation) →
          Goal (bind (needs o v) (λ parent u. call.call_block codes cells parent.number path u))
      by_parent cells path v next m None = record { by = tt }
      by_parent cells path v next m (Some parent) = by_code cells parent.number path v next m (code_of codes path) refl

      by_path : (cells : List Cell) (act : ℕ) (v : State) → entering is_function (e - (n + 1)) →
          Has a older (k + 1) (e - (n + 1)) v → (o : Option Path) →
          Goal (bind (needs o v) (λ path u. (needs (find_activation (activations_in v.frames) act) >>=
          (λ parent. call.call_block codes cells parent.number path)) u))
      by_path cells act v next m None = record { by = tt }
      by_path cells act v next m (Some path) = by_parent cells path v next m (find_activation (activations_in v.frames) act)

  -- ---- the end of activations

  return_served : (o : Option ℕ) (s : State) → Has a older (k + 1) e s → Goal (row codes (operation.Return o) s)
  return_served o s h = subst (λ fs. Goal (call.return_in fs o s)) (sym h.frames) (by_older older refl)
    where
      own : Frame
      own = record { activation = a; next = k + 1; operands = h.operands }

      gone : (f : Frame) (rest : List Frame) (t : State) → older ≡ f ∷ rest → Has a older (k + 1) e t →
          (call.without_newest t t.frames).frames ≡ f ∷ rest
      gone f rest t is g = ap (λ fs. (call.without_newest t fs).frames) g.frames ∙ is

      given : (f : Frame) (rest : List Frame) (x : Cell) (t : State) → older ≡ f ∷ rest → Has a older (k + 1) e t →
          Goal ((call.leave_newest >> (defined x >>= (λ y. put_cell y))) t)
      given f rest x t is g =
          let u : State = call.without_newest t t.frames in
          let below : Has f.activation rest f.next (length f.operands) u = record {
            operands = f.operands;
            frames =
                gone f rest t is g;
            count = refl;
          } in
          served_as ((defined x >>= (λ y. put_cell y)) u) ((bind_uses (defined_uses x) (λ y. put_uses (One y))).by f.activation
          rest f.next u below)
          (λ v w. Returned f rest true w.operands is w.frames (w.count ∙ omega arith))

      by_cell : (f : Frame) (rest : List Frame) (o : Option ℕ) → older ≡ f ∷ rest → Goal (call.return_cell own o s)
      by_cell f rest None is = record { by = Returned f rest false f.operands is (gone f rest s is h) (omega arith) }
      by_cell f rest (Some c) is =
          served_bind (cell_of (record { root = a.number; offset = c }) s)
          (λ x t. (call.leave_newest >> (defined x >>= (λ y. put_cell y))) t)
          ((cell_of_uses (record { root = a.number; offset = c })).by a older (k + 1) s h) (λ x t g. given f rest x t is g)

      by_older : (fs : List Frame) → older ≡ fs → Goal (call.return_in (own ∷ fs) o s)
      by_older [] is = record { by = tt }
      by_older (f ∷ rest) is = by_cell f rest o is

  leave_served : (depth label : ℕ) (s : State) → Has a older (k + 1) e s → Goal (row codes (operation.Leave depth label) s)
  leave_served depth label s h = by_number (holder (activations_in s.frames) depth) refl
    where
      landed : (t : State) (f : Frame) (rest : List Frame) → t.frames ≡ f ∷ rest → (o : Option ℕ) → label_in
          (code_of codes (newest_path t.frames)) label ≡ o →
          Goal (bind (needs o t) (λ j. change_newest (λ f. record f { next = j; operands = [] })))
      landed t f rest is None found = record { by = tt }
      landed t f rest is (Some j) found =
          record {
            by = Left (record f { next = j; operands = [] }) rest label
                (ap (with_newest (λ f. record f { next = j; operands = [] })) is) refl
                (subst (λ fs. label_in (code_of codes (newest_path fs)) label ≡ Some j) is found);
          }

      by_number : (o : Option ℕ) → holder (activations_in s.frames) depth ≡ o →
          Goal (bind (needs o s) (λ number. update (λ s. call.left_until number s s.frames) >> (now >>=
          (λ s. needs (label_in (code_of codes (newest_path s.frames)) label) >>=
          (λ j. change_newest (λ f. record f { next = j; operands = [] }))))))
      by_number None is = record { by = tt }
      by_number (Some number) is =
          let g = left_frames number s s.frames refl (held_among s.frames depth number is) in
          let t : State = call.left_until number s s.frames in
          landed t g.0 g.1 g.2 (label_in (code_of codes (newest_path t.frames)) label) refl

  -- ---- all rows

  row_served : (o : Operation) → is_right code k e o ≡ true → (s : State) → Has a older (k + 1) e s → Goal (row codes o s)
  row_served operation.Stmt r = plain operation.Stmt refl r (λ d. skip_uses)
  row_served (operation.Int n) r = plain (operation.Int n) refl r (λ d. none_one (put_uses _))
  row_served operation.Nil r = plain operation.Nil refl r (λ d. none_one (put_uses _))
  row_served operation.Empty r = plain operation.Empty refl r (λ d. none_one (put_uses _))
  row_served (operation.Chars bytes) r = plain (operation.Chars bytes) refl r (λ d. none_one (put_uses _))
  row_served (operation.Proc depth path) r = plain (operation.Proc depth path) refl r (λ d. none_one (proc_uses depth path))
  row_served (operation.Addr depth o) r = plain (operation.Addr depth o) refl r (λ d. none_one (addr_uses depth o))
  row_served (operation.FileAt f) r = plain (operation.FileAt f) refl r (λ d. none_one (put_uses _))
  row_served operation.Dup r = plain operation.Dup refl r (λ d. uses_as (1 + d) (suc d) (2 + d) (suc (suc d)) (omega arith)
      (omega arith) dup_uses)
  row_served operation.Load r = plain operation.Load refl r (λ d. one_one load_uses)
  row_served operation.Store r = plain operation.Store refl r (λ d. two_none store_uses)
  row_served (operation.Clear n) r = plain (operation.Clear n) refl r (λ d. one_none (clear_uses n))
  row_served (operation.LoadMany n) r = plain (operation.LoadMany n) refl r (λ d. one_one (load_many_uses n))
  row_served (operation.StoreMany n) r = plain (operation.StoreMany n) refl r (λ d. two_none (store_many_uses n))
  row_served (operation.Offset n) r = plain (operation.Offset n) refl r (λ d. one_one (offset_uses n))
  row_served (operation.Index low high size) r = plain
      (operation.Index low high size) refl r (λ d. two_one (index_uses low high size))
  row_served operation.Follow r = plain operation.Follow refl r (λ d. one_one follow_uses)
  row_served (operation.Active o constants) r = plain
      (operation.Active o constants) refl r (λ d. one_one (active_uses o constants))
  row_served (operation.Choose o constant constants n) r = plain (operation.Choose o constant constants n) refl r
      (λ d. one_one (select_uses o constant constants n))
  row_served (operation.Tag groups n) r = plain (operation.Tag groups n) refl r (λ d. two_none (tag_uses groups n))
  row_served operation.Add r = plain operation.Add refl r (λ d. two_one (on_numbers_uses _ (λ i j. put_integer_uses (i +ℤ j))))
  row_served operation.Sub r = plain operation.Sub refl r (λ d. two_one (on_numbers_uses _ (λ i j. put_integer_uses (i -ℤ j))))
  row_served operation.Mul r = plain operation.Mul refl r (λ d. two_one (on_numbers_uses _ (λ i j. put_integer_uses (i *ℤ j))))
  row_served operation.Div r = plain operation.Div refl r
      (λ d. two_one (on_numbers_uses _ (λ i j. choose_uses (same_number j (pos 0)) (fault_uses 2)
      (put_integer_uses (int_div i j)))))
  row_served operation.Mod r = plain operation.Mod refl r
      (λ d. two_one (on_numbers_uses _ (λ i j. choose_uses (int_lt (pos 0) j) (put_uses _) (fault_uses 2))))
  row_served operation.Neg r = plain operation.Neg refl r
      (λ d. one_one (bind_uses take_number_uses (λ i. put_integer_uses (pos 0 -ℤ i))))
  row_served operation.Odd r = plain operation.Odd refl r (λ d. one_one (bind_uses take_number_uses (λ i. put_uses _)))
  row_served operation.Not r = plain operation.Not refl r (λ d. one_one (bind_uses take_number_uses (λ i. put_uses _)))
  row_served operation.And r = plain operation.And refl r (λ d. two_one (on_numbers_uses _ (λ i j. put_uses _)))
  row_served operation.Or r = plain operation.Or refl r (λ d. two_one (on_numbers_uses _ (λ i j. put_uses _)))
  row_served (operation.Range low high f) r = plain (operation.Range low high f) refl r (λ d. one_one (range_uses low high f))
  row_served (operation.Within low high) r = plain (operation.Within low high) refl r (λ d. one_one (within_uses low high))
  row_served (operation.Cmp rel) r = plain (operation.Cmp rel) refl r (λ d. two_one (cmp_uses rel))
  row_served operation.Has r = plain operation.Has refl r (λ d. two_one has_uses)
  row_served operation.One r = plain operation.One refl r (λ d. two_one one_uses)
  row_served operation.Span r = plain operation.Span refl r (λ d. uses_as (3 + d) (suc (suc (suc d))) (1 + d) (suc d)
      (omega arith) (omega arith) span_uses)
  row_served operation.Union r = plain operation.Union refl r (λ d. two_one (on_sets_uses union))
  row_served operation.Meet r = plain operation.Meet refl r (λ d. two_one (on_sets_uses intersection))
  row_served operation.Less r = plain operation.Less refl r (λ d. two_one (on_sets_uses difference))
  row_served (operation.Jump target) r = jump_served target r
  row_served (operation.False target) r = false_served target r
  row_served (operation.Case arms) r = case_served arms r
  row_served (operation.Leave depth label) r = leave_served depth label
  row_served (operation.Call depth path n is_function) r = call_served depth path n is_function r
  row_served (operation.CallBy n is_function) r = call_by_served n is_function r
  row_served (operation.Return o) r = return_served o
  row_served (operation.New n) r = plain (operation.New n) refl r (λ d. one_none (new_uses n))
  row_served operation.Dispose r = plain operation.Dispose refl r (λ d. one_none dispose_uses)
  row_served (operation.File f) r = plain (operation.File f) refl r (λ d. file_row_uses d f)

-- ---- steps

pub depths_are_kept : DepthsAreKept
depths_are_kept codes s f older code frames loaded shaped depth =
    let i = instruction_right code f.next (length f.operands) shaped depth in
    let next : next_instruction codes s ≡ Some i.0 = ap (next_in codes) frames ∙ ap (λ o. instruction_in o f.next) loaded ∙
    i.1 in
    let h : Has f.activation older (f.next + 1) (length f.operands) (begun i.0.ordinal s) =
    record { operands = f.operands; frames = ap (with_newest (λ f. record f { next = f.next + 1 })) frames; count = refl }
    in
    subst (λ o. IsServed (Leading codes code f.activation older) (execute codes o s)) (sym next)
    (row_served codes code f.activation older f.next (length f.operands) i.0.operation i.2 (begun i.0.ordinal s) h).by
