-- Code of the right shape stays inside.
use Rattle.std.proofs.Common.{◌≡◌, ⊎_elim, ℕ, zero, suc, ◌+◌, ◌-◌, ◌<◌, ◌≤◌, Bool, true, false, not, ◌||◌, ◌&&◌, List, [], ◌∷◌, length, Option, Some, None}
use Rattle.std.proofs.Common.{refl, sym, ap, ◌∙◌, subst, arith, eqb-true, eq-eqb}
use Rattle.std.specs.Prelude.{nat_eq, nat_le, nat_lt, slice_get}
use Rattle.std.specs.List.{list_any, list_all}
use Rattle.std.proofs.lemmas.Bool.{and_parts, or_cases}
use Rattle.mp_code.specs.declared.instructions.Instr.{Instr}
use Rattle.mp_code.specs.declared.instructions.Operation.{Operation}
use Rattle.mp_code.specs.declared.check.TheConstants.{OPERAND_LIMIT}
use Rattle.mp_code.specs.BlockCode.{BlockCode, index_of_label}
use Rattle.mp_code.specs.Reached.{Reached, Begun, Labelled, Led, IsServed, ReachedIsServed, is_one_of}
use Rattle.mp_code.specs.Shape.{IsShaped, takes, puts, successors, is_bare, fails_at, is_wrong_start, is_wrong_length, is_wrong_label, is_wrong_instruction}
use Rattle.mp_code.specs.Shape.{instruction_is_right, leads_well, is_depth, is_right}
use Rattle.mp_code.proofs.ShapeLemmas.{at_most}

-- ---- the shape at an index, clause by clause

pub record Keeps (code : BlockCode) (k : ℕ) : Type 0 where
  pub start : is_wrong_start code k ≡ false
  pub label : is_wrong_label code k ≡ false
  pub instruction : is_wrong_instruction code k ≡ false

keeps : (code : BlockCode) (k : ℕ) → fails_at code k ≡ false → Keeps code k
keeps code k e = by_parts (is_wrong_start code k) (is_wrong_length code k) (is_wrong_label code k) (is_wrong_instruction code k) refl refl refl e
  where
    by_parts : (a b l i : Bool) → is_wrong_start code k ≡ a → is_wrong_label code k ≡ l → is_wrong_instruction code k ≡ i → ((a || b) || (l || i)) ≡ false → Keeps code k
    by_parts true b l i p q r e = absurd (let v : ⊥ = cc in v)
    by_parts false true l i p q r e = absurd (let v : ⊥ = cc in v)
    by_parts false false true i p q r e = absurd (let v : ⊥ = cc in v)
    by_parts false false false true p q r e = absurd (let v : ⊥ = cc in v)
    by_parts false false false false p q r e = record { start = p; label = q; instruction = r }

not_false : (b : Bool) → not b ≡ false → b ≡ true
not_false true e = refl
not_false false e = absurd (let v : ⊥ = cc in v)

-- where one of two tests fails and the first passes, the second fails
second_fails : (a b : Bool) → (a && b) ≡ false → a ≡ true → b ≡ false
second_fails true b e f = e
second_fails false b e f = absurd (let v : ⊥ = cc in v)

-- ---- lists of indexes

all_at : (test : ℕ → Bool) (ks : List ℕ) (m : ℕ) → list_all test ks ≡ true → is_one_of ks m ≡ true → test m ≡ true
all_at test [] m e f = absurd (let v : ⊥ = cc in v)
all_at test (k ∷ ks) m e f =
    let parts = and_parts (test k) (list_all test ks) e in
    ⊎_elim (λ here. subst (λ j. test j ≡ true) (eqb-true k m here) parts.0) (λ further. all_at test ks m parts.1 further) (or_cases (nat_eq k m) (is_one_of ks m) f)

label_stands : (labels : List (ℕ × ℕ)) (label k : ℕ) → index_of_label labels label ≡ Some k → list_any (λ pair. nat_eq pair.1 k) labels ≡ true
label_stands [] label k e = absurd (let v : ⊥ = cc in v)
label_stands (p ∷ more) label k e = by_test (nat_eq p.0 label) e (label_stands more label k)
  where
    or_true : (b : Bool) → (b || true) ≡ true
    or_true true = refl
    or_true false = refl

    one : (m : ℕ) → Some m ≡ Some k → m ≡ k
    one m e = cc

    by_test : (b : Bool) → (elim b as (λ is. Option ℕ) [ true ↦ Some p.1 | false ↦ index_of_label more label ]) ≡ Some k
        → (index_of_label more label ≡ Some k → list_any (λ pair. nat_eq pair.1 k) more ≡ true) → (nat_eq p.1 k || list_any (λ pair. nat_eq pair.1 k) more) ≡ true
    by_test true e rest = ap (λ b. b || list_any (λ pair. nat_eq pair.1 k) more) (eq-eqb p.1 k (one p.1 e))
    by_test false e rest = ap (λ b. nat_eq p.1 k || b) (rest e) ∙ or_true (nat_eq p.1 k)

-- ---- an index that is led to well

depth_is : (d : ℕ) (o : Option ℕ) → is_depth d o ≡ true → o ≡ Some d
depth_is d None e = absurd (let v : ⊥ = cc in v)
depth_is d (Some f) e = ap Some (eqb-true f d e)

inside : (code : BlockCode) (d k : ℕ) → leads_well code d k ≡ true → k < length code.instructions
inside code d k e = let is : nat_lt k (length code.instructions) ≡ true =
    (and_parts (nat_lt k (length code.instructions)) (is_depth d (slice_get code.depths k)) e).0 in grind (arith, is)

depth_at : (code : BlockCode) (d k : ℕ) → leads_well code d k ≡ true → slice_get code.depths k ≡ Some d
depth_at code d k e = depth_is d (slice_get code.depths k) (and_parts (nat_lt k (length code.instructions)) (is_depth d (slice_get code.depths k)) e).1

found : (instructions : List Instr) (k : ℕ) → k < length instructions → (i : Instr) × (slice_get instructions k ≡ Some i)
found [] k l = absurd (let v : ⊥ = omega (arith, l) in v)
found (i ∷ more) zero l = (i, refl)
found (i ∷ more) (suc k) l = found more k (omega (arith, l))

right_at : (code : BlockCode) (k d : ℕ) (i : Instr) → is_wrong_instruction code k ≡ false → slice_get code.instructions k ≡ Some i → slice_get code.depths k ≡ Some d
    → is_right code k d i.operation ≡ true
right_at code k d i e f g =
    ap (instruction_is_right code k (Some i)) (sym g) ∙ ap (λ o. instruction_is_right code k o (slice_get code.depths k)) (sym f)
    ∙ not_false (instruction_is_right code k (slice_get code.instructions k) (slice_get code.depths k)) e

record RightParts (code : BlockCode) (k e : ℕ) (o : Operation) : Type 0 where
  enough : takes o ≤ e
  leads : list_all (leads_well code (e - takes o + puts o)) (successors k o) ≡ true
  bare : is_bare o ≡ true → e ≡ 0
  small : e ≤ OPERAND_LIMIT

right_parts : (code : BlockCode) (k e : ℕ) (o : Operation) → is_right code k e o ≡ true → RightParts code k e o
right_parts code k e o right =
    by_halves (nat_le (takes o) e && list_all (leads_well code (e - takes o + puts o)) (successors k o))
    ((not (is_bare o) || nat_eq e 0) && nat_le e OPERAND_LIMIT) refl refl right
  where
    bare_is : (b : Bool) → (not b || nat_eq e 0) ≡ true → b ≡ true → e ≡ 0
    bare_is true h f = eqb-true e 0 h
    bare_is false h f = absurd (let v : ⊥ = cc in v)

    by_halves : (a b : Bool) → (nat_le (takes o) e && list_all (leads_well code (e - takes o + puts o)) (successors k o)) ≡ a
        → ((not (is_bare o) || nat_eq e 0) && nat_le e OPERAND_LIMIT) ≡ b → (a && b) ≡ true → RightParts code k e o
    by_halves false b p q h = absurd (let v : ⊥ = cc in v)
    by_halves true false p q h = absurd (let v : ⊥ = cc in v)
    by_halves true true p q h =
        let first = and_parts (nat_le (takes o) e) (list_all (leads_well code (e - takes o + puts o)) (successors k o)) p in
        let second = and_parts (not (is_bare o) || nat_eq e 0) (nat_le e OPERAND_LIMIT) q in
        record { enough = at_most (takes o) e first.0; leads = first.1; bare = bare_is (is_bare o) second.0; small = at_most e OPERAND_LIMIT second.1 }

serves : (code : BlockCode) (k d : ℕ) → IsShaped code → leads_well code d k ≡ true → (i : Instr) × IsServed code k d i
serves code k d shaped e = with_instruction (found code.instructions k (inside code d k e))
  where
    with_instruction : (i : Instr) × (slice_get code.instructions k ≡ Some i) → (i : Instr) × IsServed code k d i
    with_instruction s =
        let parts = right_parts code k d s.0.operation (right_at code k d s.0 ((keeps code k (shaped k)).instruction) s.1 (depth_at code d k e)) in
        (s.0, record { instruction = s.1; operands = depth_at code d k e; enough = parts.enough; bare = parts.bare; small = parts.small })

leads : (code : BlockCode) (k d m : ℕ) (i : Instr) → IsShaped code → IsServed code k d i → is_one_of (successors k i.operation) m ≡ true
    → leads_well code (d - takes i.operation + puts i.operation) m ≡ true
leads code k d m i shaped s e =
    let parts = right_parts code k d i.operation (right_at code k d i ((keeps code k (shaped k)).instruction) s.instruction s.operands) in
    all_at (leads_well code (d - takes i.operation + puts i.operation)) (successors k i.operation) m parts.leads e

comes_well : (code : BlockCode) (k d : ℕ) → IsShaped code → Reached code k d → leads_well code d k ≡ true
comes_well code _ _ shaped Begun = not_false (leads_well code 0 0) (keeps code 0 (shaped 0)).start
comes_well code _ _ shaped (Labelled label k e) =
    not_false (leads_well code 0 k) (second_fails _ _ (keeps code k (shaped k)).label (label_stands code.labels label k e))
comes_well code _ _ shaped (Led k d m i r f e) =
    with_served (serves code k d shaped (comes_well code k d shaped r))
  where
    same : (a b : Instr) → slice_get code.instructions k ≡ Some a → slice_get code.instructions k ≡ Some b → a ≡ b
    same a b g h = cc

    with_served : (j : Instr) × IsServed code k d j → leads_well code (d - takes i.operation + puts i.operation) m ≡ true
    with_served s = leads code k d m i shaped (subst (IsServed code k d) (same s.0 i s.1.instruction f) s.1) e

pub reached_is_served : ReachedIsServed
reached_is_served code k d shaped r = serves code k d shaped (comes_well code k d shaped r)
