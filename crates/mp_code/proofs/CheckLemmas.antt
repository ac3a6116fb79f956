-- The least index at which a clause fails is the lesser of two: that of the labels, and that of all other clauses.
use Rattle.std.proofs.Common.{◌≡◌, ℕ, ◌+◌, ◌<◌, ◌≤◌, Bool, true, false, ◌||◌, ◌&&◌, List, [], ◌∷◌, length, map, Option, Some, None, MatchOption, refl, sym, ap}
use Rattle.std.proofs.Common.{ap₂, ◌∙◌, subst, arith, inl, inr, eq-eqb}
use Rattle.std.specs.Prelude.{nat_eq, nat_le}
use Rattle.std.specs.List.{list_any}
use Rattle.std.proofs.lemmas.Bool.{and_parts}
use Rattle.mp_code.specs.BlockCode.{BlockCode}
use Rattle.mp_code.specs.Drafts.{IsFirst, is_wrong_here, is_wrong_target}
use Rattle.mp_code.specs.Shape.{IsShaped, IsFirstBad, fails_at, is_wrong_start, is_wrong_length, is_wrong_label, is_wrong_instruction, least_that, lesser_of}
use Rattle.mp_code.proofs.ShapeLemmas.{StandsIn, IsLeast, IsRight, least_is_right, labelled, at_most, above, right_past_the_end}

abbrev pub indexes : BlockCode → List ℕ
indexes code = map (λ pair. pair.1) code.labels

-- ---- the four tests of an index

bad_here : (s l lab i : Bool) → ((s || l) || i) ≡ true → ((s || l) || (lab || i)) ≡ true
bad_here true l lab i e = refl
bad_here false true lab i e = refl
bad_here false false true i e = refl
bad_here false false false i e = e

bad_label : (s l lab i : Bool) → lab ≡ true → ((s || l) || (lab || i)) ≡ true
bad_label true l lab i e = refl
bad_label false true lab i e = refl
bad_label false false true i e = refl
bad_label false false false i e = absurd (let v : ⊥ = cc in v)

not_bad : (s l lab i : Bool) → ((s || l) || i) ≡ false → lab ≡ false → ((s || l) || (lab || i)) ≡ false
not_bad true l lab i e f = e
not_bad false true lab i e f = e
not_bad false false true i e f = f
not_bad false false false i e f = e

fails_here : (code : BlockCode) (k : ℕ) → is_wrong_here code k ≡ true → fails_at code k ≡ true
fails_here code k e = bad_here (is_wrong_start code k) (is_wrong_length code k) (is_wrong_label code k) (is_wrong_instruction code k) e

fails_by_label : (code : BlockCode) (k : ℕ) → is_wrong_label code k ≡ true → fails_at code k ≡ true
fails_by_label code k e = bad_label (is_wrong_start code k) (is_wrong_length code k) (is_wrong_label code k) (is_wrong_instruction code k) e

fails_nowhere : (code : BlockCode) (k : ℕ) → is_wrong_here code k ≡ false → is_wrong_label code k ≡ false → fails_at code k ≡ false
fails_nowhere code k e f = not_bad (is_wrong_start code k) (is_wrong_length code k) (is_wrong_label code k) (is_wrong_instruction code k) e f

-- ---- labels

labels_stand : (labels : List (ℕ × ℕ)) (k : ℕ) → StandsIn k (map (λ pair. pair.1) labels) → list_any (λ pair. nat_eq pair.1 k) labels ≡ true
labels_stand [] k h = absurd h
labels_stand (p ∷ more) k (inl e) = ap (λ b. b || list_any (λ pair. nat_eq pair.1 k) more) (eq-eqb p.1 k (sym e))
labels_stand (p ∷ more) k (inr h) = ap (λ b. nat_eq p.1 k || b) (labels_stand more k h) ∙ or_true (nat_eq p.1 k)
  where
    or_true : (b : Bool) → (b || true) ≡ true
    or_true true = refl
    or_true false = refl

label_is_wrong : (code : BlockCode) (k : ℕ) → StandsIn k (indexes code) → is_wrong_target code k ≡ true → is_wrong_label code k ≡ true
label_is_wrong code k h e = ap₂ (λ a b. a && b) (labels_stand code.labels k h) e

no_label_is_wrong : (code : BlockCode) (k : ℕ) → (StandsIn k (indexes code) → is_wrong_target code k ≡ true → ⊥) → is_wrong_label code k ≡ false
no_label_is_wrong code k h = by_test (is_wrong_label code k) refl
  where
    by_test : (b : Bool) → is_wrong_label code k ≡ b → b ≡ false
    by_test true e = let parts = and_parts (list_any (λ pair. nat_eq pair.1 k) code.labels) (is_wrong_target code k) e in absurd (h (labelled code.labels k parts.0) parts.1)
    by_test false e = refl

-- ---- where no clause fails up to the end, none fails

pub none_wrong : (code : BlockCode) → ((j : ℕ) → j < length code.instructions + 1 → is_wrong_here code j ≡ false) → (k : ℕ) → is_wrong_here code k ≡ false
none_wrong code h k = by_test (nat_le k (length code.instructions)) refl
  where
    by_test : (b : Bool) → nat_le k (length code.instructions) ≡ b → is_wrong_here code k ≡ false
    by_test true is = h k (grind (arith, is))
    by_test false is = right_past_the_end code k (grind (arith, is))

pub one_further : (test : ℕ → Bool) (n : ℕ) → ((j : ℕ) → j < n → test j ≡ false) → test n ≡ false → (j : ℕ) → j < n + 1 → test j ≡ false
one_further test n h e j less = by_test (nat_le n j) refl
  where
    by_test : (b : Bool) → nat_le n j ≡ b → test j ≡ false
    by_test true is = subst (λ k. test k ≡ false) (let o : n ≤ j = grind (arith, is) in omega (arith, o, less)) e
    by_test false is = h j (grind (arith, is))

-- ---- the lesser of the two

abbrev pub joined : Option ℕ → Option ℕ → Option ℕ
joined None label = label
joined (Some index) label = lesser_of index label

abbrev pub IsFound : BlockCode → Option ℕ → Type 0
IsFound code o = MatchOption o (IsShaped code) (λ k. IsFirstBad code k)

abbrev pub IsIndex : BlockCode → Option ℕ → Type 0
IsIndex code o = MatchOption o ((k : ℕ) → is_wrong_here code k ≡ false) (λ k. IsFirst (is_wrong_here code) k)

pub joined_is_first : (code : BlockCode) (index : Option ℕ) → IsIndex code index → IsFound code (joined index (least_that (is_wrong_target code) (indexes code)))
unfolding IsRight
joined_is_first code index h = by_both index (least_that (is_wrong_target code) (indexes code)) h (least_is_right (is_wrong_target code) (indexes code))
  where
    below : (m : ℕ) → IsLeast (is_wrong_target code) (indexes code) m → (j : ℕ) → j < m → is_wrong_label code j ≡ false
    below m l j less = no_label_is_wrong code j (λ stands wrong. let v : ⊥ = (let o : m ≤ j = l.least j stands wrong in omega (arith, o, less)) in v)

    at_label : (m : ℕ) → IsLeast (is_wrong_target code) (indexes code) m → fails_at code m ≡ true
    at_label m l = fails_by_label code m (label_is_wrong code m l.stands l.passes)

    by_order : (k m : ℕ) → IsFirst (is_wrong_here code) k → IsLeast (is_wrong_target code) (indexes code) m → (b : Bool) → nat_le k m ≡ b
        → IsFound code (elim b as (λ is. Option ℕ) [ true ↦ Some k | false ↦ Some m ])
    by_order k m f l true is = record {
      fails = fails_here code k f.passes;
      least = λ j less. fails_nowhere code j (f.least j less) (below m l j (let o = at_most k m is in omega (arith, o, less)));
    }
    by_order k m f l false is = record {
      fails = at_label m l;
      least = λ j less. fails_nowhere code j (f.least j (let o = above k m is in omega (arith, o, less))) (below m l j less);
    }

    by_both : (i o : Option ℕ) → IsIndex code i → IsRight (is_wrong_target code) (indexes code) o → IsFound code (joined i o)
    by_both None None f l = λ k. fails_nowhere code k (f k) (no_label_is_wrong code k (λ stands wrong. l k stands wrong))
    by_both None (Some m) f l = record { fails = at_label m l; least = λ j less. fails_nowhere code j (f j) (below m l j less) }
    by_both (Some k) None f l = record {
      fails = fails_here code k f.passes;
      least = λ j less. fails_nowhere code j (f.least j less) (no_label_is_wrong code j (λ stands wrong. l j stands wrong));
    }
    by_both (Some k) (Some m) f l = by_order k m f l (nat_le k m) refl
