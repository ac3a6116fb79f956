-- The index that is found is the least one at which a clause fails.
use Rattle.std.proofs.Common.{◌≡◌, ◌⊎◌, inl, inr, ⊎_elim, ℕ, zero, suc, ◌+◌, ◌<◌, ◌≤◌, Bool, true, false, not, ◌||◌, List, [], ◌∷◌, ◌++◌, length, map, Option}
use Rattle.std.proofs.Common.{Some, None, MatchOption, refl, sym, ap, ◌∙◌, subst, arith, eqb-true}
use Rattle.std.specs.Prelude.{nat_eq, nat_le, slice_get}
use Rattle.std.specs.List.{list_any, range_with_len}
use Rattle.std.proofs.lemmas.Bool.{and_parts, or_cases}
use Rattle.std.proofs.lemmas.Option.{slice_get_past}
use Rattle.mp_code.specs.BlockCode.{BlockCode}
use Rattle.mp_code.specs.Shape.{IsShaped, IsFirstBad, FirstBadIsLeast, fails_at, is_wrong_start, is_wrong_length, is_wrong_label, is_wrong_instruction}
use Rattle.mp_code.specs.Shape.{instruction_is_right, leads_well, shorter, lesser_of, least_that, suspects, first_bad}

pub at_most : (k m : ℕ) → nat_le k m ≡ true → k ≤ m
at_most k m is = grind (arith, is)

pub above : (k m : ℕ) → nat_le k m ≡ false → m < k
above k m is = grind (arith, is)

abbrev pub StandsIn : ℕ → List ℕ → Type 0
StandsIn k [] = ⊥
StandsIn k (x ∷ xs) = (k ≡ x) ⊎ StandsIn k xs

in_left : (k : ℕ) (xs ys : List ℕ) → StandsIn k xs → StandsIn k (xs ++ ys)
in_left k [] ys h = absurd h
in_left k (x ∷ xs) ys (inl e) = inl e
in_left k (x ∷ xs) ys (inr h) = inr (in_left k xs ys h)

in_right : (k : ℕ) (xs ys : List ℕ) → StandsIn k ys → StandsIn k (xs ++ ys)
in_right k [] ys h = h
in_right k (x ∷ xs) ys h = inr (in_right k xs ys h)

in_range : (a n k : ℕ) → a ≤ k → k < a + n → StandsIn k (range_with_len a n)
in_range a zero k l u = absurd (let v : ⊥ = omega (arith, l, u) in v)
in_range a (suc n) k l u = by_test (nat_eq k a) refl (λ more. in_range (a + 1) n k more (omega (arith, u)))
  where
    by_test : (b : Bool) → nat_eq k a ≡ b → (a + 1 ≤ k → StandsIn k (range_with_len (a + 1) n)) → StandsIn k (a ∷ range_with_len (a + 1) n)
    by_test true e rest = inl (grind (arith, e))
    by_test false e rest = inr (rest (grind (arith, e, l)))

-- ---- the least that passes

pub record IsLeast (test : ℕ → Bool) (xs : List ℕ) (k : ℕ) : Type 0 where
  pub stands : StandsIn k xs
  pub passes : test k ≡ true
  pub least : (j : ℕ) → StandsIn j xs → test j ≡ true → k ≤ j

abbrev pub NonePasses : (ℕ → Bool) → List ℕ → Type 0
NonePasses test xs = (j : ℕ) → StandsIn j xs → test j ≡ true → ⊥

unfoldable pub IsRight : (test : ℕ → Bool) → List ℕ → Option ℕ → Type 0
IsRight test xs o = MatchOption o (NonePasses test xs) (λ k. IsLeast test xs k)

pub least_is_right : (test : ℕ → Bool) (xs : List ℕ) → IsRight test xs (least_that test xs)
unfolding IsRight
least_is_right test [] = λ j h e. h
least_is_right test (x ∷ xs) = by_test (test x) refl (least_that test xs) (least_is_right test xs)
  where
    same_test : (j : ℕ) (b : Bool) → j ≡ x → test x ≡ b → test j ≡ b
    same_test j b e f = ap test e ∙ f

    by_order : (k : ℕ) (b : Bool) → nat_le x k ≡ b → test x ≡ true → IsLeast test xs k → IsRight test (x ∷ xs) (elim b as (λ is. Option ℕ) [ true ↦ Some x | false ↦ Some k ])
    by_order k true is e h = record {
      stands = inl refl;
      passes = e;
      least = λ j stands passes. ⊎_elim (λ same. omega (arith, same))
          (λ further. let l : k ≤ j = h.least j further passes in let m : x ≤ k = grind (arith, is) in omega (arith, l, m)) stands;
    }
    by_order k false is e h = record {
      stands = inr h.stands;
      passes = h.passes;
      least = λ j stands passes.
          ⊎_elim (λ same. let m : k ≤ x = grind (arith, is) in omega (arith, m, same)) (λ further. h.least j further passes) stands;
    }

    by_test : (b : Bool) → test x ≡ b → (o : Option ℕ) → IsRight test xs o → IsRight test (x ∷ xs) (elim b as (λ passes. Option ℕ) [ true ↦ lesser_of x o | false ↦ o ])
    by_test true e None h = record {
      stands = inl refl;
      passes = e;
      least = λ j stands passes. ⊎_elim (λ same. omega (arith, same))
          (λ further. absurd (h j further passes)) stands;
    }
    by_test true e (Some k) h = by_order k (nat_le x k) refl e h
    by_test false e None h = λ j stands passes. ⊎_elim (λ same. let w : false ≡ true = sym (same_test j false same e) ∙ passes in let v : ⊥ = cc in v)
        (λ further. h j further passes) stands
    by_test false e (Some k) h = record {
      stands = inr h.stands;
      passes = h.passes;
      least = λ j stands passes.
          ⊎_elim (λ same. let w : false ≡ true = sym (same_test j false same e) ∙ passes in absurd (let v : ⊥ = cc in v)) (λ further. h.least j further passes) stands;
    }

-- ---- an index at which a clause fails is a suspect

pub shorter_is_inside : (code : BlockCode) → shorter code ≤ length code.instructions
shorter_is_inside code = by_test (nat_le (length code.depths) (length code.instructions)) refl
  where
    by_test : (b : Bool) → nat_le (length code.depths) (length code.instructions) ≡ b
        → (elim b as (λ is. ℕ) [ true ↦ length code.depths | false ↦ length code.instructions ]) ≤ length code.instructions
    by_test true e = grind (arith, e)
    by_test false e = omega arith

pub labelled : (labels : List (ℕ × ℕ)) (k : ℕ) → list_any (λ pair. nat_eq pair.1 k) labels ≡ true → StandsIn k (map (λ pair. pair.1) labels)
labelled [] k e = let w : false ≡ true = e in let v : ⊥ = cc in v
labelled (p ∷ more) k e = ⊎_elim (λ here. inl (grind (arith, here)))
    (λ further. inr (labelled more k further)) (or_cases (nat_eq p.1 k) (list_any (λ pair. nat_eq pair.1 k) more) e)

-- past the end no clause fails but that on labels
pub right_past_the_end : (code : BlockCode) (k : ℕ) → length code.instructions < k → ((is_wrong_start code k || is_wrong_length code k) || is_wrong_instruction code k) ≡ false
right_past_the_end code k l = all_false (is_wrong_start code k) (is_wrong_length code k) (is_wrong_instruction code k) start too_long no_instruction
  where
    all_false : (a b d : Bool) → (a ≡ true → ⊥) → (b ≡ true → ⊥) → (d ≡ true → ⊥) → ((a || b) || d) ≡ false
    all_false true b d f g h = absurd (f refl)
    all_false false true d f g h = absurd (g refl)
    all_false false false true f g h = absurd (h refl)
    all_false false false false f g h = refl

    start : is_wrong_start code k ≡ true → ⊥
    start is = let zero_is : nat_eq k 0 ≡ true = (and_parts (nat_eq k 0) (not (leads_well code 0 0)) is).0 in let at : k ≡ 0 = grind (arith, zero_is) in omega (arith, at, l)

    too_long : is_wrong_length code k ≡ true → ⊥
    too_long is =
        let short : nat_eq k (shorter code) ≡ true = (and_parts (nat_eq k (shorter code)) (not (nat_eq (length code.depths) (length code.instructions))) is).0 in
        let inside : k ≤ length code.instructions = subst (λ j. j ≤ length code.instructions) (sym (eqb-true k (shorter code) short)) (shorter_is_inside code) in
        omega (arith, inside, l)

    no_instruction : is_wrong_instruction code k ≡ true → ⊥
    no_instruction is =
        let none : slice_get code.instructions k ≡ None = slice_get_past code.instructions k (omega (arith, l)) in
        let right : not (instruction_is_right code k None (slice_get code.depths k)) ≡ true =
        subst (λ i. not (instruction_is_right code k i (slice_get code.depths k)) ≡ true) none is in
        let w : false ≡ true = right in
        let v : ⊥ = cc in v

past_the_end : (code : BlockCode) (k : ℕ) → length code.instructions < k → fails_at code k ≡ true → StandsIn k (map (λ pair. pair.1) code.labels)
past_the_end code k l e =
    by_parts (is_wrong_start code k) (is_wrong_length code k) (is_wrong_instruction code k) (right_past_the_end code k l) (is_wrong_label code k) e
    (λ is. labelled code.labels k (and_parts (list_any (λ pair. nat_eq pair.1 k) code.labels) (not (leads_well code 0 k)) is).0)
  where
    by_parts : (a b d : Bool) → ((a || b) || d) ≡ false → (label : Bool) → ((a || b) || (label || d)) ≡ true → {A : Type 0} → (label ≡ true → A) → A
    by_parts true b d f label e g = absurd (let v : ⊥ = cc in v)
    by_parts false true d f label e g = absurd (let v : ⊥ = cc in v)
    by_parts false false d f true e g = g refl
    by_parts false false d f false e g = absurd (let w : false ≡ true = sym f ∙ e in let v : ⊥ = cc in v)

suspected : (code : BlockCode) (k : ℕ) → fails_at code k ≡ true → StandsIn k (suspects code)
suspected code k e = by_test (nat_le k (length code.instructions)) refl
  where
    by_test : (b : Bool) → nat_le k (length code.instructions) ≡ b → StandsIn k (suspects code)
    by_test true is =
        let l : k ≤ length code.instructions = grind (arith, is) in
        in_left k (range_with_len 0 (length code.instructions + 1)) (map (λ pair. pair.1) code.labels)
        (in_range 0 (length code.instructions + 1) k (omega arith) (omega (arith, l)))
    by_test false is =
        let l : length code.instructions < k = grind (arith, is) in
        in_right k (range_with_len 0 (length code.instructions + 1)) (map (λ pair. pair.1) code.labels) (past_the_end code k l e)

pub first_bad_is_least : FirstBadIsLeast
unfolding IsRight
first_bad_is_least code = by_found (first_bad code) (least_is_right (fails_at code) (suspects code))
  where
    or_not : (j : ℕ) → (fails_at code j ≡ true → ⊥) → (b : Bool) → fails_at code j ≡ b → fails_at code j ≡ false
    or_not j h true e = absurd (h e)
    or_not j h false e = e

    by_found : (o : Option ℕ) → IsRight (fails_at code) (suspects code) o → MatchOption o (IsShaped code) (λ k. IsFirstBad code k)
    by_found None h = λ j. or_not j (λ e. h j (suspected code j e) e) (fails_at code j) refl
    by_found (Some k) h = record {
      fails = h.passes;
      least = λ j l. or_not j
          (λ e. let m : k ≤ j = h.least j (suspected code j e) e in let v : ⊥ = omega (arith, m, l) in v) (fails_at code j) refl;
    }
