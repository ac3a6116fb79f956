-- The test of assignment-compatible types tells.
use Rattle.std.proofs.Common.{◌≡◌, Bool, true, false, cond, Option, Some, None, refl, sym, ap, ◌∙◌}
use Rattle.std.specs.Prelude.{◌↔◌, not}
use Rattle.mp_tables.specs.declared.types.TypeId.{TypeId}
use Rattle.mp_tables.specs.declared.types.Typed.{Typed}
use Rattle.mp_tables.specs.TypeRelations.{same, both, same_identity, compatible, holds_file, assignable}
use Rattle.mp_tables.proofs.CleanLemmas.{false_true}
use Rattle.mp_tables.proofs.SortLemmas.{same-eq}
use Rattle.mp_types.specs.Compatible.{SameType, IsAssignable}
use Rattle.mp_types.proofs.CompatibleLemmas.{compatible_cases, same-refl}

not_true : (x : Bool) → not x ≡ true → x ≡ false
not_true false e = refl
not_true true e = false_true e

true_not : (x : Bool) → x ≡ false → not x ≡ true
true_not x e = ap not e

-- the two have an identity, and the same one
one_type : (i j : Option TypeId) → both same i j ≡ true → (id : TypeId) × (i ≡ Some id) × (j ≡ Some id)
one_type None j e = false_true e
one_type (Some x) None e = false_true e
one_type (Some x) (Some y) e = (x, refl, ap Some (sym (same-eq x y e)))

same_type : (i j : Option TypeId) (id : TypeId) → i ≡ Some id → j ≡ Some id → both same i j ≡ true
same_type i j id p q = ap (λ x. both same x j) p ∙ ap (λ x. both same (Some id) x) q ∙ same-refl id

module _ (value target : Typed) where
  by_test : (t : Bool) → same_identity value target ≡ t → cond t (not (holds_file target.shape)) (compatible value target) ≡ true → IsAssignable value target
  by_test true e h =
      let found = one_type value.id target.id e in
      record { fits = SameType found.0 found.1 found.2; no_file = λ id p q. not_true (holds_file target.shape) h }
  by_test false e h =
      record {
        fits = (compatible_cases value target).0 h;
        no_file = λ id p q. false_true (sym e ∙ same_type value.id target.id id p q);
      }

  to_test : (t : Bool) → same_identity value target ≡ t → IsAssignable value target → cond t (not (holds_file target.shape)) (compatible value target) ≡ true
  to_test true e a =
      let found = one_type value.id target.id e in
      true_not (holds_file target.shape) (a.no_file found.0 found.1 found.2)
  to_test false e a = (compatible_cases value target).1 a.fits

pub assignable_cases : (value target : Typed) → (assignable value target ≡ true) ↔ IsAssignable value target
assignable_cases value target =
    (by_test value target (same_identity value target) refl, to_test value target (same_identity value target) refl)
