-- What a map of names does with a defining point: a new name goes last, and what a name declares is filled in at its entry.
use Rattle.std.proofs.Common.{◌≡◌, ℕ, Bool, true, false, cond, ◌&&◌, List, [], ◌∷◌, ◌++◌, Option, Some, None, is_some, bytes_eq, nat_eq, eqb-true, refl, sym, ap, subst, ◌∙◌}
use Rattle.std.proofs.lemmas.Slice.Eq.{bytes_eq-Decides}
use Rattle.std.specs.List.{IsDistinct, AllByRecursion}
use Rattle.std.specs.Map.{lookup, set_value, keys_of}
use Rattle.mp_tables.specs.declared.declarations.Decl.{Decl}
use Rattle.mp_tables.specs.declared.tables.Entry.{Entry}
use Rattle.mp_tables.specs.DefiningPoints.{Points, filled, is_known, with_point}

none_is : {A : Type 0} (o : Option A) → is_some o ≡ false → o ≡ None
none_is None e = refl
none_is (Some x) e = absurd (let n : ⊥ = cc in n)

pub lookup_unknown : (n : List ℕ) (known : Points) → is_known n known ≡ false → lookup (bytes_eq n) known ≡ None
lookup_unknown n known e = none_is (lookup (bytes_eq n) known) e

pub with_point_new : (known : Points) (n : List ℕ) (e : Entry) → is_known n known ≡ false → with_point known (n, e) ≡ known ++ (n, e) ∷ []
with_point_new known n e h = ap (λ b. cond b known (known ++ (n, e) ∷ [])) h

-- ---- filling in

module _ (at : ℕ) (d : Decl) where
  abbrev pub refilled : Entry → Entry
  refilled e = cond (nat_eq e.at at) (record e { decl = d }) e

  -- other names stay
  filled_others : (n : List ℕ) (es : Points) → AllByRecursion (λ k. bytes_eq n k ≡ false) (keys_of es) → filled n at d es ≡ es
  filled_others n [] others = refl
  filled_others n (p ∷ es) others =
      (λ i. cond (others.0 i && nat_eq p.1.at at) (n, record { decl = d; at = at; last = p.1.last }) p ∷ filled_others n es others.1 i)

  pub filled_absent : (n : List ℕ) (es : Points) → lookup (bytes_eq n) es ≡ None → filled n at d es ≡ es
  filled_absent n [] e = refl
  filled_absent n (p ∷ es) e = by (bytes_eq n p.0) e (filled_absent n es)
    where
      by :
          (b : Bool) → cond b (Some p.1) (lookup (bytes_eq n) es) ≡ None → (lookup (bytes_eq n) es ≡ None → filled n at d es ≡ es) →
          cond (b && nat_eq p.1.at at) (n, record { decl = d; at = at; last = p.1.last }) p ∷ filled n at d es ≡ p ∷ es
      by true h f = absurd (let n : ⊥ = cc in n)
      by false h f = ap (λ more. p ∷ more) (f h)

  own_point : (n : List ℕ) (p : List ℕ × Entry) (c : Bool) → n ≡ p.0 → nat_eq p.1.at at ≡ c →
      cond c (n, record { decl = d; at = at; last = p.1.last }) p ≡ (p.0, cond c (record p.1 { decl = d }) p.1)
  own_point n p true same e = let there = sym (eqb-true p.1.at at e) in (λ i. (same i, record { decl = d; at = there i; last = p.1.last }))
  own_point n p false same e = refl

  pub set_value-filled : (n : List ℕ) (es : Points) (e : Entry) → IsDistinct bytes_eq (keys_of es) → lookup (bytes_eq n) es ≡ Some e →
      set_value (bytes_eq n) es (refilled e) ≡ filled n at d es
  unfolding IsDistinct
  set_value-filled n [] e distinct found = absurd (let n : ⊥ = cc in n)
  set_value-filled n (p ∷ es) e distinct found = by (bytes_eq n p.0) refl found (set_value-filled n es e distinct.1)
    where
      by : (b : Bool) → bytes_eq n p.0 ≡ b → cond b (Some p.1) (lookup (bytes_eq n) es) ≡ Some e →
          (lookup (bytes_eq n) es ≡ Some e → set_value (bytes_eq n) es (refilled e) ≡ filled n at d es) →
          cond b ((p.0, refilled e) ∷ es) (p ∷ set_value (bytes_eq n) es (refilled e)) ≡ cond (b && nat_eq p.1.at at)
          (n, record { decl = d; at = at; last = p.1.last }) p ∷ filled n at d es
      by true same h f =
          let own : p.1 ≡ e = cc in
          let key = (bytes_eq-Decides n p.0).0 same in
          let rest = filled_others n es (subst (λ k. AllByRecursion (λ y. bytes_eq k y ≡ false) (keys_of es)) (sym key) distinct.0) in
          sym ((λ i. own_point n p (nat_eq p.1.at at) key refl i ∷ rest i) ∙ ap (λ x. (p.0, refilled x) ∷ es) own)
      by false other h f = ap (λ more. p ∷ more) (f h)
