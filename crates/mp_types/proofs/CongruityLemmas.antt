-- Congruous headings: what is left to compare behind the first formals; and what congruity says of headings as a whole.
use Rattle.std.proofs.Common.{◌≡◌, ◌≢◌, ℕ, ◌+◌, ◌≤◌, ◌<◌, suc, Bool, true, false, ◌&&◌, List, [], ◌∷◌, Option, Some, None, length, length-drop}
use Rattle.std.proofs.Common.{map, get_or, drop, refl, sym, ap, ◌∙◌, subst, arith, nat_eq, eqb-true, eq-eqb}
use Rattle.std.proofs.Math.Seq.{drop-cons}
use Rattle.mp_tables.specs.declared.types.TypeId.{TypeId}
use Rattle.mp_tables.specs.declared.headings.Formal.{Formal}
use Rattle.mp_tables.specs.declared.headings.FormalKind.{FormalKind}
use Rattle.mp_tables.specs.declared.headings.FormalKind.TheVariants as formal
use Rattle.mp_tables.specs.declared.headings.Heading.{Heading}
use Rattle.mp_tables.specs.Checked.{unnamed, unnamed_formal}
use Rattle.mp_tables.specs.Complete.{IsNamed, AreNamed, NamedHeading}
use Rattle.mp_tables.specs.TypeRelations.{same, same_kind, unless_missing, congruous, congruous_formals, congruous_lists}
use Rattle.mp_tables.proofs.CleanLemmas.{false_true}
use Rattle.mp_tables.proofs.CallLemmas.{same_kind-eq}
use Rattle.mp_tables.proofs.SortLemmas.{both_true, same-eq}
use Rattle.mp_types.proofs.CompatibleLemmas.{both_are, same_bools, same-refl, same-is}

-- the lists are as long, and are congruous if what is left of them is
pub record Rest (a b : List Formal) (at : ℕ) : Type 0 where
  pub long : length a ≡ length b
  pub within : at ≤ length a
  pub left : congruous_lists (drop at a) (drop at b) ≡ congruous_lists a b

pub other_lengths : (a b : List Formal) → (length a ≢ length b) → congruous_lists a b ≡ false
other_lengths [] [] n = absurd (n refl)
other_lengths [] (g ∷ b) n = refl
other_lengths (f ∷ a) [] n = refl
other_lengths (f ∷ a) (g ∷ b) n = by (congruous_formals f g) (other_lengths a b (λ e. n (ap suc e)))
  where
    by : (x : Bool) → congruous_lists a b ≡ false → (x && congruous_lists a b) ≡ false
    by true e = e
    by false e = refl

-- the next two are compared
left-step : (a b : List Formal) (at : ℕ) (d e : Formal) → at < length a → at < length b →
    congruous_lists (drop at a) (drop at b) ≡ (congruous_formals (get_or a at d) (get_or b at e) && congruous_lists (drop (suc at) a) (drop (suc at) b))
left-step a b at d e h k = ap (λ l. congruous_lists l (drop at b)) (drop-cons a at d h) ∙ ap (λ l. congruous_lists (get_or a at d ∷ drop (suc at) a) l) (drop-cons b at e k)

one_more : (n : ℕ) → suc n ≡ n + 1
one_more n = omega arith

pub rest-next : (a b : List Formal) (at : ℕ) (d e : Formal) → at < length a → Rest a b at → congruous_formals (get_or a at d) (get_or b at e) ≡ true → Rest a b (at + 1)
rest-next a b at d e h r t =
    record {
      long = r.long;
      within = omega arith;
      left =
          subst (λ k. congruous_lists (drop k a) (drop k b) ≡ congruous_lists a b) (one_more at)
          (ap (λ x. x && congruous_lists (drop (suc at) a) (drop (suc at) b)) (sym t) ∙ sym (left-step a b at d e h (omega (arith, r.long))) ∙ r.left);
    }

pub rest-unequal :
    (a b : List Formal) (at : ℕ) (d e : Formal) →
    at < length a → Rest a b at → congruous_formals (get_or a at d) (get_or b at e) ≡ false → congruous_lists a b ≡ false
rest-unequal a b at d e h r t = sym r.left ∙ left-step a b at d e h (omega (arith, r.long)) ∙ ap (λ x. x && congruous_lists (drop (suc at) a) (drop (suc at) b)) t

pub rest-none : (a b : List Formal) (at : ℕ) → length a ≤ at → Rest a b at → congruous_lists a b ≡ true
rest-none a b at h r = sym r.left ∙ by (drop at a) (drop at b) (omega (arith, length-drop at a)) (omega (arith, length-drop at b, r.long))
  where
    by : (x y : List Formal) → length x ≡ 0 → length y ≡ 0 → congruous_lists x y ≡ true
    by [] [] m n = refl
    by [] (g ∷ y) m n = absurd (omega arith)
    by (f ∷ x) y m n = absurd (omega arith)

-- ---- whole headings

same_kind-refl : (a : FormalKind) → same_kind a a ≡ true
same_kind-refl formal.Value = refl
same_kind-refl formal.Variable = refl
same_kind-refl formal.Procedure = refl
same_kind-refl formal.Function = refl

same_kind-is : (a b : FormalKind) → a ≡ b → same_kind a b ≡ true
same_kind-is a b e = subst (λ x. same_kind a x ≡ true) e (same_kind-refl a)

same_if-sym : (x y : Option TypeId) → unless_missing same x y ≡ true → unless_missing same y x ≡ true
same_if-sym (Some x) (Some y) e = same-is y x (sym (same-eq x y e))
same_if-sym None None e = refl
same_if-sym None (Some y) e = refl
same_if-sym (Some x) None e = refl

same_if-refl : (x : Option TypeId) → unless_missing same x x ≡ true
same_if-refl None = refl
same_if-refl (Some x) = same-refl x

cons-inj : {X : Type 0} {x y : X} {xs ys : List X} → x ∷ xs ≡ y ∷ ys → (x ≡ y) × (xs ≡ ys)
cons-inj e = (cc, cc)

formals-sym : (a b : Formal) → congruous_formals a b ≡ true → congruous_formals b a ≡ true
formals-sym a b e =
    let p = both_true (nat_eq a.depth b.depth && nat_eq a.section b.section && same_kind a.kind b.kind) (unless_missing same a.of b.of) e in
    let q = both_true (nat_eq a.depth b.depth && nat_eq a.section b.section) (same_kind a.kind b.kind) p.0 in
    let r = both_true (nat_eq a.depth b.depth) (nat_eq a.section b.section) q.0 in
    both_are (nat_eq b.depth a.depth && nat_eq b.section a.section && same_kind b.kind a.kind) (unless_missing same b.of a.of)
    (both_are (nat_eq b.depth a.depth && nat_eq b.section a.section) (same_kind b.kind a.kind)
    (both_are (nat_eq b.depth a.depth) (nat_eq b.section a.section)
    (eq-eqb b.depth a.depth (sym (eqb-true a.depth b.depth r.0)))
    (eq-eqb b.section a.section (sym (eqb-true a.section b.section r.1))))
    (same_kind-is b.kind a.kind (sym (same_kind-eq a.kind b.kind q.1))))
    (same_if-sym a.of b.of p.1)

lists-sym : (a b : List Formal) → congruous_lists a b ≡ true → congruous_lists b a ≡ true
lists-sym [] [] e = refl
lists-sym [] (g ∷ b) e = false_true e
lists-sym (f ∷ a) [] e = false_true e
lists-sym (f ∷ a) (g ∷ b) e =
    let p = both_true (congruous_formals f g) (congruous_lists a b) e in
    both_are (congruous_formals g f) (congruous_lists b a) (formals-sym f g p.0) (lists-sym a b p.1)

headings-sym : (a b : Heading) → congruous a b ≡ true → congruous b a ≡ true
headings-sym a b e =
    let p = both_true (congruous_lists a.formals b.formals) (unless_missing same a.result b.result) e in
    both_are (congruous_lists b.formals a.formals) (unless_missing same b.result a.result) (lists-sym a.formals b.formals p.0) (same_if-sym a.result b.result p.1)

pub congruous-sym : (a b : Heading) → congruous a b ≡ congruous b a
congruous-sym a b = same_bools (congruous a b) (congruous b a) (headings-sym a b) (headings-sym b a)

-- ---- names do not count

formals-unnamed : (a b : Formal) → congruous_formals a b ≡ congruous_formals (unnamed_formal a) (unnamed_formal b)
formals-unnamed a b = refl

formals-itself : (a : Formal) → congruous_formals a a ≡ true
formals-itself a =
    both_are (nat_eq a.depth a.depth && nat_eq a.section a.section && same_kind a.kind a.kind) (unless_missing same a.of a.of)
    (both_are (nat_eq a.depth a.depth && nat_eq a.section a.section) (same_kind a.kind a.kind)
    (both_are (nat_eq a.depth a.depth) (nat_eq a.section a.section) (eq-eqb a.depth a.depth refl) (eq-eqb a.section a.section refl))
    (same_kind-is a.kind a.kind refl))
    (same_if-refl a.of)

unnamed-formals : (a b : Formal) → unnamed_formal a ≡ unnamed_formal b → congruous_formals a b ≡ true
unnamed-formals a b e = subst (λ x. congruous_formals (unnamed_formal a) x ≡ true) e (formals-itself (unnamed_formal a))

unnamed-lists : (a b : List Formal) → map unnamed_formal a ≡ map unnamed_formal b → congruous_lists a b ≡ true
unnamed-lists [] [] e = refl
unnamed-lists [] (g ∷ b) e = absurd cc
unnamed-lists (f ∷ a) [] e = absurd cc
unnamed-lists (f ∷ a) (g ∷ b) e =
    both_are (congruous_formals f g) (congruous_lists a b) (unnamed-formals f g (cons-inj e).0) (unnamed-lists a b (cons-inj e).1)

pub unnamed-congruous : (a b : Heading) → unnamed a ≡ unnamed b → congruous a b ≡ true
unnamed-congruous a b e =
    both_are (congruous_lists a.formals b.formals) (unless_missing same a.result b.result)
    (unnamed-lists a.formals b.formals (ap (λ h. h.formals) e))
    (subst (λ x. unless_missing same a.result x ≡ true) (ap (λ h. h.result) e) (same_if-refl a.result))

-- ---- where no type is missing, nothing else differs

named-same : (k : FormalKind) (x y : Option TypeId) → unless_missing same x y ≡ true → IsNamed k x → IsNamed k y → x ≡ y
named-same formal.Procedure x y e g h = g ∙ sym h
named-same k (Some x) (Some y) e g h = ap Some (same-eq x y e)
named-same formal.Value None y e g h = false_true g
named-same formal.Variable None y e g h = false_true g
named-same formal.Function None y e g h = false_true g
named-same formal.Value (Some x) None e g h = false_true h
named-same formal.Variable (Some x) None e g h = false_true h
named-same formal.Function (Some x) None e g h = false_true h

formals-same : (a b : Formal) → congruous_formals a b ≡ true → IsNamed a.kind a.of → IsNamed b.kind b.of → unnamed_formal a ≡ unnamed_formal b
formals-same a b e g h =
    let p = both_true (nat_eq a.depth b.depth && nat_eq a.section b.section && same_kind a.kind b.kind) (unless_missing same a.of b.of) e in
    let q = both_true (nat_eq a.depth b.depth && nat_eq a.section b.section) (same_kind a.kind b.kind) p.0 in
    let r = both_true (nat_eq a.depth b.depth) (nat_eq a.section b.section) q.0 in
    let k : a.kind ≡ b.kind = same_kind-eq a.kind b.kind q.1 in
    let o : a.of ≡ b.of = named-same b.kind a.of b.of p.1 (subst (λ x. IsNamed x a.of) k g) h in
    ap (λ x. record (unnamed_formal a) { depth = x }) (eqb-true a.depth b.depth r.0)
    ∙ ap (λ x. record (unnamed_formal a) { depth = b.depth; section = x }) (eqb-true a.section b.section r.1)
    ∙ ap (λ x. record (unnamed_formal b) { kind = x; of = a.of }) k
    ∙ ap (λ x. record (unnamed_formal b) { of = x }) o

lists-same : (fs gs : List Formal) → congruous_lists fs gs ≡ true → AreNamed fs → AreNamed gs → map unnamed_formal fs ≡ map unnamed_formal gs
lists-same [] [] e g h = refl
lists-same [] (b ∷ gs) e g h = false_true e
lists-same (a ∷ fs) [] e g h = false_true e
lists-same (a ∷ fs) (b ∷ gs) e g h =
    let p = both_true (congruous_formals a b) (congruous_lists fs gs) e in
    ap (λ x. x ∷ map unnamed_formal fs) (formals-same a b p.0 g.0 h.0) ∙ ap (λ x. unnamed_formal b ∷ x) (lists-same fs gs p.1 g.1 h.1)

pub congruous-unnamed : (k : FormalKind) (a b : Heading) → NamedHeading k a → NamedHeading k b → congruous a b ≡ true → unnamed a ≡ unnamed b
congruous-unnamed k a b g h e =
    let p = both_true (congruous_lists a.formals b.formals) (unless_missing same a.result b.result) e in
    ap (λ x. record (unnamed a) { formals = x }) (lists-same a.formals b.formals p.0 g.0 h.0)
    ∙ ap (λ x. record (unnamed b) { result = x }) (named-same k a.result b.result p.1 g.1 h.1)
