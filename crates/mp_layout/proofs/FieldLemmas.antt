-- A field that is found is one of the slots, and has the name.
use Rattle.std.proofs.Common.{◌≡◌, ℕ, ◌<◌, zero, suc, Bool, true, false, cond, List, [], ◌∷◌, Option, Some, None, length, refl, sym, ap, ◌∙◌, subst, arith}
use Rattle.std.specs.Prelude.{find, Contains, option_map, bytes_eq, slice_index_or}
use Rattle.std.proofs.lemmas.Slice.Eq.{bytes_eq-Decides}
use Rattle.mp_tables.specs.declared.types.RecordShape.{RecordShape}
use Rattle.mp_tables.specs.declared.types.Slot.{Slot}
use Rattle.mp_tables.specs.declared.types.Shape.{Shape}
use Rattle.mp_tables.specs.declared.types.Shape.TheVariants as shape
use Rattle.mp_tables.specs.Sizes.{has_name, slot_named}
use Rattle.mp_tables.proofs.CleanLemmas.{false_true, true_false, some_inj}
use Rattle.mp_layout.specs.Layouts.{offset_of}
use Rattle.mp_layout.specs.Laws.{HasFieldAt}

find-contains : {X : Type 0} (p : X → Bool) (xs : List X) (x : X) → find p xs ≡ Some x → Contains xs x × (p x ≡ true)
find-contains p [] x e = absurd cc
find-contains {X} p (y ∷ xs) x e = by (p y) refl e (find-contains p xs x)
  where
    by : (t : Bool) → p y ≡ t → cond t (Some y) (find p xs) ≡ Some x → (find p xs ≡ Some x → Contains xs x × (p x ≡ true)) → Contains (y ∷ xs) x × (p x ≡ true)
    by true h f k = ((zero, omega arith, some_inj f), subst (λ z. p z ≡ true) (some_inj f) h)
    by false h f k = let r = k f in ((suc r.0.0, omega (arith, r.0.1), r.0.2), r.1)

find-none : {X : Type 0} (p : X → Bool) (xs : List X) (x : X) → find p xs ≡ None → Contains xs x → p x ≡ true → ⊥
find-none p [] x e k h = omega (arith, k.1)
find-none {X} p (y ∷ xs) x e k h = by (p y) refl e k.0 k.1 k.2 (find-none p xs x)
  where
    by :
        (t : Bool) → p y ≡ t → cond t (Some y) (find p xs) ≡ None →
        (i : ℕ) → i < length (y ∷ xs) → slice_index_or (y ∷ xs) i x ≡ x →
        (find p xs ≡ None → Contains xs x → p x ≡ true → ⊥) → ⊥
    by true g f i l q next = absurd cc
    by false g f zero l q next = true_false (sym h ∙ ap p (sym q) ∙ g)
    by false g f (suc i) l q next = next f (i, omega arith, q) h

has_name-is : (n : List ℕ) (o : Option (List ℕ)) → has_name n o ≡ true → o ≡ Some n
has_name-is n None e = false_true e
has_name-is n (Some m) e = ap Some (sym ((bytes_eq-Decides n m).0 e))

is-has_name : (n : List ℕ) (o : Option (List ℕ)) → o ≡ Some n → has_name n o ≡ true
is-has_name n o e = ap (has_name n) e ∙ (bytes_eq-Decides n n).1 refl

pub field-found : (n : List ℕ) (t : Shape) (offset : ℕ) → offset_of n t ≡ Some offset → HasFieldAt n t offset
field-found n (shape.Rec r) offset e = by (slot_named n r.slots) refl e
  where
    by : (o : Option Slot) → slot_named n r.slots ≡ o → option_map (λ s. s.offset) o ≡ Some offset → HasFieldAt n (shape.Rec r) offset
    by None g f = absurd cc
    by (Some s) g f = let k = find-contains (λ x. has_name n x.name) r.slots s g in (r, s, refl, k.0, has_name-is n s.name k.1, some_inj f)
field-found n t offset e = absurd cc

pub field-absent : (n : List ℕ) (t : Shape) (offset : ℕ) → offset_of n t ≡ None → HasFieldAt n t offset → ⊥
field-absent n t offset e (r, s, p, k, m, q) = by (slot_named n r.slots) refl (subst (λ x. offset_of n x ≡ None) p e)
  where
    by : (o : Option Slot) → slot_named n r.slots ≡ o → option_map (λ s. s.offset) o ≡ None → ⊥
    by None g f = find-none (λ x. has_name n x.name) r.slots s g k (is-has_name n s.name m)
    by (Some x) g f = absurd cc
