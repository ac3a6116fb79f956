-- Where a name is found among the defining points of a block, and where the first item that passes a test stands in a list.
use Rattle.std.proofs.Common.{◌≡◌, ℕ, ◌+◌, suc, Bool, true, false, cond, ◌&&◌, List, [], ◌∷◌, ◌++◌, Option, Some, None, refl, sym, ap, inl, inr, ◌∙◌, subst, length, append-nil, append_assoc, nat_eq, eqb-true, eq-eqb, is_some, arith}
use Rattle.std.specs.Prelude.{◌⊎◌, bytes_eq, option_map, position}
use Rattle.std.specs.Map.{lookup}
use Rattle.std.specs.List.{position_from}
use Rattle.std.proofs.lemmas.Slice.Eq.{bytes_eq-Decides}
use Rattle.std.proofs.lemmas.Iterator.Adapters.{position_from-zero}
use Rattle.mp_tables.specs.declared.declarations.Decl.{Decl}
use Rattle.mp_tables.specs.declared.tables.Entry.{Entry}
use Rattle.mp_tables.specs.Seen.{or_else}
use Rattle.mp_tables.specs.DefiningPoints.{Points, is_known, with_point, with_points, filled}
use Rattle.mp_tables.proofs.CleanLemmas.{◌so◌, none_some, some_none, some_inj, true_false, false_true}

-- ---- positions in a list

pub from_front : {X : Type 0} (t : X → Bool) (i k : ℕ) (xs ys : List X) → position_from t i xs ≡ Some k → position_from t i (xs ++ ys) ≡ Some k
from_front t i k [] ys e = none_some e
from_front t i k (x ∷ xs) ys e = by (t x) e (from_front t (i + 1) k xs ys)
  where
    by : (b : Bool) → cond b (Some i) (position_from t (i + 1) xs) ≡ Some k → (position_from t (i + 1) xs ≡ Some k → position_from t (i + 1) (xs ++ ys) ≡ Some k) →
        cond b (Some i) (position_from t (i + 1) (xs ++ ys)) ≡ Some k
    by true p f = p
    by false p f = f p

pub from_seam : {X : Type 0} (t : X → Bool) (i : ℕ) (xs : List X) (y : X) (ys : List X) → position_from t i xs ≡ None → t y ≡ true →
    position_from t i (xs ++ y ∷ ys) ≡ Some (i + length xs)
from_seam t i [] y ys e h = ap (λ b. cond b (Some i) (position_from t (i + 1) ys)) h ∙ ap Some (omega arith)
from_seam t i (x ∷ xs) y ys e h = by (t x) e (from_seam t (i + 1) xs y ys)
  where
    by : (b : Bool) → cond b (Some i) (position_from t (i + 1) xs) ≡ None →
        (position_from t (i + 1) xs ≡ None → t y ≡ true → position_from t (i + 1) (xs ++ y ∷ ys) ≡ Some (i + 1 + length xs)) →
        cond b (Some i) (position_from t (i + 1) (xs ++ y ∷ ys)) ≡ Some (i + suc (length xs))
    by true p f = some_none p
    by false p f = f p h ∙ ap Some (omega arith)

pub from_none : {X : Type 0} (t : X → Bool) (i : ℕ) (xs : List X) (y : X) → position_from t i xs ≡ None → t y ≡ false → position_from t i (xs ++ y ∷ []) ≡ None
from_none t i [] y e h = ap (λ b. cond b (Some i) None) h
from_none t i (x ∷ xs) y e h = by (t x) e (from_none t (i + 1) xs y)
  where
    by : (b : Bool) → cond b (Some i) (position_from t (i + 1) xs) ≡ None → (position_from t (i + 1) xs ≡ None → t y ≡ false → position_from t (i + 1) (xs ++ y ∷ []) ≡ None) →
        cond b (Some i) (position_from t (i + 1) (xs ++ y ∷ [])) ≡ None
    by true p f = some_none p
    by false p f = f p h

module _ {X : Type 0} (t : X → Bool) where
  pub position_front : (k : ℕ) (xs ys : List X) → position t xs ≡ Some k → position t (xs ++ ys) ≡ Some k
  position_front k xs ys e = position_from-zero t (xs ++ ys) ∙ from_front t 0 k xs ys (sym (position_from-zero t xs) ∙ e)

  pub position_seam : (xs : List X) (y : X) (ys : List X) → position t xs ≡ None → t y ≡ true → position t (xs ++ y ∷ ys) ≡ Some (length xs)
  position_seam xs y ys e h = position_from-zero t (xs ++ y ∷ ys) ∙ from_seam t 0 xs y ys (sym (position_from-zero t xs) ∙ e) h ∙ ap Some (omega arith)

  pub position_none : (xs : List X) (y : X) → position t xs ≡ None → t y ≡ false → position t (xs ++ y ∷ []) ≡ None
  position_none xs y e h = position_from-zero t (xs ++ y ∷ []) ∙ from_none t 0 xs y (sym (position_from-zero t xs) ∙ e) h

-- ---- names that are looked up

pub lookup_append : {X : Type 0} (t : List ℕ → Bool) (xs ys : List (List ℕ × X)) → lookup t (xs ++ ys) ≡ or_else (lookup t xs) (lookup t ys)
lookup_append t [] ys = refl
lookup_append t (x ∷ xs) ys = by (t x.0) (lookup_append t xs ys)
  where
    by : (b : Bool) → lookup t (xs ++ ys) ≡ or_else (lookup t xs) (lookup t ys) → cond b (Some x.1) (lookup t (xs ++ ys)) ≡ or_else (cond b (Some x.1) (lookup t xs)) (lookup t ys)
    by true e = refl
    by false e = e

pub equal : (m n : List ℕ) → bytes_eq m n ≡ true → m ≡ n
equal m n e = (bytes_eq-Decides m n).0 e

pub equal_is : (m n : List ℕ) → m ≡ n → bytes_eq m n ≡ true
equal_is m n e = (bytes_eq-Decides m n).1 e

pub known_else : (n : List ℕ) (p : List ℕ × Entry) (o r : Option Entry) (z : Bool) → bytes_eq n p.0 ≡ z → (bytes_eq n p.0 ≡ true → is_some o ≡ true) →
    or_else o r ≡ or_else o (cond z (Some p.1) r)
known_else n p o r false e f = refl
known_else n p (Some x) r true e f = refl
known_else n p None r true e f = false_true (f e)

-- the first defining point of each name counts
pub lookup_with : (n : List ℕ) (known ps : Points) → lookup (bytes_eq n) (with_points known ps) ≡ lookup (bytes_eq n) (known ++ ps)
lookup_with n known [] = ap (lookup (bytes_eq n)) (sym (append-nil known))
lookup_with n known (p ∷ ps) = lookup_with n (with_point known p) ps ∙ by (is_known p.0 known) refl
  where
    by : (x : Bool) → is_known p.0 known ≡ x → lookup (bytes_eq n) (cond x known (known ++ (p.0, p.1) ∷ []) ++ ps) ≡ lookup (bytes_eq n) (known ++ p ∷ ps)
    by true e =
        lookup_append (bytes_eq n) known ps
        ∙ known_else n p (lookup (bytes_eq n) known) (lookup (bytes_eq n) ps) (bytes_eq n p.0) refl (λ h. subst (λ k. is_known k known ≡ true) (sym (equal n p.0 h)) e)
        ∙ sym (lookup_append (bytes_eq n) known (p ∷ ps))
    by false e = ap (lookup (bytes_eq n)) (append_assoc known ((p.0, p.1) ∷ []) ps)

-- a declaration that is filled in
abbrev pub refilled : Bool → ℕ → Decl → Entry → Entry
refilled same at d e = cond (same && nat_eq e.at at) (record { decl = d; at = at; last = e.last }) e

pub lookup_filled : (n m : List ℕ) (at : ℕ) (d : Decl) (ps : Points) → lookup (bytes_eq n) (filled m at d ps) ≡ option_map (refilled (bytes_eq m n) at d) (lookup (bytes_eq n) ps)
lookup_filled n m at d [] = refl
lookup_filled n m at d (p ∷ ps) = by (bytes_eq m p.0) (nat_eq p.1.at at) (bytes_eq n p.0) refl refl refl (lookup_filled n m at d ps)
  where
    E : Entry
    E = record { decl = d; at = at; last = p.1.last }

    by : (x y z : Bool) → bytes_eq m p.0 ≡ x → nat_eq p.1.at at ≡ y → bytes_eq n p.0 ≡ z →
        lookup (bytes_eq n) (filled m at d ps) ≡ option_map (refilled (bytes_eq m n) at d) (lookup (bytes_eq n) ps) →
        lookup (bytes_eq n) (cond (x && y) (m, record { decl = d; at = at; last = p.1.last }) p ∷ filled m at d ps) ≡ option_map (refilled (bytes_eq m n) at d)
        (cond z (Some p.1) (lookup (bytes_eq n) ps))
    by true true true hx hy hz f =
        ap (λ b. cond b (Some E) (lookup (bytes_eq n) (filled m at d ps))) (equal_is n m (equal n p.0 hz ∙ sym (equal m p.0 hx)))
        ∙ ap Some (sym (ap (λ b. cond (b && nat_eq p.1.at at) E p.1) (equal_is m n (equal m p.0 hx ∙ sym (equal n p.0 hz))) ∙ ap (λ b. cond b E p.1) hy))
    by true true false hx hy hz f = ap (λ k. cond (bytes_eq n k) (Some E) (lookup (bytes_eq n) (filled m at d ps))) (equal m p.0 hx)
        ∙ ap (λ b. cond b (Some E) (lookup (bytes_eq n) (filled m at d ps))) hz ∙ f
    by true false true hx hy hz f =
        ap (λ b. cond b (Some p.1) (lookup (bytes_eq n) (filled m at d ps))) hz
        ∙ ap Some (sym (ap (λ b. cond (b && nat_eq p.1.at at) E p.1) (equal_is m n (equal m p.0 hx ∙ sym (equal n p.0 hz))) ∙ ap (λ b. cond b E p.1) hy))
    by true false false hx hy hz f = ap (λ b. cond b (Some p.1) (lookup (bytes_eq n) (filled m at d ps))) hz ∙ f
    by false y true hx hy hz f =
        ap (λ b. cond b (Some p.1) (lookup (bytes_eq n) (filled m at d ps))) hz
        ∙ ap Some (sym (ap (λ k. cond (bytes_eq m k && nat_eq p.1.at at) E p.1) (equal n p.0 hz) ∙ ap (λ b. cond (b && nat_eq p.1.at at) E p.1) hx))
    by false y false hx hy hz f = ap (λ b. cond b (Some p.1) (lookup (bytes_eq n) (filled m at d ps))) hz ∙ f

-- what is found behind a definition was found before, or is the definition
pub found_before : (n m : List ℕ) (at : ℕ) (d : Decl) (o : Option Entry) (e : Entry) → option_map (refilled (bytes_eq m n) at d) o ≡ Some e →
    ((m ≡ n) × (e.decl ≡ d) × (e.at ≡ at) × (x : Entry) × (o ≡ Some x) × (x.at ≡ at)) ⊎ ((o ≡ Some e) × ((m ≡ n) × (e.at ≡ at) → ⊥))
found_before n m at d None e h = none_some h
found_before n m at d (Some x) e h = by (bytes_eq m n) (nat_eq x.at at) refl refl (some_inj h)
  where
    no : (m ≡ n) × (x.at ≡ at) → bytes_eq m n ≡ false → ⊥
    no g k = true_false (sym (equal_is m n g.0) ∙ k)

    off : (m ≡ n) × (x.at ≡ at) → nat_eq x.at at ≡ false → ⊥
    off g k = true_false (sym (eq-eqb x.at at g.1) ∙ k)

    by : (b c : Bool) → bytes_eq m n ≡ b → nat_eq x.at at ≡ c → cond (b && c) (record { decl = d; at = at; last = x.last }) x ≡ e →
        ((m ≡ n) × (e.decl ≡ d) × (e.at ≡ at) × (y : Entry) × (Some x ≡ Some y) × (y.at ≡ at)) ⊎ ((Some x ≡ Some e) × ((m ≡ n) × (e.at ≡ at) → ⊥))
    by true true p q r = inl (equal m n p, ap (λ y. y.decl) (sym r), ap (λ y. y.at) (sym r), x, refl, eqb-true x.at at q)
    by true false p q r = inr (ap Some r, λ g. off (g.0, ap (λ y. y.at) r ∙ g.1) q)
    by false c p q r = inr (ap Some r, λ g. no (g.0, ap (λ y. y.at) r ∙ g.1) p)
