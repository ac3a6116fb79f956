-- Lists that are searched by an index: one more item keeps the index right, and what is found by it is the first of its key.
use Rattle.std.proofs.Common.{◌≡◌, ℕ, suc, ◌+◌, Bool, true, false, cond, ◌&&◌, List, [], ◌∷◌, ◌++◌, length, slice_get, Option, Some, None, is_some, find, Decides, nat_eq, refl, sym, ap, subst, ◌∙◌, arith}
use Rattle.std.proofs.lemmas.Bool.Decides.{Decides-eqb}
use Rattle.std.proofs.lemmas.Slice.Eq.{bytes_eq-Decides}
use Rattle.std.specs.Prelude.{option_map, option_and_then, bytes_eq}
use Rattle.std.specs.Map.{lookup}
use Rattle.mp_tables.specs.declared.types.Slot.{Slot}
use Rattle.mp_base.specs.declared.path.PathStep.{PathStep}
use Rattle.mp_ast.specs.Blocks.{same_step}
use Rattle.mp_tables.specs.Lookups.{IsIndex, first_place}
use Rattle.mp_tables.specs.Sizes.{has_name, numbered_slot}
use Rattle.mp_tables.proofs.SortLemmas.{same_step-eq}

pub none_is : {A : Type 0} (o : Option A) → is_some o ≡ false → o ≡ None
none_is None e = refl
none_is (Some x) e = absurd (let n : ⊥ = cc in n)

or_else : {A : Type 0} → Option A → Option A → Option A
or_else (Some x) y = Some x
or_else None y = y

or_none : {A : Type 0} (o : Option A) → o ≡ or_else o None
unfolding or_else
or_none None = refl
or_none (Some x) = refl

module _ {X : Type 0} (t : X → Bool) where
  place_push : (xs : List X) (y : X) → first_place t (xs ++ y ∷ []) ≡ or_else (first_place t xs) (cond (t y) (Some (length xs)) None)
  unfolding or_else
  place_push [] y = refl
  place_push (x ∷ xs) y = by (t x) (t y) (first_place t xs) (place_push xs y)
    where
      by : (b c : Bool) (o : Option ℕ) → first_place t (xs ++ y ∷ []) ≡ or_else o (cond c (Some (length xs)) None) →
          cond b (Some 0) (option_map suc (first_place t (xs ++ y ∷ []))) ≡ or_else (cond b (Some 0) (option_map suc o)) (cond c (Some (length (x ∷ xs))) None)
      by true c o e = refl
      by false c (Some k) e = ap (option_map suc) e
      by false true None e = ap (option_map suc) e
      by false false None e = ap (option_map suc) e

  place_find : (xs : List X) → option_and_then (slice_get xs) (first_place t xs) ≡ find t xs
  place_find [] = refl
  place_find (x ∷ xs) = by (t x) (first_place t xs) (place_find xs)
    where
      by : (b : Bool) (o : Option ℕ) → option_and_then (slice_get xs) o ≡ find t xs →
          option_and_then (slice_get (x ∷ xs)) (cond b (Some 0) (option_map suc o)) ≡ cond b (Some x) (find t xs)
      by true o e = refl
      by false None e = e
      by false (Some k) e = e

module _ {K X : Type 0} (eq : K → K → Bool) (test : K → X → Bool) where
  pub index_nothing : IsIndex eq test [] []
  index_nothing = record { by = λ k. refl }

  pub index_get : {entries : List (K × ℕ)} {items : List X} → IsIndex eq test entries items → (k : K) (o : Option ℕ) → o ≡ lookup (eq k) entries →
      option_and_then (slice_get items) o ≡ find (test k) items
  index_get {items = items} index k o e = ap (option_and_then (slice_get items)) (e ∙ index.by k) ∙ place_find (test k) items

  -- an item without a key
  pub index_unnamed : (entries : List (K × ℕ)) (items : List X) (x : X) → IsIndex eq test entries items → ((q : K) → test q x ≡ false) →
      IsIndex eq test entries (items ++ x ∷ [])
  index_unnamed entries items x index none =
      record {
        by = λ q.
            index.by q ∙ or_none (first_place (test q) items) ∙ ap (λ b. or_else (first_place (test q) items) (cond b (Some (length items)) None)) (sym (none q))
            ∙ sym (place_push (test q) items x);
      }

  module _ (decides : (a b : K) → Decides (eq a b) (a ≡ b)) (entries : List (K × ℕ)) (items : List X) (x : X) (k : K) (index : IsIndex eq test entries items)
      (own : (q : K) → test q x ≡ eq q k) where
    -- an item whose key an earlier one has
    known_by : (q : K) (b : Bool) (o : Option ℕ) → eq q k ≡ b → (eq q k ≡ true → is_some o ≡ true) → o ≡ or_else o (cond b (Some (length items)) None)
    unfolding or_else
    known_by q b (Some i) e f = refl
    known_by q false None e f = refl
    known_by q true None e f = let g = f e in absurd (let n : ⊥ = cc in n)

    pub index_known : is_some (lookup (eq k) entries) ≡ true → IsIndex eq test entries (items ++ x ∷ [])
    index_known known =
        record {
          by = λ q.
              index.by q
              ∙ known_by q (eq q k) (first_place (test q) items) refl (λ e. ap is_some (sym (index.by q)) ∙ ap (λ z. is_some (lookup (eq z) entries)) ((decides q k).0 e) ∙ known)
              ∙ ap (λ b. or_else (first_place (test q) items) (cond b (Some (length items)) None)) (sym (own q)) ∙ sym (place_push (test q) items x);
        }

  -- an item with a new key, whose place goes behind the others
  lookup_push : (entries : List (K × ℕ)) (k q : K) (v : ℕ) → lookup (eq q) (entries ++ (k, v) ∷ []) ≡ or_else (lookup (eq q) entries) (cond (eq q k) (Some v) None)
  unfolding or_else
  lookup_push [] k q v = refl
  lookup_push (e ∷ entries) k q v = by (eq q e.0) (lookup_push entries k q v)
    where
      by : (b : Bool) → lookup (eq q) (entries ++ (k, v) ∷ []) ≡ or_else (lookup (eq q) entries) (cond (eq q k) (Some v) None) →
          cond b (Some e.1) (lookup (eq q) (entries ++ (k, v) ∷ [])) ≡ or_else (cond b (Some e.1) (lookup (eq q) entries)) (cond (eq q k) (Some v) None)
      by true f = refl
      by false f = f

  pub index_new : (entries : List (K × ℕ)) (items : List X) (x : X) (k : K) → IsIndex eq test entries items → ((q : K) → test q x ≡ eq q k) →
      IsIndex eq test (entries ++ (k, length items) ∷ []) (items ++ x ∷ [])
  index_new entries items x k index own =
      record {
        by = λ q.
            lookup_push entries k q (length items) ∙ ap (λ o. or_else o (cond (eq q k) (Some (length items)) None)) (index.by q)
            ∙ ap (λ b. or_else (first_place (test q) items) (cond b (Some (length items)) None)) (sym (own q)) ∙ sym (place_push (test q) items x);
      }

-- ---- numbers as keys

pub nat_eq-turned : (k q : ℕ) → nat_eq k q ≡ nat_eq q k
nat_eq-turned k q = by (nat_eq k q) (nat_eq q k) refl refl
  where
    by : (b c : Bool) → nat_eq k q ≡ b → nat_eq q k ≡ c → nat_eq k q ≡ nat_eq q k
    by true true e f = e ∙ sym f
    by false false e f = e ∙ sym f
    by true false e f = let g = (Decides-eqb q k).1 (sym ((Decides-eqb k q).0 e)) in absurd (let n : ⊥ = cc in n)
    by false true e f = let g = (Decides-eqb k q).1 (sym ((Decides-eqb q k).0 f)) in absurd (let n : ⊥ = cc in n)

-- ---- steps as keys

own_step : (s : PathStep) → same_step s s ≡ true
own_step s = (λ i. (bytes_eq-Decides s.name s.name).1 refl i && (Decides-eqb s.nth s.nth).1 refl i)

pub same_step-Decides : (s t : PathStep) → Decides (same_step s t) (s ≡ t)
same_step-Decides s t = (same_step-eq s t, λ e. subst (λ u. same_step s u ≡ true) e (own_step s))

-- ---- fields with their numbers

abbrev pub numbered_at : List Slot → ℕ → ℕ → Option (ℕ × Slot)
numbered_at slots k j = option_map (λ s. (k + j, s)) (slice_get slots j)

numbered_from : (n : List ℕ) (k : ℕ) (slots : List Slot) → option_and_then (numbered_at slots k) (first_place (λ s. has_name n s.name) slots) ≡ numbered_slot n k slots
numbered_from n k [] = refl
numbered_from n k (s ∷ slots) = by (has_name n s.name) (first_place (λ s. has_name n s.name) slots) (numbered_from n (k + 1) slots)
  where
    by : (b : Bool) (o : Option ℕ) → option_and_then (numbered_at slots (k + 1)) o ≡ numbered_slot n (k + 1) slots →
        option_and_then (numbered_at (s ∷ slots) k) (cond b (Some 0) (option_map suc o)) ≡ cond b (Some (k, s)) (numbered_slot n (k + 1) slots)
    by true o e = ap (λ j. Some (j, s)) (omega arith)
    by false None e = e
    by false (Some j) e = let same : k + suc j ≡ k + 1 + j = omega arith in ap (λ i. option_map (λ s. (i, s)) (slice_get slots j)) same ∙ e

-- the item at a number, with the number
abbrev pub numbered_item : List Slot → ℕ → Option (ℕ × Slot)
numbered_item slots j = option_map (λ s. (j, s)) (slice_get slots j)

numbered_start : (slots : List Slot) (o : Option ℕ) → option_and_then (numbered_item slots) o ≡ option_and_then (numbered_at slots 0) o
numbered_start slots None = refl
numbered_start slots (Some j) = let same : j ≡ 0 + j = omega arith in ap (λ i. option_map (λ s. (i, s)) (slice_get slots j)) same

pub index_numbered : {entries : List (List ℕ × ℕ)} {slots : List Slot} → IsIndex bytes_eq (λ n s. has_name n s.name) entries slots → (n : List ℕ) (o : Option ℕ) →
    o ≡ lookup (bytes_eq n) entries → option_and_then (numbered_item slots) o ≡ numbered_slot n 0 slots
index_numbered {slots = slots} index n o e = numbered_start slots o ∙ ap (option_and_then (numbered_at slots 0)) (e ∙ index.by n) ∙ numbered_from n 0 slots
