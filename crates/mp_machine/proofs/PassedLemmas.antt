-- Operands that a call takes.
use Rattle.std.proofs.Common.{◌≡◌, ℕ, zero, suc, ◌+◌, ◌-◌, ◌<◌, ◌≤◌, List, [], ◌∷◌, ◌++◌, length, reverse, take, drop}
use Rattle.std.proofs.Common.{refl, sym, ◌∙◌, ap, subst, arith, append_assoc, append-nil, inl, inr, ◌⊎◌}
use Rattle.std.proofs.lemmas.List.{drop_all, length-append, length-drop, length-take-le, take-append-drop}
use Rattle.std.proofs.lemmas.Bool.Decides.{leb_tells}
use Rattle.mp_memory.specs.Roots.{Contents}
use Rattle.mp_machine.specs.declared.operands.Operand.{Operand}
use Rattle.mp_machine.specs.declared.activations.Activation.{Activation}
use Rattle.mp_machine.specs.Operands.{cells_in, take_all}
use Rattle.mp_machine.specs.Operands as action
use Rattle.mp_machine.specs.Outcomes.{Done}
use Rattle.mp_machine.specs.Shown.{IsStuck, World, all_cells, own_operands, shown}
use Rattle.mp_machine.proofs.ActionLemmas.{then, take_shown, lacks_shown, stuck_first}

-- ---- the last elements of a list

pub record Ending (zs : List Operand) (n : ℕ) : Type 0 where
  pub front : List Operand
  pub last : Operand
  pub is : zs ≡ front ++ last ∷ []
  pub size : length front ≡ n

pub ending : (zs : List Operand) (n : ℕ) → length zs ≡ suc n → Ending zs n
ending [] n e = absurd (omega (arith, e))
ending (z ∷ []) n e = record { front = []; last = z; is = refl; size = omega (arith, e) }
ending (z ∷ y ∷ more) zero e = absurd (omega (arith, e))
ending (z ∷ y ∷ more) (suc n) e =
    let r : Ending (y ∷ more) n = ending (y ∷ more) n (omega (arith, e)) in
    record { front = z ∷ r.front; last = r.last; is = ap (λ l. z ∷ l) r.is; size = ap suc r.size }

all_cells-append : (xs ys : List Operand) → all_cells (xs ++ ys) ≡ all_cells xs ++ all_cells ys
all_cells-append [] ys = refl
all_cells-append (x ∷ xs) ys = ap (λ l. cells_in x ++ l) (all_cells-append xs ys) ∙
    sym (append_assoc (cells_in x) (all_cells xs) (all_cells ys))

all_cells-push : (front : List Operand) (last : Operand) → all_cells (front ++ last ∷ []) ≡ all_cells front ++ cells_in last
all_cells-push front last = all_cells-append front (last ∷ []) ∙ ap (λ l. all_cells front ++ l) (append-nil (cells_in last))

-- ---- operands are taken

take_all_from : (n : ℕ) (w : World) (k : Contents) (ys zs : List Operand) (a : Activation) (older : List Activation) (at : ℕ) →
    length zs ≡ n → a.below ≤ length ys → take_all n (shown w k (ys ++ zs) a older at) ≡ Done (all_cells zs)
    (shown w k ys a older at)
take_all_from zero w k ys [] a older at e l = ap (λ xs. Done [] (shown w k xs a older at)) (append-nil ys)
take_all_from zero w k ys (z ∷ more) a older at e l = absurd (omega (arith, e))
take_all_from (suc n) w k ys zs a older at e l =
    let r : Ending zs n = ending zs n e in
    ap (λ zs. take_all (suc n) (shown w k (ys ++ zs) a older at)) r.is
    ∙ ap (λ xs. take_all (suc n) (shown w k xs a older at)) (sym (append_assoc ys r.front (r.last ∷ [])))
    ∙ then _ (take_shown w k (ys ++ r.front) r.last a older at (let h = length-append ys r.front in omega (arith, h, l)))
    ∙ then _ (take_all_from n w k ys r.front a older at r.size l)
    ∙ ap (λ cells. Done cells (shown w k ys a older at)) (sym (ap all_cells r.is ∙ all_cells-push r.front r.last))

below_part : (low n : ℕ) (xs : List Operand) → low ≤ length xs → n ≤ low → n ≤ length (take low xs)
below_part low n xs l m = let h = length-take-le low xs l in omega (arith, h, m)

pub take_all_shown : (n low : ℕ) (w : World) (k : Contents) (xs : List Operand) (a : Activation) (older : List Activation)
    (at : ℕ) →
    low + n ≡ length xs → a.below ≤ low → take_all n (shown w k xs a older at) ≡ Done (all_cells (drop low xs))
    (shown w k (take low xs) a older at)
take_all_shown n low w k xs a older at e l =
    ap (λ ys. take_all n (shown w k ys a older at)) (sym (take-append-drop low xs))
    ∙ take_all_from n w k (take low xs) (drop low xs) a older at (let h = length-drop low xs in omega (arith, h, e))
    (below_part low a.below xs (omega (arith, e)) l)

-- ---- or there are too few

pub le_or_lt : (a b : ℕ) → (a ≤ b) ⊎ (b < a)
le_or_lt a b = elim (leb_tells a b) [ inl y ↦ inl y.1 | inr z ↦ inr z.1 ]

pub no_operands : (n : ℕ) (xs : List Operand) → length xs ≤ n → own_operands n xs ≡ []
no_operands n xs l = ap reverse (drop_all n xs l)

pub take_all_lacks : (n : ℕ) (w : World) (k : Contents) (xs : List Operand) (a : Activation) (older : List Activation)
    (at : ℕ) →
    length xs - a.below < n → IsStuck (take_all n (shown w k xs a older at))
take_all_lacks zero w k xs a older at l = absurd (omega (arith, l))
take_all_lacks (suc n) w k xs a older at l = elim (le_or_lt (length xs) a.below) [
  | inl few ↦ stuck_first (action.take (shown w k xs a older at)) _
      (subst IsStuck (sym (lacks_shown w k xs a older at (no_operands a.below xs few))) tt)
  | inr more ↦ let r : Ending xs (length xs - 1) = ending xs (length xs - 1) (omega (arith, more)) in
      subst (λ xs. IsStuck (take_all (suc n) (shown w k xs a older at))) (sym r.is)
      (subst IsStuck (sym (then _ (take_shown w k r.front r.last a older at (let h = r.size in omega (arith, h, more)))))
      (stuck_first (take_all n (shown w k r.front a older at)) _ (take_all_lacks n w k r.front a older at (let h = r.size in
      omega (arith, h, l)))))
]
