-- The live activations of a processor, as the table sees them.
use Rattle.std.proofs.Common.{◌≡◌, ℕ, Bool, true, false, ◌||◌, List, [], ◌∷◌, reverse, take, Option, Some, None}
use Rattle.std.proofs.Common.{refl, ◌∙◌, ap, subst, arith}
use Rattle.std.specs.Prelude.{nat_eq}
use Rattle.std.proofs.lemmas.Bool.{eq-eqb}
use Rattle.std.proofs.lemmas.Bool.Decides.{nat_tests}
use Rattle.mp_memory.specs.Roots.{Contents}
use Rattle.mp_machine.specs.declared.operands.Operand.{Operand}
use Rattle.mp_machine.specs.declared.activations.Activation.{Activation}
use Rattle.mp_machine.specs.Activations.{Activation as Live, holder, seek}
use Rattle.mp_machine.specs.Blocks.{Path, depth}
use Rattle.mp_machine.specs.States.{activations_in}
use Rattle.mp_machine.specs.Outcomes.{Done, Stuck, needs}
use Rattle.mp_machine.specs.Memory.{activation_at}
use Rattle.mp_machine.specs.Shown.{World, activation_seen, activations_seen, frames_seen, is_among, shown}

pub activations_shown : (paths : ℕ → Path) (all : List Activation) (xs : List Operand) →
    activations_in (frames_seen paths all xs) ≡ activations_seen paths all
activations_shown paths [] xs = refl
activations_shown paths (a ∷ older) xs = ap (λ more. activation_seen paths a ∷ more)
    (activations_shown paths older (take a.below xs))

abbrev by_depth : List Live → Live → (depth : ℕ) → Bool → Option ℕ
by_depth older a d b = elim b as (λ is. Option ℕ) [ true ↦ Some a.number | false ↦ seek older a.parent d ]

differs : (m n : ℕ) → (m ≡ n → ⊥) → nat_eq m n ≡ false
differs m n other = grind (arith, nat_tests, other)

-- the search goes on from the static parent of the newest
pub holder_older : (older : List Live) (a : Live) (d : ℕ) → (depth a.block ≡ d → ⊥) →
    holder (a ∷ older) d ≡ seek older a.parent d
holder_older older a d other =
    ap (λ b. elim b as (λ is. Option ℕ) [
      | true ↦ by_depth older a d (nat_eq (depth a.block) d)
      | false ↦
          seek older a.number d
    ])
    (eq-eqb a.number a.number refl)
    ∙ ap (by_depth older a d) (differs (depth a.block) d other)

holder_shown : (paths : ℕ → Path) (a : Activation) (older : List Activation) (xs : List Operand) (d : ℕ) →
    (depth (paths a.block) ≡ d → ⊥) →
    holder (activations_in (frames_seen paths (a ∷ reverse older) xs)) d ≡ seek (activations_seen paths (reverse older))
    a.parent d
holder_shown paths a older xs d other =
    ap (λ all. holder all d) (activations_shown paths (a ∷ reverse older) xs)
    ∙ holder_older (activations_seen paths (reverse older)) (activation_seen paths a) d other

pub at_depth : (w : World) (k : Contents) (xs : List Operand) (a : Activation) (older : List Activation) (at d n : ℕ) →
    (depth (w.paths a.block) ≡ d → ⊥) → seek (activations_seen w.paths (reverse older)) a.parent d ≡ Some n →
    activation_at d (shown w k xs a older at) ≡ Done n (shown w k xs a older at)
at_depth w k xs a older at d n other e = ap (λ o. needs o (shown w k xs a older at)) (holder_shown w.paths a older xs d other ∙
    e)

pub not_at_depth : (w : World) (k : Contents) (xs : List Operand) (a : Activation) (older : List Activation) (at d : ℕ) →
    (depth (w.paths a.block) ≡ d → ⊥) → seek (activations_seen w.paths (reverse older)) a.parent d ≡ None →
    activation_at d (shown w k xs a older at) ≡ Stuck
not_at_depth w k xs a older at d other e = ap (λ o. needs o (shown w k xs a older at)) (holder_shown w.paths a older xs d
    other ∙ e)

-- what the search finds lives
pub found_among : (paths : ℕ → Path) (all : List Activation) (number d n : ℕ) → seek (activations_seen paths all) number
    d ≡ Some n → is_among n all ≡ true
found_among paths [] number d n e = absurd (let v : ⊥ = cc in v)
found_among paths (a ∷ older) number d n e = by_number (nat_eq a.number number) refl e (λ f. found_among paths older a.parent d
    n f) (λ f. found_among paths older number d n f)
  where
    either : (b : Bool) → is_among n older ≡ true → (b || is_among n older) ≡ true
    either true h = refl
    either false h = h

    by_depth_of : (b : Bool) → nat_eq a.number number ≡ true →
        elim b as (λ is. Option ℕ) [ true ↦ Some number | false ↦ seek (activations_seen paths older) a.parent d ] ≡ Some n →
        (seek (activations_seen paths older) a.parent d ≡ Some n → is_among n older ≡ true) →
        (nat_eq a.number n || is_among n older) ≡ true
    by_depth_of true t e more = let same : number ≡ n = cc in
        ap (λ b. b || is_among n older) (subst (λ m. nat_eq a.number m ≡ true) same t)
    by_depth_of false t e more = either (nat_eq a.number n) (more e)

    by_number : (b : Bool) → nat_eq a.number number ≡ b →
        elim b as (λ is. Option ℕ) [
          | true ↦ elim (nat_eq (depth (paths a.block)) d) as (λ is. Option ℕ) [
            | true ↦ Some number
            | false ↦
                seek (activations_seen paths older) a.parent d
          ]
          | false ↦ seek (activations_seen paths older) number d
        ] ≡ Some n →
        (seek (activations_seen paths older) a.parent d ≡ Some n → is_among n older ≡ true) →
        (seek (activations_seen paths older) number d ≡ Some n → is_among n older ≡ true) →
        (nat_eq a.number n || is_among n older) ≡ true
    by_number true t e inner outer = by_depth_of (nat_eq (depth (paths a.block)) d) t e inner
    by_number false t e inner outer = either (nat_eq a.number n) (outer e)

pub among_older : (a : Activation) (older : List Activation) (n : ℕ) → is_among n older ≡ true → is_among n (a ∷ older) ≡ true
among_older a older n h = by_first (nat_eq a.number n)
  where
    by_first : (b : Bool) → (b || is_among n older) ≡ true
    by_first true = refl
    by_first false = h

pub among_newest : (a : Activation) (older : List Activation) → is_among a.number (a ∷ older) ≡ true
among_newest a older = ap (λ b. b || is_among a.number older) (eq-eqb a.number a.number refl)
