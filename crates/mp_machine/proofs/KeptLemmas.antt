-- What stays the same over several steps.
use Rattle.std.proofs.Common.{◌≡◌, ◌∙◌, ◌<◌, ◌||◌, ℕ, Bool, true, false, List, ◌∷◌, ap, refl, reverse, subst, sym, ◌+◌, ◌≤◌}
use Rattle.std.specs.List.{fold}
use Rattle.mp_base.specs.declared.limits.TheConstants.{CELL_LIMIT}
use Rattle.mp_code.specs.declared.check.TheConstants.{OPERAND_LIMIT}
use Rattle.std.specs.Prelude.{vec_capacity}
use Rattle.std.specs.Prelude.{nat_eq}
use Rattle.std.proofs.lemmas.Bool.{eqb-true, ne_eqb}
use Rattle.mp_machine.specs.declared.activations.Activation.{Activation}
use Rattle.mp_machine.specs.States.{Frame, State}
use Rattle.mp_machine.specs.Outcomes.{Outcome, Done, Fault, Limit, Missing, Ended, Lacking, Stuck}
use Rattle.mp_machine.specs.CallRows.{left_until, without_newest}
use Rattle.mp_machine.specs.declared.processor.Processor.{Processor}
use Rattle.mp_machine.specs.Shown.{AreLoaded, AreStacked, IsLoaded, Sound, Unmoved, is_among}

pub unmoved_two : (m n o : Processor) → Unmoved m n → Unmoved n o → Unmoved m o
unmoved_two m n o a b = record {
  number = b.number ∙ a.number;
  below = b.below ∙ a.below;
  own = λ l. b.own (a.own l);
  spare = λ n l. b.spare n (a.spare n l);
  used = b.used ∙ a.used;
  block = b.block ∙ a.block;
  cells = b.cells ∙ a.cells;
  older = b.older ∙ a.older;
  objects = b.objects ∙ a.objects;
  next = b.next ∙ a.next;
  live = λ q. b.live q ∙ a.live q;
}

pub loaded_kept : (m n : Processor) (count : ℕ) → Unmoved m n → IsLoaded count m → IsLoaded count n
loaded_kept m n count kept l = record {
  blocks = (
    subst (λ b. b < count) (sym kept.block) l.blocks.0,
    subst (λ o. AreLoaded count (reverse o)) (sym kept.older)
        l.blocks.1,
  );
}

-- the activation of a number that is not the newest is older
pub among_rest : (number : ℕ) (a : Activation) (older : List Activation) → (a.number ≡ number → ⊥) →
    is_among number (a ∷ older) ≡ true → is_among number older ≡ true
among_rest number a older other h = by_first (nat_eq a.number number) refl h
  where
    by_first : (b : Bool) → nat_eq a.number number ≡ b → (b || is_among number older) ≡ true → is_among number older ≡ true
    by_first true e h = absurd (other (eqb-true a.number number e))
    by_first false e h = h

pub left_more : (number : ℕ) (s : State) (f : Frame) (older : List Frame) → (f.activation.number ≡ number → ⊥) →
    left_until number s (f ∷ older) ≡ left_until number (without_newest s (f ∷ older)) older
left_more number s f older other =
    ap (λ b. elim b as (λ is. State) [ true ↦ s | false ↦ left_until number (without_newest s (f ∷ older)) older ])
    (ne_eqb f.activation.number number other)

state_in : Outcome (Unit {0}) → State → State
state_in (Done x t) s = t
state_in (Fault n t) s = s
state_in (Limit n t) s = s
state_in (Missing path) s = s
state_in (Ended t) s = s
state_in Lacking s = s
state_in Stuck s = s

pub left_step : (number : ℕ) (s t : State) (f : Frame) (older : List Frame) → (f.activation.number ≡ number → ⊥) →
    Done (tt {0}) (without_newest s (f ∷ older)) ≡ Done (tt {0}) t → left_until number t t.frames ≡ left_until number s (f ∷
    older)
unfolding state_in
left_step number s t f older other e =
    sym (left_more number s f older other ∙ ap (λ u. left_until number u u.frames) (ap (λ o. state_in o s) e))

pub loaded_alike : (m n : Processor) (count : ℕ) → n.newest ≡ m.newest → n.older.items ≡ m.older.items → IsLoaded count m →
    IsLoaded count n
loaded_alike m n count same alike l = record {
  blocks = (
    subst (λ a. a.block < count) (sym same) l.blocks.0,
    subst (λ o. AreLoaded count (reverse o)) (sym alike)
        l.blocks.1,
  );
}

pub sound_kept : (m n : Processor) → Unmoved m n → Sound m → Sound n
sound_kept m n kept s = record {
  own = kept.own s.own;
  stacked = subst (λ b. AreStacked b (reverse n.older.items)) (sym kept.below) (subst (λ o. AreStacked m.newest.below (reverse o)) (sym kept.older) s.stacked);
  counts = kept.used ∙ s.counts ∙ ap (λ c. fold (λ k a. k + a.cells) (0 + c) (reverse m.older.items)) (sym kept.cells)
      ∙ ap (λ o. fold (λ k a. k + a.cells) (0 + n.newest.cells) (reverse o)) (sym kept.older);
  bound = subst (λ u. u ≤ CELL_LIMIT) (sym kept.used) s.bound;
  room = kept.spare (n.newest.below + OPERAND_LIMIT) (subst (λ b. b + OPERAND_LIMIT ≤ vec_capacity m.operands) (sym kept.below) s.room);
}
