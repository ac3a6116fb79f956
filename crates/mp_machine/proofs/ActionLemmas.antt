-- The table's actions on operands, in terms of the vector that holds them; and how actions follow one another.
use Rattle.std.proofs.Common.{◌≡◌, ℕ, ◌≤◌, List, [], ◌∷◌, ◌++◌, length, reverse, take, drop, sym, ◌∙◌, ap}
use Rattle.std.proofs.Common.{subst}
use Rattle.std.proofs.lemmas.List.{reverse-append, drop-append-le, take-append-le}
use Rattle.mp_memory.specs.Roots.{Contents, roots_of}
use Rattle.mp_machine.specs.declared.operands.Operand.{Operand}
use Rattle.mp_machine.specs.declared.activations.Activation.{Activation}
use Rattle.mp_machine.specs.declared.processor.Stop.{Stop}
use Rattle.mp_machine.specs.declared.processor.Stop.TheVariants as stop
use Rattle.mp_machine.specs.States.{Frame, State}
use Rattle.mp_machine.specs.Outcomes.{Outcome, Done, Fault, Limit, Missing, Ended, Lacking, Stuck, bind}
use Rattle.mp_machine.specs.Operands as action
use Rattle.mp_machine.specs.Blocks.{Path}
use Rattle.mp_machine.specs.Shown.{World, IsStuck, Stops, frame_seen, frames_seen, own_operands, shown}

-- ---- one action after another

pub then : {A B : Type 0} {o : Outcome A} {x : A} {t : State} (go : A → State → Outcome B) → o ≡ Done x t → bind o go ≡ go x t
then go e = ap (λ o. bind o go) e

stuck_bind : {A B : Type 0} (o : Outcome A) (go : A → State → Outcome B) → IsStuck o → IsStuck (bind o go)
stuck_bind Lacking go h = h
stuck_bind Stuck go h = h
stuck_bind (Done x s) go h = absurd h
stuck_bind (Fault k s) go h = absurd h
stuck_bind (Missing p) go h = absurd h
stuck_bind (Limit k s) go h = absurd h
stuck_bind (Ended s) go h = absurd h

pub stuck_first : {A B : Type 0} (o : Outcome A) (go : A → State → Outcome B) → IsStuck o → IsStuck (bind o go)
stuck_first o go h = stuck_bind o go h

-- what stops an action stops all that begin with it
pub stops_first : {A B : Type 0} (e : Stop) (o : Outcome A) (t : State) (go : A → State → Outcome B) → Stops e o t →
    Stops e (bind o go) t
stops_first (stop.Fault n) o t go h = ap (λ o. bind o go) h
stops_first (stop.Limit n) o t go h = ap (λ o. bind o go) h
stops_first stop.Ended o t go h = ap (λ o. bind o go) h
stops_first (stop.Missing path) o t go h = ap (λ o. bind o go) h
stops_first stop.Stuck o t go h = stuck_bind o go h
stops_first stop.Memory o t go h = tt

pub stops_then : {A B : Type 0} {o : Outcome A} {x : A} {s : State} (e : Stop) (t : State) (go : A → State → Outcome B) →
    o ≡ Done x s → Stops e (go x s) t → Stops e (bind o go) t
stops_then e t go p h = subst (λ o. Stops e (bind o go) t) (sym p) h

-- ---- operands

operands_push : (n : ℕ) (xs : List Operand) (x : Operand) → n ≤ length xs → own_operands n (xs ++ x ∷ []) ≡ x ∷
    own_operands n xs
operands_push n xs x l = ap reverse (drop-append-le n xs (x ∷ []) l) ∙ reverse-append (drop n xs) (x ∷ [])

older_push : (paths : ℕ → Path) (older : List Activation) (n : ℕ) (xs : List Operand) (x : Operand) → n ≤ length xs
    → frames_seen paths older (take n (xs ++ x ∷ [])) ≡ frames_seen paths older (take n xs)
older_push paths older n xs x l = ap (frames_seen paths older) (take-append-le n xs (x ∷ []) l)

-- the state whose newest activation has these operands, above older frames
state_with : World → Contents → Activation → (at : ℕ) → List Operand → List Frame → State
state_with w k a at ops older = record {
  frames = frame_seen w.paths a ops ∷ older;
  roots = roots_of k;
  next_root = k.next;
  objects = w.objects;
  files = w.files.files;
  written = w.files.written;
  blocks = w.blocks;
  at = at;
}

shown_push : (w : World) (k : Contents) (xs : List Operand) (x : Operand) (a : Activation) (older : List Activation) (at : ℕ) →
    a.below ≤ length xs
    → shown w k (xs ++ x ∷ []) a older at ≡ state_with w k a at (x ∷ own_operands a.below xs)
    (frames_seen w.paths (reverse older) (take a.below xs))
unfolding state_with
shown_push w k xs x a older at l =
    ap (λ o. state_with w k a at o (frames_seen w.paths (reverse older) (take a.below (xs ++ x ∷ []))))
    (operands_push a.below xs x l)
    ∙ ap (state_with w k a at (x ∷ own_operands a.below xs)) (older_push w.paths (reverse older) a.below xs x l)

pub put_shown : (w : World) (k : Contents) (xs : List Operand) (x : Operand) (a : Activation) (older : List Activation)
    (at : ℕ) → a.below ≤ length xs
    → action.put x (shown w k xs a older at) ≡ Done tt (shown w k (xs ++ x ∷ []) a older at)
unfolding state_with
put_shown w k xs x a older at l = ap (λ s. Done tt s) (sym (shown_push w k xs x a older at l))

pub take_shown : (w : World) (k : Contents) (xs : List Operand) (x : Operand) (a : Activation) (older : List Activation)
    (at : ℕ) → a.below ≤ length xs
    → action.take (shown w k (xs ++ x ∷ []) a older at) ≡ Done x (shown w k xs a older at)
unfolding state_with
take_shown w k xs x a older at l = ap action.take (shown_push w k xs x a older at l)

pub lacks_shown : (w : World) (k : Contents) (xs : List Operand) (a : Activation) (older : List Activation) (at : ℕ) →
    own_operands a.below xs ≡ []
    → action.take (shown w k xs a older at) ≡ Lacking
unfolding state_with
lacks_shown w k xs a older at e = ap (λ ops. action.take
    (state_with w k a at ops (frames_seen w.paths (reverse older) (take a.below xs)))) e
