-- More codes and a greater budget change no step that is made, and there is one run.
use Rattle.std.proofs.Common.{◌≡◌, inl, inr, ℕ, zero, suc, ◌+◌, List, [], ◌∷◌, Option, Some, None, Bool, true, false, refl, sym}
use Rattle.std.proofs.Common.{ap, ◌∙◌, subst, arith}
use Rattle.std.specs.Prelude.{slice_get}
use Rattle.mp_code.specs.declared.instructions.Instr.{Instr}
use Rattle.mp_code.specs.declared.instructions.Operation.{Operation}
use Rattle.mp_code.specs.declared.instructions.Operation.TheVariants as operation
use Rattle.mp_code.specs.BlockCode.{BlockCode}
use Rattle.mp_machine.specs.Blocks.{Path}
use Rattle.mp_machine.specs.Activations.{find_activation}
use Rattle.mp_machine.specs.States.{Frame, State, Codes, code_of, activations_in, newest_path}
use Rattle.mp_machine.specs.Outcomes.{Outcome, Done, Fault, Limit, Missing, Ended, Lacking, Stuck, Row, bind, ◌>>=◌, needs}
use Rattle.mp_machine.specs.Operands.{take_all, take_cell, change_newest}
use Rattle.mp_machine.specs.Memory.{activation_at}
use Rattle.mp_machine.specs.CallRows as call
use Rattle.mp_machine.specs.CallRows.{label_in}
use Rattle.mp_machine.specs.Table.{row}
use Rattle.mp_machine.specs.Steps.{begun, execute, step, next_in, instruction_in, next_instruction, starts}
use Rattle.mp_machine.specs.Runs.{Run, spent, with_left, moved, IsKept, move, Steps, Here, Further, HoldsCodes}
use Rattle.mp_machine.specs.Runs.{LoadingKeepsSteps, LoadingKeepsEndings, with_more, BudgetsAdd, RunsAreOne}

pub record Kept (o p : Outcome (Unit {0})) : Type 0 where
  pub by : IsKept o p

same_kept : (o : Outcome (Unit {0})) → Kept o o
same_kept (Done x t) = record { by = refl }
same_kept (Fault n t) = record { by = refl }
same_kept (Limit n t) = record { by = refl }
same_kept (Ended t) = record { by = refl }
same_kept (Missing path) = record { by = tt }
same_kept Lacking = record { by = tt }
same_kept Stuck = record { by = tt }

-- what follows the same outcome
bind_kept : {A : Type 0} (o : Outcome A) (f g : A → State → Outcome (Unit {0})) →
    ((x : A) (t : State) → Kept (f x t) (g x t)) → Kept (bind o f) (bind o g)
bind_kept (Done x t) f g h = h x t
bind_kept (Fault n t) f g h = record { by = refl }
bind_kept (Limit n t) f g h = record { by = refl }
bind_kept (Ended t) f g h = record { by = refl }
bind_kept (Missing path) f g h = record { by = tt }
bind_kept Lacking f g h = record { by = tt }
bind_kept Stuck f g h = record { by = tt }

module _ (codes wider : Codes) (holds : HoldsCodes codes wider) where
  loaded_kept : (path : Path) (go : BlockCode → Row) (s : State) → Kept ((call.loaded (code_of codes path) path >>= go) s)
      ((call.loaded (code_of wider path) path >>= go) s)
  loaded_kept path go s = by_code (code_of codes path) refl
    where
      by_code : (o : Option BlockCode) → code_of codes path ≡ o →
          Kept ((call.loaded o path >>= go) s) ((call.loaded (code_of wider path) path >>= go) s)
      by_code None e = record { by = tt }
      by_code (Some code) e = subst (λ o. Kept (go code s) ((call.loaded o path >>= go) s)) (sym (holds path code e))
          (same_kept (go code s))

  call_kept : (d : ℕ) (path : Path) (n : ℕ) (s : State) → Kept (call.call codes d path n s) (call.call wider d path n s)
  call_kept d path n s = bind_kept (activation_at d s) (λ parent t. call.call_with codes path n parent t)
      (λ parent t. call.call_with wider path n parent t) (λ parent t.
      loaded_kept path (λ code. take_all n >>= (λ cells. call.enter code path parent cells)) t)

  call_by_kept : (n : ℕ) (s : State) → Kept (call.call_by codes n s) (call.call_by wider n s)
  call_by_kept n s =
      bind_kept (take_all n s) (λ cells t. (take_cell >>=
      (λ x. call.as_routine x >>= (λ routine. call.call_routine codes cells routine))) t)
      (λ cells t. (take_cell >>= (λ x. call.as_routine x >>= (λ routine. call.call_routine wider cells routine))) t)
      (λ cells t.
      bind_kept (take_cell t) (λ x u. (call.as_routine x >>= (λ routine. call.call_routine codes cells routine)) u)
      (λ x u. (call.as_routine x >>= (λ routine. call.call_routine wider cells routine)) u) (λ x u.
      bind_kept (call.as_routine x u) (λ routine v. call.call_routine codes cells routine v)
      (λ routine v. call.call_routine wider cells routine v) (λ routine v.
      bind_kept (needs (slice_get v.blocks routine.0) v)
      (λ path w. (needs (find_activation (activations_in v.frames) routine.1) >>=
      (λ parent. call.call_block codes cells parent.number path)) w)
      (λ path w. (needs (find_activation (activations_in v.frames) routine.1) >>=
      (λ parent. call.call_block wider cells parent.number path)) w) (λ path w.
      bind_kept (needs (find_activation (activations_in v.frames) routine.1) w) (λ parent y. call.call_block codes cells
      parent.number path y) (λ parent y. call.call_block wider cells parent.number path y) (λ parent y.
      loaded_kept path (λ code. call.enter code path parent.number cells) y)))))

  land : (label : ℕ) (c : Codes) → State → Outcome (Unit {0})
  land label c t = bind (needs (label_in (code_of c (newest_path t.frames)) label) t)
      (λ k. change_newest (λ f. record f { next = k; operands = [] }))

  land_kept : (label : ℕ) (t : State) → Kept (land label codes t) (land label wider t)
  unfolding land
  land_kept label t = by_code (code_of codes (newest_path t.frames)) refl
    where
      by_code : (o : Option BlockCode) → code_of codes (newest_path t.frames) ≡ o →
          Kept (bind (needs (label_in o label) t) (λ k. change_newest (λ f. record f { next = k; operands = [] })))
          (bind (needs (label_in (code_of wider (newest_path t.frames)) label) t)
          (λ k. change_newest (λ f. record f { next = k; operands = [] })))
      by_code None e = record { by = tt }
      by_code (Some code) e = subst (λ o. Kept (bind (needs (label_in (Some code) label) t)
          (λ k. change_newest (λ f. record f { next = k; operands = [] }))) (bind (needs (label_in o label) t)
          (λ k. change_newest (λ f. record f { next = k; operands = [] })))) (sym (holds (newest_path t.frames) code e))
          (same_kept _)

  leave_kept : (d label : ℕ) (s : State) → Kept (call.leave codes d label s) (call.leave wider d label s)
  unfolding land
  leave_kept d label s = bind_kept (activation_at d s) (λ number t. land label codes (call.left_until number t t.frames))
      (λ number t. land label wider (call.left_until number t t.frames))
      (λ number t. land_kept label (call.left_until number t t.frames))

  row_kept : (o : Operation) (s : State) → Kept (row codes o s) (row wider o s)
  row_kept (operation.Leave d label) s = leave_kept d label s
  row_kept (operation.Call d path n is_function) s = call_kept d path n s
  row_kept (operation.CallBy n is_function) s = call_by_kept n s
  row_kept o s = same_kept _

  execute_kept : (o p : Option Instr) (s : State) → ((i : Instr) → o ≡ Some i → p ≡ Some i) →
      Kept (execute codes o s) (execute wider p s)
  execute_kept None p s same = record { by = tt }
  execute_kept (Some i) p s same = subst (λ p. Kept (execute codes (Some i) s) (execute wider p s)) (sym (same i refl))
      (row_kept i.operation (begun i.ordinal s))

  next_kept : (fs : List Frame) (i : Instr) → next_in codes fs ≡ Some i → next_in wider fs ≡ Some i
  next_kept [] i e = absurd (let v : ⊥ = cc in v)
  next_kept (f ∷ older) i e = by_code (code_of codes f.activation.block) refl e
    where
      by_code : (o : Option BlockCode) → code_of codes f.activation.block ≡ o → instruction_in o f.next ≡ Some i →
          instruction_in (code_of wider f.activation.block) f.next ≡ Some i
      by_code None is found = absurd (let v : ⊥ = cc in v)
      by_code (Some code) is found = ap (λ o. instruction_in o f.next) (holds f.activation.block code is) ∙ found

  step_kept : (s : State) → Kept (step codes s) (step wider s)
  step_kept s = execute_kept (next_instruction codes s) (next_instruction wider s) s (λ i e. next_kept s.frames i e)

  move_kept : (r t : Run) → move codes r ≡ Some t → move wider r ≡ Some t
  move_kept r t e = by_instruction (next_instruction codes r.state) refl e
    where
      by_outcome : (b : Bool) (o p : Outcome (Unit {0})) → IsKept o p → moved b r.left o ≡ Some t → moved b r.left p ≡ Some t
      by_outcome b (Done x s) p k is = ap (moved b r.left) k ∙ is
      by_outcome b (Fault n s) p k is = absurd (let v : ⊥ = cc in v)
      by_outcome b (Limit n s) p k is = absurd (let v : ⊥ = cc in v)
      by_outcome b (Missing path) p k is = absurd (let v : ⊥ = cc in v)
      by_outcome b (Ended s) p k is = absurd (let v : ⊥ = cc in v)
      by_outcome b Lacking p k is = absurd (let v : ⊥ = cc in v)
      by_outcome b Stuck p k is = absurd (let v : ⊥ = cc in v)

      by_instruction : (o : Option Instr) → next_instruction codes r.state ≡ o →
          moved (starts o) r.left (execute codes o r.state) ≡ Some t → move wider r ≡ Some t
      by_instruction None is found = absurd (let v : ⊥ = cc in v)
      by_instruction (Some i) is found =
          let same : next_instruction wider r.state ≡ Some i = next_kept r.state.frames i is in
          subst (λ o. moved (starts o) r.left (execute wider o r.state) ≡ Some t) (sym same)
          (by_outcome (starts (Some i)) (execute codes (Some i) r.state) (execute wider (Some i) r.state)
          (row_kept i.operation (begun i.ordinal r.state)).by found)

pub loading_keeps_endings : LoadingKeepsEndings
loading_keeps_endings codes wider holds s = (step_kept codes wider holds s).by

pub loading_keeps_steps : LoadingKeepsSteps
loading_keeps_steps codes wider holds r t (Here s) = Here r
loading_keeps_steps codes wider holds r t (Further a b c e rest) = Further r b t (move_kept codes wider holds r b e)
    (loading_keeps_steps codes wider holds b t rest)

-- ---- budgets

spent_more : (b : Bool) (n left : ℕ) (s : State) (t : Run) → with_left s (spent b left) ≡ Some t →
    with_left s (spent b (left + n)) ≡ Some (with_more n t)
spent_more false n left s t e = let is : record { state = s; left = left } ≡ t = cc in ap (λ t. Some (with_more n t)) is
spent_more true n zero s t e = absurd (let v : ⊥ = cc in v)
spent_more true n (suc left) s t e =
    let is : record { state = s; left = left } ≡ t = cc in
    let more_left : suc left + n ≡ suc (left + n) = omega arith in
    ap (λ l. with_left s (spent true l)) more_left ∙ ap (λ t. Some (with_more n t)) is

moved_more : (b : Bool) (n left : ℕ) (o : Outcome (Unit {0})) (t : Run) → moved b left o ≡ Some t →
    moved b (left + n) o ≡ Some (with_more n t)
moved_more b n left (Done x s) t e = spent_more b n left s t e
moved_more b n left (Fault k s) t e = absurd (let v : ⊥ = cc in v)
moved_more b n left (Limit k s) t e = absurd (let v : ⊥ = cc in v)
moved_more b n left (Missing path) t e = absurd (let v : ⊥ = cc in v)
moved_more b n left (Ended s) t e = absurd (let v : ⊥ = cc in v)
moved_more b n left Lacking t e = absurd (let v : ⊥ = cc in v)
moved_more b n left Stuck t e = absurd (let v : ⊥ = cc in v)

pub budgets_add : BudgetsAdd
budgets_add codes n r t (Here s) = Here (with_more n r)
budgets_add codes n r t (Further a b c e rest) = Further (with_more n r) (with_more n b) (with_more n t)
    (moved_more (starts (next_instruction codes r.state)) n r.left (step codes r.state) b e) (budgets_add codes n b t rest)

-- ---- one run

pub runs_are_one : RunsAreOne
runs_are_one codes r t u (Here s) second = inl second
runs_are_one codes r t u (Further a b c e rest) (Here s) = inr (Further r b t e rest)
runs_are_one codes r t u (Further a b c e rest) (Further a2 d c2 f rest2) =
    let w : Some b ≡ Some d = sym e ∙ f in
    let same : b ≡ d = cc in
    runs_are_one codes b t u rest (subst (λ x. Steps codes x u) (sym same) rest2)
