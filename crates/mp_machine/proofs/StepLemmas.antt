-- What each step keeps, and what the machine answers again.
use Rattle.std.proofs.Common.{◌≡◌, ℕ, zero, suc, ◌+◌, ◌≤◌, List, [], ◌∷◌, ◌++◌, Option, Some, None, Bool, true, false, refl}
use Rattle.std.proofs.Common.{sym, ap, ◌∙◌, subst, map, arith}
use Rattle.mp_code.specs.declared.instructions.Instr.{Instr}
use Rattle.mp_code.specs.BlockCode.{BlockCode}
use Rattle.mp_machine.specs.Blocks.{Path}
use Rattle.mp_files.specs.declared.items.Item.{Item}
use Rattle.mp_files.specs.Items.{byte_of}
use Rattle.mp_files.specs.TextFiles.{output_file}
use Rattle.mp_machine.specs.declared.answers.Gone.{Gone}
use Rattle.mp_machine.specs.declared.answers.Gone.TheVariants as gone
use Rattle.mp_machine.specs.States.{Frame, State, Codes, activations_in, written_in, place_of}
use Rattle.mp_machine.specs.Outcomes.{Outcome, Done, Fault, Limit, Missing, Ended, Lacking, Stuck}
use Rattle.mp_machine.specs.Operands.{with_newest}
use Rattle.mp_machine.specs.Table.{row}
use Rattle.mp_machine.specs.Steps.{Machine, Answered, begun, execute, step, next_instruction, starts, answered, answer, went}
use Rattle.mp_machine.specs.Steps.{goes_on, is_over, first_state, first_roots}
use Rattle.mp_machine.specs.Runs.{Run, spent, with_left, moved, Here, Further}
use Rattle.mp_machine.specs.Laws.{Leads, Later, StepsKeep, OutputGrows, IsOver, EndedStaysEnded, HasNoCode}
use Rattle.mp_machine.specs.Laws.{MissingChangesNothing, IsInOrder, RunsKeep, RunsAreInOrder}
use Rattle.mp_machine.proofs.Rows.{Keeps, keeps_two}
use Rattle.mp_machine.proofs.LaterLemmas.{later_keeping, row_later}

-- ---- steps

begun_later : (k : ℕ) (s : State) → Later s (begun k s)
begun_later k s =
    let t : State = record s { frames = with_newest (λ f. record f { next = f.next + 1 }) s.frames } in
    later_keeping.two s t _ (later_keeping.newest s (with_newest (λ f. record f { next = f.next + 1 }) s.frames)
    (by_frames s.frames)) (later_keeping.place t k)
  where
    by_frames : (fs : List Frame) → activations_in (with_newest (λ f. record f { next = f.next + 1 }) fs) ≡ activations_in fs
    by_frames [] = refl
    by_frames (f ∷ older) = refl

execute_keeps : (codes : Codes) (i : Option Instr) (s : State) → Keeps Later (HasNoCode codes) later_keeping s
    (execute codes i s)
execute_keeps codes None s = record { by = tt }
execute_keeps codes (Some i) s = keeps_two Later (HasNoCode codes) later_keeping s (begun i.ordinal s)
    (row codes i.operation (begun i.ordinal s)) (begun_later i.ordinal s) ((row_later codes i.operation).by (begun i.ordinal s))

pub steps_keep : StepsKeep
steps_keep codes s = (execute_keeps codes (next_instruction codes s) s).by

map_append : (xs ys : List Item) → map byte_of (xs ++ ys) ≡ map byte_of xs ++ map byte_of ys
map_append [] ys = refl
map_append (x ∷ xs) ys = ap (λ l. byte_of x ∷ l) (map_append xs ys)

pub output_grows : OutputGrows
output_grows s t g f e =
    let h = g.output f e in (
      map byte_of (h.2).0,
      ap written_in h.1 ∙ ap (map byte_of) (h.2).1 ∙ map_append f.before (h.2).0 ∙
          ap (λ l. l ++ map byte_of (h.2).0) (sym (ap written_in e)),
    )

-- ---- what ended stays ended

again_over : (g : Gone) (t : State) (later : Codes) (a : Answered) → is_over g t ≡ Some a → answer later a.machine ≡ Some a
again_over g t later a e =
    let is : record { answer = g; machine = record { state = t; over = Some g } } ≡ a = cc in
    subst (λ a. answer later a.machine ≡ Some a) is refl

again_went : (g : Gone) (t : State) (a : Answered) → (IsOver g → ⊥) → goes_on g t ≡ Some a → IsOver a.answer → ⊥
again_went g t a no_end e over =
    let is : record { answer = g; machine = record { state = t; over = None } } ≡ a = cc in
    no_end (subst (λ a. IsOver a.answer) (sym is) over)

not_over : (start : Bool) (t : State) → IsOver (went start t) → ⊥
not_over true t over = over
not_over false t over = over

again : (start : Bool) (s : State) (o : Outcome (Unit {0})) (later : Codes) (a : Answered) → answered start s o ≡ Some a →
    IsOver a.answer → answer later a.machine ≡ Some a
again start s (Done x t) later a e over = absurd (again_went (went start t) t a (not_over start t) e over)
again start s (Missing path) later a e over = absurd (again_went (gone.Missing path) s a (λ over. over) e over)
again start s (Fault n t) later a e over = again_over (gone.Fault n (place_of t)) t later a e
again start s (Limit n t) later a e over = again_over (gone.Limit n (place_of t)) t later a e
again start s (Ended t) later a e over = again_over gone.Ended t later a e
again start s Lacking later a e over = absurd (let v : ⊥ = cc in v)
again start s Stuck later a e over = absurd (let v : ⊥ = cc in v)

abbrev by_end : Codes → Machine → Option Gone → Option Answered
by_end codes m over = elim over as (λ over. Option Answered) [
  | Some g ↦ Some (record { answer = g; machine = m })
  | None ↦ answered (starts (next_instruction codes m.state)) m.state (step codes m.state)
]

pub ended_stays_ended : EndedStaysEnded
ended_stays_ended codes later m a e over = by_over m.over refl e
  where
    by_over : (o : Option Gone) → m.over ≡ o → by_end codes m o ≡ Some a → answer later a.machine ≡ Some a
    by_over None is e = again (starts (next_instruction codes m.state)) m.state (step codes m.state) later a e over
    by_over (Some g) is e =
        let same : record { answer = g; machine = m } ≡ a = cc in
        subst (λ a. answer later a.machine ≡ Some a) same (ap (by_end later m) is)

-- ---- a block without code

missing_of : (codes : Codes) (start : Bool) (s : State) (o : Outcome (Unit {0})) (a : Answered) (path : Path) →
    Leads Later (HasNoCode codes) s o → answered start s o ≡ Some a → a.answer ≡ gone.Missing path →
    (a.machine ≡ record { state = s; over = None }) × HasNoCode codes path
missing_of codes true s (Done x t) a path g e is = let same : gone.AtStatement (place_of t) ≡ a.answer = cc in
    absurd (let v : ⊥ = cc in v)
missing_of codes false s (Done x t) a path g e is = let same : gone.Went ≡ a.answer = cc in absurd (let v : ⊥ = cc in v)
missing_of codes start s (Missing q) a path g e is =
    let same : record { answer = gone.Missing q; machine = record { state = s; over = None } } ≡ a = cc in
    let named : gone.Missing q ≡ gone.Missing path = ap (λ a. a.answer) same ∙ is in
    let at : q ≡ path = cc in
    (sym (ap (λ a. a.machine) same), subst (HasNoCode codes) at g)
missing_of codes start s (Fault n t) a path g e is = let same : gone.Fault n (place_of t) ≡ a.answer = cc in
    absurd (let v : ⊥ = cc in v)
missing_of codes start s (Limit n t) a path g e is = let same : gone.Limit n (place_of t) ≡ a.answer = cc in
    absurd (let v : ⊥ = cc in v)
missing_of codes start s (Ended t) a path g e is = let same : gone.Ended ≡ a.answer = cc in absurd (let v : ⊥ = cc in v)
missing_of codes start s Lacking a path g e is = absurd (let v : ⊥ = cc in v)
missing_of codes start s Stuck a path g e is = absurd (let v : ⊥ = cc in v)

pub missing_changes_nothing : MissingChangesNothing
missing_changes_nothing codes m a path over e is =
    let f : by_end codes m None ≡ Some a = ap (by_end codes m) (sym over) ∙ e in
    let h : (a.machine ≡ record { state = m.state; over = None }) × HasNoCode codes path =
    missing_of codes (starts (next_instruction codes m.state)) m.state (step codes m.state) a path
    (steps_keep codes m.state) f is in
    (h.0 ∙ ap (λ o. record { state = m.state; over = o }) (sym over), h.1)

-- ---- runs

moved_keeps : (b : Bool) (left : ℕ) (s : State) (o : Outcome (Unit {0})) (t : Run) (codes : Codes) →
    Leads Later (HasNoCode codes) s o → moved b left o ≡ Some t → Later s t.state
moved_keeps b left s (Done x u) t codes g e = by_left (spent b left) e
  where
    by_left : (l : Option ℕ) → with_left u l ≡ Some t → Later s t.state
    by_left None is = absurd (let v : ⊥ = cc in v)
    by_left (Some n) is = let same : record { state = u; left = n } ≡ t = cc in subst (λ r. Later s r.state) same g
moved_keeps b left s (Fault n u) t codes g e = absurd (let v : ⊥ = cc in v)
moved_keeps b left s (Limit n u) t codes g e = absurd (let v : ⊥ = cc in v)
moved_keeps b left s (Missing path) t codes g e = absurd (let v : ⊥ = cc in v)
moved_keeps b left s (Ended u) t codes g e = absurd (let v : ⊥ = cc in v)
moved_keeps b left s Lacking t codes g e = absurd (let v : ⊥ = cc in v)
moved_keeps b left s Stuck t codes g e = absurd (let v : ⊥ = cc in v)

pub runs_keep : RunsKeep
runs_keep codes r t (Here s) = later_keeping.same r.state
runs_keep codes r t (Further a b c e rest) =
    later_keeping.two r.state b.state t.state (moved_keeps (starts (next_instruction codes r.state)) r.left r.state
    (step codes r.state) b codes (steps_keep codes r.state) e) (runs_keep codes b t rest)

start_in_order : (main : BlockCode) (input : List ℕ) → IsInOrder (first_state main input)
start_in_order main input = record { fresh = fresh; order = (omega arith, omega arith, tt); output = (output_file, refl) }
  where
    fresh : (r : ℕ) → 2 ≤ r → first_roots input main.frame r ≡ None
    fresh zero l = absurd (let v : ⊥ = omega (arith, l) in v)
    fresh (suc zero) l = absurd (let v : ⊥ = omega (arith, l) in v)
    fresh (suc (suc r)) l = refl

pub runs_are_in_order : RunsAreInOrder
runs_are_in_order codes main input n s reached =
    let g : Later (first_state main input) s = runs_keep codes _ _ reached.by in
    let h : IsInOrder (first_state main input) = start_in_order main input in
    let o = g.output h.output.0 h.output.1 in
    record { fresh = g.fresh h.fresh; order = g.order h.order; output = (o.0, o.1) }
