-- A step, from its instruction as it was played.
use Rattle.std.proofs.Common.{◌≡◌, ℕ, ◌+◌, ◌-◌, ◌<◌, ◌≤◌, Bool, true, false, List, [], ◌∷◌, ◌++◌, Option, Some, None, length, drop, reverse, refl, sym, ◌∙◌, ap, subst, arith}
use Rattle.std.specs.Prelude.{Ok, slice_get, vec_capacity, vec_len}
use Rattle.std.specs.Option.{option_map}
use Rattle.std.proofs.lemmas.List.{length-drop, length-reverse}
use Rattle.mp_code.specs.declared.check.TheConstants.{OPERAND_LIMIT}
use Rattle.mp_code.specs.declared.instructions.Instr.{Instr}
use Rattle.mp_code.specs.declared.instructions.Operation.{Operation}
use Rattle.mp_code.specs.declared.instructions.Operation.TheVariants as operation
use Rattle.mp_code.specs.BlockCode.{BlockCode}
use Rattle.mp_machine.specs.declared.processor.Processor.{Processor}
use Rattle.mp_machine.specs.declared.processor.Stop.{Stop}
use Rattle.mp_machine.specs.declared.processor.Stop.TheVariants as stop
use Rattle.mp_machine.specs.Answering.{Played}
use Rattle.mp_machine.specs.Blocks.{Path, same_path}
use Rattle.mp_machine.specs.Conditions.{IsAnswered, IsReady, operand_count, wants}
use Rattle.mp_machine.specs.Laws.{HasNoCode, Leads, Later, Quiet, adds_a_root}
use Rattle.mp_machine.specs.Loads.{AllFound, path_in, paths_of}
use Rattle.mp_machine.specs.Outcomes.{Outcome, Done, Fault, Limit, Missing, Ended, Lacking, Stuck}
use Rattle.mp_machine.specs.Plays.{grows, is_call, wants_memory}
use Rattle.mp_machine.specs.Shown.{Fits, IsStuck, Sound, state_of}
use Rattle.mp_machine.specs.States.{Codes, Loaded, State, code_of}
use Rattle.mp_machine.specs.Steps.{begun, execute, instruction_in, is_start, next_instruction, starts, step}
use Rattle.mp_machine.specs.Table.{row}
use Rattle.mp_machine.proofs.LaterLemmas.{row_later}
use Rattle.mp_machine.proofs.PathLemmas.{same_path_self}
use Rattle.mp_machine.proofs.QuietLemmas.{others_add_none}

-- ---- the next instruction

pub fetched : (codes : Codes) (place k : ℕ) (code : BlockCode) → AllFound codes →
    option_map (λ (l : Loaded). l.code) (slice_get codes place) ≡ Some code →
    instruction_in (code_of codes (paths_of codes place)) k ≡ slice_get code.instructions k
fetched codes place k code found e = by_loaded (slice_get codes place) refl e
  where
    by_loaded : (o : Option Loaded) → slice_get codes place ≡ o → option_map (λ (l : Loaded). l.code) o ≡ Some code →
        instruction_in (code_of codes (paths_of codes place)) k ≡ slice_get code.instructions k
    by_loaded None there e = absurd (let v : ⊥ = cc in v)
    by_loaded (Some l) there e =
        let same : l.code ≡ code = cc in
        ap (λ o. instruction_in (code_of codes (path_in o)) k) there
        ∙ ap (λ o. instruction_in o k) (found.each place l there)
        ∙ ap (λ (c : BlockCode). slice_get c.instructions k) same

-- ---- there is room

pub fits_one : (paths : ℕ → Path) (m : Processor) → Sound m → operand_count (state_of paths m).frames < OPERAND_LIMIT → Fits 1 m
fits_one paths m sound few = record {
  own = sound.own;
  spare =
      let count : operand_count (state_of paths m).frames ≡ length m.operands.items - m.newest.below =
      length-reverse (drop m.newest.below m.operands.items) ∙ length-drop m.newest.below m.operands.items in
      let own = sound.own in let room = sound.room in
      omega (arith, count, few, own, room);
}

-- ---- only calls are missing

abbrev empty_code : BlockCode
empty_code = record { instructions = []; depths = []; labels = []; frame = 0; counted = 0 }

abbrev codes_with : Path → Codes
codes_with path = record { path = path; code = empty_code } ∷ []

new_never : (codes : Codes) (n : ℕ) (s : State) (path : Path) → row codes (operation.New n) s ≡ Missing path → ⊥
new_never codes n s path e =
    let none : code_of (codes_with path) path ≡ None =
    subst (λ out. Leads Later (HasNoCode (codes_with path)) s out) e ((row_later (codes_with path) (operation.New n)).by s).by in
    let some : code_of (codes_with path) path ≡ Some empty_code =
    ap (λ b. elim b as (λ is. Option BlockCode) [ true ↦ Some empty_code | false ↦ None ]) (same_path_self path) in
    absurd (let v : ⊥ = cc in v)

pub missing_is_call : (codes : Codes) (o : Operation) (s : State) (path : Path) → row codes o s ≡ Missing path → is_call o ≡ true
missing_is_call codes o s path e = by_adds (adds_a_root o) refl
  where
    by_kind : (o : Operation) → adds_a_root o ≡ true → row codes o s ≡ Missing path → is_call o ≡ true
    by_kind (operation.Call d p k f) h e = refl
    by_kind (operation.CallBy k f) h e = refl
    by_kind (operation.New k) h e = absurd (new_never codes k s path e)
    by_kind _ h e = absurd (let v : ⊥ = cc in v)

    by_adds : (b : Bool) → adds_a_root o ≡ b → is_call o ≡ true
    by_adds true h = by_kind o h e
    by_adds false h = absurd (subst (λ out. Leads Quiet (λ path. ⊥) s out) e (others_add_none codes o s h))

-- ---- the step

module _ (codes : Codes) (s : State) (i : Instr) where
  step_is : Some i ≡ next_instruction codes s → step codes s ≡ row codes i.operation (begun i.ordinal s)
  step_is next = ap (λ o. execute codes o s) (sym next)

stuck_answered : (o : Outcome (Unit {0})) → IsStuck o → IsAnswered o → ⊥
stuck_answered Lacking h a = a
stuck_answered Stuck h a = a
stuck_answered (Done x t) h a = h
stuck_answered (Fault k t) h a = h
stuck_answered (Limit k t) h a = h
stuck_answered (Missing path) h a = h
stuck_answered (Ended t) h a = h

pub nothing_next : (codes : Codes) (s : State) → None ≡ next_instruction codes s → IsAnswered (step codes s) → ⊥
nothing_next codes s e a = subst (λ o. IsAnswered (execute codes o s)) (sym e) a

module _ (codes : Codes) (s mid : State) (i : Instr) (next : Some i ≡ next_instruction codes s) (began : mid ≡ begun i.ordinal s) where
  from_row : (out : Outcome (Unit {0})) → row codes i.operation mid ≡ out → step codes s ≡ out
  from_row out e = step_is codes s i next ∙ ap (row codes i.operation) (sym began) ∙ e

  pub played_done : (t : State) (b : Bool) → row codes i.operation mid ≡ Done tt t → b ≡ is_start i.operation → Played codes s (Ok b) t
  played_done t b e same = (from_row (Done tt t) e, ap starts (sym next) ∙ sym same)

  pub played_fault : (t : State) (n : ℕ) → row codes i.operation mid ≡ Fault n t → step codes s ≡ Fault n t
  played_fault t n e = from_row (Fault n t) e

  pub played_limit : (t : State) (n : ℕ) → row codes i.operation mid ≡ Limit n t → step codes s ≡ Limit n t
  played_limit t n e = from_row (Limit n t) e

  pub played_ended : (t : State) → row codes i.operation mid ≡ Ended t → step codes s ≡ Ended t
  played_ended t e = from_row (Ended t) e

  pub played_missing : (path : Path) → row codes i.operation mid ≡ Missing path → step codes s ≡ Missing path
  played_missing path e = from_row (Missing path) e

  pub played_stuck : IsStuck (row codes i.operation mid) → IsAnswered (step codes s) → ⊥
  played_stuck h a = stuck_answered (row codes i.operation mid) h (subst IsAnswered (from_row (row codes i.operation mid) refl) a)

  pub played_memory : (wants_memory i.operation ≡ false → ⊥) → wants (next_instruction codes s) ≡ true
  played_memory h = ap wants (sym next) ∙ by_bool (wants_memory i.operation) refl
    where
      by_bool : (b : Bool) → wants_memory i.operation ≡ b → b ≡ true
      by_bool true e = refl
      by_bool false e = absurd (h e)
