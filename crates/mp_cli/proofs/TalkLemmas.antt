-- Turns and where they lead, and answers that are passed on.
use Rattle.std.proofs.Common.{◌≡◌, List, [], ◌∷◌, length, arith, Option, None, Some, true, false, if◌then◌else◌, refl, ap, sym, ◌∙◌}
use Rattle.std.specs.Prelude.{Result, Ok, Err, IfOk, OnOk, OnErr}
use Rattle.mp_script.specs.declared.commands.Command.{Command}
use Rattle.mp_script.specs.declared.commands.Verb.{Verb}
use Rattle.mp_session.specs.declared.session.SessionError.{SessionError}
use Rattle.mp_session.specs.declared.session.Turn.{Turn}
use Rattle.mp_session.specs.declared.session.Turn.TheVariants as turn
use Rattle.mp_session.specs.declared.state.State.{State}
use Rattle.mp_session.specs.Lines.{Stand, idle}
use Rattle.mp_session.specs.Transcript.{is_quit}
use Rattle.mp_session.specs.Turns.{turn_of}
use Rattle.mp_cli.specs.Talk.{goes, standing}

pub goes_turn : (v : Verb) (s : State) → (if is_quit v then None else Some (idle s)) ≡ goes (turn_of v) (standing s None)
goes_turn v s = elim (is_quit v) as (λ b. (if b then None else Some (idle s)) ≡ goes (if b then turn.Quit else turn.On) (standing s None)) [ true ↦ refl | false ↦ refl ]

-- where a command leads that was obeyed: its turn, and the state after it
pub obeyed_goes : (answer : Result Turn SessionError) (v : Verb) (after replied : State) (waiting : Option Command) (now : Option Stand)
    → now ≡ (if is_quit v then None else Some (idle replied)) → waiting ≡ None → IfOk answer (λ it. it ≡ turn_of v) → OnOk answer (after ≡ replied)
    → IfOk answer (λ it. now ≡ goes it (standing after waiting))
obeyed_goes (Ok told) v after replied waiting now n w t s =
    n ∙ goes_turn v replied ∙ ap (λ x. goes x (standing replied None)) (sym t) ∙ ap (λ x. goes told (standing x None)) (sym s) ∙ ap (λ x. goes told (standing after x)) (sym w)
obeyed_goes (Err error) v after replied waiting now n w t s = tt

-- what holds is said of an error too
pub of_error : {A : Type 0} (answer : Result A SessionError) (Q : Type 0) → Q → OnErr answer Q
of_error (Ok x) Q h = tt
of_error (Err e) Q h = h

-- what an error says of an answer that is passed on
pub on_error : {A : Type 0} (answer : Result A SessionError) (P Q : Type 0) → OnErr answer P → (P → Q) → OnErr answer Q
on_error (Ok x) P Q h f = tt
on_error (Err e) P Q h f = f h

pub none_left : {A : Type 0} (xs : List A) → length xs ≡ 0 → xs ≡ []
none_left [] h = refl
none_left (x ∷ xs) h = absurd (omega arith)
