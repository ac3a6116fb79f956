-- Where a block is missing, the processor is again what it was.
use Rattle.std.proofs.Common.{◌≡◌, ◌∙◌, Err, ap, subst, sym, true}
use Rattle.mp_machine.specs.Loads.{paths_of}
use Rattle.mp_machine.specs.Outcomes.{Missing}
use Rattle.mp_machine.specs.Plays.{is_call}
use Rattle.mp_machine.specs.Shown.{Sound, Stops, WhereMissing, state_of}
use Rattle.mp_machine.specs.Steps.{step}
use Rattle.mp_machine.specs.Table.{row}
use Rattle.mp_machine.specs.declared.processor.Processor.{Processor}
use Rattle.mp_machine.proofs.PlayedLemmas.{missing_is_call, played_missing}
use Rattle.mp_machine.proofs.processor.Processor.step.Goals as goal

is_missing : (c : goal.After-go_back) → row c.args.codes.now c.in-Some.instruction.now.operation
    (state_of (paths_of c.args.codes.now) c.begin.new.self) ≡ Missing c.in-Err-Missing.path
is_missing c =
    subst (λ e. Stops e (row c.args.codes.now c.in-Some.instruction.now.operation
    (state_of (paths_of c.args.codes.now) c.begin.new.self)) (state_of (paths_of c.args.codes.now) c.play.new.self))
    c.in-Err-Missing.field-0-is c.in-Err-Missing.ensures.row

is_back : (c : goal.After-go_back) → c.go_back.new.self ≡ c.args.self.now
is_back c =
    let call : is_call c.in-Some.instruction.now.operation ≡ true =
    missing_is_call c.args.codes.now c.in-Some.instruction.now.operation (state_of (paths_of c.args.codes.now) c.begin.new.self)
    c.in-Err-Missing.path (is_missing c) in
    let unchanged : c.play.new.self ≡ c.begin.new.self =
    subst (λ e. WhereMissing {A = Unit {0}} (Err e) (c.play.new.self ≡ c.begin.new.self)) c.in-Err-Missing.field-0-is
    (c.in-Err-Missing.ensures.unchanged call) in
    c.go_back.ensures
    ∙ ap (λ (m : Processor). record m { newest = record m.newest { next = c.args.self.now.newest.next }; at = c.args.self.now.at })
    (unchanged ∙ c.begin.ensures.exact)

pub returns-in-Err-Missing-clause-row : goal.returns-in-Err-Missing-clause-row
returns-in-Err-Missing-clause-row c = (
  played_missing c.args.codes.now (state_of (paths_of c.args.codes.now) c.args.self.now)
      (state_of (paths_of c.args.codes.now) c.begin.new.self) c.in-Some.instruction.now c.in-Some.ensures.instruction
      (c.begin.ensures.row (paths_of c.args.codes.now)) c.in-Err-Missing.path (is_missing c)
      ∙ ap Missing (sym c.in-Err-Missing.path-is),
  ap (state_of (paths_of c.args.codes.now)) (is_back c),
)

pub returns-in-Err-Missing-clause-again : goal.returns-in-Err-Missing-clause-again
returns-in-Err-Missing-clause-again c = subst Sound (sym (is_back c)) c.requires.sound
