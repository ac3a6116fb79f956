use Rattle.std.proofs.Common.{◌≡◌, ◌∙◌, ap, length, rules, sym, true}
use Rattle.std.specs.Prelude.{nat_lt}
use Rattle.mp_files.specs.RunFiles.{RunFiles}
use Rattle.mp_machine.specs.FileRows as files
use Rattle.mp_machine.specs.Outcomes.{Done}
use Rattle.mp_machine.specs.Shown.{state_of}
use Rattle.mp_machine.specs.States.{State}
use Rattle.mp_machine.proofs.WriteLemmas.{may_write, nothing_written}
use Rattle.mp_machine.proofs.processor.Processor.ask_to_write.Goals as goal

pub returns-in-Ok-clause-row : goal.returns-in-Ok-clause-row
returns-in-Ok-clause-row c paths =
    let s : State = state_of paths c.args.self.now in
    let there : nat_lt c.in-Some.number (length c.args.self.now.files.files) ≡ true = search rules in
    ap (λ file. files.must_write_on file s) c.in-Some.is
    ∙ may_write c.in-Some.number s _ there c.in-Ok.ensures.room
    ∙ ap (λ (f : RunFiles). Done tt (record s { files = f.files; written = f.written }))
    (sym (c.in-Ok.ensures.written ∙ nothing_written c.in-Some.number c.args.self.now.files))
