use Rattle.std.proofs.Common.{◌≡◌, ◌∙◌, ap, length, rules, subst, sym, true}
use Rattle.std.specs.Prelude.{nat_lt}
use Rattle.mp_files.specs.RunFiles.{RunFiles, file_at}
use Rattle.mp_files.specs.TextFiles as text
use Rattle.mp_machine.specs.FileRows as files
use Rattle.mp_machine.specs.FileStops.{stop_for}
use Rattle.mp_machine.specs.Outcomes.{Done}
use Rattle.mp_machine.specs.Shown.{Stops, state_of}
use Rattle.mp_machine.specs.States.{State}
use Rattle.mp_machine.proofs.MoveLemmas.{moved_gives, moved_stops}
use Rattle.mp_machine.proofs.processor.Processor.next_number.Goals as goal

pub returns-in-Ok-clause-row : goal.returns-in-Ok-clause-row
returns-in-Ok-clause-row c paths =
    let s : State = state_of paths c.args.self.now in
    let there : nat_lt c.in-Some.number (length c.args.self.now.files.files) ≡ true = search rules in
    ap (λ file. files.on_number file text.read_number s) c.in-Some.is
    ∙ moved_gives c.in-Some.number text.read_number s c.in-Ok.n (file_at c.read_int.new.self c.in-Some.number) there c.in-Ok.ensures.number
    ∙ ap (λ (f : RunFiles). Done c.in-Ok.n (record s { files = f.files; written = f.written })) (sym c.in-Ok.ensures.others)
    ∙ ap (λ n. Done n (record s { files = c.read_int.new.self.files; written = c.read_int.new.self.written })) (search rules)

pub returns-in-Err-clause-row : goal.returns-in-Err-clause-row
returns-in-Err-clause-row c paths =
    let s : State = state_of paths c.args.self.now in
    let there : nat_lt c.in-Some.number (length c.args.self.now.files.files) ≡ true = search rules in
    let after : RunFiles → State = λ f. record s { files = f.files; written = f.written } in
    subst (λ r. Stops r (files.on_number c.args.file text.read_number s) (after c.read_int.new.self)) (sym c.stop_of.ensures)
    (subst (λ f. Stops (stop_for c.in-Err.e) (files.on_number c.args.file text.read_number s) (after f)) (sym c.in-Err.ensures.unchanged)
    (subst (λ file. Stops (stop_for c.in-Err.e) (files.on_number file text.read_number s) s) (sym c.in-Some.is)
    (moved_stops c.in-Some.number text.read_number s c.in-Err.e there c.in-Err.ensures.fault)))
