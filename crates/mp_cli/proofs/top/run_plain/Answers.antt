use Rattle.std.proofs.Common.{ap, sym, ◌∙◌}
use Rattle.mp_cli.specs.Top.{read_failed_at, write_failed_at}
use Rattle.mp_cli.proofs.ScriptLemmas.{completes_serial}
use Rattle.mp_cli.proofs.TopLemmas.{met_nothing}
use Rattle.mp_cli.proofs.top.run_plain.Goals as goal

pub returns-in-None-clause-met : goal.returns-in-None-clause-met
returns-in-None-clause-met g c = rw (sym c.form_of.ensures ∙ c.in-None.is) (met_nothing _ _ _)

pub returns-in-Some-Serial-clause-complete : goal.returns-in-Some-Serial-clause-complete
returns-in-Some-Serial-clause-complete g c =
    rw (sym c.form_of.ensures ∙ c.in-Some-Serial.is, c.in-Some-Serial.field-0-is)
    (λ r w. completes_serial c.serial.result _ _ _ _ _ _ c.serial.ensures.met (λ e. r (c.serial.ensures.source.cause (ap read_failed_at e)))
    (λ e. w (c.serial.ensures.sink.cause (ap write_failed_at e))))
