use Rattle.std.proofs.Common.{sym, ap, ◌∙◌}
use Rattle.std.specs.Option.{option_map}
use Rattle.std.specs.Prelude.{bytes_eq}
use Rattle.mp_types.proofs.RequiredLemmas.{lookup-rows}
use Rattle.mp_types.proofs.required.find_name.Goals as goal

pub returns-in_err-row : goal.returns-in_err-row
returns-in_err-row c =
    c.from_residual.ensures
    ∙ ap (option_map (λ row. row.1)) c.in_err-row.ensures
    ∙ sym (lookup-rows (bytes_eq c.args.name.now) (λ row. row.0.now) (λ row. row.1) c.args.rows.now)

pub returns : goal.returns
returns c =
    ap (option_map (λ row. row.1)) c.in_ok-row.ensures
    ∙ sym (lookup-rows (bytes_eq c.args.name.now) (λ row. row.0.now) (λ row. row.1) c.args.rows.now)
