use Rattle.std.proofs.Common.{ap, sym, ◌∙◌, find, nat_eq}
use Rattle.std.specs.Option.{option_copied}
use Rattle.mp_tables.proofs.LookupLemmas.{index_get}
use Rattle.mp_tables.proofs.shapes.Shapes.found.Goals as goal

pub returns-in-Some : goal.returns-in-Some
returns-in-Some c =
    let found = sym (ap option_copied c.in-Some.is) ∙ c.get.ensures.value in
    c.get-in-Some.ensures.value
    ∙ index_get nat_eq (λ at x. nat_eq x.at at) c.self.invariant c.args.at _ found
    ∙ ap (find (λ x. nat_eq x.at c.args.at)) c.self.view_is

pub returns-in-None : goal.returns-in-None
returns-in-None c =
    let found = sym (ap option_copied c.in-None.is) ∙ c.get.ensures.value in
    index_get nat_eq (λ at x. nat_eq x.at at) c.self.invariant c.args.at _ found
    ∙ ap (find (λ x. nat_eq x.at c.args.at)) c.self.view_is
