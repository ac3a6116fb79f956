use Rattle.std.proofs.Common.{ap, sym, ◌∙◌, bytes_eq}
use Rattle.std.specs.Option.{option_copied}
use Rattle.mp_tables.specs.Sizes.{has_name, slot_named}
use Rattle.mp_tables.proofs.LookupLemmas.{index_get}
use Rattle.mp_tables.proofs.slots.Slots.get.Goals as goal

pub returns-in-Some : goal.returns-in-Some
returns-in-Some c =
    let found = sym (ap option_copied c.in-Some.is) ∙ c.get.ensures.value in
    c.get-in-Some.ensures.value
    ∙ index_get bytes_eq (λ n s. has_name n s.name) c.self.invariant c.args.name.now _ found
    ∙ ap (slot_named c.args.name.now) c.self.view_is

pub returns-in-None : goal.returns-in-None
returns-in-None c =
    let found = sym (ap option_copied c.in-None.is) ∙ c.get.ensures.value in
    index_get bytes_eq (λ n s. has_name n s.name) c.self.invariant c.args.name.now _ found
    ∙ ap (slot_named c.args.name.now) c.self.view_is
