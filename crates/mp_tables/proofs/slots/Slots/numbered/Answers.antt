use Rattle.std.proofs.Common.{ap, sym, ◌∙◌}
use Rattle.std.specs.Option.{option_copied, option_map}
use Rattle.mp_tables.specs.Sizes.{numbered_slot}
use Rattle.mp_tables.proofs.LookupLemmas.{index_numbered}
use Rattle.mp_tables.proofs.slots.Slots.numbered.Goals as goal

pub returns-in-Some-get : goal.returns-in-Some-get
returns-in-Some-get c =
    let found = sym (ap option_copied c.in-Some.is) ∙ c.get.ensures.value in
    let slot = sym (ap option_copied c.in-Some-get.is) ∙ c.get-in-Some.ensures.value in
    ap (option_map (λ s. (c.in-Some.number.now, s))) slot ∙ index_numbered c.self.invariant c.args.name.now _ found
    ∙ ap (numbered_slot c.args.name.now 0) c.self.view_is

pub returns-in-None-get : goal.returns-in-None-get
returns-in-None-get c =
    let found = sym (ap option_copied c.in-Some.is) ∙ c.get.ensures.value in
    let slot = sym (ap option_copied c.in-None-get.is) ∙ c.get-in-Some.ensures.value in
    ap (option_map (λ s. (c.in-Some.number.now, s))) slot ∙ index_numbered c.self.invariant c.args.name.now _ found
    ∙ ap (numbered_slot c.args.name.now 0) c.self.view_is

pub returns-in-None : goal.returns-in-None
returns-in-None c =
    let found = sym (ap option_copied c.in-None.is) ∙ c.get.ensures.value in
    index_numbered c.self.invariant c.args.name.now _ found ∙ ap (numbered_slot c.args.name.now 0) c.self.view_is
