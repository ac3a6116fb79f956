use Rattle.std.proofs.Common.{◌≡◌, ◌∙◌, ◌∷◌, [], None, ap, subst, sym}
use Rattle.std.specs.Arc.{arc_value}
use Rattle.mp_machine.specs.Machines.{IsInside, LoadedMachine, machine_in, machine_seen}
use Rattle.mp_machine.specs.States.{code_of}
use Rattle.mp_machine.proofs.LoadLemmas.{inside_more, machine_same}
use Rattle.mp_machine.proofs.machine.Machine.load.Goals as goal

pub invariant_of-self-2 : goal.invariant_of-self-2
invariant_of-self-2 c =
    let none : code_of c.self.inside.codes c.args.path ≡ None = ap (λ (m : LoadedMachine). code_of m.codes c.args.path) c.self.view_is ∙ c.requires in
    subst (λ codes. IsInside codes c.self.inside.processor c.self.inside.over) (sym c.in-Ok.ensures.ok)
    (inside_more c.self.inside.codes (record { path = c.args.path; code = arc_value c.args.code }) c.self.inside.processor
    c.self.inside.over none c.self.invariant)

pub returns-clause-machine : goal.returns-clause-machine
returns-clause-machine c =
    ap (λ codes. machine_in (machine_seen codes c.self.inside.processor c.self.inside.over)) c.in-Ok.ensures.ok
    ∙ machine_same c.self.inside.codes (record { path = c.args.path; code = arc_value c.args.code } ∷
    []) c.self.inside.processor c.self.inside.over
    c.self.invariant.loaded
    ∙ ap machine_in c.self.view_is
