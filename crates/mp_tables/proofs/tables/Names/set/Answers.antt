use Rattle.std.proofs.Common.{◌≡◌, bytes_eq, sym, ap, ◌∙◌}
use Rattle.std.specs.Map.{set_value}
use Rattle.std.specs.Option.{option_copied_mut}
use Rattle.mp_tables.specs.DefiningPoints.{filled}
use Rattle.mp_tables.proofs.NamesLemmas.{filled_absent, set_value-filled}
use Rattle.mp_tables.proofs.tables.Names.set.Goals as goal
use Rattle.mp_tables.proofs.tables.Names.set.Goals.{in-Some, in-None}

pub returns : goal.returns
returns c =
    let name = c.args.name.now in
    let map = c.self.inside.map in
    elim c.match-get_mut.branch [
      | in-Some w ↦
          let found = sym c.get_mut.ensures.value ∙ ap option_copied_mut w.in-Some.is in
          ap (λ inside. inside.map.entries) w.self-inside-is ∙ (c.get_mut.follows.holds w.fill.new.self).0
          ∙ ap (set_value (bytes_eq name) map.entries) w.fill.ensures
          ∙ set_value-filled c.args.at c.args.decl name map.entries w.in-Some.entry.now c.get_mut.ensures.unique found
          ∙ ap (filled name c.args.at c.args.decl) c.self.view_is
      | in-None w ↦
          let absent = sym c.get_mut.ensures.value ∙ ap option_copied_mut w.in-None.is in
          ap (λ inside. inside.map.entries) w.self-inside-is ∙ ap (λ m. m.entries) c.get_mut.follows.holds-at-none
          ∙ sym (filled_absent c.args.at c.args.decl name map.entries absent)
          ∙ ap (filled name c.args.at c.args.decl) c.self.view_is
    ]
