use Rattle.std.proofs.Common.{not, ap, sym, ◌∙◌, bytes_eq}
use Rattle.indexmap.proofs.CallerLemmas.{insert_entry-new}
use Rattle.mp_tables.specs.DefiningPoints.{is_known, with_point}
use Rattle.mp_tables.proofs.NamesLemmas.{lookup_unknown, with_point_new}
use Rattle.mp_tables.proofs.tables.Names.insert.Goals as goal

pub returns-clause-added : goal.returns-clause-added
returns-clause-added c = sym (ap not (sym c.has.ensures ∙ c.if-has.false))

pub returns-clause-names : goal.returns-clause-names
returns-clause-names c =
    let new = sym c.has.ensures ∙ c.if-has.false in
    let map = c.self.inside.map in
    let free = lookup_unknown c.args.name map.entries (ap (is_known c.args.name) c.self.view_is ∙ new) in
    c.in_ok-insert.ensures.entries ∙ insert_entry-new bytes_eq map c.args.name c.args.entry free
    ∙ sym (with_point_new map.entries c.args.name c.args.entry (ap (is_known c.args.name) c.self.view_is ∙ new))
    ∙ ap (λ known. with_point known (c.args.name, c.args.entry)) c.self.view_is
