use Rattle.std.proofs.Common.{◌++◌, ap, ◌∙◌}
use Rattle.mp_files.specs.Items.{items_of}
use Rattle.mp_files.specs.Stored.{items_kept}
use Rattle.mp_files.proofs.ItemLemmas.{text_added}
use Rattle.mp_files.proofs.item_list.ItemList.add_text.Goals as goal

pub returns-clause-ok : goal.returns-clause-ok
returns-clause-ok c =
    ap (λ l. items_kept c.self.inside.marks.items 0 l) (c.in_ok-extend_from_slice.ensures.items ∙ ap (λ l. l ++ c.args.bytes.now) c.make_room.ensures.items)
    ∙ text_added c.self.inside.marks.items c.self.inside.bytes.items c.args.bytes.now c.self.invariant
    ∙ ap (λ l. l ++ items_of c.args.bytes.now) c.self.view_is
