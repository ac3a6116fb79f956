use Rattle.std.proofs.Common.{◌≡◌, ◌++◌, length, ap, ◌∙◌, subst}
use Rattle.mp_files.specs.Items.{characters}
use Rattle.mp_files.specs.Stored.{AreMarked, items_kept}
use Rattle.mp_files.proofs.ItemLemmas.{characters_added}
use Rattle.mp_files.proofs.item_list.ItemList.add_characters.Goals as goal

pub returns-clause-ok : goal.returns-clause-ok
returns-clause-ok c =
    let marks = c.self.inside.marks.items in
    let new = c.mark_characters.new.marks.items in
    let bytes = c.self.inside.bytes.items in
    let more = c.args.bytes.now in
    let len : c.len.result ≡ length bytes = c.len.ensures ∙ c.make_room.new.bytes.ok.0 ∙ ap length c.make_room.ensures.items in
    let added : c.extend_from_slice.new.self.items ≡ c.make_room.new.bytes.items ++ more = rw c.unwrap.ensures at c.extend_from_slice.ensures.items in
    ap (λ l. items_kept new 0 l) (added ∙ ap (λ l. l ++ more) c.make_room.ensures.items)
    ∙ characters_added marks new bytes more (subst (λ n. AreMarked marks new n more) len c.in_ok-mark_characters.ensures.ok)
    ∙ ap (λ l. l ++ characters more) c.self.view_is
