use Rattle.std.proofs.Common.{length, ap, sym, ◌∙◌}
use Rattle.mp_files.proofs.ItemLemmas.{length-kept}
use Rattle.mp_files.proofs.item_list.ItemList.len.Goals as goal

pub returns : goal.returns
returns c = c.len.ensures ∙ c.self.inside.bytes.ok.0 ∙ sym (length-kept c.self.inside.marks.items 0 c.self.inside.bytes.items) ∙ ap length c.self.view_is
