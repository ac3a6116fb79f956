use Rattle.std.proofs.Common.{ap, sym, ◌∙◌}
use Rattle.mp_files.specs.Items.{bytes_of}
use Rattle.mp_files.proofs.ItemLemmas.{bytes-kept}
use Rattle.mp_files.proofs.item_list.ItemList.bytes.Goals as goal

pub returns : goal.returns
returns c = c.as_slice.ensures.value ∙ sym (bytes-kept c.self.inside.marks.items 0 c.self.inside.bytes.items) ∙ ap bytes_of c.self.view_is
