use Rattle.std.proofs.Common.{length, ◌<◌, ap, sym, ◌∙◌, arith, Some}
use Rattle.std.proofs.lemmas.List.{get_or_read}
use Rattle.std.specs.Prelude.{slice_get, slice_index}
use Rattle.mp_files.specs.Stored.{is_marked, item_kept, marked_item}
use Rattle.mp_files.proofs.ItemLemmas.{get-kept, get_past-kept}
use Rattle.mp_files.proofs.item_list.ItemList.get.Goals as goal

pub returns-then-at-len-clause-item : goal.returns-then-at-len-clause-item
returns-then-at-len-clause-item c =
    let bytes = c.self.inside.bytes.items in
    let marks = c.self.inside.marks.items in
    let at = c.args.at in
    let within : at < length bytes = omega (arith, c.if-at-len.true, c.len.ensures, c.self.inside.bytes.ok.0) in
    ap Some (c.marked_item.ensures
    ∙ ap (λ b. marked_item b c.is_marked.result) (get_or_read bytes at c.index.result.now within c.index.ensures 0)
    ∙ ap (marked_item (slice_index bytes at)) (c.is_marked.ensures ∙ ap (λ m. is_marked m at) c.deref.ensures.value)
    ∙ ap (λ n. item_kept marks n (slice_index bytes at)) (omega arith))
    ∙ sym (get-kept marks 0 bytes at within)
    ∙ ap (λ l. slice_get l at) c.self.view_is

pub returns-else-at-len-clause-item : goal.returns-else-at-len-clause-item
returns-else-at-len-clause-item c =
    let bytes = c.self.inside.bytes.items in
    sym (get_past-kept c.self.inside.marks.items 0 bytes c.args.at (omega (arith, c.if-at-len.false, c.len.ensures, c.self.inside.bytes.ok.0)))
    ∙ ap (λ l. slice_get l c.args.at) c.self.view_is
