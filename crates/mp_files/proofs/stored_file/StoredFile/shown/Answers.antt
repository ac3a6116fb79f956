use Rattle.std.proofs.Common.{ap, sym, ◌∙◌, Some}
use Rattle.mp_files.specs.TextFiles.{shown}
use Rattle.mp_files.specs.Stored.{file_kept}
use Rattle.mp_files.proofs.FileLemmas.{shown-kept, shown_past-kept}
use Rattle.mp_files.proofs.stored_file.StoredFile.shown.Goals as goal

pub returns-in-Some-Character : goal.returns-in-Some-Character
returns-in-Some-Character c =
    sym (shown-kept c.self.inside.items c.in-Reading.at _ (sym c.in-Some-Character.ensures.item ∙ ap Some c.in-Some-Character.field-0-is))
    ∙ ap shown (ap (file_kept c.self.inside.items) (sym c.in-Reading.is) ∙ c.self.view_is)

pub returns-in-Some-LineEnd : goal.returns-in-Some-LineEnd
returns-in-Some-LineEnd c =
    sym (shown-kept c.self.inside.items c.in-Reading.at _ (sym c.in-Some-LineEnd.ensures.item ∙ ap Some c.in-Some-LineEnd.field-0-is))
    ∙ ap shown (ap (file_kept c.self.inside.items) (sym c.in-Reading.is) ∙ c.self.view_is)

pub returns-in-None : goal.returns-in-None
returns-in-None c =
    sym (shown_past-kept c.self.inside.items c.in-Reading.at (sym c.in-None.ensures.item))
    ∙ ap shown (ap (file_kept c.self.inside.items) (sym c.in-Reading.is) ∙ c.self.view_is)
