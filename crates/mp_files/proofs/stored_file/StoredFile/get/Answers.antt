use Rattle.std.proofs.Common.{rules, ap, sym, ◌∙◌}
use Rattle.mp_files.specs.TextFiles.{get}
use Rattle.mp_files.specs.Stored.{file_kept}
use Rattle.mp_files.proofs.FileLemmas.{get-kept}
use Rattle.mp_files.proofs.stored_file.StoredFile.get.Goals as goal

pub overflow_add-self : goal.overflow_add-self
overflow_add-self c = let fits = c.in-Ok.ensures.more in search rules

pub returns-in-Ok-clause-moved : goal.returns-in-Ok-clause-moved
returns-in-Ok-clause-moved c =
    ap get (sym (ap (file_kept c.self.inside.items) (sym c.in-Ok.ensures.reading) ∙ c.self.view_is))
    ∙ get-kept c.self.inside.items c.in-Ok.at c.in-Ok.field-0-1 c.in-Ok.ensures.item
