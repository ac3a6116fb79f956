use Rattle.std.proofs.Common.{◌≡◌, ap, sym, ◌∙◌, subst}
use Rattle.mp_files.specs.TextFiles.{Gives, eoln}
use Rattle.mp_files.specs.Stored.{file_kept}
use Rattle.mp_files.proofs.FileLemmas.{eoln-kept}
use Rattle.mp_files.proofs.stored_file.StoredFile.eoln.Goals as goal

pub returns-in-Ok-clause-value : goal.returns-in-Ok-clause-value
returns-in-Ok-clause-value c =
    subst (λ f. eoln f ≡ Gives c.is_line_end.result f) (ap (file_kept c.self.inside.items) (sym c.in-Ok.ensures.reading) ∙ c.self.view_is)
    (rw c.is_line_end.ensures (eoln-kept c.self.inside.items c.in-Ok.field-0-0 c.in-Ok.item c.in-Ok.ensures.item))
