use Rattle.std.proofs.Common.{ap, sym, ◌∙◌, arith}
use Rattle.mp_files.specs.declared.stored_file.Place.TheVariants as place
use Rattle.mp_files.specs.TextFiles.{Gives, read_line}
use Rattle.mp_files.specs.Stored.{file_kept}
use Rattle.mp_files.proofs.FileLemmas.{read_line-kept, read_line_past-kept}
use Rattle.mp_files.proofs.stored_file.StoredFile.read_line.Goals.{then-end-len, else-end-len}
use Rattle.mp_files.proofs.stored_file.StoredFile.read_line.Goals as goal

pub returns-after-end-len-clause-moved : goal.returns-after-end-len-clause-moved
returns-after-end-len-clause-moved c =
    let xs = c.self.inside.items in
    ap read_line (sym (ap (file_kept xs) (sym c.in-Ok.ensures.reading) ∙ c.self.view_is))
    ∙ elim c.if-end-len.branch [
      | then-end-len w ↦
          read_line-kept xs c.in-Ok.at c.in-Ok.field-0-1 c.in-Ok.ensures.item c.end_of-end.result c.end_of-end.ensures
          ∙ ap (λ n. Gives tt (file_kept xs (place.Reading n))) (sym w.self-is)
      | else-end-len w ↦
          read_line_past-kept xs c.in-Ok.at c.in-Ok.field-0-1 c.in-Ok.ensures.item c.end_of-end.result c.end_of-end.ensures (omega (arith, w.if-end-len.false, c.len.ensures))
          ∙ ap (λ n. Gives tt (file_kept xs (place.Reading n))) (sym w.self-is)
    ]
