use Rattle.std.proofs.Common.{◌≡◌, ap, sym, ◌∙◌, subst}
use Rattle.std.specs.Prelude.{nat_le}
use Rattle.mp_files.specs.TextFiles.{Gives, eof}
use Rattle.mp_files.specs.Stored.{file_kept}
use Rattle.mp_files.proofs.FileLemmas.{eof-kept}
use Rattle.mp_files.proofs.stored_file.StoredFile.eof.Goals as goal

pub returns-in-Reading-clause-value : goal.returns-in-Reading-clause-value
returns-in-Reading-clause-value c =
    subst (λ f. eof f ≡ Gives (nat_le c.len.result c.in-Reading.at) f) (ap (file_kept c.self.inside.items) (sym c.in-Reading.is) ∙ c.self.view_is)
    (rw c.len.ensures (eof-kept c.self.inside.items c.in-Reading.at))
