use Rattle.std.proofs.Common.{ap, sym, ◌∙◌}
use Rattle.mp_files.specs.RunFiles.{fault_of}
use Rattle.mp_files.specs.TextFiles.{Gives}
use Rattle.mp_files.specs.Stored.{file_kept, item_refusal}
use Rattle.mp_files.specs.declared.stored_file.Place.TheVariants as place
use Rattle.mp_files.proofs.FileLemmas.{reads_none}
use Rattle.mp_files.proofs.stored_file.next_item.Goals as goal

pub returns-in-None-clause-refused : goal.returns-in-None-clause-refused
returns-in-None-clause-refused c =
    let xs = c.args.items.now in
    ap (λ p. item_refusal (file_kept xs p)) c.in-Reading.is
    ∙ ap fault_of (reads_none xs c.in-Reading.at (Gives tt (file_kept xs (place.Reading c.in-Reading.at))) (sym c.in-None.ensures.item))
