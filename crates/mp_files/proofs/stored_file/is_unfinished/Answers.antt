use Rattle.std.proofs.Common.{◌-◌, ap, sym, ◌∙◌, arith, not}
use Rattle.std.specs.Prelude.{slice_get}
use Rattle.mp_files.proofs.FileLemmas.{unfinished_last}
use Rattle.mp_files.proofs.ReadingLemmas.{past_end}
use Rattle.mp_files.proofs.stored_file.is_unfinished.Goals as goal

pub returns-in-Some : goal.returns-in-Some
returns-in-Some c =
    let last = ap (λ n. slice_get c.args.items.now (n - 1)) (sym c.len-len.ensures) ∙ sym c.in-Some.ensures.item in
    ap not c.is_line_end.ensures ∙ sym (unfinished_last c.args.items.now c.in-Some.item last)

pub returns-in-None : goal.returns-in-None
returns-in-None c =
    let past = past_end c.args.items.now (c.len-len.result - 1) (sym c.in-None.ensures.item) in
    absurd (omega (arith, past, c.len-len.ensures, c.if-len-eq0.false))
