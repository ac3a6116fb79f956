use Rattle.std.proofs.Common.{arith, sym, ◌∙◌}
use Rattle.mp_script.proofs.WordLemmas.{content_none, content_take_letter, content_take_separator}
use Rattle.mp_script.proofs.words.content_len.Goals as goal
use Rattle.mp_script.proofs.words.content_len.Goals.{then-not-is_separator, else-not-is_separator}

pub bytes-init : goal.bytes-init
bytes-init c = record { within = omega arith; same = sym content_none }

pub bytes-preserved : goal.bytes-preserved
bytes-preserved c =
    let line = c.args.line.now in
    elim c.if-not-is_separator.branch [
      | then-not-is_separator w ↦ record {
        within = omega (arith, w.end-is);
        same = content_take_letter line c.bytes.at _ (omega arith) (sym c.is_separator.ensures ∙ w.if-not-is_separator.true) w.end-is;
      }
      | else-not-is_separator w ↦ record {
        within = omega (arith, w.end-is, c.bytes.invariant.within);
        same = content_take_separator line c.bytes.at _ (omega arith) (sym c.is_separator.ensures ∙ w.if-not-is_separator.false) (w.end-is ∙ c.bytes.invariant.same);
      }
    ]
