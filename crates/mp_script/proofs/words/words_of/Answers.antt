use Rattle.std.proofs.Common.{arith, ap, sym, ◌≡◌, ◌++◌, [], ◌∙◌}
use Rattle.mp_script.specs.Words.{word_of}
use Rattle.mp_script.proofs.WordLemmas.{words_end, words_letter, words_separator}
use Rattle.mp_script.proofs.words.words_of.Goals as goal
use Rattle.mp_script.proofs.words.words_of.Goals.{then-is_separator+in_ok-end_word, else-is_separator+in_ok-push}

pub bytes-preserved : goal.bytes-preserved
bytes-preserved c =
    let words = c.bytes.words.items in
    let last = c.bytes.last.items in
    elim c.if-is_separator.branch [
      | then-is_separator+in_ok-end_word w ↦ (
          let next : c.if-is_separator.words.items ≡ words ++ word_of last = cc (w.words-is, w.in_ok-end_word.ensures, w.replace-word.ensures.value) in
          let begun : c.if-is_separator.last.items ≡ [] = cc (w.last-is, w.replace-word.ensures.after, w.new.ensures.items) in
          words_separator c.args.line.now c.bytes.byte-index words _ last _ (omega arith) (sym c.is_separator.ensures ∙ w.if-is_separator.true) c.bytes.invariant next begun)
      | else-is_separator+in_ok-push w ↦ words_letter c.args.line.now c.bytes.byte-index words _ last _ (omega arith) (sym c.is_separator.ensures
          ∙ w.if-is_separator.false) c.bytes.invariant (ap (λ v. v.items) w.words-is) (ap (λ v. v.items) w.last-is ∙ w.in_ok-push.ensures.items)
    ]

pub returns : goal.returns
returns c = c.in_ok-end_word-2.ensures ∙ words_end c.args.line.now c.bytes.byte-index c.bytes.words.items c.bytes.last.items (omega arith) c.bytes.invariant
