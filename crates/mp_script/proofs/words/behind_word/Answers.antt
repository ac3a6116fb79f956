use Rattle.mp_script.proofs.WordLemmas.{behind_at}
use Rattle.mp_script.proofs.words.behind_word.Goals as goal

pub returns-clause-value : goal.returns-clause-value
returns-clause-value c = behind_at c.args.line.now _ _ _ _ c.separators_end.ensures.value c.word_end.ensures.value c.separators_end-start.ensures.value c.content_len.ensures.value
