use Rattle.std.proofs.Common.{sym, ◌∙◌}
use Rattle.mp_base.specs.Text.{lines_of}
use Rattle.mp_session.proofs.ReplyLemmas.{limit_kept, limit_large, limit_long}
use Rattle.mp_session.proofs.texts.limit_refusal.Goals as goal

pub returns-in-Some : goal.returns-in-Some
returns-in-Some c = sym (limit_long (lines_of c.args.text.now) c.in-Some.line (sym c.long_line.ensures ∙ c.in-Some.is))

pub returns-then-text-gt-TEXT_LIMIT : goal.returns-then-text-gt-TEXT_LIMIT
returns-then-text-gt-TEXT_LIMIT c =
    sym (limit_large (lines_of c.args.text.now) c.args.text.now c.requires.ended
    (sym c.long_line.ensures ∙ c.in_default.is) c.if-text-gt-TEXT_LIMIT.true)

pub returns : goal.returns
returns c = sym (limit_kept (lines_of c.args.text.now) c.args.text.now c.requires.ended (sym c.long_line.ensures ∙ c.in_default.is) c.if-text-gt-TEXT_LIMIT.false)
