use Rattle.std.proofs.Common.{ap, ◌∙◌}
use Rattle.mp_script.specs.Meaning.{wants_of}
use Rattle.mp_session.proofs.ReplyLemmas.{sub_takes_one}
use Rattle.mp_session.proofs.replies.reply.Goals as goal

-- src/replies.rt:174:14
pub sub-requires : goal.sub-requires
sub-requires c = c.requires.whole ∙ c.requires.verb ∙ ap wants_of c.in-Sub.is ∙ sub_takes_one c.in-Sub.line c.in-Sub.column c.in-Sub.count
