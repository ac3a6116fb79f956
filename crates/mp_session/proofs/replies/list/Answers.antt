use Rattle.std.proofs.Common.{◌∙◌}
use Rattle.mp_text.specs.Versions.{version_at}
use Rattle.mp_session.proofs.ReplyLemmas.{few_bytes, lists, version_ended}
use Rattle.mp_session.proofs.replies.list.Goals as goal

-- src/replies.rt:99:22
pub text_listing-requires : goal.text_listing-requires
text_listing-requires c = record {
  few = few_bytes (version_at c.args.state.now.versions c.args.version) c.get.result.now
      (c.get.ensures ∙ c.in-Ok.ensures.bytes) c.in-Ok.ensures.text;
  ended = version_ended (version_at c.args.state.now.versions c.args.version) c.get.result.now
      (c.get.ensures ∙ c.in-Ok.ensures.bytes) c.in-Ok.ensures.text;
}

-- src/replies.rt:95:1
pub returns-in-Ok : goal.returns-in-Ok
returns-in-Ok c = lists c.args.state.now c.args.version c.get.result.now c.text_listing.result c.in-Ok.ensures.stands
    (c.get.ensures ∙ c.in-Ok.ensures.bytes) c.in-Ok.ensures.text c.text_listing.ensures
