use Rattle.std.proofs.Common.{◌<◌, length, ap, subst, ◌∙◌, inl, inr, arith}
use Rattle.mp_base.specs.declared.limits.TheConstants.{SCRIPT_LIMIT}
use Rattle.mp_base.specs.Text.{lines_of}
use Rattle.mp_session.specs.Replies.{list_transcript}
use Rattle.mp_cli.proofs.TopLemmas.{ended_few, ended_lines, ended_stays, front_of}
use Rattle.mp_cli.proofs.top.list.Goals as goal

pub list_transcript-requires : goal.list_transcript-requires
list_transcript-requires g c =
    let taken = c.read_all.new.text.items in
    let short : length taken < SCRIPT_LIMIT = subst (λ n. n < SCRIPT_LIMIT) c.read_all.new.text.ok.0 c.in-End.ensures.ending.0 in
    record {
      few = ended_few taken c.as_slice.result.now (c.as_slice.ensures.value ∙ c.in-Ok.ensures.ok) short;
      ended = ended_stays c.read_all.new.text.items _ c.as_slice.result.now c.in-Ok.ensures.ok c.as_slice.ensures.value;
    }

pub returns-in_default-write_all-clause-met : goal.returns-in_default-write_all-clause-met
returns-in_default-write_all-clause-met g c =
    let taken = c.read_all.new.text.items in
    let short : length taken < SCRIPT_LIMIT = subst (λ n. n < SCRIPT_LIMIT) c.read_all.new.text.ok.0 c.in-End.ensures.ending.0 in
    let is = c.get.ensures ∙ c.in-Ok-list_transcript.ensures ∙ ap (λ t. list_transcript (lines_of t)) c.as_slice.ensures.value
    ∙ ap list_transcript (ended_lines taken _ c.in-Ok.ensures.ok) in
    let partly = c.in_default-write_all.ensures.err in
    record {
      taken = taken;
      written = partly.0;
      takes = c.in-End.ensures.taken;
      leaves = c.in-End.ensures.left;
      writes = partly.1;
      limit = omega arith;
      holds = (front_of partly.0 c.get.result.now _ is partly.2, inr c.in-End.ensures.ending.1);
      last_read = tt;
    }

pub returns-clause-met : goal.returns-clause-met
returns-clause-met g c =
    let taken = c.read_all.new.text.items in
    let short : length taken < SCRIPT_LIMIT = subst (λ n. n < SCRIPT_LIMIT) c.read_all.new.text.ok.0 c.in-End.ensures.ending.0 in
    let is = c.get.ensures ∙ c.in-Ok-list_transcript.ensures ∙ ap (λ t. list_transcript (lines_of t)) c.as_slice.ensures.value
    ∙ ap list_transcript (ended_lines taken _ c.in-Ok.ensures.ok) in
    record {
      taken = taken;
      written = c.get.result.now;
      takes = c.in-End.ensures.taken;
      leaves = c.in-End.ensures.left;
      writes = c.in-Ok-write_all.ensures.ok;
      limit = omega arith;
      holds = (is, inl (c.in-End.ensures.ending.1, short));
      last_read = tt;
    }
