use Rattle.std.proofs.Common.{◌≡◌, Some, None, sym, ◌∙◌}
use Rattle.std.proofs.lemmas.Result.{IfOk-weaker}
use Rattle.mp_base.specs.Text.{lines_of}
use Rattle.mp_session.specs.Listing.{text_listing}
use Rattle.mp_session.specs.Replies.{list_transcript, refusal_line}
use Rattle.mp_session.proofs.ReplyLemmas.{kept_bytes, listed_so}
use Rattle.mp_session.proofs.replies.list_transcript.Goals as goal

pub text_listing-requires-clause-few : goal.text_listing-requires-clause-few
text_listing-requires-clause-few c = kept_bytes (lines_of c.args.text.now) c.args.text.now c.requires.ended (sym c.limit_refusal.ensures ∙ c.in-None.is)

pub returns-in-None : goal.returns-in-None
returns-in-None c =
    let text = lines_of c.args.text.now in
    IfOk-weaker c.text_listing.result (λ bytes. bytes ≡ text_listing text) (λ bytes. bytes ≡ list_transcript text)
    (λ bytes. listed_so text None bytes (sym c.in-None.is ∙ c.limit_refusal.ensures)) c.text_listing.ensures

pub returns-in-Some : goal.returns-in-Some
returns-in-Some c =
    let text = lines_of c.args.text.now in
    IfOk-weaker c.refusal_line.result (λ bytes. bytes ≡ refusal_line c.in-Some.error 0) (λ bytes. bytes ≡ list_transcript text)
    (λ bytes. listed_so text (Some c.in-Some.error) bytes (sym c.in-Some.is ∙ c.limit_refusal.ensures)) c.refusal_line.ensures
