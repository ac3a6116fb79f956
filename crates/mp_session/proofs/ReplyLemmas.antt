-- What the replies need of the texts and of the commands.
use Rattle.std.proofs.Common.{◌≡◌, ℕ, ◌<◌, ◌≤◌, Bool, true, false, List, [], ◌∷◌, length, Option, Some, None, refl, ap, subst, sym, ◌∙◌}
use Rattle.std.specs.List.{position_from}
use Rattle.std.proofs.lemmas.Bool.{le-leb, leb-true, lt-leb}
use Rattle.std.specs.Prelude.{Result, IfOk, nat_le}
use Rattle.std.proofs.lemmas.Result.{IfOk-weaker}
use Rattle.mp_base.specs.declared.memory.Memory.{Memory}
use Rattle.mp_base.specs.Text.{bytes_of, lines_of}
use Rattle.mp_base.proofs.Cuts.{lines_of-bytes_of}
use Rattle.mp_base.specs.declared.limits.TheConstants.{TEXT_LIMIT}
use Rattle.mp_text.specs.declared.errors.TextError.{TextError}
use Rattle.mp_text.specs.declared.errors.TextError.TheVariants as error
use Rattle.mp_text.specs.Refusals.{first_of, is_long, line_long, unless}
use Rattle.mp_text.specs.Versions.{IsText, stands, version_at}
use Rattle.mp_script.specs.Meaning.{wants_of}
use Rattle.mp_script.specs.declared.commands.Verb.TheVariants as verb
use Rattle.mp_session.specs.declared.state.State.{State}
use Rattle.mp_session.specs.Listing.{text_listing}
use Rattle.mp_session.specs.Replies.{limit_refusal, list_reply, list_transcript, listed, said}

-- the lines of a version's bytes are the version
pub version_lines : (text : List (List ℕ)) (bytes : List ℕ) → bytes ≡ bytes_of text → IsText text → lines_of bytes ≡ text
version_lines text bytes e t = ap lines_of e ∙ lines_of-bytes_of text t.lines

-- the bytes of a version end its last line
pub version_ended : (text : List (List ℕ)) (bytes : List ℕ) → bytes ≡ bytes_of text → IsText text → bytes ≡ bytes_of (lines_of bytes)
version_ended text bytes e t = e ∙ sym (ap bytes_of (version_lines text bytes e t))

-- a version has as few bytes as a text may have
pub few_bytes : (text : List (List ℕ)) (bytes : List ℕ) → bytes ≡ bytes_of text → IsText text → length bytes ≤ TEXT_LIMIT
few_bytes text bytes e t = subst (λ b. length b ≤ TEXT_LIMIT) (sym e) t.small

-- the listing of a version's bytes is the reply
pub lists : (state : State) (version : ℕ) (bytes : List ℕ) (answer : Result (List ℕ) Memory) → stands state.versions version ≡ true
    → bytes ≡ bytes_of (version_at state.versions version) → IsText (version_at state.versions version)
    → IfOk answer (λ listing. listing ≡ text_listing (lines_of bytes)) → IfOk answer (λ listing. list_reply state version ≡ record { state = state; bytes = listing })
lists state version bytes answer s e t = IfOk-weaker answer (λ listing. listing ≡ text_listing (lines_of bytes))
    (λ listing. list_reply state version ≡ record { state = state; bytes = listing })
    (λ listing l. rw s (ap (said state) (sym (l ∙ ap text_listing (version_lines (version_at state.versions version) bytes e t)))))

-- `sub` takes one line
pub sub_takes_one : (line column count : ℕ) → wants_of (verb.Sub line column count) ≡ 1
unfolding wants_of
sub_takes_one line column count = refl

-- the refusal of a text that breaks a limit, case by case
pub limit_long : (text : List (List ℕ)) (line : ℕ) → position_from is_long 1 text ≡ Some line → limit_refusal text ≡ Some (error.LineLong line)
unfolding limit_refusal
limit_long text line e = rw e refl

pub limit_large : (text : List (List ℕ)) (bytes : List ℕ) → bytes ≡ bytes_of text → position_from is_long 1 text ≡ None → TEXT_LIMIT < length bytes →
    limit_refusal text ≡ Some (error.TooLong (length bytes))
unfolding limit_refusal
limit_large text bytes b e h =
    let large : TEXT_LIMIT < length (bytes_of text) = subst (λ x. TEXT_LIMIT < length x) b h in
    rw (e, lt-leb (length (bytes_of text)) TEXT_LIMIT large) (ap (λ x. Some (error.TooLong (length x))) (sym b))

pub limit_kept : (text : List (List ℕ)) (bytes : List ℕ) → bytes ≡ bytes_of text → position_from is_long 1 text ≡ None → length bytes ≤ TEXT_LIMIT → limit_refusal text ≡ None
unfolding limit_refusal
limit_kept text bytes b e h =
    let small : length (bytes_of text) ≤ TEXT_LIMIT = subst (λ x. length x ≤ TEXT_LIMIT) b h in
    rw (e, le-leb (length (bytes_of text)) TEXT_LIMIT small) refl

none_refused : (long : Option TextError) (small : Bool) (refused : TextError) → first_of (long ∷ unless small refused ∷ []) ≡ None → small ≡ true
none_refused None true refused h = refl
none_refused None false refused h = absurd (let n : ⊥ = cc in n)
none_refused (Some error) small refused h = absurd (let n : ⊥ = cc in n)

-- and so has a text that is not refused
pub kept_bytes : (text : List (List ℕ)) (bytes : List ℕ) → bytes ≡ bytes_of text → limit_refusal text ≡ None → length bytes ≤ TEXT_LIMIT
unfolding limit_refusal
kept_bytes text bytes b h =
    let small = leb-true (length (bytes_of text)) TEXT_LIMIT
    (none_refused (line_long text) (nat_le (length (bytes_of text)) TEXT_LIMIT) (error.TooLong (length (bytes_of text))) h) in
    subst (λ x. length x ≤ TEXT_LIMIT) (sym b) small

-- what is written where the text has this refusal, or has none
pub listed_so : (text : List (List ℕ)) (refused : Option TextError) (bytes : List ℕ) → refused ≡ limit_refusal text → bytes ≡ listed text refused → bytes ≡ list_transcript text
unfolding list_transcript
listed_so text refused bytes e b = b ∙ ap (listed text) e
