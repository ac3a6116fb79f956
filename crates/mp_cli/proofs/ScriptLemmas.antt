-- Each way in which the loop goes on or ends, and the clause that it gives.
use Rattle.std.proofs.Common.{◌≡◌, ◌≢◌, ◌≤◌, ◌+◌, ℕ, Option, None, Some, is_none, true, false, List, [], ◌∷◌, ◌++◌, length, refl, ap, subst, sym, ◌∙◌}
use Rattle.std.proofs.Common.{append_assoc, arith, ⊎_elim, inl, inr}
use Rattle.std.proofs.lemmas.List.{append-nil, length-append}
use Rattle.mp_edge.specs.Told.{Grows, IsFront}
use Rattle.mp_edge.proofs.ToldLemmas.{grows_more, consumes_more}
use Rattle.std.specs.Io.KnownBytes.{Consumes, IsAtEnd}
use Rattle.mp_base.specs.Text.{Cut, cut, bytes_of}
use Rattle.mp_base.proofs.Cuts.{cut-append, joined_cut}
use Rattle.mp_session.specs.Replies.{start}
use Rattle.mp_session.specs.Transcript.{Answered, so_far, transcript, script_ended, Quits}
use Rattle.mp_session.specs.Lines.{Stand, Ran, step, after, from, closing, idle, ran_so_far}
use Rattle.mp_session.proofs.Runs.{ran_append, quit_is_all, ended_bare, ended_line, after_none}
use Rattle.mp_session.proofs.Told.{answers_alike, quit_stays, quits_more, so_far_begins}
use Rattle.mp_base.specs.declared.limits.TheConstants.{SCRIPT_LIMIT}
use Rattle.mp_cli.specs.declared.forms.Form.TheVariants as form
use Rattle.mp_cli.specs.declared.status.Status.{Status}
use Rattle.mp_cli.specs.declared.status.Status.TheVariants as status
use Rattle.mp_cli.specs.Top.{Completes, IsWithinLimit, LastRead, Met, QuitsInTime}
use Rattle.mp_cli.specs.Talk.{last_bytes}

-- the bytes taken and written so far have led to where a script stands, and this is the part after the last line end
pub record Reached (t w rest : List ℕ) (stand : Stand) : Type 0 where
  pub run : ran_so_far t ≡ record { bytes = w; now = Some stand }
  pub left : (cut t).rest ≡ rest

pub reached_none : Reached [] [] [] (idle start)
unfolding ran_so_far cut
reached_none = record { run = after_none (from (idle start)); left = refl }

-- what a piece leads to
abbrev pub led : Stand → List ℕ → List ℕ → Ran
led stand rest piece = after (from stand) (cut (rest ++ piece)).whole

ran_more : (t w rest piece : List ℕ) (stand : Stand) → Reached t w rest stand →
    ran_so_far (t ++ piece) ≡ record { bytes = w ++ (led stand rest piece).bytes; now = (led stand rest piece).now }
ran_more t w rest piece stand h =
    ran_append t piece w stand h.run ∙ ap (λ r. let x : Ran = record { bytes = w ++ (led stand r piece).bytes; now = (led stand r piece).now } in x) h.left

pub reached_more : (t w rest piece : List ℕ) (stand next : Stand) {after_rest : List ℕ} → Reached t w rest stand →
    (led stand rest piece).now ≡ Some next → after_rest ≡ (cut (rest ++ piece)).rest →
    Reached (t ++ piece) (w ++ (led stand rest piece).bytes) after_rest next
reached_more t w rest piece stand next h n r = record {
  run = ran_more t w rest piece stand h ∙ ap (λ x. let z : Ran = record { bytes = w ++ (led stand rest piece).bytes; now = x } in z) n;
  left = ap (λ (c : Cut). c.rest) (cut-append t piece) ∙ ap (λ l. (cut (l ++ piece)).rest) h.left ∙ sym r;
}

pub quit_more : (t w rest piece : List ℕ) (stand : Stand) → Reached t w rest stand → (led stand rest piece).now ≡ None →
    ran_so_far (t ++ piece) ≡ record { bytes = w ++ (led stand rest piece).bytes; now = None }
quit_more t w rest piece stand h n = ran_more t w rest piece stand h ∙ ap (λ x. let z : Ran = record { bytes = w ++ (led stand rest piece).bytes; now = x } in z) n

pub front_more : (w f all : List ℕ) → IsFront f all → IsFront (w ++ f) (w ++ all)
front_more w f all p = (p.0, ap (λ x. w ++ x) p.1 ∙ sym (append_assoc w f p.0))

front_trans : (a b c : List ℕ) → IsFront a b → IsFront b c → IsFront a c
front_trans a b c p q = (p.0 ++ q.0, q.1 ∙ ap (λ x. x ++ q.0) p.1 ∙ append_assoc a p.0 q.0)

-- what is answered so far, as a run tells it
bytes_so_far : (t : List ℕ) → (ran_so_far t).bytes ≡ so_far t
bytes_so_far t = ap (λ (a : Answered). a.bytes) (answers_alike t).so_far

pub written_so_far : (t w rest : List ℕ) (stand : Stand) → Reached t w rest stand → w ≡ so_far t
written_so_far t w rest stand h = sym (ap (λ (r : Ran). r.bytes) h.run) ∙ bytes_so_far t

pub front_so_far : (t w rest : List ℕ) (stand : Stand) → Reached t w rest stand → IsFront w (so_far t)
front_so_far t w rest stand h = ([], sym (written_so_far t w rest stand h) ∙ sym (append-nil w))

pub quit_all : (t bytes : List ℕ) → ran_so_far t ≡ record { bytes = bytes; now = None } → bytes ≡ transcript t
quit_all t bytes e = sym (quit_is_all t bytes e) ∙ (answers_alike t).whole

pub quits : (t bytes : List ℕ) → ran_so_far t ≡ record { bytes = bytes; now = None } → Quits t
quits t bytes e = sym (ap (λ (a : Answered). a.quit) (answers_alike t).so_far) ∙ ap (λ (r : Ran). is_none r.now) e

pub front_all : (t w : List ℕ) → IsFront w (so_far t) → IsFront w (transcript t)
front_all t w p = front_trans w (so_far t) (transcript t) p (so_far_begins t)

pub part_more : (t w rest piece f : List ℕ) (stand : Stand) → Reached t w rest stand → IsFront f (led stand rest piece).bytes → IsFront (w ++ f) (so_far (t ++ piece))
part_more t w rest piece f stand h p =
    let q = front_more w f (led stand rest piece).bytes p in
    (q.0, sym (bytes_so_far (t ++ piece)) ∙ ap (λ (r : Ran). r.bytes) (ran_more t w rest piece stand h) ∙ q.1)

pub ended : (t w rest : List ℕ) (stand : Stand) → Reached t w rest stand → transcript t ≡ w ++ last_bytes stand rest
ended t w [] stand h = sym (answers_alike t).whole ∙ ended_bare t w stand h.run h.left
ended t w (b ∷ rest) stand h = sym (answers_alike t).whole ∙ ended_line t w (b ∷ rest) stand h.run h.left (λ e. cc)

-- at the end of the script
pub part_end : (t w rest f : List ℕ) (stand : Stand) → Reached t w rest stand → IsFront f (last_bytes stand rest) → IsFront (w ++ f) (transcript t)
part_end t w rest f stand h p =
    let q = front_more w f (last_bytes stand rest) p in
    (q.0, ended t w rest stand h ∙ q.1)

pub grows_back : (a b : Option (List ℕ)) (t : List ℕ) → Grows a b t → (c : Option (List ℕ)) → Grows b c [] → Grows a c t
grows_back a b t h c k = rw append-nil at (grows_more a b c t [] h k)

pub no_quit : (t w rest : List ℕ) (stand : Stand) → Reached t w rest stand → Quits t → ⊥
no_quit t w rest stand h q = let e : false ≡ true = sym (ap (λ (r : Ran). is_none r.now) h.run) ∙ ap (λ (a : Answered). a.quit) (answers_alike t).so_far ∙ q in absurd (cc)

-- the last read gave this piece, and then these bytes were written
pub last_read : (t w rest piece more : List ℕ) (stand : Stand) → Reached t w rest stand → length piece ≤ 4096 → LastRead (t ++ piece) (w ++ more)
last_read t w rest piece more stand h short = record {
  before = t;
  given = piece;
  all = refl;
  one_read = short;
  no_quit = no_quit t w rest stand h;
  answered = (more, ap (λ x. x ++ more) (written_so_far t w rest stand h));
}

-- nothing was written of what the last read gave
pub last_unanswered : (t w rest piece : List ℕ) (stand : Stand) → Reached t w rest stand → length piece ≤ 4096 → LastRead (t ++ piece) w
last_unanswered t w rest piece stand h short = rw append-nil at (last_read t w rest piece [] stand h short)

-- the last read gave nothing
pub last_empty : (t w rest more : List ℕ) (stand : Stand) → Reached t w rest stand → LastRead t (w ++ more)
last_empty t w rest more stand h = subst (λ x. LastRead x (w ++ more)) (append-nil t) (last_read t w rest [] more stand h (omega arith))

-- the last read gave nothing, and nothing was written
pub last_nothing : (t w rest : List ℕ) (stand : Stand) → Reached t w rest stand → LastRead t w
last_nothing t w rest stand h = subst (LastRead t) (append-nil w) (last_empty t w rest [] stand h)

-- the last line of a script, of whose reply or closing a part was written
pub part_line : (stand : Stand) (rest line f : List ℕ) → line ≡ rest → rest ≢ [] → IsFront f (step stand line).bytes → IsFront f (last_bytes stand rest)
part_line stand [] line f e ne p = absurd (ne refl)
part_line stand (b ∷ rest) line f e ne p =
    let r = step stand (b ∷ rest) in
    let q : IsFront f r.bytes = (p.0, ap (λ x. (step stand x).bytes) (sym e) ∙ p.1) in
    (q.0 ++ closing script_ended r.now, ap (λ x. x ++ closing script_ended r.now) q.1 ∙ append_assoc f q.0 (closing script_ended r.now))

pub part_closing : (stand next : Stand) (rest line f : List ℕ) → line ≡ rest → rest ≢ [] → (step stand line).now ≡ Some next →
    IsFront f (closing script_ended (Some next)) → IsFront ((step stand line).bytes ++ f) (last_bytes stand rest)
part_closing stand next [] line f e ne n p = absurd (ne refl)
part_closing stand next (b ∷ rest) line f e ne n p =
    let q = front_more (step stand line).bytes f (closing script_ended (Some next)) p in
    (q.0, ap (λ x. (step stand x).bytes ++ closing script_ended (step stand x).now) (sym e) ∙ ap (λ x. (step stand line).bytes ++ closing script_ended x) n ∙ q.1)

pub none_written : IsFront [] (so_far [])
none_written = front_so_far [] [] [] (idle start) reached_none

pub nothing_read : LastRead [] []
nothing_read = last_nothing [] [] [] (idle start) reached_none

-- the told bytes stay as they are where nothing is added
pub consumes_back : (a b : Option (List ℕ)) (t : List ℕ) → Consumes a b t → (c : Option (List ℕ)) → Consumes b c [] → Consumes a c t
consumes_back a b t h c k = rw append-nil at (consumes_more a b c t [] h k)

joined_long : (text : List (List ℕ)) → length text ≤ length (bytes_of text)
unfolding bytes_of
joined_long [] = omega arith
joined_long (line ∷ text) = omega (arith, length-append line (10 ∷ bytes_of text), joined_long text)

-- each line that is ended takes a byte of its own
pub cut_count : (bytes : List ℕ) → length (cut bytes).whole + length (cut bytes).rest ≤ length bytes
cut_count bytes = omega (arith, ap length (joined_cut bytes), length-append (bytes_of (cut bytes).whole) (cut bytes).rest, joined_long (cut bytes).whole)

-- what is left of bytes of which some were taken
rest_of : (left : Option (List ℕ)) (bytes taken : List ℕ) → Consumes (Some bytes) left taken → (rest : List ℕ) × (bytes ≡ taken ++ rest) × (IsAtEnd left → rest ≡ [])
rest_of None bytes taken c = absurd c
rest_of (Some rest) bytes taken c = (rest, c, λ h. h)

-- of two fronts of a list the shorter is a front of the longer
front_of_front : (a b r s : List ℕ) → a ++ r ≡ b ++ s → length a ≤ length b → IsFront a b
front_of_front [] b r s e h = (b, refl)
front_of_front (x ∷ a) [] r s e h = absurd (omega arith)
front_of_front (x ∷ a) (y ∷ b) r s e h =
    let head : x ≡ y = cc in
    let tail : a ++ r ≡ b ++ s = cc in
    let p = front_of_front a b r s tail (omega arith) in
    (p.0, ap (λ z. z ∷ b) (sym head) ∙ ap (λ l. x ∷ l) p.1)

-- where as many bytes were taken as a script may have and no `quit` is among them, the bytes are not within the limit
past_limit : (bytes taken rest : List ℕ) → bytes ≡ taken ++ rest → length taken ≡ SCRIPT_LIMIT → ¬ Quits taken → IsWithinLimit form.Serial bytes → ⊥
past_limit bytes taken rest all full none within = ⊎_elim (λ few. let n = ap length all ∙ length-append taken rest in absurd (omega (arith, n, few, full))) late within
  where
    late : QuitsInTime bytes → ⊥
    late q =
        let p = front_of_front q.front taken q.first.0 rest (sym q.first.1 ∙ all) (omega (arith, q.few, full)) in
        none (subst Quits (sym p.1) (quits_more q.front p.0 q.quits))

-- the whole answer to the bytes that were left before the call, where they are known
pub completes_serial : (ended : Status) (taken_before taken_after left_before left_after written_before written_after : Option (List ℕ))
    → Met (Some form.Serial) ended taken_before taken_after left_before left_after written_before written_after
    → ¬ (ended ≡ status.ReadFault) → ¬ (ended ≡ status.WriteFault) → Completes (Some form.Serial) ended left_before written_before written_after
completes_serial status.Words tb ta lb la wb wa m r w = absurd m.holds
completes_serial status.ReadFault tb ta lb la wb wa m r w = absurd (r refl)
completes_serial status.WriteFault tb ta lb la wb wa m r w = absurd (w refl)
completes_serial status.Memory tb ta lb la wb wa m r w = λ bytes e within. inl refl
completes_serial status.ScriptLimit tb ta lb la wb wa m r w = λ bytes e within.
    let p = rest_of la bytes m.taken (subst (λ l. Consumes l la m.taken) e m.leaves) in
    absurd (past_limit bytes m.taken p.0 p.1 m.holds.2 m.holds.1 within)
completes_serial status.Done tb ta lb la wb wa m r w = λ bytes e within.
    let p = rest_of la bytes m.taken (subst (λ l. Consumes l la m.taken) e m.leaves) in
    let same : transcript bytes ≡ transcript m.taken =
    ⊎_elim
    (λ h. ap transcript (p.1 ∙ ap (λ rest. m.taken ++ rest) (p.2 h.0) ∙ append-nil m.taken))
    (λ q. ap transcript p.1 ∙ quit_stays m.taken p.0 q)
    m.holds.1 in
    inr (refl, subst (λ x. Grows wb wa x) (m.holds.0 ∙ sym same) m.writes)
