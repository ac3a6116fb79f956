-- How the lines of a script lead on.
use Rattle.std.proofs.Common.{◌≡◌, ◌≢◌, ℕ, List, [], ◌∷◌, ◌++◌, Option, Some, None, length, nat_lt, true, false, ◌<◌, ◌≤◌, rules, refl, ap, sym, ◌∙◌, append_assoc}
use Rattle.std.proofs.lemmas.List.{append-nil}
use Rattle.mp_edge.specs.Told.{IsFront}
use Rattle.mp_base.specs.Text.{Cut, cut, lines_of, last_line}
use Rattle.mp_base.proofs.Cuts.{cut-append}
use Rattle.mp_session.specs.Transcript.{bad_command, script_ended}
use Rattle.mp_session.specs.Lines.{Stand, Ran, step, go_on, after, from, closing, idle, ran_so_far, ran_whole, told, next_of, obeyed, answered}
use Rattle.mp_session.specs.Replies.{start}
use Rattle.mp_script.specs.declared.commands.Command.{Command}

pub after_none : (r : Ran) → after r [] ≡ r
unfolding after
after_none r = refl

pub after_append : (r : Ran) (xs ys : List (List ℕ)) → after r (xs ++ ys) ≡ after (after r xs) ys
unfolding after
after_append r [] ys = refl
after_append r (x ∷ xs) ys = after_append (go_on r.bytes r.now x) xs ys

-- after `quit` nothing comes
pub after_quit : (bytes : List ℕ) (xs : List (List ℕ)) → after (record { bytes = bytes; now = None }) xs ≡ record { bytes = bytes; now = None }
unfolding after
after_quit bytes [] = refl
after_quit bytes (x ∷ xs) = after_quit bytes xs

-- what was written before stands before what comes
pub after_more : (front bytes : List ℕ) (now : Option Stand) (xs : List (List ℕ)) →
    after (record { bytes = front ++ bytes; now = now }) xs ≡
    record { bytes = front ++ (after (record { bytes = bytes; now = now }) xs).bytes; now = (after (record { bytes = bytes; now = now }) xs).now }
unfolding after
after_more front bytes now [] = refl
after_more front bytes None (x ∷ xs) = after_more front bytes None xs
after_more front bytes (Some stand) (x ∷ xs) = rw (append_assoc front bytes (step stand x).bytes) (after_more front (bytes ++ (step stand x).bytes) (step stand x).now xs)

pub after_from : (bytes : List ℕ) (stand : Stand) (xs : List (List ℕ)) →
    after (record { bytes = bytes; now = Some stand }) xs ≡
    record { bytes = bytes ++ (after (from stand) xs).bytes; now = (after (from stand) xs).now }
after_from bytes stand xs = ap (λ b. after (record { bytes = b; now = Some stand }) xs) (sym (append-nil bytes)) ∙ after_more bytes [] (Some stand) xs

-- bytes are only added
pub after_front : (r : Ran) (xs : List (List ℕ)) → IsFront r.bytes (after r xs).bytes
after_front r xs = (
  (after (record { bytes = []; now = r.now }) xs).bytes,
  ap (λ b. (after (record { bytes = b; now = r.now }) xs).bytes) (sym (append-nil r.bytes)) ∙ ap (λ x. x.bytes) (after_more r.bytes [] r.now xs),
)

front_trans : (a b c : List ℕ) → IsFront a b → IsFront b c → IsFront a c
front_trans a b c p q = (p.0 ++ q.0, q.1 ∙ ap (λ x. x ++ q.0) p.1 ∙ append_assoc a p.0 q.0)

-- the lines of a whole script are those that are ended, and a last one
whole_is : (t : List ℕ) → ran_whole t ≡ after (ran_so_far t) (last_line (cut t).rest)
unfolding ran_whole ran_so_far lines_of
whole_is t = after_append (from (idle start)) (cut t).whole (last_line (cut t).rest)

-- what is written so far is the front of what is written in all
pub so_far_front : (t : List ℕ) → IsFront (ran_so_far t).bytes (told (ran_whole t))
so_far_front t =
    let r = after (ran_so_far t) (last_line (cut t).rest) in
    let p = after_front (ran_so_far t) (last_line (cut t).rest) in
    let q : IsFront r.bytes (told (ran_whole t)) = (closing script_ended r.now, ap told (whole_is t)) in
    front_trans (ran_so_far t).bytes r.bytes (told (ran_whole t)) p q

-- more bytes of the script
pub ran_append : (t piece : List ℕ) (bytes : List ℕ) (stand : Stand) → ran_so_far t ≡ record { bytes = bytes; now = Some stand } →
    let more = after (from stand) (cut ((cut t).rest ++ piece)).whole in ran_so_far (t ++ piece) ≡ record { bytes = bytes ++ more.bytes; now = more.now }
unfolding ran_so_far
ran_append t piece bytes stand e =
    ap (λ (c : Cut). after (from (idle start)) c.whole) (cut-append t piece)
    ∙ after_append (from (idle start)) (cut t).whole (cut ((cut t).rest ++ piece)).whole
    ∙ ap (λ r. after r (cut ((cut t).rest ++ piece)).whole) e
    ∙ after_from bytes stand (cut ((cut t).rest ++ piece)).whole

-- a script that quit has quit with more bytes too
pub quit_append : (t piece bytes : List ℕ) → ran_so_far t ≡ record { bytes = bytes; now = None } → ran_so_far (t ++ piece) ≡ record { bytes = bytes; now = None }
unfolding ran_so_far
quit_append t piece bytes e =
    let more = (cut ((cut t).rest ++ piece)).whole in
    ap (λ (c : Cut). after (from (idle start)) c.whole) (cut-append t piece) ∙ after_append (from (idle start)) (cut t).whole more
    ∙ ap (λ r. after r more) e ∙ after_quit bytes more

-- a script that quit writes no more
pub quit_is_all : (t bytes : List ℕ) → ran_so_far t ≡ record { bytes = bytes; now = None } → told (ran_whole t) ≡ bytes
quit_is_all t bytes e = ap told (whole_is t ∙ ap (λ r. after r (last_line (cut t).rest)) e ∙ after_quit bytes (last_line (cut t).rest)) ∙ append-nil bytes

-- the end, where nothing stands after the last line end
pub ended_bare : (t bytes : List ℕ) (stand : Stand) → ran_so_far t ≡ record { bytes = bytes; now = Some stand } → (cut t).rest ≡ [] →
    told (ran_whole t) ≡ bytes ++ closing script_ended (Some stand)
ended_bare t bytes stand e r = ap told (whole_is t ∙ ap (λ r. after r (last_line (cut t).rest)) e
    ∙ ap (λ l. after (record { bytes = bytes; now = Some stand }) (last_line l)) r ∙ after_none (record { bytes = bytes; now = Some stand }))

-- the end, where a last line is not ended
pub ended_line : (t bytes line : List ℕ) (stand : Stand) → ran_so_far t ≡ record { bytes = bytes; now = Some stand } → (cut t).rest ≡ line →
    line ≢ [] → told (ran_whole t) ≡ bytes ++ ((step stand line).bytes ++ closing script_ended (step stand line).now)
unfolding after
ended_line t bytes [] stand e r ne = absurd (ne refl)
ended_line t bytes (b ∷ line) stand e r ne =
    ap told (whole_is t ∙ ap (λ r. after r (last_line (cut t).rest)) e ∙ ap (λ l. after (record { bytes = bytes; now = Some stand }) (last_line l)) r)
    ∙ append_assoc bytes (step stand (b ∷ line)).bytes (closing script_ended (step stand (b ∷ line)).now)

-- a bad command
pub step_bad : (stand : Stand) (line : List ℕ) → next_of stand.waiting line ≡ None → step stand line ≡ record { bytes = bad_command; now = Some (idle stand.state) }
unfolding step
step_bad stand line e = ap (answered stand.state) e

-- a command that waits for more lines
pub step_waits : (stand : Stand) (line : List ℕ) (c : Command) → next_of stand.waiting line ≡ Some c → length c.lines < c.wants →
    step stand line ≡ record { bytes = []; now = Some (record { state = stand.state; waiting = Some c }) }
unfolding step
step_waits stand line c e h = ap (answered stand.state) e ∙ (let p : nat_lt (length c.lines) c.wants ≡ true = search (rules, h) in rw p refl)

-- a command that is obeyed
pub step_obeys : (stand : Stand) (line : List ℕ) (c : Command) → next_of stand.waiting line ≡ Some c → c.wants ≤ length c.lines → step stand line ≡ obeyed stand.state c
unfolding step
step_obeys stand line c e h = ap (answered stand.state) e ∙ (let p : nat_lt (length c.lines) c.wants ≡ false = search (rules, h) in rw p refl)

-- one line of several
pub after_line : (bytes : List ℕ) (stand : Stand) (line : List ℕ) (rest : List (List ℕ)) →
    after (record { bytes = bytes; now = Some stand }) (line ∷ rest) ≡
    after (record { bytes = bytes ++ (step stand line).bytes; now = (step stand line).now }) rest
unfolding after
after_line bytes stand line rest = refl

pub line_on : (bytes : List ℕ) (stand next : Stand) (line : List ℕ) (rest : List (List ℕ)) {items : List (List ℕ)} {all : Ran} →
    after (record { bytes = bytes; now = Some stand }) items ≡ all → items ≡ line ∷ rest → (step stand line).now ≡ Some next →
    after (record { bytes = bytes ++ (step stand line).bytes; now = Some next }) rest ≡ all
line_on bytes stand next line rest h e n = ap (λ x. after (record { bytes = bytes ++ (step stand line).bytes; now = x }) rest) (sym n)
    ∙ sym (after_line bytes stand line rest) ∙ ap (after (record { bytes = bytes; now = Some stand })) (sym e) ∙ h

pub line_quits : (bytes : List ℕ) (stand : Stand) (line : List ℕ) (rest : List (List ℕ)) {items : List (List ℕ)} {all : Ran} →
    after (record { bytes = bytes; now = Some stand }) items ≡ all → items ≡ line ∷ rest → (step stand line).now ≡ None →
    all ≡ record { bytes = bytes ++ (step stand line).bytes; now = None }
line_quits bytes stand line rest h e n = sym h ∙ ap (after (record { bytes = bytes; now = Some stand })) e ∙ after_line bytes stand line rest
    ∙ ap (λ x. after (record { bytes = bytes ++ (step stand line).bytes; now = x }) rest) n ∙ after_quit (bytes ++ (step stand line).bytes) rest

-- a part of one line's reply is a part of the replies
pub line_part : (bytes front : List ℕ) (stand : Stand) (line : List ℕ) (rest : List (List ℕ)) {items : List (List ℕ)} {all : Ran} →
    after (record { bytes = bytes; now = Some stand }) items ≡ all → items ≡ line ∷ rest → IsFront front (step stand line).bytes →
    IsFront (bytes ++ front) all.bytes
line_part bytes front stand line rest h e f =
    let p = after_front (record { bytes = bytes ++ (step stand line).bytes; now = (step stand line).now }) rest in
    let q = sym h ∙ ap (after (record { bytes = bytes; now = Some stand })) e ∙ after_line bytes stand line rest in (
      f.0 ++ p.0,
      ap (λ (r : Ran). r.bytes) q ∙ p.1 ∙ ap (λ x. (bytes ++ x) ++ p.0) f.1 ∙ ap (λ x. x ++ p.0) (sym (append_assoc bytes front f.0))
          ∙ append_assoc (bytes ++ front) f.0 p.0,
    )
