-- What is answered line by line is what is answered command by command.
use Rattle.std.proofs.Common.{◌≡◌, ◌<◌, ◌≤◌, ◌+◌, ℕ, zero, suc, List, [], ◌∷◌, ◌++◌, length, take, drop, nat_lt, true, false, Bool, if◌then◌else◌}
use Rattle.std.proofs.Common.{Option, Some, None, is_none, refl, ap, sym, subst, ◌∙◌, append_assoc, arith}
use Rattle.std.proofs.lemmas.List.{append-nil, length-append, length-drop}
use Rattle.std.proofs.lemmas.Bool.{lt-ltb, le-ltb, ltb-true, ltb-false}
use Rattle.mp_base.specs.Text.{cut, lines_of}
use Rattle.mp_edge.specs.Told.{IsFront}
use Rattle.mp_script.specs.Meaning.{meant, wants_of}
use Rattle.mp_script.specs.declared.commands.Command.{Command}
use Rattle.mp_script.specs.declared.commands.Verb.{Verb}
use Rattle.mp_session.specs.declared.state.State.{State}
use Rattle.mp_session.specs.Replies.{reply, start}
use Rattle.mp_session.specs.Transcript.{Said, Whole, Ended, Answered, begun, is_quit, bad_command, script_ended, said_by, then_answered, replies}
use Rattle.mp_session.specs.Transcript.{so_far, transcript, answered_so_far, Quits}
use Rattle.mp_session.specs.Lines.{Stand, Ran, next_of, after, from, idle, closing, closing_of, obeyed, ran_so_far, ran_whole, told, AnswersAlike}
use Rattle.mp_session.proofs.Runs.{after_none, after_line, after_from, after_quit, step_bad, step_waits, step_obeys, so_far_front, quit_append, quit_is_all}

-- a command with further lines
abbrev with_lines : Command → List (List ℕ) → Command
with_lines c ls = record { verb = c.verb; wants = c.wants; lines = c.lines ++ ls }

abbrev at : List ℕ → State → Command → Ran
at b s c = record { bytes = b; now = Some (record { state = s; waiting = Some c }) }

next_is : (c : Command) (x : List ℕ) → next_of (Some c) x ≡ Some (with_lines c (x ∷ []))
unfolding next_of
next_is c x = refl

none_is : (x : List ℕ) → next_of None x ≡ begun (meant x)
unfolding next_of
none_is x = refl

more_lines : (c : Command) (x : List ℕ) (ls : List (List ℕ)) → with_lines (with_lines c (x ∷ [])) ls ≡ with_lines c (x ∷ ls)
more_lines c x ls = ap (λ l. let z : Command = record { verb = c.verb; wants = c.wants; lines = l } in z) (append_assoc c.lines (x ∷ []) ls)

same_lines : (c : Command) → with_lines c [] ≡ c
same_lines c = ap (λ l. let z : Command = record { verb = c.verb; wants = c.wants; lines = l } in z) (append-nil c.lines)

one_more : (c : Command) (x : List ℕ) → length (with_lines c (x ∷ [])).lines ≡ length c.lines + 1
one_more c x = length-append c.lines (x ∷ [])

-- a line that does not complete the command
wait_line : (b : List ℕ) (s : State) (c : Command) (x : List ℕ) (ls : List (List ℕ)) → length c.lines + 1 < c.wants →
    after (at b s c) (x ∷ ls) ≡ after (at b s (with_lines c (x ∷ []))) ls
wait_line b s c x ls h =
    let st : Stand = record { state = s; waiting = Some c } in
    let e = step_waits st x (with_lines c (x ∷ [])) (next_is c x) (omega (arith, one_more c x)) in
    after_line b st x ls ∙ ap (λ (r : Ran). after (record { bytes = b ++ r.bytes; now = r.now }) ls) e ∙ ap (λ y. after (at y s (with_lines c (x ∷ []))) ls) (append-nil b)

-- the line that completes it
last_line : (b : List ℕ) (s : State) (c : Command) (x : List ℕ) (ls : List (List ℕ)) → length c.lines + 1 ≡ c.wants →
    let r = obeyed s (with_lines c (x ∷ [])) in after (at b s c) (x ∷ ls) ≡ after (record { bytes = b ++ r.bytes; now = r.now }) ls
last_line b s c x ls h =
    let st : Stand = record { state = s; waiting = Some c } in
    let e = step_obeys st x (with_lines c (x ∷ [])) (next_is c x) (omega (arith, one_more c x)) in
    after_line b st x ls ∙ ap (λ (r : Ran). after (record { bytes = b ++ r.bytes; now = r.now }) ls) e

-- too few lines
short : (b : List ℕ) (s : State) (c : Command) (ls : List (List ℕ)) → length c.lines + length ls < c.wants → after (at b s c) ls ≡ at b s (with_lines c ls)
short b s c [] h = after_none (at b s c) ∙ ap (at b s) (sym (same_lines c))
short b s c (x ∷ ls) h = wait_line b s c x ls (omega arith) ∙ short b s (with_lines c (x ∷ [])) ls (omega (arith, one_more c x)) ∙ ap (at b s) (more_lines c x ls)

-- enough lines
long : (b : List ℕ) (s : State) (c : Command) (k : ℕ) (ls : List (List ℕ)) → length c.lines + suc k ≡ c.wants → suc k ≤ length ls →
    let r = obeyed s (with_lines c (take (suc k) ls)) in after (at b s c) ls ≡ after (record { bytes = b ++ r.bytes; now = r.now }) (drop (suc k) ls)
long b s c k [] h l = absurd (omega arith)
long b s c zero (x ∷ ls) h l = last_line b s c x ls (omega arith)
long b s c (suc k) (x ∷ ls) h l =
    wait_line b s c x ls (omega arith)
    ∙ long b s (with_lines c (x ∷ [])) k ls (omega (arith, one_more c x)) (omega arith)
    ∙ ap (λ d. after (record { bytes = b ++ (obeyed s d).bytes; now = (obeyed s d).now }) (drop (suc k) ls)) (more_lines c x (take (suc k) ls))

-- what was answered, where `ending` is written of a command that still waits
abbrev outcome : List ℕ → Ran → Answered
outcome ending ran = record { bytes = ran.bytes ++ closing ending ran.now; quit = is_none ran.now }

-- what comes after bytes
outcome_after : (ending b : List ℕ) (s : State) (ls : List (List ℕ)) →
    outcome ending (after (record { bytes = b; now = Some (idle s) }) ls) ≡ then_answered b (outcome ending (after (from (idle s)) ls))
outcome_after ending b s ls =
    let r = after (from (idle s)) ls in
    ap (outcome ending) (after_from b (idle s) ls)
    ∙ ap (λ bytes. let z : Answered = record { bytes = bytes; quit = is_none r.now } in z) (append_assoc b r.bytes (closing ending r.now))

quit_outcome : (ending b : List ℕ) (ls : List (List ℕ)) → outcome ending (after (record { bytes = b; now = None }) ls) ≡ record { bytes = b; quit = true }
quit_outcome ending b ls = ap (outcome ending) (after_quit b ls) ∙ ap (λ bytes. let z : Answered = record { bytes = bytes; quit = true } in z) (append-nil b)

-- after a command was obeyed
outcome_obeyed : (ending : List ℕ) (s : State) (c : Command) (ls : List (List ℕ)) (rest : List Said) →
    ((t : State) → outcome ending (after (from (idle t)) ls) ≡ replies ending t rest) →
    outcome ending (after (record { bytes = [] ++ (obeyed s c).bytes; now = (obeyed s c).now }) ls) ≡ replies ending s (Whole c ∷ rest)
unfolding replies
outcome_obeyed ending s c ls rest h =
    let r = reply s c in
    elim (is_quit c.verb) as (λ v. outcome ending (after (record { bytes = r.bytes; now = (if v then None else Some (idle r.state)) }) ls) ≡
    (if v then record { bytes = r.bytes; quit = true } else then_answered r.bytes (replies ending r.state rest))) [
      | true ↦ quit_outcome ending r.bytes ls
      | false ↦ outcome_after ending r.bytes r.state ls ∙ ap (then_answered r.bytes) (h r.state)
    ]

-- a first line, and what is proved of shorter lists
outcome_none : (ending : List ℕ) (n : ℕ) (x : List ℕ) (ls : List (List ℕ)) (s : State) → meant x ≡ None →
    outcome ending (after (from (idle s)) ls) ≡ replies ending s (said_by n ls) →
    outcome ending (after (from (idle s)) (x ∷ ls)) ≡ replies ending s (said_by (suc n) (x ∷ ls))
unfolding replies said_by
outcome_none ending n x ls s e h =
    let f = step_bad (idle s) x (none_is x ∙ ap begun e) in
    ap (outcome ending) (after_line [] (idle s) x ls ∙ ap (λ (r : Ran). after (record { bytes = [] ++ r.bytes; now = r.now }) ls) f)
    ∙ outcome_after ending bad_command s ls ∙ ap (then_answered bad_command) h ∙ rw e refl

said_whole : (n : ℕ) (x : List ℕ) (ls : List (List ℕ)) (v : Verb) → meant x ≡ Some v → wants_of v ≤ length ls →
    said_by (suc n) (x ∷ ls) ≡ Whole (record { verb = v; wants = wants_of v; lines = take (wants_of v) ls }) ∷ said_by n (drop (wants_of v) ls)
unfolding said_by
said_whole n x ls v e h = let f : nat_lt (length ls) (wants_of v) ≡ false = le-ltb (length ls) (wants_of v) h in rw (e, f) refl

said_ended : (n : ℕ) (x : List ℕ) (ls : List (List ℕ)) (v : Verb) → meant x ≡ Some v → length ls < wants_of v →
    said_by (suc n) (x ∷ ls) ≡ Ended (record { verb = v; wants = wants_of v; lines = [] }) ∷ said_by n []
unfolding said_by
said_ended n x ls v e h = let f : nat_lt (length ls) (wants_of v) ≡ true = lt-ltb (length ls) (wants_of v) h in rw (e, f) refl

abbrev command_at : Verb → Command
command_at v = record { verb = v; wants = wants_of v; lines = [] }

-- the lines after a command that takes lines
outcome_wait : (ending : List ℕ) (n k : ℕ) (x : List ℕ) (ls : List (List ℕ)) (s : State) (v : Verb) (b : Bool) → nat_lt (length ls) (suc k) ≡ b →
    meant x ≡ Some v → wants_of v ≡ suc k → ((ms : List (List ℕ)) (t : State) → length ms ≤ length ls →
    outcome ending (after (from (idle t)) ms) ≡ replies ending t (said_by n ms)) →
    outcome ending (after (at [] s (command_at v)) ls) ≡ replies ending s (said_by (suc n) (x ∷ ls))
unfolding replies
outcome_wait ending n k x ls s v true f e w h =
    let lt : length ls < wants_of v = omega (arith, ltb-true (length ls) (suc k) f, w) in
    ap (outcome ending) (short [] s (command_at v) ls (omega arith)) ∙ ap (replies ending s) (sym (said_ended n x ls v e lt))
outcome_wait ending n k x ls s v false f e w h =
    let le : suc k ≤ length ls = ltb-false (length ls) (suc k) f in
    ap (outcome ending) (long [] s (command_at v) k ls (omega (arith, w)) le)
    ∙ outcome_obeyed ending s (with_lines (command_at v) (take (suc k) ls)) (drop (suc k) ls) (said_by n (drop (suc k) ls))
    (λ t. h (drop (suc k) ls) t (omega (arith, length-drop (suc k) ls)))
    ∙ ap (λ m. replies ending s (Whole (record { verb = v; wants = wants_of v; lines = take m ls }) ∷ said_by n (drop m ls))) (sym w)
    ∙ ap (replies ending s) (sym (said_whole n x ls v e (omega (arith, w, le))))

outcome_some : (ending : List ℕ) (n k : ℕ) (x : List ℕ) (ls : List (List ℕ)) (s : State) (v : Verb) → meant x ≡ Some v → wants_of v ≡ k →
    ((ms : List (List ℕ)) (t : State) → length ms ≤ length ls → outcome ending (after (from (idle t)) ms) ≡ replies ending t (said_by n ms)) →
    outcome ending (after (from (idle s)) (x ∷ ls)) ≡ replies ending s (said_by (suc n) (x ∷ ls))
outcome_some ending n zero x ls s v e w h =
    let f = step_obeys (idle s) x (command_at v) (none_is x ∙ ap begun e) (omega (arith, w)) in
    ap (outcome ending) (after_line [] (idle s) x ls ∙ ap (λ (r : Ran). after (record { bytes = [] ++ r.bytes; now = r.now }) ls) f)
    ∙ outcome_obeyed ending s (command_at v) ls (said_by n ls) (λ t. h ls t (omega arith))
    ∙ ap (λ m. replies ending s (Whole (record { verb = v; wants = wants_of v; lines = take m ls }) ∷ said_by n (drop m ls))) (sym w)
    ∙ ap (replies ending s) (sym (said_whole n x ls v e (omega (arith, w))))
outcome_some ending n (suc k) x ls s v e w h =
    let f = step_waits (idle s) x (command_at v) (none_is x ∙ ap begun e) (omega (arith, w)) in
    ap (outcome ending) (after_line [] (idle s) x ls ∙ ap (λ (r : Ran). after (record { bytes = [] ++ r.bytes; now = r.now }) ls) f)
    ∙ outcome_wait ending n k x ls s v (nat_lt (length ls) (suc k)) refl e w h

outcome_line : (ending : List ℕ) (n : ℕ) (x : List ℕ) (ls : List (List ℕ)) (s : State) (o : Option Verb) → meant x ≡ o →
    ((ms : List (List ℕ)) (t : State) → length ms ≤ length ls → outcome ending (after (from (idle t)) ms) ≡ replies ending t (said_by n ms)) →
    outcome ending (after (from (idle s)) (x ∷ ls)) ≡ replies ending s (said_by (suc n) (x ∷ ls))
outcome_line ending n x ls s None e h = outcome_none ending n x ls s e (h ls s (omega arith))
outcome_line ending n x ls s (Some v) e h = outcome_some ending n (wants_of v) x ls s v e refl h

outcome_all : (ending : List ℕ) (n : ℕ) (ls : List (List ℕ)) (s : State) → length ls ≤ n → outcome ending (after (from (idle s)) ls) ≡ replies ending s (said_by n ls)
unfolding said_by replies
outcome_all ending zero [] s h = ap (outcome ending) (after_none (from (idle s)))
outcome_all ending zero (x ∷ ls) s h = absurd (omega arith)
outcome_all ending (suc n) [] s h = ap (outcome ending) (after_none (from (idle s)))
outcome_all ending (suc n) (x ∷ ls) s h = outcome_line ending n x ls s (meant x) refl (λ ms t l. outcome_all ending n ms t (omega (arith, l)))

-- the transcript, line by line
transcript_is : (t : List ℕ) → told (ran_whole t) ≡ transcript t
unfolding transcript ran_whole
transcript_is t = ap (λ (a : Answered). a.bytes) (outcome_all script_ended (length (lines_of t)) (lines_of t) start (omega arith))

nothing_waits : (command : Option Command) → closing_of [] command ≡ []
nothing_waits None = refl
nothing_waits (Some command) = refl

-- what is answered so far, line by line
so_far_is : (t : List ℕ) → record { bytes = (ran_so_far t).bytes; quit = is_none (ran_so_far t).now } ≡ answered_so_far t
unfolding answered_so_far ran_so_far
so_far_is t = nothing_more (after (from (idle start)) (cut t).whole) ∙ outcome_all [] (length (cut t).whole) (cut t).whole start (omega arith)
  where
    nothing_closes : (now : Option Stand) → closing [] now ≡ []
    nothing_closes None = refl
    nothing_closes (Some stand) = nothing_waits stand.waiting

    nothing_more : (r : Ran) → record { bytes = r.bytes; quit = is_none r.now } ≡ outcome [] r
    nothing_more r = ap (λ b. let z : Answered = record { bytes = b; quit = is_none r.now } in z) (sym (append-nil r.bytes) ∙ ap (λ x. r.bytes ++ x) (sym (nothing_closes r.now)))

pub answers_alike : (t : List ℕ) → AnswersAlike t
answers_alike t = record { whole = transcript_is t; so_far = so_far_is t }

pub so_far_begins : (t : List ℕ) → IsFront (so_far t) (transcript t)
so_far_begins t =
    let P : List ℕ → Type 0 = λ b. IsFront b (transcript t) in
    let Q : List ℕ → Type 0 = λ w. IsFront (ran_so_far t).bytes w in
    subst P (ap (λ (a : Answered). a.bytes) (so_far_is t)) (subst Q (transcript_is t) (so_far_front t))

quit_run : (r : Ran) → is_none r.now ≡ true → r ≡ record { bytes = r.bytes; now = None }
quit_run r h = go r.bytes r.now h
  where
    go : (bytes : List ℕ) (now : Option Stand) → is_none now ≡ true → let ran : Ran = record { bytes = bytes; now = now } in ran ≡ record { bytes = bytes; now = None }
    go bytes None h = refl
    go bytes (Some stand) h = let f : false ≡ true = h in absurd (cc)

-- a `quit` stays where more follows
pub quits_more : (t more : List ℕ) → Quits t → Quits (t ++ more)
quits_more t more q =
    let r = ran_so_far t in
    let e = quit_run r (ap (λ (a : Answered). a.quit) (answers_alike t).so_far ∙ q) in
    sym (ap (λ (a : Answered). a.quit) (answers_alike (t ++ more)).so_far) ∙ ap (λ (x : Ran). is_none x.now) (quit_append t more r.bytes e)

-- what follows a `quit` changes nothing
pub quit_stays : (t more : List ℕ) → Quits t → transcript (t ++ more) ≡ transcript t
quit_stays t more q =
    let r = ran_so_far t in
    let e = quit_run r (ap (λ (a : Answered). a.quit) (answers_alike t).so_far ∙ q) in
    sym (answers_alike (t ++ more)).whole ∙ quit_is_all (t ++ more) r.bytes (quit_append t more r.bytes e) ∙ sym (quit_is_all t r.bytes e) ∙ (answers_alike t).whole
