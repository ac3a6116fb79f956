-- A place in a list of pieces, moved.
use Rattle.std.proofs.Common.{◌≡◌, ℕ, zero, suc, ◌+◌, ◌<◌, ◌≤◌, List, [], ◌∷◌, ◌++◌, take, drop, length, get_or, min, refl, ap, sym, ◌∙◌, arith, add-one}
use Rattle.std.proofs.lemmas.List.{append_assoc, append-nil, take_all, drop_all, take-append-drop, drop-drop, length-drop}
use Rattle.std.proofs.Math.Seq.{take-add}
use Rattle.mp_edge.specs.declared.source.Got.TheVariants as got
use Rattle.mp_edge.specs.Pieces.{IsAtByte, after, answer_of, before, joined, past_empty, without_front}

pub before_start : (ps : List (List ℕ)) → before ps 0 0 ≡ []
before_start [] = refl
before_start (p ∷ ps) = refl

pub after_start : (ps : List (List ℕ)) → after ps 0 0 ≡ ps
after_start [] = refl
after_start (p ∷ ps) = refl

-- past a piece that is finished
pub before_next : (ps : List (List ℕ)) (at offset : ℕ) → at < length ps → offset ≡ length (get_or ps at []) → before ps (at + 1) 0 ≡ before ps at offset
before_next [] at offset h e = absurd (omega arith)
before_next (p ∷ ps) zero offset h e = ap (λ x. p ++ x) (before_start ps) ∙ append-nil p ∙ sym (take_all offset p (omega arith))
before_next (p ∷ ps) (suc at) offset h e = rw add-one (ap (λ x. p ++ x) (rw add-one at (before_next ps at offset (omega arith) e)))

pub after_next : (ps : List (List ℕ)) (at offset : ℕ) → at < length ps → offset ≡ length (get_or ps at []) → past_empty (after ps (at + 1) 0) ≡ past_empty (after ps at offset)
after_next [] at offset h e = absurd (omega arith)
after_next (p ∷ ps) zero offset h e = ap past_empty (after_start ps) ∙ ap (λ x. past_empty (x ∷ ps)) (sym (drop_all offset p (omega arith)))
after_next (p ∷ ps) (suc at) offset h e = rw add-one (rw add-one at (after_next ps at offset (omega arith) e))

pub after_past : (ps : List (List ℕ)) (at offset : ℕ) → length ps ≤ at → after ps at offset ≡ []
after_past [] at offset h = refl
after_past (p ∷ ps) zero offset h = absurd (omega arith)
after_past (p ∷ ps) (suc at) offset h = after_past ps at offset (omega arith)

past_empty_here : (p : List ℕ) (ps : List (List ℕ)) → 0 < length p → past_empty (p ∷ ps) ≡ p ∷ ps
past_empty_here [] ps h = absurd (omega arith)
past_empty_here (b ∷ p) ps h = refl

-- at a byte, no empty piece is to be passed over
pub after_at_byte : (ps : List (List ℕ)) (at offset : ℕ) → IsAtByte ps at offset → past_empty (after ps at offset) ≡ after ps at offset
after_at_byte [] at offset h = refl
after_at_byte (p ∷ ps) zero offset h = past_empty_here (drop offset p) ps (omega (arith, length-drop offset p, h (omega arith)))
after_at_byte (p ∷ ps) (suc at) offset h = after_at_byte ps at offset (λ k. h (omega arith))

-- n bytes more of the piece at the place
pub before_on : (ps : List (List ℕ)) (at o n : ℕ) → at < length ps → before ps at (o + n) ≡ before ps at o ++ take n (drop o (get_or ps at []))
before_on [] at o n h = absurd (omega arith)
before_on (p ∷ ps) zero o n h = take-add o n p
before_on (p ∷ ps) (suc at) o n h = ap (λ x. p ++ x) (before_on ps at o n (omega arith)) ∙ sym (append_assoc p _ _)

pub after_on : (ps : List (List ℕ)) (at o n : ℕ) → after ps at (o + n) ≡ without_front n (after ps at o)
after_on [] at o n = refl
after_on (p ∷ ps) zero o n = ap (λ x. x ∷ ps) (sym (drop-drop n o p))
after_on (p ∷ ps) (suc at) o n = after_on ps at o n

pub joined_after : (ps : List (List ℕ)) (at o n : ℕ) → at < length ps → joined (after ps at o) ≡ take n (drop o (get_or ps at [])) ++ joined (after ps at (o + n))
joined_after [] at o n h = absurd (omega arith)
joined_after (p ∷ ps) zero o n h =
    let e : drop o p ≡ take n (drop o p) ++ drop (o + n) p = sym (take-append-drop n (drop o p)) ∙ ap (λ x. take n (drop o p) ++ x) (drop-drop n o p) in
    ap (λ x. x ++ joined ps) e ∙ append_assoc (take n (drop o p)) (drop (o + n) p) (joined ps)
joined_after (p ∷ ps) (suc at) o n h = joined_after ps at o n (omega arith)

joined_past_empty : (ps : List (List ℕ)) → joined (past_empty ps) ≡ joined ps
joined_past_empty [] = refl
joined_past_empty ([] ∷ ps) = joined_past_empty ps
joined_past_empty ((b ∷ p) ∷ ps) = refl

without_none : (ps : List (List ℕ)) → without_front 0 ps ≡ ps
without_none [] = refl
without_none (p ∷ ps) = refl

-- What a read does, from what its steps say. A list that is told is that of the place.

-- a read that gives nothing leaves the pieces as they are
pub pieces_kept : (ps : List (List ℕ)) (at o : ℕ) {told : List (List ℕ)} → IsAtByte ps at o → after ps at o ≡ told → after ps at o ≡ past_empty (without_front 0 told)
pieces_kept ps at o {told} h e = sym (after_at_byte ps at o h) ∙ ap past_empty (e ∙ sym (without_none told))

pub answer_past : (ps : List (List ℕ)) (at o room : ℕ) {told : List (List ℕ)} → length ps ≤ at → 0 < room → after ps at o ≡ told → got.End ≡ answer_of told room
answer_past ps at o zero h k e = absurd (omega arith)
answer_past ps at o (suc room) h k e = ap (λ t. answer_of t (suc room)) (sym (after_past ps at o h) ∙ e)

answer_at : (ps : List (List ℕ)) (at o room : ℕ) → at < length ps → 0 < room → got.Bytes (min (length (drop o (get_or ps at []))) room) ≡ answer_of (after ps at o) room
answer_at [] at o room h k = absurd (omega arith)
answer_at (p ∷ ps) zero o zero h k = absurd (omega arith)
answer_at (p ∷ ps) zero o (suc room) h k = refl
answer_at (p ∷ ps) (suc at) o room h k = answer_at ps at o room (omega arith) k

pub answer_given : (ps : List (List ℕ)) (at o n room : ℕ) {told : List (List ℕ)} {item : List ℕ} → at < length ps → 0 < room → after ps at o ≡ told →
    item ≡ get_or ps at [] → n ≡ min (length (drop o item)) room → got.Bytes n ≡ answer_of told room
answer_given ps at o n room lt some e r c =
    ap (λ k. got.Bytes k) (c ∙ ap (λ x. min (length (drop o x)) room) r) ∙ answer_at ps at o room lt some ∙ ap (λ t. answer_of t room) e

pub taken_given : (ps : List (List ℕ)) (at o n at' o' : ℕ) (buf : List ℕ) {told item : List ℕ} → at < length ps →
    before ps at' o' ≡ before ps at (o + n) → before ps at o ≡ told → item ≡ get_or ps at [] → take n buf ≡ take n (drop o item) →
    before ps at' o' ≡ told ++ take n buf
taken_given ps at o n at' o' buf {told} lt moved e r c =
    moved ∙ before_on ps at o n lt ∙ ap (λ t. t ++ take n (drop o (get_or ps at []))) e ∙ ap (λ t. told ++ t) (sym (c ∙ ap (λ x. take n (drop o x)) r))

pub left_given : (ps : List (List ℕ)) (at o n at' o' : ℕ) (buf : List ℕ) {told : List (List ℕ)} {item : List ℕ} → at < length ps →
    after ps at' o' ≡ past_empty (after ps at (o + n)) → after ps at o ≡ told → item ≡ get_or ps at [] → take n buf ≡ take n (drop o item) →
    joined told ≡ take n buf ++ joined (after ps at' o')
left_given ps at o n at' o' buf lt moved e r c =
    let rest : joined (after ps at (o + n)) ≡ joined (after ps at' o') = sym (joined_past_empty (after ps at (o + n))) ∙ ap joined (sym moved) in
    let front : take n (drop o (get_or ps at [])) ≡ take n buf = sym (c ∙ ap (λ x. take n (drop o x)) r) in
    ap joined (sym e) ∙ joined_after ps at o n lt ∙ ap (λ t. t ++ joined (after ps at (o + n))) front ∙ ap (λ t. take n buf ++ t) rest

pub pieces_given : (ps : List (List ℕ)) (at o n at' o' : ℕ) {told : List (List ℕ)} → after ps at' o' ≡ past_empty (after ps at (o + n)) →
    after ps at o ≡ told → after ps at' o' ≡ past_empty (without_front n told)
pieces_given ps at o n at' o' moved e = moved ∙ ap past_empty (after_on ps at o n ∙ ap (without_front n) e)
