-- The bytes of pieces, by the places at which they end.
use Rattle.std.proofs.Common.{◌≡◌, ◌≤◌, ◌<◌, ◌+◌, ◌-◌, ℕ, zero, suc, List, [], ◌∷◌, ◌++◌, length, get_or, take, drop, eqb, false, refl, ap, sym, subst, ◌∙◌, arith, ⊎_elim}
use Rattle.std.proofs.lemmas.Bool.{cases_lt, eqb-false}
use Rattle.std.specs.List.{AllWithin}
use Rattle.std.proofs.lemmas.List.{length-append, length-drop, get_or-append_right, get_or_default, take_more, take-append-drop}
use Rattle.std.proofs.lemmas.List.{take-append-le, drop-append-le, drop-drop, take_all, drop_all, append_assoc, append-nil, take-take}
use Rattle.std.proofs.lemmas.List.{length-take, get_or-take, get_or-drop, drop_more}
use Rattle.std.proofs.Common.{take-add}
use Rattle.std.proofs.Math.Seq.{take-append-add, drop-append_seam}
use Rattle.mp_text.specs.declared.piece.Piece.{Piece}
use Rattle.mp_text.specs.Pieces.{ArePieces, CountsFrom, EndsFrom, IsLineStart, piece_bytes, all_bytes, line_ends}
use Rattle.mp_text.proofs.LineEndLemmas.{ends-append, ends-le}

get_or-append_left : (xs ys : List ℕ) (i : ℕ) → i < length xs → get_or (xs ++ ys) i 0 ≡ get_or xs i 0
get_or-append_left [] ys i h = absurd (omega arith)
get_or-append_left (x ∷ xs) ys zero h = refl
get_or-append_left (x ∷ xs) ys (suc i) h = get_or-append_left xs ys i (omega arith)

-- ends do not fall
ends_from : (pieces : List Piece) (start : ℕ) → EndsFrom start pieces → (k : ℕ) (d : Piece) → k < length pieces → start ≤ (get_or pieces k d).end
ends_from [] start h k d l = absurd (omega arith)
ends_from (p ∷ pieces) start h zero d l = let e = h.0 in omega arith
ends_from (p ∷ pieces) start h (suc k) d l = let e = h.0 in let rest = ends_from pieces p.end h.1 k d (omega arith) in omega arith

pub ends_rise : (pieces : List Piece) (start : ℕ) → EndsFrom start pieces → (i j : ℕ) (d : Piece) → i ≤ j → j < length pieces → (get_or pieces i d).end ≤ (get_or pieces j d).end
ends_rise [] start h i j d l m = absurd (omega arith)
ends_rise (p ∷ pieces) start h zero zero d l m = omega arith
ends_rise (p ∷ pieces) start h zero (suc j) d l m = ends_from pieces p.end h.1 j d (omega arith)
ends_rise (p ∷ pieces) start h (suc i) zero d l m = absurd (omega arith)
ends_rise (p ∷ pieces) start h (suc i) (suc j) d l m = ends_rise pieces p.end h.1 i j d (omega arith) (omega arith)

pub to_middle : (pieces : List Piece) (place middle : ℕ) (e : Piece) → EndsFrom 0 pieces → middle < length pieces → (get_or pieces middle e).end ≤ place →
    (k : ℕ) (d : Piece) → k < middle + 1 → (get_or pieces k d).end ≤ place
to_middle pieces place middle e h inside low k d l =
    let up = ends_rise pieces 0 h k middle d (omega arith) inside in
    let same = ap (λ p. p.end) (get_or_default pieces middle d e inside) in
    omega arith

pub past_middle : (pieces : List Piece) (place middle : ℕ) (e : Piece) → EndsFrom 0 pieces → place < (get_or pieces middle e).end → (k : ℕ) (d : Piece) →
    middle ≤ k → k < length pieces → place < (get_or pieces k d).end
past_middle pieces place middle e h high k d l inside =
    let up = ends_rise pieces 0 h middle k d l inside in
    let same = ap (λ p. p.end) (get_or_default pieces middle d e (omega arith)) in
    omega arith

-- the byte at a place, in the piece that holds it
byte_in : (pieces : List Piece) (start i at : ℕ) (d : Piece) → EndsFrom start pieces → i < length pieces → start ≤ at →
    AllWithin (λ p. p.end ≤ at) pieces 0 i → at < (get_or pieces i d).end
    → get_or (piece_bytes (get_or pieces i d)) (at + length (piece_bytes (get_or pieces i d)) - (get_or pieces i d).end) 0 ≡ get_or (all_bytes pieces) (at - start) 0
byte_in [] start i at d h l m before here = absurd (omega arith)
byte_in (p ∷ pieces) start zero at d h l m before here =
    let e = h.0 in
    let same : at + length (piece_bytes p) - p.end ≡ at - start = omega arith in
    ap (λ k. get_or (piece_bytes p) k 0) same ∙ sym (get_or-append_left (piece_bytes p) (all_bytes pieces) (at - start) (omega arith))
byte_in (p ∷ pieces) start (suc i) at d h l m before here =
    let e = h.0 in
    let first = before 0 p (omega arith) (omega arith) in
    let same : at - start - length (piece_bytes p) ≡ at - p.end = omega arith in
    byte_in pieces p.end i at d h.1 (omega arith) (omega arith) (λ k x f g. before (suc k) x (omega arith) (omega arith)) here
    ∙ sym (get_or-append_right (piece_bytes p) (all_bytes pieces) (length (piece_bytes p)) (at - start) 0 refl (omega arith) ∙ ap (λ k. get_or (all_bytes pieces) k 0) same)

last_end : (pieces : List Piece) (start at : ℕ) → EndsFrom start pieces → AllWithin (λ p. p.end ≤ at) pieces 0 (length pieces) → start ≤ at →
    start + length (all_bytes pieces) ≤ at
last_end [] start at h before m = omega arith
last_end (p ∷ pieces) start at h before m =
    let e = h.0 in
    let first = before 0 p (omega arith) (omega arith) in
    let rest = last_end pieces p.end at h.1 (λ k x f g. before (suc k) x (omega arith) (omega arith)) (omega arith) in
    omega (arith, length-append (piece_bytes p) (all_bytes pieces))

-- a place of the text is in a piece
pub place_in : (pieces : List Piece) (i at : ℕ) → EndsFrom 0 pieces → i ≤ length pieces → AllWithin (λ p. p.end ≤ at) pieces 0 i →
    at < length (all_bytes pieces) → i < length pieces
place_in pieces i at h l before inside = ⊎_elim
    (λ (m : i < length pieces). m)
    (λ (m : length pieces ≤ i). let a = last_end pieces 0 at h (λ k x f g. before k x f (omega arith)) (omega arith) in absurd (omega arith))
    (cases_lt i (length pieces))

pub byte_at : (pieces : List Piece) (i at : ℕ) (piece : Piece) → EndsFrom 0 pieces → i < length pieces → AllWithin (λ p. p.end ≤ at) pieces 0 i →
    AllWithin (λ p. at < p.end) pieces i (length pieces) → piece ≡ get_or pieces i piece
    → get_or (piece_bytes piece) (at + length (piece_bytes piece) - piece.end) 0 ≡ get_or (all_bytes pieces) at 0
byte_at pieces i at piece h l before after e =
    let Q : Piece → Type 0 = λ p. get_or (piece_bytes p) (at + length (piece_bytes p) - p.end) 0 ≡ get_or (all_bytes pieces) at 0 in
    let same : at - 0 ≡ at = omega arith in
    subst Q (sym e) (byte_in pieces 0 i at piece h l (omega arith) before (after i piece (omega arith) l) ∙ ap (λ k. get_or (all_bytes pieces) k 0) same)

holds_in : (pieces : List Piece) (start i at : ℕ) (d : Piece) → EndsFrom start pieces → i < length pieces → start ≤ at →
    AllWithin (λ p. p.end ≤ at) pieces 0 i → (get_or pieces i d).end ≤ at + length (piece_bytes (get_or pieces i d))
holds_in [] start i at d h l m before = absurd (omega arith)
holds_in (p ∷ pieces) start zero at d h l m before = let e = h.0 in omega arith
holds_in (p ∷ pieces) start (suc i) at d h l m before =
    let first = before 0 p (omega arith) (omega arith) in
    holds_in pieces p.end i at d h.1 (omega arith) (omega arith) (λ k x f g. before (suc k) x (omega arith) (omega arith))

-- the piece that a search found, as an index gives it, and its bytes
pub record IsFound (pieces : List Piece) (at i : ℕ) (piece : Piece) : Type 0 where
  pub inside : i < length pieces
  pub starts : piece.end ≤ at + length (piece_bytes piece)
  pub ends : at < piece.end
  pub byte : get_or (piece_bytes piece) (at + length (piece_bytes piece) - piece.end) 0 ≡ get_or (all_bytes pieces) at 0

pub found : (pieces : List Piece) (at i : ℕ) (piece : Piece) → EndsFrom 0 pieces → i < length pieces → AllWithin (λ p. p.end ≤ at) pieces 0 i →
    AllWithin (λ p. at < p.end) pieces i (length pieces) → piece ≡ get_or pieces i piece → IsFound pieces at i piece
found pieces at i piece h l before after e =
    let Q : Piece → Type 0 = λ p. p.end ≤ at + length (piece_bytes p) in
    let R : Piece → Type 0 = λ p. at < p.end in
    record {
      inside = l;
      starts = subst Q (sym e) (holds_in pieces 0 i at piece h l (omega arith) before);
      ends = subst R (sym e) (after i piece (omega arith) l);
      byte = byte_at pieces i at piece h l before after e;
    }

-- the same of a slice of the pieces, and of a piece's bytes as a slice
pub record HoldsByte (text : List ℕ) (at : ℕ) (bytes : List ℕ) (end : ℕ) : Type 0 where
  pub starts : end ≤ at + length bytes
  pub ends : at < end
  pub byte : get_or bytes (at + length bytes - end) 0 ≡ get_or text at 0

pub place_of : (inside slice : List Piece) (text : List ℕ) (at i : ℕ) → slice ≡ inside → EndsFrom 0 inside → all_bytes inside ≡ text → at < length text →
    i ≤ length slice → AllWithin (λ p. p.end ≤ at) slice 0 i → i < length slice
place_of inside slice text at i e h view l within before = place_in slice i at (subst (EndsFrom 0) (sym e) h) within before (omega (arith, ap length (ap all_bytes e ∙ view)))

pub held : (inside slice : List Piece) (text : List ℕ) (at i : ℕ) (piece : Piece) (bytes : List ℕ) → slice ≡ inside → EndsFrom 0 inside →
    all_bytes inside ≡ text → at < length text → i ≤ length slice → AllWithin (λ p. p.end ≤ at) slice 0 i →
    AllWithin (λ p. at < p.end) slice i (length slice) → piece ≡ get_or slice i piece → bytes ≡ piece_bytes piece → HoldsByte text at bytes piece.end
held inside slice text at i piece bytes e h view l within before after is b =
    let whole : all_bytes slice ≡ text = ap all_bytes e ∙ view in
    let here = found slice at i piece (subst (EndsFrom 0) (sym e) h) (place_of inside slice text at i e h view l within before) before after is in
    let P : List ℕ → Type 0 = λ xs. HoldsByte text at xs piece.end in
    subst P (sym b) (record { starts = here.starts; ends = here.ends; byte = here.byte ∙ ap (λ t. get_or t at 0) whole })

-- the last piece ends where all do
all_end : (pieces : List Piece) (start : ℕ) (d : Piece) → EndsFrom start pieces → 0 < length pieces → (get_or pieces (length pieces - 1) d).end ≡ start + length (all_bytes pieces)
all_end [] start d h l = absurd (omega arith)
all_end (p ∷ []) start d h l = let e = h.0 in omega (arith, length-append (piece_bytes p) [])
all_end (p ∷ q ∷ pieces) start d h l =
    let e = h.0 in
    let rest = all_end (q ∷ pieces) p.end d h.1 (omega arith) in
    let last : length (p ∷ q ∷ pieces) - 1 ≡ suc (length (q ∷ pieces) - 1) = omega arith in
    ap (λ k. (get_or (p ∷ q ∷ pieces) k d).end) last ∙ rest ∙ omega (arith, length-append (piece_bytes p) (all_bytes (q ∷ pieces)))

pub size_is : (inside slice : List Piece) (text : List ℕ) (d : Piece) (i end : ℕ) → slice ≡ inside → EndsFrom 0 inside → all_bytes inside ≡ text →
    i ≡ length slice - 1 → 0 < length slice → end ≡ (get_or slice i d).end → end ≡ length text
size_is inside slice text d i end e h view is some f =
    let last = all_end slice 0 d (subst (EndsFrom 0) (sym e) h) some in
    let whole = ap length (ap all_bytes e ∙ view) in
    let at = ap (λ k. (get_or slice k d).end) is in
    omega arith

all_bytes-append : (xs ys : List Piece) → all_bytes (xs ++ ys) ≡ all_bytes xs ++ all_bytes ys
all_bytes-append [] ys = refl
all_bytes-append (x ∷ xs) ys = ap (λ t. piece_bytes x ++ t) (all_bytes-append xs ys) ∙ sym (append_assoc (piece_bytes x) (all_bytes xs) (all_bytes ys))

ends_append : (xs : List Piece) (start : ℕ) (piece : Piece) → EndsFrom start xs → piece.end ≡ start + length (all_bytes xs) + length (piece_bytes piece) →
    EndsFrom start (xs ++ piece ∷ [])
ends_append [] start piece h e = (omega (arith, e), tt)
ends_append (x ∷ xs) start piece h e = (h.0, ends_append xs x.end piece h.1 (let f = h.0 in omega (arith, e, length-append (piece_bytes x) (all_bytes xs))))

-- one piece more
pub more_bytes : (old new : List Piece) (piece : Piece) (text : List ℕ) → new ≡ old ++ piece ∷ [] → all_bytes old ≡ text → all_bytes new ≡ text ++ piece_bytes piece
more_bytes old new piece text e view = ap all_bytes e ∙ all_bytes-append old (piece ∷ []) ∙ ap (λ t. t ++ all_bytes (piece ∷ [])) view
    ∙ ap (λ t. text ++ t) (append-nil (piece_bytes piece))

pub more_ends : (old new : List Piece) (piece : Piece) (text : List ℕ) → new ≡ old ++ piece ∷ [] → all_bytes old ≡ text → EndsFrom 0 old →
    piece.end ≡ length text + length (piece_bytes piece) → EndsFrom 0 new
more_ends old new piece text e view h end = subst (EndsFrom 0) (sym e) (ends_append old 0 piece h (omega (arith, end, ap length view)))

pub not_none : (n : ℕ) → eqb n 0 ≡ false → 0 < n
not_none zero h = absurd (eqb-false 0 0 h refl)
not_none (suc n) h = omega arith

-- one piece more of a list
pub take_piece : (pieces : List Piece) (i : ℕ) (d : Piece) → i < length pieces → all_bytes (take (i + 1) pieces) ≡ all_bytes (take i pieces) ++ piece_bytes (get_or pieces i d)
take_piece pieces i d h = ap all_bytes (take_more pieces i d h) ∙ all_bytes-append (take i pieces) (get_or pieces i d ∷ [])
    ∙ ap (λ t. all_bytes (take i pieces) ++ t) (append-nil (piece_bytes (get_or pieces i d)))

pub take_within : (pieces : List Piece) (i : ℕ) (d : Piece) → i < length pieces →
    length (all_bytes (take i pieces)) + length (piece_bytes (get_or pieces i d)) ≤ length (all_bytes pieces)
take_within pieces i d h =
    let whole : all_bytes (take (i + 1) pieces) ++ all_bytes (drop (i + 1) pieces) ≡ all_bytes pieces =
    sym (all_bytes-append (take (i + 1) pieces) (drop (i + 1) pieces)) ∙ ap all_bytes (take-append-drop (i + 1) pieces) in
    omega (
      arith,
      ap length whole,
      length-append (all_bytes (take (i + 1) pieces)) (all_bytes (drop (i + 1) pieces)),
      ap length (take_piece pieces i d h),
      length-append (all_bytes (take i pieces)) (piece_bytes (get_or pieces i d)),
    )

-- the bytes up to a place, and from it on, by the piece that the place cuts
pub record IsCutIn (pieces : List Piece) (start i at : ℕ) (piece : Piece) : Type 0 where
  pub front : take (at - start) (all_bytes pieces) ≡ all_bytes (take i pieces) ++ take (at + length (piece_bytes piece) - piece.end) (piece_bytes piece)
  pub back : drop (at - start) (all_bytes pieces) ≡ drop (at + length (piece_bytes piece) - piece.end) (piece_bytes piece) ++ all_bytes (drop (i + 1) pieces)

cut_in : (pieces : List Piece) (start i at : ℕ) (d : Piece) → EndsFrom start pieces → i < length pieces → start ≤ at → AllWithin (λ p. p.end ≤ at) pieces 0 i →
    at ≤ (get_or pieces i d).end → IsCutIn pieces start i at (get_or pieces i d)
cut_in [] start i at d h l m before here = absurd (omega arith)
cut_in (p ∷ pieces) start zero at d h l m before here =
    let e = h.0 in
    let same : at - start ≡ at + length (piece_bytes p) - p.end = omega arith in
    let one : 0 + 1 ≡ suc 0 = omega arith in
    record {
      front = take-append-le (at - start) (piece_bytes p) (all_bytes pieces) (omega arith) ∙ ap (λ k. take k (piece_bytes p)) same;
      back = drop-append-le (at - start) (piece_bytes p) (all_bytes pieces) (omega arith) ∙ ap (λ k. drop k (piece_bytes p) ++ all_bytes pieces) same
          ∙ ap (λ k. drop (at + length (piece_bytes p) - p.end) (piece_bytes p) ++ all_bytes (drop k (p ∷ pieces))) (sym one);
    }
cut_in (p ∷ pieces) start (suc i) at d h l m before here =
    let e = h.0 in
    let first = before 0 p (omega arith) (omega arith) in
    let more = cut_in pieces p.end i at d h.1 (omega arith) (omega arith) (λ k x f g. before (suc k) x (omega arith) (omega arith)) here in
    let same : at - start ≡ length (piece_bytes p) + (at - p.end) = omega arith in
    let next : suc i + 1 ≡ suc (i + 1) = omega arith in
    record {
      front = ap (λ k. take k (piece_bytes p ++ all_bytes pieces)) same ∙ take-append-add (piece_bytes p) (all_bytes pieces) (at - p.end)
          ∙ ap (λ t. piece_bytes p ++ t) more.front ∙ sym (append_assoc (piece_bytes p) (all_bytes (take i pieces)) _);
      back = ap (λ k. drop k (piece_bytes p ++ all_bytes pieces)) same
          ∙ sym (drop-drop (at - p.end) (length (piece_bytes p)) (piece_bytes p ++ all_bytes pieces))
          ∙ ap (drop (at - p.end)) (drop-append_seam (piece_bytes p) (all_bytes pieces)) ∙ more.back
          ∙ ap (λ k. drop (at + length (piece_bytes (get_or pieces i d)) - (get_or pieces i d).end) (piece_bytes (get_or pieces i d)) ++ all_bytes
          (drop k (p ∷ pieces))) (sym next);
    }

pub cut : (pieces : List Piece) (i at : ℕ) (piece : Piece) → EndsFrom 0 pieces → i < length pieces → AllWithin (λ p. p.end ≤ at) pieces 0 i →
    AllWithin (λ p. at ≤ p.end) pieces i (length pieces) → piece ≡ get_or pieces i piece → IsCutIn pieces 0 i at piece
cut pieces i at piece h l before after e = subst (IsCutIn pieces 0 i at) (sym e) (cut_in pieces 0 i at piece h l (omega arith) before (after i piece (omega arith) l))

-- a place that no piece ends past is at the end
pub at_end : (pieces : List Piece) (i at : ℕ) → EndsFrom 0 pieces → i ≡ length pieces → AllWithin (λ p. p.end ≤ at) pieces 0 i → length (all_bytes pieces) ≤ at
at_end pieces i at h e before = let a = last_end pieces 0 at h (λ k x f g. before k x f (omega arith)) (omega arith) in omega arith

-- the steps of a splice
pub front_whole : (pieces : List Piece) (i at : ℕ) (self run new : List ℕ) → EndsFrom 0 pieces → i ≡ length pieces →
    AllWithin (λ p. p.end ≤ at - 1) pieces 0 i → run ≡ [] → new ≡ self ++ all_bytes (take i pieces) → new ++ run ≡ self ++ take at (all_bytes pieces)
front_whole pieces i at self run new h e before none is =
    ap (λ r. new ++ r) none ∙ append-nil new ∙ is ∙ ap (λ t. self ++ t) (ap all_bytes (take_all i pieces (omega arith))
    ∙ sym (take_all at (all_bytes pieces) (at_end pieces i at h e (λ k d f g. let a = before k d f g in omega arith))))

pub front_cut : (pieces : List Piece) (i at : ℕ) (piece : Piece) (bytes self run new more : List ℕ) → EndsFrom 0 pieces → i < length pieces →
    AllWithin (λ p. p.end ≤ at - 1) pieces 0 i → AllWithin (λ p. at - 1 < p.end) pieces i (length pieces) → piece ≡ get_or pieces i piece →
    bytes ≡ piece_bytes piece → run ≡ [] → new ≡ self ++ all_bytes (take i pieces) → more ≡ run ++ take (at + length bytes - piece.end) bytes →
    new ++ more ≡ self ++ take at (all_bytes pieces)
front_cut pieces i at piece bytes self run new more h l before after e b none is m =
    let here = cut pieces i at piece h l (λ k d f g. let a = before k d f g in omega arith) (λ k d f g. let a = after k d f g in omega arith) e in
    let same : at - 0 ≡ at = omega arith in
    ap (λ r. new ++ r) (m ∙ ap (λ r. r ++ take (at + length bytes - piece.end) bytes) none ∙ ap (λ t. take (at + length t - piece.end) t) b)
    ∙ ap (λ t. t ++ take (at + length (piece_bytes piece) - piece.end) (piece_bytes piece)) is
    ∙ append_assoc self (all_bytes (take i pieces)) (take (at + length (piece_bytes piece) - piece.end) (piece_bytes piece))
    ∙ ap (λ t. self ++ t) (sym here.front ∙ ap (λ k. take k (all_bytes pieces)) same)

pub back_whole : (pieces : List Piece) (i at : ℕ) (self run new : List ℕ) → EndsFrom 0 pieces → i ≡ length pieces → AllWithin (λ p. p.end ≤ at) pieces 0 i →
    new ≡ self ++ run → new ≡ self ++ (run ++ drop at (all_bytes pieces))
back_whole pieces i at self run new h e before is = is ∙ ap (λ t. self ++ t) (sym (append-nil run)
    ∙ ap (λ t. run ++ t) (sym (drop_all at (all_bytes pieces) (at_end pieces i at h e before))))

pub back_cut : (pieces : List Piece) (i at : ℕ) (piece : Piece) (bytes self run more mid new : List ℕ) → EndsFrom 0 pieces → i < length pieces →
    AllWithin (λ p. p.end ≤ at) pieces 0 i → AllWithin (λ p. at < p.end) pieces i (length pieces) → piece ≡ get_or pieces i piece → bytes ≡ piece_bytes piece →
    more ≡ run ++ drop (at + length bytes - piece.end) bytes → mid ≡ self ++ more → new ≡ mid ++ all_bytes (drop (i + 1) pieces) →
    new ≡ self ++ (run ++ drop at (all_bytes pieces))
back_cut pieces i at piece bytes self run more mid new h l before after e b m is n =
    let here = cut pieces i at piece h l before (λ k d f g. let a = after k d f g in omega arith) e in
    let same : at - 0 ≡ at = omega arith in
    let part = drop (at + length (piece_bytes piece) - piece.end) (piece_bytes piece) in
    let behind = all_bytes (drop (i + 1) pieces) in
    n ∙ ap (λ t. t ++ behind) (is ∙ ap (λ t. self ++ t) (m ∙ ap (λ t. run ++ drop (at + length t - piece.end) t) b))
    ∙ append_assoc self (run ++ part) behind ∙ ap (λ t. self ++ t) (append_assoc run part behind ∙ ap (λ t. run ++ t) (sym here.back ∙ ap (λ k. drop k (all_bytes pieces)) same))

pub front_within : (pieces : List Piece) (i : ℕ) → length (all_bytes (take i pieces)) ≤ length (all_bytes pieces)
front_within pieces i = omega (
  arith,
  ap length (sym (all_bytes-append (take i pieces) (drop i pieces)) ∙ ap all_bytes (take-append-drop i pieces)),
  length-append (all_bytes (take i pieces)) (all_bytes (drop i pieces)),
)

pub back_within : (pieces : List Piece) (i : ℕ) → length (all_bytes (drop i pieces)) ≤ length (all_bytes pieces)
back_within pieces i = omega (
  arith,
  ap length (sym (all_bytes-append (take i pieces) (drop i pieces)) ∙ ap all_bytes (take-append-drop i pieces)),
  length-append (all_bytes (take i pieces)) (all_bytes (drop i pieces)),
)

pub cut_starts : (pieces : List Piece) (i at : ℕ) (piece : Piece) (bytes : List ℕ) → EndsFrom 0 pieces → i < length pieces →
    AllWithin (λ p. p.end ≤ at) pieces 0 i → AllWithin (λ p. at < p.end) pieces i (length pieces) → piece ≡ get_or pieces i piece → bytes ≡ piece_bytes piece →
    (piece.end ≤ at + length bytes) × (at < piece.end)
cut_starts pieces i at piece bytes h l before after e b =
    let here = found pieces at i piece h l before after e in
    let a = here.starts in
    let c = here.ends in
    (omega (arith, ap length b), c)

pub back_room : (pieces : List Piece) (i at : ℕ) (piece : Piece) (bytes : List ℕ) → EndsFrom 0 pieces → i < length pieces →
    AllWithin (λ p. p.end ≤ at) pieces 0 i → AllWithin (λ p. at < p.end) pieces i (length pieces) → piece ≡ get_or pieces i piece → bytes ≡ piece_bytes piece →
    length (drop (at + length bytes - piece.end) bytes) + length (all_bytes (drop (i + 1) pieces)) ≤ length (all_bytes pieces)
back_room pieces i at piece bytes h l before after e b =
    let here = cut pieces i at piece h l before (λ k d f g. let a = after k d f g in omega arith) e in
    let same = ap (λ t. length (drop (at + length t - piece.end) t)) b in
    omega (
      arith,
      same,
      ap length here.back,
      length-append (drop (at + length (piece_bytes piece) - piece.end) (piece_bytes piece))
          (all_bytes (drop (i + 1) pieces)),
      length-drop (at - 0) (all_bytes pieces),
    )

pub front_starts : (pieces : List Piece) (i at : ℕ) (piece : Piece) (bytes : List ℕ) → EndsFrom 0 pieces → i < length pieces →
    AllWithin (λ p. p.end ≤ at - 1) pieces 0 i → piece ≡ get_or pieces i piece → bytes ≡ piece_bytes piece → piece.end ≤ at + length bytes
front_starts pieces i at piece bytes h l before e b =
    let Q : Piece → Type 0 = λ p. p.end ≤ at + length (piece_bytes p) in
    let held : piece.end ≤ at + length (piece_bytes piece) = subst Q (sym e) (holds_in pieces 0 i at piece h l (omega arith) (λ k d f g. let a = before k d f g in omega arith)) in
    omega (arith, held, ap length b)

pub front_ends : (pieces : List Piece) (i at : ℕ) (piece : Piece) → i < length pieces → AllWithin (λ p. at - 1 < p.end) pieces i (length pieces) →
    piece ≡ get_or pieces i piece → at ≤ piece.end
front_ends pieces i at piece l after e = let R : Piece → Type 0 = λ p. at - 1 < p.end in let a = subst R (sym e) (after i piece (omega arith) l) in omega arith

-- line ends of pieces
lines_take : (pieces : List Piece) (i j : ℕ) → i ≤ j → line_ends (all_bytes (take i pieces)) ≤ line_ends (all_bytes (take j pieces))
lines_take pieces i j l =
    let whole : all_bytes (take i (take j pieces)) ++ all_bytes (drop i (take j pieces)) ≡ all_bytes (take j pieces) =
    sym (all_bytes-append (take i (take j pieces)) (drop i (take j pieces))) ∙ ap all_bytes (take-append-drop i (take j pieces)) in
    let same = ap (λ ps. line_ends (all_bytes ps)) (take-take i j pieces l) in
    omega (arith, same, ap line_ends whole, ends-append (all_bytes (take i (take j pieces))) (all_bytes (drop i (take j pieces))))

pub to_middle_lines : (pieces : List Piece) (count middle : ℕ) (e : Piece) → CountsFrom 0 pieces → middle < length pieces →
    (get_or pieces middle e).lines < count → (k : ℕ) (d : Piece) → k < middle + 1 → (get_or pieces k d).lines < count
to_middle_lines pieces count middle e h inside low k d l =
    let a = h k d (omega arith) in let b = h middle e inside in let up = lines_take pieces (k + 1) (middle + 1) (omega arith) in omega arith

pub past_middle_lines : (pieces : List Piece) (count middle : ℕ) (e : Piece) → CountsFrom 0 pieces → count ≤ (get_or pieces middle e).lines →
    middle < length pieces → (k : ℕ) (d : Piece) → middle ≤ k → k < length pieces → count ≤ (get_or pieces k d).lines
past_middle_lines pieces count middle e h high inside k d l within =
    let a = h k d within in let b = h middle e inside in let up = lines_take pieces (middle + 1) (k + 1) (omega arith) in omega arith

-- what stands in the first pieces
pub before_some : (pieces : List Piece) (i j n : ℕ) (piece : Piece) → CountsFrom 0 pieces → i ≤ length pieces → j ≡ i - 1 → 0 < i →
    piece ≡ get_or pieces j piece → n ≡ piece.lines → n ≡ line_ends (all_bytes (take i pieces))
before_some pieces i j n piece h within is some e f =
    let k : j + 1 ≡ i = omega arith in
    let a = h j piece (omega arith) in
    let b = ap (λ p. p.lines) e in
    let c = ap (λ m. line_ends (all_bytes (take m pieces))) k in
    omega arith

end_at : (pieces : List Piece) (start i : ℕ) (d : Piece) → EndsFrom start pieces → i < length pieces → (get_or pieces i d).end ≡ start + length (all_bytes (take (i + 1) pieces))
end_at [] start i d h l = absurd (omega arith)
end_at (p ∷ pieces) start zero d h l = let e = h.0 in omega (arith, length-append (piece_bytes p) [])
end_at (p ∷ pieces) start (suc i) d h l =
    let e = h.0 in
    let rest = end_at pieces p.end i d h.1 (omega arith) in
    let n : suc i + 1 ≡ suc (i + 1) = omega arith in
    let same = ap (λ k. length (all_bytes (take k (p ∷ pieces)))) n in
    omega (arith, rest, same, length-append (piece_bytes p) (all_bytes (take (i + 1) pieces)))

-- no piece, and one piece more
pub no_pieces : (pieces : List Piece) → pieces ≡ [] → ArePieces pieces
no_pieces pieces e = subst ArePieces (sym e) (record { ends = tt; lines = λ i d h. absurd (omega arith) })

get_front : (old : List Piece) (piece : Piece) (i : ℕ) (d : Piece) → i < length old → get_or (old ++ piece ∷ []) i d ≡ get_or old i d
get_front [] piece i d h = absurd (omega arith)
get_front (p ∷ old) piece zero d h = refl
get_front (p ∷ old) piece (suc i) d h = get_front old piece i d (omega arith)

get_last : (old : List Piece) (piece : Piece) (i : ℕ) (d : Piece) → i ≡ length old → get_or (old ++ piece ∷ []) i d ≡ piece
get_last [] piece i d e = ap (λ k. get_or (piece ∷ []) k d) e
get_last (p ∷ old) piece i d e = ap (λ k. get_or (p ∷ (old ++ piece ∷ [])) k d) e ∙ get_last old piece (length old) d refl

counts_append : (old : List Piece) (piece : Piece) → CountsFrom 0 old → piece.lines ≡ line_ends (all_bytes old) + line_ends (piece_bytes piece) → CountsFrom 0 (old ++ piece ∷ [])
counts_append old piece h e i d l = ⊎_elim
    (λ (m : i < length old).
    let here = h i d m in
    let same = ap (λ p. p.lines) (get_front old piece i d m) in
    let front = ap (λ ps. line_ends (all_bytes ps)) (take-append-le (i + 1) old (piece ∷ []) (omega arith)) in
    omega arith)
    (λ (m : length old ≤ i).
    let last : i ≡ length old = omega (arith, length-append old (piece ∷ [])) in
    let same = ap (λ p. p.lines) (get_last old piece i d last) in
    let whole = ap (λ ps. line_ends (all_bytes ps)) (take_all (i + 1) (old ++ piece ∷ []) (omega (arith, length-append old (piece ∷ [])))) in
    let all = ap line_ends (all_bytes-append old (piece ∷ []) ∙ ap (λ t. all_bytes old ++ t) (append-nil (piece_bytes piece))) in
    omega (arith, ends-append (all_bytes old) (piece_bytes piece)))
    (cases_lt i (length old))

pub more_pieces : (old new : List Piece) (piece : Piece) (text : List ℕ) → new ≡ old ++ piece ∷ [] → all_bytes old ≡ text → ArePieces old →
    piece.end ≡ length text + length (piece_bytes piece) → piece.lines ≡ line_ends text + line_ends (piece_bytes piece) → ArePieces new
more_pieces old new piece text e view h end lines = record {
  ends = more_ends old new piece text e view h.ends end;
  lines = subst (CountsFrom 0) (sym e) (counts_append old piece h.lines (omega (arith, lines, ap line_ends view)));
}

-- the pieces before one, and those behind it
pub counts_front : (pieces part : List Piece) (i : ℕ) → CountsFrom 0 pieces → part ≡ take i pieces → CountsFrom 0 part
counts_front pieces part i h e = subst (CountsFrom 0) (sym e) (λ k d l.
    let some : k < i = omega (arith, length-take i pieces) in
    let here = h k d (omega (arith, length-take i pieces)) in
    let same = ap (λ p. p.lines) (get_or-take i pieces k d some) in
    let front = ap (λ ps. line_ends (all_bytes ps)) (take-take (k + 1) i pieces (omega arith)) in
    omega arith)

pub counts_back : (pieces part : List Piece) (i n : ℕ) → CountsFrom 0 pieces → part ≡ drop i pieces → n ≡ line_ends (all_bytes (take i pieces)) → CountsFrom n part
counts_back pieces part i n h e f = subst (CountsFrom n) (sym e) (λ k d l.
    let here = h (i + k) d (omega (arith, length-drop i pieces)) in
    let same = ap (λ p. p.lines) (get_or-drop i pieces k d) in
    let sum : i + k + 1 ≡ i + (k + 1) = omega arith in
    let both = ap (λ ps. line_ends (all_bytes ps)) (ap (λ m. take m pieces) sum ∙ take-add i (k + 1) pieces) in
    let apart = ap line_ends (all_bytes-append (take i pieces) (take (k + 1) (drop i pieces))) in
    omega (arith, ends-append (all_bytes (take i pieces)) (all_bytes (take (k + 1) (drop i pieces)))))

-- a piece's own line ends, by those before it
pub own_lines : (pieces : List Piece) (i before lines : ℕ) (piece : Piece) → CountsFrom before pieces → i < length pieces → piece ≡ get_or pieces i piece →
    lines ≡ before + line_ends (all_bytes (take i pieces)) → piece.lines ≡ lines + line_ends (piece_bytes piece)
own_lines pieces i before lines piece h l e f =
    let here = h i piece l in
    let one = ap line_ends (take_piece pieces i piece l) in
    let same = ap (λ p. p.lines) e in
    let own = ap (λ p. line_ends (piece_bytes p)) e in
    omega (arith, ends-append (all_bytes (take i pieces)) (piece_bytes (get_or pieces i piece)))

pub next_lines : (pieces : List Piece) (i before lines : ℕ) (piece : Piece) → CountsFrom before pieces → i < length pieces → piece ≡ get_or pieces i piece →
    lines ≡ piece.lines → lines ≡ before + line_ends (all_bytes (take (i + 1) pieces))
next_lines pieces i before lines piece h l e f = let here = h i piece l in let same = ap (λ p. p.lines) e in omega arith

-- all bytes, round a piece
whole_in : (pieces : List Piece) (i : ℕ) (d : Piece) → i < length pieces →
    all_bytes pieces ≡ all_bytes (take i pieces) ++ (piece_bytes (get_or pieces i d) ++ all_bytes (drop (i + 1) pieces))
whole_in pieces i d l = ap all_bytes (sym (take-append-drop i pieces) ∙ ap (λ t. take i pieces ++ t) (drop_more pieces i d l))
    ∙ all_bytes-append (take i pieces) (get_or pieces i d ∷ drop (i + 1) pieces)

-- the bytes up to a place in a piece
pub front_in : (pieces : List Piece) (i k : ℕ) (d : Piece) → i < length pieces → k ≤ length (piece_bytes (get_or pieces i d)) →
    take (length (all_bytes (take i pieces)) + k) (all_bytes pieces) ≡ all_bytes (take i pieces) ++ take k (piece_bytes (get_or pieces i d))
front_in pieces i k d l within =
    let front = all_bytes (take i pieces) in
    let own = piece_bytes (get_or pieces i d) in
    let behind = all_bytes (drop (i + 1) pieces) in
    ap (take (length front + k)) (whole_in pieces i d l) ∙ take-append-add front (own ++ behind) k ∙ ap (λ t. front ++ t) (take-append-le k own behind within)

-- the start of a line, from its place in a piece
pub line_start_in : (pieces : List Piece) (i k count left before end : ℕ) (piece : Piece) (bytes text : List ℕ) → CountsFrom 0 pieces → i < length pieces →
    piece ≡ get_or pieces i piece → bytes ≡ piece_bytes piece → all_bytes pieces ≡ text → before ≡ line_ends (all_bytes (take i pieces)) → before < count →
    left ≡ count - before → end ≡ length (all_bytes (take i pieces)) → IsLineStart left k bytes → IsLineStart count (end + k) text
line_start_in pieces i k count left before end piece bytes text h l e b view f some is g s =
    let front = all_bytes (take i pieces) in
    let own : bytes ≡ piece_bytes (get_or pieces i piece) = b ∙ ap piece_bytes e in
    let within = s.within in
    let here = s.ends in
    let size = ap length own in
    let whole = whole_in pieces i piece l in
    let sizes = ap length whole in
    let seam = length-append front (piece_bytes (get_or pieces i piece) ++ all_bytes (drop (i + 1) pieces)) in
    let seams = length-append (piece_bytes (get_or pieces i piece)) (all_bytes (drop (i + 1) pieces)) in
    let cut = ap (λ n. take (n + k) (all_bytes pieces)) g ∙ front_in pieces i k piece l (omega arith) ∙ ap (λ t. front ++ take k t) (sym own) in
    let counts = ap line_ends cut ∙ ends-append front (take k bytes) in
    let not_zero : 0 < k = ⊎_elim (λ (m : 0 < k). m) (λ (m : k ≤ 0). let none : k ≡ 0 = omega arith in let nothing = ap (λ n. line_ends (take n bytes)) none in
    absurd (omega arith)) (cases_lt 0 k) in
    let last : get_or (all_bytes pieces) (end + k - 1) 0 ≡ 10 = ap (λ t. get_or t (end + k - 1) 0) whole
    ∙ get_or-append_right front _ (length front) (end + k - 1) 0 refl (omega arith)
    ∙ ap (λ n. get_or (piece_bytes (get_or pieces i piece) ++ all_bytes (drop (i + 1) pieces)) n 0) (let n : end + k - 1 - length front ≡ k - 1 =
    omega arith in n) ∙ get_or-append_left _ _ (k - 1) (omega arith) ∙ ap (λ t. get_or t (k - 1) 0) (sym own) ∙ s.start not_zero in
    subst (IsLineStart count (end + k)) view (record { within = omega arith; ends = omega arith; start = λ more. last })

-- where no piece ends past the place all line ends stand before it
pub ends_to_end : (inside slice : List Piece) (text : List ℕ) (at i r : ℕ) → slice ≡ inside → EndsFrom 0 inside → all_bytes inside ≡ text → i ≡ length slice →
    AllWithin (λ p. p.end ≤ at) slice 0 i → r ≡ line_ends text → r ≡ line_ends (take at text)
ends_to_end inside slice text at i r e h view is before f =
    let all = at_end slice i at (subst (EndsFrom 0) (sym e) h) is before in
    f ∙ ap line_ends (sym (take_all at text (omega (arith, ap length (ap all_bytes e ∙ view)))))

-- the line ends before a place in a piece
pub record CutLines (text : List ℕ) (at : ℕ) (bytes : List ℕ) (end before : ℕ) : Type 0 where
  pub starts : end ≤ at + length bytes
  pub small : length (take (at + length bytes - end) bytes) ≤ at
  pub few : line_ends (take at text) ≤ at
  pub sum : before + line_ends (take (at + length bytes - end) bytes) ≡ line_ends (take at text)

pub cut_lines : (inside slice : List Piece) (text : List ℕ) (at i : ℕ) (piece : Piece) (bytes : List ℕ) (before : ℕ) → slice ≡ inside → EndsFrom 0 inside →
    all_bytes inside ≡ text → i < length slice → AllWithin (λ p. p.end ≤ at) slice 0 i → AllWithin (λ p. at < p.end) slice i (length slice) →
    piece ≡ get_or slice i piece → bytes ≡ piece_bytes piece → before ≡ line_ends (all_bytes (take i slice)) → CutLines text at bytes piece.end before
cut_lines inside slice text at i piece bytes before e h view l lower upper is b f =
    let ends : EndsFrom 0 slice = subst (EndsFrom 0) (sym e) h in
    let whole : all_bytes slice ≡ text = ap all_bytes e ∙ view in
    let here = cut slice i at piece ends l lower (λ k d p q. let a = upper k d p q in omega arith) is in
    let same : at - 0 ≡ at = omega arith in
    let front : take at text ≡ all_bytes (take i slice) ++ take (at + length bytes - piece.end) bytes = ap (take at) (sym whole)
    ∙ ap (λ k. take k (all_bytes slice)) (sym same) ∙ here.front ∙ ap (λ t. all_bytes (take i slice) ++ take (at + length t - piece.end) t) (sym b) in
    let part = take (at + length bytes - piece.end) bytes in
    record {
      starts = (cut_starts slice i at piece bytes ends l lower upper is b).0;
      small = omega (arith, ap length front, length-append (all_bytes (take i slice)) part, length-take at text);
      few = omega (arith, ends-le (take at text), length-take at text);
      sum = omega (arith, f, ap line_ends front, ends-append (all_bytes (take i slice)) part);
    }

pub counts_slice : (inside slice : List Piece) (n : ℕ) → slice ≡ inside → CountsFrom n inside → CountsFrom n slice
counts_slice inside slice n e h = subst (CountsFrom n) (sym e) h

pub piece_end : (pieces : List Piece) (i : ℕ) (piece : Piece) → EndsFrom 0 pieces → i < length pieces → piece ≡ get_or pieces i piece →
    piece.end ≡ length (all_bytes (take i pieces)) + length (piece_bytes piece)
piece_end pieces i piece h l e =
    let here = end_at pieces 0 i piece h l in
    let one = ap length (take_piece pieces i piece l) in
    let same = ap (λ p. p.end) e in
    let own = ap (λ p. length (piece_bytes p)) e in
    omega (arith, length-append (all_bytes (take i pieces)) (piece_bytes (get_or pieces i piece)))

-- the piece in which so many line ends are reached
pub counting_in : (inside slice : List Piece) (text : List ℕ) (count i : ℕ) → slice ≡ inside → CountsFrom 0 inside → all_bytes inside ≡ text → 0 < count →
    count ≤ line_ends text → i ≤ length slice → AllWithin (λ p. p.lines < count) slice 0 i → i < length slice
counting_in inside slice text count i e h view some l within before = ⊎_elim
    (λ (m : i < length slice). m)
    (λ (m : length slice ≤ i). absurd (none slice (subst (CountsFrom 0) (sym e) h) (omega (arith, ap line_ends (ap all_bytes e ∙ view))) (λ k d p q. before k d p (omega arith))))
    (cases_lt i (length slice))
  where
    none : (pieces : List Piece) → CountsFrom 0 pieces → count ≤ line_ends (all_bytes pieces) → AllWithin (λ p. p.lines < count) pieces 0 (length pieces) → ⊥
    none [] h l before = omega arith
    none (p ∷ pieces) h l before =
        let i = length (p ∷ pieces) - 1 in
        let here = h i p (omega arith) in
        let low = before i p (omega arith) (omega arith) in
        let all = ap (λ ps. line_ends (all_bytes ps)) (take_all (i + 1) (p ∷ pieces) (omega arith)) in
        omega arith

before_count : (pieces : List Piece) (count i : ℕ) (d : Piece) → CountsFrom 0 pieces → 0 < count → i < length pieces →
    AllWithin (λ p. p.lines < count) pieces 0 i → line_ends (all_bytes (take i pieces)) < count
before_count pieces count zero d h some l before = omega arith
before_count pieces count (suc i) d h some l before =
    let here = h i d (omega arith) in
    let low = before i d (omega arith) (omega arith) in
    let n : i + 1 ≡ suc i = omega arith in
    let same = ap (λ k. line_ends (all_bytes (take k pieces))) n in
    omega arith

-- what is known of that piece
pub record Reached (text : List ℕ) (count before : ℕ) (bytes : List ℕ) (end : ℕ) : Type 0 where
  pub left : count - before ≤ line_ends bytes
  pub long : length bytes ≤ end
  pub start : (k : ℕ) → IsLineStart (count - before) k bytes → IsLineStart count (end + k - length bytes) text

pub reached : (inside slice : List Piece) (text : List ℕ) (count i before : ℕ) (piece : Piece) (bytes : List ℕ) → slice ≡ inside → ArePieces inside →
    all_bytes inside ≡ text → 0 < count → i < length slice → AllWithin (λ p. p.lines < count) slice 0 i →
    AllWithin (λ p. count ≤ p.lines) slice i (length slice) → piece ≡ get_or slice i piece → bytes ≡ piece_bytes piece →
    before ≡ line_ends (all_bytes (take i slice)) → Reached text count before bytes piece.end
reached inside slice text count i before piece bytes e are view some l lower upper is b f =
    let h : CountsFrom 0 slice = subst (CountsFrom 0) (sym e) are.lines in
    let ends : EndsFrom 0 slice = subst (EndsFrom 0) (sym e) are.ends in
    let own = own_lines slice i 0 (line_ends (all_bytes (take i slice))) piece h l is (omega arith) in
    let size = piece_end slice i piece ends l is in
    let high = subst (λ p. count ≤ p.lines) (sym is) (upper i piece (omega arith) l) in
    let same = ap length b in
    let low = before_count slice count i piece h some l lower in
    record {
      left = omega (arith, own, high, f, ap line_ends b);
      long = omega (arith, size, same);
      start = λ k s.
          let at : piece.end + k - length bytes ≡ length (all_bytes (take i slice)) + k = omega (arith, size, same) in
          subst (λ n. IsLineStart count n text) (sym at) (line_start_in slice i k count (count - before) before
          (length (all_bytes (take i slice))) piece bytes text h l is b (ap all_bytes e ∙ view) f (omega (arith, f, low)) refl refl s);
    }
