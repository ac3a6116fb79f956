-- Line ends of bytes, and where the lines of a text start among them.
use Rattle.std.proofs.Common.{◌≡◌, ◌≤◌, ◌<◌, ◌+◌, ◌-◌, Bool, ℕ, zero, suc, List, [], ◌∷◌, ◌++◌, length, get_or, take, ◌==◌, true, false}
use Rattle.std.proofs.Common.{cond, nat_le, refl, ap, sym, ◌∙◌, arith, ⊎_elim}
use Rattle.std.proofs.lemmas.Bool.{cases_lt, false≢true, le-leb, lt-leb}
use Rattle.std.proofs.lemmas.List.{length-append, get_or-append_right, take-append-le, take-take}
use Rattle.std.proofs.lemmas.List.Sums.{sum_by-append, sum_by-cons, sum_by-take-le, count_by-le-length, count_by_more_yes}
use Rattle.std.proofs.Math.Seq.{take-append-add}
use Rattle.mp_base.specs.Text.{AreLines, IsLine, bytes_of}
use Rattle.mp_base.specs.Position.{position_from}
use Rattle.mp_base.specs.declared.place.At.{At}
use Rattle.mp_base.proofs.Cuts.{line_head}
use Rattle.mp_text.specs.Changes.{size_to}
use Rattle.mp_text.specs.Pieces.{IsLineStart, line_ends}
use Rattle.mp_text.proofs.LineLemmas.{line_take}
use Rattle.mp_text.proofs.SizeLemmas.{length-bytes_of}

pub ends-append : (xs ys : List ℕ) → line_ends (xs ++ ys) ≡ line_ends xs + line_ends ys
ends-append xs ys = sum_by-append _ xs ys

ends-cons : (b : ℕ) (bs : List ℕ) → line_ends (b ∷ bs) ≡ cond (b == 10) 1 0 + line_ends bs
ends-cons b bs = sum_by-cons _ b bs

none_if : (v : Bool) → v ≡ false → cond {A = ℕ} v 1 0 ≡ 0
none_if true e = absurd (false≢true (sym e))
none_if false e = refl

-- a line has none
pub ends_line : (line : List ℕ) → IsLine line → line_ends line ≡ 0
ends_line [] h = refl
ends_line (b ∷ line) h = let p = line_head b line h in omega (arith, ends-cons b line, none_if (b == 10) p.0, ends_line line p.1)

-- a line with its line end, before other bytes
ends_past : (line bs : List ℕ) → IsLine line → line_ends (line ++ (10 ∷ bs)) ≡ 1 + line_ends bs
ends_past line bs h = omega (arith, ends-append line (10 ∷ bs), ends_line line h, ends-cons 10 bs)

-- a text has as many lines as its bytes have line ends
pub ends_of : (text : List (List ℕ)) → AreLines text → line_ends (bytes_of text) ≡ length text
unfolding bytes_of
ends_of [] h = refl
ends_of (line ∷ text) h = omega (arith, ends_past line (bytes_of text) h.0, ends_of text h.1)

pub ends_front : (bytes : List ℕ) (m n : ℕ) → m ≤ n → line_ends (take m bytes) ≤ line_ends (take n bytes)
ends_front bytes m n l = let e = ap line_ends (take-take m n bytes l) in let le = sum_by-take-le (λ b. cond (b == 10) 1 0) (take n bytes) m in omega arith

pub ends_whole : (bytes : List ℕ) (m : ℕ) → line_ends (take m bytes) ≤ line_ends bytes
ends_whole bytes m = sum_by-take-le (λ b. cond (b == 10) 1 0) bytes m

pub ends-le : (bytes : List ℕ) → line_ends bytes ≤ length bytes
ends-le bytes = count_by-le-length (λ b. b == 10) bytes

-- a line end is counted
counted : (bytes : List ℕ) (at : ℕ) → 0 < at → at ≤ length bytes → get_or bytes (at - 1) 0 ≡ 10 → line_ends (take at bytes) ≡ line_ends (take (at - 1) bytes) + 1
counted bytes at some within e =
    let one : at - 1 + 1 ≡ at = omega arith in
    ap (λ k. line_ends (take k bytes)) (sym one) ∙ count_by_more_yes (λ b. b == 10) bytes (at - 1) 0 (omega arith) (ap (λ b. b == 10) e)

-- the start of the line that holds a byte is not past it
pub start_low : (bytes : List ℕ) (n at byte : ℕ) → IsLineStart n at bytes → n ≡ line_ends (take byte bytes) → at ≤ byte
start_low bytes n at byte s e = ⊎_elim
    (λ (l : byte < at).
    let within = s.within in
    let more = counted bytes at (omega arith) within (s.start (omega arith)) in
    let less = ends_front bytes byte (at - 1) (omega arith) in
    let here = s.ends in
    absurd (omega arith))
    (λ (l : at ≤ byte). l)
    (cases_lt byte at)

-- bytes past the first line
take_past : (line bs : List ℕ) (k : ℕ) → length line < k → take k (line ++ (10 ∷ bs)) ≡ line ++ (10 ∷ take (k - (length line + 1)) bs)
take_past line bs k l =
    let m = k - (length line + 1) in
    let e : k ≡ length line + suc m = omega arith in
    ap (λ j. take j (line ++ (10 ∷ bs))) e ∙ take-append-add line (10 ∷ bs) (suc m)

none_within : (line bs : List ℕ) (k : ℕ) → IsLine line → k ≤ length line → line_ends (take k (line ++ (10 ∷ bs))) ≡ 0
none_within line bs k h l = ap line_ends (take-append-le k line (10 ∷ bs) l) ∙ ends_line (take k line) (line_take k line h)

more_past : (line bs : List ℕ) (k : ℕ) → IsLine line → length line < k → line_ends (take k (line ++ (10 ∷ bs))) ≡ 1 + line_ends (take (k - (length line + 1)) bs)
more_past line bs k h l = ap line_ends (take_past line bs k l) ∙ ends_past line (take (k - (length line + 1)) bs) h

-- where a line starts
start_none : (n : ℕ) → size_to n [] ≡ 0
unfolding bytes_of
start_none zero = refl
start_none (suc n) = refl

pub start_is : (text : List (List ℕ)) (n at : ℕ) → AreLines text → IsLineStart n at (bytes_of text) → at ≡ size_to n text
unfolding bytes_of
start_is [] n at h s = let within = s.within in omega (arith, start_none n)
start_is (line ∷ text) zero at h s = ⊎_elim
    (λ (l : 0 < at). let more = counted (bytes_of (line ∷ text)) at l s.within (s.start l) in let here = s.ends in absurd (omega arith))
    (λ (l : at ≤ 0). omega arith)
    (cases_lt 0 at)
start_is (line ∷ text) (suc n) at h s = ⊎_elim
    (λ (l : length line < at).
    let m = at - (length line + 1) in
    let bs = bytes_of text in
    let here = s.ends in
    let within = s.within in
    let size = length-append line (10 ∷ bs) in
    let more = more_past line bs at h.0 l in
    let rest : IsLineStart n m bs = record { within = omega arith; ends = omega arith; start = λ some. byte_past line bs at m l refl some (s.start (omega arith)) } in
    let e = start_is text n m h.1 rest in
    omega (arith, e, length-bytes_of line (take n text)))
    (λ (l : at ≤ length line). let none = none_within line (bytes_of text) at h.0 l in let here = s.ends in absurd (omega arith))
    (cases_lt (length line) at)
  where
    byte_past : (line bs : List ℕ) (at m : ℕ) → length line < at → m ≡ at - (length line + 1) → 0 < m → get_or (line ++ (10 ∷ bs)) (at - 1) 0 ≡ 10 → get_or bs (m - 1) 0 ≡ 10
    byte_past line bs at m l is some e =
        let k : at - 1 - length line ≡ suc (m - 1) = omega arith in
        sym (get_or-append_right line (10 ∷ bs) (length line) (at - 1) 0 refl (omega arith) ∙ ap (λ j. get_or (10 ∷ bs) j 0) k) ∙ e

abbrev pub place_at : ℕ → ℕ → At
place_at line column = record { line = line; column = column }

pub same_place : (a b x y : ℕ) → a ≡ b → x ≡ y → place_at a x ≡ place_at b y
same_place a b x y e f = ap (λ k. place_at k x) e ∙ ap (place_at b) f

-- The line of a byte is told by the line ends before it, and its column by the start of that line.
pub position_is : (text : List (List ℕ)) (number byte : ℕ) → AreLines text → byte ≤ length (bytes_of text) → let l = line_ends (take byte (bytes_of text)) in
    position_from number text byte ≡ place_at (number + l) (byte - size_to l text + 1)
unfolding bytes_of position_from
position_is [] number byte h within =
    let none : line_ends (take byte []) ≡ 0 = let le = ends_whole [] byte in omega arith in
    same_place number (number + line_ends (take byte [])) 1 (byte - size_to (line_ends (take byte [])) [] + 1) (omega arith) (omega arith)
position_is (line ∷ text) number byte h within = ⊎_elim
    (λ (l : length line < byte).
    let bs = bytes_of text in
    let k = byte - (length line + 1) in
    let size = length-append line (10 ∷ bs) in
    let q : nat_le byte (length line) ≡ false = lt-leb _ _ (omega arith) in
    let more = more_past line bs byte h.0 l in
    let ih = position_is text (number + 1) k h.1 (omega arith) in
    let n : line_ends (take byte (line ++ (10 ∷ bs))) ≡ suc (line_ends (take k bs)) = omega arith in
    let start = length-bytes_of line (take (line_ends (take k bs)) text) in
    let same = ap (λ j. size_to j (line ∷ text)) n in
    ap (λ v. cond v (place_at number (byte + 1)) (position_from (number + 1) text k)) q ∙ ih ∙ same_place _ _ _ _ (omega arith) (omega arith))
    (λ (l : byte ≤ length line).
    let q : nat_le byte (length line) ≡ true = le-leb _ _ l in
    let none = none_within line (bytes_of text) byte h.0 l in
    let same = ap (λ j. size_to j (line ∷ text)) none in
    ap (λ v. cond v (place_at number (byte + 1)) (position_from (number + 1) text (byte - (length line + 1)))) q ∙ same_place _ _ _ _ (omega arith) (omega arith))
    (cases_lt (length line) byte)
