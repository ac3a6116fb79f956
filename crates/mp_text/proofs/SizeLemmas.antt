-- How many bytes a text and its lines have.
use Rattle.std.proofs.Common.{◌≡◌, ◌≤◌, ◌<◌, ◌+◌, ◌-◌, ℕ, zero, suc, List, [], ◌∷◌, ◌++◌, length, get_or, take, drop, refl, ap, sym, ◌∙◌}
use Rattle.std.proofs.Common.{arith, add-one, true, false, Option, Some, None, ⊎_elim}
use Rattle.std.specs.List.{All, position_from}
use Rattle.std.proofs.lemmas.List.{length-append, take_more}
use Rattle.std.proofs.Math.Seq.{drop-cons}
use Rattle.std.proofs.lemmas.Bool.{le-leb, lt-leb, cases_lt}
use Rattle.mp_base.specs.declared.limits.TheConstants.{LINE_LIMIT}
use Rattle.mp_base.specs.Text.{AreLines, IsLine, bytes_of}
use Rattle.mp_base.proofs.Cuts.{bytes_of-append, lines_append}
use Rattle.mp_text.specs.Edits.{line_at}
use Rattle.mp_text.specs.Refusals.{is_long}

pub length-bytes_of : (line : List ℕ) (text : List (List ℕ)) → length (bytes_of (line ∷ text)) ≡ length line + 1 + length (bytes_of text)
unfolding bytes_of
length-bytes_of line text = omega (arith, length-append line (10 ∷ bytes_of text))

-- a text has as many bytes as it has lines, at least, and as a line of it has
pub lines_few : (text : List (List ℕ)) → length text ≤ length (bytes_of text)
lines_few [] = omega arith
lines_few (line ∷ text) = omega (arith, length-bytes_of line text, lines_few text)

pub line_short : (text : List (List ℕ)) (i : ℕ) → length (get_or text i []) ≤ length (bytes_of text)
line_short [] i = omega arith
line_short (line ∷ text) zero = omega (arith, length-bytes_of line text)
line_short (line ∷ text) (suc i) = omega (arith, length-bytes_of line text, line_short text i)

-- one line more
pub bytes_more : (text : List (List ℕ)) (i : ℕ) → i < length text → bytes_of (take (i + 1) text) ≡ bytes_of (take i text) ++ (get_or text i [] ++ 10 ∷ [])
unfolding bytes_of
bytes_more text i h = ap bytes_of (take_more text i [] h) ∙ bytes_of-append (take i text) (get_or text i [] ∷ [])

pub size_more : (text : List (List ℕ)) (i : ℕ) → i < length text → length (bytes_of (take (i + 1) text)) ≡ length (bytes_of (take i text)) + (length (get_or text i []) + 1)
size_more text i h = omega (
  arith,
  ap length (bytes_more text i h),
  length-append (bytes_of (take i text)) (get_or text i [] ++ 10 ∷ []),
  length-append (get_or text i []) (10 ∷ []),
)

pub lines_more : (text : List (List ℕ)) (i : ℕ) → i < length text → AreLines (take i text) → IsLine (get_or text i []) → AreLines (take (i + 1) text)
lines_more text i h lines line = rw (take_more text i [] h) (lines_append (take i text) (get_or text i [] ∷ []) lines (line, tt))

-- the first line that is too long, where the lines before this one are not
pub long_here : (text : List (List ℕ)) (i : ℕ) {r : Option ℕ} → i < length text → LINE_LIMIT < length (get_or text i []) →
    position_from is_long (i + 1) (drop i text) ≡ r → Some (i + 1) ≡ r
long_here text i h long e =
    let p : drop i text ≡ get_or text i [] ∷ drop (i + 1) text = drop-cons text i [] h ∙ rw add-one refl in
    let q : is_long (get_or text i []) ≡ true = le-leb (suc LINE_LIMIT) _ (omega arith) in
    sym (ap (position_from is_long (i + 1)) p ∙ rw q refl) ∙ e

pub long_more : (text : List (List ℕ)) (i : ℕ) {r : Option ℕ} → i < length text → length (get_or text i []) ≤ LINE_LIMIT →
    position_from is_long (i + 1) (drop i text) ≡ r → position_from is_long (i + 1 + 1) (drop (i + 1) text) ≡ r
long_more text i h short e =
    let p : drop i text ≡ get_or text i [] ∷ drop (i + 1) text = drop-cons text i [] h ∙ rw add-one refl in
    let q : is_long (get_or text i []) ≡ false = lt-leb (suc LINE_LIMIT) _ (omega arith) in
    sym (ap (position_from is_long (i + 1)) p ∙ rw q refl) ∙ e

short_first : (line : List ℕ) (text : List (List ℕ)) (n : ℕ) → position_from is_long n (line ∷ text) ≡ None →
    (length line ≤ LINE_LIMIT) × (position_from is_long (n + 1) text ≡ None)
short_first line text n e = ⊎_elim
    (λ (long : LINE_LIMIT < length line). let q : is_long line ≡ true = le-leb (suc LINE_LIMIT) _ (omega arith) in let f : Some n ≡ None = sym (rw q refl) ∙ e in absurd (cc))
    (λ (short : length line ≤ LINE_LIMIT). let q : is_long line ≡ false = lt-leb (suc LINE_LIMIT) _ (omega arith) in
    let s : position_from is_long n (line ∷ text) ≡ position_from is_long (n + 1) text = rw q refl in (short, sym s ∙ e))
    (cases_lt LINE_LIMIT (length line))

-- where no line is too long, all are short enough
pub all_short : (text : List (List ℕ)) (n : ℕ) → position_from is_long n text ≡ None → All (λ line. length line ≤ LINE_LIMIT) text
all_short [] n e = λ k d h. absurd (omega arith)
all_short (line ∷ text) n e = let p = short_first line text n e in short_in line text p.0 (all_short text (n + 1) p.1)
  where
    short_in : (line : List ℕ) (text : List (List ℕ)) → length line ≤ LINE_LIMIT → All (λ line. length line ≤ LINE_LIMIT) text →
        All (λ line. length line ≤ LINE_LIMIT) (line ∷ text)
    short_in line text h all zero d lt = h
    short_in line text h all (suc k) d lt = all k d (omega arith)

pub line_at_short : (text : List (List ℕ)) (line : ℕ) → length (line_at text line) ≤ length (bytes_of text)
line_at_short text line = line_short text (line - 1)
