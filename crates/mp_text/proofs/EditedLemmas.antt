-- The lines of an edited text, and which of them is too long.
use Rattle.std.proofs.Common.{◌≡◌, ◌≤◌, ◌<◌, ◌+◌, ◌-◌, ◌*◌, ◌^◌, ℕ, zero, suc, List, [], ◌∷◌, ◌++◌, length, get_or, take, drop, true, false}
use Rattle.std.proofs.Common.{cond, Some, None, refl, ap, sym, ◌∙◌, arith}
use Rattle.std.specs.List.{All, position_from}
use Rattle.std.proofs.lemmas.Bool.{le-leb, lt-leb}
use Rattle.std.proofs.lemmas.List.{length-append, length-take, length-drop, get_or-take, get_or-drop}
use Rattle.mp_base.specs.declared.limits.TheConstants.{LINE_LIMIT}
use Rattle.mp_base.specs.Text.{AreLines, IsLine, bytes_of}
use Rattle.mp_base.proofs.Cuts.{lines_append}
use Rattle.mp_text.specs.Changes.{change_bytes}
use Rattle.mp_text.specs.Edits.{IsInRange, edited, line_at, new_lines, substituted}
use Rattle.mp_text.specs.Refusals.{is_long}
use Rattle.mp_text.specs.Versions.{IsText}
use Rattle.mp_text.specs.declared.edits.Edit.{Edit}
use Rattle.mp_text.specs.declared.edits.Edit.TheVariants as edit
use Rattle.mp_text.proofs.LineLemmas.{line_substituted}
use Rattle.mp_text.proofs.SizeLemmas.{all_short, length-bytes_of}

abbrev AreShort : List (List ℕ) → Type 0
AreShort text = All (λ line. length line ≤ LINE_LIMIT) text

rest_short : (line : List ℕ) (text : List (List ℕ)) → AreShort (line ∷ text) → AreShort text
rest_short line text h = λ k d l. h (suc k) d (omega arith)

not_long : (line : List ℕ) → length line ≤ LINE_LIMIT → is_long line ≡ false
not_long line h = lt-leb (suc LINE_LIMIT) _ (omega arith)

none_short : (text : List (List ℕ)) (n : ℕ) → AreShort text → position_from is_long n text ≡ None
none_short [] n h = refl
none_short (line ∷ text) n h = ap (λ v. cond v (Some n) (position_from is_long (n + 1) text)) (not_long line (h zero [] (omega arith)))
    ∙ none_short text (n + 1) (rest_short line text h)

-- lines that are short enough, before others and behind them
short_front : (xs ys : List (List ℕ)) (n : ℕ) → AreShort xs → position_from is_long n (xs ++ ys) ≡ position_from is_long (n + length xs) ys
short_front [] ys n h = let e : n ≡ n + 0 = omega arith in ap (λ k. position_from is_long k ys) e
short_front (x ∷ xs) ys n h =
    let e : n + 1 + length xs ≡ n + length (x ∷ xs) = omega arith in
    ap (λ v. cond v (Some n) (position_from is_long (n + 1) (xs ++ ys))) (not_long x (h zero [] (omega arith))) ∙ short_front xs ys (n + 1) (rest_short x xs h)
    ∙ ap (λ k. position_from is_long k ys) e

short_back : (xs ys : List (List ℕ)) (n : ℕ) → AreShort ys → position_from is_long n (xs ++ ys) ≡ position_from is_long n xs
short_back [] ys n h = none_short ys n h
short_back (x ∷ xs) ys n h = ap (λ r. cond (is_long x) (Some n) r) (short_back xs ys (n + 1) h)

short_take : (text : List (List ℕ)) (n : ℕ) → AreShort text → AreShort (take n text)
short_take text n h = λ k d l. let e = ap length (get_or-take n text k d (omega (arith, length-take n text))) in let a = h k d (omega (arith, length-take n text)) in omega arith

short_drop : (text : List (List ℕ)) (n : ℕ) → AreShort text → AreShort (drop n text)
short_drop text n h = λ k d l. let e = ap length (get_or-drop n text k d) in let a = h (n + k) d (omega (arith, length-drop n text)) in omega arith

-- the first line too long is one of those that come
long_made : (a b : ℕ) (lines text : List (List ℕ)) → AreShort text → a ≤ length text → position_from is_long 1 (take a text ++ (lines ++ drop b text))
    ≡ position_from is_long (a + 1) lines
long_made a b lines text h l =
    let e : 1 + length (take a text) ≡ a + 1 = omega (arith, length-take a text) in
    short_front (take a text) (lines ++ drop b text) 1 (short_take text a h) ∙ ap (λ k. position_from is_long k (lines ++ drop b text)) e
    ∙ short_back lines (drop b text) (a + 1) (short_drop text b h)

pub long_insert : (after : ℕ) (lines text : List (List ℕ)) → IsText text → after ≤ length text →
    position_from is_long (after + 1) lines ≡ position_from is_long 1 (edited (edit.Insert after lines) text)
unfolding edited
long_insert after lines text h l = sym (long_made after after lines text h.short l)

pub long_delete : (first last : ℕ) (text : List (List ℕ)) → IsText text → first - 1 ≤ length text → None ≡ position_from is_long 1 (edited (edit.Delete first last) text)
unfolding edited
long_delete first last text h l = sym (long_made (first - 1) last [] text h.short l)

pub long_replace : (first last : ℕ) (lines text : List (List ℕ)) → IsText text → 1 ≤ first → first - 1 ≤ length text →
    position_from is_long first lines ≡ position_from is_long 1 (edited (edit.Replace first last lines) text)
unfolding edited
long_replace first last lines text h some l = let e : first ≡ first - 1 + 1 = omega arith in ap (λ k. position_from is_long k lines) e
    ∙ sym (long_made (first - 1) last lines text h.short l)

length-substituted : (column count : ℕ) (bytes line : List ℕ) → 1 ≤ column → column + count ≤ length line + 1 →
    length (substituted column count bytes line) ≡ length bytes + (length line - count)
length-substituted column count bytes line a b =
    let rest = drop (column - 1 + count) line in
    omega (arith, length-append (take (column - 1) line) (bytes ++ rest), length-append bytes rest, length-take (column - 1) line, length-drop (column - 1 + count) line)

long_one : (line : ℕ) (bytes : List ℕ) (text : List (List ℕ)) → IsText text → 1 ≤ line → line ≤ length text →
    position_from is_long 1 (take (line - 1) text ++ (bytes ∷ drop line text)) ≡ cond (is_long bytes) (Some line) None
long_one line bytes text h a b = let e : line - 1 + 1 ≡ line = omega arith in long_made (line - 1) line (bytes ∷ []) text h.short (omega arith)
    ∙ ap (λ k. cond (is_long bytes) (Some k) None) e

pub long_sub : (line column count : ℕ) (bytes : List ℕ) (text : List (List ℕ)) → IsText text → IsInRange (edit.Sub line column count bytes) text →
    LINE_LIMIT < length bytes + (length (line_at text line) - count) → Some line ≡ position_from is_long 1 (edited (edit.Sub line column count bytes) text)
unfolding edited
long_sub line column count bytes text h r l =
    let new = substituted column count bytes (line_at text line) in
    let t : is_long new ≡ true = le-leb (suc LINE_LIMIT) _ (omega (arith, length-substituted column count bytes (line_at text line) r.2 r.3)) in
    sym (long_one line new text h r.0 r.1 ∙ ap (λ v. cond v (Some line) None) t)

pub short_sub : (line column count : ℕ) (bytes : List ℕ) (text : List (List ℕ)) → IsText text → IsInRange (edit.Sub line column count bytes) text →
    length bytes + (length (line_at text line) - count) ≤ LINE_LIMIT → None ≡ position_from is_long 1 (edited (edit.Sub line column count bytes) text)
unfolding edited
short_sub line column count bytes text h r l =
    let new = substituted column count bytes (line_at text line) in
    let t : is_long new ≡ false = not_long new (omega (arith, length-substituted column count bytes (line_at text line) r.2 r.3)) in
    sym (long_one line new text h r.0 r.1 ∙ ap (λ v. cond v (Some line) None) t)

-- where no line is too long the edit brings few bytes
lines_small : (text : List (List ℕ)) → AreShort text → length (bytes_of text) ≤ (LINE_LIMIT + 1) * length text
unfolding bytes_of
lines_small [] h = omega arith
lines_small (line ∷ text) h = omega (arith, length-bytes_of line text, h zero [] (omega arith), lines_small text (rest_short line text h))

pub few_bytes : (e : Edit) (text : List (List ℕ)) → IsText text → IsInRange e text → length (new_lines e) < 2 ^ 31 →
    position_from is_long 1 (edited e text) ≡ None → length (change_bytes e) < 2 ^ 63
unfolding edited change_bytes
few_bytes (edit.Insert after lines) text h r few none = omega
    (arith, lines_small lines (all_short lines (after + 1) (sym (long_made after after lines text h.short r) ∙ none)), few)
few_bytes (edit.Delete first last) text h r few none = omega arith
few_bytes (edit.Replace first last lines) text h r few none =
    omega (arith, lines_small lines (all_short lines (first - 1 + 1) (sym (long_made (first - 1) last lines text h.short (omega (arith, r.0, r.1, r.2))) ∙ none)), few)
few_bytes (edit.Sub line column count bytes) text h r few none =
    let new = substituted column count bytes (line_at text line) in
    let short = all_short (new ∷ []) (line - 1 + 1) (sym (long_made (line - 1) line (new ∷ []) text h.short (omega (arith, r.0, r.1))) ∙ none) in
    let one = short zero [] (omega arith) in
    omega (arith, one, length-substituted column count bytes (line_at text line) r.2 r.3)

-- the lines of an edited text
lines_take : (n : ℕ) (text : List (List ℕ)) → AreLines text → AreLines (take n text)
lines_take zero text h = tt
lines_take (suc n) [] h = tt
lines_take (suc n) (line ∷ text) h = (h.0, lines_take n text h.1)

lines_drop : (n : ℕ) (text : List (List ℕ)) → AreLines text → AreLines (drop n text)
lines_drop zero text h = h
lines_drop (suc n) [] h = tt
lines_drop (suc n) (line ∷ text) h = lines_drop n text h.1

line_is : (text : List (List ℕ)) (i : ℕ) → AreLines text → IsLine (get_or text i [])
line_is [] i h = refl
line_is (line ∷ text) zero h = h.0
line_is (line ∷ text) (suc i) h = line_is text i h.1

lines_made : (a b : ℕ) (lines text : List (List ℕ)) → AreLines lines → AreLines text → AreLines (take a text ++ (lines ++ drop b text))
lines_made a b lines text h k = lines_append (take a text) (lines ++ drop b text) (lines_take a text k) (lines_append lines (drop b text) h (lines_drop b text k))

pub lines_edited : (e : Edit) (text : List (List ℕ)) → AreLines (new_lines e) → AreLines text → AreLines (edited e text)
unfolding edited
lines_edited (edit.Insert after lines) text h k = lines_made after after lines text h k
lines_edited (edit.Delete first last) text h k = lines_made (first - 1) last [] text tt k
lines_edited (edit.Replace first last lines) text h k = lines_made (first - 1) last lines text h k
lines_edited (edit.Sub line column count bytes) text h k =
    let new = substituted column count bytes (line_at text line) in
    let is = line_substituted column count bytes (line_at text line) h.0 (line_is text (line - 1) k) in
    lines_made (line - 1) line (new ∷ []) text (is, tt) k
