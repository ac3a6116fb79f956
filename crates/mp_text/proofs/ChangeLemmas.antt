-- The bytes of an edited text are a splice of the text's bytes.
use Rattle.std.proofs.Common.{◌≡◌, ◌≤◌, ◌<◌, ◌+◌, ◌-◌, ℕ, List, [], ◌∷◌, ◌++◌, length, get_or, take, drop, refl, ap, sym, ◌∙◌, arith}
use Rattle.std.proofs.lemmas.List.{length-append, take-append-drop, append_assoc, drop_more, take-take, drop-drop, drop-append-le, take-append-le}
use Rattle.std.proofs.Math.Seq.{take-append_seam, drop-append_seam, take-append-add}
use Rattle.mp_base.specs.Text.{bytes_of, lines_of}
use Rattle.mp_base.proofs.Cuts.{bytes_of-append, lines_of-bytes_of}
use Rattle.mp_text.specs.Edits.{IsInRange, edited, line_at, substituted}
use Rattle.mp_text.specs.Changes.{size_to, change_start, change_removed, change_bytes, spliced, IsByteChange, SplicesLines}
use Rattle.mp_text.specs.declared.edits.Edit.{Edit}
use Rattle.mp_text.specs.declared.edits.Edit.TheVariants as edit

cut_at : (n : ℕ) (text : List (List ℕ)) → bytes_of (take n text) ++ bytes_of (drop n text) ≡ bytes_of text
cut_at n text = sym (bytes_of-append (take n text) (drop n text)) ∙ ap bytes_of (take-append-drop n text)

front_bytes : (n : ℕ) (text : List (List ℕ)) → take (size_to n text) (bytes_of text) ≡ bytes_of (take n text)
front_bytes n text = ap (take (size_to n text)) (sym (cut_at n text)) ∙ take-append_seam (bytes_of (take n text)) (bytes_of (drop n text))

back_bytes : (n : ℕ) (text : List (List ℕ)) → drop (size_to n text) (bytes_of text) ≡ bytes_of (drop n text)
back_bytes n text = ap (drop (size_to n text)) (sym (cut_at n text)) ∙ drop-append_seam (bytes_of (take n text)) (bytes_of (drop n text))

pub size_all : (n : ℕ) (text : List (List ℕ)) → size_to n text ≤ length (bytes_of text)
size_all n text = omega (arith, ap length (cut_at n text), length-append (bytes_of (take n text)) (bytes_of (drop n text)))

pub size_up : (m n : ℕ) (text : List (List ℕ)) → m ≤ n → size_to m text ≤ size_to n text
size_up m n text l = let a = size_all m (take n text) in let e = ap (λ t. length (bytes_of t)) (take-take m n text l) in omega arith

-- lines put in place of lines
lines_change : (m n : ℕ) (lines text : List (List ℕ)) → m ≤ n → bytes_of (take m text ++ (lines ++ drop n text)) ≡ spliced (size_to m text)
    (size_to n text - size_to m text) (bytes_of lines) (bytes_of text)
lines_change m n lines text l =
    let up = size_up m n text l in
    let sum : size_to m text + (size_to n text - size_to m text) ≡ size_to n text = omega arith in
    bytes_of-append (take m text) (lines ++ drop n text) ∙ ap (λ r. bytes_of (take m text) ++ r) (bytes_of-append lines (drop n text))
    ∙ sym (ap (λ k. take (size_to m text) (bytes_of text) ++ (bytes_of lines ++ drop k (bytes_of text))) sum
    ∙ ap (λ f. f ++ (bytes_of lines ++ drop (size_to n text) (bytes_of text))) (front_bytes m text) ∙ ap (λ b. bytes_of (take m text) ++ (bytes_of lines ++ b))
    (back_bytes n text))

pub one_line : (line : List ℕ) (text : List (List ℕ)) → bytes_of (line ∷ text) ≡ line ++ (10 ∷ bytes_of text)
unfolding bytes_of
one_line line text = refl

-- the line in its text
line_cut : (n : ℕ) (text : List (List ℕ)) → n < length text → bytes_of text ≡ bytes_of (take n text) ++ (get_or text n [] ++ (10 ∷ bytes_of (drop (n + 1) text)))
line_cut n text h = sym (cut_at n text) ∙ ap (λ t. bytes_of (take n text) ++ bytes_of t) (drop_more text n [] h)
    ∙ ap (λ b. bytes_of (take n text) ++ b) (one_line (get_or text n []) (drop (n + 1) text))

-- bytes put in place of bytes behind a front
behind : (front line new back : List ℕ) (start removed : ℕ) → start + removed ≤ length line →
    front ++ ((take start line ++ (new ++ drop (start + removed) line)) ++ back) ≡ spliced (length front + start) removed new (front ++ (line ++ back))
behind front line new back start removed l =
    let sum : length front + start + removed ≡ length front + (start + removed) = omega arith in
    let left : take (length front + start) (front ++ (line ++ back)) ≡ front ++ take start line = take-append-add front (line ++ back) start
    ∙ ap (λ t. front ++ t) (take-append-le start line back (omega arith)) in
    let right : drop (length front + start + removed) (front ++ (line ++ back)) ≡ drop (start + removed) line ++ back =
    ap (λ k. drop k (front ++ (line ++ back))) sum ∙ sym (drop-drop (start + removed) (length front) (front ++ (line ++ back)))
    ∙ ap (drop (start + removed)) (drop-append_seam front (line ++ back)) ∙ drop-append-le (start + removed) line back l in
    ap (λ t. front ++ t) (append_assoc (take start line) (new ++ drop (start + removed) line) back
    ∙ ap (λ t. take start line ++ t) (append_assoc new (drop (start + removed) line) back))
    ∙ sym (append_assoc front (take start line) (new ++ (drop (start + removed) line ++ back)))
    ∙ sym (ap (λ f. f ++ (new ++ drop (length front + start + removed) (front ++ (line ++ back)))) left ∙ ap (λ b. (front ++ take start line) ++ (new ++ b)) right)

sub_change : (line column count : ℕ) (bytes : List ℕ) (text : List (List ℕ)) → 1 ≤ line → line ≤ length text → 1 ≤ column → column + count ≤ length (line_at text line) + 1
    → bytes_of (take (line - 1) text ++ (substituted column count bytes (line_at text line) ∷ [] ++ drop line text))
    ≡ spliced (size_to (line - 1) text + (column - 1)) count bytes (bytes_of text)
sub_change line column count bytes text a b c d =
    let front = bytes_of (take (line - 1) text) in
    let old = line_at text line in
    let new = substituted column count bytes old in
    let back = 10 ∷ bytes_of (drop line text) in
    let next : line - 1 + 1 ≡ line = omega arith in
    let whole : bytes_of text ≡ front ++ (old ++ back) = line_cut (line - 1) text (omega arith) ∙ ap (λ k. front ++ (old ++ (10 ∷ bytes_of (drop k text)))) next in
    bytes_of-append (take (line - 1) text) (new ∷ drop line text) ∙ ap (λ t. front ++ t) (one_line new (drop line text))
    ∙ behind front old bytes back (column - 1) count (omega arith) ∙ ap (spliced (length front + (column - 1)) count bytes) (sym whole)

pub sub_within : (line column count : ℕ) (text : List (List ℕ)) → 1 ≤ line → line ≤ length text → 1 ≤ column →
    column + count ≤ length (line_at text line) + 1 → size_to (line - 1) text + (column - 1) + count ≤ length (bytes_of text)
sub_within line column count text a b c d =
    let front = bytes_of (take (line - 1) text) in
    let old = line_at text line in
    let back = 10 ∷ bytes_of (drop (line - 1 + 1) text) in
    let whole = ap length (line_cut (line - 1) text (omega arith)) in
    omega (arith, whole, length-append front (old ++ back), length-append old back)

pub byte_change : (e : Edit) (text : List (List ℕ)) → IsInRange e text → IsByteChange e text
unfolding edited change_start change_removed change_bytes bytes_of
byte_change (edit.Insert after lines) text h =
    let none : size_to after text - size_to after text ≡ 0 = omega arith in
    record {
      within = omega (arith, size_all after text);
      bytes = lines_change after after lines text (omega arith)
          ∙ ap (λ k. spliced (size_to after text) k (bytes_of lines) (bytes_of text)) none;
    }
byte_change (edit.Delete first last) text h =
    let a = h.0 in let b = h.1 in
    record { within = omega (arith, size_up (first - 1) last text (omega arith), size_all last text); bytes = lines_change (first - 1) last [] text (omega arith) }
byte_change (edit.Replace first last lines) text h =
    let a = h.0 in let b = h.1 in
    record { within = omega (arith, size_up (first - 1) last text (omega arith), size_all last text); bytes = lines_change (first - 1) last lines text (omega arith) }
byte_change (edit.Sub line column count bytes) text h = record {
  within = sub_within line column count text h.0 h.1 h.2 h.3;
  bytes =
      sub_change line column count bytes text h.0 h.1 h.2 h.3;
}

pub splices_lines : (e : Edit) (text : List (List ℕ)) → SplicesLines e text
splices_lines e text h lines = ap lines_of (sym (byte_change e text h).bytes) ∙ lines_of-bytes_of (edited e text) lines
