-- A text and the bytes that it is kept as.
use Rattle.std.proofs.Common.{◌≡◌, ◌≤◌, ◌+◌, ◌-◌, ℕ, List, [], ◌++◌, length, take, drop, ap, sym, subst, ◌∙◌, arith}
use Rattle.std.proofs.lemmas.List.{length-append, length-take, length-drop}
use Rattle.mp_base.specs.declared.place.At.{At}
use Rattle.mp_base.specs.Position.{position_of}
use Rattle.mp_base.specs.Text.{AreLines, bytes_of, lines_of}
use Rattle.mp_base.proofs.Cuts.{lines_of-bytes_of, lines_of_are_lines}
use Rattle.mp_text.specs.Changes.{change_bytes, change_removed, change_start, size_to, spliced}
use Rattle.mp_text.specs.Edits.{IsInRange, edited, line_at}
use Rattle.mp_text.specs.Pieces.{IsLineStart, line_ends}
use Rattle.mp_text.specs.declared.edits.Edit.{Edit}
use Rattle.mp_text.proofs.ChangeLemmas.{byte_change}
use Rattle.mp_text.proofs.LineEndLemmas.{ends_of, position_is, same_place, start_is}
use Rattle.mp_text.proofs.SizeLemmas.{size_more}

-- the bytes are those of the lines that they are seen as
pub whole : (p : List ℕ) (text : List (List ℕ)) → lines_of p ≡ text → bytes_of (lines_of p) ≡ p → p ≡ bytes_of text
whole p text view ended = sym ended ∙ ap bytes_of view

pub are_lines : (p : List ℕ) (text : List (List ℕ)) → lines_of p ≡ text → AreLines text
are_lines p text view = subst AreLines view (lines_of_are_lines p)

pub none_lines : (p : List ℕ) → p ≡ [] → lines_of p ≡ []
unfolding bytes_of
none_lines p e = ap lines_of e ∙ lines_of-bytes_of [] tt

pub none_ended : (p : List ℕ) → p ≡ [] → bytes_of (lines_of p) ≡ p
unfolding bytes_of
none_ended p e = ap bytes_of (none_lines p e) ∙ sym e

pub count_is : (p : List ℕ) (text : List (List ℕ)) (n : ℕ) → lines_of p ≡ text → bytes_of (lines_of p) ≡ p → n ≡ line_ends p → n ≡ length text
count_is p text n view ended e = e ∙ ap line_ends (whole p text view ended) ∙ ends_of text (are_lines p text view)

pub size_is : (p : List ℕ) (text : List (List ℕ)) (n at : ℕ) → lines_of p ≡ text → bytes_of (lines_of p) ≡ p → IsLineStart n at p → at ≡ size_to n text
size_is p text n at view ended s = start_is text n at (are_lines p text view) (subst (IsLineStart n at) (whole p text view ended) s)

pub position_there : (p : List ℕ) (text : List (List ℕ)) (byte before start : ℕ) → lines_of p ≡ text → bytes_of (lines_of p) ≡ p →
    byte ≤ length (bytes_of text) → before ≡ line_ends (take byte p) → IsLineStart before start p →
    ◌≡◌ {A = At} (record { line = before + 1; column = byte - start + 1 }) (position_of text byte)
position_there p text byte before start view ended within e s =
    let l = line_ends (take byte (bytes_of text)) in
    let same : before ≡ l = e ∙ ap (λ t. line_ends (take byte t)) (whole p text view ended) in
    let at : start ≡ size_to l text = size_is p text before start view ended s ∙ ap (λ k. size_to k text) same in
    same_place (before + 1) (1 + l) (byte - start + 1) (byte - size_to l text + 1) (omega arith) (omega arith) ∙ sym (position_is text 1 byte (are_lines p text view) within)

-- a line's bytes, between the sizes of the lines up to it
pub line_sizes : (text : List (List ℕ)) (line : ℕ) → 1 ≤ line → line ≤ length text → size_to line text ≡ size_to (line - 1) text + (length (line_at text line) + 1)
line_sizes text line a b = let n : line - 1 + 1 ≡ line = omega arith in sym (ap (λ k. size_to k text) n) ∙ size_more text (line - 1) (omega arith)

-- how many bytes an edited text has
pub size_edited : (e : Edit) (text : List (List ℕ)) → IsInRange e text → length (bytes_of (edited e text)) + change_removed e text
    ≡ length (bytes_of text) + length (change_bytes e)
size_edited e text h =
    let is = byte_change e text h in
    let within = is.within in
    let front = take (change_start e text) (bytes_of text) in
    let back = drop (change_start e text + change_removed e text) (bytes_of text) in
    omega (
      arith,
      ap length is.bytes,
      length-append front (change_bytes e ++ back),
      length-append (change_bytes e) back,
      length-take (change_start e text)
          (bytes_of text),
      length-drop (change_start e text + change_removed e text) (bytes_of text),
    )

-- the bytes of an edited text
pub made_bytes : (e : Edit) (p made : List ℕ) (text : List (List ℕ)) (start removed : ℕ) (new : List ℕ) → lines_of p ≡ text → bytes_of (lines_of p) ≡ p →
    IsInRange e text → start ≡ change_start e text → removed ≡ change_removed e text → new ≡ change_bytes e → made ≡ spliced start removed new p → made ≡ bytes_of (edited e text)
made_bytes e p made text start removed new view ended h a b c is =
    is ∙ ap (λ k. spliced k removed new p) a ∙ ap (λ k. spliced (change_start e text) k new p) b
    ∙ ap (λ t. spliced (change_start e text) (change_removed e text) t p) c ∙ ap (spliced (change_start e text) (change_removed e text) (change_bytes e))
    (whole p text view ended) ∙ sym (byte_change e text h).bytes

pub made_lines : (made : List ℕ) (text : List (List ℕ)) → AreLines text → made ≡ bytes_of text → lines_of made ≡ text
made_lines made text lines e = ap lines_of e ∙ lines_of-bytes_of text lines

pub made_ended : (made : List ℕ) (text : List (List ℕ)) → AreLines text → made ≡ bytes_of text → bytes_of (lines_of made) ≡ made
made_ended made text lines e = ap bytes_of (made_lines made text lines e) ∙ sym e
