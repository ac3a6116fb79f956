-- Lines out of bytes that come one after another, and out of pieces.
use Rattle.std.proofs.Common.{◌≡◌, ◌≢◌, ℕ, List, [], ◌∷◌, ◌++◌, ◌<◌, ◌≤◌, ◌+◌, length, get_or, take, drop, refl, ap, sym, ◌∙◌, append_assoc, add-one, arith}
use Rattle.std.proofs.lemmas.List.{append-nil, length-append, take_more, take-append-drop}
use Rattle.std.proofs.lemmas.Bool.{ne_eqb}
use Rattle.std.proofs.Math.Seq.{drop-cons}
use Rattle.mp_base.specs.Text.{IsLine, bytes_of, cut}
use Rattle.mp_base.proofs.Cuts.{line_more, line_append, cut_rest, cut_line, cut-append, cut_are_lines, joined_cut}

-- one byte more
cut_end : (bs : List ℕ) {whole : List (List ℕ)} {rest : List ℕ} → cut bs ≡ record { whole = whole; rest = rest } →
    cut (bs ++ 10 ∷ []) ≡ record { whole = whole ++ rest ∷ []; rest = [] }
unfolding cut
cut_end bs e =
    let p = cut_are_lines bs in
    rw (cut-append bs (10 ∷ []), cut_line (cut bs).rest [] p.1, e) refl

pub line_push : (rest : List ℕ) (b : ℕ) → b ≢ 10 → IsLine rest → IsLine (rest ++ b ∷ [])
line_push rest b ne h = line_append rest (b ∷ []) h (line_more b [] (ne_eqb b 10 ne) refl)

cut_other : (bs : List ℕ) (b : ℕ) {whole : List (List ℕ)} {rest : List ℕ} → cut bs ≡ record { whole = whole; rest = rest } → b ≢ 10 →
    cut (bs ++ b ∷ []) ≡ record { whole = whole; rest = rest ++ b ∷ [] }
cut_other bs b {whole} {rest} e ne =
    let p = cut_are_lines bs in
    rw (cut-append bs (b ∷ []), cut_rest ((cut bs).rest ++ b ∷ []) (line_push (cut bs).rest b ne p.1), e, append-nil whole) refl

pub cut_take_end : (bs : List ℕ) (i : ℕ) {whole : List (List ℕ)} {rest : List ℕ} → i < length bs → get_or bs i 0 ≡ 10 →
    cut (take i bs) ≡ record { whole = whole; rest = rest } → cut (take (i + 1) bs) ≡ record { whole = whole ++ rest ∷ []; rest = [] }
cut_take_end bs i h k e = rw (take_more bs i 0 h, k) (cut_end (take i bs) e)

pub cut_take_other : (bs : List ℕ) (i : ℕ) {whole : List (List ℕ)} {rest : List ℕ} → i < length bs → get_or bs i 0 ≢ 10 →
    cut (take i bs) ≡ record { whole = whole; rest = rest } → cut (take (i + 1) bs) ≡ record { whole = whole; rest = rest ++ get_or bs i 0 ∷ [] }
cut_take_other bs i h k e = rw (take_more bs i 0 h) (cut_other (take i bs) (get_or bs i 0) e k)

-- a piece that ends no line
pub cut_no_end : (rest piece : List ℕ) → IsLine rest → IsLine piece → cut (rest ++ piece) ≡ record { whole = []; rest = rest ++ piece }
cut_no_end rest piece h k = cut_rest (rest ++ piece) (line_append rest piece h k)

-- a piece whose first line end stands at a place
pub cut_first_end : (rest piece : List ℕ) (at : ℕ) {whole : List (List ℕ)} {tail : List ℕ} → IsLine rest → IsLine (take at piece) →
    at < length piece → get_or piece at 0 ≡ 10 → cut (drop (at + 1) piece) ≡ record { whole = whole; rest = tail } →
    cut (rest ++ piece) ≡ record { whole = (rest ++ take at piece) ∷ whole; rest = tail }
cut_first_end rest piece at h k lt e d =
    let p : piece ≡ take at piece ++ (10 ∷ drop (at + 1) piece) =
    sym (take-append-drop at piece) ∙ ap (λ t. take at piece ++ t) (drop-cons piece at 0 lt ∙ rw (add-one, e) refl) in
    ap (λ t. cut (rest ++ t)) p ∙ ap cut (sym (append_assoc rest (take at piece) (10 ∷ drop (at + 1) piece)))
    ∙ cut_line (rest ++ take at piece) (drop (at + 1) piece) (line_append rest (take at piece) h k) ∙ rw d refl

pub same_cut : (bs : List ℕ) {whole lines : List (List ℕ)} {rest last : List ℕ} → cut bs ≡ record { whole = whole; rest = rest } → lines ≡ whole →
    last ≡ rest → cut bs ≡ record { whole = lines; rest = last }
same_cut bs e p q = rw (p, q) e

pub cut_none : cut [] ≡ record { whole = []; rest = [] }
unfolding cut
cut_none = refl

bytes_count : (text : List (List ℕ)) → length text ≤ length (bytes_of text)
unfolding bytes_of
bytes_count [] = omega arith
bytes_count (line ∷ text) = omega (arith, length-append line (10 ∷ bytes_of text), bytes_count text)

-- each line that is ended takes a byte of its own
pub cut_count : (bytes : List ℕ) → length (cut bytes).whole + length (cut bytes).rest ≤ length bytes
cut_count bytes = omega (arith, ap length (joined_cut bytes), length-append (bytes_of (cut bytes).whole) (cut bytes).rest, bytes_count (cut bytes).whole)
