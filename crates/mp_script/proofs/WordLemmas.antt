-- Words of a line, one byte after another.
use Rattle.std.proofs.Common.{◌≡◌, ◌<◌, ◌≤◌, ◌+◌, ◌-◌, ◌==◌, ℕ, suc, List, [], ◌∷◌, ◌++◌, length, get_or, drop, take, true, false, Bool, ◌&&◌, refl}
use Rattle.std.proofs.Common.{ap, sym, ◌∙◌, arith, add-one, append_assoc, cond}
use Rattle.std.proofs.Math.Seq.{drop-cons}
use Rattle.std.proofs.Math.Dec.{eqb-suc-zero}
use Rattle.std.proofs.lemmas.List.{drop_all, take_more, drop-drop, take_rest, length-take-le}
use Rattle.std.proofs.lemmas.Bool.{cond-false}
use Rattle.std.specs.List.{prefix_len}
use Rattle.mp_script.specs.Words.{is_separator, is_word_byte, word_of, words_from, content_len, behind_word, without_end, behind}

pub drop_next : (xs : List ℕ) (i : ℕ) → i < length xs → drop i xs ≡ get_or xs i 0 ∷ drop (i + 1) xs
drop_next xs i h = drop-cons xs i 0 h ∙ rw add-one refl

pub from_separator : (word : List ℕ) (b : ℕ) (bytes : List ℕ) → is_separator b ≡ true → words_from word (b ∷ bytes) ≡ word_of word ++ words_from [] bytes
unfolding words_from
from_separator word b bytes h = rw h refl

pub from_letter : (word : List ℕ) (b : ℕ) (bytes : List ℕ) → is_separator b ≡ false → words_from word (b ∷ bytes) ≡ words_from (word ++ b ∷ []) bytes
unfolding words_from
from_letter word b bytes h = rw h refl

pub from_none : (word : List ℕ) → words_from word [] ≡ word_of word
unfolding words_from
from_none word = refl

pub words_separator : (line : List ℕ) (i : ℕ) (words next : List (List ℕ)) (last : List ℕ) (begun : List ℕ) {all : List (List ℕ)} → i < length line →
    is_separator (get_or line i 0) ≡ true → words ++ words_from last (drop i line) ≡ all → next ≡ words ++ word_of last → begun ≡ [] →
    next ++ words_from begun (drop (i + 1) line) ≡ all
words_separator line i words next last begun h s e n k =
    let rest = drop (i + 1) line in
    ap (λ w. next ++ words_from w rest) k ∙ ap (λ ws. ws ++ words_from [] rest) n ∙ append_assoc words (word_of last) (words_from [] rest)
    ∙ ap (λ ws. words ++ ws) (sym (from_separator last (get_or line i 0) rest s)) ∙ ap (λ t. words ++ words_from last t) (sym (drop_next line i h)) ∙ e

pub words_letter : (line : List ℕ) (i : ℕ) (words next : List (List ℕ)) (last more : List ℕ) {all : List (List ℕ)} → i < length line →
    is_separator (get_or line i 0) ≡ false → words ++ words_from last (drop i line) ≡ all → next ≡ words → more ≡ last ++ get_or line i 0 ∷ [] →
    next ++ words_from more (drop (i + 1) line) ≡ all
words_letter line i words next last more h s e n k =
    let rest = drop (i + 1) line in
    ap (λ ws. ws ++ words_from more rest) n ∙ ap (λ w. words ++ words_from w rest) k
    ∙ ap (λ ws. words ++ ws) (sym (from_letter last (get_or line i 0) rest s)) ∙ ap (λ t. words ++ words_from last t) (sym (drop_next line i h)) ∙ e

pub words_end : (line : List ℕ) (i : ℕ) (words : List (List ℕ)) (last : List ℕ) {all : List (List ℕ)} → length line ≤ i →
    words ++ words_from last (drop i line) ≡ all → words ++ word_of last ≡ all
words_end line i words last h e = ap (λ ws. words ++ ws) (sym (from_none last)) ∙ ap (λ t. words ++ words_from last t) (sym (drop_all i line h)) ∙ e

pub one_longer : (v : Bool) (k : ℕ) → cond (v && suc k == 0) 0 (1 + suc k) ≡ suc k + 1
one_longer true k =
    let e : 1 + suc k ≡ suc k + 1 = omega arith in
    cond-false (suc k == 0) 0 (1 + suc k) (eqb-suc-zero k) ∙ e
one_longer false k = omega arith

-- one byte more at the end
content_separator : (bytes : List ℕ) (b : ℕ) → is_separator b ≡ true → content_len (bytes ++ b ∷ []) ≡ content_len bytes
unfolding content_len
content_separator [] b h = rw h refl
content_separator (x ∷ bytes) b h = rw (content_separator bytes b h) refl

content_letter : (bytes : List ℕ) (b : ℕ) → is_separator b ≡ false → content_len (bytes ++ b ∷ []) ≡ length bytes + 1
unfolding content_len
content_letter [] b h = rw h refl
content_letter (x ∷ bytes) b h =
    let more : content_len (bytes ++ b ∷ []) ≡ suc (length bytes) = omega (arith, content_letter bytes b h) in
    ap (λ k. cond (is_separator x && k == 0) 0 (1 + k)) more ∙ one_longer (is_separator x) (length bytes)

pub content_none : content_len [] ≡ 0
unfolding content_len
content_none = refl

pub content_take_separator : (line : List ℕ) (i end : ℕ) → i < length line → is_separator (get_or line i 0) ≡ true → end ≡ content_len (take i line) →
    end ≡ content_len (take (i + 1) line)
content_take_separator line i end lt h e = e ∙ sym (ap content_len (take_more line i 0 lt) ∙ content_separator (take i line) (get_or line i 0) h)

pub content_take_letter : (line : List ℕ) (i end : ℕ) → i < length line → is_separator (get_or line i 0) ≡ false → end ≡ i + 1 → end ≡ content_len (take (i + 1) line)
content_take_letter line i end lt h e =
    e ∙ ap (λ k. k + 1) (sym (length-take-le i line (omega arith))) ∙ sym (ap content_len (take_more line i 0 lt) ∙ content_letter (take i line) (get_or line i 0) h)

reached : (p : ℕ → Bool) (xs : List ℕ) (i end : ℕ) → end ≡ i + prefix_len p (drop i xs) → drop end xs ≡ behind p (drop i xs)
reached p xs i end e = ap (λ k. drop k xs) e ∙ sym (drop-drop (prefix_len p (drop i xs)) i xs)

-- the way to what stands behind the first word
pub behind_at : (line : List ℕ) (a b c n : ℕ) → a ≡ 0 + prefix_len is_separator (drop 0 line) → b ≡ a + prefix_len is_word_byte (drop a line) →
    c ≡ b + prefix_len is_separator (drop b line) → n ≡ content_len (take (length line - c) (drop c line)) →
    take n (take (length line - c) (drop c line)) ≡ behind_word line
unfolding behind_word
behind_at line a b c n ea eb ec en =
    let rest = reached is_separator line b c ec ∙ ap (behind is_separator) (reached is_word_byte line a b eb ∙ ap (behind is_word_byte) (reached is_separator line 0 a ea)) in
    ap (λ k. take k (take (length line - c) (drop c line))) en ∙ ap without_end (take_rest line c ∙ rest)
