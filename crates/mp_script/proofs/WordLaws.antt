-- Each line has its words, and no others.
use Rattle.std.proofs.Common.{◌≡◌, ◌<◌, ℕ, List, [], ◌∷◌, ◌++◌, length, true, false, not, Bool, ◌&&◌, IsTrue, refl, ap, sym, subst, ◌∙◌, arith, append_assoc}
use Rattle.std.proofs.lemmas.List.{append-nil}
use Rattle.std.proofs.lemmas.Bool.{and_parts}
use Rattle.std.specs.List.{list_all}
use Rattle.mp_script.specs.Words.{is_separator, is_word_byte, AreSeparators, AreWords, ends_word, HasItsWords, word_of, words_from, words_of}
use Rattle.mp_script.proofs.WordLemmas.{from_separator, from_letter, from_none}

-- a separator in front
separator_front : (b : ℕ) (line : List ℕ) (words : List (List ℕ)) → is_separator b ≡ true → AreWords line words → AreWords (b ∷ line) words
unfolding AreWords
separator_front b line [] s h = ap (λ v. v && list_all is_separator line) s ∙ h
separator_front b line (word ∷ words) s h = record {
  gap = b ∷ h.gap;
  rest = h.rest;
  all = ap (λ t. b ∷ t) h.all;
  separators = ap (λ v. v && list_all is_separator h.gap) s ∙ h.separators;
  word = h.word;
  ends = h.ends;
  more = h.more;
}

-- a word that a separator ends, or none
word_front : (word : List ℕ) (b : ℕ) (line : List ℕ) (words : List (List ℕ)) → is_separator b ≡ true → IsTrue (list_all is_word_byte word) →
    AreWords (b ∷ line) words → AreWords (word ++ b ∷ line) (word_of word ++ words)
unfolding AreWords
word_front [] b line words s h k = k
word_front (x ∷ word) b line words s h k = record { gap = []; rest = b ∷ line; all = refl; separators = refl; word = (omega arith, h); ends = s; more = k }

letter_more : (word : List ℕ) (b : ℕ) → is_separator b ≡ false → IsTrue (list_all is_word_byte word) → IsTrue (list_all is_word_byte (word ++ b ∷ []))
letter_more [] b s h = ap (λ v. not v && true) s
letter_more (x ∷ word) b s h =
    let p = and_parts (is_word_byte x) (list_all is_word_byte word) h in
    ap (λ v. v && list_all is_word_byte (word ++ b ∷ [])) p.0 ∙ letter_more word b s p.1

words_none : (word : List ℕ) → IsTrue (list_all is_word_byte word) → AreWords (word ++ []) (words_from word [])
unfolding words_from AreWords
words_none [] h = refl
words_none (x ∷ word) h = record { gap = []; rest = []; all = refl; separators = refl; word = (omega arith, h); ends = refl; more = refl }

words_are : (bytes word : List ℕ) → IsTrue (list_all is_word_byte word) → AreWords (word ++ bytes) (words_from word bytes)
words_are [] word h = words_none word h
words_are (b ∷ bytes) word h = at (is_separator b) refl (words_are bytes [] refl) (λ k. words_are bytes (word ++ b ∷ []) k)
  where
    at : (v : Bool) → is_separator b ≡ v → AreWords bytes (words_from [] bytes) →
        (IsTrue (list_all is_word_byte (word ++ b ∷ [])) → AreWords ((word ++ b ∷ []) ++ bytes) (words_from (word ++ b ∷ []) bytes)) →
        AreWords (word ++ b ∷ bytes) (words_from word (b ∷ bytes))
    at true s blank letter = subst (AreWords (word ++ b ∷ bytes)) (sym (from_separator word b bytes s))
        (word_front word b bytes (words_from [] bytes) s h (separator_front b bytes (words_from [] bytes) s blank))
    at false s blank letter = subst (AreWords (word ++ b ∷ bytes)) (sym (from_letter word b bytes s))
        (subst (λ t. AreWords t (words_from (word ++ b ∷ []) bytes)) (append_assoc word (b ∷ []) bytes) (letter (letter_more word b s h)))

gap_skipped : (gap bytes : List ℕ) → AreSeparators gap → words_from [] (gap ++ bytes) ≡ words_from [] bytes
gap_skipped [] bytes h = refl
gap_skipped (b ∷ gap) bytes h =
    let p = and_parts (is_separator b) (list_all is_separator gap) h in
    from_separator [] b (gap ++ bytes) p.0 ∙ gap_skipped gap bytes p.1

not_separator : (b : ℕ) → is_word_byte b ≡ true → is_separator b ≡ false
not_separator b h = elim (is_separator b) as (λ v. not v ≡ true → v ≡ false) [ true ↦ λ k. let f : false ≡ true = k in absurd (cc) | false ↦ λ k. refl ] h

word_taken : (more word bytes : List ℕ) → IsTrue (list_all is_word_byte more) → words_from word (more ++ bytes) ≡ words_from (word ++ more) bytes
word_taken [] word bytes h = ap (λ w. words_from w bytes) (sym (append-nil word))
word_taken (b ∷ more) word bytes h =
    let p = and_parts (is_word_byte b) (list_all is_word_byte more) h in
    from_letter word b (more ++ bytes) (not_separator b p.0) ∙ word_taken more (word ++ b ∷ []) bytes p.1 ∙ ap (λ w. words_from w bytes) (append_assoc word (b ∷ []) more)

word_ended : (word rest : List ℕ) → IsTrue (ends_word rest) → words_from word rest ≡ word_of word ++ words_from [] rest
word_ended word [] h = from_none word ∙ sym (append-nil (word_of word)) ∙ ap (λ ws. word_of word ++ ws) (sym (from_none []))
word_ended word (b ∷ rest) h = from_separator word b rest h ∙ ap (λ ws. word_of word ++ ws) (sym (from_separator [] b rest h))

one_word : (word : List ℕ) → 0 < length word → word_of word ≡ word ∷ []
one_word [] h = absurd (omega arith)
one_word (b ∷ word) h = refl

only_words : (words : List (List ℕ)) (line : List ℕ) → AreWords line words → words ≡ words_of line
unfolding AreWords
only_words [] line h = sym (ap (words_from []) (sym (append-nil line)) ∙ gap_skipped line [] h ∙ from_none [])
only_words (word ∷ words) line h =
    let skipped = ap (words_from []) h.all ∙ gap_skipped h.gap (word ++ h.rest) h.separators in
    let taken = word_taken word [] h.rest h.word.1 ∙ word_ended word h.rest h.ends ∙ ap (λ ws. ws ++ words_from [] h.rest) (one_word word h.word.0) in
    ap (λ ws. word ∷ ws) (only_words words h.rest h.more) ∙ sym (skipped ∙ taken)

pub its_words : (line : List ℕ) → HasItsWords line
its_words line = (words_are line [] refl, λ words h. only_words words line h)
