-- What stands behind the first word of a line: `behind_word` finds it, and, as each run of separators or of a word's
-- bytes ends where it has to, whatever else fits is the same.
use Rattle.std.proofs.Common.{◌≡◌, ◌<◌, ◌≤◌, ◌+◌, ◌-◌, ◌==◌, ℕ, zero, suc, List, [], ◌∷◌, ◌++◌, length, get_or, drop, take, true, false, not, Bool}
use Rattle.std.proofs.Common.{◌&&◌, IsTrue, refl, ap, sym, subst, ◌∙◌, arith, cond}
use Rattle.std.proofs.lemmas.List.{take-append-drop, length-take-le, get_or-take, append-nil}
use Rattle.std.proofs.lemmas.Bool.{and_parts, cond-false, eqb-true}
use Rattle.std.proofs.Math.Dec.{eqb-suc-zero}
use Rattle.std.proofs.Math.Seq.{take-append_seam}
use Rattle.std.specs.List.{list_all, prefix_len}
use Rattle.mp_script.specs.Words.{is_separator, is_word_byte, AreSeparators, behind, behind_word, content_len, ends_word, without_end, IsBehindWord, IsTrimmed, HasOneBehindWord}
use Rattle.mp_script.proofs.WordLemmas.{one_longer}

run_passes : (p : ℕ → Bool) (xs : List ℕ) → list_all p (take (prefix_len p xs) xs) ≡ true
run_passes p [] = refl
run_passes p (x ∷ xs) = at (p x) refl (run_passes p xs)
  where
    at : (v : Bool) → p x ≡ v → list_all p (take (prefix_len p xs) xs) ≡ true → list_all p (take (cond v (1 + prefix_len p xs) 0) (x ∷ xs)) ≡ true
    at true e h =
        let one : 1 + prefix_len p xs ≡ suc (prefix_len p xs) = omega arith in
        ap (λ k. list_all p (take k (x ∷ xs))) one ∙ ap (λ v. v && list_all p (take (prefix_len p xs) xs)) e ∙ h
    at false e h = refl

run_apart : (p : ℕ → Bool) (xs : List ℕ) → xs ≡ take (prefix_len p xs) xs ++ behind p xs
run_apart p xs = sym (take-append-drop (prefix_len p xs) xs)

-- what stands behind a run begins with no byte of it
abbrev stops : (p : ℕ → Bool) → List ℕ → Type 0
stops p [] = Unit {0}
stops p (x ∷ xs) = p x ≡ false

run_stops : (p : ℕ → Bool) (xs : List ℕ) → stops p (behind p xs)
run_stops p [] = tt
run_stops p (x ∷ xs) = at (p x) refl (run_stops p xs)
  where
    at : (v : Bool) → p x ≡ v → stops p (behind p xs) → stops p (drop (cond v (1 + prefix_len p xs) 0) (x ∷ xs))
    at true e h =
        let one : 1 + prefix_len p xs ≡ suc (prefix_len p xs) = omega arith in
        subst (λ k. stops p (drop k (x ∷ xs))) (sym one) h
    at false e h = e

separates : (b : ℕ) → is_word_byte b ≡ false → is_separator b ≡ true
separates b h = elim (is_separator b) as (λ v. not v ≡ false → v ≡ true) [ true ↦ λ k. refl | false ↦ λ k. let f : true ≡ false = k in absurd (cc) ] h

word_stops : (xs : List ℕ) → stops is_word_byte xs → IsTrue (ends_word xs)
word_stops [] h = refl
word_stops (x ∷ xs) h = separates x h

-- only separators stand behind the content
rest_separates : (xs : List ℕ) → AreSeparators (drop (content_len xs) xs)
unfolding content_len
rest_separates [] = refl
rest_separates (x ∷ xs) = at (is_separator x && content_len xs == 0) refl (rest_separates xs)
  where
    at : (v : Bool) → (is_separator x && content_len xs == 0) ≡ v → AreSeparators (drop (content_len xs) xs) → AreSeparators (drop (cond v 0 (1 + content_len xs)) (x ∷ xs))
    at true e h =
        let p = and_parts (is_separator x) (content_len xs == 0) e in
        let none : content_len xs ≡ 0 = eqb-true (content_len xs) 0 p.1 in
        let rest : AreSeparators xs = subst (λ k. AreSeparators (drop k xs)) none h in
        ap (λ v. v && list_all is_separator xs) p.0 ∙ rest
    at false e h =
        let one : 1 + content_len xs ≡ suc (content_len xs) = omega arith in
        subst (λ k. AreSeparators (drop k (x ∷ xs))) (sym one) h

content_fits : (xs : List ℕ) → content_len xs ≤ length xs
unfolding content_len
content_fits [] = omega arith
content_fits (x ∷ xs) = at (is_separator x && content_len xs == 0) (content_fits xs)
  where
    at : (v : Bool) → content_len xs ≤ length xs → cond v 0 (1 + content_len xs) ≤ length (x ∷ xs)
    at true h = omega arith
    at false h = omega (arith, h)

-- the content's last byte is no separator
content_ends : (xs : List ℕ) → 0 < content_len xs → is_separator (get_or xs (content_len xs - 1) 0) ≡ false
unfolding content_len
content_ends [] h = absurd (omega arith)
content_ends (x ∷ xs) h = at (is_separator x) (content_len xs) refl (λ k. content_ends xs k) h
  where
    later : (n : ℕ) → is_separator (get_or xs (suc n - 1) 0) ≡ false → is_separator (get_or (x ∷ xs) (1 + suc n - 1) 0) ≡ false
    later n q =
        let one : 1 + suc n - 1 ≡ suc (suc n - 1) = omega arith in
        subst (λ m. is_separator (get_or (x ∷ xs) m 0) ≡ false) (sym one) q

    at : (v : Bool) (n : ℕ) → is_separator x ≡ v → (0 < n → is_separator (get_or xs (n - 1) 0) ≡ false) → 0 < cond (v && n == 0) 0 (1 + n) →
        is_separator (get_or (x ∷ xs) (cond (v && n == 0) 0 (1 + n) - 1) 0) ≡ false
    at true zero e ih k = absurd (omega arith)
    at true (suc n) e ih k =
        let none : cond (suc n == 0) 0 (1 + suc n) ≡ 1 + suc n = cond-false (suc n == 0) 0 (1 + suc n) (eqb-suc-zero n) in
        subst (λ m. is_separator (get_or (x ∷ xs) (m - 1) 0) ≡ false) (sym none) (later n (ih (omega arith)))
    at false zero e ih k = e
    at false (suc n) e ih k = later n (ih (omega arith))

first_stays : (xs : List ℕ) → stops is_separator xs → 0 < length xs → is_separator (get_or xs 0 0) ≡ false
first_stays [] h k = absurd (omega arith)
first_stays (x ∷ xs) h k = h

trimmed : (xs : List ℕ) → stops is_separator xs → IsTrimmed (without_end xs)
trimmed xs h some =
    let n = content_len xs in
    let fits = content_fits xs in
    let len = length-take-le n xs fits in
    let first : get_or (take n xs) 0 0 ≡ get_or xs 0 0 = get_or-take n xs 0 0 (omega (arith, len, some)) in
    let last : get_or (take n xs) (length (take n xs) - 1) 0 ≡ get_or xs (n - 1) 0 =
    ap (λ k. get_or (take n xs) (k - 1) 0) len ∙ get_or-take n xs (n - 1) 0 (omega (arith, len, some)) in
    (ap is_separator first ∙ first_stays xs h (omega (arith, len, some, fits)), ap is_separator last ∙ content_ends xs (omega (arith, len, some)))

-- a word begins where no separator stands, unless nothing is left
word_is_there : (xs : List ℕ) → stops is_separator xs → take (prefix_len is_word_byte xs) xs ≡ [] → xs ≡ []
word_is_there [] s e = refl
word_is_there (x ∷ xs) s e =
    let n = prefix_len is_word_byte xs in
    let w : is_word_byte x ≡ true = ap not s in
    let one : 1 + n ≡ suc n = omega arith in
    let c : take (cond true (1 + n) 0) (x ∷ xs) ≡ [] = subst (λ v. take (cond v (1 + n) 0) (x ∷ xs) ≡ []) w e in
    let d : take (suc n) (x ∷ xs) ≡ [] = subst (λ k. take k (x ∷ xs) ≡ []) one c in
    absurd (omega (arith, ap length d))

none_found : (xs : List ℕ) → xs ≡ [] → without_end (behind is_separator (behind is_word_byte xs)) ≡ []
unfolding content_len
none_found xs e = ap (λ t. without_end (behind is_separator (behind is_word_byte t))) e

is_behind : (line : List ℕ) → IsBehindWord line (behind_word line)
unfolding behind_word
is_behind line =
    let one = behind is_separator line in
    let two = behind is_word_byte one in
    let three = behind is_separator two in
    let found = without_end three in
    let after = drop (content_len three) three in
    let between = take (prefix_len is_separator two) two in
    let of_two : two ≡ between ++ (found ++ after) = run_apart is_separator two ∙ ap (λ t. between ++ t) (sym (take-append-drop (content_len three) three)) in
    record {
      before = take (prefix_len is_separator line) line;
      word = take (prefix_len is_word_byte one) one;
      between = between;
      after = after;
      all = run_apart is_separator line ∙ ap (λ t. take (prefix_len is_separator line) line ++ t)
          (run_apart is_word_byte one ∙ ap (λ t. take (prefix_len is_word_byte one) one ++ t) of_two);
      separators = (run_passes is_separator line, run_passes is_separator two, rest_separates three);
      letters = run_passes is_word_byte one;
      ends = subst (λ t. IsTrue (ends_word t)) of_two (word_stops two (run_stops is_word_byte one));
      trimmed = trimmed three (run_stops is_separator two);
      first = λ e. none_found one (word_is_there one (run_stops is_separator line) e);
    }

-- a run at the front is left out
run_left : (p : ℕ → Bool) (xs ys : List ℕ) → IsTrue (list_all p xs) → behind p (xs ++ ys) ≡ behind p ys
run_left p [] ys h = refl
run_left p (x ∷ xs) ys h =
    let passed = and_parts (p x) (list_all p xs) h in
    let n = prefix_len p (xs ++ ys) in
    let one : 1 + n ≡ suc n = omega arith in
    ap (λ v. drop (cond v (1 + n) 0) (x ∷ (xs ++ ys))) passed.0 ∙ ap (λ k. drop k (x ∷ (xs ++ ys))) one ∙ run_left p xs ys passed.1

stays : (p : ℕ → Bool) (xs : List ℕ) → stops p xs → behind p xs ≡ xs
stays p [] h = refl
stays p (x ∷ xs) h = ap (λ v. drop (cond v (1 + prefix_len p xs) 0) (x ∷ xs)) h

none_left : (p : ℕ → Bool) (xs : List ℕ) → IsTrue (list_all p xs) → behind p xs ≡ []
none_left p xs h = ap (behind p) (sym (append-nil xs)) ∙ run_left p xs [] h

-- separators at the end are no content
no_content : (xs : List ℕ) → AreSeparators xs → content_len xs ≡ 0
unfolding content_len
no_content [] h = refl
no_content (x ∷ xs) h =
    let passed = and_parts (is_separator x) (list_all is_separator xs) h in
    ap (λ v. cond (v && content_len xs == 0) 0 (1 + content_len xs)) passed.0 ∙ ap (λ k. cond (k == 0) 0 (1 + k)) (no_content xs passed.1)

same_content : (xs ys : List ℕ) → AreSeparators ys → content_len (xs ++ ys) ≡ content_len xs
unfolding content_len
same_content [] ys h = no_content ys h
same_content (x ∷ xs) ys h = ap (λ k. cond (is_separator x && k == 0) 0 (1 + k)) (same_content xs ys h)

-- what ends in no separator is content as a whole
all_content : (x : ℕ) (xs : List ℕ) → is_separator (get_or (x ∷ xs) (length (x ∷ xs) - 1) 0) ≡ false → content_len (x ∷ xs) ≡ length (x ∷ xs)
unfolding content_len
all_content x [] h = ap (λ v. cond (v && 0 == 0) 0 (1 + 0)) h
all_content x (y ∷ xs) h =
    let last : length (x ∷ y ∷ xs) - 1 ≡ suc (length (y ∷ xs) - 1) = omega arith in
    let rest = all_content y xs (sym (ap (λ k. is_separator (get_or (x ∷ y ∷ xs) k 0)) last) ∙ h) in
    let more : suc (length xs) + 1 ≡ length (x ∷ y ∷ xs) = omega arith in
    ap (λ k. cond (is_separator x && k == 0) 0 (1 + k)) rest ∙ one_longer (is_separator x) (length xs) ∙ more

only_trimmed : (found after : List ℕ) → IsTrimmed found → AreSeparators after → without_end (behind is_separator (found ++ after)) ≡ found
unfolding content_len
only_trimmed [] after t h = ap without_end (none_left is_separator after h)
only_trimmed (x ∷ found) after t h =
    let p = t (omega arith) in
    let len = same_content (x ∷ found) after h ∙ all_content x found p.1 in
    ap without_end (stays is_separator (x ∷ (found ++ after)) p.0) ∙ ap (λ k. take k (x ∷ (found ++ after))) len ∙ take-append_seam (x ∷ found) after

word_over : (xs : List ℕ) → IsTrue (ends_word xs) → stops is_word_byte xs
word_over [] h = tt
word_over (x ∷ xs) h = ap not h

no_separator : (b : ℕ) → is_word_byte b ≡ true → is_separator b ≡ false
no_separator b h = elim (is_separator b) as (λ v. not v ≡ true → v ≡ false) [ true ↦ λ k. let f : false ≡ true = k in absurd (cc) | false ↦ λ k. refl ] h

-- a word, or none, and what stands behind it
found_behind : (word between found after : List ℕ) → IsTrue (list_all is_word_byte word)
    → IsTrue (ends_word (between ++ (found ++ after))) → (word ≡ [] → found ≡ []) → AreSeparators between → AreSeparators after → IsTrimmed found
    → without_end (behind is_separator (behind is_word_byte (behind is_separator (word ++ (between ++ (found ++ after)))))) ≡ found
found_behind [] between found after l e first b a t =
    let none = first refl in
    let bare = ap (λ f. behind is_separator (between ++ (f ++ after))) none in
    let rest : behind is_separator (between ++ (found ++ after)) ≡ [] = bare ∙ run_left is_separator between after b ∙ none_left is_separator after a in
    none_found _ rest ∙ sym none
found_behind (x ∷ word) between found after l e first b a t =
    let rest = between ++ (found ++ after) in
    let letter = and_parts (is_word_byte x) (list_all is_word_byte word) l in
    let one = stays is_separator (x ∷ (word ++ rest)) (no_separator x letter.0) in
    let two = run_left is_word_byte (x ∷ word) rest l ∙ stays is_word_byte rest (word_over rest e) in
    let three = run_left is_separator between (found ++ after) b in
    ap (λ t. without_end (behind is_separator (behind is_word_byte t))) one ∙ ap (λ t. without_end (behind is_separator t)) two
    ∙ ap without_end three ∙ only_trimmed found after t a

only_behind : (line found : List ℕ) → IsBehindWord line found → found ≡ behind_word line
unfolding behind_word
only_behind line found h =
    let rest = h.between ++ (found ++ h.after) in
    let front = ap (behind is_separator) h.all ∙ run_left is_separator h.before (h.word ++ rest) h.separators.0 in
    let word = found_behind h.word h.between found h.after h.letters h.ends h.first h.separators.1 h.separators.2 h.trimmed in
    sym (ap (λ t. without_end (behind is_separator (behind is_word_byte t))) front ∙ word)

pub one_behind : (line : List ℕ) → HasOneBehindWord line
one_behind line = (is_behind line, λ found h. only_behind line found h)
