-- What the bytes that are read ahead say of the item that stands there.
use Rattle.std.proofs.Common.{◌≡◌, ℕ, suc, ◌+◌, ◌<◌, ◌≤◌, ◌||◌, Bool, true, false, cond, eqb, List, [], ◌∷◌, drop, length, get_or, Option}
use Rattle.std.proofs.Common.{Some, None, refl, ap, sym, subst, ◌∙◌, arith, ⊎_elim}
use Rattle.std.specs.List.{prefix_len}
use Rattle.std.specs.Char.{is_ascii_alphabetic, is_ascii_alphanumeric, is_ascii_digit}
use Rattle.std.specs.Prelude.{MatchOption}
use Rattle.std.proofs.lemmas.Bool.{cases_lt, cond-true, cond-false, ne_eqb}
use Rattle.std.proofs.lemmas.List.{drop_more, drop_all}
use Rattle.mp_lex.specs.Lengths.{begins_exponent, begins_fraction, exponent_len, fraction_len, number_end_len, string_len, item_rest_len}
use Rattle.mp_lex.specs.Split.{item_len}
use Rattle.mp_lex.specs.Windows.{IsByteAt, IsRead}
use Rattle.mp_lex.proofs.Places.{two_more, exponent_yes, fraction_yes}
use Rattle.mp_lex.proofs.WindowLemmas.{read_is}
use Rattle.mp_lex.proofs.SplitLemmas.{item_len-cons}

-- a run of bytes that pass goes on, or ends
pub run_more : (p : ℕ → Bool) (text : List ℕ) (from end : ℕ) (all : ℕ) → from + end < length text → p (get_or text (from + end) 0) ≡ true →
    end + prefix_len p (drop (from + end) text) ≡ all → end + 1 + prefix_len p (drop (from + (end + 1)) text) ≡ all
run_more p text from end all l t same =
    let q : from + end + 1 ≡ from + (end + 1) = omega arith in
    let next = ap (λ k. prefix_len p (drop k text)) q in
    let one = ap (prefix_len p) (drop_more text (from + end) 0 l) ∙ cond-true (p (get_or text (from + end) 0)) (1 + prefix_len p (drop (from + end + 1) text)) 0 t in
    omega (arith, same, next, one)

pub run_stop : (p : ℕ → Bool) (text : List ℕ) (from end : ℕ) (all : ℕ) → from + end < length text → p (get_or text (from + end) 0) ≡ false →
    end + prefix_len p (drop (from + end) text) ≡ all → end ≡ all
run_stop p text from end all l t same =
    let none = ap (prefix_len p) (drop_more text (from + end) 0 l) ∙ cond-false (p (get_or text (from + end) 0)) (1 + prefix_len p (drop (from + end + 1) text)) 0 t in
    omega (arith, same, none)

pub run_none : (p : ℕ → Bool) (text : List ℕ) (from end : ℕ) (all : ℕ) → from + end ≡ length text → end + prefix_len p (drop (from + end) text) ≡ all → end ≡ all
run_none p text from end all e same = let none = ap (prefix_len p) (drop_all (from + end) text (omega arith)) in omega (arith, same, none)

-- the byte that was found
pub found : (A : Type 0) (B : ℕ → Type 0) (o : Option ℕ) (b : ℕ) → o ≡ Some b → MatchOption o A B → B b
found A B None b e m = absurd (let n : None ≡ Some b = e in cc)
found A B (Some x) b e m = let same : x ≡ b = cc in subst B same m

string_last : (b : ℕ) → eqb b 10 ≡ false → eqb b 13 ≡ false → string_len (b ∷ []) ≡ 1
string_last b e f = cond-false (eqb b 10 || eqb b 13) 0 1 (ap (λ t. t || eqb b 13) e ∙ f)

-- a byte of a string that is no quote and ends no line
string_one : (text : List ℕ) (p : ℕ) → p < length text → eqb (get_or text p 0) 39 ≡ false → eqb (get_or text p 0) 10 ≡ false →
    eqb (get_or text p 0) 13 ≡ false → string_len (drop p text) ≡ 1 + string_len (drop (p + 1) text)
string_one text p l quote line return = ⊎_elim
    (λ (m : p + 1 < length text).
    let e : p + 1 + 1 ≡ p + 2 = omega arith in
    ap string_len (two_more text p (omega arith)) ∙ cond-false (eqb (get_or text p 0) 39) _ _ quote
    ∙ cond-false (eqb (get_or text p 0) 10 || eqb (get_or text p 0) 13) _ _ (ap (λ t. t || eqb (get_or text p 0) 13) line ∙ return)
    ∙ ap (λ t. 1 + string_len t) (sym (drop_more text (p + 1) 0 m ∙ ap (λ k. get_or text (p + 1) 0 ∷ drop k text) e)))
    (λ (m : length text ≤ p + 1).
    let none : drop (p + 1) text ≡ [] = drop_all (p + 1) text m in
    ap string_len (drop_more text p 0 l ∙ ap (λ t. get_or text p 0 ∷ t) none) ∙ string_last (get_or text p 0) line return ∙ sym (ap (λ t. 1 + string_len t) none))
    (cases_lt (p + 1) (length text))

-- a quote written twice
string_two : (text : List ℕ) (p : ℕ) → p + 2 ≤ length text → get_or text p 0 ≡ 39 → get_or text (p + 1) 0 ≡ 39 → string_len (drop p text) ≡ 2 + string_len (drop (p + 2) text)
string_two text p l e f =
    ap string_len (two_more text p l) ∙ ap (λ b. string_len (b ∷ get_or text (p + 1) 0 ∷ drop (p + 2) text)) e ∙ ap (λ c. string_len (39 ∷ c ∷ drop (p + 2) text)) f

quote_some : (bs : List ℕ) → 1 ≤ string_len (39 ∷ bs)
quote_some [] = omega arith
quote_some (c ∷ bs) = elim (eqb c 39) as (λ v. 1 ≤ cond v (2 + string_len bs) 1) [ true ↦ omega arith | false ↦ omega arith ]

-- the rest of a string has a quote
pub string_some : (text : List ℕ) (from at : ℕ) (bytes : List ℕ) (byte : ℕ) → IsRead text from bytes → IsByteAt text from at bytes byte → byte ≡ 39 →
    1 ≤ string_len (drop (from + at) text)
string_some text from at bytes byte so here e =
    let within = so.within in
    let inside = here.inside in
    subst (λ t. 1 ≤ string_len t) (sym (drop_more text (from + at) 0 (omega arith) ∙ ap (λ b. b ∷ drop (from + at + 1) text) (sym here.is ∙ e)))
    (quote_some (drop (from + at + 1) text))

pub string_more : (text : List ℕ) (from at : ℕ) (bytes : List ℕ) (byte all : ℕ) → IsRead text from bytes → IsByteAt text from at bytes byte → (byte ≡ 39 → ⊥) →
    (byte ≡ 10 → ⊥) → (byte ≡ 13 → ⊥) → at + string_len (drop (from + at) text) ≡ all → at + 1 + string_len (drop (from + (at + 1)) text) ≡ all
string_more text from at bytes byte all so here quote line return same =
    let within = so.within in
    let inside = here.inside in
    let q : from + at + 1 ≡ from + (at + 1) = omega arith in
    let next = ap (λ k. string_len (drop k text)) q in
    let one = string_one text (from + at) (omega arith) (ne_eqb _ 39 (λ f. quote (here.is ∙ f))) (ne_eqb _ 10 (λ f. line (here.is ∙ f)))
    (ne_eqb _ 13 (λ f. return (here.is ∙ f))) in
    omega (arith, same, next, one)

pub string_quotes : (text : List ℕ) (from at : ℕ) (bytes new : List ℕ) (byte next all : ℕ) → IsRead text from new → IsByteAt text from at bytes byte →
    IsByteAt text from (at + 1) new next → byte ≡ 39 → next ≡ 39 → at + string_len (drop (from + at) text) ≡ all → at + 2 + string_len (drop (from + (at + 2)) text) ≡ all
string_quotes text from at bytes new byte next all so here there e f same =
    let within = so.within in
    let inside = there.inside in
    let p : from + (at + 1) ≡ from + at + 1 = omega arith in
    let q : from + at + 2 ≡ from + (at + 2) = omega arith in
    let after = ap (λ k. string_len (drop k text)) q in
    let two = string_two text (from + at) (omega arith) (sym here.is ∙ e) (ap (λ k. get_or text k 0) (sym p) ∙ sym there.is ∙ f) in
    omega (arith, same, after, two)

-- an exponent that begins here, and the digits behind its first two bytes
pub exponent_here : (text : List ℕ) (from now at : ℕ) → now ≡ from → begins_exponent (drop (from + at) text) ≡ true →
    exponent_len (drop (from + at) text) ≡ 2 + prefix_len is_ascii_digit (drop (now + (at + 2)) text)
exponent_here text from now at e t =
    let p : from + at + 2 ≡ now + (at + 2) = omega arith in
    let yes = exponent_yes text (from + at) (from + at + 2 + prefix_len is_ascii_digit (drop (from + at + 2) text)) t refl in
    let same = ap (λ k. prefix_len is_ascii_digit (drop k text)) p in
    omega (arith, yes, same)

-- a number's end that is a fraction, up to the end of its digits
pub fraction_here : (text : List ℕ) (from now at end : ℕ) → now ≡ from → begins_fraction (drop (from + at) text) ≡ true →
    end ≡ at + 2 + prefix_len is_ascii_digit (drop (now + (at + 2)) text) → end + exponent_len (drop (from + end) text) ≡ at + number_end_len (drop (from + at) text)
fraction_here text from now at end e t is =
    let p : from + at + 2 ≡ now + (at + 2) = omega arith in
    let same = ap (λ k. prefix_len is_ascii_digit (drop k text)) p in
    let yes = fraction_yes text (from + at) (from + end) (from + end + exponent_len (drop (from + end) text)) t (omega (arith, is, same)) refl in
    omega (arith, yes)

-- one that is an exponent
pub exponent_alone : (text : List ℕ) (from now at : ℕ) → now ≡ from → begins_fraction (drop (from + at) text) ≡ false →
    begins_exponent (drop (now + at) text) ≡ true → number_end_len (drop (from + at) text) ≡ 2 + prefix_len is_ascii_digit (drop (now + (at + 2)) text)
exponent_alone text from now at e none t =
    let ys = drop (from + at) text in
    let here : begins_exponent ys ≡ true = ap (λ k. begins_exponent (drop (k + at) text)) (sym e) ∙ t in
    cond-false (begins_fraction ys) (fraction_len ys + exponent_len (drop (fraction_len ys) ys)) _ none ∙ cond-true (begins_exponent ys) (exponent_len ys)
    (prefix_len is_ascii_alphanumeric ys) here ∙ exponent_here text from now at e here

-- an item, from past its first byte
rest_reach : (text : List ℕ) (from : ℕ) (bytes : List ℕ) (at x : ℕ) → IsRead text from bytes → at < length bytes → x ≡ get_or bytes at x →
    at + 1 + item_rest_len x (drop (from + (at + 1)) text) ≡ at + item_len (drop (from + at) text)
rest_reach text from bytes at x so l e =
    let within = so.within in
    let p : from + at + 1 ≡ from + (at + 1) = omega arith in
    let bs = drop (from + at + 1) text in
    let is = read_is text from bytes at x so l e in
    let len : item_len (drop (from + at) text) ≡ suc (item_rest_len x bs) = ap item_len (drop_more text (from + at) 0 (omega arith))
    ∙ item_len-cons (get_or text (from + at) 0) bs ∙ ap (λ b. suc (item_rest_len b bs)) (sym is) in
    let same = ap (λ k. item_rest_len x (drop k text)) p in
    omega (arith, len, same)

pub word_reach : (text : List ℕ) (from : ℕ) (bytes : List ℕ) (at x : ℕ) → IsRead text from bytes → at < length bytes → x ≡ get_or bytes at x →
    is_ascii_alphabetic x ≡ true → at + 1 + prefix_len is_ascii_alphanumeric (drop (from + (at + 1)) text) ≡ at + item_len (drop (from + at) text)
word_reach text from bytes at x so l e t =
    let bs = drop (from + (at + 1)) text in
    let whole = rest_reach text from bytes at x so l e in
    let here : item_rest_len x bs ≡ prefix_len is_ascii_alphanumeric bs = cond-true (is_ascii_alphabetic x) (prefix_len is_ascii_alphanumeric bs) _ t in
    omega (arith, whole, here)

pub number_reach : (text : List ℕ) (from : ℕ) (bytes : List ℕ) (at x : ℕ) → IsRead text from bytes → at < length bytes → x ≡ get_or bytes at x →
    is_ascii_alphabetic x ≡ false → is_ascii_digit x ≡ true → let bs = drop (from + (at + 1)) text in
    at + 1 + (prefix_len is_ascii_digit bs + number_end_len (drop (prefix_len is_ascii_digit bs) bs)) ≡ at + item_len (drop (from + at) text)
number_reach text from bytes at x so l e none t =
    let bs = drop (from + (at + 1)) text in
    let whole = rest_reach text from bytes at x so l e in
    let here : item_rest_len x bs ≡ prefix_len is_ascii_digit bs + number_end_len (drop (prefix_len is_ascii_digit bs) bs) =
    cond-false (is_ascii_alphabetic x) (prefix_len is_ascii_alphanumeric bs) _ none
    ∙ cond-true (is_ascii_digit x) (prefix_len is_ascii_digit bs + number_end_len (drop (prefix_len is_ascii_digit bs) bs)) _ t in
    omega (arith, whole, here)

pub string_reach : (text : List ℕ) (from : ℕ) (bytes : List ℕ) (at x : ℕ) → IsRead text from bytes → at < length bytes → x ≡ get_or bytes at x → x ≡ 39 →
    at + 1 + string_len (drop (from + (at + 1)) text) ≡ at + item_len (drop (from + at) text)
string_reach text from bytes at x so l e is =
    let bs = drop (from + (at + 1)) text in
    let whole = rest_reach text from bytes at x so l e in
    let here : item_rest_len x bs ≡ string_len bs = ap (λ b. item_rest_len b bs) is in
    omega (arith, whole, here)
