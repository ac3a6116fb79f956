-- What the bytes that were read say of the text. Two bytes past an item decide, so an item that they leave open is one
-- that goes at least as far.
use Rattle.std.proofs.Common.{◌≡◌, ℕ, suc, ◌+◌, ◌-◌, ◌<◌, ◌≤◌, ◌==◌, ◌&&◌, Bool, true, false, cond, eqb, List, [], ◌∷◌, ◌++◌, take, drop}
use Rattle.std.proofs.Common.{length, get_or, refl, ap, sym, subst, ◌∙◌, arith, ⊎_elim}
use Rattle.std.proofs.lemmas.Bool.{cases_lt, ne_eqb, cond-false, and_right, false≢true, eqb-true, eqb-false}
use Rattle.std.proofs.lemmas.List.{length-append, length-drop, drop-drop, drop-take, take-take, take_all, take_more, drop_more, drop_all, get_or_default, get_or-drop, get_or-take}
use Rattle.std.specs.Prelude.{MatchBool}
use Rattle.mp_lex.specs.Items.{is_item}
use Rattle.mp_lex.specs.Lengths.{comment_len, item_rest_len}
use Rattle.mp_lex.specs.Split.{IsLongest, item_len}
use Rattle.mp_lex.proofs.Places.{two_more}
use Rattle.mp_lex.specs.Windows.{IsRead, IsItemTo, IsDecided, IsUndecided, CommentGoesOn}
use Rattle.mp_lex.proofs.SplitLemmas.{item_len_is, item_len-cons, item_some}
use Rattle.mp_lex.proofs.Longest.{item_longest}
use Rattle.mp_lex.proofs.TwoBytes.{two_bytes_longest}

pub read_none : (text : List ℕ) (from : ℕ) (bytes : List ℕ) → from ≤ length text → bytes ≡ [] → IsRead text from bytes
read_none text from bytes h e = subst (IsRead text from) (sym e) (record { within = omega arith; bytes_are = refl })

pub read_one : (text : List ℕ) (from : ℕ) (bytes new : List ℕ) (byte : ℕ) → IsRead text from bytes → from + length bytes < length text →
    byte ≡ get_or text (from + length bytes) 0 → new ≡ bytes ++ byte ∷ [] → IsRead text from new
read_one text from bytes new byte so more b e =
    let n = length bytes in
    let len : length new ≡ n + 1 = ap length e ∙ length-append bytes (byte ∷ []) in
    let one : take (n + 1) (drop from text) ≡ take n (drop from text) ++ get_or (drop from text) n 0 ∷ [] =
    take_more (drop from text) n 0 (omega (arith, length-drop from text)) in
    record {
      within = omega (arith, len);
      bytes_are = e ∙ ap (λ t. t ++ byte ∷ []) so.bytes_are ∙ ap (λ x. take n (drop from text) ++ x ∷ []) (b ∙ sym (get_or-drop from text n 0)) ∙ sym one
          ∙ ap (λ k. take k (drop from text)) (sym len);
    }

-- what was read from a place on
known : (text : List ℕ) (from : ℕ) (bytes : List ℕ) (at : ℕ) → IsRead text from bytes → at ≤ length bytes → drop at bytes ≡ take (length bytes - at) (drop (from + at) text)
known text from bytes at so l =
    let e : length bytes ≡ at + (length bytes - at) = omega arith in
    ap (drop at) (so.bytes_are ∙ ap (λ k. take k (drop from text)) e) ∙ drop-take at (length bytes - at) (drop from text) ∙ ap (take (length bytes - at)) (drop-drop at from text)

pub item_decided : (text : List ℕ) (from : ℕ) (bytes : List ℕ) (at end : ℕ) (whole : Bool) → IsRead text from bytes → IsDecided bytes at end whole →
    (whole ≡ true → from + length bytes ≡ length text) → IsItemTo text from at end
item_decided text from bytes at end false so is all =
    let n = end - at in
    let later = is.later in
    let within = is.within in
    let two = is.decides refl in
    let same : take (n + 2) (drop (from + at) text) ≡ take (n + 2) (drop at bytes) = sym (ap (take (n + 2)) (known text from bytes at so (omega arith))
    ∙ take-take (n + 2) (length bytes - at) (drop (from + at) text) (omega arith)) in
    record { later = later; longest = two_bytes_longest n (drop at bytes) (drop (from + at) text) is.longest same }
item_decided text from bytes at end true so is all =
    let later = is.later in
    let within = is.within in
    let e = all refl in
    let same : drop at bytes ≡ drop (from + at) text = known text from bytes at so (omega arith) ∙ take_all (length bytes - at) (drop (from + at) text)
    (omega (arith, length-drop (from + at) text)) in
    record { later = later; longest = subst (IsLongest is_item (end - at)) same is.longest }

-- a text that goes on has an item at its front
pub item_of_more : (text : List ℕ) → 0 < length text → IsLongest is_item (item_len text) text
item_of_more [] h = absurd (omega arith)
item_of_more (b ∷ bs) h = subst (λ k. IsLongest is_item k (b ∷ bs)) (sym (item_len-cons b bs)) (item_longest b bs)

-- an item that is not decided goes on to the last byte but one, or further
pub item_open : (text : List ℕ) (from : ℕ) (bytes : List ℕ) (at : ℕ) (whole : Bool) → IsRead text from bytes → from + at < length text →
    IsUndecided bytes at whole → length bytes + 1 ≤ at + item_len (drop (from + at) text) + 2
item_open text from bytes at whole so more is =
    let rest = drop (from + at) text in
    let n = item_len rest in
    ⊎_elim (λ (a : at + n + 2 < length bytes + 1).
    let same : take (n + 2) (drop at bytes) ≡ take (n + 2) rest = ap (take (n + 2)) (known text from bytes at so (omega arith))
    ∙ take-take (n + 2) (length bytes - at) rest (omega arith) in
    let again = two_bytes_longest n rest (drop at bytes) (item_of_more rest (omega (arith, length-drop (from + at) text))) same in
    let b = is.more n again in
    absurd (omega arith))
    (λ b. b)
    (cases_lt (at + n + 2) (length bytes + 1))

pub undecided_end : (bytes : List ℕ) (at end : ℕ) (whole : Bool) → at < end → IsLongest is_item (end - at) (drop at bytes) → length bytes < end + 2 →
    whole ≡ false → IsUndecided bytes at whole
undecided_end bytes at end whole later longest l none = record {
  more = λ n other.
      let one = item_len_is (drop at bytes) n other in
      let two = item_len_is (drop at bytes) (end - at) longest in
      omega arith;
  last = λ all. absurd (false≢true (sym none ∙ all));
}

-- no item begins past the last byte
pub undecided_last : (bytes : List ℕ) (at : ℕ) (whole : Bool) → at ≡ length bytes → IsUndecided bytes at whole
undecided_last bytes at whole e = record {
  more = λ n other.
      let some = item_some (drop at bytes) n other in
      let within = other.within in
      absurd (omega (arith, length-drop at bytes));
  last = λ all. e;
}

-- where the item is not decided there is a byte more
pub more_bytes : (text : List ℕ) (from : ℕ) (bytes : List ℕ) (at : ℕ) (whole : Bool) → IsRead text from bytes → from + at < length text →
    IsUndecided bytes at whole → (whole ≡ false → from + length bytes < length text) → from + length bytes < length text
more_bytes text from bytes at true so more is all = let e = is.last refl in omega arith
more_bytes text from bytes at false so more is all = all refl

-- no more stand in the text than were read
pub all_read : (text : List ℕ) (from : ℕ) (bytes : List ℕ) (size rest : ℕ) → IsRead text from bytes → size ≡ length bytes → rest ≡ length text - from →
    (size == rest) ≡ true → from + length bytes ≡ length text
all_read text from bytes size rest so e f t = let g = eqb-true size rest t in let w = so.within in omega arith

pub not_all_read : (text : List ℕ) (from : ℕ) (bytes : List ℕ) (size rest : ℕ) → IsRead text from bytes → size ≡ length bytes → rest ≡ length text - from →
    (size == rest) ≡ false → from + length bytes < length text
not_all_read text from bytes size rest so e f t =
    let w = so.within in
    ⊎_elim (λ (l : from + length bytes < length text). l)
    (λ (l : length text ≤ from + length bytes). absurd (eqb-false size rest t (omega arith)))
    (cases_lt (from + length bytes) (length text))

-- the bytes of an item, of which all were read
pub item_bytes : (text : List ℕ) (from : ℕ) (bytes part : List ℕ) (at end : ℕ) → IsRead text from bytes → part ≡ bytes → at ≤ end → end ≤ length bytes →
    take (end - at) (drop at part) ≡ take (end - at) (drop (from + at) text)
item_bytes text from bytes part at end so e l within =
    ap (λ xs. take (end - at) (drop at xs)) e ∙ ap (take (end - at)) (known text from bytes at so (omega arith))
    ∙ take-take (end - at) (length bytes - at) (drop (from + at) text) (omega arith)

pub read_byte : (text : List ℕ) (from : ℕ) (bytes : List ℕ) (at : ℕ) → IsRead text from bytes → at < length bytes → get_or bytes at 0 ≡ get_or text (from + at) 0
read_byte text from bytes at so l =
    ap (λ xs. get_or xs at 0) so.bytes_are ∙ get_or-take (length bytes) (drop from text) at 0 l ∙ get_or-drop from text at 0

comment_more : (xs : List ℕ) (i : ℕ) → i + 1 < length xs → eqb (get_or xs i 0) 125 ≡ false → (eqb (get_or xs i 0) 42 && eqb (get_or xs (i + 1) 0) 41) ≡ false →
    comment_len (drop i xs) ≡ 1 + comment_len (drop (i + 1) xs)
comment_more xs i l brace star =
    let e : i + 1 + 1 ≡ i + 2 = omega arith in
    ap comment_len (two_more xs i (omega arith)) ∙ cond-false (eqb (get_or xs i 0) 125) _ _ brace ∙ cond-false (eqb (get_or xs i 0) 42 && eqb (get_or xs (i + 1) 0) 41) _ _ star
    ∙ ap (λ t. 1 + comment_len t) (sym (drop_more xs (i + 1) 0 l ∙ ap (λ k. get_or xs (i + 1) 0 ∷ drop k xs) e))

comment_last : (xs : List ℕ) (i : ℕ) → i + 1 ≡ length xs → comment_len (drop i xs) ≡ 1 + comment_len (drop (i + 1) xs)
comment_last xs i e =
    let none : drop (i + 1) xs ≡ [] = drop_all (i + 1) xs (omega arith) in
    ap comment_len (drop_more xs i 0 (omega arith) ∙ ap (λ t. get_or xs i 0 ∷ t) none) ∙ sym (ap (λ t. 1 + comment_len t) none)

pub not_star : (text : List ℕ) (at : ℕ) → at < length text → eqb (get_or text at 0) 125 ≡ false → eqb (get_or text at 0) 42 ≡ false → CommentGoesOn text at
not_star text at l brace star = record {
  inside = l;
  one = ⊎_elim (λ (m : at + 1 < length text). comment_more text at m brace (ap (λ b. b && eqb (get_or text (at + 1) 0) 41) star))
      (λ (m : length text ≤ at + 1). comment_last text at (omega arith)) (cases_lt (at + 1) (length text));
}

pub last_star : (text : List ℕ) (at : ℕ) → at + 1 ≡ length text → CommentGoesOn text at
last_star text at e = record { inside = omega arith; one = comment_last text at e }

pub no_paren : (text : List ℕ) (at : ℕ) → at + 1 < length text → eqb (get_or text at 0) 125 ≡ false → eqb (get_or text (at + 1) 0) 41 ≡ false → CommentGoesOn text at
no_paren text at l brace paren = record {
  inside = omega arith;
  one = comment_more text at l brace (ap (λ b. eqb (get_or text at 0) 42 && b) paren
      ∙ and_right (eqb (get_or text at 0) 42) false refl);
}

-- a comment that goes on, and its length
pub goes_on_same : (text : List ℕ) (from at end : ℕ) → CommentGoesOn text (from + end) → end + comment_len (drop (from + end) text) ≡ at + comment_len
    (drop (from + at) text) → end + 1 + comment_len (drop (from + (end + 1)) text) ≡ at + comment_len (drop (from + at) text)
goes_on_same text from at end h same =
    let e : from + end + 1 ≡ from + (end + 1) = omega arith in
    let next = ap (λ k. comment_len (drop k text)) e in
    omega (arith, h.one, next)

some_len : (bytes : List ℕ) → 0 < length bytes → 1 ≤ comment_len bytes
some_len [] h = absurd (omega arith)
some_len (b ∷ []) h = omega arith
some_len (b ∷ c ∷ bs) h = elim (eqb b 125) as (λ v. 1 ≤ cond v 1 (cond (eqb b 42 && eqb c 41) 2 (1 + comment_len (c ∷ bs)))) [
  | true ↦ omega arith
  | false ↦ elim (eqb b 42 && eqb c 41) as (λ v. 1 ≤ cond v 2 (1 + comment_len (c ∷ bs))) [ true ↦ omega arith | false ↦ omega arith ]
]

-- the rest of a comment has a byte
pub comment_some : (text : List ℕ) (at : ℕ) → at < length text → 1 ≤ comment_len (drop at text)
comment_some text at l = some_len (drop at text) (omega (arith, length-drop at text))

-- a byte that was read, as an index gives it
pub read_is : (text : List ℕ) (from : ℕ) (bytes : List ℕ) (at x : ℕ) → IsRead text from bytes → at < length bytes → x ≡ get_or bytes at x → x ≡ get_or text (from + at) 0
read_is text from bytes at x so l e = e ∙ get_or_default bytes at x 0 l ∙ read_byte text from bytes at so l

is_not : (x y n : ℕ) → x ≡ y → (x ≡ n → ⊥) → eqb y n ≡ false
is_not x y n e h = ne_eqb y n (λ f. h (e ∙ f))

pub other_byte : (text : List ℕ) (from : ℕ) (bytes : List ℕ) (at x : ℕ) → IsRead text from bytes → at < length bytes → x ≡ get_or bytes at x → (x ≡ 125 → ⊥) →
    (x ≡ 42 → ⊥) → CommentGoesOn text (from + at)
other_byte text from bytes at x so l e brace star =
    let is = read_is text from bytes at x so l e in
    let within = so.within in
    not_star text (from + at) (omega arith) (is_not x (get_or text (from + at) 0) 125 is brace) (is_not x (get_or text (from + at) 0) 42 is star)

pub last_byte : (text : List ℕ) (from at : ℕ) → from + (at + 1) ≡ length text → CommentGoesOn text (from + at)
last_byte text from at e = last_star text (from + at) (omega arith)

pub two_bytes_here : (text : List ℕ) (from : ℕ) (bytes new : List ℕ) (at x y : ℕ) → IsRead text from bytes → IsRead text from new → at < length bytes →
    at + 1 < length new → x ≡ get_or bytes at x → y ≡ get_or new (at + 1) y → (x ≡ 125 → ⊥) → eqb y 41 ≡ false → CommentGoesOn text (from + at)
two_bytes_here text from bytes new at x y so more l m e f brace paren =
    let is = read_is text from bytes at x so l e in
    let next : y ≡ get_or text (from + at + 1) 0 = let p : from + (at + 1) ≡ from + at + 1 = omega arith in read_is text from new (at + 1) y more m f
    ∙ ap (λ k. get_or text k 0) p in
    let within = more.within in
    no_paren text (from + at) (omega arith) (is_not x (get_or text (from + at) 0) 125 is brace) (ap (λ k. eqb k 41) (sym next) ∙ paren)

-- an item that a comment is
brace_len : (text : List ℕ) (p : ℕ) → p < length text → get_or text p 0 ≡ 123 → item_len (drop p text) ≡ 1 + comment_len (drop (p + 1) text)
brace_len text p l e =
    let bs = drop (p + 1) text in
    let one : suc (comment_len bs) ≡ 1 + comment_len bs = omega arith in
    ap item_len (drop_more text p 0 l) ∙ item_len-cons (get_or text p 0) bs ∙ ap (λ b. suc (item_rest_len b bs)) e ∙ one

paren_len : (text : List ℕ) (p : ℕ) → p + 1 < length text → get_or text p 0 ≡ 40 → get_or text (p + 1) 0 ≡ 42 → item_len (drop p text) ≡ 2 + comment_len (drop (p + 2) text)
paren_len text p l e f =
    let bs = drop (p + 2) text in
    let two : suc (1 + comment_len bs) ≡ 2 + comment_len bs = omega arith in
    ap item_len (two_more text p (omega arith)) ∙ item_len-cons (get_or text p 0) (get_or text (p + 1) 0 ∷ bs)
    ∙ ap (λ b. suc (item_rest_len b (get_or text (p + 1) 0 ∷ bs))) e ∙ ap (λ c. suc (item_rest_len 40 (c ∷ bs))) f ∙ two

pub one_at_least : (text : List ℕ) (p : ℕ) → p < length text → 1 ≤ item_len (drop p text)
one_at_least text p l = let n = item_len (drop p text) in let some = item_some (drop p text) n (item_of_more (drop p text) (omega (arith, length-drop p text))) in omega arith

pub brace_reach : (text : List ℕ) (from : ℕ) (bytes : List ℕ) (at x : ℕ) → IsRead text from bytes → at < length bytes → x ≡ get_or bytes at x → x ≡ 123 →
    at + 1 + comment_len (drop (from + (at + 1)) text) + 1 ≡ at + item_len (drop (from + at) text) + 1
brace_reach text from bytes at x so l e is =
    let within = so.within in
    let len = brace_len text (from + at) (omega arith) (sym (read_is text from bytes at x so l e) ∙ is) in
    let p : from + at + 1 ≡ from + (at + 1) = omega arith in
    let same = ap (λ k. comment_len (drop k text)) p in
    omega arith

pub paren_reach : (text : List ℕ) (from : ℕ) (bytes new : List ℕ) (at x y : ℕ) → IsRead text from bytes → IsRead text from new → at < length bytes →
    at + 1 < length new → x ≡ get_or bytes at x → y ≡ get_or new (at + 1) y → x ≡ 40 → y ≡ 42 → at + 2 + comment_len (drop (from + (at + 2)) text) + 1
    ≡ at + item_len (drop (from + at) text) + 1
paren_reach text from bytes new at x y so more l m e f is and =
    let within = more.within in
    let p : from + (at + 1) ≡ from + at + 1 = omega arith in
    let len = paren_len text (from + at) (omega arith) (sym (read_is text from bytes at x so l e) ∙ is) (sym (read_is text from new (at + 1) y more m f
    ∙ ap (λ k. get_or text k 0) p) ∙ and) in
    let q : from + at + 2 ≡ from + (at + 2) = omega arith in
    let same = ap (λ k. comment_len (drop k text)) q in
    omega arith

pub is_here : (A B : Type 0) (b : Bool) → b ≡ true → MatchBool b A B → A
is_here A B true e h = h
is_here A B false e h = absurd (false≢true e)
