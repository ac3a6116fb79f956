-- The items of a text up to a place. Those that end two bytes before a change are items of the changed text too.
use Rattle.std.proofs.Common.{◌≡◌, ℕ, ◌+◌, ◌-◌, ◌<◌, ◌≤◌, List, [], ◌∷◌, ◌++◌, take, drop, length, refl, ap, sym, subst, ◌∙◌, arith}
use Rattle.std.specs.List.{concat}
use Rattle.std.proofs.lemmas.List.{length-append, length-drop, length-take-le, drop-drop, drop-take, take-take, append_assoc, append-nil}
use Rattle.std.proofs.lemmas.List.Folds.{concat-append}
use Rattle.std.proofs.Math.Seq.{take-append_seam, drop-append_seam}
use Rattle.mp_lex.specs.Items.{is_item}
use Rattle.mp_lex.specs.Split.{IsLongest, EachLongest, items_of}
use Rattle.mp_lex.proofs.SplitLemmas.{the_split, item_some, items_of_step}
use Rattle.mp_lex.proofs.TwoBytes.{two_bytes_longest}

-- each has bytes
abbrev pub AreSome : List (List ℕ) → Type 0
AreSome [] = Unit {0}
AreSome (item ∷ items) = (0 < length item) × AreSome items

-- these are the items of the text up to the place
pub record SplitTo (text : List ℕ) (at : ℕ) (items : List (List ℕ)) : Type 0 where
  pub within : at ≤ length text
  pub size : length (concat items) ≡ at
  pub some : AreSome items
  pub rest : items_of text ≡ items ++ items_of (drop at text)

each_some : (items : List (List ℕ)) → EachLongest items → AreSome items
each_some [] s = tt
each_some (item ∷ items) s = (item_some (concat (item ∷ items)) (length item) s.0, each_some items s.1)

some_append : (xs ys : List (List ℕ)) → AreSome xs → AreSome ys → AreSome (xs ++ ys)
some_append [] ys s t = t
some_append (x ∷ xs) ys s t = (s.0, some_append xs ys s.1 t)

pub some_front : (xs ys : List (List ℕ)) → AreSome (xs ++ ys) → AreSome xs
some_front [] ys s = tt
some_front (x ∷ xs) ys s = (s.0, some_front xs ys s.1)

each_rest : (xs ys : List (List ℕ)) → EachLongest (xs ++ ys) → EachLongest ys
each_rest [] ys s = s
each_rest (x ∷ xs) ys s = each_rest xs ys s.1

pub all_some : (text : List ℕ) → AreSome (items_of text)
all_some text = each_some (items_of text) (the_split text).one.1

pub split_none : (text : List ℕ) → SplitTo text 0 []
split_none text = record { within = omega arith; size = refl; some = tt; rest = refl }

-- the items of a text up to the end of any of them
pub split_front : (text : List ℕ) (front rest : List (List ℕ)) (at : ℕ) → items_of text ≡ front ++ rest → length (concat front) ≡ at → SplitTo text at front
split_front text front rest at e size =
    let one = (the_split text).one in
    let all : concat front ++ concat rest ≡ text = sym (concat-append front rest) ∙ ap concat (sym e) ∙ one.0 in
    let each : EachLongest (front ++ rest) = subst EachLongest e one.1 in
    let back : drop at text ≡ concat rest = ap (λ k. drop k text) (sym size) ∙ ap (drop (length (concat front))) (sym all) ∙ drop-append_seam (concat front) (concat rest) in
    let is_rest : rest ≡ items_of (concat rest) = (the_split (concat rest)).only rest (refl, each_rest front rest each) in
    record {
      within = omega (arith, ap length all, length-append (concat front) (concat rest));
      size = size;
      some = some_front front rest (each_some (front ++ rest) each);
      rest = e ∙ ap (λ r. front ++ r) (is_rest ∙ ap items_of (sym back));
    }

-- one item more
pub split_more : (text : List ℕ) (at n : ℕ) (items : List (List ℕ)) → SplitTo text at items → IsLongest is_item n (drop at text) →
    SplitTo text (at + n) (items ++ take n (drop at text) ∷ [])
split_more text at n items so longest =
    let item = take n (drop at text) in
    let len : length item ≡ n = length-take-le n (drop at text) longest.within in
    let some = item_some (drop at text) n longest in
    let step : items_of (drop at text) ≡ item ∷ items_of (drop (at + n) text) = items_of_step (drop at text) n longest ∙ ap (λ t. item ∷ items_of t) (drop-drop n at text) in
    record {
      within = omega (arith, so.within, longest.within, length-drop at text);
      size = ap length (concat-append items (item ∷ []) ∙ ap (λ t. concat items ++ t) (append-nil item)) ∙ length-append (concat items) item ∙ omega (arith, so.size, len);
      some = some_append items (item ∷ []) so.some (omega (arith, len), tt);
      rest = so.rest ∙ ap (λ r. items ++ r) step ∙ sym (append_assoc items (item ∷ []) (items_of (drop (at + n) text)));
    }

less : (j k : ℕ) (before after : List ℕ) → j ≤ k → take k after ≡ take k before → take j after ≡ take j before
less j k before after l same = sym (take-take j k after l) ∙ ap (take j) same ∙ take-take j k before l

past_alike : (j k : ℕ) (before after : List ℕ) → j ≤ k → take k after ≡ take k before → take (k - j) (drop j after) ≡ take (k - j) (drop j before)
past_alike j k before after l same =
    let e : k ≡ j + (k - j) = omega arith in
    sym (drop-take j (k - j) after) ∙ ap (λ m. drop j (take m after)) (sym e) ∙ ap (drop j) same ∙ ap (λ m. drop j (take m before)) e ∙ drop-take j (k - j) before

same_rest : (x y : List ℕ) (xs ys : List (List ℕ)) → x ∷ xs ≡ y ∷ ys → xs ≡ ys
same_rest x y xs ys e = cc

kept_items : (front rest : List (List ℕ)) (before after : List ℕ) (k : ℕ) → items_of before ≡ front ++ rest → take k after ≡ take k before →
    length (concat front) + 2 ≤ k → items_of after ≡ front ++ items_of (drop (length (concat front)) after)
kept_items [] rest before after k e same l = refl
kept_items (x ∷ front) rest before after k e same l =
    let n = length x in
    let one = (the_split before).one in
    let each : EachLongest (x ∷ (front ++ rest)) = subst EachLongest e one.1 in
    let all : x ++ concat (front ++ rest) ≡ before = ap concat (sym e) ∙ one.0 in
    let longest : IsLongest is_item n before = subst (IsLongest is_item n) all each.0 in
    let first : take n before ≡ x = ap (take n) (sym all) ∙ take-append_seam x (concat (front ++ rest)) in
    let len = length-append x (concat front) in
    let again = two_bytes_longest n before after longest (less (n + 2) k before after (omega arith) same) in
    let first_again : take n after ≡ x = less n k before after (omega arith) same ∙ first in
    let tail : items_of (drop n before) ≡ front ++ rest = same_rest (take n before) x (items_of (drop n before)) (front ++ rest) (sym (items_of_step before n longest) ∙ e) in
    let more = kept_items front rest (drop n before) (drop n after) (k - n) tail (past_alike n k before after (omega arith) same) (omega arith) in
    let place : n + length (concat front) ≡ length (concat (x ∷ front)) = omega (arith, len) in
    items_of_step after n again ∙ ap (λ t. t ∷ items_of (drop n after)) first_again
    ∙ ap (λ r. x ∷ r) (more ∙ ap (λ t. front ++ items_of t) (drop-drop (length (concat front)) n after ∙ ap (λ j. drop j after) place))

-- what ends two bytes before the change is kept
pub kept_split : (before after : List ℕ) (at k : ℕ) (front : List (List ℕ)) → SplitTo before at front → k ≤ length after → take k after ≡ take k before →
    at + 2 ≤ k → SplitTo after at front
kept_split before after at k front so within same l = record {
  within = omega arith;
  size = so.size;
  some = so.some;
  rest = kept_items front (items_of (drop at before)) before after k so.rest same (omega (arith, so.size)) ∙ ap (λ j. front ++ items_of (drop j after)) so.size;
}
