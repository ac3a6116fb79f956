-- What is kept before a change, what is read round it, and what is moved behind it are the tokens and errors of the new
-- text.
use Rattle.std.proofs.Common.{◌≡◌, ℕ, ◌+◌, ◌-◌, ◌^◌, ◌<◌, ◌≤◌, ◌||◌, Bool, true, false, cond, eqb, nat_le, min, max, List, [], ◌∷◌, ◌++◌}
use Rattle.std.proofs.Common.{take, drop, length, map, refl, ap, sym, subst, ◌∙◌, arith, All, inl, inr, ◌⊎◌, ⊎_elim}
use Rattle.std.specs.List.{concat, filter, list_any}
use Rattle.std.specs.List.Sorted.{IsNonDecreasingBy}
use Rattle.std.proofs.lemmas.Bool.{cases_lt, cond-true, eq-eqb, leb-true, and_parts, or_cases, false≢true}
use Rattle.std.proofs.lemmas.List.{append-nil, length-drop, length-take-le, drop-drop, map-append}
use Rattle.std.proofs.lemmas.List.Elements.{filter-append}
use Rattle.std.proofs.lemmas.List.Folds.{list_any-append}
use Rattle.mp_base.specs.declared.limits.TheConstants.{TEXT_LIMIT}
use Rattle.mp_ast.specs.declared.errors.LexError.{LexError}
use Rattle.mp_ast.specs.declared.tokens.Token.{Token}
use Rattle.mp_lex.specs.Causes.{code_of}
use Rattle.mp_lex.specs.Items.{is_item}
use Rattle.mp_lex.specs.Split.{IsLongest, item_len, items_of}
use Rattle.mp_lex.specs.Meaning.{meaning}
use Rattle.mp_lex.specs.declared.change.Change.{Change}
use Rattle.mp_lex.specs.declared.meaning.Meaning.{Meaning}
use Rattle.mp_lex.specs.declared.meaning.Meaning.TheVariants as means
use Rattle.mp_lex.specs.Lexed.{token_of, error_of, tokens_from, errors_from, lexical_tokens, lexical_errors}
use Rattle.mp_lex.specs.Relexing.{Changes, IsChanged, starts_of, token_end, error_end, ends_of, greatest, least_or, is_before, kept_to}
use Rattle.mp_lex.specs.Relexing.{is_start, is_start_again, same_from}
use Rattle.mp_lex.specs.Windows.{moved_token, moved_error, before_place, from_place, IsLexedTo}
use Rattle.mp_lex.specs.Windows.{IsStop}
use Rattle.mp_lex.proofs.SplitLemmas.{the_split}
use Rattle.mp_lex.proofs.OrderLemmas.{tokens_in_order, errors_in_order}
use Rattle.mp_lex.proofs.WindowLemmas.{item_of_more}
use Rattle.mp_lex.proofs.FrontLemmas.{AreSome, SplitTo, all_some, some_front, split_none, split_front, split_more, kept_split}
use Rattle.mp_lex.proofs.ListedLemmas.{listed, tokens_listed, errors_listed, listed-append, Each, each_append, each_then, IsPlaced}
use Rattle.mp_lex.proofs.ListedLemmas.{tokens_placed, errors_placed, starts_in, FrontTo, start_front, end_front, before_cut, from_cut}
use Rattle.mp_lex.proofs.ListedLemmas.{starts_rise}

-- the tokens of items that stand one after the other
tokens-append : (xs ys : List (List ℕ)) (p q : ℕ) → p + length (concat xs) ≡ q → tokens_from p (xs ++ ys) ≡ tokens_from p xs ++ tokens_from q ys
tokens-append xs ys p q e = tokens_listed (xs ++ ys) p ∙ listed-append token_of xs ys p q e ∙ ap (λ r. r ++ listed token_of q ys) (sym (tokens_listed xs p))
    ∙ ap (λ r. tokens_from p xs ++ r) (sym (tokens_listed ys q))

errors-append : (xs ys : List (List ℕ)) (p q : ℕ) → p + length (concat xs) ≡ q → errors_from p (xs ++ ys) ≡ errors_from p xs ++ errors_from q ys
errors-append xs ys p q e = errors_listed (xs ++ ys) p ∙ listed-append error_of xs ys p q e ∙ ap (λ r. r ++ listed error_of q ys) (sym (errors_listed xs p))
    ∙ ap (λ r. errors_from p xs ++ r) (sym (errors_listed ys q))

to_split : (text : List ℕ) (at : ℕ) (tokens : List Token) (errors : List LexError) → (so : IsLexedTo text at tokens errors) → SplitTo text at so.items
to_split text at tokens errors so = record {
  within = so.within;
  size = so.size;
  some = some_front so.items (items_of (drop at text)) (subst AreSome so.rest (all_some text));
  rest = so.rest;
}

from_split : (text : List ℕ) (at : ℕ) (items : List (List ℕ)) (tokens : List Token) (errors : List LexError) → SplitTo text at items →
    tokens ≡ tokens_from 0 items → errors ≡ errors_from 0 items → IsLexedTo text at tokens errors
from_split text at items tokens errors so t e = record { items = items; within = so.within; size = so.size; rest = so.rest; tokens_are = t; errors_are = e }

-- one item more
pub lexed_item : (text : List ℕ) (at n : ℕ) (tokens new_tokens : List Token) (errors new_errors : List LexError) → IsLexedTo text at tokens errors →
    IsLongest is_item n (drop at text)
    → new_tokens ≡ tokens ++ token_of at n (meaning (take n (drop at text))) → new_errors ≡ errors ++ error_of at n (meaning (take n (drop at text))) →
    IsLexedTo text (at + n) new_tokens new_errors
lexed_item text at n tokens new_tokens errors new_errors so longest t e =
    let item = take n (drop at text) in
    let len : length item ≡ n = length-take-le n (drop at text) longest.within in
    let start : 0 + length (concat so.items) ≡ at = omega (arith, so.size) in
    let one_token : tokens_from 0 (so.items ++ item ∷ []) ≡ tokens_from 0 so.items ++ token_of at n (meaning item) =
    tokens-append so.items (item ∷ []) 0 at start ∙ ap (λ r. tokens_from 0 so.items ++ r) (append-nil (token_of at (length item) (meaning item))
    ∙ ap (λ k. token_of at k (meaning item)) len) in
    let one_error : errors_from 0 (so.items ++ item ∷ []) ≡ errors_from 0 so.items ++ error_of at n (meaning item) =
    errors-append so.items (item ∷ []) 0 at start ∙ ap (λ r. errors_from 0 so.items ++ r) (append-nil (error_of at (length item) (meaning item))
    ∙ ap (λ k. error_of at k (meaning item)) len) in
    from_split text (at + n) (so.items ++ item ∷ []) new_tokens new_errors (split_more text at n so.items (to_split text at tokens errors so) longest)
    (t ∙ ap (λ r. r ++ token_of at n (meaning item)) so.tokens_are ∙ sym one_token)
    (e ∙ ap (λ r. r ++ error_of at n (meaning item)) so.errors_are ∙ sym one_error)

-- the least of those that pass
least_from : (test : ℕ → Bool) (starts : List ℕ) (end p : ℕ) → p ≤ end → Each (λ s. test s ≡ true → p ≤ s) starts → p ≤ least_or end (filter test starts)
least_from test [] end p l h = l
least_from test (s ∷ starts) end p l h =
    let rest = least_from test starts end p l h.1 in
    elim (test s) as (λ v. test s ≡ v → p ≤ least_or end (cond v (s ∷ filter test starts) (filter test starts))) [
      | true ↦ λ e. let a = h.0 e in omega arith
      | false ↦ λ e. rest
    ] refl

least_each : (test : ℕ → Bool) (starts : List ℕ) (end p : ℕ) → p ≤ least_or end (filter test starts) → Each (λ s. test s ≡ true → p ≤ s) starts
least_each test [] end p l = tt
least_each test (s ∷ starts) end p l = (first, least_each test starts end p rest)
  where
    first : test s ≡ true → p ≤ s
    first e = let a : least_or end (filter test (s ∷ starts)) ≡ min s (least_or end (filter test starts)) = ap (least_or end) (cond-true (test s) _ _ e) in omega arith

    rest : p ≤ least_or end (filter test starts)
    rest = elim (test s) as (λ v. p ≤ least_or end (cond v (s ∷ filter test starts) (filter test starts)) → p ≤ least_or end (filter test starts)) [
      | true ↦ λ h. omega arith
      | false ↦ λ h. h
    ] l

each_map : {X : Type 0} (P : ℕ → Type 0) (f : X → ℕ) (xs : List X) → Each (λ x. P (f x)) xs → Each P (map f xs)
each_map P f [] h = tt
each_map P f (x ∷ xs) h = (h.0, each_map P f xs h.1)

each_both : {X : Type 0} (P Q R : X → Type 0) (xs : List X) → ((x : X) → P x → Q x → R x) → Each P xs → Each Q xs → Each R xs
each_both P Q R [] f a b = tt
each_both P Q R (x ∷ xs) f a b = (f x a.0 b.0, each_both P Q R xs f a.1 b.1)

-- a start stands before an item, at its start, or at its end or past it
abbrev Apart : ℕ → ℕ → ℕ → Type 0
Apart p n s = (s < p) ⊎ ((s ≡ p) ⊎ (p + n ≤ s))

listed_apart : {X : Type 0} (of : ℕ → ℕ → Meaning → List X) (start size : X → ℕ) → IsPlaced of start size → (text : List ℕ) (items : List (List ℕ)) (p n : ℕ) →
    SplitTo text p items → IsLongest is_item n (drop p text) → Each (λ x. Apart p n (start x)) (listed of 0 (items_of text))
listed_apart {X} of start size placed text items p n so longest =
    let item = take n (drop p text) in
    let len : length item ≡ n = length-take-le n (drop p text) longest.within in
    let more = split_more text p n items so longest in
    let rest = items_of (drop (p + n) text) in
    let zero_p : 0 + length (concat items) ≡ p = omega (arith, so.size) in
    let zero_q : 0 + length (concat (items ++ item ∷ [])) ≡ p + n = omega (arith, more.size) in
    let parts : listed of 0 (items_of text) ≡ (listed of 0 items ++ listed of p (item ∷ [])) ++ listed of (p + n) rest =
    ap (listed of 0) more.rest ∙ listed-append of (items ++ item ∷ []) rest 0 (p + n) zero_q
    ∙ ap (λ r. r ++ listed of (p + n) rest) (listed-append of items (item ∷ []) 0 p zero_p) in
    let P : List X → Type 0 = λ xs. Each (λ x. Apart p n (start x)) xs in
    subst P (sym parts)
    (each_append _ (listed of 0 items ++ listed of p (item ∷ [])) (listed of (p + n) rest)
    (each_append _ (listed of 0 items) (listed of p (item ∷ []))
    (each_then _ _ (listed of 0 items) (λ x h. inl (let b = h.1 in omega (arith, so.size))) (starts_in of start size placed items 0 so.some))
    (each_append _ (of p (length item) (meaning item)) [] (each_then _ _ (of p (length item) (meaning item)) (λ x h. inr (inl h.0))
    (placed.each p (length item) (meaning item))) tt))
    (each_then _ _ (listed of (p + n) rest) (λ x h. inr (inr h.0)) (starts_in of start size placed rest (p + n) (all_some (drop (p + n) text)))))

starts_apart : (text : List ℕ) (items : List (List ℕ)) (p n : ℕ) → SplitTo text p items → IsLongest is_item n (drop p text) →
    Each (Apart p n) (starts_of (lexical_tokens text) (lexical_errors text))
starts_apart text items p n so longest =
    let P : List Token → Type 0 = λ xs. Each (λ x. Apart p n x.start) xs in
    let Q : List LexError → Type 0 = λ xs. Each (λ x. Apart p n x.start) xs in
    each_append _ (map (λ token. token.start) (lexical_tokens text)) (map (λ error. error.start) (lexical_errors text))
    (each_map _ (λ token. token.start) (lexical_tokens text) (subst P (sym (tokens_listed (items_of text) 0)) (listed_apart token_of _ _ tokens_placed text items p n so longest)))
    (each_map _ (λ error. error.start) (lexical_errors text) (subst Q (sym (errors_listed (items_of text) 0)) (listed_apart error_of _ _ errors_placed text items p n so longest)))

-- the place from which on all is as before is not before what is kept
pub kept_first : (change : Change) (tokens : List Token) (errors : List LexError) (text : List ℕ) (from : ℕ) → change.start + change.added ≤ length text →
    (from ≡ 0) ⊎ (from + 2 ≤ change.start) → from ≤ same_from change tokens errors text
kept_first change tokens errors text from l h =
    let low : from ≤ change.start = ⊎_elim (λ (a : from ≡ 0). let g : from ≤ change.start = omega arith in
    g) (λ (a : from + 2 ≤ change.start). let g : from ≤ change.start = omega arith in g) h in
    least_from (is_start_again change tokens errors) (starts_of (lexical_tokens text) (lexical_errors text)) (length text) from (omega arith)
    (each_all _ (λ s e. let a = leb-true (change.start + change.added) s (and_parts (nat_le (change.start + change.added) s)
    (is_start tokens errors (s + change.removed - change.added)) e).0 in omega arith) _)
  where
    each_all : (P : ℕ → Type 0) → ((s : ℕ) → P s) → (xs : List ℕ) → Each P xs
    each_all P f [] = tt
    each_all P f (x ∷ xs) = (f x, each_all P f xs)

-- nor before the end of an item at whose start none starts again
pub next_first : (change : Change) (tokens old_tokens : List Token) (errors old_errors : List LexError) (text : List ℕ) (p n : ℕ) →
    IsLexedTo text p tokens errors → IsLongest is_item n (drop p text) → p ≤ same_from change old_tokens old_errors text →
    is_start_again change old_tokens old_errors p ≡ false → p + n ≤ same_from change old_tokens old_errors text
next_first change tokens old_tokens errors old_errors text p n so longest before not_here =
    let test = is_start_again change old_tokens old_errors in
    let starts = starts_of (lexical_tokens text) (lexical_errors text) in
    let within = longest.within in
    least_from test starts (length text) (p + n) (omega (arith, so.within, length-drop p text))
    (each_both (Apart p n) (λ s. test s ≡ true → p ≤ s) (λ s. test s ≡ true → p + n ≤ s) starts
    (λ s a h e. ⊎_elim (λ (l : s < p). let g = h e in let z : p + n ≤ s = absurd (omega arith) in z)
    (λ b. ⊎_elim (λ (is : s ≡ p). absurd (false≢true (sym not_here ∙ ap test (sym is) ∙ e))) (λ (l : p + n ≤ s). l) b) a)
    (starts_apart text so.items p n (to_split text p tokens errors so) longest)
    (least_each test starts (length text) p before))

-- so what is read for an item reaches two bytes past the place from which on all is as before, at most
pub reads_first : (change : Change) (tokens old_tokens : List Token) (errors old_errors : List LexError) (text : List ℕ) (from window at : ℕ) → window ≡ from →
    IsLexedTo text (from + at) tokens errors → from + at < length text → from + at ≤ same_from change old_tokens old_errors text →
    is_start_again change old_tokens old_errors (from + at) ≡ false → from + at + item_len (drop (window + at) text) ≤ same_from change old_tokens old_errors text
reads_first change tokens old_tokens errors old_errors text from window at e so more before not_here =
    let n = item_len (drop (from + at) text) in
    let h = next_first change tokens old_tokens errors old_errors text (from + at) n so
    (item_of_more (drop (from + at) text) (omega (arith, length-drop (from + at) text))) before not_here in
    let same : item_len (drop (window + at) text) ≡ n = ap (λ k. item_len (drop (k + at) text)) e in
    omega arith

-- an old token ends, and one starts, where items of the old text end
pub any_map : {X : Type 0} (test : ℕ → Bool) (f : X → ℕ) (xs : List X) → list_any test (map f xs) ≡ list_any (λ x. test (f x)) xs
any_map test f [] = refl
any_map test f (x ∷ xs) = ap (λ r. test (f x) || r) (any_map test f xs)

front_split : (text : List ℕ) (at : ℕ) → (front : FrontTo (items_of text) 0 at) → SplitTo text at front.front
front_split text at front = split_front text front.front front.rest at front.all (omega (arith, front.size))

record SplitsAt (text : List ℕ) (at : ℕ) : Type 0 where
  items : List (List ℕ)
  so : SplitTo text at items

splits_by : (text : List ℕ) (at : ℕ) → FrontTo (items_of text) 0 at → SplitsAt text at
splits_by text at front = record { items = front.front; so = front_split text at front }

splits_at_start : (text : List ℕ) (at : ℕ) → is_start (lexical_tokens text) (lexical_errors text) at ≡ true → SplitsAt text at
splits_at_start text at h = ⊎_elim
    (λ t. splits_by text at (start_front token_of (λ x. x.start) (λ x. x.len) tokens_placed (items_of text) 0 at
    (ap (list_any (λ x. eqb x.start at)) (sym (tokens_listed (items_of text) 0)) ∙ t)))
    (λ t. splits_by text at (start_front error_of (λ x. x.start) (λ x. x.len) errors_placed (items_of text) 0 at
    (ap (list_any (λ x. eqb x.start at)) (sym (errors_listed (items_of text) 0)) ∙ t)))
    (or_cases (list_any (λ x. eqb x.start at) (lexical_tokens text)) (list_any (λ x. eqb x.start at) (lexical_errors text)) h)

splits_at_end : (text : List ℕ) (at : ℕ) → list_any (λ n. eqb n at) (ends_of (lexical_tokens text) (lexical_errors text)) ≡ true → SplitsAt text at
splits_at_end text at h = ⊎_elim
    (λ t. splits_by text at (end_front token_of (λ x. x.start) (λ x. x.len) tokens_placed (items_of text) 0 at (ap (list_any (λ x. eqb (x.start + x.len) at))
    (sym (tokens_listed (items_of text) 0)) ∙ sym (any_map (λ n. eqb n at) token_end (lexical_tokens text)) ∙ t)))
    (λ t. splits_by text at (end_front error_of (λ x. x.start) (λ x. x.len) errors_placed (items_of text) 0 at (ap (list_any (λ x. eqb (x.start + x.len) at))
    (sym (errors_listed (items_of text) 0)) ∙ sym (any_map (λ n. eqb n at) error_end (lexical_errors text)) ∙ t)))
    (or_cases (list_any (λ n. eqb n at) (map token_end (lexical_tokens text))) (list_any (λ n. eqb n at) (map error_end (lexical_errors text)))
    (sym (list_any-append (λ n. eqb n at) (map token_end (lexical_tokens text)) (map error_end (lexical_errors text))) ∙ h))

-- the greatest of those that pass is one of them, or there is none
pub record IsOne (test : ℕ → Bool) (ns : List ℕ) (n : ℕ) : Type 0 where
  pub passes : test n ≡ true
  pub one : list_any (λ m. eqb m n) ns ≡ true

pub or_true : (b : Bool) → (b || true) ≡ true
or_true true = refl
or_true false = refl

pub one_later : (test : ℕ → Bool) (x : ℕ) (ns : List ℕ) (n : ℕ) → IsOne test ns n → IsOne test (x ∷ ns) n
one_later test x ns n h = record { passes = h.passes; one = ap (λ b. eqb x n || b) h.one ∙ or_true (eqb x n) }

pub one_here : (test : ℕ → Bool) (x : ℕ) (ns : List ℕ) (n : ℕ) → x ≡ n → test x ≡ true → IsOne test (x ∷ ns) n
one_here test x ns n e t = record { passes = ap test (sym e) ∙ t; one = ap (λ b. b || list_any (λ m. eqb m n) ns) (eq-eqb x n e) }

pub greatest_one : (test : ℕ → Bool) (ns : List ℕ) → (greatest (filter test ns) ≡ 0) ⊎ IsOne test ns (greatest (filter test ns))
greatest_one test [] = inl refl
greatest_one test (x ∷ ns) = of (greatest_one test ns)
  where
    P : ℕ → Type 0
    P n = (n ≡ 0) ⊎ IsOne test (x ∷ ns) n

    taken : (g : ℕ) → (g ≡ 0) ⊎ IsOne test ns g → test x ≡ true → P (max x g)
    taken g h t = ⊎_elim
        (λ (l : x < g). let e : g ≡ max x g = omega arith in subst P e (⊎_elim (λ z. inl z) (λ o. inr (one_later test x ns g o)) h))
        (λ (l : g ≤ x). let e : x ≡ max x g = omega arith in inr (one_here test x ns (max x g) e t))
        (cases_lt x g)

    of : (greatest (filter test ns) ≡ 0) ⊎ IsOne test ns (greatest (filter test ns)) → P (greatest (filter test (x ∷ ns)))
    of h = elim (test x) as (λ v. test x ≡ v → P (greatest (cond v (x ∷ filter test ns) (filter test ns)))) [
      | true ↦ λ e. taken (greatest (filter test ns)) h e
      | false ↦ λ e. ⊎_elim (λ z. inl z) (λ o. inr (one_later test x ns (greatest (filter test ns)) o)) h
    ] refl

greatest-append : (xs ys : List ℕ) → greatest (xs ++ ys) ≡ max (greatest xs) (greatest ys)
greatest-append [] ys = omega arith
greatest-append (x ∷ xs) ys = let e = greatest-append xs ys in omega arith

-- what the two lists keep is what both keep
pub kept_both : (start : ℕ) (tokens : List Token) (errors : List LexError) →
    kept_to start tokens errors ≡ max (greatest (filter (is_before start) (map token_end tokens))) (greatest (filter (is_before start) (map error_end errors)))
kept_both start tokens errors = ap greatest (filter-append (is_before start) (map token_end tokens) (map error_end errors)) ∙ greatest-append _ _

-- what is kept ends two bytes before the change
pub kept_early : (start : ℕ) (tokens : List Token) (errors : List LexError) → (kept_to start tokens errors ≡ 0) ⊎ (kept_to start tokens errors + 2 ≤ start)
kept_early start tokens errors = ⊎_elim (λ z. inl z) (λ o. inr (leb-true (kept_to start tokens errors + 2) start o.passes))
    (greatest_one (is_before start) (ends_of tokens errors))

-- the items kept before the change are the new text's, too
record SplitsBoth (before after : List ℕ) (at : ℕ) : Type 0 where
  items : List (List ℕ)
  old : SplitTo before at items
  new : SplitTo after at items

kept_splits : (change : Change) (before after : List ℕ) (kept : ℕ) → Changes change before after →
    kept ≡ kept_to change.start (lexical_tokens before) (lexical_errors before) → SplitsBoth before after kept
kept_splits change before after kept changes e = ⊎_elim none some (greatest_one (is_before change.start) (ends_of (lexical_tokens before) (lexical_errors before)))
  where
    none : greatest (filter (is_before change.start) (ends_of (lexical_tokens before) (lexical_errors before))) ≡ 0 → SplitsBoth before after kept
    none z = subst (SplitsBoth before after) (sym (e ∙ z)) (record { items = []; old = split_none before; new = split_none after })

    some : IsOne (is_before change.start) (ends_of (lexical_tokens before) (lexical_errors before))
        (greatest (filter (is_before change.start) (ends_of (lexical_tokens before) (lexical_errors before)))) → SplitsBoth before after kept
    some o =
        let at = splits_at_end before (kept_to change.start (lexical_tokens before) (lexical_errors before)) o.one in
        let early = leb-true (kept_to change.start (lexical_tokens before) (lexical_errors before) + 2) change.start o.passes in
        let added = changes.added in
        subst (SplitsBoth before after) (sym e) (record {
          items = at.items;
          old = at.so;
          new = kept_split before after (kept_to change.start (lexical_tokens before) (lexical_errors before)) change.start at.items at.so (omega arith) changes.front early;
        })

-- the parts of a list up to a place and from it on
starts_below : {X : Type 0} (of : ℕ → ℕ → Meaning → List X) (start size : X → ℕ) → IsPlaced of start size → (text : List ℕ) (at : ℕ) (items : List (List ℕ)) →
    SplitTo text at items → Each (λ x. start x < at) (listed of 0 items)
starts_below of start size placed text at items so = each_then _ _ (listed of 0 items) (λ x h. let b = h.1 in omega (arith, so.size))
    (starts_in of start size placed items 0 so.some)

starts_above : {X : Type 0} (of : ℕ → ℕ → Meaning → List X) (start size : X → ℕ) → IsPlaced of start size → (text : List ℕ) (at : ℕ) →
    Each (λ x. at ≤ start x) (listed of at (items_of (drop at text)))
starts_above of start size placed text at = each_then _ _ (listed of at (items_of (drop at text))) (λ x h. h.0)
    (starts_in of start size placed (items_of (drop at text)) at (all_some (drop at text)))

listed_parts : {X : Type 0} (of : ℕ → ℕ → Meaning → List X) (text : List ℕ) (at : ℕ) (items : List (List ℕ)) → SplitTo text at items →
    listed of 0 (items_of text) ≡ listed of 0 items ++ listed of at (items_of (drop at text))
listed_parts of text at items so = ap (listed of 0) so.rest ∙ listed-append of items (items_of (drop at text)) 0 at (omega (arith, so.size))

listed_before : {X : Type 0} (of : ℕ → ℕ → Meaning → List X) (start size : X → ℕ) → IsPlaced of start size → (text : List ℕ) (at : ℕ) (items : List (List ℕ)) →
    SplitTo text at items → before_place start at (listed of 0 (items_of text)) ≡ listed of 0 items
listed_before of start size placed text at items so =
    ap (before_place start at) (listed_parts of text at items so)
    ∙ before_cut start at (listed of 0 items) (listed of at (items_of (drop at text))) (starts_below of start size placed text at items so)
    (starts_above of start size placed text at)

listed_from : {X : Type 0} (of : ℕ → ℕ → Meaning → List X) (start size : X → ℕ) → IsPlaced of start size → (text : List ℕ) (at : ℕ) (items : List (List ℕ)) →
    SplitTo text at items → from_place start at (listed of 0 (items_of text)) ≡ listed of at (items_of (drop at text))
listed_from of start size placed text at items so =
    ap (from_place start at) (listed_parts of text at items so)
    ∙ from_cut start at (listed of 0 items) (listed of at (items_of (drop at text))) (starts_below of start size placed text at items so)
    (starts_above of start size placed text at)

-- what is kept before the change is lexed already
pub kept_lexed : (tokens new_tokens : List Token) (errors new_errors : List LexError) (change : Change) (after : List ℕ) (kept : ℕ) →
    IsChanged tokens errors change after → kept ≡ kept_to change.start tokens errors
    → new_tokens ≡ before_place (λ token. token.start) kept tokens → new_errors ≡ before_place (λ error. error.start) kept errors → IsLexedTo after kept new_tokens new_errors
kept_lexed tokens new_tokens errors new_errors change after kept so e t f =
    let both = kept_splits change so.before after kept so.changes (e ∙ ap (λ ts. kept_to change.start ts errors) so.tokens_are
    ∙ ap (kept_to change.start (lexical_tokens so.before)) so.errors_are) in
    from_split after kept both.items new_tokens new_errors both.new
    (t ∙ ap (before_place (λ token. token.start) kept) (so.tokens_are ∙ tokens_listed (items_of so.before) 0)
    ∙ listed_before token_of (λ x. x.start) (λ x. x.len) tokens_placed so.before kept both.items both.old ∙ sym (tokens_listed both.items 0))
    (f ∙ ap (before_place (λ error. error.start) kept) (so.errors_are ∙ errors_listed (items_of so.before) 0)
    ∙ listed_before error_of (λ x. x.start) (λ x. x.len) errors_placed so.before kept both.items both.old ∙ sym (errors_listed both.items 0))

-- the old text's place of one that stands past the change
abbrev place_before : Change → ℕ → ℕ
place_before change stop = stop + change.removed - change.added

-- past the change the two texts go on alike
same_back : (change : Change) (before after : List ℕ) (stop : ℕ) → Changes change before after → change.start + change.added ≤ stop →
    drop stop after ≡ drop (place_before change stop) before
same_back change before after stop changes l =
    let k = stop - (change.start + change.added) in
    let a : change.start + change.added + k ≡ stop = omega arith in
    let b : change.start + change.removed + k ≡ place_before change stop = omega arith in
    ap (λ j. drop j after) (sym a) ∙ sym (drop-drop k (change.start + change.added) after) ∙ ap (drop k) changes.back
    ∙ drop-drop k (change.start + change.removed) before ∙ ap (λ j. drop j before) b

same_end : (change : Change) (before after : List ℕ) → Changes change before after → length after + change.removed ≡ length before + change.added
same_end change before after changes =
    let e = ap length changes.back in
    let a = length-drop (change.start + change.added) after in
    let b = length-drop (change.start + change.removed) before in
    let c = changes.added in
    let d = changes.removed in
    omega arith

all_split : (text : List ℕ) → SplitTo text (length text) (items_of text)
all_split text = split_front text (items_of text) [] (length text) (sym (append-nil (items_of text))) (ap length (the_split text).one.0)

-- the reading stops where items of the old text end
stop_splits : (change : Change) (before after : List ℕ) (stop : ℕ) → Changes change before after → stop ≤ length after →
    IsStop change (lexical_tokens before) (lexical_errors before) after stop → SplitsAt before (place_before change stop)
stop_splits change before after stop changes within is = ⊎_elim
    (λ (l : stop < length after). splits_at_start before (place_before change stop) (is.again l))
    (λ (l : length after ≤ stop).
    let past = is.past in
    let e = same_end change before after changes in
    let whole : length before ≡ place_before change stop = omega arith in
    subst (SplitsAt before) whole (record { items = items_of before; so = all_split before }))
    (cases_lt stop (length after))

tokens_moved : (items : List (List ℕ)) (p q from to : ℕ) → from ≤ p → p - from + to ≡ q → map (moved_token from to) (tokens_from p items) ≡ tokens_from q items
tokens_moved [] p q from to l e = refl
tokens_moved (item ∷ items) p q from to l e =
    map-append (moved_token from to) (token_of p (length item) (meaning item)) (tokens_from (p + length item) items)
    ∙ ap (λ r. map (moved_token from to) (token_of p (length item) (meaning item)) ++ r) (tokens_moved items (p + length item) (q + length item) from to
    (omega arith) (omega (arith, e)))
    ∙ ap (λ r. r ++ tokens_from (q + length item) items) (one (meaning item))
  where
    one : (m : Meaning) → map (moved_token from to) (token_of p (length item) m) ≡ token_of q (length item) m
    one (means.Token kind) = let made : ℕ → List Token = λ s. record { kind = kind; start = s; len = length item } ∷ [] in ap made e
    one (means.Error cause) = refl
    one means.Nothing = refl

errors_moved : (items : List (List ℕ)) (p q from to : ℕ) → from ≤ p → p - from + to ≡ q → map (moved_error from to) (errors_from p items) ≡ errors_from q items
errors_moved [] p q from to l e = refl
errors_moved (item ∷ items) p q from to l e =
    map-append (moved_error from to) (error_of p (length item) (meaning item)) (errors_from (p + length item) items)
    ∙ ap (λ r. map (moved_error from to) (error_of p (length item) (meaning item)) ++ r) (errors_moved items (p + length item) (q + length item) from to
    (omega arith) (omega (arith, e)))
    ∙ ap (λ r. r ++ errors_from (q + length item) items) (one (meaning item))
  where
    one : (m : Meaning) → map (moved_error from to) (error_of p (length item) m) ≡ error_of q (length item) m
    one (means.Token kind) = refl
    one (means.Error cause) = let made : ℕ → List LexError = λ s. record { start = s; len = length item; code = code_of cause } ∷ [] in ap made e
    one means.Nothing = refl

-- with what is moved, all is lexed
pub moved_tokens : (tokens read_tokens new_tokens : List Token) (errors read_errors : List LexError) (change : Change) (after : List ℕ) (stop place : ℕ) →
    IsChanged tokens errors change after → IsLexedTo after stop read_tokens read_errors → IsStop change tokens errors after stop
    → place ≡ stop + change.removed - change.added → new_tokens ≡ read_tokens ++ map (moved_token place stop)
    (from_place (λ token. token.start) place tokens) → new_tokens ≡ lexical_tokens after
moved_tokens tokens read_tokens new_tokens errors read_errors change after stop place so read is p e =
    let Q : List Token → List LexError → Type 0 = λ ts es. IsStop change ts es after stop in
    let stops = subst (λ ts. Q ts (lexical_errors so.before)) so.tokens_are (subst (Q tokens) so.errors_are is) in
    let at = subst (SplitsAt so.before) (sym p) (stop_splits change so.before after stop so.changes read.within stops) in
    let past = is.past in
    let rest = items_of (drop place so.before) in
    let same : rest ≡ items_of (drop stop after) = ap items_of (ap (λ k. drop k so.before) p ∙ sym (same_back change so.before after stop so.changes past)) in
    let behind : from_place (λ token. token.start) place tokens ≡ tokens_from place rest =
    ap (from_place (λ token. token.start) place) (so.tokens_are ∙ tokens_listed (items_of so.before) 0)
    ∙ listed_from token_of (λ x. x.start) (λ x. x.len) tokens_placed so.before place at.items at.so ∙ sym (tokens_listed rest place) in
    e ∙ ap (λ r. r ++ map (moved_token place stop) (from_place (λ token. token.start) place tokens)) read.tokens_are
    ∙ ap (λ r. tokens_from 0 read.items ++ r) (ap (map (moved_token place stop)) behind ∙ tokens_moved rest place stop place stop (omega arith) (omega arith)
    ∙ ap (tokens_from stop) same)
    ∙ sym (ap (tokens_from 0) read.rest ∙ tokens-append read.items (items_of (drop stop after)) 0 stop (omega (arith, read.size)))

pub moved_errors : (tokens read_tokens : List Token) (errors read_errors new_errors : List LexError) (change : Change) (after : List ℕ) (stop place : ℕ) →
    IsChanged tokens errors change after → IsLexedTo after stop read_tokens read_errors → IsStop change tokens errors after stop
    → place ≡ stop + change.removed - change.added → new_errors ≡ read_errors ++ map (moved_error place stop)
    (from_place (λ error. error.start) place errors) → new_errors ≡ lexical_errors after
moved_errors tokens read_tokens errors read_errors new_errors change after stop place so read is p e =
    let Q : List Token → List LexError → Type 0 = λ ts es. IsStop change ts es after stop in
    let stops = subst (λ ts. Q ts (lexical_errors so.before)) so.tokens_are (subst (Q tokens) so.errors_are is) in
    let at = subst (SplitsAt so.before) (sym p) (stop_splits change so.before after stop so.changes read.within stops) in
    let past = is.past in
    let rest = items_of (drop place so.before) in
    let same : rest ≡ items_of (drop stop after) = ap items_of (ap (λ k. drop k so.before) p ∙ sym (same_back change so.before after stop so.changes past)) in
    let behind : from_place (λ error. error.start) place errors ≡ errors_from place rest =
    ap (from_place (λ error. error.start) place) (so.errors_are ∙ errors_listed (items_of so.before) 0)
    ∙ listed_from error_of (λ x. x.start) (λ x. x.len) errors_placed so.before place at.items at.so ∙ sym (errors_listed rest place) in
    e ∙ ap (λ r. r ++ map (moved_error place stop) (from_place (λ error. error.start) place errors)) read.errors_are
    ∙ ap (λ r. errors_from 0 read.items ++ r) (ap (map (moved_error place stop)) behind ∙ errors_moved rest place stop place stop (omega arith) (omega arith)
    ∙ ap (errors_from stop) same)
    ∙ sym (ap (errors_from 0) read.rest ∙ errors-append read.items (items_of (drop stop after)) 0 stop (omega (arith, read.size)))

-- of the lists of a text, starts do not fall, and what is moved has room
pub tokens_rise : (tokens : List Token) (errors : List LexError) (change : Change) (after : List ℕ) → IsChanged tokens errors change after →
    IsNonDecreasingBy (λ token. token.start) tokens
tokens_rise tokens errors change after so = starts_rise (λ token. token.start) tokens (tokens_in_order so.before tokens so.tokens_are).ascending

pub errors_rise : (tokens : List Token) (errors : List LexError) (change : Change) (after : List ℕ) → IsChanged tokens errors change after →
    IsNonDecreasingBy (λ error. error.start) errors
errors_rise tokens errors change after so = starts_rise (λ error. error.start) errors (errors_in_order so.before errors so.errors_are).ascending

pub token_room : (tokens : List Token) (errors : List LexError) (change : Change) (after : List ℕ) (place stop : ℕ) → IsChanged tokens errors change after →
    stop ≤ TEXT_LIMIT → All (λ token. token.start - place + stop < 2 ^ 32) tokens
token_room tokens errors change after place stop so l k d inside =
    let a = (tokens_in_order so.before tokens so.tokens_are).within k d inside in
    let b = so.short in
    omega arith

pub error_room : (tokens : List Token) (errors : List LexError) (change : Change) (after : List ℕ) (place stop : ℕ) → IsChanged tokens errors change after →
    stop ≤ TEXT_LIMIT → All (λ error. error.start - place + stop < 2 ^ 32) errors
error_room tokens errors change after place stop so l k d inside =
    let a = (errors_in_order so.before errors so.errors_are).within k d inside in
    let b = so.short in
    omega arith

-- what the code computes of both lists
pub kept_is : (start : ℕ) (tokens first : List Token) (errors second : List LexError) (t e kept : ℕ) → first ≡ tokens → second ≡ errors →
    t ≡ greatest (filter (is_before start) (map token_end first)) → e ≡ greatest (filter (is_before start) (map error_end second)) → kept ≡ max t e →
    kept ≡ kept_to start tokens errors
kept_is start tokens first errors second t e kept a b p q k =
    let one = p ∙ ap (λ ts. greatest (filter (is_before start) (map token_end ts))) a in
    let two = q ∙ ap (λ es. greatest (filter (is_before start) (map error_end es))) b in
    k ∙ ap (λ n. max n e) one ∙ ap (max (greatest (filter (is_before start) (map token_end tokens)))) two ∙ sym (kept_both start tokens errors)

pub early_is : (start : ℕ) (tokens : List Token) (errors : List LexError) (kept : ℕ) → kept ≡ kept_to start tokens errors → (kept ≡ 0) ⊎ (kept + 2 ≤ start)
early_is start tokens errors kept e = let P : ℕ → Type 0 = λ k. (k ≡ 0) ⊎ (k + 2 ≤ start) in subst P (sym e) (kept_early start tokens errors)
