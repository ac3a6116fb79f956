-- Where reading goes on in a list of items.
use Rattle.std.proofs.Common.{◌≡◌, ℕ, zero, suc, ◌+◌, ◌-◌, ◌*◌, ◌<◌, ◌≤◌, Bool, true, false, cond, List, [], ◌∷◌, ◌++◌, length, take, drop, get_or, refl, ap}
use Rattle.std.proofs.Common.{sym, ◌∙◌, arith, Some, None}
use Rattle.std.proofs.lemmas.Bool.{true≢false}
use Rattle.std.proofs.lemmas.List.{drop_more, drop_all, take_all, length-drop, get_or-drop, take_more}
use Rattle.std.proofs.lemmas.Option.{slice_get_within, get_or_from_slice_get}
use Rattle.std.specs.Prelude.{slice_get, is_some}
use Rattle.std.specs.List.{prefix_len}
use Rattle.mp_files.specs.declared.items.Item.{Item}
use Rattle.mp_files.specs.Items.{digit_of, is_minus, is_sign}
use Rattle.mp_files.specs.TextFiles.{is_negative, sign_len, value_from, value_of}

-- ---- what stands from a place on

pub drop_item : (xs : List Item) (i : ℕ) (x : Item) → slice_get xs i ≡ Some x → drop i xs ≡ x ∷ drop (i + 1) xs
drop_item xs i x e = drop_more xs i x (slice_get_within xs i x e) ∙ ap (λ y. y ∷ drop (i + 1) xs) (get_or_from_slice_get xs i x x e)

pub past_end : (xs : List Item) (i : ℕ) → slice_get xs i ≡ None → length xs ≤ i
past_end [] i e = omega arith
past_end (x ∷ xs) zero e = absurd (true≢false (ap is_some e))
past_end (x ∷ xs) (suc i) e = let rest = past_end xs i e in omega arith

pub drop_end : (xs : List Item) (i : ℕ) → slice_get xs i ≡ None → drop i xs ≡ []
drop_end xs i e = drop_all i xs (past_end xs i e)

-- ---- items that pass a test

pub prefix_on : (p : Item → Bool) (xs : List Item) (i : ℕ) (x : Item) → slice_get xs i ≡ Some x → p x ≡ true → prefix_len p (drop i xs) ≡ 1 + prefix_len p (drop (i + 1) xs)
prefix_on p xs i x e passes = ap (prefix_len p) (drop_item xs i x e) ∙ ap (λ b. cond b (1 + prefix_len p (drop (i + 1) xs)) 0) passes

pub prefix_stops : (p : Item → Bool) (xs : List Item) (i : ℕ) (x : Item) → slice_get xs i ≡ Some x → p x ≡ false → prefix_len p (drop i xs) ≡ 0
prefix_stops p xs i x e fails = ap (prefix_len p) (drop_item xs i x e) ∙ ap (λ b. cond b (1 + prefix_len p (drop (i + 1) xs)) 0) fails

pub prefix_end : (p : Item → Bool) (xs : List Item) (i : ℕ) → slice_get xs i ≡ None → prefix_len p (drop i xs) ≡ 0
prefix_end p xs i e = ap (prefix_len p) (drop_end xs i e)

-- ---- digits

value_from-push : (n : ℕ) (ds : List Item) (d : Item) → value_from n (ds ++ d ∷ []) ≡ 10 * value_from n ds + digit_of d
value_from-push n [] d = refl
value_from-push n (e ∷ ds) d = value_from-push (10 * n + digit_of e) ds d

-- one digit more
pub value_more : (xs : List Item) (from at : ℕ) (x : Item) → from ≤ at → slice_get xs at ≡ Some x →
    value_of (take (at + 1 - from) (drop from xs)) ≡ 10 * value_of (take (at - from) (drop from xs)) + digit_of x
value_more xs from at x low e =
    let within : at - from < length (drop from xs) = let l = slice_get_within xs at x e in omega (arith, length-drop from xs) in
    let item : get_or (drop from xs) (at - from) x ≡ x = get_or-drop from xs (at - from) x ∙ ap (λ n. get_or xs n x) (omega arith) ∙ get_or_from_slice_get xs at x x e in
    ap (λ n. value_of (take n (drop from xs))) (omega arith)
    ∙ ap value_of (take_more (drop from xs) (at - from) x within ∙ ap (λ y. take (at - from) (drop from xs) ++ y ∷ []) item)
    ∙ value_from-push 0 (take (at - from) (drop from xs)) x

-- past the end there are no more digits
pub value_same : (xs : List Item) (from at : ℕ) → from ≤ at → slice_get xs at ≡ None → value_of (take (at + 1 - from) (drop from xs)) ≡ value_of (take (at - from) (drop from xs))
value_same xs from at low e =
    let end = past_end xs at e in
    ap value_of (take_all (at + 1 - from) (drop from xs) (omega (arith, length-drop from xs)) ∙ sym (take_all (at - from) (drop from xs) (omega (arith, length-drop from xs))))

-- ---- signs

pub sign_on : (xs : List Item) (i : ℕ) (x : Item) → slice_get xs i ≡ Some x → is_sign x ≡ true → sign_len (drop i xs) ≡ 1
sign_on xs i x e is = ap sign_len (drop_item xs i x e) ∙ ap (λ b. cond b 1 0) is

pub sign_off : (xs : List Item) (i : ℕ) (x : Item) → slice_get xs i ≡ Some x → is_sign x ≡ false → sign_len (drop i xs) ≡ 0
sign_off xs i x e is = ap sign_len (drop_item xs i x e) ∙ ap (λ b. cond b 1 0) is

pub sign_past : (xs : List Item) (i : ℕ) → slice_get xs i ≡ None → sign_len (drop i xs) ≡ 0
sign_past xs i e = ap sign_len (drop_end xs i e)

pub minus_at : (xs : List Item) (i : ℕ) (x : Item) → slice_get xs i ≡ Some x → is_negative (drop i xs) ≡ is_minus x
minus_at xs i x e = ap is_negative (drop_item xs i x e)
