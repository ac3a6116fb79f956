-- Text files as they are kept, by items and a place.
use Rattle.std.proofs.Common.{◌≡◌, ℕ, zero, suc, ◌+◌, ◌-◌, ◌≤◌, true, not, cond, List, [], ◌∷◌, ◌++◌, length, take, drop, refl, ap, sym, ◌∙◌, inl, inr, arith, Some, None}
use Rattle.std.proofs.lemmas.Bool.{cases_lt, le-leb, lt-leb, true≢false}
use Rattle.std.proofs.lemmas.List.{drop-drop, append-nil, drop_all, take_all, take-append-drop}
use Rattle.std.specs.List.{prefix_len}
use Rattle.std.specs.Prelude.{slice_get, nat_le, is_some, unwrap_or}
use Rattle.mp_files.specs.declared.items.Item.{Item}
use Rattle.mp_files.specs.declared.items.Item.TheVariants.{Character, LineEnd}
use Rattle.mp_files.specs.declared.causes.TheConstants.{END_OF_FILE}
use Rattle.mp_files.specs.declared.stored_file.Place.{Place}
use Rattle.mp_files.specs.declared.stored_file.Place.TheVariants as place
use Rattle.mp_files.specs.Items.{is_character, is_line_end}
use Rattle.mp_files.specs.TextFiles.{FileCall, Gives, Fails, Reading, at_item, begins_with_line_end, contents, eof, eoln, get, is_nothing, is_unfinished}
use Rattle.mp_files.specs.TextFiles.{is_writing, moved, page_items, read_line, shown, shown_item}
use Rattle.mp_files.specs.Stored.{file_kept}
use Rattle.mp_files.proofs.ReadingLemmas.{drop_item, drop_end}

-- where an item stands at the place, a call that reads goes on
pub reads : {A : Type 0} (xs : List Item) (at : ℕ) (x : Item) (call : FileCall A) → slice_get xs at ≡ Some x → at_item (file_kept xs (place.Reading at)) call ≡ call
reads xs at x call e = ap (λ l. cond (is_nothing l) (Fails END_OF_FILE) call) (drop_item xs at x e)

-- where none does, it fails
pub reads_none : {A : Type 0} (xs : List Item) (at : ℕ) (call : FileCall A) → slice_get xs at ≡ None → at_item (file_kept xs (place.Reading at)) call ≡ Fails END_OF_FILE
reads_none xs at call e = ap (λ l. cond (is_nothing l) (Fails END_OF_FILE) call) (drop_end xs at e)

take_none : {X : Type 0} (k : ℕ) → let none : List X = [] in take k none ≡ none
take_none zero = refl
take_none (suc k) = refl

suc_sum : (at n : ℕ) → suc (at + n) ≡ suc at + n
suc_sum at n = omega arith

take_add : {X : Type 0} (at n : ℕ) (xs : List X) → take at xs ++ take n (drop at xs) ≡ take (at + n) xs
take_add zero n xs = ap (λ k. take k xs) (omega arith)
take_add (suc at) n [] = take_none n ∙ sym (take_none (suc at + n))
take_add (suc at) n (x ∷ xs) = ap (λ l. x ∷ l) (take_add at n xs) ∙ ap (λ k. take k (x ∷ xs)) (suc_sum at n)

-- the position so many items further on
pub moved_kept : (xs : List Item) (at n : ℕ) → moved n (file_kept xs (place.Reading at)) ≡ file_kept xs (place.Reading (at + n))
moved_kept xs at n =
    ap (λ l. record { before = l; behind = drop n (drop at xs); state = Reading }) (take_add at n xs)
    ∙ ap (λ l. record { before = take (at + n) xs; behind = l; state = Reading }) (drop-drop n at xs)

-- past the end all places are one
pub kept_past : (xs : List Item) (at next : ℕ) → length xs ≤ at → length xs ≤ next → file_kept xs (place.Reading at) ≡ file_kept xs (place.Reading next)
kept_past xs at next h k =
    ap (λ l. record { before = l; behind = drop at xs; state = Reading }) (take_all at xs h ∙ sym (take_all next xs k))
    ∙ ap (λ l. record { before = take next xs; behind = l; state = Reading }) (drop_all at xs h ∙ sym (drop_all next xs k))

-- whether anything is left
pub nothing_left : (xs : List Item) (at : ℕ) → is_nothing (drop at xs) ≡ nat_le (length xs) at
nothing_left [] at = ap is_nothing (drop_all at [] (omega arith)) ∙ sym (le-leb 0 at (omega arith))
nothing_left (x ∷ xs) zero = sym (lt-leb (suc (length xs)) 0 (omega arith))
nothing_left (x ∷ xs) (suc at) = nothing_left xs at ∙ same_test (length xs) at
  where
    same_test : (m n : ℕ) → nat_le m n ≡ nat_le (suc m) (suc n)
    same_test m n = elim (cases_lt n m) [
      | inl above ↦ lt-leb m n above ∙ sym (lt-leb (suc m) (suc n) (omega arith))
      | inr within ↦ le-leb m n within ∙ sym (le-leb (suc m) (suc n) (omega arith))
    ]

unwrap_some : (y x : Item) → Some y ≡ Some x → y ≡ x
unwrap_some y x e = ap (λ o. unwrap_or o y) e

-- ---- calls on a file in reading

pub eof-kept : (xs : List Item) (at : ℕ) → eof (file_kept xs (place.Reading at)) ≡ Gives (nat_le (length xs) at) (file_kept xs (place.Reading at))
eof-kept xs at = ap (λ b. Gives b (file_kept xs (place.Reading at))) (nothing_left xs at)

pub eoln-kept : (xs : List Item) (at : ℕ) (x : Item) → slice_get xs at ≡ Some x → eoln (file_kept xs (place.Reading at)) ≡ Gives (is_line_end x) (file_kept xs (place.Reading at))
eoln-kept xs at x e =
    reads xs at x (Gives (begins_with_line_end (drop at xs)) (file_kept xs (place.Reading at))) e
    ∙ ap (λ l. Gives (begins_with_line_end l) (file_kept xs (place.Reading at))) (drop_item xs at x e)

pub shown-kept : (xs : List Item) (at : ℕ) (x : Item) → slice_get xs at ≡ Some x → shown (file_kept xs (place.Reading at)) ≡ shown_item (x ∷ [])
shown-kept xs at x e = ap shown_item (drop_item xs at x e) ∙ first_shown x (drop (at + 1) xs)
  where
    first_shown : (x : Item) (more : List Item) → shown_item (x ∷ more) ≡ shown_item (x ∷ [])
    first_shown (Character byte) more = refl
    first_shown LineEnd more = refl

pub shown_past-kept : (xs : List Item) (at : ℕ) → slice_get xs at ≡ None → shown (file_kept xs (place.Reading at)) ≡ None
shown_past-kept xs at e = ap shown_item (drop_end xs at e)

pub get-kept : (xs : List Item) (at : ℕ) (x : Item) → slice_get xs at ≡ Some x → get (file_kept xs (place.Reading at)) ≡ Gives tt (file_kept xs (place.Reading (at + 1)))
get-kept xs at x e = reads xs at x (Gives tt (moved 1 (file_kept xs (place.Reading at)))) e ∙ ap (Gives tt) (moved_kept xs at 1)

-- behind the characters of the line
abbrev pub line_end : List Item → ℕ → ℕ
line_end xs at = at + prefix_len is_character (drop at xs)

read_line_moved : (xs : List Item) (at : ℕ) (x : Item) → slice_get xs at ≡ Some x →
    read_line (file_kept xs (place.Reading at)) ≡ Gives tt (file_kept xs (place.Reading (line_end xs at + 1)))
read_line_moved xs at x e =
    reads xs at x (Gives tt (moved (prefix_len is_character (drop at xs) + 1) (file_kept xs (place.Reading at)))) e
    ∙ ap (Gives tt) (moved_kept xs at (prefix_len is_character (drop at xs) + 1) ∙ ap (λ n. file_kept xs (place.Reading n)) (omega arith))

pub read_line-kept : (xs : List Item) (at : ℕ) (x : Item) → slice_get xs at ≡ Some x → (end : ℕ) → end ≡ line_end xs at →
    read_line (file_kept xs (place.Reading at)) ≡ Gives tt (file_kept xs (place.Reading (end + 1)))
read_line-kept xs at x e end is = read_line_moved xs at x e ∙ ap (λ n. Gives tt (file_kept xs (place.Reading (n + 1)))) (sym is)

-- where no line end follows, the place is the end
pub read_line_past-kept : (xs : List Item) (at : ℕ) (x : Item) → slice_get xs at ≡ Some x → (end : ℕ) → end ≡ line_end xs at → length xs ≤ end →
    read_line (file_kept xs (place.Reading at)) ≡ Gives tt (file_kept xs (place.Reading end))
read_line_past-kept xs at x e end is past = read_line-kept xs at x e end is ∙ ap (Gives tt) (kept_past xs (end + 1) end (omega arith) past)

-- the last item tells whether the last line is ended
pub unfinished_last : (xs : List Item) (x : Item) → slice_get xs (length xs - 1) ≡ Some x → is_unfinished xs ≡ not (is_line_end x)
unfinished_last [] x e = absurd (true≢false (ap is_some (sym e)))
unfinished_last (y ∷ []) x e = ap (λ item. not (is_line_end item)) (unwrap_some y x e)
unfinished_last (y ∷ z ∷ more) x e = unfinished_last (z ∷ more) x (ap (slice_get (y ∷ z ∷ more)) (last_place (length more)) ∙ e)
  where
    last_place : (n : ℕ) → suc (suc n - 1) ≡ suc (suc n) - 1
    last_place n = omega arith

-- all that stands in a file that is kept
pub contents-kept : (items : List Item) (p : Place) → contents (file_kept items p) ≡ items
contents-kept items place.Closed = append-nil items
contents-kept items (place.Reading at) = take-append-drop at items
contents-kept items place.Writing = append-nil items

-- what `page` writes to a file that is kept in writing
pub page-kept : (items : List Item) (p : Place) → is_writing (file_kept items p).state ≡ true →
    page_items (file_kept items p) ≡ cond (is_unfinished items) (LineEnd ∷ Character 12 ∷ []) (Character 12 ∷ [])
page-kept items place.Closed h = absurd (true≢false (sym h))
page-kept items (place.Reading at) h = absurd (true≢false (sym h))
page-kept items place.Writing h = refl
