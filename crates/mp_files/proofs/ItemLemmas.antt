-- Items as they are kept, by bytes and marks.
use Rattle.std.proofs.Common.{◌≡◌, ℕ, zero, suc, ◌+◌, ◌<◌, ◌≤◌, Bool, true, false, ◌==◌, ◌&&◌, not, cond, List, [], ◌∷◌, ◌++◌, length, get_or, refl, ap, sym}
use Rattle.std.proofs.Common.{◌∙◌, inl, inr, arith, Some, None}
use Rattle.std.proofs.lemmas.Bool.{cases_eq, ne_eqb, eq-eqb}
use Rattle.std.specs.Prelude.{slice_get}
use Rattle.mp_files.specs.declared.items.Item.TheVariants.{Character, LineEnd}
use Rattle.mp_files.specs.Items.{byte_of, bytes_of, characters, item_of, items_of}
use Rattle.mp_files.specs.Stored.{AreMarked, NoneMarked, is_marked, item_kept, items_kept, marked_item}

pub length-kept : (marks : List ℕ) (at : ℕ) (bytes : List ℕ) → length (items_kept marks at bytes) ≡ length bytes
length-kept marks at [] = refl
length-kept marks at (b ∷ bytes) = ap suc (length-kept marks (suc at) bytes)

pub kept-append : (marks : List ℕ) (at : ℕ) (xs ys : List ℕ) → items_kept marks at (xs ++ ys) ≡ items_kept marks at xs ++ items_kept marks (at + length xs) ys
kept-append marks at [] ys = ap (λ n. items_kept marks n ys) (omega arith)
kept-append marks at (x ∷ xs) ys = ap (λ l. item_kept marks at x ∷ l) (kept-append marks (suc at) xs ys
    ∙ ap (λ n. items_kept marks (suc at) xs ++ items_kept marks n ys) (omega arith))

-- items are told by the marks of their places alone
pub kept_same : (marks others : List ℕ) (at : ℕ) (bytes : List ℕ) → ((k : ℕ) → at ≤ k → k < at + length bytes → is_marked marks k ≡ is_marked others k) →
    items_kept marks at bytes ≡ items_kept others at bytes
kept_same marks others at [] h = refl
kept_same marks others at (b ∷ bytes) h =
    let rest = kept_same marks others (suc at) bytes (λ k low high. h k (omega arith) (omega arith)) in
    ap (λ m. marked_item b m ∷ items_kept marks (suc at) bytes) (h at (omega arith) (omega arith)) ∙ ap (λ l. item_kept others at b ∷ l) rest

unmarked_item : (b : ℕ) → marked_item b false ≡ item_of b
unmarked_item b = elim (b == 10) as (λ ten. cond (ten && not false) LineEnd (Character b) ≡ cond ten LineEnd (Character b)) [ true ↦ refl | false ↦ refl ]

-- unmarked bytes are a text
pub kept_text : (marks : List ℕ) (at : ℕ) (bytes : List ℕ) → NoneMarked marks at → items_kept marks at bytes ≡ items_of bytes
kept_text marks at [] h = refl
kept_text marks at (b ∷ bytes) h =
    ap (λ m. marked_item b m ∷ items_kept marks (suc at) bytes) (h at (omega arith))
    ∙ ap (λ i. i ∷ items_kept marks (suc at) bytes) (unmarked_item b)
    ∙ ap (λ l. item_of b ∷ l) (kept_text marks (suc at) bytes (λ k low. h k (omega arith)))

character_kept : (marks : List ℕ) (at b : ℕ) → (b ≡ 10 → is_marked marks at ≡ true) → item_kept marks at b ≡ Character b
character_kept marks at b h = elim (cases_eq b 10) [
  | inl ten ↦ rw (eq-eqb b 10 ten, h ten) refl
  | inr other ↦ rw (ne_eqb b 10 other) refl
]

-- bytes are characters where each byte 10 is marked
pub kept_characters : (marks : List ℕ) (at : ℕ) (bytes : List ℕ) → ((k : ℕ) → k < length bytes → get_or bytes k 0 ≡ 10 → is_marked marks (at + k) ≡ true) →
    items_kept marks at bytes ≡ characters bytes
kept_characters marks at [] h = refl
kept_characters marks at (b ∷ bytes) h =
    ap (λ i. i ∷ items_kept marks (suc at) bytes) (character_kept marks at b (λ ten. ap (λ n. is_marked marks n) (omega arith) ∙ h 0 (omega arith) ten))
    ∙ ap (λ l. Character b ∷ l) (kept_characters marks (suc at) bytes (λ k within ten. ap (λ n. is_marked marks n) (omega arith) ∙ h (suc k) (omega arith) ten))

byte_kept : (b : ℕ) (marked : Bool) → byte_of (marked_item b marked) ≡ b
byte_kept b marked = elim (cases_eq b 10) [
  | inl ten ↦ rw (eq-eqb b 10 ten) (elim marked as (λ m. byte_of (cond (not m) LineEnd (Character b)) ≡ b) [ true ↦ refl | false ↦ sym ten ])
  | inr other ↦ rw (ne_eqb b 10 other) refl
]

-- the bytes of items are those that are kept
pub bytes-kept : (marks : List ℕ) (at : ℕ) (bytes : List ℕ) → bytes_of (items_kept marks at bytes) ≡ bytes
bytes-kept marks at [] = refl
bytes-kept marks at (b ∷ bytes) = ap (λ x. x ∷ bytes_of (items_kept marks (suc at) bytes)) (byte_kept b (is_marked marks at)) ∙ ap (λ l. b ∷ l) (bytes-kept marks (suc at) bytes)

pub get-kept : (marks : List ℕ) (at : ℕ) (bytes : List ℕ) (i : ℕ) → i < length bytes →
    slice_get (items_kept marks at bytes) i ≡ Some (item_kept marks (at + i) (get_or bytes i 0))
get-kept marks at [] i h = absurd (omega arith)
get-kept marks at (b ∷ bytes) zero h = ap (λ n. Some (item_kept marks n b)) (omega arith)
get-kept marks at (b ∷ bytes) (suc i) h = get-kept marks (suc at) bytes i (omega arith) ∙ ap (λ n. Some (item_kept marks n (get_or bytes i 0))) (omega arith)

pub get_past-kept : (marks : List ℕ) (at : ℕ) (bytes : List ℕ) (i : ℕ) → length bytes ≤ i → slice_get (items_kept marks at bytes) i ≡ None
get_past-kept marks at [] i h = refl
get_past-kept marks at (b ∷ bytes) zero h = absurd (omega arith)
get_past-kept marks at (b ∷ bytes) (suc i) h = get_past-kept marks (suc at) bytes i (omega arith)

-- bytes behind the kept ones, of which no place is marked
pub text_added : (marks bytes more : List ℕ) → NoneMarked marks (length bytes) → items_kept marks 0 (bytes ++ more) ≡ items_kept marks 0 bytes ++ items_of more
text_added marks bytes more none = kept-append marks 0 bytes more
    ∙ ap (λ l. items_kept marks 0 bytes ++ l) (kept_text marks (0 + length bytes) more (λ k low. none k (omega arith)))

-- characters behind the kept items, of which each with the number 10 is marked
pub characters_added : (marks new bytes more : List ℕ) → AreMarked marks new (length bytes) more → items_kept new 0 (bytes ++ more) ≡ items_kept marks 0 bytes ++ characters more
characters_added marks new bytes more h =
    kept-append new 0 bytes more
    ∙ ap (λ l. l ++ items_kept new (0 + length bytes) more) (kept_same new marks 0 bytes (λ k low high. h.before k (omega arith)))
    ∙ ap (λ l. items_kept marks 0 bytes ++ l) (kept_characters new (0 + length bytes) more (λ k within ten. ap (λ n. is_marked new n) (omega arith) ∙ h.tens k within ten))
