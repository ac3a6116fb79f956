-- What edits do, told by the numbers of lines and bytes: laws of `edited` and of `out_of_range`.
use Rattle.std.specs.Prelude.{◌≡◌, ◌↔◌, ℕ, ◌+◌, ◌-◌, ◌<◌, ◌≤◌, List, [], ◌∷◌, length, take, drop, slice_index_or, None}
use Rattle.mp_base.specs.Text.{bytes_of}
use Rattle.mp_text.specs.Edits.{IsInRange, edited, line_at}
use Rattle.mp_text.specs.Refusals.{out_of_range}
use Rattle.mp_text.specs.declared.edits.Edit.{Edit}
use Rattle.mp_text.specs.declared.edits.Edit.TheVariants as edit

-- no number of the edit is refused exactly where they all are in range
abbrev pub IsRangeTested : Edit → List (List ℕ) → Type 0
IsRangeTested edit text = (out_of_range edit text ≡ None) ↔ IsInRange edit text

-- the item of a list that has this number; the first has 1
abbrev pub item_at : {X : Type 0} → X → List X → ℕ → X
item_at none items n = slice_index_or items (n - 1) none

-- In a list that is made of another these items stand in place of those from the first to the last, or of none where
-- the last is just before the first. The items before them stay where they are, those behind them are shifted.
pub record ArePut {X : Type 0} (none : X) (first last : ℕ) (items list made : List X) : Type 0 where
  pub count : length made + (last + 1 - first) ≡ length list + length items
  pub before : (n : ℕ) → 1 ≤ n → n < first → item_at none made n ≡ item_at none list n
  pub new : (n : ℕ) → 1 ≤ n → n ≤ length items → item_at none made (first - 1 + n) ≡ item_at none items n
  pub behind : (n : ℕ) → last < n → n ≤ length list → item_at none made (n + length items - (last + 1 - first)) ≡ item_at none list n

-- A text is made of another by an edit: lines stand in place of others, or, for a substitution, bytes in place of others
-- in one line.
abbrev pub IsMade : Edit → List (List ℕ) → List (List ℕ) → Type 0
IsMade (edit.Insert after lines) text made = ArePut [] (after + 1) after lines text made
IsMade (edit.Delete first last) text made = ArePut [] first last [] text made
IsMade (edit.Replace first last lines) text made = ArePut [] first last lines text made
IsMade (edit.Sub line column count bytes) text made =
    ArePut 0 column (column + count - 1) bytes (line_at text line) (line_at made line) × ArePut [] line line (line_at made line ∷ []) text made

-- an edit whose numbers are in range makes one text
abbrev pub MakesOneText : Edit → List (List ℕ) → Type 0
MakesOneText edit text = IsInRange edit text → IsMade edit text (edited edit text) × ((made : List (List ℕ)) → IsMade edit text made → made ≡ edited edit text)

-- how many bytes a text has, each line with its line end
abbrev pub size : List (List ℕ) → ℕ
size text = length (bytes_of text)

-- the lines from the first to the last
abbrev pub lines_from : ℕ → ℕ → List (List ℕ) → List (List ℕ)
lines_from first last text = take (last + 1 - first) (drop (first - 1) text)

-- how many lines and bytes a text has that is made by an edit
abbrev pub HasItsSize : Edit → List (List ℕ) → List (List ℕ) → Type 0
HasItsSize (edit.Insert after lines) text made = (length made ≡ length text + length lines) × (size made ≡ size text + size lines)
HasItsSize (edit.Delete first last) text made = (length made + (last + 1 - first) ≡ length text) × (size made + size (lines_from first last text) ≡ size text)
HasItsSize (edit.Replace first last lines) text made =
    (length made + (last + 1 - first) ≡ length text + length lines) × (size made + size (lines_from first last text) ≡ size text + size lines)
HasItsSize (edit.Sub line column count bytes) text made = (length made ≡ length text) × (size made + count ≡ size text + length bytes)
