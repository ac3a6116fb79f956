-- What edits do, by numbers: a list of three parts is read part by part, and a list is what its numbered items are.
use Rattle.std.proofs.Common.{◌≡◌, ◌↔◌, ◌≤◌, ◌<◌, ◌+◌, ◌-◌, ◌&&◌, ℕ, zero, suc, List, [], ◌∷◌, ◌++◌, length, get_or, take, drop, Bool, true}
use Rattle.std.proofs.Common.{false, nat_le, None, Some, refl, ap, sym, subst, ◌∙◌, arith, ⊎_elim}
use Rattle.std.proofs.lemmas.List.{length-append, length-take-le, length-drop, get_or_append_left, get_or-append_right, get_or-take}
use Rattle.std.proofs.lemmas.List.{get_or-drop, ext_get_or, take-append-drop, drop-drop}
use Rattle.std.proofs.Math.Seq.{drop-cons}
use Rattle.std.proofs.lemmas.Bool.{and_parts, le-leb, leb-true, cases_lt}
use Rattle.mp_base.specs.Text.{bytes_of}
use Rattle.mp_base.proofs.Cuts.{bytes_of-append}
use Rattle.mp_text.specs.Edits.{IsInRange, edited, line_at, substituted}
use Rattle.mp_text.specs.Meant.{ArePut, HasItsSize, IsMade, IsRangeTested, MakesOneText, lines_from, size}
use Rattle.mp_text.specs.Refusals.{first_of, out_of_range, unless}
use Rattle.mp_text.specs.declared.edits.Edit.{Edit}
use Rattle.mp_text.specs.declared.edits.Edit.TheVariants as edit
use Rattle.mp_text.specs.declared.errors.TextError.{TextError}

-- the range

passed : (test : Bool) (refused : TextError) → unless test refused ≡ None → test ≡ true
passed true refused e = refl
passed false refused e = absurd (let f : Some refused ≡ None = e in cc)

record AllThree (a b c : Bool) : Type 0 where
  one : a ≡ true
  two : b ≡ true
  three : c ≡ true

all_passed : (a b c : Bool) (e f g : TextError) → first_of (unless a e ∷ unless b f ∷ unless c g ∷ []) ≡ None → AllThree a b c
all_passed true true true e f g h = record { one = refl; two = refl; three = refl }
all_passed false b c e f g h = absurd (let n : Some e ≡ None = h in cc)
all_passed true false c e f g h = absurd (let n : Some f ≡ None = h in cc)
all_passed true true false e f g h = absurd (let n : Some g ≡ None = h in cc)

none_refused : (a b c : Bool) (e f g : TextError) → a ≡ true → b ≡ true → c ≡ true → first_of (unless a e ∷ unless b f ∷ unless c g ∷ []) ≡ None
none_refused a b c e f g p q r = rw (p, q, r) refl

lines_range : (first last count : ℕ) (refused : TextError)
    → (unless (nat_le 1 first && (nat_le first last && nat_le last count)) refused ≡ None) ↔ ((1 ≤ first) × (first ≤ last) × (last ≤ count))
lines_range first last count refused = (there, back)
  where
    there : unless (nat_le 1 first && (nat_le first last && nat_le last count)) refused ≡ None → (1 ≤ first) × (first ≤ last) × (last ≤ count)
    there e =
        let p = and_parts (nat_le 1 first) (nat_le first last && nat_le last count) (passed _ refused e) in
        let q = and_parts (nat_le first last) (nat_le last count) p.1 in
        (leb-true _ _ p.0, leb-true _ _ q.0, leb-true _ _ q.1)

    back : (1 ≤ first) × (first ≤ last) × (last ≤ count) → unless (nat_le 1 first && (nat_le first last && nat_le last count)) refused ≡ None
    back h = rw (le-leb _ _ h.0, le-leb _ _ h.1, le-leb _ _ h.2) refl

sub_there : (line column count : ℕ) (bytes : List ℕ) (text : List (List ℕ)) → out_of_range (edit.Sub line column count bytes) text ≡ None
    → IsInRange (edit.Sub line column count bytes) text
unfolding out_of_range
sub_there line column count bytes text e =
    let all = all_passed _ _ _ _ _ _ e in
    let lines = and_parts (nat_le 1 line) (nat_le line (length text)) all.one in
    let columns = and_parts (nat_le 1 column) (nat_le column (length (line_at text line) + 1)) all.two in
    let c = leb-true _ _ columns.1 in
    let k = leb-true _ _ all.three in
    (leb-true _ _ lines.0, leb-true _ _ lines.1, leb-true _ _ columns.0, omega (arith, c, k))

sub_back : (line column count : ℕ) (bytes : List ℕ) (text : List (List ℕ)) → IsInRange (edit.Sub line column count bytes) text
    → out_of_range (edit.Sub line column count bytes) text ≡ None
unfolding out_of_range
sub_back line column count bytes text h =
    let c : column ≤ length (line_at text line) + 1 = omega (arith, h.3) in
    let n : count ≤ length (line_at text line) + 1 - column = omega (arith, h.3) in
    let p : (nat_le 1 line && nat_le line (length text)) ≡ true = rw (le-leb _ _ h.0, le-leb _ _ h.1) refl in
    let q : (nat_le 1 column && nat_le column (length (line_at text line) + 1)) ≡ true = rw (le-leb _ _ h.2, le-leb _ _ c) refl in
    none_refused _ _ _ _ _ _ p q (le-leb _ _ n)

pub range_tested : (e : Edit) (text : List (List ℕ)) → IsRangeTested e text
unfolding out_of_range
range_tested (edit.Insert after lines) text = ((λ e. leb-true after (length text) (passed _ _ e)), (λ h. rw (le-leb after (length text) h) refl))
range_tested (edit.Delete first last) text = lines_range first last (length text) _
range_tested (edit.Replace first last lines) text = lines_range first last (length text) _
range_tested (edit.Sub line column count bytes) text = (sub_there line column count bytes text, sub_back line column count bytes text)

-- the places

-- a list of three parts, of which the second is new
made_of_parts : {X : Type 0} (none : X) (first last keep from : ℕ) (items list : List X) → keep + 1 ≡ first → from ≡ last → first ≤ last + 1
    → last ≤ length list → ArePut none first last items list (take keep list ++ (items ++ drop from list))
made_of_parts none first last keep from items list k f low high =
    let front = take keep list in
    let behind = drop from list in
    let made = front ++ (items ++ behind) in
    let len : length front ≡ keep = length-take-le keep list (omega (arith, k, low, high)) in
    let rest : length behind ≡ length list - from = length-drop from list in
    record {
      count = omega (arith, length-append front (items ++ behind), length-append items behind, len, rest, k, f, low, high);
      before = λ n one lt. get_or_append_left front (items ++ behind) none (n - 1) (omega (arith, len, k, one, lt))
          ∙ get_or-take keep list (n - 1) none (omega (arith, k, one, lt));
      new = λ n one le.
          let at : first - 1 + n - 1 - keep ≡ n - 1 = omega (arith, k, one) in
          get_or-append_right front (items ++ behind) keep (first - 1 + n - 1) none len (omega (arith, k, one))
          ∙ ap (λ i. get_or (items ++ behind) i none) at
          ∙ get_or_append_left items behind none (n - 1) (omega (arith, one, le));
      behind = λ n lt le.
          let place = n + length items - (last + 1 - first) - 1 in
          let at : from + (place - keep - length items) ≡ n - 1 = omega (arith, k, f, low, lt) in
          get_or-append_right front (items ++ behind) keep place none len (omega (arith, k, f, low, lt))
          ∙ get_or-append_right items behind (length items) (place - keep) none refl (omega (arith, k, f, low, lt))
          ∙ get_or-drop from list (place - keep - length items) none
          ∙ ap (λ i. get_or list i none) at;
    }

-- two lists that are made so are the same, item by item
same_before : {X : Type 0} (none : X) (first last : ℕ) (items list made other : List X) → ArePut none first last items list made
    → ArePut none first last items list other → (i : ℕ) → i + 1 < first → get_or made i none ≡ get_or other i none
same_before none first last items list made other h k i lt =
    let at : i + 1 - 1 ≡ i = omega arith in
    sym (ap (λ j. get_or made j none) at) ∙ h.before (i + 1) (omega arith) lt ∙ sym (k.before (i + 1) (omega arith) lt) ∙ ap (λ j. get_or other j none) at

same_new : {X : Type 0} (none : X) (first last : ℕ) (items list made other : List X) → ArePut none first last items list made
    → ArePut none first last items list other → 1 ≤ first → (i : ℕ) → first ≤ i + 1 → i + 1 < first + length items
    → get_or made i none ≡ get_or other i none
same_new none first last items list made other h k one i low high =
    let n = i + 2 - first in
    let at : first - 1 + n - 1 ≡ i = omega (arith, one, low) in
    let above : 1 ≤ n = omega (arith, low) in
    let under : n ≤ length items = omega (arith, low, high) in
    sym (ap (λ j. get_or made j none) at) ∙ h.new n above under ∙ sym (k.new n above under) ∙ ap (λ j. get_or other j none) at

same_behind : {X : Type 0} (none : X) (first last : ℕ) (items list made other : List X) → ArePut none first last items list made
    → ArePut none first last items list other → 1 ≤ first → first ≤ last + 1 → last ≤ length list → (i : ℕ) → first + length items ≤ i + 1
    → i < length made → get_or made i none ≡ get_or other i none
same_behind none first last items list made other h k one order ends i low lt =
    let n = i + 1 + (last + 1 - first) - length items in
    let at : n + length items - (last + 1 - first) - 1 ≡ i = omega (arith, one, order, low) in
    let above : last < n = omega (arith, one, order, low) in
    let under : n ≤ length list = omega (arith, h.count, order, low, lt, one) in
    sym (ap (λ j. get_or made j none) at) ∙ h.behind n above under ∙ sym (k.behind n above under) ∙ ap (λ j. get_or other j none) at

one_made : {X : Type 0} (none : X) (first last : ℕ) (items list made other : List X) → ArePut none first last items list made
    → ArePut none first last items list other → 1 ≤ first → first ≤ last + 1 → last ≤ length list → made ≡ other
one_made none first last items list made other h k one order ends = ext_get_or none made other (omega (arith, h.count, k.count)) same
  where
    same : (i : ℕ) → i < length made → get_or made i none ≡ get_or other i none
    same i lt = ⊎_elim
        (λ (before : i + 1 < first). same_before none first last items list made other h k i before)
        (λ (low : first ≤ i + 1). ⊎_elim
        (λ (new : i + 1 < first + length items). same_new none first last items list made other h k one i low new)
        (λ (behind : first + length items ≤ i + 1). same_behind none first last items list made other h k one order ends i behind lt)
        (cases_lt (i + 1) (first + length items)))
        (cases_lt (i + 1) first)

made_insert : (after : ℕ) (lines text : List (List ℕ)) → after ≤ length text → IsMade (edit.Insert after lines) text (edited (edit.Insert after lines) text)
unfolding edited
made_insert after lines text h = made_of_parts [] (after + 1) after after after lines text refl refl (omega arith) h

made_replaced : (first last : ℕ) (lines text : List (List ℕ)) → (1 ≤ first) × (first ≤ last) × (last ≤ length text)
    → ArePut [] first last lines text (take (first - 1) text ++ (lines ++ drop last text))
made_replaced first last lines text h =
    let k : first - 1 + 1 ≡ first = let one = h.0 in omega arith in
    let order : first ≤ last + 1 = let le = h.1 in omega arith in
    made_of_parts [] first last (first - 1) last lines text k refl order h.2

made_bytes : (column count : ℕ) (bytes line : List ℕ) → 1 ≤ column → column + count ≤ length line + 1
    → ArePut 0 column (column + count - 1) bytes line (substituted column count bytes line)
made_bytes column count bytes line one le =
    let k : column - 1 + 1 ≡ column = omega (arith, one) in
    let f : column - 1 + count ≡ column + count - 1 = omega (arith, one) in
    made_of_parts 0 column (column + count - 1) (column - 1) (column - 1 + count) bytes line k f (omega (arith, one)) (omega (arith, one, le))

-- the one line of a substitution
sub_line : (line : ℕ) (new : List ℕ) (text made : List (List ℕ)) → 1 ≤ line → ArePut [] line line (new ∷ []) text made → line_at made line ≡ new
sub_line line new text made one h =
    let at : line - 1 + 1 - 1 ≡ line - 1 = omega arith in
    sym (ap (λ j. get_or made j []) at) ∙ h.new 1 (omega arith) (omega arith)

sub_ranges : (line : ℕ) (text : List (List ℕ)) → 1 ≤ line → line ≤ length text → (1 ≤ line) × (line ≤ line) × (line ≤ length text)
sub_ranges line text one le = (one, omega arith, le)

made_sub : (line column count : ℕ) (bytes : List ℕ) (text : List (List ℕ)) → IsInRange (edit.Sub line column count bytes) text
    → IsMade (edit.Sub line column count bytes) text (edited (edit.Sub line column count bytes) text)
unfolding edited
made_sub line column count bytes text h =
    let new = substituted column count bytes (line_at text line) in
    let made = take (line - 1) text ++ (new ∷ [] ++ drop line text) in
    let put = made_replaced line line (new ∷ []) text (sub_ranges line text h.0 h.1) in
    let is = sub_line line new text made h.0 put in (
      subst (ArePut 0 column (column + count - 1) bytes (line_at text line)) (sym is) (made_bytes column count bytes (line_at text line) h.2 h.3),
      subst (λ l. ArePut [] line line (l ∷ []) text made) (sym is) put,
    )

only_sub : (line column count : ℕ) (bytes : List ℕ) (text : List (List ℕ)) → IsInRange (edit.Sub line column count bytes) text
    → (other : List (List ℕ)) → IsMade (edit.Sub line column count bytes) text other → other ≡ edited (edit.Sub line column count bytes) text
unfolding edited
only_sub line column count bytes text h other k =
    let old = line_at text line in
    let new = substituted column count bytes old in
    let low : 1 ≤ column = h.2 in
    let high : column + count ≤ length old + 1 = h.3 in
    let is = one_made 0 column (column + count - 1) bytes old (line_at other line) new k.0 (made_bytes column count bytes old low high) low
    (omega (arith, low)) (omega (arith, low, high)) in
    let put = subst (λ l. ArePut [] line line (l ∷ []) text other) is k.1 in
    one_made [] line line (new ∷ []) text other _ put (made_replaced line line (new ∷ []) text (sub_ranges line text h.0 h.1)) h.0 (omega arith) h.1

pub makes_one : (e : Edit) (text : List (List ℕ)) → MakesOneText e text
unfolding edited
makes_one (edit.Insert after lines) text h =
    let made = made_insert after lines text h in
    (made, λ other k. one_made [] (after + 1) after lines text other _ k made (omega arith) (omega arith) h)
makes_one (edit.Delete first last) text h =
    let made = made_replaced first last [] text h in
    let order : first ≤ last + 1 = let le = h.1 in omega arith in
    (made, λ other k. one_made [] first last [] text other _ k made h.0 order h.2)
makes_one (edit.Replace first last lines) text h =
    let made = made_replaced first last lines text h in
    let order : first ≤ last + 1 = let le = h.1 in omega arith in
    (made, λ other k. one_made [] first last lines text other _ k made h.0 order h.2)
makes_one (edit.Sub line column count bytes) text h = (made_sub line column count bytes text h, only_sub line column count bytes text h)

-- the sizes

pub size_append : (front rest : List (List ℕ)) → size (front ++ rest) ≡ size front + size rest
size_append front rest = ap length (bytes_of-append front rest) ∙ length-append (bytes_of front) (bytes_of rest)

size_line : (line : List ℕ) → size (line ∷ []) ≡ length line + 1
unfolding bytes_of
size_line line = omega (arith, length-append line (10 ∷ []))

pub size_parts : (n : ℕ) (text : List (List ℕ)) → size text ≡ size (take n text) + size (drop n text)
size_parts n text = sym (ap size (take-append-drop n text)) ∙ size_append (take n text) (drop n text)

-- lines in place of the others from the first to the last
sized_lines : (first last : ℕ) (lines text : List (List ℕ)) → (1 ≤ first) × (first ≤ last) × (last ≤ length text)
    → let made = take (first - 1) text ++ (lines ++ drop last text) in size made + size (lines_from first last text) ≡ size text + size lines
sized_lines first last lines text h =
    let one : 1 ≤ first = h.0 in
    let le : first ≤ last = h.1 in
    let front = take (first - 1) text in
    let rest = drop (first - 1) text in
    let through : first - 1 + (last + 1 - first) ≡ last = omega arith in
    let behind : drop (last + 1 - first) rest ≡ drop last text = drop-drop (last + 1 - first) (first - 1) text ∙ ap (λ k. drop k text) through in
    omega (arith, size_append front (lines ++ drop last text), size_append lines (drop last text), size_parts (first - 1) text, size_parts (last + 1 - first) rest, ap size behind)

counted_lines : (first last : ℕ) (lines text : List (List ℕ)) → (1 ≤ first) × (first ≤ last) × (last ≤ length text)
    → length (take (first - 1) text ++ (lines ++ drop last text)) + (last + 1 - first) ≡ length text + length lines
counted_lines first last lines text h = (made_replaced first last lines text h).count

one_line_from : (line : ℕ) (text : List (List ℕ)) → 1 ≤ line → line ≤ length text → size (lines_from line line text) ≡ length (line_at text line) + 1
one_line_from line text one le =
    let single : line + 1 - line ≡ suc zero = omega arith in
    let rest : drop (line - 1) text ≡ line_at text line ∷ drop (suc (line - 1)) text = drop-cons text (line - 1) [] (omega (arith, one, le)) in
    ap size (ap (λ k. take k (drop (line - 1) text)) single ∙ ap (take (suc zero)) rest) ∙ size_line (line_at text line)

substituted_length : (column count : ℕ) (bytes line : List ℕ) → 1 ≤ column → column + count ≤ length line + 1
    → length (substituted column count bytes line) + count ≡ length line + length bytes
substituted_length column count bytes line one le = omega (arith, (made_bytes column count bytes line one le).count, one)

no_size : size [] ≡ 0
unfolding bytes_of
no_size = refl

pub sized : (e : Edit) (text : List (List ℕ)) → IsInRange e text → HasItsSize e text (edited e text)
unfolding edited
sized (edit.Insert after lines) text h = (
  omega (arith, (made_insert after lines text h).count),
  omega (
    arith,
    size_append (take after text) (lines ++ drop after text),
    size_append lines (drop after text),
    size_parts after text,
  ),
)
sized (edit.Delete first last) text h =
    let none : size [] ≡ 0 = no_size in
    (omega (arith, counted_lines first last [] text h), omega (arith, sized_lines first last [] text h, none))
sized (edit.Replace first last lines) text h = (counted_lines first last lines text h, sized_lines first last lines text h)
sized (edit.Sub line column count bytes) text h =
    let old = line_at text line in
    let new = substituted column count bytes old in
    let range = sub_ranges line text h.0 h.1 in (
      omega (arith, counted_lines line line (new ∷ []) text range),
      omega (arith, sized_lines line line (new ∷ []) text range, one_line_from line text h.0 h.1, size_line new, substituted_length column count bytes old h.2 h.3),
    )
