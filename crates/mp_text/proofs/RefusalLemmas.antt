-- The refusals of an edit, one after another.
use Rattle.std.proofs.Common.{◌≡◌, ◌≤◌, ◌<◌, ◌+◌, ◌-◌, ℕ, suc, List, [], ◌∷◌, ◌++◌, length, take, drop, true, false, nat_le, nat_lt, Bool, ◌&&◌, Option, None, Some, refl, ap, sym, subst, ◌∙◌, arith}
use Rattle.std.specs.Bool.{⊤}
use Rattle.std.proofs.lemmas.List.{length-append, length-take, length-drop}
use Rattle.std.proofs.lemmas.Bool.{le-leb, lt-leb}
use Rattle.std.specs.List.{position_from}
use Rattle.std.specs.Option.{option_map}
use Rattle.mp_base.specs.declared.limits.TheConstants.{TEXT_LIMIT, VERSION_LIMIT}
use Rattle.mp_base.specs.Text.{bytes_of}
use Rattle.mp_text.specs.Edits.{edited, new_lines, substituted, line_at}
use Rattle.mp_text.specs.Refusals.{IsDue, refusal, back_refusal, first_of, is_long, out_of_range, line_long, no_version, too_long, unless, versions_full}
use Rattle.mp_text.specs.Versions.{stands, version_at}
use Rattle.mp_text.specs.declared.edits.Edit.{Edit}
use Rattle.mp_text.specs.declared.edits.Edit.TheVariants as edit
use Rattle.mp_text.specs.declared.errors.TextError.{TextError}
use Rattle.mp_text.specs.declared.errors.TextError.TheVariants as error

pub refused_full : (versions : List (List (List ℕ))) (base : ℕ) (e : Edit) → VERSION_LIMIT ≤ length versions → refusal versions base e ≡ Some error.VersionsFull
unfolding refusal
refused_full versions base e h = let p : nat_lt (length versions) VERSION_LIMIT ≡ false = lt-leb (suc (length versions)) VERSION_LIMIT (omega arith) in rw p refl

pub refused_version : (versions : List (List (List ℕ))) (base : ℕ) (e : Edit) → length versions < VERSION_LIMIT → stands versions base ≡ false →
    refusal versions base e ≡ Some error.NoVersion
unfolding refusal
refused_version versions base e h q = let p : nat_lt (length versions) VERSION_LIMIT ≡ true = le-leb (suc (length versions)) VERSION_LIMIT (omega arith) in rw (p, q) refl

-- a refusal is never want of memory
unfoldable IsNotMemory : Option TextError → Type 0
IsNotMemory None = ⊤
IsNotMemory (Some error.NoVersion) = ⊤
IsNotMemory (Some (error.Range last)) = ⊤
IsNotMemory (Some (error.TooLong bytes)) = ⊤
IsNotMemory (Some (error.LineLong line)) = ⊤
IsNotMemory (Some error.VersionsFull) = ⊤
IsNotMemory (Some error.Memory) = ⊥

unless_told : (test : Bool) (e : TextError) → IsNotMemory (Some e) → IsNotMemory (unless test e)
unfolding IsNotMemory
unless_told true e h = tt
unless_told false e h = h

none_told : IsNotMemory None
unfolding IsNotMemory
none_told = tt

range_error : (last : ℕ) → IsNotMemory (Some (error.Range last))
unfolding IsNotMemory
range_error last = tt

full_error : IsNotMemory (Some error.VersionsFull)
unfolding IsNotMemory
full_error = tt

version_error : IsNotMemory (Some error.NoVersion)
unfolding IsNotMemory
version_error = tt

size_error : (bytes : ℕ) → IsNotMemory (Some (error.TooLong bytes))
unfolding IsNotMemory
size_error bytes = tt

first_told : (r : Option TextError) (rest : List (Option TextError)) → IsNotMemory r → IsNotMemory (first_of rest) → IsNotMemory (first_of (r ∷ rest))
first_told None rest h k = k
first_told (Some e) rest h k = h

long_told : (line : Option ℕ) → IsNotMemory (option_map (λ n. error.LineLong n) line)
unfolding IsNotMemory
long_told None = tt
long_told (Some n) = tt

ranges_told : (a b c : Bool) (x y z : ℕ) → IsNotMemory (first_of (unless a (error.Range x) ∷ unless b (error.Range y) ∷ unless c (error.Range z) ∷ []))
unfolding IsNotMemory
ranges_told false b c x y z = tt
ranges_told true false c x y z = tt
ranges_told true true false x y z = tt
ranges_told true true true x y z = tt

range_told : (e : Edit) (text : List (List ℕ)) → IsNotMemory (out_of_range e text)
unfolding out_of_range
range_told (edit.Insert after lines) text = unless_told _ _ (range_error (length text))
range_told (edit.Delete first last) text = unless_told _ _ (range_error (length text))
range_told (edit.Replace first last lines) text = unless_told _ _ (range_error (length text))
range_told (edit.Sub line column count bytes) text =
    let columns = length (line_at text line) + 1 in
    let is_line = nat_le 1 line && nat_le line (length text) in
    let is_column = nat_le 1 column && nat_le column columns in
    ranges_told is_line is_column (nat_le count (columns - column)) (length text) columns (columns - column)

refusal_told : (versions : List (List (List ℕ))) (base : ℕ) (e : Edit) → IsNotMemory (refusal versions base e)
unfolding refusal
refusal_told versions base e =
    let text = version_at versions base in
    let made = edited e text in
    let size = first_told (too_long made) [] (unless_told _ _ (size_error _)) none_told in
    let long = first_told (line_long made) _ (long_told (position_from is_long 1 made)) size in
    let range = first_told (out_of_range e text) _ (range_told e text) long in
    let version = first_told (no_version versions base) _ (unless_told _ _ version_error) range in
    first_told (versions_full versions) _ (unless_told _ _ full_error) version

-- an error that is the refusal of an edit is due
due_told : (refused : Option TextError) (e : TextError) → IsNotMemory refused → refused ≡ Some e → IsDue e refused
unfolding IsNotMemory
due_told refused error.NoVersion n h = h
due_told refused (error.Range last) n h = h
due_told refused (error.TooLong bytes) n h = h
due_told refused (error.LineLong line) n h = h
due_told refused error.VersionsFull n h = h
due_told refused error.Memory n h = absurd (subst IsNotMemory h n)

pub due : (versions : List (List (List ℕ))) (base : ℕ) (edit : Edit) (e : TextError) → refusal versions base edit ≡ Some e → IsDue e (refusal versions base edit)
due versions base edit e h = due_told _ e (refusal_told versions base edit) h

-- where there is room and the version stands, the edit's own numbers and the new text decide
refused_later : (versions : List (List (List ℕ))) (base : ℕ) (e : Edit) → length versions < VERSION_LIMIT → stands versions base ≡ true →
    let text = version_at versions base in refusal versions base e ≡ first_of (out_of_range e text ∷ line_long (edited e text) ∷ too_long (edited e text) ∷ [])
unfolding refusal
refused_later versions base e h q = let p : nat_lt (length versions) VERSION_LIMIT ≡ true = le-leb (suc (length versions)) VERSION_LIMIT (omega arith) in rw (p, q) refl

pub refused_range : (versions : List (List (List ℕ))) (base : ℕ) (e : Edit) (text : List (List ℕ)) (why : TextError) → length versions < VERSION_LIMIT →
    stands versions base ≡ true → text ≡ version_at versions base → out_of_range e text ≡ Some why → refusal versions base e ≡ Some why
refused_range versions base e text why h q it r =
    let base_text = version_at versions base in
    let late : Option TextError → Option TextError = λ o. first_of (o ∷ line_long (edited e base_text) ∷ too_long (edited e base_text) ∷ []) in
    refused_later versions base e h q ∙ ap late (ap (out_of_range e) (sym it) ∙ r)

pub refused_size : (versions : List (List (List ℕ))) (base : ℕ) (e : Edit) (text made : List (List ℕ)) (r : Option TextError) →
    length versions < VERSION_LIMIT → stands versions base ≡ true → text ≡ version_at versions base → out_of_range e text ≡ None → made ≡ edited e text →
    first_of (line_long made ∷ too_long made ∷ []) ≡ r → refusal versions base e ≡ r
refused_size versions base e text made r h q it none m size =
    let base_text = version_at versions base in
    let late : Option TextError → Option TextError = λ o. first_of (o ∷ line_long (edited e base_text) ∷ too_long (edited e base_text) ∷ []) in
    let new : edited e base_text ≡ made = ap (edited e) (sym it) ∙ sym m in
    let sizes : List (List ℕ) → Option TextError = λ t. first_of (line_long t ∷ too_long t ∷ []) in
    refused_later versions base e h q ∙ ap late (ap (out_of_range e) (sym it) ∙ none) ∙ ap sizes new ∙ size

pub back_full : (versions : List (List (List ℕ))) (v : ℕ) → VERSION_LIMIT ≤ length versions → back_refusal versions v ≡ Some error.VersionsFull
unfolding back_refusal
back_full versions v h = let p : nat_lt (length versions) VERSION_LIMIT ≡ false = lt-leb (suc (length versions)) VERSION_LIMIT (omega arith) in rw p refl

pub back_version : (versions : List (List (List ℕ))) (v : ℕ) → length versions < VERSION_LIMIT → stands versions v ≡ false → back_refusal versions v ≡ Some error.NoVersion
unfolding back_refusal
back_version versions v h q = let p : nat_lt (length versions) VERSION_LIMIT ≡ true = le-leb (suc (length versions)) VERSION_LIMIT (omega arith) in rw (p, q) refl

pub back_stands : (versions : List (List (List ℕ))) (v : ℕ) → length versions < VERSION_LIMIT → stands versions v ≡ true → back_refusal versions v ≡ None
unfolding back_refusal
back_stands versions v h q = let p : nat_lt (length versions) VERSION_LIMIT ≡ true = le-leb (suc (length versions)) VERSION_LIMIT (omega arith) in rw (p, q) refl

-- an edit brings few lines
pub edited_few : (e : Edit) (text : List (List ℕ)) → length (edited e text) ≤ length text + length text + length (new_lines e)
unfolding edited
edited_few (edit.Insert after lines) text = omega (
  arith,
  length-append (take after text) (lines ++ drop after text),
  length-append lines (drop after text),
  length-take after text,
  length-drop after text,
)
edited_few (edit.Delete first last) text = omega (arith, length-append (take (first - 1) text) (drop last text), length-take (first - 1) text, length-drop last text)
edited_few (edit.Replace first last lines) text = omega (
  arith,
  length-append (take (first - 1) text) (lines ++ drop last text),
  length-append lines (drop last text),
  length-take (first - 1) text,
  length-drop last text,
)
edited_few (edit.Sub line column count bytes) text = omega (
  arith,
  length-append (take (line - 1) text) (substituted column count bytes (line_at text line)
      ∷ drop line text),
  length-take (line - 1) text,
  length-drop line text,
)

-- a new text whose lines are short enough
pub too_made : (made : List (List ℕ)) (bytes : ℕ) → position_from is_long 1 made ≡ None → bytes ≡ length (bytes_of made) → TEXT_LIMIT < bytes →
    first_of (line_long made ∷ too_long made ∷ []) ≡ Some (error.TooLong bytes)
too_made made bytes none e l =
    let n = length (bytes_of made) in
    let big : nat_le n TEXT_LIMIT ≡ false = lt-leb n TEXT_LIMIT (omega arith) in
    ap (λ o. first_of (option_map (λ line. error.LineLong line) o ∷ too_long made ∷ [])) none ∙ ap (λ b. first_of (unless b (error.TooLong n) ∷ [])) big
    ∙ ap (λ k. Some (error.TooLong k)) (sym e)

pub kept_made : (made : List (List ℕ)) → position_from is_long 1 made ≡ None → length (bytes_of made) ≤ TEXT_LIMIT → first_of (line_long made ∷ too_long made ∷ []) ≡ None
kept_made made none l =
    let n = length (bytes_of made) in
    let small : nat_le n TEXT_LIMIT ≡ true = le-leb n TEXT_LIMIT l in
    ap (λ o. first_of (option_map (λ line. error.LineLong line) o ∷ too_long made ∷ [])) none ∙ ap (λ b. first_of (unless b (error.TooLong n) ∷ [])) small
