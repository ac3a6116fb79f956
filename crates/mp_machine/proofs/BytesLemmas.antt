-- A string that becomes bytes, character by character.
use Rattle.std.proofs.Common.{◌≡◌, ℕ, Bool, true, false, ◌&&◌, List, [], ◌∷◌, ◌++◌, Option, Some, None, refl, sym, ap, ◌∙◌, subst}
use Rattle.std.specs.Prelude.{is_some, nat_lt}
use Rattle.std.specs.List.{list_all}
use Rattle.std.proofs.lemmas.List.Folds.{list_all-append}
use Rattle.mp_memory.specs.declared.cells.Cell.{Cell}
use Rattle.mp_machine.specs.FileRows.{string_in}
use Rattle.mp_machine.specs.Outcomes.{Done, Fault}
use Rattle.mp_machine.specs.Shown.{IsStuck}
use Rattle.mp_machine.specs.States.{State}
use Rattle.mp_machine.specs.Strings.{before}
use Rattle.mp_machine.specs.ValueRows.{characters_of}

abbrev pub are_bytes : List ℕ → Bool
are_bytes bytes = list_all (λ n. nat_lt n 256) bytes

-- what was read before the characters that are left
abbrev pub after : List ℕ → Option (List ℕ) → Option (List ℕ)
after [] o = o
after (b ∷ bytes) o = before b (after bytes o)

pub after-push : (bytes : List ℕ) (b : ℕ) (o : Option (List ℕ)) → after (bytes ++ b ∷ []) o ≡ after bytes (before b o)
after-push [] b o = refl
after-push (x ∷ bytes) b o = ap (before x) (after-push bytes b o)

pub after-none : (bytes : List ℕ) → after bytes None ≡ None
after-none [] = refl
after-none (x ∷ bytes) = ap (before x) (after-none bytes)

pub after-end : (bytes : List ℕ) → after bytes (Some []) ≡ Some bytes
after-end [] = refl
after-end (x ∷ bytes) = ap (before x) (after-end bytes)

pub bytes-push : (bytes : List ℕ) (b : ℕ) → are_bytes bytes ≡ true → nat_lt b 256 ≡ true → are_bytes (bytes ++ b ∷ []) ≡ true
bytes-push bytes b e f = list_all-append (λ n. nat_lt n 256) bytes (b ∷ []) ∙ rw (e, f) refl

-- ---- a number that is no byte

abbrev IsNoString : Option (List ℕ) → Type 0
IsNoString None = Unit {0}
IsNoString (Some bytes) = are_bytes bytes ≡ false

and_false : (b : Bool) → (b && false) ≡ false
and_false true = refl
and_false false = refl

one_more : (b : ℕ) (o : Option (List ℕ)) → IsNoString o → IsNoString (before b o)
one_more b None h = tt
one_more b (Some more) h = ap (λ c. nat_lt b 256 && c) h ∙ and_false (nat_lt b 256)

first_wrong : (n : ℕ) (o : Option (List ℕ)) → nat_lt n 256 ≡ false → IsNoString (before n o)
first_wrong n None e = tt
first_wrong n (Some more) e = ap (λ c. c && are_bytes more) e

no_string : (bytes : List ℕ) (n : ℕ) (o : Option (List ℕ)) → nat_lt n 256 ≡ false → IsNoString (after bytes (before n o))
no_string [] n o e = first_wrong n o e
no_string (b ∷ bytes) n o e = one_more b (after bytes (before n o)) (no_string bytes n o e)

stuck_by : (xs : List Cell) (s : State) (o : Option (List ℕ)) → characters_of xs ≡ o → is_some o ≡ true → IsNoString o → IsStuck (string_in xs s)
stuck_by xs s None e some h = absurd (let v : ⊥ = cc in v)
stuck_by xs s (Some bytes) e some h = rw (e, h) tt

pub stuck_at : (xs : List Cell) (s : State) (bytes : List ℕ) (n : ℕ) (o : Option (List ℕ)) → is_some (characters_of xs) ≡ true →
    after bytes (before n o) ≡ characters_of xs → nat_lt n 256 ≡ false → IsStuck (string_in xs s)
stuck_at xs s bytes n o some e f = stuck_by xs s (after bytes (before n o)) (sym e) (subst (λ o. is_some o ≡ true) (sym e) some)
    (no_string bytes n o f)

pub undefined_at : (xs : List Cell) (s : State) (bytes : List ℕ) → after bytes None ≡ characters_of xs → string_in xs s ≡ Fault 9 s
undefined_at xs s bytes e = rw (sym e ∙ after-none bytes) refl

pub string_is : (xs : List Cell) (s : State) (bytes : List ℕ) → after bytes (Some []) ≡ characters_of xs → are_bytes bytes ≡ true →
    string_in xs s ≡ Done bytes s
string_is xs s bytes e f = rw (sym e ∙ after-end bytes, f) refl

pub undefined_string : (xs : List Cell) (s : State) → is_some (characters_of xs) ≡ false → string_in xs s ≡ Fault 9 s
undefined_string xs s e = by_option (characters_of xs) refl e
  where
    by_option : (o : Option (List ℕ)) → characters_of xs ≡ o → is_some o ≡ false → string_in xs s ≡ Fault 9 s
    by_option None e h = rw e refl
    by_option (Some bytes) e h = absurd (let v : ⊥ = cc in v)
