-- Strings, compared character by character.
use Rattle.std.proofs.Common.{◌≡◌, ℕ, ◌+◌, ◌-◌, ◌<◌, ◌≤◌, Bool, true, false, ◌&&◌, ◌||◌, List, [], ◌∷◌, Option, Some, None}
use Rattle.std.proofs.Common.{length, drop, get_or, pos, negsuc}
use Rattle.std.proofs.Common.{refl, sym, ap, ◌∙◌, ◌⊎◌, inl, inr, arith}
use Rattle.std.specs.Prelude.{bytes_eq, is_some, nat_eq, nat_lt}
use Rattle.std.proofs.lemmas.List.{drop_all, drop_more, length-drop}
use Rattle.std.proofs.lemmas.Bool.Decides.{nat_tests}
use Rattle.std.proofs.lemmas.Bool.{eq-eqb, ne_eqb, le-ltb}
use Rattle.mp_code.specs.declared.instructions.Relation.{Relation}
use Rattle.mp_memory.specs.declared.cells.Cell.{Cell}
use Rattle.mp_memory.specs.declared.cells.Cell.TheVariants as cell
use Rattle.mp_machine.specs.Numbers.{comes_before}
use Rattle.mp_machine.specs.ValueRows.{characters_of, cons_character, holds, string_relation}
use Rattle.mp_machine.specs.Strings.{before, character_of}

cons_is : (b : ℕ) (c : Option (List ℕ)) → cons_character (cell.Int (pos b)) c ≡ before b c
cons_is b None = refl
cons_is b (Some more) = refl

with_character : (x : Cell) (c : Option (List ℕ)) (b : ℕ) → character_of x ≡ Some b → cons_character x c ≡ before b c
with_character (cell.Int (pos n)) c b e = let same : n ≡ b = cc in cons_is n c ∙ ap (λ k. before k c) same
with_character (cell.Int (negsuc n)) c b e = absurd (let v : ⊥ = cc in v)
with_character cell.Undef c b e = absurd (let v : ⊥ = cc in v)
with_character (cell.Members set) c b e = absurd (let v : ⊥ = cc in v)
with_character (cell.Ptr k) c b e = absurd (let v : ⊥ = cc in v)
with_character (cell.Code k a) c b e = absurd (let v : ⊥ = cc in v)
with_character (cell.Ref r o) c b e = absurd (let v : ⊥ = cc in v)
with_character (cell.FileNo k) c b e = absurd (let v : ⊥ = cc in v)

without_character : (x : Cell) (c : Option (List ℕ)) → character_of x ≡ None → cons_character x c ≡ None
without_character (cell.Int (pos n)) c e = absurd (let v : ⊥ = cc in v)
without_character (cell.Int (negsuc n)) c e = refl
without_character cell.Undef c e = refl
without_character (cell.Members set) c e = refl
without_character (cell.Ptr k) c e = refl
without_character (cell.Code k a) c e = refl
without_character (cell.Ref r o) c e = refl
without_character (cell.FileNo k) c e = refl

here : (xs : List Cell) (i : ℕ) (x : Cell) → i < length xs → x ≡ get_or xs i x → characters_of (drop i xs) ≡ cons_character x
    (characters_of (drop (i + 1) xs))
here xs i x inside is = ap characters_of (drop_more xs i x inside ∙ ap (λ y. y ∷ drop (i + 1) xs) (sym is))

pub character_here : (xs : List Cell) (i : ℕ) (x : Cell) (b : ℕ) → i < length xs → x ≡ get_or xs i x → character_of x ≡ Some b →
    characters_of (drop i xs) ≡ before b (characters_of (drop (i + 1) xs))
character_here xs i x b inside is e = here xs i x inside is ∙ with_character x (characters_of (drop (i + 1) xs)) b e

pub none_here : (xs : List Cell) (i : ℕ) (x : Cell) → i < length xs → x ≡ get_or xs i x → character_of x ≡ None →
    characters_of (drop i xs) ≡ None
none_here xs i x inside is e = here xs i x inside is ∙ without_character x (characters_of (drop (i + 1) xs)) e

some_before : (b : ℕ) (c : Option (List ℕ)) → is_some (before b c) ≡ is_some c
some_before b None = refl
some_before b (Some more) = refl

pub some_next : (xs : List Cell) (i : ℕ) (x : Cell) (b : ℕ) → i < length xs → x ≡ get_or xs i x → character_of x ≡ Some b →
    is_some (characters_of (drop i xs)) ≡ is_some (characters_of (drop (i + 1) xs))
some_next xs i x b inside is e = ap is_some (character_here xs i x b inside is e) ∙
    some_before b (characters_of (drop (i + 1) xs))

or_false : (b : Bool) → (b || false) ≡ b
or_false true = refl
or_false false = refl

pub differ : (r : Relation) (m n : ℕ) (c d : Option (List ℕ)) → (m ≡ n → ⊥) → is_some (before m c) ≡ true →
    is_some (before n d) ≡ true →
    string_relation r (before m c) (before n d) ≡ Some (holds r (nat_lt m n) false)
differ r m n None d other e f = absurd (let v : ⊥ = cc in v)
differ r m n (Some ms) None other e f = absurd (let v : ⊥ = cc in v)
differ r m n (Some ms) (Some ns) other e f =
    ap (λ b. Some (holds r (nat_lt m n || (b && comes_before ms ns)) (b && bytes_eq ms ns))) (ne_eqb m n other)
    ∙ ap (λ b. Some (holds r b false)) (or_false (nat_lt m n))

pub agree : (r : Relation) (m n : ℕ) (c d : Option (List ℕ)) → m ≡ n →
    string_relation r (before m c) (before n d) ≡ string_relation r c d
agree r m n None d same = refl
agree r m n (Some ms) None same = refl
agree r m n (Some ms) (Some ns) same =
    ap (λ b. Some (holds r (nat_lt m n || (b && comes_before ms ns)) (b && bytes_eq ms ns))) (eq-eqb m n same)
    ∙ ap (λ b. Some (holds r (b || comes_before ms ns) (bytes_eq ms ns))) (le-ltb m n (omega (arith, same)))

-- at the end of one of them

record NotEmpty (c : Option (List ℕ)) : Type 0 where
  pub first : ℕ
  pub more : List ℕ
  pub is : c ≡ Some (first ∷ more)

not_empty : (xs : List Cell) → 0 < length xs → is_some (characters_of xs) ≡ true → NotEmpty (characters_of xs)
not_empty [] l e = absurd (omega (arith, l))
not_empty (x ∷ xs) l e = by_character x (character_of x) refl (characters_of xs) e
  where
    by_character : (x : Cell) (o : Option ℕ) → character_of x ≡ o → (c : Option (List ℕ)) →
        is_some (cons_character x c) ≡ true → NotEmpty (cons_character x c)
    by_character x None f c e = absurd (let g = without_character x c f in let v : ⊥ = cc in v)
    by_character x (Some b) f None e = absurd (let g = with_character x None b f in let v : ⊥ = cc in v)
    by_character x (Some b) f (Some more) e = record { first = b; more = more; is = with_character x (Some more) b f }

pub at_end : (r : Relation) (xs ys : List Cell) → is_some (characters_of xs) ≡ true → is_some (characters_of ys) ≡ true →
    (xs ≡ []) ⊎ (ys ≡ []) →
    string_relation r (characters_of xs) (characters_of ys) ≡ Some (holds r false (nat_eq (length xs) (length ys)))
at_end r [] [] e f o = refl
at_end r [] (y ∷ ys) e f o =
    let n : NotEmpty (characters_of (y ∷ ys)) = not_empty (y ∷ ys) (omega arith) f in
    ap (string_relation r (Some [])) n.is ∙
    ap (λ b. Some (holds r false b)) (sym (ne_eqb 0 (length (y ∷ ys)) (λ e. let v : ⊥ = omega (arith, e) in v)))
at_end r (x ∷ xs) [] e f o =
    let n : NotEmpty (characters_of (x ∷ xs)) = not_empty (x ∷ xs) (omega arith) e in
    ap (λ c. string_relation r c (Some [])) n.is ∙
    ap (λ b. Some (holds r false b)) (sym (ne_eqb (length (x ∷ xs)) 0 (λ e. let v : ⊥ = omega (arith, e) in v)))
at_end r (x ∷ xs) (y ∷ ys) e f o = absurd (elim o [ inl a ↦ (let v : ⊥ = cc in v) | inr b ↦ (let v : ⊥ = cc in v) ])

same_lengths : (a b c d i : ℕ) → a ≡ c - i → b ≡ d - i → i ≤ c → i ≤ d → nat_eq a b ≡ nat_eq c d
same_lengths a b c d i e f p q = grind (arith, nat_tests, e, f, p, q)

pub ends : (r : Relation) (xs ys : List Cell) (i : ℕ) → is_some (characters_of (drop i xs)) ≡ true →
    is_some (characters_of (drop i ys)) ≡ true →
    i ≤ length xs → i ≤ length ys → (length xs ≤ i) ⊎ (length ys ≤ i) →
    string_relation r (characters_of (drop i xs)) (characters_of (drop i ys)) ≡ Some
    (holds r false (nat_eq (length xs) (length ys)))
ends r xs ys i e f p q o =
    at_end r (drop i xs) (drop i ys) e f (elim o [ inl a ↦ inl (drop_all i xs a) | inr b ↦ inr (drop_all i ys b) ])
    ∙ ap (λ b. Some (holds r false b)) (same_lengths (length (drop i xs)) (length (drop i ys)) (length xs) (length ys) i
    (length-drop i xs) (length-drop i ys) p q)
