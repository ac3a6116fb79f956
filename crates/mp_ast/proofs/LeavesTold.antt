-- Tokens as a tree tells of them, and one lemma for each way in which rules are put together: what a rule reads is told
-- by the leaves of the tree that it makes. Productions follow in the files of their chapters.
use Rattle.std.proofs.Common.{◌≡◌, ℕ, zero, suc, ◌+◌, ◌⊎◌, inl, inr, Bool, true, false, List, [], ◌∷◌, ◌++◌, length, Option, Some, None, refl, sym, ap, ◌∙◌}
use Rattle.std.proofs.Common.{subst, append_assoc, arith}
use Rattle.std.specs.Prelude.{codes}
use Rattle.std.proofs.lemmas.List.{length-append, append-nil}
use Rattle.mp_ast.specs.declared.tokens.TokenKind.{TokenKind}
use Rattle.mp_ast.specs.declared.tokens.TokenKind.TheVariants as kind
use Rattle.mp_ast.specs.declared.symbols.Symbol.TheVariants as s
use Rattle.mp_ast.specs.Rules.{Input, Rule, ◌>>=◌, ◌<$>◌, ◌<|>◌, gives, none, optional, Many, no_more, one_more, many, many_lists, joined, separated, token}
use Rattle.mp_ast.specs.Rules.{here, not_before, opener}
use Rattle.mp_ast.specs.LeafGrammar.{identifier, number, character_string, sign, constant}
use Rattle.mp_ast.specs.Leaves.{Leaf, Name, Forward, Mark, Bracket, Before, ordinal_of, has_token, is_identifier_token, Fits, number_leaf, string_leaf}
use Rattle.mp_ast.specs.Leaves.{leaves_of_sign, leaves_of_constant, leaves_of_constants, leaves_of_names}

abbrev pub is_name : TokenKind → Bool
is_name (kind.Id name) = true
is_name (kind.Number value) = false
is_name (kind.Text characters) = false
is_name (kind.Word word) = false
is_name (kind.Symbol symbol) = false

-- The tokens from an ordinal on, and the leaves that tell of them, in order. What no leaf tells of is no identifier.
pub data Told : ℕ → List TokenKind → List Leaf → Type 0 where
  finished : {at : ℕ} → Told at [] []
  told :
      {at : ℕ} (k : TokenKind) (ks : List TokenKind) (leaf : Leaf) (leaves : List Leaf) →
      has_token leaf ≡ true → ordinal_of leaf ≡ at → is_name k ≡ is_identifier_token leaf → Fits leaf k →
      Told (at + 1) ks leaves → Told at (k ∷ ks) (leaf ∷ leaves)
  placed :
      {at : ℕ} (ks : List TokenKind) (leaf : Leaf) (leaves : List Leaf) →
      has_token leaf ≡ false → ordinal_of leaf ≡ at → Told at ks leaves → Told at ks (leaf ∷ leaves)
  untold : {at : ℕ} (k : TokenKind) (ks : List TokenKind) (leaves : List Leaf) → is_name k ≡ false → Told (at + 1) ks leaves → Told at (k ∷ ks) leaves

pub told-append :
    (ls : List TokenKind) (ys : List Leaf) (at : ℕ) (ks : List TokenKind) (xs : List Leaf) →
    Told at ks xs → Told (at + length ks) ls ys → Told at (ks ++ ls) (xs ++ ys)
told-append ls ys at [] [] finished t = let e : at + 0 ≡ at = omega arith in subst (λ n. Told n ls ys) e t
told-append ls ys at (k ∷ ks) (x ∷ xs) (told l ms leaf leaves own here named fits more) t =
    let e : at + suc (length ks) ≡ at + 1 + length ks = omega arith in
    told k (ks ++ ls) x (xs ++ ys) own here named fits (told-append ls ys (at + 1) ks xs more (subst (λ n. Told n ls ys) e t))
told-append ls ys at ks (x ∷ xs) (placed ms leaf leaves own here more) t = placed (ks ++ ls) x (xs ++ ys) own here (told-append ls ys at ks xs more t)
told-append ls ys at (k ∷ ks) xs (untold l ms leaves plain more) t =
    let e : at + suc (length ks) ≡ at + 1 + length ks = omega arith in
    untold k (ks ++ ls) (xs ++ ys) plain (told-append ls ys (at + 1) ks xs more (subst (λ n. Told n ls ys) e t))

-- ---- places

-- what is read from one place to another, and the leaves that tell of it
pub record ToldBetween (i : Input) (leaves : List Leaf) (j : Input) : Type 0 where
  pub read : List TokenKind
  pub rest : i.rest ≡ read ++ j.rest
  pub at : j.at ≡ i.at + length read
  pub told : Told i.at read leaves

pub still : (i : Input) → ToldBetween i [] i
still i = record { read = []; rest = refl; at = omega arith; told = finished }

pub onward : (i m j : Input) (xs ys : List Leaf) → ToldBetween i xs m → ToldBetween m ys j → ToldBetween i (xs ++ ys) j
onward i m j xs ys a b =
    let both = length-append a.read b.read in
    record {
      read = a.read ++ b.read;
      rest = a.rest ∙ ap (λ l. a.read ++ l) b.rest ∙ sym (append_assoc a.read b.read j.rest);
      at = omega (arith, a.at, b.at, both);
      told = told-append b.read ys i.at a.read xs a.told (subst (λ n. Told n b.read ys) a.at b.told);
    }

-- ---- rules

-- With these leaves before, what a rule reads is told by these leaves of what it makes.
pub record TellsFrom {A : Type 0} (before : List Leaf → List Leaf) (r : Rule A) (f : A → List Leaf) : Type 0 where
  pub tells :
      (i m : Input) (x : A) (j : Input) → ((leaves : List Leaf) (k : Input) → ToldBetween m leaves k → ToldBetween i (before leaves) k) → r m x j → ToldBetween i (f x) j

abbrev pub Tells : {A : Type 0} → Rule A → (A → List Leaf) → Type 0
Tells r f = TellsFrom (λ leaves. leaves) r f

pub told_between : {A : Type 0} {r : Rule A} {f : A → List Leaf} → Tells r f → (i : Input) (x : A) (j : Input) → r i x j → ToldBetween i (f x) j
told_between c i x j h = c.tells i i x j (λ leaves k d. d) h

pub plainly : {A : Type 0} {r : Rule A} {f : A → List Leaf} → ((i : Input) (x : A) (j : Input) → r i x j → ToldBetween i (f x) j) → Tells r f
plainly c = record { tells = λ i m x j reach h. reach _ j (c m x j h) }

pub done : {A : Type 0} {before : List Leaf → List Leaf} {f : A → List Leaf} {x : A} → before [] ≡ f x → TellsFrom before (gives x) f
done {before = before} {f} {x} e = record {
  tells = λ i m y j reach h.
      subst (λ k. ToldBetween i (f y) k) h.1 (subst (λ leaves. ToldBetween i leaves m) (e ∙ ap f h.0) (reach [] m (still m)));
}

pub never : {A : Type 0} {before : List Leaf → List Leaf} {f : A → List Leaf} → TellsFrom before (none {A = A}) f
never = record { tells = λ i m y j reach h. elim h [ ] }

pub next :
    {A B : Type 0} {before : List Leaf → List Leaf} {r : Rule A} {s : A → Rule B} {g : A → List Leaf} {f : B → List Leaf} →
    Tells r g → ((x : A) → TellsFrom (λ leaves. before (g x ++ leaves)) (s x) f) → TellsFrom before (r >>= s) f
next {g = g} c d = record {
  tells = λ i m y j reach h.
      (d h.0).tells i h.1 y j (λ leaves k q. reach (g h.0 ++ leaves) k (onward m h.1 k (g h.0) leaves (told_between c m h.0 h.1 h.2) q)) h.3;
}

pub last :
    {A : Type 0} {before : List Leaf → List Leaf} {r : Rule A} {g f : A → List Leaf} →
    Tells r g → ((x : A) → before (g x) ≡ f x) → TellsFrom before r f
last {g = g} c e = record {
  tells = λ i m y j reach h. subst (λ leaves. ToldBetween i leaves j) (e y) (reach (g y) j (told_between c m y j h));
}

pub ends :
    {A B : Type 0} {before : List Leaf → List Leaf} {r : Rule A} {g : A → List Leaf} {make : A → B} {f : B → List Leaf} →
    Tells r g → ((x : A) → before (g x) ≡ f (make x)) → TellsFrom before (make <$> r) f
ends {before = before} {g = g} c e = next c (λ x. done (ap before (append-nil (g x)) ∙ e x))

-- the last part of a construct, and a token behind it that is not told of
pub closed :
    {A B : Type 0} {before : List Leaf → List Leaf} {r : Rule A} {s : Rule ℕ} {g : A → List Leaf} {make : A → B} {f : B → List Leaf} →
    Tells r g → Tells s (λ at. []) → ((x : A) → before (g x) ≡ f (make x)) → TellsFrom before (r >>= (λ x. s >>= (λ at. gives (make x)))) f
closed {before = before} {g = g} c d e = next c (λ x. next d (λ at. done (ap before (append-nil (g x)) ∙ e x)))

pub either :
    {A : Type 0} {before : List Leaf → List Leaf} {r s : Rule A} {f : A → List Leaf} →
    TellsFrom before r f → TellsFrom before s f → TellsFrom before (r <|> s) f
either {before = before} {r} {s} {f} a b = record { tells = go }
  where
    go :
        (i m : Input) (x : _) (j : Input) → ((leaves : List Leaf) (k : Input) → ToldBetween m leaves k → ToldBetween i (before leaves) k) →
        r m x j ⊎ s m x j → ToldBetween i (f x) j
    go i m x j reach (inl h) = a.tells i m x j reach h
    go i m x j reach (inr h) = b.tells i m x j reach h

abbrev pub maybe_leaves : {A : Type 0} → (A → List Leaf) → Option A → List Leaf
maybe_leaves g None = []
maybe_leaves g (Some x) = g x

pub maybe : {A : Type 0} {r : Rule A} {g : A → List Leaf} → Tells r g → Tells (optional r) (maybe_leaves g)
maybe c = either (ends c (λ x. refl)) (done refl)

many_told :
    {A : Type 0} {r : Rule A} {g : A → List Leaf} (h : List A → List Leaf) → h [] ≡ [] → ((x : A) (xs : List A) → g x ++ h xs ≡ h (x ∷ xs)) →
    Tells r g → (i j : Input) (xs : List A) → Many r j xs i → ToldBetween i (h xs) j
many_told h start more c i j [] no_more = subst (λ leaves. ToldBetween j leaves j) (sym start) (still j)
many_told {g = g} h start more c i j (x ∷ xs) (one_more y ys k m one t) =
    subst (λ leaves. ToldBetween i leaves j) (more x xs)
    (onward i m j (g x) (h xs) (told_between c i x m one) (many_told h start more c m j xs t))

pub repeated :
    {A : Type 0} {r : Rule A} {g : A → List Leaf} (h : List A → List Leaf) → h [] ≡ [] → ((x : A) (xs : List A) → g x ++ h xs ≡ h (x ∷ xs)) →
    Tells r g → Tells (many r) h
repeated h start more c = plainly (λ i xs j t. many_told h start more c i j xs t)

pub repeated_lists :
    {A : Type 0} {r : Rule (List A)} (h : List A → List Leaf) → h [] ≡ [] → ((xs ys : List A) → h xs ++ h ys ≡ h (xs ++ ys)) →
    Tells r h → Tells (many_lists r) h
repeated_lists h start more c =
    ends (repeated (λ lists. h (joined lists)) start (λ xs lists. more xs (joined lists)) c) (λ lists. refl)

pub row :
    {A : Type 0} {separator : Rule ℕ} {r : Rule A} {g : A → List Leaf} (h : List A → List Leaf) → h [] ≡ [] →
    ((x : A) (xs : List A) → g x ++ h xs ≡ h (x ∷ xs)) →
    Tells separator (λ at. []) → Tells r g → Tells (separated separator r) h
row h start more s c =
    next c (λ x. ends (repeated h start more (next s (λ at. last c (λ y. refl)))) (λ xs. more x xs))

-- ---- tokens

one_told : {k : TokenKind} (i : Input) (at : ℕ) (j : Input) (leaves : List Leaf) → Told i.at (k ∷ []) leaves → token k i at j → ToldBetween i leaves j
one_told {k} i at j leaves t h = record { read = k ∷ []; rest = h.0; at = omega (arith, h.2); told = t }

pub silent : {k : TokenKind} → is_name k ≡ false → Tells (token k) (λ at. [])
silent {k} e = plainly (λ i at j h. one_told i at j [] (untold k [] [] e finished) h)

pub leaf_told :
    {k : TokenKind} (leaf : ℕ → Leaf) → ((at : ℕ) → has_token (leaf at) ≡ true) → ((at : ℕ) → ordinal_of (leaf at) ≡ at) →
    ((at : ℕ) → is_name k ≡ is_identifier_token (leaf at)) → ((at : ℕ) → Fits (leaf at) k) → Tells (token k) (λ at. leaf at ∷ [])
leaf_told {k} leaf own here named fits =
    plainly (λ i at j h. one_told i at j (leaf at ∷ []) (told k [] (leaf at) [] (own at) (here at ∙ sym h.1) (named at) (fits at) finished) h)

pub mark : {k : TokenKind} → is_name k ≡ false → Tells (token k) (λ at. Mark at k ∷ [])
mark {k} e = leaf_told (λ at. Mark at k) (λ at. refl) (λ at. refl) (λ at. e) (λ at. refl)

-- `forward`, or a bracket of an index
pub forward_tells : Tells (token (kind.Id (codes "forward"))) (λ at. Forward at ∷ [])
forward_tells = leaf_told (λ at. Forward at) (λ at. refl) (λ at. refl) (λ at. refl) (λ at. refl)

pub left_bracket_tells : Tells (token (kind.Symbol s.LeftBracket)) (λ at. Bracket at ∷ [])
left_bracket_tells = leaf_told (λ at. Bracket at) (λ at. refl) (λ at. refl) (λ at. refl) (λ at. inl refl)

pub comma_tells : Tells (token (kind.Symbol s.Comma)) (λ at. Bracket at ∷ [])
comma_tells = leaf_told (λ at. Bracket at) (λ at. refl) (λ at. refl) (λ at. refl) (λ at. inr refl)

pub opens : {before : List Leaf → List Leaf} (room : ℕ) {k : TokenKind} {f : ℕ → List Leaf} → TellsFrom before (token k) f → TellsFrom before (opener room k) f
opens zero c = never
opens (suc room) c = c

pub opens_next :
    {B : Type 0} {before : List Leaf → List Leaf} (room : ℕ) {k : TokenKind} {s : ℕ → Rule B} {f : B → List Leaf} →
    TellsFrom before (token k >>= s) f → TellsFrom before (opener room k >>= s) f
opens_next zero c = record { tells = λ i m x j reach h. elim h.2 [ ] }
opens_next (suc room) c = c

pub maybe_silent : {k : TokenKind} → is_name k ≡ false → Tells (optional (token k)) (λ at. [])
maybe_silent e = either (ends (silent e) (λ at. refl)) (done refl)

-- an empty statement stands at the token that follows
pub here_tells : Tells here (λ at. Before at ∷ [])
here_tells =
    plainly (λ i at j h.
    subst (λ k. ToldBetween i (Before at ∷ []) k) h.1
    (record { read = []; rest = refl; at = omega arith; told = placed [] (Before at) [] refl (sym h.0) finished }))

pub unless_tells : {k : TokenKind} → Tells (not_before k) (λ x. [])
unless_tells = plainly (λ i x j h. subst (λ k. ToldBetween i [] k) h.1 (still i))

-- ---- where it matters which ordinal comes next

-- the same from a place with the ordinal `n`
pub record TellsAt {A : Type 0} (n : ℕ) (before : List Leaf → List Leaf) (r : Rule A) (f : A → List Leaf) : Type 0 where
  pub tells :
      (i m : Input) (x : A) (j : Input) → m.at ≡ n → ((leaves : List Leaf) (k : Input) → ToldBetween m leaves k → ToldBetween i (before leaves) k) →
      r m x j → ToldBetween i (f x) j

pub anywhere : {A : Type 0} {n : ℕ} {before : List Leaf → List Leaf} {r : Rule A} {f : A → List Leaf} → TellsFrom before r f → TellsAt n before r f
anywhere c = record { tells = λ i m x j e reach h. c.tells i m x j reach h }

pub either_at :
    {A : Type 0} {n : ℕ} {before : List Leaf → List Leaf} {r s : Rule A} {f : A → List Leaf} →
    TellsAt n before r f → TellsAt n before s f → TellsAt n before (r <|> s) f
either_at {n = n} {before} {r} {s} {f} a b = record { tells = go }
  where
    go :
        (i m : Input) (x : _) (j : Input) → m.at ≡ n → ((leaves : List Leaf) (k : Input) → ToldBetween m leaves k → ToldBetween i (before leaves) k) →
        r m x j ⊎ s m x j → ToldBetween i (f x) j
    go i m x j e reach (inl h) = a.tells i m x j e reach h
    go i m x j e reach (inr h) = b.tells i m x j e reach h

-- a token that is told of, with what follows at the next ordinal
pub marked_next :
    {B : Type 0} {before : List Leaf → List Leaf} {k : TokenKind} {s : ℕ → Rule B} {f : B → List Leaf} → is_name k ≡ false →
    ((at : ℕ) → TellsAt (at + 1) (λ leaves. before (Mark at k ∷ leaves)) (s at) f) → TellsFrom before (token k >>= s) f
marked_next {k = k} plain d = record {
  tells = λ i m y j reach h.
      let e : h.1.at ≡ h.0 + 1 = omega (arith, h.2.1, h.2.2) in
      (d h.0).tells i h.1 y j e
      (λ leaves n q. reach (Mark h.0 k ∷ leaves) n (onward m h.1 n (Mark h.0 k ∷ []) leaves (told_between (mark plain) m h.0 h.1 h.2) q)) h.3;
}

pub marked_at :
    {B : Type 0} {n : ℕ} {before : List Leaf → List Leaf} {k : TokenKind} {s : ℕ → Rule B} {f : B → List Leaf} → is_name k ≡ false →
    ((at : ℕ) → at ≡ n → TellsFrom (λ leaves. before (Mark at k ∷ leaves)) (s at) f) → TellsAt n before (token k >>= s) f
marked_at {k = k} plain d = record {
  tells = λ i m y j e reach h.
      (d h.0 (sym h.2.1 ∙ e)).tells i h.1 y j
      (λ leaves n q. reach (Mark h.0 k ∷ leaves) n (onward m h.1 n (Mark h.0 k ∷ []) leaves (told_between (mark plain) m h.0 h.1 h.2) q)) h.3;
}

-- ---- leaves

pub identifier_tells : Tells identifier (λ x. Name x ∷ [])
identifier_tells = plainly (λ i x j h. one_told i x.at j (Name x ∷ []) (told (kind.Id x.name) [] (Name x) [] refl (sym h.1) refl refl finished) h)

pub number_tells : Tells number (λ x. number_leaf x ∷ [])
number_tells = plainly (λ i x j h. one_told i x.at j (number_leaf x ∷ []) (told (kind.Number x.value) [] (number_leaf x) [] refl (sym h.1) refl refl finished) h)

pub string_tells : Tells character_string (λ x. string_leaf x ∷ [])
string_tells = plainly (λ i x j h. one_told i x.at j (string_leaf x ∷ []) (told (kind.Text x.characters) [] (string_leaf x) [] refl (sym h.1) refl refl finished) h)

pub sign_tells : Tells (optional sign) leaves_of_sign
sign_tells =
    either (ends (either (next (mark refl) (λ at. done refl)) (next (mark refl) (λ at. done refl))) (λ x. refl)) (done refl)

pub constant_tells : Tells constant leaves_of_constant
constant_tells =
    either
    (next sign_tells (λ x. either (ends number_tells (λ n. refl)) (ends identifier_tells (λ name. refl))))
    (ends string_tells (λ x. refl))

-- ---- lists of leaves

pub constants_tell : {separator : Rule ℕ} → Tells separator (λ at. []) → Tells (separated separator constant) leaves_of_constants
constants_tell s = row leaves_of_constants refl (λ x xs. refl) s constant_tells

pub names_tell : {separator : Rule ℕ} → Tells separator (λ at. []) → Tells (separated separator identifier) leaves_of_names
names_tell s = row leaves_of_names refl (λ x xs. refl) s identifier_tells
