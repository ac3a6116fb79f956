-- Where a parser stops, what its rule allows begins with the tokens taken so far: they can be finished. The ending is
-- chosen before what follows it, so that what follows may be finished in the same way.
use Rattle.std.proofs.Common.{◌≡◌, ℕ, ◌+◌, ◌<◌, ◌≤◌, Bool, true, false, not, List, [], ◌∷◌, ◌++◌, length, Ok, Err, refl, sym, ap, ◌∙◌, subst, append_assoc, arith, ◌⊎◌, inl, inr}
use Rattle.std.specs.Prelude.{if◌then◌else◌}
use Rattle.mp_ast.specs.declared.tokens.TokenKind.{TokenKind}
use Rattle.mp_ast.specs.declared.words.WordSymbol.TheVariants as w
use Rattle.mp_ast.specs.Rules.{Input, Rule, gives, token, Many, no_more, one_more, many}
use Rattle.mp_ast.specs.Rules as rule
use Rattle.mp_ast.specs.Rules.{◌>>=◌ as ◌>>=ʳ◌, ◌<$>◌ as ◌<$>ʳ◌, ◌<|>◌ as ◌<|>ʳ◌}
use Rattle.mp_cursor.specs.declared.failure.Failure.{Failure}
use Rattle.mp_cursor.specs.declared.next.Next.TheVariants as next
use Rattle.mp_cursor.specs.Nexts.{next_of, class_of, is, Nexts}
use Rattle.mp_cursor.specs.Parsers.{Outcome, Parser, and_then, ◌>>=◌, pure, branch, next_token}
use Rattle.mp_cursor.proofs.Settled.{Settled, Settles, put, place, stopped}

-- the grammar looks past the tokens of a rule at one place: whether an `else` follows
abbrev pub is_else : List TokenKind → Bool
is_else ks = is (next.Word w.Else) (next_of ks)

abbrev pub Open : List TokenKind → Type 0
Open ks = is_else ks ≡ false

-- may stand in place of what is left
abbrev pub Instead : List TokenKind → List TokenKind → Type 0
Instead t old = is_else t ≡ true → is_else old ≡ true

-- the tokens taken, and that anything may follow them
abbrev pub Taken : {A : Type 0} → Rule A → Input → A → Input → Type 0
Taken r i x j = (c : List TokenKind) × (i.rest ≡ c ++ j.rest) × ((t : List TokenKind) → Instead t j.rest → r (put i (c ++ t)) x (put j t))

abbrev pub Moves : {A : Type 0} → Rule A → Type 0
Moves {A} r = (i : Input) (x : A) (j : Input) → r i x j → Taken r i x j

-- tokens with which the rule ends from a place on, whatever follows
abbrev pub Ending : {A : Type 0} → Rule A → Input → Type 0
Ending {A} r i =
    (more : List TokenKind) × (x : A) × (j : Input) × ((t : List TokenKind) → Open t → Open (more ++ t)) × ((t : List TokenKind) → Open t → r (put i (more ++ t)) x (put j t))

abbrev pub Ends : {A : Type 0} → Rule A → Type 0
Ends r = (i : Input) → Ending r i

-- the tokens before the last n, and an ending
abbrev pub Front : {A : Type 0} → Rule A → Input → ℕ → Type 0
Front {A} r i n =
    (c d more : List TokenKind) × (x : A) × (j : Input) × (i.rest ≡ c ++ d) × (length d ≡ n) × ((t : List TokenKind) → Open t → r (put i (c ++ (more ++ t))) x (put j t))

-- a parser that stops behind its first token
abbrev pub Recovers : {A : Type 0} → Parser A → Rule A → Type 0
Recovers p r = (i : Input) (e : Failure) → p i ≡ stopped e → place e < length i.rest → Front r i (place e)

pub failure_is : {A : Type 0} (f e : Failure) → ◌≡◌ {A = Outcome A} (stopped f) (stopped e) → f ≡ e
failure_is f e h = cc

longer : (c b : List TokenKind) → length b ≤ length (c ++ b)
longer [] b = omega arith
longer (k ∷ c) b = let l = longer c b in omega arith

-- ---- what may follow

pub open_instead : (t old : List TokenKind) → Open t → Instead t old
open_instead t old o h = absurd (let n : ⊥ = cc in n)

pub same_instead : (c d t old : List TokenKind) → old ≡ c ++ d → length d < length old → Instead (c ++ t) old
same_instead [] d t old e l h = let f = ap (λ ks. length ks) e in absurd (let n : ⊥ = omega arith in n)
same_instead (k ∷ c) d t old e l h = ap is_else e ∙ h

instead_behind : (c old t whole : List TokenKind) → whole ≡ c ++ old → Instead t old → Instead (c ++ t) whole
instead_behind [] old t whole e h u = ap is_else e ∙ h u
instead_behind (k ∷ c) old t whole e h u = ap is_else e ∙ u

-- ---- values

pub moves_pure : {A : Type 0} (x : A) → Moves (gives x)
moves_pure x i y j d = ([], ap (λ m. m.rest) d.1, λ t h. (d.0, ap (λ m. put m t) d.1))

pub ends_pure : {A : Type 0} (x : A) → Ends (gives x)
ends_pure x i = ([], x, i, λ t o. o, λ t o. (refl, refl))

pub recovers_pure : {A : Type 0} (x : A) → Recovers (pure x) (gives x)
recovers_pure x i e h l = absurd (let n : ⊥ = cc in n)

-- ---- one after another

module _ {A B : Type 0} (r : Rule A) (s : A → Rule B) where
  pub moves_then : Moves r → ((x : A) → Moves (s x)) → Moves (r >>=ʳ s)
  moves_then a b i y j d =
      let f = a i d.0 d.1 d.2 in
      let g = b d.0 d.1 y j d.3 in (
        f.0 ++ g.0,
        f.1 ∙ ap (λ ks. f.0 ++ ks) g.1 ∙ sym (append_assoc f.0 g.0 j.rest),
        λ t h. (
          d.0,
          put d.1 (g.0 ++ t),
          subst (λ ks. r (put i ks) d.0 (put d.1 (g.0 ++ t))) (sym (append_assoc f.0 g.0 t))
              (f.2 (g.0 ++ t) (instead_behind g.0 j.rest t d.1.rest g.1 h)),
          g.2 t h,
        ),
      )

  pub ends_then : Ends r → ((x : A) → Ends (s x)) → Ends (r >>=ʳ s)
  ends_then a b i =
      let f = a i in
      let g = b f.1 f.2 in (
        f.0 ++ g.0,
        g.1,
        g.2,
        λ t o. subst Open (sym (append_assoc f.0 g.0 t)) (f.3 (g.0 ++ t) (g.3 t o)),
        λ t o. (f.1, put f.2 (g.0 ++ t), subst (λ ks. r (put i ks) f.1 (put f.2 (g.0 ++ t))) (sym (append_assoc f.0 g.0 t)) (f.4 (g.0 ++ t) (g.3 t o)), g.4 t o),
      )

  -- the one stops
  pub front_first : (i : Input) (n : ℕ) → Front r i n → ((x : A) → Ends (s x)) → Front (r >>=ʳ s) i n
  front_first i n f b =
      let g = b f.3 f.4 in (
        f.0,
        f.1,
        f.2 ++ g.0,
        g.1,
        g.2,
        f.5,
        f.6,
        λ t o. (f.3, put f.4 (g.0 ++ t), subst (λ ks. r (put i (f.0 ++ ks)) f.3 (put f.4 (g.0 ++ t))) (sym (append_assoc f.2 g.0 t)) (f.7 (g.0 ++ t) (g.3 t o)), g.4 t o),
      )

  -- the other stops behind its first token
  pub front_second : (i : Input) (x : A) (m : Input) (n : ℕ) → Taken r i x m → Front (s x) m n → n < length m.rest → Front (r >>=ʳ s) i n
  front_second i x m n f g l = (
    f.0 ++ g.0,
    g.1,
    g.2,
    g.3,
    g.4,
    f.1 ∙ ap (λ ks. f.0 ++ ks) g.5 ∙ sym (append_assoc f.0 g.0 g.1),
    g.6,
    λ t o. (
      x,
      put m (g.0 ++ (g.2 ++ t)),
      subst (λ ks. r (put i ks) x (put m (g.0 ++ (g.2 ++ t)))) (sym (append_assoc f.0 g.0 (g.2 ++ t)))
          (f.2 (g.0 ++ (g.2 ++ t)) (same_instead g.0 g.1 (g.2 ++ t) m.rest g.5 (let q = g.6 in omega arith))),
      g.7 t o,
    ),
  )

  -- the other stops at its first token
  pub front_between : (i : Input) (x : A) (m : Input) (n : ℕ) → Taken r i x m → Ending (s x) m → n ≡ length m.rest → Front (r >>=ʳ s) i n
  front_between i x m n f g e = (
    f.0,
    m.rest,
    g.0,
    g.1,
    g.2,
    f.1,
    sym e,
    λ t o. (x, put m (g.0 ++ t), f.2 (g.0 ++ t) (open_instead (g.0 ++ t) m.rest (g.3 t o)), g.4 t o),
  )

-- a failure is no place behind the tokens
inside_by : {A : Type 0} (p : Parser A) (i : Input) (e : Failure) (o : Outcome A) → Settled p i o → o ≡ stopped e → (place e < length i.rest) ⊎ (place e ≡ length i.rest)
inside_by p i e (Ok x) s h = absurd (let n : ⊥ = cc in n)
inside_by {A} p i e (Err f) s h =
    let u = ap place (failure_is {A = A} f e h) in
    let v = ap (λ ks. length ks) s.2 in
    inside_length s.0 s.1 i.rest (place e) s.2 (sym u ∙ s.3)
  where
    inside_length : (c b whole : List TokenKind) (n : ℕ) → whole ≡ c ++ b → n ≡ length b → (n < length whole) ⊎ (n ≡ length whole)
    inside_length [] b whole n e f = inr (f ∙ sym (ap (λ ks. length ks) e))
    inside_length (k ∷ c) b whole n e f = inl (let v = ap (λ ks. length ks) e in let w = longer c b in omega arith)

pub stops_inside : {A : Type 0} (p : Parser A) → Settles p → (i : Input) (e : Failure) → p i ≡ stopped e → (place e < length i.rest) ⊎ (place e ≡ length i.rest)
stops_inside p s i e h = inside_by p i e (p i) (s i) h

module _ {A B : Type 0} (p : Parser A) (q : A → Parser B) (r : Rule A) (s : A → Rule B) (sound : (i : Input) (x : A) (j : Input) → p i ≡ Ok (x, j) →
    r i x j) (moves : Moves r) (recovers : Recovers p r) (settles : (x : A) → Settles (q x)) (ends : (x : A) → Ends (s x)) (goes_on : (x : A) → Recovers (q x) (s x)) where
  second : (i : Input) (x : A) (m : Input) (e : Failure) → p i ≡ Ok (x, m) → q x m ≡ stopped e → (n : ℕ) → n ≡ place e →
      (n < length m.rest) ⊎ (n ≡ length m.rest) → Front (r >>=ʳ s) i n
  second i x m e h g n w (inl l) = front_second r s i x m n (moves i x m (sound i x m h)) (subst (Front (s x) m) (sym w) (goes_on x m e g (subst (λ k. k < length m.rest) w l))) l
  second i x m e h g n w (inr f) = front_between r s i x m n (moves i x m (sound i x m h)) (ends x m) f

  either_stops : (i : Input) (e : Failure) (o : Outcome A) → p i ≡ o → and_then o q ≡ stopped e → place e < length i.rest → Front (r >>=ʳ s) i (place e)
  either_stops i e (Ok y) h g l = second i y.0 y.1 e h g (place e) refl (stops_inside (q y.0) (settles y.0) y.1 e g)
  either_stops i e (Err f) h g l =
      let u : f ≡ e = failure_is f e g in
      front_first r s i (place e) (recovers i e (h ∙ ap stopped u) l) ends

  pub recovers_then : Recovers (p >>= q) (r >>=ʳ s)
  recovers_then i e h l = either_stops i e (p i) refl h l

-- ---- the same rule in other words, and choices

pub moves_or : {A : Type 0} (r s : Rule A) → Moves r → Moves s → Moves (r <|>ʳ s)
moves_or r s a b i x j (inl d) = let f = a i x j d in (f.0, f.1, λ t h. inl (f.2 t h))
moves_or r s a b i x j (inr d) = let f = b i x j d in (f.0, f.1, λ t h. inr (f.2 t h))

pub moves_as : {A : Type 0} (r s : Rule A) → ((i : Input) (x : A) (j : Input) → r i x j → s i x j) → ((i : Input) (x : A) (j : Input) → s i x j → r i x j) → Moves r → Moves s
moves_as r s to back a i x j d = let f = a i x j (back i x j d) in (f.0, f.1, λ t h. to (put i (f.0 ++ t)) x (put j t) (f.2 t h))

pub ends_as : {A : Type 0} (r s : Rule A) → ((i : Input) (x : A) (j : Input) → r i x j → s i x j) → Ends r → Ends s
ends_as r s to a i = let f = a i in (f.0, f.1, f.2, f.3, λ t o. to (put i (f.0 ++ t)) f.1 (put f.2 t) (f.4 t o))

pub recovers_as : {A : Type 0} (p : Parser A) (r s : Rule A) → ((i : Input) (x : A) (j : Input) → r i x j → s i x j) → Recovers p r → Recovers p s
recovers_as p r s to a i e h l = let f = a i e h l in (f.0, f.1, f.2, f.3, f.4, f.5, f.6, λ t o. to (put i (f.0 ++ (f.2 ++ t))) f.3 (put f.4 t) (f.7 t o))

pub ends_left : {A : Type 0} (r s : Rule A) → Ends r → Ends (r <|>ʳ s)
ends_left r s a = ends_as r (r <|>ʳ s) (λ i x j d. inl d) a

pub ends_right : {A : Type 0} (r s : Rule A) → Ends s → Ends (r <|>ʳ s)
ends_right r s a = ends_as s (r <|>ʳ s) (λ i x j d. inr d) a

recovers_by : {A : Type 0} (p q : Parser A) (r s : Rule A) → Recovers p r → Recovers q s → (i : Input) (e : Failure) (b : Bool) →
    (if b then p i else q i) ≡ stopped e → place e < length i.rest → Front (r <|>ʳ s) i (place e)
recovers_by p q r s a c i e true h l = recovers_as p r (r <|>ʳ s) (λ i x j d. inl d) a i e h l
recovers_by p q r s a c i e false h l = recovers_as q s (r <|>ʳ s) (λ i x j d. inr d) c i e h l

pub recovers_branch : {A : Type 0} (test : Nexts) (p q : Parser A) (r s : Rule A) → Recovers p r → Recovers q s → Recovers (branch test p q) (r <|>ʳ s)
recovers_branch test p q r s a c i e h l = recovers_by p q r s a c i e (test (next_token i)) h l

-- ---- tokens

pub moves_token : (k : TokenKind) → Moves (token k)
moves_token k i at j d = (k ∷ [], d.0, λ t h. (refl, d.1, d.2, d.3))

-- a token that is no `else`
abbrev pub no_else : TokenKind → Bool
no_else k = not (is (next.Word w.Else) (class_of k))

open_by : (b : Bool) → not b ≡ true → b ≡ false
open_by true h = absurd (let n : ⊥ = cc in n)
open_by false h = refl

pub ends_token : (k : TokenKind) → no_else k ≡ true → Ends (token k)
ends_token k h i =
    (k ∷ [], i.at, record { at = i.at + 1; declared = i.declared; rest = [] }, λ t o. open_by (is (next.Word w.Else) (class_of k)) h, λ t o. (refl, refl, refl, refl))

pub recovers_first : {A : Type 0} (p : Parser A) (r : Rule A) → ((i : Input) (e : Failure) → p i ≡ stopped e → place e ≡ length i.rest) → Recovers p r
recovers_first p r a i e h l = let f = a i e h in absurd (let n : ⊥ = omega arith in n)

pub moves_here : Moves rule.here
moves_here i at j d = ([], ap (λ m. m.rest) d.1, λ t h. (d.0, ap (λ m. put m t) d.1))

pub ends_here : Ends rule.here
ends_here i = ([], i.at, i, λ t o. o, λ t o. (refl, refl))

-- ---- lists

pub moves_many : {A : Type 0} (r : Rule A) → Moves r → (j : Input) (xs : List A) (i : Input) → Many r j xs i → Taken (many r) i xs j
moves_many r a j _ _ no_more = ([], refl, λ t h. no_more)
moves_many r a j _ _ (one_more x xs i m d ds) =
    let f = a i x m d in
    let g = moves_many r a j xs m ds in (
      f.0 ++ g.0,
      f.1 ∙ ap (λ ks. f.0 ++ ks) g.1 ∙ sym (append_assoc f.0 g.0 j.rest),
      λ t h. one_more x xs (put i ((f.0 ++ g.0) ++ t)) (put m (g.0 ++ t)) (subst (λ ks. r (put i ks) x (put m (g.0 ++ t)))
          (sym (append_assoc f.0 g.0 t)) (f.2 (g.0 ++ t) (instead_behind g.0 j.rest t m.rest g.1 h))) (g.2 t h),
    )

pub ends_many : {A : Type 0} (r : Rule A) → Ends (many r)
ends_many r i = ([], [], i, λ t o. o, λ t o. no_more)

-- what stops, and where it does
abbrev pub Stops : {A : Type 0} → Parser A → Rule A → Type 0
Stops p r = (i : Input) (e : Failure) → p i ≡ stopped e → ((place e < length i.rest) × Front r i (place e)) ⊎ (place e ≡ length i.rest)

stops_by : {A : Type 0} (r : Rule A) (i : Input) (n : ℕ) → (n < length i.rest) ⊎ (n ≡ length i.rest) → (n < length i.rest → Front r i n) →
    ((n < length i.rest) × Front r i n) ⊎ (n ≡ length i.rest)
stops_by r i n (inl l) f = inl (l, f l)
stops_by r i n (inr e) f = inr e

pub stops_where : {A : Type 0} (p : Parser A) (r : Rule A) → Settles p → Recovers p r → Stops p r
stops_where p r s a i e h = stops_by r i (place e) (stops_inside p s i e h) (a i e h)

pub front_as : {A : Type 0} (r s : Rule A) (i : Input) (n : ℕ) → ((i : Input) (x : A) (j : Input) → r i x j → s i x j) → Front r i n → Front s i n
front_as r s i n to f = (f.0, f.1, f.2, f.3, f.4, f.5, f.6, λ t o. to (put i (f.0 ++ (f.2 ++ t))) f.3 (put f.4 t) (f.7 t o))
