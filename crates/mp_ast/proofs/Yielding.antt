-- What each tree has that a rule gives. One lemma for each way in which rules are put together; the productions follow.
use Rattle.std.proofs.Common.{ℕ, zero, suc, ◌⊎◌, inl, inr, List, [], ◌∷◌, ◌++◌, Option, Some, None, subst}
use Rattle.std.specs.List.{AllByRecursion}
use Rattle.mp_ast.specs.Rules.{Input, Rule, ◌>>=◌, ◌<$>◌, ◌<|>◌, gives, none, optional, Many, no_more, one_more, many, many_lists, joined, separated, deeper, with_own_ordinals}
use Rattle.mp_ast.specs.WellFormed.{IsSome}

pub record Yields {A : Type 0} (P : A → Type 0) (r : Rule A) : Type 0 where
  pub yields : (i : Input) (x : A) (j : Input) → r i x j → P x

-- ---- facts of what a rule gives

abbrev pub Any : {A : Type 0} → A → Type 0
Any x = Unit {0}

abbrev pub Optional : {A : Type 0} → (A → Type 0) → Option A → Type 0
Optional P None = Unit {0}
Optional P (Some x) = P x

abbrev pub Row : {A : Type 0} → (A → Type 0) → List A → Type 0
Row P l = IsSome l × AllByRecursion P l

pub all-append : {A : Type 0} (P : A → Type 0) (l more : List A) → AllByRecursion P l → AllByRecursion P more → AllByRecursion P (l ++ more)
all-append P [] more v w = w
all-append P (x ∷ l) more v w = (v.0, all-append P l more v.1 w)

pub all-joined : {A : Type 0} (P : A → Type 0) (lists : List (List A)) → AllByRecursion (AllByRecursion P) lists → AllByRecursion P (joined lists)
all-joined P [] v = tt
all-joined P (l ∷ lists) v = all-append P l (joined lists) v.0 (all-joined P lists v.1)

-- ---- ways to put rules together

pub any : {A : Type 0} {r : Rule A} → Yields Any r
any = record { yields = λ i x j h. tt }

pub nothing : {A : Type 0} {P : A → Type 0} {x : A} → P x → Yields P (gives x)
nothing {P = P} p = record { yields = λ i y j h. subst P h.0 p }

pub never : {A : Type 0} {P : A → Type 0} → Yields P (none {A = A})
never = record { yields = λ i y j h. elim h [ ] }

pub next : {A B : Type 0} {P : A → Type 0} {Q : B → Type 0} {r : Rule A} {s : A → Rule B} → Yields P r → ((x : A) → P x → Yields Q (s x)) → Yields Q (r >>= s)
next a b = record { yields = λ i y j h. (b h.0 (a.yields i h.0 h.1 h.2)).yields h.1 y j h.3 }

-- past what tells nothing
pub past : {A B : Type 0} {Q : B → Type 0} {r : Rule A} {s : A → Rule B} → ((x : A) → Yields Q (s x)) → Yields Q (r >>= s)
past b = record { yields = λ i y j h. (b h.0).yields h.1 y j h.3 }

pub made : {A B : Type 0} {P : A → Type 0} {Q : B → Type 0} {f : A → B} {r : Rule A} → Yields P r → ((x : A) → P x → Q (f x)) → Yields Q (f <$> r)
made a b = next a (λ x p. nothing (b x p))

either_yields : {A : Type 0} {P : A → Type 0} {r s : Rule A} → Yields P r → Yields P s → (i : Input) (x : A) (j : Input) → r i x j ⊎ s i x j → P x
either_yields a b i x j (inl h) = a.yields i x j h
either_yields a b i x j (inr h) = b.yields i x j h

pub either : {A : Type 0} {P : A → Type 0} {r s : Rule A} → Yields P r → Yields P s → Yields P (r <|> s)
either a b = record { yields = either_yields a b }

pub maybe : {A : Type 0} {P : A → Type 0} {r : Rule A} → Yields P r → Yields (Optional P) (optional r)
maybe a = either (made a (λ x p. p)) (nothing tt)

many_yields : {A : Type 0} {P : A → Type 0} {r : Rule A} → Yields P r → (i j : Input) (xs : List A) → Many r j xs i → AllByRecursion P xs
many_yields a i j [] no_more = tt
many_yields a i j (x ∷ xs) (one_more y ys k m h t) = (a.yields i x m h, many_yields a m j xs t)

pub repeated : {A : Type 0} {P : A → Type 0} {r : Rule A} → Yields P r → Yields (AllByRecursion P) (many r)
repeated a = record { yields = λ i xs j h. many_yields a i j xs h }

pub repeated_lists : {A : Type 0} {P : A → Type 0} {r : Rule (List A)} → Yields (AllByRecursion P) r → Yields (AllByRecursion P) (many_lists r)
repeated_lists {P = P} a = made (repeated a) (λ lists v. all-joined P lists v)

pub row : {A : Type 0} {P : A → Type 0} {separator : Rule ℕ} {r : Rule A} → Yields P r → Yields (Row P) (separated separator r)
row a = next a (λ x p. next (repeated (past (λ y. a))) (λ xs v. nothing (tt, (p, v))))

-- all of what there is at least one of
pub all_of : {A : Type 0} {P : A → Type 0} {r : Rule (List A)} → Yields (Row P) r → Yields (AllByRecursion P) r
all_of a = record { yields = λ i x j h. (a.yields i x j h).1 }

pub goes_deeper : {A : Type 0} {P : A → Type 0} {r : Rule A} (depth : ℕ) → Yields P r → Yields P (deeper depth r)
goes_deeper zero a = never
goes_deeper (suc depth) a = a

pub own_ordinals : {A : Type 0} {P : A → Type 0} {r : Rule A} → Yields P r → Yields P (with_own_ordinals r)
own_ordinals a = record { yields = λ i x j h. a.yields (record i { at = 0 }) x h.0 h.1 }
