-- Rules that allow the same.
use Rattle.std.proofs.Common.{◌≡◌, ◌⊎◌, inl, inr, refl, sym, ◌∙◌, subst}
use Rattle.mp_ast.specs.Rules.{Input, Rule, gives}
use Rattle.mp_ast.specs.Rules.{◌>>=◌ as ◌>>=ʳ◌, ◌>>◌ as ◌>>ʳ◌, ◌<$>◌ as ◌<$>ʳ◌, ◌<|>◌ as ◌<|>ʳ◌}
use Rattle.mp_cursor.proofs.RuleLaws.{Same}

pub same_refl : {A : Type 0} (r : Rule A) → Same r r
same_refl r = record { to = λ i x j d. d; back = λ i x j d. d }

pub same_sym : {A : Type 0} {r s : Rule A} → Same r s → Same s r
same_sym e = record { to = e.back; back = e.to }

pub same_trans : {A : Type 0} {r s t : Rule A} → Same r s → Same s t → Same r t
same_trans e f = record { to = λ i y j d. f.to i y j (e.to i y j d); back = λ i y j d. e.back i y j (f.back i y j d) }

pub same_then : {A B : Type 0} {r q : Rule A} {s t : A → Rule B} → Same r q → ((x : A) → Same (s x) (t x)) → Same (r >>=ʳ s) (q >>=ʳ t)
same_then e f = record {
  to = λ i y j d. (d.0, d.1, e.to i d.0 d.1 d.2, (f d.0).to d.1 y j d.3);
  back = λ i y j d. (d.0, d.1, e.back i d.0 d.1 d.2, (f d.0).back d.1 y j d.3);
}

pub same_or : {A : Type 0} {r q s t : Rule A} → Same r q → Same s t → Same (r <|>ʳ s) (q <|>ʳ t)
same_or {r = r} {q = q} {s = s} {t = t} e f = record { to = to; back = back }
  where
    to : (i : Input) (x : _) (j : Input) → (r i x j) ⊎ (s i x j) → (q i x j) ⊎ (t i x j)
    to i x j (inl d) = inl (e.to i x j d)
    to i x j (inr d) = inr (f.to i x j d)

    back : (i : Input) (x : _) (j : Input) → (q i x j) ⊎ (t i x j) → (r i x j) ⊎ (s i x j)
    back i x j (inl d) = inl (e.back i x j d)
    back i x j (inr d) = inr (f.back i x j d)

-- ---- groupings

-- choices group either way
pub or_grouped : {A : Type 0} (r s t : Rule A) → Same ((r <|>ʳ s) <|>ʳ t) (r <|>ʳ (s <|>ʳ t))
or_grouped {A} r s t = record { to = to; back = back }
  where
    to : (i : Input) (x : A) (j : Input) → ((r i x j) ⊎ (s i x j)) ⊎ (t i x j) → (r i x j) ⊎ ((s i x j) ⊎ (t i x j))
    to i x j (inl (inl d)) = inl d
    to i x j (inl (inr d)) = inr (inl d)
    to i x j (inr d) = inr (inr d)

    back : (i : Input) (x : A) (j : Input) → (r i x j) ⊎ ((s i x j) ⊎ (t i x j)) → ((r i x j) ⊎ (s i x j)) ⊎ (t i x j)
    back i x j (inl d) = inl (inl d)
    back i x j (inr (inl d)) = inl (inr d)
    back i x j (inr (inr d)) = inr d

-- choices in either order
pub or_swapped : {A : Type 0} (r s : Rule A) → Same (r <|>ʳ s) (s <|>ʳ r)
or_swapped {A} r s = record { to = swap; back = unswap }
  where
    swap : (i : Input) (x : A) (j : Input) → (r i x j) ⊎ (s i x j) → (s i x j) ⊎ (r i x j)
    swap i x j (inl d) = inr d
    swap i x j (inr d) = inl d

    unswap : (i : Input) (x : A) (j : Input) → (s i x j) ⊎ (r i x j) → (r i x j) ⊎ (s i x j)
    unswap i x j (inl d) = inr d
    unswap i x j (inr d) = inl d

-- what stands one after another groups either way
pub then_grouped : {A B C : Type 0} (r : Rule A) (s : A → Rule B) (t : B → Rule C) → Same ((r >>=ʳ s) >>=ʳ t) (r >>=ʳ (λ x. s x >>=ʳ t))
then_grouped r s t = record {
  to = λ i z j d. (d.2.0, d.2.1, d.2.2, (d.0, d.1, d.2.3, d.3));
  back = λ i z j d. (d.3.0, d.3.1, (d.0, d.1, d.2, d.3.2), d.3.3);
}

-- what gives a value goes on with it
pub gives_first : {A B : Type 0} (x : A) (s : A → Rule B) → Same (gives x >>=ʳ s) (s x)
gives_first x s = record {
  to = λ i y j d. subst (λ m. s x m y j) (sym d.2.1) (subst (λ z. s z d.1 y j) (sym d.2.0) d.3);
  back = λ i y j d. (x, i, (refl, refl), d);
}

-- two that begin alike are one that begins so
pub factored : {A B : Type 0} (r : Rule A) (s t : A → Rule B) → Same (r >>=ʳ (λ x. s x <|>ʳ t x)) ((r >>=ʳ s) <|>ʳ (r >>=ʳ t))
factored {A} {B} r s t = record { to = λ i y j d. to i y j d.0 d.1 d.2 d.3; back = back }
  where
    to : (i : Input) (y : B) (j : Input) (x : A) (m : Input) → r i x m → (s x m y j) ⊎ (t x m y j) → ((r >>=ʳ s) i y j) ⊎ ((r >>=ʳ t) i y j)
    to i y j x m d (inl c) = inl (x, m, d, c)
    to i y j x m d (inr c) = inr (x, m, d, c)

    back : (i : Input) (y : B) (j : Input) → ((r >>=ʳ s) i y j) ⊎ ((r >>=ʳ t) i y j) → (r >>=ʳ (λ x. s x <|>ʳ t x)) i y j
    back i y j (inl d) = (d.0, d.1, d.2, inl d.3)
    back i y j (inr d) = (d.0, d.1, d.2, inr d.3)

-- choices that go on alike
pub or_then : {A B : Type 0} (r s : Rule A) (t : A → Rule B) → Same ((r <|>ʳ s) >>=ʳ t) ((r >>=ʳ t) <|>ʳ (s >>=ʳ t))
or_then {A} {B} r s t = record { to = λ i y j d. to i y j d.0 d.1 d.2 d.3; back = back }
  where
    to : (i : Input) (y : B) (j : Input) (x : A) (m : Input) → (r i x m) ⊎ (s i x m) → t x m y j → ((r >>=ʳ t) i y j) ⊎ ((s >>=ʳ t) i y j)
    to i y j x m (inl d) c = inl (x, m, d, c)
    to i y j x m (inr d) c = inr (x, m, d, c)

    back : (i : Input) (y : B) (j : Input) → ((r >>=ʳ t) i y j) ⊎ ((s >>=ʳ t) i y j) → ((r <|>ʳ s) >>=ʳ t) i y j
    back i y j (inl d) = (d.0, d.1, inl d.2, d.3)
    back i y j (inr d) = (d.0, d.1, inr d.2, d.3)

-- ---- values

-- the same value, told in another way
pub same_value : {A B : Type 0} {r : Rule A} (b c : A → B) → ((x : A) → b x ≡ c x) → Same (b <$>ʳ r) (c <$>ʳ r)
same_value b c e = record {
  to = λ i y j d. (d.0, d.1, d.2, (sym (e d.0) ∙ d.3.0, d.3.1));
  back = λ i y j d. (d.0, d.1, d.2, (e d.0 ∙ d.3.0, d.3.1));
}

-- the value itself
pub same_itself : {A : Type 0} {r : Rule A} → Same ((λ x. x) <$>ʳ r) r
same_itself {r = r} = record {
  to = λ i y j d. subst (λ m. r i y m) d.3.1 (subst (λ x. r i x d.1) d.3.0 d.2);
  back = λ i y j d. (y, j, d, (refl, refl));
}

-- what may stand behind a list and gives nothing
pub behind_list : {A B C : Type 0} (r : Rule A) (o : Rule B) (k : A → Rule C) → Same ((r >>=ʳ (λ xs. o >>ʳ gives xs)) >>=ʳ k) (r >>=ʳ (λ xs. o >>ʳ k xs))
behind_list r o k = record {
  to = λ i y j d.
      let a = d.2.3 in
      (d.2.0, d.2.1, d.2.2, (a.0, a.1, a.2, subst (λ m. k d.2.0 m y j) (sym a.3.1) (subst (λ z. k z d.1 y j) (sym a.3.0) d.3)));
  back = λ i y j d.
      let a = d.3 in
      (d.0, a.1, (d.0, d.1, d.2, (a.0, a.1, a.2, (refl, refl))), a.3);
}

-- what goes on with a value that was made
pub map_first : {A B C : Type 0} (b : A → B) (r : Rule A) (k : B → Rule C) → Same ((b <$>ʳ r) >>=ʳ k) (r >>=ʳ (λ x. k (b x)))
map_first b r k = record {
  to = λ i y j d.
      let a = d.2 in
      (a.0, a.1, a.2, subst (λ m. k (b a.0) m y j) (sym a.3.1) (subst (λ z. k z d.1 y j) (sym a.3.0) d.3));
  back = λ i y j d. (b d.0, d.1, (d.0, d.1, d.2, (refl, refl)), d.3);
}
