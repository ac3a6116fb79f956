-- The places round a change are those that the statements tell of: each test tells what it looks for.
use Rattle.std.proofs.Common.{◌≡◌, ◌↔◌, ◌⊎◌, ℕ, ◌+◌, ◌-◌, ◌<◌, ◌≤◌, ◌||◌, ◌&&◌, Bool, true, false, cond, eqb, nat_le, min, max, List, [], ◌∷◌, ◌++◌}
use Rattle.std.proofs.Common.{length, map, refl, ap, sym, subst, ◌∙◌, arith, inl, inr, ⊎_elim}
use Rattle.std.specs.List.{Any, filter, list_any}
use Rattle.std.proofs.lemmas.Bool.{and_parts, cases_lt, cond-true, eq-eqb, eqb-true, false≢true, le-leb, leb-true, or_cases}
use Rattle.std.proofs.lemmas.List.Folds.{Any-from_list_any, list_any-append, list_any-from_Any}
use Rattle.mp_ast.specs.declared.errors.LexError.{LexError}
use Rattle.mp_ast.specs.declared.tokens.Token.{Token}
use Rattle.mp_lex.specs.declared.change.Change.{Change}
use Rattle.mp_lex.specs.Lexed.{lexical_tokens, lexical_errors}
use Rattle.mp_lex.specs.Relexing.{ends_of, error_end, greatest, is_before, is_start, is_start_again, kept_to, least_or, same_from, starts_of, token_end}
use Rattle.mp_lex.specs.RoundChange.{EndsAt, IsFirstAgain, IsLastBefore, IsTheKept, IsTheSame, StartsAt, StoodAt}
use Rattle.mp_lex.proofs.RelexLemmas.{IsOne, any_map, greatest_one, one_here, one_later, or_true}

-- one of these has the number
told : {X : Type 0} (f : X → ℕ) (n : ℕ) (xs : List X) → list_any (λ x. eqb (f x) n) xs ≡ true → Any (λ x. f x ≡ n) xs
told f n xs h = let a = Any-from_list_any (λ x. eqb (f x) n) xs h in (a.0, a.1, a.2, a.3, eqb-true (f a.1) n a.4)

passes : {X : Type 0} (f : X → ℕ) (n : ℕ) (xs : List X) → Any (λ x. f x ≡ n) xs → list_any (λ x. eqb (f x) n) xs ≡ true
passes f n xs a = list_any-from_Any (λ x. eqb (f x) n) xs (a.0, a.1, a.2, a.3, eq-eqb (f a.1) n a.4)

-- one of the two lists has one with the number
abbrev InEither : {X Y : Type 0} → (X → ℕ) → (Y → ℕ) → List X → List Y → ℕ → Type 0
InEither f g xs ys n = Any (λ x. f x ≡ n) xs ⊎ Any (λ y. g y ≡ n) ys

both_told : {X Y : Type 0} (f : X → ℕ) (g : Y → ℕ) (xs : List X) (ys : List Y) (n : ℕ) →
    (list_any (λ x. eqb (f x) n) xs || list_any (λ y. eqb (g y) n) ys) ≡ true → InEither f g xs ys n
both_told f g xs ys n h = ⊎_elim (λ t. inl (told f n xs t)) (λ t. inr (told g n ys t)) (or_cases (list_any (λ x. eqb (f x) n) xs) (list_any (λ y. eqb (g y) n) ys) h)

both_pass : {X Y : Type 0} (f : X → ℕ) (g : Y → ℕ) (xs : List X) (ys : List Y) (n : ℕ) → InEither f g xs ys n →
    (list_any (λ x. eqb (f x) n) xs || list_any (λ y. eqb (g y) n) ys) ≡ true
both_pass f g xs ys n h = ⊎_elim
    (λ a. ap (λ b. b || list_any (λ y. eqb (g y) n) ys) (passes f n xs a))
    (λ a. ap (λ b. list_any (λ x. eqb (f x) n) xs || b) (passes g n ys a) ∙ or_true (list_any (λ x. eqb (f x) n) xs))
    h

in_both : {X Y : Type 0} (f : X → ℕ) (g : Y → ℕ) (xs : List X) (ys : List Y) (n : ℕ) →
    list_any (λ m. eqb m n) (map f xs ++ map g ys) ≡ (list_any (λ x. eqb (f x) n) xs || list_any (λ y. eqb (g y) n) ys)
in_both f g xs ys n = list_any-append (λ m. eqb m n) (map f xs) (map g ys) ∙ ap (λ b. b || list_any (λ m. eqb m n) (map g ys)) (any_map (λ m. eqb m n) f xs)
    ∙ ap (λ b. list_any (λ x. eqb (f x) n) xs || b) (any_map (λ m. eqb m n) g ys)

-- each of those that pass is at most the greatest, and at least the least
greatest_most : (test : ℕ → Bool) (ns : List ℕ) (n : ℕ) → list_any (λ m. eqb m n) ns ≡ true → test n ≡ true → n ≤ greatest (filter test ns)
greatest_most test [] n h t = absurd (false≢true h)
greatest_most test (x ∷ ns) n h t = ⊎_elim here (λ e. later (greatest_most test ns n e t)) (or_cases (eqb x n) (list_any (λ m. eqb m n) ns) h)
  where
    here : eqb x n ≡ true → n ≤ greatest (filter test (x ∷ ns))
    here e =
        let q = eqb-true x n e in
        let a : greatest (filter test (x ∷ ns)) ≡ max x (greatest (filter test ns)) = ap greatest (cond-true (test x) _ _ (ap test q ∙ t)) in
        omega (arith, q, a)

    later : n ≤ greatest (filter test ns) → n ≤ greatest (filter test (x ∷ ns))
    later l = elim (test x) as (λ v. n ≤ greatest (cond v (x ∷ filter test ns) (filter test ns))) [
      | true ↦ omega (arith, l)
      | false ↦ l
    ]

least_most : (test : ℕ → Bool) (ns : List ℕ) (end n : ℕ) → list_any (λ m. eqb m n) ns ≡ true → test n ≡ true → least_or end (filter test ns) ≤ n
least_most test [] end n h t = absurd (false≢true h)
least_most test (x ∷ ns) end n h t = ⊎_elim here (λ e. later (least_most test ns end n e t)) (or_cases (eqb x n) (list_any (λ m. eqb m n) ns) h)
  where
    here : eqb x n ≡ true → least_or end (filter test (x ∷ ns)) ≤ n
    here e =
        let q = eqb-true x n e in
        let a : least_or end (filter test (x ∷ ns)) ≡ min x (least_or end (filter test ns)) = ap (least_or end) (cond-true (test x) _ _ (ap test q ∙ t)) in
        omega (arith, q, a)

    later : least_or end (filter test ns) ≤ n → least_or end (filter test (x ∷ ns)) ≤ n
    later l = elim (test x) as (λ v. least_or end (cond v (x ∷ filter test ns) (filter test ns)) ≤ n) [
      | true ↦ omega (arith, l)
      | false ↦ l
    ]

least_within : (end : ℕ) (ns : List ℕ) → least_or end ns ≤ end
least_within end [] = omega arith
least_within end (n ∷ ns) = let l = least_within end ns in omega (arith, l)

least_one : (test : ℕ → Bool) (end : ℕ) (ns : List ℕ) → (least_or end (filter test ns) ≡ end) ⊎ IsOne test ns (least_or end (filter test ns))
least_one test end [] = inl refl
least_one test end (x ∷ ns) = of (least_one test end ns)
  where
    P : ℕ → Type 0
    P n = (n ≡ end) ⊎ IsOne test (x ∷ ns) n

    taken : (g : ℕ) → (g ≡ end) ⊎ IsOne test ns g → test x ≡ true → P (min x g)
    taken g h t = ⊎_elim
        (λ (l : x < g). let e : x ≡ min x g = omega (arith, l) in inr (one_here test x ns (min x g) e t))
        (λ (l : g ≤ x). let e : g ≡ min x g = omega (arith, l) in subst P e (⊎_elim (λ z. inl z) (λ o. inr (one_later test x ns g o)) h))
        (cases_lt x g)

    of : (least_or end (filter test ns) ≡ end) ⊎ IsOne test ns (least_or end (filter test ns)) → P (least_or end (filter test (x ∷ ns)))
    of h = elim (test x) as (λ v. test x ≡ v → P (least_or end (cond v (x ∷ filter test ns) (filter test ns)))) [
      | true ↦ λ e. taken (least_or end (filter test ns)) h e
      | false ↦ λ e. ⊎_elim (λ z. inl z) (λ o. inr (one_later test x ns (least_or end (filter test ns)) o)) h
    ] refl

-- what is kept
kept_is : (start : ℕ) (tokens : List Token) (errors : List LexError) → IsLastBefore start tokens errors (kept_to start tokens errors)
kept_is start tokens errors =
    let place = kept_to start tokens errors in
    record {
      end = ⊎_elim (λ z. inl z)
          (λ o. inr (both_told token_end error_end tokens errors place (sym (in_both token_end error_end tokens errors place) ∙ o.one), leb-true (place + 2) start o.passes))
          (greatest_one (is_before start) (ends_of tokens errors));
      greatest = λ end h l. greatest_most (is_before start) (ends_of tokens errors) end
          (in_both token_end error_end tokens errors end ∙ both_pass token_end error_end tokens errors end h) (le-leb (end + 2) start l);
    }

one_last : (start : ℕ) (tokens : List Token) (errors : List LexError) (a b : ℕ) → IsLastBefore start tokens errors a → IsLastBefore start tokens errors b → a ≤ b
one_last start tokens errors a b p q = ⊎_elim (λ (z : a ≡ 0). omega (arith, z)) (λ h. q.greatest a h.0 h.1) p.end

pub the_kept : (start : ℕ) (tokens : List Token) (errors : List LexError) (place : ℕ) → IsTheKept start tokens errors place
the_kept start tokens errors place =
    let is = kept_is start tokens errors in
    let at = kept_to start tokens errors in (
      λ h. let a = one_last start tokens errors place at h is in let b = one_last start tokens errors at place is h in omega (arith, a, b),
      λ e. subst (IsLastBefore start tokens errors) (sym e) is,
    )

-- where all is as before
again_told : (change : Change) (tokens : List Token) (errors : List LexError) (place : ℕ) → is_start_again change tokens errors place ≡ true → StoodAt change tokens errors place
again_told change tokens errors place h =
    let old = place + change.removed - change.added in
    let parts = and_parts (nat_le (change.start + change.added) place) (is_start tokens errors old) h in
    let l = leb-true (change.start + change.added) place parts.0 in
    (l, old, omega (arith, l), omega (arith, l), both_told (λ token. token.start) (λ error. error.start) tokens errors old parts.1)

again_passes : (change : Change) (tokens : List Token) (errors : List LexError) (place : ℕ) → StoodAt change tokens errors place → is_start_again change tokens errors place ≡ true
again_passes change tokens errors place h =
    let old = place + change.removed - change.added in
    let e : h.1 ≡ old = omega (arith, h.0, h.3) in
    ap (λ b. b && is_start tokens errors old) (le-leb (change.start + change.added) place h.0)
    ∙ both_pass (λ token. token.start) (λ error. error.start) tokens errors old (subst (StartsAt tokens errors) e h.4)

same_is : (change : Change) (tokens : List Token) (errors : List LexError) (after : List ℕ) → IsFirstAgain change tokens errors after (same_from change tokens errors after)
same_is change tokens errors after =
    let place = same_from change tokens errors after in
    let again = is_start_again change tokens errors in
    let new = lexical_tokens after in
    let found = lexical_errors after in
    record {
      within = least_within (length after) (filter again (starts_of new found));
      start = ⊎_elim (λ z. inl z)
          (λ o. inr (
            both_told (λ token. token.start) (λ error. error.start) new found place (sym (in_both (λ token. token.start) (λ error. error.start) new found place) ∙ o.one),
            again_told change tokens errors place o.passes,
          ))
          (least_one again (length after) (starts_of new found));
      least = λ start h stood. least_most again (starts_of new found) (length after) start
          (in_both (λ token. token.start) (λ error. error.start) new found start ∙ both_pass (λ token. token.start) (λ error. error.start) new found start h)
          (again_passes change tokens errors start stood);
    }

one_first : (change : Change) (tokens : List Token) (errors : List LexError) (after : List ℕ) (a b : ℕ) → IsFirstAgain change tokens errors after a →
    IsFirstAgain change tokens errors after b → a ≤ b
one_first change tokens errors after a b p q = ⊎_elim (λ (e : b ≡ length after). omega (arith, e, p.within)) (λ h. p.least b h.0 h.1) q.start

pub the_same : (change : Change) (tokens : List Token) (errors : List LexError) (after : List ℕ) (place : ℕ) → IsTheSame change tokens errors after place
the_same change tokens errors after place =
    let is = same_is change tokens errors after in
    let at = same_from change tokens errors after in (
      λ h. let a = one_first change tokens errors after place at h is in let b = one_first change tokens errors after at place is h in omega (arith, a, b),
      λ e. subst (IsFirstAgain change tokens errors after) (sym e) is,
    )
