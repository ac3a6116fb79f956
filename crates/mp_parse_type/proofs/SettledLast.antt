-- Lists that end, behind a separator, with something else, look at one token past those that they take.
use Rattle.std.proofs.Common.{◌≡◌, ℕ, zero, suc, ◌<◌, ◌≤◌, Bool, true, false, length, refl, sym, ap, ◌∙◌, subst, arith}
use Rattle.std.specs.Prelude.{if◌then◌else◌}
use Rattle.mp_ast.specs.Rules.{Input}
use Rattle.mp_cursor.specs.declared.next.Next.{Next}
use Rattle.mp_cursor.specs.declared.next.Next.TheVariants as next
use Rattle.mp_cursor.specs.Nexts.{next_of, is, Nexts}
use Rattle.mp_cursor.specs.Parsers.{Parser, ◌>>=◌, ◌>>◌, pure, next_token, left, branch, expect}
use Rattle.mp_cursor.proofs.RuleLaws.{read}
use Rattle.mp_cursor.proofs.Settled.{Settled, Settles, settles_pure, settles_expect, settled_then, chosen, as_by, goes_on, no_length}
use Rattle.mp_parse_type.specs.Types.{series_and_last, repeated_and_last}

module _ {A B : Type 0} (separator : Next) (test : Nexts) (turn : A → Parser A) (last : A → Parser B) (whole : A → B) (ends : is separator next.End ≡ false)
    (falls : (i : Input) (at : ℕ) (j : Input) → expect separator i ≡ read at j → length j.rest < length i.rest)
    (shrinks : (x : A) (i : Input) (y : A) (j : Input) → turn x i ≡ read y j → length j.rest ≤ length i.rest) where
  abbrev after : (A → Parser B) → A → Parser B
  after more found = branch test (turn found >>= more) (last found)

  abbrev series_once : (A → Parser B) → A → Parser B
  series_once more found = branch (is separator) (expect separator >> after more found) (pure (whole found))

  -- goes on alike where it goes on alike with fewer tokens
  after_alike : (more other : A → Parser B) (found : A) (i : Input) (b : Bool) → ((x : A) (m : Input) → length m.rest ≤ length i.rest →
      more x m ≡ other x m) → (if b then (turn found >>= more) i else last found i) ≡ (if b then (turn found >>= other) i else last found i)
  after_alike more other found i true h = goes_on (turn found i) more other (λ x m e. h x m (shrinks found i x m e))
  after_alike more other found i false h = refl

  alike : (more other : A → Parser B) (found : A) (i : Input) → ((x : A) (m : Input) → length m.rest < length i.rest → more x m ≡ other x m) →
      series_once more found i ≡ series_once other found i
  alike more other found i h =
      ap (λ o. if is separator (next_token i) then o else read (whole found) i)
      (goes_on (expect separator i) (λ at. after more found) (λ at. after other found) (λ at m e.
      let l = falls i at m e in
      after_alike more other found m (test (next_token m)) (λ x k g. h x k (omega arith))))

  series_ends : (more : A → Parser B) (found : A) (i : Input) → length i.rest ≤ 0 → series_once more found i ≡ read (whole found) i
  unfolding next_token
  series_ends more found i h =
      ap (λ ks. if is separator (next_of ks) then (expect separator >> after more found) i else read (whole found) i) (no_length i.rest h) ∙
      ap (λ b. if b then (expect separator >> after more found) i else read (whole found) i) ends

  series_enough : (n m : ℕ) (found : A) (i : Input) → length i.rest ≤ n → length i.rest ≤ m →
      series_and_last separator test turn last whole n found i ≡ series_and_last separator test turn last whole m found i
  unfolding series_and_last
  series_enough zero zero found i h g = refl
  series_enough zero (suc m) found i h g = sym (series_ends (series_and_last separator test turn last whole m) found i h)
  series_enough (suc n) zero found i h g = series_ends (series_and_last separator test turn last whole n) found i g
  series_enough (suc n) (suc m) found i h g =
      alike (series_and_last separator test turn last whole n) (series_and_last separator test turn last whole m) found i
      (λ x k l. series_enough n m x k (omega arith) (omega arith))

  abbrev list : A → Parser B
  list = repeated_and_last separator test turn last whole

  series_unrolled : (n : ℕ) (found : A) (i : Input) → length i.rest ≡ n → series_once list found i ≡ list found i
  unfolding repeated_and_last series_and_last left
  series_unrolled zero found i h = series_ends list found i (omega arith) ∙ ap (λ m. series_and_last separator test turn last whole m found i) (sym h)
  series_unrolled (suc n) found i h =
      alike list (series_and_last separator test turn last whole n) found i (λ x k l. series_enough (length k.rest) n x k (omega arith) (omega arith))
      ∙ ap (λ m. series_and_last separator test turn last whole m found i) (sym h)

  module _ (a : (x : A) → Settles (turn x)) (z : (x : A) → Settles (last x)) where
    after_by : (found : A) (i : Input) → ((x : A) (m : Input) → length m.rest ≤ length i.rest → Settled (list x) m (list x m)) → (b : Bool) →
        test (next_token i) ≡ b → Settled (after list found) i (if b then (turn found >>= list) i else last found i)
    after_by found i ih true e =
        chosen (turn found >>= list) (last found) test i true (turn found >>= list) e (λ m. refl) ((turn found >>= list) i)
        (settled_then (turn found) list i (a found i) (λ x m g. ih x m (shrinks found i x m g)))
    after_by found i ih false e = chosen (turn found >>= list) (last found) test i false (last found) e (λ m. refl) (last found i) (z found i)

    series_once_by : (found : A) (i : Input) → ((x : A) (m : Input) → length m.rest < length i.rest → Settled (list x) m (list x m)) → (b : Bool) →
        is separator (next_token i) ≡ b → Settled (series_once list found) i (if b then (expect separator >> after list found) i else read (whole found) i)
    series_once_by found i ih true e =
        chosen (expect separator >> after list found) (pure (whole found)) (is separator) i true (expect separator >> after list found) e (λ m. refl)
        ((expect separator >> after list found) i)
        (settled_then (expect separator) (λ at. after list found) i (settles_expect separator ends i) (λ at m g.
        let l = falls i at m g in
        after_by found m (λ x k f. ih x k (omega arith)) (test (next_token m)) refl))
    series_once_by found i ih false e =
        chosen (expect separator >> after list found) (pure (whole found)) (is separator) i false (pure (whole found)) e (λ m. refl)
        (read (whole found) i) (settles_pure (whole found) i)

    series_once_settled : (found : A) (i : Input) → ((x : A) (m : Input) → length m.rest < length i.rest → Settled (list x) m (list x m)) → Settled (list found) i (list found i)
    series_once_settled found i ih =
        let s = series_once_by found i ih (is separator (next_token i)) refl in
        subst (λ o. Settled (list found) i o) (series_unrolled (length i.rest) found i refl)
        (as_by (series_once list found) (list found) (λ m. series_unrolled (length m.rest) found m refl) i (series_once list found i) s)

    series_settled : (n : ℕ) (found : A) (i : Input) → length i.rest ≤ n → Settled (list found) i (list found i)
    series_settled zero found i h = series_once_settled found i (λ x m l. absurd (let z : ⊥ = omega arith in z))
    series_settled (suc n) found i h = series_once_settled found i (λ x m l. series_settled n x m (omega arith))

    pub settles_with_last : (found : A) → Settles (repeated_and_last separator test turn last whole found)
    settles_with_last found = λ i. series_settled (length i.rest) found i (omega arith)
