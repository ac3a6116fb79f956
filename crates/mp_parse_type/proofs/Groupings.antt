-- Groupings of rules that the grammar and the parsers have in different ways.
use Rattle.std.proofs.Common.{◌≡◌, ◌⊎◌, inl, inr, ◌≤◌, Bool, true, false, length, ap, ◌∙◌}
use Rattle.std.specs.Prelude.{if◌then◌else◌}
use Rattle.mp_ast.specs.Rules.{Input, Rule, gives}
use Rattle.mp_ast.specs.Rules.{◌>>=◌ as ◌>>=ʳ◌, ◌>>◌ as ◌>>ʳ◌, ◌<$>◌ as ◌<$>ʳ◌, ◌<|>◌ as ◌<|>ʳ◌}
use Rattle.mp_cursor.specs.Nexts.{Nexts, either}
use Rattle.mp_cursor.specs.Parsers.{Parser, next_token, branch}
use Rattle.mp_cursor.proofs.NextSets.{within, within_is, in_first, in_second}
use Rattle.mp_cursor.proofs.Settled.{settles_branch}
use Rattle.mp_cursor.proofs.Recovery.{moves_or, moves_as, recovers_branch, recovers_as, ends_as}
use Rattle.mp_cursor.proofs.RuleLaws.{Law, Same, read}
use Rattle.mp_cursor.proofs.SameRules.{same_refl, same_sym, same_trans, same_then, same_or, or_grouped, or_swapped, then_grouped, gives_first}

-- what goes on behind two, goes on behind the second
pub regrouped : {A B C : Type 0} {r : Rule A} {s : A → Rule B} {t : B → Rule C} {u : A → Rule C} → ((x : A) → Same (s x >>=ʳ t) (u x)) → Same ((r >>=ʳ s) >>=ʳ t) (r >>=ʳ u)
regrouped {r = r} {s = s} {t = t} e = same_trans (then_grouped r s t) (same_then (same_refl r) e)

-- what goes on with a value that is told in another way
pub map_then : {A B C : Type 0} {r : Rule A} (b : A → B) (k : B → Rule C) → Same ((b <$>ʳ r) >>=ʳ k) (r >>=ʳ (λ x. k (b x)))
map_then b k = regrouped (λ x. gives_first (b x) k)

-- what stands between, and gives nothing
pub between : {A B C : Type 0} (o : Rule B) (x : A) (k : A → Rule C) → Same ((o >>ʳ gives x) >>=ʳ k) (o >>ʳ k x)
between o x k = regrouped (λ y. gives_first x k)

-- the last of four choices, first
pub last_first : {A : Type 0} (r s t u : Rule A) → Same (r <|>ʳ (s <|>ʳ (t <|>ʳ u))) (u <|>ʳ (r <|>ʳ (s <|>ʳ t)))
last_first r s t u = same_trans (same_or (same_refl r) (same_sym (or_grouped s t u))) (same_trans (same_sym (or_grouped r (s <|>ʳ t) u)) (or_swapped _ _))

-- ---- choices that the next token makes between rules that overlap

-- What `t` allows, `r` allows, or `s` allows it where the next token is not of the test.
pub record Splits {A : Type 0} (test : Nexts) (r s t : Rule A) : Type 0 where
  pub to : (i : Input) (x : A) (j : Input) → t i x j → (r i x j) ⊎ ((test (next_token i) ≡ false) × s i x j)
  pub first : (i : Input) (x : A) (j : Input) → r i x j → t i x j
  pub second : (i : Input) (x : A) (j : Input) → s i x j → t i x j

module _ {A : Type 0} {u v : Bool} {f h g : Nexts} {p q : Parser A} {r s t : Rule A} (test : Nexts) (a : Law u f g p r)
    (inside : within f test ≡ true) (c : Law v h g q s) (splits : Splits test r s t) where
  chosen_sound : (i : Input) (x : A) (j : Input) (b : Bool) → (if b then p i else q i) ≡ read x j → t i x j
  chosen_sound i x j true e = splits.first i x j (a.sound i x j e)
  chosen_sound i x j false e = splits.second i x j (c.sound i x j e)

  chosen_shrinks : (i : Input) (x : A) (j : Input) (b : Bool) → (if b then p i else q i) ≡ read x j → length j.rest ≤ length i.rest
  chosen_shrinks i x j true e = a.shrinks i x j e
  chosen_shrinks i x j false e = c.shrinks i x j e

  chosen : (i : Input) (x : A) (j : Input) → (r i x j) ⊎ ((test (next_token i) ≡ false) × s i x j) → g (next_token j) ≡ true → branch test p q i ≡ read x j
  chosen i x j (inl d) e = ap (λ b. if b then p i else q i) (within_is f test inside (next_token i) (a.begins i x j d e)) ∙ a.complete i x j d e
  chosen i x j (inr d) e = ap (λ b. if b then p i else q i) d.0 ∙ c.complete i x j d.1 e

  begun : (i : Input) (x : A) (j : Input) → (r i x j) ⊎ ((test (next_token i) ≡ false) × s i x j) → g (next_token j) ≡ true → either f h (next_token i) ≡ true
  begun i x j (inl d) e = in_first f h (next_token i) (a.begins i x j d e)
  begun i x j (inr d) e = in_second f h (next_token i) (c.begins i x j d.1 e)

  either_of : (i : Input) (x : A) (j : Input) → (r i x j) ⊎ ((test (next_token i) ≡ false) × s i x j) → (r <|>ʳ s) i x j
  either_of i x j (inl d) = inl d
  either_of i x j (inr d) = inr d.1

  to_split : (i : Input) (x : A) (j : Input) → (r <|>ʳ s) i x j → t i x j
  to_split i x j (inl d) = splits.first i x j d
  to_split i x j (inr d) = splits.second i x j d

  -- it is finished as the first
  pub law_split : Law u (either f h) g (branch test p q) t
  law_split = record {
    sound = λ i x j e. chosen_sound i x j (test (next_token i)) e;
    complete = λ i x j d e. chosen i x j (splits.to i x j d) e;
    begins = λ i x j d e. begun i x j (splits.to i x j d) e;
    shrinks = λ i x j e. chosen_shrinks i x j (test (next_token i)) e;
    settles = settles_branch p q test a.settles c.settles;
    moves = moves_as (r <|>ʳ s) t to_split (λ i x j d. either_of i x j (splits.to i x j d)) (moves_or r s a.moves c.moves);
    recovers = λ granted. recovers_as (branch test p q) (r <|>ʳ s) t to_split (recovers_branch test p q r s (a.recovers granted) (c.recovers granted));
    ends = λ granted e. ends_as r t splits.first (a.ends granted e);
  }

-- ---- parsers that take a token at least
