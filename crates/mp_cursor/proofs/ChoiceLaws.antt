-- The laws of choices by the next token.
use Rattle.std.proofs.Common.{◌≡◌, ◌⊎◌, inl, inr, ◌≤◌, Bool, true, false, length, Some, None, ap, ◌∙◌}
use Rattle.std.specs.Prelude.{if◌then◌else◌}
use Rattle.mp_ast.specs.Rules.{Input, Rule, gives}
use Rattle.mp_ast.specs.Rules.{◌<$>◌ as ◌<$>ʳ◌, ◌<|>◌ as ◌<|>ʳ◌}
use Rattle.mp_ast.specs.Rules as rule
use Rattle.mp_cursor.specs.Nexts.{Nexts}
use Rattle.mp_cursor.specs.Parsers.{Parser, next_token, branch, optional}
use Rattle.mp_cursor.proofs.NextSets.{within, apart, within_is, apart_is, in_first, in_second}
use Rattle.mp_cursor.specs.Nexts.{either}
use Rattle.mp_cursor.proofs.Settled.{settles_branch}
use Rattle.mp_cursor.proofs.Recovery.{moves_or, recovers_branch, ends_left, ends_right}
use Rattle.mp_cursor.proofs.RuleLaws.{LawWhere, read, law_pure, law_map}

abbrev Branched : {A : Type 0} → Rule A → Rule A → Parser A → Parser A → Input → A → Input → Bool → Type 0
Branched r s p q i x j b = (if b then p i else q i) ≡ read x j → (r i x j) ⊎ (s i x j)

branched : {P A : Type 0} {u v : Bool} {f g h : Nexts} {p q : Parser A} {r s : Rule A} → LawWhere P u f g p r → LawWhere P v h g q s →
    (i : Input) (x : A) (j : Input) (b : Bool) → Branched r s p q i x j b
branched a c i x j true = λ h. inl (a.sound i x j h)
branched a c i x j false = λ h. inr (c.sound i x j h)

branched_shrinks : {P A : Type 0} {u v : Bool} {f g h : Nexts} {p q : Parser A} {r s : Rule A} → LawWhere P u f g p r → LawWhere P v h g q s →
    (i : Input) (x : A) (j : Input) (b : Bool) → (if b then p i else q i) ≡ read x j → length j.rest ≤ length i.rest
branched_shrinks a c i x j true h = a.shrinks i x j h
branched_shrinks a c i x j false h = c.shrinks i x j h

module _ {P A : Type 0} {u v : Bool} {f h g : Nexts} {p q : Parser A} {r s : Rule A} (test : Nexts) (a : LawWhere P u f g p r)
    (inside : within f test ≡ true) (outside : apart h test ≡ true) (c : LawWhere P v h g q s) where
  chosen : (i : Input) (x : A) (j : Input) → (r i x j) ⊎ (s i x j) → g (next_token j) ≡ true → branch test p q i ≡ read x j
  chosen i x j (inl d) e = ap (λ b. if b then p i else q i) (within_is f test inside (next_token i) (a.begins i x j d e)) ∙ a.complete i x j d e
  chosen i x j (inr d) e = ap (λ b. if b then p i else q i) (apart_is h test outside (next_token i) (c.begins i x j d e)) ∙ c.complete i x j d e

  begun : (i : Input) (x : A) (j : Input) → (r i x j) ⊎ (s i x j) → g (next_token j) ≡ true → either f h (next_token i) ≡ true
  begun i x j (inl d) e = in_first f h (next_token i) (a.begins i x j d e)
  begun i x j (inr d) e = in_second f h (next_token i) (c.begins i x j d e)

  -- the first before a token of the test, which it always begins with and the other never; it is finished as the other
  pub law_branch : LawWhere P v (either f h) g (branch test p q) (r <|>ʳ s)
  law_branch = record {
    sound = λ i x j e. branched a c i x j (test (next_token i)) e;
    complete = chosen;
    begins = begun;
    shrinks = λ i x j e. branched_shrinks a c i x j (test (next_token i)) e;
    settles = settles_branch p q test a.settles c.settles;
    moves = moves_or r s a.moves c.moves;
    recovers = λ granted. recovers_branch test p q r s (a.recovers granted) (c.recovers granted);
    ends = λ granted e. ends_right r s (c.ends granted e);
  }

-- the same, finished as the first
pub law_branch_first : {P A : Type 0} {u v : Bool} {f h g : Nexts} {p q : Parser A} {r s : Rule A} (test : Nexts) → LawWhere P u f g p r →
    within f test ≡ true → apart h test ≡ true → LawWhere P v h g q s → LawWhere P u (either f h) g (branch test p q) (r <|>ʳ s)
law_branch_first {r = r} {s = s} test a inside outside c =
    let w = law_branch test a inside outside c in
    record {
      sound = w.sound;
      complete = w.complete;
      begins = w.begins;
      shrinks = w.shrinks;
      settles = w.settles;
      moves = w.moves;
      recovers = w.recovers;
      ends = λ granted e. ends_left r s (a.ends granted e);
    }

-- what may be left out before the tokens that may follow
pub law_optional : {P A : Type 0} {u : Bool} {f : Nexts} {p : Parser A} {r : Rule A} (test follow : Nexts) → LawWhere P u f follow p r →
    within f test ≡ true → apart follow test ≡ true → LawWhere P true (either f follow) follow (optional test p) (rule.optional r)
law_optional test follow a inside outside = law_branch test (law_map Some a) inside outside (law_pure None follow)
