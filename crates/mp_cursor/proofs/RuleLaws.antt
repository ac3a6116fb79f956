-- The laws of a parser of a rule: what it reads the rule allows, and what the rule allows it reads, where what follows
-- does not go on with it. Each step and each combination has its law, so that the law of a production is a term that
-- follows the production.
use Rattle.std.proofs.Common.{◌≡◌, ℕ, ◌+◌, ◌<◌, ◌≤◌, Bool, true, false, List, [], ◌∷◌, length, Ok, Err, refl, sym, ap, ◌∙◌, arith}
use Rattle.std.specs.Prelude.{if◌then◌else◌}
use Rattle.mp_ast.specs.declared.tokens.TokenKind.{TokenKind}
use Rattle.mp_ast.specs.declared.tokens.TokenKind.TheVariants as kind
use Rattle.mp_ast.specs.declared.words.WordSymbol.{WordSymbol}
use Rattle.mp_ast.specs.declared.symbols.Symbol.{Symbol}
use Rattle.mp_ast.specs.Rules.{Input, Rule, gives, token}
use Rattle.mp_ast.specs.Rules.{◌>>=◌ as ◌>>=ʳ◌, ◌>>◌ as ◌>>ʳ◌, ◌<$>◌ as ◌<$>ʳ◌, ◌<|>◌ as ◌<|>ʳ◌}
use Rattle.mp_ast.specs.Rules as rule
use Rattle.mp_cursor.specs.declared.next.Next.{Next}
use Rattle.mp_cursor.specs.declared.next.Next.TheVariants as next
use Rattle.mp_cursor.specs.Nexts.{next_of, class_of, is}
use Rattle.mp_cursor.specs.Nexts.{Nexts}
use Rattle.mp_cursor.specs.Parsers.{Outcome, Parser, and_then, ◌>>=◌, ◌<$>◌, pure, refuse, next_token, behind, behind_of, expect, wrong, here, left}
use Rattle.mp_cursor.specs.Exactness.{ReadsOnly, ReadsAll, ReadsExactly}
use Rattle.mp_cursor.proofs.Recovery.{Moves, Recovers, Ends, no_else, failure_is, moves_pure, ends_pure, recovers_pure, moves_then, ends_then}
use Rattle.mp_cursor.proofs.Recovery.{recovers_then, moves_as, ends_as, recovers_as, moves_token, ends_token, recovers_first, moves_here, ends_here}
use Rattle.mp_cursor.specs.declared.failure.Failure.{Failure}
use Rattle.mp_cursor.proofs.Settled.{stopped, place, Settles, settles_pure, settles_then, settles_wrong, settles_expect, settles_here}
use Rattle.mp_cursor.proofs.NextLemmas.{is_same, is_itself, only_word, only_symbol}
use Rattle.mp_cursor.proofs.NextSets.{within, within_is}
use Rattle.mp_cursor.specs.Nexts.{any}

abbrev pub read : {A : Type 0} → A → Input → Outcome A
read x i = Ok (x, i)

-- before such a token, and where such a token follows
pub record LawWhere {A : Type 0} (P : Type 0) (finishes : Bool) (first follow : Nexts) (p : Parser A) (r : Rule A) : Type 0 where
  pub sound : ReadsOnly p r
  pub complete : ReadsAll follow p r
  pub begins : (i : Input) (x : A) (j : Input) → r i x j → follow (next_token j) ≡ true → first (next_token i) ≡ true
  pub shrinks : (i : Input) (x : A) (j : Input) → p i ≡ read x j → length j.rest ≤ length i.rest
  -- it looks at one token past those that it takes
  pub settles : Settles p
  -- what it takes may stand before anything else, but for an `else`
  pub moves : Moves r
  -- where it stops behind its first token, what it took can be finished
  pub recovers : P → Recovers p r
  -- it can be finished from the start, where it is said to
  pub ends : P → finishes ≡ true → Ends r

-- the laws that hold without any condition
abbrev pub Law : {A : Type 0} → Bool → Nexts → Nexts → Parser A → Rule A → Type 0
Law b f g p r = LawWhere (Unit {0}) b f g p r

-- what such a law promises outside
pub exactly : {P A : Type 0} {b : Bool} {f g : Nexts} {p : Parser A} {r : Rule A} → LawWhere P b f g p r → ReadsExactly g p r
exactly a = record { sound = a.sound; complete = a.complete }

-- where there is a condition
pub law_where : {A : Type 0} {b : Bool} {f g : Nexts} {p : Parser A} {r : Rule A} (P : Type 0) → Law b f g p r → LawWhere P b f g p r
law_where P a = record {
  sound = a.sound;
  complete = a.complete;
  begins = a.begins;
  shrinks = a.shrinks;
  settles = a.settles;
  moves = a.moves;
  recovers = λ granted. a.recovers tt;
  ends = λ granted e. a.ends tt e;
}

-- ---- outcomes

abbrev pub Both : {A B : Type 0} → Outcome A → (A → Parser B) → B → Input → Type 0
Both {A} o f y j = (x : A) × (m : Input) × (o ≡ read x m) × (f x m ≡ read y j)

pub both_ok : {A B : Type 0} (o : Outcome A) (f : A → Parser B) (y : B) (j : Input) → and_then o f ≡ read y j → Both o f y j
both_ok (Ok p) f y j h = (p.0, p.1, refl, h)
both_ok (Err e) f y j h = absurd (let n : ⊥ = cc in n)

pub read_is : {A : Type 0} (x y : A) (i j : Input) → read x i ≡ read y j → (x ≡ y) × (i ≡ j)
read_is {A} x y i j h = let e : ◌≡◌ {A = A × Input} (x, i) (y, j) = cc in (ap (λ p. p.0) e, ap (λ p. p.1) e)

-- ---- nothing, one after another, and values

pub law_pure : {P A : Type 0} (x : A) (g : Nexts) → LawWhere P true g g (pure x) (gives x)
law_pure x g = record {
  sound = λ i y j h. read_is x y i j h;
  complete = λ i y j h e. ap (λ z. read z i) h.0 ∙ ap (λ m. read y m) h.1;
  begins = λ i y j h e. ap (λ m. g (next_token m)) h.1 ∙ e;
  shrinks = λ i y j h. let e = ap (λ m. length m.rest) (read_is x y i j h).1 in omega arith;
  settles = settles_pure x;
  moves = moves_pure x;
  recovers = λ granted. recovers_pure x;
  ends = λ granted e. ends_pure x;
}

pub law_then : {P A B : Type 0} {b : Bool} {f g fq h : Nexts} {p : Parser A} {r : Rule A} {q : A → Parser B} {s : A → Rule B} → LawWhere P b f g p r →
    within fq g ≡ true → ((x : A) → LawWhere P true fq h (q x) (s x)) → LawWhere P b f h (p >>= q) (r >>=ʳ s)
law_then {g = g} {fq = fq} {p = p} {r = r} {q = q} {s = s} a w b = record {
  sound = λ i y j e.
      let o = both_ok (p i) q y j e in
      (o.0, o.1, a.sound i o.0 o.1 o.2, (b o.0).sound o.1 y j o.3);
  complete = λ i y j d e.
      let v = within_is fq g w (next_token d.1) ((b d.0).begins d.1 y j d.3 e) in
      ap (λ o. and_then o q) (a.complete i d.0 d.1 d.2 v) ∙ (b d.0).complete d.1 y j d.3 e;
  begins = λ i y j d e. a.begins i d.0 d.1 d.2 (within_is fq g w (next_token d.1) ((b d.0).begins d.1 y j d.3 e));
  shrinks = λ i y j e.
      let o = both_ok (p i) q y j e in
      let l = a.shrinks i o.0 o.1 o.2 in
      let n = (b o.0).shrinks o.1 y j o.3 in
      omega arith;
  settles = settles_then p q a.settles (λ x. (b x).settles);
  moves = moves_then r s a.moves (λ x. (b x).moves);
  recovers = λ granted. recovers_then p q r s a.sound a.moves (a.recovers granted) (λ x. (b x).settles) (λ x. (b x).ends granted refl) (λ x. (b x).recovers granted);
  ends = λ granted e. ends_then r s (a.ends granted e) (λ x. (b x).ends granted refl);
}

pub within_self : (g : Nexts) (n : Next) → g n ≡ true → g n ≡ true
within_self g n e = e

pub law_map : {P A B : Type 0} {c : Bool} {f g : Nexts} {p : Parser A} {r : Rule A} (b : A → B) → LawWhere P c f g p r → LawWhere P c f g (b <$> p) (b <$>ʳ r)
law_map {f = f} {g = g} {p = p} {r = r} b a = record {
  sound = λ i y j e.
      let o = both_ok (p i) (λ x. pure (b x)) y j e in
      (o.0, o.1, a.sound i o.0 o.1 o.2, read_is (b o.0) y o.1 j o.3);
  complete = λ i y j d e.
      let v = ap (λ m. g (next_token m)) d.3.1 ∙ e in
      ap (λ o. and_then o (λ x. pure (b x))) (a.complete i d.0 d.1 d.2 v) ∙ ap (λ z. read z d.1) d.3.0 ∙ ap (λ m. read y m) d.3.1;
  begins = λ i y j d e. a.begins i d.0 d.1 d.2 (ap (λ m. g (next_token m)) d.3.1 ∙ e);
  shrinks = λ i y j e.
      let o = both_ok (p i) (λ x. pure (b x)) y j e in
      let l = a.shrinks i o.0 o.1 o.2 in
      let n = ap (λ m. length m.rest) (read_is (b o.0) y o.1 j o.3).1 in
      omega arith;
  settles = settles_then p (λ x. pure (b x)) a.settles (λ x. settles_pure (b x));
  moves = moves_then r (λ x. gives (b x)) a.moves (λ x. moves_pure (b x));
  recovers =
      λ granted. recovers_then p (λ x. pure (b x)) r (λ x. gives (b x)) a.sound a.moves (a.recovers granted) (λ x. settles_pure (b x))
      (λ x. ends_pure (b x)) (λ x. recovers_pure (b x));
  ends = λ granted e. ends_then r (λ x. gives (b x)) (a.ends granted e) (λ x. ends_pure (b x));
}

-- where fewer tokens may follow, or more may come first
pub law_followed : {P A : Type 0} {b : Bool} {f g : Nexts} {p : Parser A} {r : Rule A} (h : Nexts) → within h g ≡ true → LawWhere P b f g p r → LawWhere P b f h p r
law_followed {g = g} h w a = record {
  sound = a.sound;
  complete = λ i x j d e. a.complete i x j d (within_is h g w (next_token j) e);
  begins = λ i x j d e. a.begins i x j d (within_is h g w (next_token j) e);
  shrinks = a.shrinks;
  settles = a.settles;
  moves = a.moves;
  recovers = a.recovers;
  ends = a.ends;
}

pub law_begun : {P A : Type 0} {b : Bool} {f g : Nexts} {p : Parser A} {r : Rule A} (h : Nexts) → within f h ≡ true → LawWhere P b f g p r → LawWhere P b h g p r
law_begun {f = f} h w a = record {
  sound = a.sound;
  complete = a.complete;
  begins = λ i x j d e. within_is f h w (next_token i) (a.begins i x j d e);
  shrinks = a.shrinks;
  settles = a.settles;
  moves = a.moves;
  recovers = a.recovers;
  ends = a.ends;
}

-- of a rule that allows the same
pub record Same {A : Type 0} (r s : Rule A) : Type 0 where
  pub to : (i : Input) (x : A) (j : Input) → r i x j → s i x j
  pub back : (i : Input) (x : A) (j : Input) → s i x j → r i x j

pub law_as : {P A : Type 0} {b : Bool} {f g : Nexts} {p : Parser A} {r s : Rule A} → Same r s → LawWhere P b f g p r → LawWhere P b f g p s
law_as {p = p} {r = r} {s = s} e a = record {
  sound = λ i x j h. e.to i x j (a.sound i x j h);
  complete = λ i x j d h. a.complete i x j (e.back i x j d) h;
  begins = λ i x j d h. a.begins i x j (e.back i x j d) h;
  shrinks = a.shrinks;
  settles = a.settles;
  moves = moves_as r s e.to e.back a.moves;
  recovers = λ granted. recovers_as p r s e.to (a.recovers granted);
  ends = λ granted h. ends_as r s e.to (a.ends granted h);
}

-- where it need not be finished
pub law_unfinished : {P A : Type 0} {b : Bool} {f g : Nexts} {p : Parser A} {r : Rule A} → LawWhere P b f g p r → LawWhere P false f g p r
law_unfinished a = record {
  sound = a.sound;
  complete = a.complete;
  begins = a.begins;
  shrinks = a.shrinks;
  settles = a.settles;
  moves = a.moves;
  recovers = a.recovers;
  ends = λ granted e. absurd (let n : ⊥ = cc in n);
}

-- where it can be finished after all
pub law_ends : {P A : Type 0} {b : Bool} {f g : Nexts} {p : Parser A} {r : Rule A} → (P → Ends r) → LawWhere P b f g p r → LawWhere P true f g p r
law_ends h a = record {
  sound = a.sound;
  complete = a.complete;
  begins = a.begins;
  shrinks = a.shrinks;
  settles = a.settles;
  moves = a.moves;
  recovers = a.recovers;
  ends = λ granted e. h granted;
}

-- ---- tokens

pub next_is : (k : TokenKind) (i : Input) (at : ℕ) (j : Input) → token k i at j → next_token i ≡ class_of k
unfolding next_token
next_is k i at j d = ap next_of d.0

input : ℕ → ℕ → List TokenKind → Input
input at declared rest = record { at = at; declared = declared; rest = rest }

behind_by : (at at' declared declared' : ℕ) (ks rest : List TokenKind) (k : TokenKind) → ks ≡ k ∷ rest → at' ≡ at + 1 → declared' ≡ declared →
    behind_of at declared ks ≡ input at' declared' rest
unfolding input
behind_by at at' declared declared' ks rest k e f g = ap (behind_of at declared) e ∙ ap (λ n. input n declared rest) (sym f) ∙ ap (λ n. input at' n rest) (sym g)

behind_is : (k : TokenKind) (i : Input) (at : ℕ) (j : Input) → token k i at j → behind i ≡ j
unfolding behind input
behind_is k i at j d = behind_by i.at j.at i.declared j.declared i.rest j.rest k d.0 d.2 d.3

class_rest : (at declared : ℕ) (ks : List TokenKind) (k : TokenKind) → ((m : TokenKind) → class_of m ≡ class_of k → m ≡ k) →
    (next.End ≡ class_of k → ⊥) → next_of ks ≡ class_of k → (ks ≡ k ∷ (behind_of at declared ks).rest) × ((behind_of at declared ks).at ≡ at + 1) ×
    ((behind_of at declared ks).declared ≡ declared)
class_rest at declared [] k only some e = absurd (some e)
class_rest at declared (m ∷ ks) k only some e = (ap (λ x. x ∷ ks) (only m e), refl, refl)

-- a kind that its class tells
pub record IsOnly (k : TokenKind) : Type 0 where
  pub only : (m : TokenKind) → class_of m ≡ class_of k → m ≡ k
  pub some : next.End ≡ class_of k → ⊥

pub word_only : (v : WordSymbol) → IsOnly (kind.Word v)
word_only v = record { only = λ m e. only_word v m e; some = λ e. let n : ⊥ = cc in n }

pub symbol_only : (v : Symbol) → IsOnly (kind.Symbol v)
symbol_only v = record { only = λ m e. only_symbol v m e; some = λ e. let n : ⊥ = cc in n }

takes : (k : TokenKind) → IsOnly k → (i : Input) (at : ℕ) (j : Input) → next_token i ≡ class_of k → read i.at (behind i) ≡ read at j → token k i at j
unfolding next_token behind
takes k o i at j e h =
    let w = read_is i.at at (behind i) j h in
    let c = class_rest i.at i.declared i.rest k o.only o.some e in
    (c.0 ∙ ap (λ m. k ∷ m.rest) w.1, w.0, sym (ap (λ m. m.at) w.1) ∙ c.1, sym (ap (λ m. m.declared) w.1) ∙ c.2)

pub token_falls : (k : TokenKind) (i : Input) (at : ℕ) (j : Input) → token k i at j → length j.rest < length i.rest
token_falls k i at j d = let e = ap (λ ks. length ks) d.0 in omega arith

picked : (b : Bool) (i : Input) (at : ℕ) (j : Input) → (if b then read i.at (behind i) else Err (wrong i)) ≡ read at j → (b ≡ true) × (read i.at (behind i) ≡ read at j)
picked true i at j h = (refl, h)
picked false i at j h = absurd (let n : ⊥ = cc in n)

end_by : (k : TokenKind) (b : Bool) → IsOnly k → is (class_of k) next.End ≡ b → b ≡ false
end_by k true o e = absurd (o.some (sym (is_same (class_of k) next.End e)))
end_by k false o e = refl

-- the end is no such token
pub not_end : (k : TokenKind) → IsOnly k → is (class_of k) next.End ≡ false
not_end k o = end_by k (is (class_of k) next.End) o refl

pub refused_first : (b : Bool) (i : Input) (e : Failure) → (if b then read i.at (behind i) else Err (wrong i)) ≡ stopped e → place e ≡ length i.rest
unfolding wrong left
refused_first true i e h = absurd (let n : ⊥ = cc in n)
refused_first false i e h = sym (ap place (failure_is {A = ℕ} (wrong i) e h))

pub expect_first : (k : TokenKind) (i : Input) (e : Failure) → expect (class_of k) i ≡ stopped e → place e ≡ length i.rest
unfolding expect
expect_first k i e h = refused_first (is (class_of k) (next_token i)) i e h

pub law_expect : {P : Type 0} → (k : TokenKind) → IsOnly k → LawWhere P (no_else k) (is (class_of k)) any (expect (class_of k)) (token k)
unfolding expect
law_expect k o = record {
  sound = λ i at j h.
      let w = picked (is (class_of k) (next_token i)) i at j h in
      takes k o i at j (sym (is_same (class_of k) (next_token i) w.0)) w.1;
  complete = λ i at j d e.
      ap (λ n. if is (class_of k) n then read i.at (behind i) else Err (wrong i)) (next_is k i at j d)
      ∙ ap (λ b. if b then read i.at (behind i) else Err (wrong i)) (is_itself (class_of k))
      ∙ ap (λ n. read n (behind i)) d.1 ∙ ap (λ m. read at m) (behind_is k i at j d);
  begins = λ i at j d e. ap (is (class_of k)) (next_is k i at j d) ∙ is_itself (class_of k);
  shrinks = λ i at j h.
      let w = picked (is (class_of k) (next_token i)) i at j h in
      let l = token_falls k i at j (takes k o i at j (sym (is_same (class_of k) (next_token i) w.0)) w.1) in
      omega arith;
  settles = settles_expect (class_of k) (not_end k o);
  moves = moves_token k;
  recovers = λ granted. recovers_first (expect (class_of k)) (token k) (λ i e h. refused_first (is (class_of k) (next_token i)) i e h);
  ends = λ granted h. ends_token k h;
}

pub law_word : {P : Type 0} → (v : WordSymbol) → LawWhere P (no_else (kind.Word v)) (is (next.Word v)) any (expect (next.Word v)) (rule.word v)
law_word v = law_expect (kind.Word v) (word_only v)

pub law_symbol : {P : Type 0} → (v : Symbol) → LawWhere P true (is (next.Symbol v)) any (expect (next.Symbol v)) (rule.symbol v)
law_symbol v = law_expect (kind.Symbol v) (symbol_only v)

pub law_here : {P : Type 0} → (g : Nexts) → LawWhere P true g g here rule.here
law_here g = record {
  sound = λ i at j h. read_is i.at at i j h;
  complete = λ i at j d e. ap (λ n. read n i) d.0 ∙ ap (λ m. read at m) d.1;
  begins = λ i at j d e. ap (λ m. g (next_token m)) d.1 ∙ e;
  shrinks = λ i at j h. let e = ap (λ m. length m.rest) (read_is i.at at i j h).1 in omega arith;
  settles = settles_here;
  moves = moves_here;
  recovers = λ granted i e h l. absurd (let n : ⊥ = cc in n);
  ends = λ granted e. ends_here;
}

-- what is never read
never_first : {A : Type 0} (i : Input) (e : Failure) → refuse {A = A} i ≡ stopped e → place e ≡ length i.rest
unfolding wrong left
never_first {A} i e h = sym (ap place (failure_is {A = A} (wrong i) e h))

pub law_never : {P A : Type 0} (f g : Nexts) → LawWhere P false f g (refuse {A = A}) rule.none
law_never {A} f g = record {
  sound = λ i x j h. absurd (let n : ⊥ = cc in n);
  complete = λ i x j d e. absurd d;
  begins = λ i x j d e. absurd d;
  shrinks = λ i x j h. absurd (let n : ⊥ = cc in n);
  settles = settles_wrong;
  moves = λ i x j d. absurd d;
  recovers = λ granted. recovers_first (refuse {A = A}) rule.none never_first;
  ends = λ granted e. absurd (let n : ⊥ = cc in n);
}
