-- What a parser makes of the same tokens under higher limits, or with fewer declarations before them: what it read, it
-- reads; what it found wrong, it finds wrong; and where a limit stopped it, it stops there again or gets past. One lemma
-- for each way in which parsers are put together; the productions follow.
use Rattle.std.proofs.Common.{◌≡◌, ℕ, zero, suc, ◌+◌, ◌<◌, ◌≤◌, Bool, true, false, List, [], ◌∷◌, length, Some, Ok, Err, refl, sym, ap, subst, arith}
use Rattle.std.proofs.lemmas.Bool.{lt-ltb}
use Rattle.std.specs.Prelude.{if◌then◌else◌, nat_lt, bytes_eq}
use Rattle.mp_ast.specs.declared.tokens.TokenKind.{TokenKind}
use Rattle.mp_ast.specs.declared.tokens.TokenKind.TheVariants as kind
use Rattle.mp_ast.specs.declared.symbols.Symbol.TheVariants as s
use Rattle.mp_ast.specs.Rules.{Input}
use Rattle.mp_cursor.specs.declared.failure.Failure.TheVariants.{Memory, Wrong, TooDeep, TooMany}
use Rattle.mp_cursor.specs.declared.next.Next.{Next}
use Rattle.mp_cursor.specs.declared.next.Next.TheVariants as next
use Rattle.mp_cursor.specs.Nexts.{next_of, is, any, Nexts}
use Rattle.mp_cursor.specs.Parsers.{Outcome, Parser, and_then, ◌>>=◌, ◌<$>◌, pure, refuse, next_token, behind, behind_of, left, wrong, too_deep}
use Rattle.mp_cursor.specs.Parsers.{branch, here, expect, opening, open_where, identifier, identifier_of, number, number_of, character_string}
use Rattle.mp_cursor.specs.Parsers.{string_of, directive, directive_of, with_own_ordinals, back_at, loop, repeated, series, repeated_series}
use Rattle.mp_cursor.specs.Parsers.{separated, optional}
use Rattle.mp_cursor.specs.Leaves.{identifiers, sign, signs, optional_sign, signed_constant, constant, constants}
use Rattle.mp_cursor.proofs.Settled.{place, stopped}
use Rattle.mp_cursor.proofs.RuleLaws.{read}

-- ---- outcomes

-- no further on than with so many tokens left, and with no fewer declarations
abbrev pub Inside : {A : Type 0} → ℕ → ℕ → Outcome A → Type 0
Inside n declared (Ok p) = (length p.1.rest ≤ n) × (declared ≤ p.1.declared)
Inside n declared (Err e) = place e ≤ n

-- further on than with so many tokens left, and with no fewer declarations
abbrev pub Past : {A : Type 0} → ℕ → ℕ → Outcome A → Type 0
Past n declared (Ok p) = (length p.1.rest < n) × (declared ≤ p.1.declared)
Past n declared (Err e) = place e < n

-- The first parser counts at most so many declarations. The counts of the two differ: the second's with `below` added is
-- the first's with `above` added.
pub record Counting : Type 0 where
  pub most : ℕ
  pub below : ℕ
  pub above : ℕ

-- what the first counted and what the second did
abbrev pub Counted : Counting → ℕ → ℕ → Type 0
Counted count declared other = other + count.below ≡ declared + count.above

-- so many declarations are no more than most, where a higher limit is to be passed
abbrev pub Few : Type 0 → Type 0 → Counting → ℕ → Type 0
Few Higher More count declared = (Higher → declared ≤ count.most) × (More → declared ≤ count.most)

pub few_is : {Higher More : Type 0} (count : Counting) (n m : ℕ) → m ≡ n → Few Higher More count n → Few Higher More count m
few_is count n m e f = (λ h. let l = f.0 h in omega arith, λ h. let l = f.1 h in omega arith)

-- What a limit on depth stopped stops at the same token where the limits on openers and blocks are the same, and gets
-- past it where all limits are higher. What the limit on declarations stopped gets past where that one is higher, and has
-- counted more. For want of memory no parser stops.
module _ (Same Higher More : Type 0) (count : Counting) where
  abbrev pub Raised : {A : Type 0} → Outcome A → Outcome A → Type 0
  Raised (Ok p) o = (other : ℕ) × Counted count p.1.declared other × Few Higher More count p.1.declared × (o ≡ Ok (p.0, record p.1 { declared = other }))
  Raised (Err Memory) o = ⊥
  Raised (Err (Wrong n)) o = o ≡ stopped (Wrong n)
  Raised (Err (TooDeep n)) o = (Same → o ≡ stopped (TooDeep n)) × (Higher → Past n 0 o)
  Raised (Err (TooMany n)) o = More → (other : ℕ) × (count.most + count.above < other + count.below) × Past n other o

  -- two parsers of the same, before such a token; how they are related is only promised where `Granted` is
  pub record RaisesBefore {A : Type 0} (Granted : Type 0) (first : Nexts) (p q : Parser A) : Type 0 where
    pub inside : (i : Input) → Inside (length i.rest) i.declared (q i)
    pub raised : Granted → (i : Input) (other : ℕ) → first (next_token i) ≡ true → Counted count i.declared other → Few Higher More count i.declared →
        Raised (p i) (q (record i { declared = other }))

  abbrev pub Raises : {A : Type 0} → Type 0 → Parser A → Parser A → Type 0
  Raises Granted p q = RaisesBefore Granted any p q

-- a limit and a higher one
pub record Limit (Same Higher : Type 0) (low high : ℕ) : Type 0 where
  pub no_lower : low ≤ high
  pub same : Same → low ≡ high
  pub higher : Higher → low < high

pub inside_more : {A : Type 0} (n m declared low : ℕ) (o : Outcome A) → n ≤ m → low ≤ declared → Inside n declared o → Inside m low o
inside_more n m declared low (Ok p) l k h = let u = h.0 in let v = h.1 in (omega (arith, l, u), omega (arith, k, v))
inside_more n m declared low (Err e) l k h = omega (arith, l, h)

pub past_inside : {A : Type 0} (n m declared low : ℕ) (o : Outcome A) → n < m → low ≤ declared → Inside n declared o → Past m low o
past_inside n m declared low (Ok p) l k h = let u = h.0 in let v = h.1 in (omega (arith, l, u), omega (arith, k, v))
past_inside n m declared low (Err e) l k h = omega (arith, l, h)

pub past_more : {A : Type 0} (n declared low : ℕ) (o : Outcome A) → low ≤ declared → Past n declared o → Past n low o
past_more n declared low (Ok p) k h = let v = h.1 in (h.0, omega (arith, k, v))
past_more n declared low (Err e) k h = h

-- ---- parsers that count no declaration and are stopped by no limit

-- the outcomes with so many declarations before, and with so many others
abbrev Plain : {A : Type 0} → ℕ → ℕ → ℕ → Outcome A → Outcome A → Type 0
Plain n declared other (Ok p) o = (length p.1.rest ≤ n) × (p.1.declared ≡ declared) × (o ≡ Ok (p.0, record p.1 { declared = other }))
Plain n declared other (Err Memory) o = ⊥
Plain n declared other (Err (Wrong m)) o = (m ≤ n) × (o ≡ stopped (Wrong m))
Plain n declared other (Err (TooDeep m)) o = ⊥
Plain n declared other (Err (TooMany m)) o = ⊥

plain_inside : {A : Type 0} (n declared other : ℕ) (o u : Outcome A) → Plain n declared other o u → Inside n declared o
plain_inside n declared other (Ok p) u h = let e = h.1 in (h.0, omega arith)
plain_inside n declared other (Err Memory) u h = absurd h
plain_inside n declared other (Err (Wrong m)) u h = h.0
plain_inside n declared other (Err (TooDeep m)) u h = absurd h
plain_inside n declared other (Err (TooMany m)) u h = absurd h

module _ (Same Higher More : Type 0) (count : Counting) where
  plain_raised : {A : Type 0} (n declared other : ℕ) (o u : Outcome A) → Counted count declared other → Few Higher More count declared →
      Plain n declared other o u → Raised Same Higher More count o u
  plain_raised n declared other (Ok p) u s l h = let e = h.1 in (other, omega (arith, s, e), few_is count declared p.1.declared e l, h.2)
  plain_raised n declared other (Err Memory) u s l h = absurd h
  plain_raised n declared other (Err (Wrong m)) u s l h = h.1
  plain_raised n declared other (Err (TooDeep m)) u s l h = absurd h
  plain_raised n declared other (Err (TooMany m)) u s l h = absurd h

module _ {Same Higher More : Type 0} {count : Counting} where
  raised_plain : {A : Type 0} {G : Type 0} {f : Nexts} (p : Parser A) → ((i : Input) (other : ℕ) →
      Plain (length i.rest) i.declared other (p i) (p (record i { declared = other }))) → RaisesBefore Same Higher More count G f p p
  raised_plain p a = record {
    inside = λ i. plain_inside (length i.rest) i.declared i.declared (p i) (p (record i { declared = i.declared })) (a i i.declared);
    raised = λ g i other e s l. plain_raised Same Higher More count (length i.rest) i.declared other (p i) (p (record i { declared = other })) s l (a i other);
  }

  pub raised_pure : {A : Type 0} {G : Type 0} {f : Nexts} {x : A} → RaisesBefore Same Higher More count G f (pure x) (pure x)
  raised_pure {x = x} = raised_plain (pure x) (λ i other. (omega arith, refl, refl))

  pub raised_refuse : {A : Type 0} {G : Type 0} {f : Nexts} → RaisesBefore Same Higher More count G f (refuse {A = A}) refuse
  unfolding wrong left
  raised_refuse {A} = raised_plain (refuse {A = A}) (λ i other. (omega arith, refl))

  pub raised_here : {G : Type 0} {f : Nexts} → RaisesBefore Same Higher More count G f here here
  raised_here = raised_plain here (λ i other. (omega arith, refl, refl))

behind_plain : (at declared : ℕ) (ks : List TokenKind) → (length (behind_of at declared ks).rest ≤ length ks) × ((behind_of at declared ks).declared ≡ declared)
behind_plain at declared [] = (omega arith, refl)
behind_plain at declared (k ∷ ks) = (omega arith, refl)

behind_other : (at declared other : ℕ) (ks : List TokenKind) → behind_of at other ks ≡ record (behind_of at declared ks) { declared = other }
behind_other at declared other [] = refl
behind_other at declared other (k ∷ ks) = refl

expect_plain : (b : Bool) (i : Input) (other : ℕ) → Plain (length i.rest) i.declared other (if b then read i.at (behind i) else Err (wrong i))
    (if b then read i.at (behind (record i { declared = other })) else Err (wrong (record i { declared = other })))
unfolding behind wrong left
expect_plain true i other = let w = behind_plain i.at i.declared i.rest in (w.0, w.1, ap (λ m. read i.at m) (behind_other i.at i.declared other i.rest))
expect_plain false i other = (omega arith, refl)

identifier_plain : (at declared other : ℕ) (ks : List TokenKind) → Plain (length ks) declared other (identifier_of at declared ks) (identifier_of at other ks)
identifier_plain at declared other [] = (omega arith, refl)
identifier_plain at declared other (kind.Id v ∷ ks) = (omega arith, refl, refl)
identifier_plain at declared other (kind.Number v ∷ ks) = (omega arith, refl)
identifier_plain at declared other (kind.Text v ∷ ks) = (omega arith, refl)
identifier_plain at declared other (kind.Word v ∷ ks) = (omega arith, refl)
identifier_plain at declared other (kind.Symbol v ∷ ks) = (omega arith, refl)

number_plain : (at declared other : ℕ) (ks : List TokenKind) → Plain (length ks) declared other (number_of at declared ks) (number_of at other ks)
number_plain at declared other [] = (omega arith, refl)
number_plain at declared other (kind.Id v ∷ ks) = (omega arith, refl)
number_plain at declared other (kind.Number v ∷ ks) = (omega arith, refl, refl)
number_plain at declared other (kind.Text v ∷ ks) = (omega arith, refl)
number_plain at declared other (kind.Word v ∷ ks) = (omega arith, refl)
number_plain at declared other (kind.Symbol v ∷ ks) = (omega arith, refl)

string_plain : (at declared other : ℕ) (ks : List TokenKind) → Plain (length ks) declared other (string_of at declared ks) (string_of at other ks)
string_plain at declared other [] = (omega arith, refl)
string_plain at declared other (kind.Id v ∷ ks) = (omega arith, refl)
string_plain at declared other (kind.Number v ∷ ks) = (omega arith, refl)
string_plain at declared other (kind.Text v ∷ ks) = (omega arith, refl, refl)
string_plain at declared other (kind.Word v ∷ ks) = (omega arith, refl)
string_plain at declared other (kind.Symbol v ∷ ks) = (omega arith, refl)

abbrev spelled_at : ℕ → ℕ → TokenKind → List TokenKind → Bool → Outcome ℕ
spelled_at at declared k ks b = if b then Ok (at, record { at = at + 1; declared = declared; rest = ks }) else Err (Wrong (length (k ∷ ks)))

spelled_plain : (at declared other : ℕ) (k : TokenKind) (ks : List TokenKind) (b : Bool) → Plain (length (k ∷ ks)) declared other
    (spelled_at at declared k ks b) (spelled_at at other k ks b)
spelled_plain at declared other k ks true = (omega arith, refl, refl)
spelled_plain at declared other k ks false = (omega arith, refl)

directive_plain : (spelling : List ℕ) (at declared other : ℕ) (ks : List TokenKind) → Plain (length ks) declared other
    (directive_of spelling at declared ks) (directive_of spelling at other ks)
directive_plain spelling at declared other [] = (omega arith, refl)
directive_plain spelling at declared other (kind.Id v ∷ ks) = spelled_plain at declared other (kind.Id v) ks (bytes_eq v spelling)
directive_plain spelling at declared other (kind.Number v ∷ ks) = (omega arith, refl)
directive_plain spelling at declared other (kind.Text v ∷ ks) = (omega arith, refl)
directive_plain spelling at declared other (kind.Word v ∷ ks) = (omega arith, refl)
directive_plain spelling at declared other (kind.Symbol v ∷ ks) = (omega arith, refl)

expected : (n : Next) (i : Input) (other : ℕ) → Plain (length i.rest) i.declared other (expect n i) (expect n (record i { declared = other }))
unfolding expect next_token
expected n i other = expect_plain (is n (next_token i)) i other

identified : (i : Input) (other : ℕ) → Plain (length i.rest) i.declared other (identifier i) (identifier (record i { declared = other }))
unfolding identifier
identified i other = identifier_plain i.at i.declared other i.rest

numbered : (i : Input) (other : ℕ) → Plain (length i.rest) i.declared other (number i) (number (record i { declared = other }))
unfolding number
numbered i other = number_plain i.at i.declared other i.rest

stringed : (i : Input) (other : ℕ) → Plain (length i.rest) i.declared other (character_string i) (character_string (record i { declared = other }))
unfolding character_string
stringed i other = string_plain i.at i.declared other i.rest

directed : (spelling : List ℕ) (i : Input) (other : ℕ) → Plain (length i.rest) i.declared other (directive spelling i) (directive spelling (record i { declared = other }))
unfolding directive
directed spelling i other = directive_plain spelling i.at i.declared other i.rest

chosen_inside : {A : Type 0} (n declared : ℕ) (b : Bool) (o u : Outcome A) → Inside n declared o → Inside n declared u → Inside n declared (if b then o else u)
chosen_inside n declared true o u h g = h
chosen_inside n declared false o u h g = g

chosen_raised : (Same Higher More : Type 0) (count : Counting) {A : Type 0} (b : Bool) (o u o' u' : Outcome A) →
    (b ≡ true → Raised Same Higher More count o o') → Raised Same Higher More count u u' → Raised Same Higher More count (if b then o else u) (if b then o' else u')
chosen_raised Same Higher More count true o u o' u' h g = h refl
chosen_raised Same Higher More count false o u o' u' h g = g

module _ {Same Higher More : Type 0} {count : Counting} {G : Type 0} where
  module _ {f : Nexts} where
    pub raised_expect : (n : Next) → RaisesBefore Same Higher More count G f (expect n) (expect n)
    raised_expect n = raised_plain (expect n) (expected n)

    pub raised_identifier : RaisesBefore Same Higher More count G f identifier identifier
    raised_identifier = raised_plain identifier identified

    pub raised_number : RaisesBefore Same Higher More count G f number number
    raised_number = raised_plain number numbered

    pub raised_string : RaisesBefore Same Higher More count G f character_string character_string
    raised_string = raised_plain character_string stringed

    pub raised_directive : (spelling : List ℕ) → RaisesBefore Same Higher More count G f (directive spelling) (directive spelling)
    raised_directive spelling = raised_plain (directive spelling) (directed spelling)

  -- ---- one after another

  module _ {A B : Type 0} {q q' : A → Parser B} (b : (x : A) → Raises Same Higher More count G (q x) (q' x)) where
    inside_then : (n declared : ℕ) (o : Outcome A) → Inside n declared o → Inside n declared (and_then o q')
    inside_then n declared (Ok x) h = inside_more (length x.1.rest) n x.1.declared declared (q' x.0 x.1) h.0 h.1 ((b x.0).inside x.1)
    inside_then n declared (Err e) h = h

    pub past_then : (n declared : ℕ) (o : Outcome A) → Past n declared o → Past n declared (and_then o q')
    past_then n declared (Ok x) h = past_inside (length x.1.rest) n x.1.declared declared (q' x.0 x.1) h.0 h.1 ((b x.0).inside x.1)
    past_then n declared (Err e) h = h

    raised_first : G → (o o' : Outcome A) → Raised Same Higher More count o o' → Raised Same Higher More count (and_then o q) (and_then o' q')
    raised_first g (Ok x) o' h = subst (λ u. Raised Same Higher More count (q x.0 x.1) (and_then u q')) (sym h.3) ((b x.0).raised g x.1 h.0 refl h.1 h.2)
    raised_first g (Err Memory) o' h = absurd h
    raised_first g (Err (Wrong n)) o' h = ap (λ u. and_then u q') h
    raised_first g (Err (TooDeep n)) o' h = (λ s. ap (λ u. and_then u q') (h.0 s), λ t. past_then n 0 o' (h.1 t))
    raised_first g (Err (TooMany n)) o' h = λ m. let w = h m in (w.0, w.1, past_then n w.0 o' w.2)

  pub raised_then : {A B : Type 0} {f : Nexts} {p p' : Parser A} {q q' : A → Parser B} → RaisesBefore Same Higher More count G f p p' →
      ((x : A) → Raises Same Higher More count G (q x) (q' x)) → RaisesBefore Same Higher More count G f (p >>= q) (p' >>= q')
  raised_then {p = p} {p' = p'} a b = record {
    inside = λ i. inside_then b (length i.rest) i.declared (p' i) (a.inside i);
    raised = λ g i other e s l. raised_first b g (p i) (p' (record i { declared = other })) (a.raised g i other e s l);
  }

  pub raised_map : {A B : Type 0} {f : Nexts} {p p' : Parser A} (c : A → B) → RaisesBefore Same Higher More count G f p p' →
      RaisesBefore Same Higher More count G f (c <$> p) (c <$> p')
  raised_map c a = raised_then a (λ x. raised_pure)

  -- ---- choices

  -- the first one is taken before such a token alone
  pub raised_where : {A : Type 0} (f : Nexts) {g : Nexts} {p p' q q' : Parser A} → RaisesBefore Same Higher More count G f p p' →
      RaisesBefore Same Higher More count G g q q' → RaisesBefore Same Higher More count G g (branch f p q) (branch f p' q')
  unfolding next_token
  raised_where f {p = p} {p' = p'} {q = q} {q' = q'} a c = record {
    inside = λ i. chosen_inside (length i.rest) i.declared (f (next_token i)) (p' i) (q' i) (a.inside i) (c.inside i);
    raised = λ g i other e s l.
        chosen_raised Same Higher More count (f (next_token i)) (p i) (q i) (p' (record i { declared = other })) (q' (record i { declared = other }))
        (λ b. a.raised g i other b s l) (c.raised g i other e s l);
  }

  pub raised_before : {A : Type 0} {f : Nexts} {p p' : Parser A} → Raises Same Higher More count G p p' → RaisesBefore Same Higher More count G f p p'
  raised_before a = record { inside = a.inside; raised = λ g i other e s l. a.raised g i other refl s l }

  pub raised_branch : {A : Type 0} (f : Nexts) {g : Nexts} {p p' q q' : Parser A} → Raises Same Higher More count G p p' →
      RaisesBefore Same Higher More count G g q q' → RaisesBefore Same Higher More count G g (branch f p q) (branch f p' q')
  raised_branch f a c = raised_where f (raised_before a) c

  pub raised_optional : {A : Type 0} (f : Nexts) {g : Nexts} {p p' : Parser A} → Raises Same Higher More count G p p' →
      RaisesBefore Same Higher More count G g (optional f p) (optional f p')
  raised_optional f a = raised_branch f (raised_map Some a) raised_pure

  -- ---- lists

  module _ {A : Type 0} (f : Nexts) {turn turn' : A → Parser A} (a : (x : A) → RaisesBefore Same Higher More count G f (turn x) (turn' x)) where
    raised_loop : (n : ℕ) (found : A) → Raises Same Higher More count G (loop f turn n found) (loop f turn' n found)
    unfolding loop
    raised_loop zero found = raised_pure
    raised_loop (suc n) found = raised_where f (raised_then (a found) (λ x. raised_loop n x)) raised_pure

    raised_repeated_by : (found : A) → Raises Same Higher More count G (repeated f turn found) (repeated f turn' found)
    unfolding repeated left
    raised_repeated_by found = record {
      inside = λ i. (raised_loop (left i) found).inside i;
      raised = λ g i other e s l. (raised_loop (left i) found).raised g i other e s l;
    }

  pub raised_repeated_where : {A : Type 0} (f : Nexts) {turn turn' : A → Parser A} (found : A) →
      ((x : A) → RaisesBefore Same Higher More count G f (turn x) (turn' x)) → Raises Same Higher More count G (repeated f turn found) (repeated f turn' found)
  raised_repeated_where f found a = raised_repeated_by f a found

  pub raised_repeated : {A : Type 0} (f : Nexts) {turn turn' : A → Parser A} (found : A) → ((x : A) →
      Raises Same Higher More count G (turn x) (turn' x)) → Raises Same Higher More count G (repeated f turn found) (repeated f turn' found)
  raised_repeated f found a = raised_repeated_by f (λ x. raised_before (a x)) found

  module _ {A : Type 0} (separator : Next) (f : Nexts) {turn turn' : A → Parser A} (a : (x : A) → Raises Same Higher More count G (turn x) (turn' x)) where
    raised_series_by : (n : ℕ) (found : A) → Raises Same Higher More count G (series separator f turn n found) (series separator f turn' n found)
    unfolding series
    raised_series_by zero found = raised_pure
    raised_series_by (suc n) found =
        raised_branch (is separator) (raised_then (raised_expect _) (λ at. raised_branch f (raised_then (a found) (λ x. raised_series_by n x)) raised_pure)) raised_pure

    raised_series_from : (found : A) → Raises Same Higher More count G (repeated_series separator f turn found) (repeated_series separator f turn' found)
    unfolding repeated_series left
    raised_series_from found = record {
      inside = λ i. (raised_series_by (left i) found).inside i;
      raised = λ g i other e s l. (raised_series_by (left i) found).raised g i other e s l;
    }

  pub raised_series : {A : Type 0} (separator : Next) (f : Nexts) {turn turn' : A → Parser A} (found : A) →
      ((x : A) → Raises Same Higher More count G (turn x) (turn' x)) → Raises Same Higher More count G (repeated_series separator f turn found)
      (repeated_series separator f turn' found)
  raised_series separator f found a = raised_series_from separator f a found

  pub raised_separated : {A : Type 0} (separator : Next) {p p' : Parser A} → Raises Same Higher More count G p p' →
      Raises Same Higher More count G (separated separator p) (separated separator p')
  raised_separated separator a = raised_then a (λ x. raised_repeated _ _ (λ xs. raised_map _ (raised_then (raised_expect separator) (λ at. a))))

  -- ---- names, signs and constants

  pub raised_identifiers : Raises Same Higher More count G identifiers identifiers
  raised_identifiers = raised_separated (next.Symbol s.Comma) raised_identifier

  raised_sign : Raises Same Higher More count G sign sign
  unfolding sign
  raised_sign = raised_branch (is (next.Symbol s.Plus)) (raised_then (raised_expect _) (λ at. raised_pure)) (raised_then (raised_expect _) (λ at. raised_pure))

  pub raised_optional_sign : Raises Same Higher More count G optional_sign optional_sign
  unfolding optional_sign
  raised_optional_sign = raised_optional signs raised_sign

  pub raised_constant : Raises Same Higher More count G constant constant
  unfolding constant signed_constant
  raised_constant =
      raised_branch (is next.Text) (raised_map _ raised_string)
      (raised_then raised_optional_sign (λ s. raised_branch (is next.Number) (raised_map _ raised_number) (raised_map _ raised_identifier)))

  pub raised_constants : Raises Same Higher More count G constants constants
  raised_constants = raised_separated (next.Symbol s.Comma) raised_constant

-- where more is granted
pub raised_granted : {Same Higher More : Type 0} {count : Counting} {G H : Type 0} {A : Type 0} {f : Nexts} {p p' : Parser A} → (H → G) →
    RaisesBefore Same Higher More count G f p p' → RaisesBefore Same Higher More count H f p p'
raised_granted w a = record { inside = a.inside; raised = λ h i other e s l. a.raised (w h) i other e s l }

-- where nothing is promised
pub raised_never : {Same Higher More : Type 0} {count : Counting} {G H : Type 0} {A : Type 0} {f g : Nexts} {p q p' : Parser A} → (H → ⊥) →
    RaisesBefore Same Higher More count G f q p' → RaisesBefore Same Higher More count H g p p'
raised_never n a = record { inside = a.inside; raised = λ h i other e s l. absurd (n h) }

pub raised_refused : {Same Higher More : Type 0} {count : Counting} {H : Type 0} {A : Type 0} {g : Nexts} {p : Parser A} → (H → ⊥) →
    RaisesBefore Same Higher More count H g p refuse
raised_refused n = raised_never {G = Unit {0}} {f = any} n raised_refuse

-- ---- openers

-- both limits leave room for one opener more
pub record Behind (Same Higher : Type 0) (room high : ℕ) : Type 0 where
  pub room_less : ℕ
  pub high_less : ℕ
  pub room_is : room ≡ suc room_less
  pub high_is : high ≡ suc high_less
  pub limit : Limit Same Higher room_less high_less

pub limit_less : {Same Higher : Type 0} (room high : ℕ) → Limit Same Higher (suc room) (suc high) → Limit Same Higher room high
limit_less room high l = record {
  no_lower = let n = l.no_lower in omega arith;
  same = λ s. let e = l.same s in omega arith;
  higher = λ h. let e = l.higher h in omega arith;
}

pub less : {Same Higher : Type 0} (room high : ℕ) → Behind Same Higher (suc room) (suc high) → Limit Same Higher room high
less {Same} {Higher} room high b =
    subst (λ n. Limit Same Higher n high) (let e = b.room_is in omega arith) (subst (λ n. Limit Same Higher b.room_less n) (let e = b.high_is in omega arith) b.limit)

pub no_room : {Same Higher : Type 0} (high : ℕ) → Behind Same Higher zero high → ⊥
no_room high b = let e = b.room_is in omega arith

pub not_higher : {Same Higher : Type 0} (room : ℕ) → Behind Same Higher room zero → ⊥
not_higher room b = let e = b.high_is in omega arith

behind_past : (at declared : ℕ) (n : Next) (ks : List TokenKind) → is n next.End ≡ false → is n (next_of ks) ≡ true → length (behind_of at declared ks).rest < length ks
behind_past at declared n [] e h = absurd (let m : ⊥ = cc in m)
behind_past at declared n (k ∷ ks) e h = omega arith

opened : (high : ℕ) (i : Input) → open_where (nat_lt 0 (suc high)) i ≡ read i.at (behind i)
opened high i = ap (λ b. open_where b i) (lt-ltb 0 (suc high) (omega arith))

open_inside : {B : Type 0} (q : ℕ → Parser B) (high : ℕ) → ((at : ℕ) (i : Input) → Inside (length i.rest) i.declared (q at i)) →
    (i : Input) (b : Bool) → Inside (length i.rest) i.declared (and_then (if b then open_where (nat_lt 0 high) i else Err (wrong i)) q)
unfolding behind too_deep wrong left
open_inside q high a i false = omega arith
open_inside q zero a i true = omega arith
open_inside q (suc high) a i true =
    let w = behind_plain i.at i.declared i.rest in
    subst (λ o. Inside (length i.rest) i.declared (and_then o q)) (sym (opened high i))
    (inside_more (length (behind i).rest) (length i.rest) (behind i).declared i.declared (q i.at (behind i)) w.0 (let e = w.1 in omega arith) (a i.at (behind i)))

-- where the second has room for an opener alone
behind_opened : {B : Type 0} (q : ℕ → Parser B) (n : Next) (end : is n next.End ≡ false) (high : ℕ) →
    ((at : ℕ) (i : Input) → Inside (length i.rest) i.declared (q at i)) → (i : Input) → is n (next_token i) ≡ true →
    Past (length i.rest) 0 (and_then (open_where (nat_lt 0 (suc high)) i) q)
unfolding behind next_token
behind_opened q n end high a i e =
    subst (λ o. Past (length i.rest) 0 (and_then o q)) (sym (opened high i))
    (past_inside (length (behind i).rest) (length i.rest) (behind i).declared 0 (q i.at (behind i)) (behind_past i.at i.declared n i.rest end e) (omega arith) (a i.at (behind i)))

module _ (Same Higher More : Type 0) (count : Counting) {B : Type 0} (q q' : ℕ → Parser B) (n : Next) (end : is n next.End ≡ false) where
  behind_raised : (room high : ℕ) → Limit Same Higher (suc room) (suc high) → ((at : ℕ) → Raises Same Higher More count
      (Behind Same Higher (suc room) (suc high)) (q at) (q' at)) → (i : Input) (other : ℕ) → Counted count i.declared other → Few Higher More count i.declared
      → Raised Same Higher More count (q i.at (behind i)) (q' i.at (behind (record i { declared = other })))
  unfolding behind
  behind_raised room high l a i other s few =
      let w = (behind_plain i.at i.declared i.rest).1 in
      subst (λ m. Raised Same Higher More count (q i.at (behind i)) (q' i.at m)) (sym (behind_other i.at i.declared other i.rest))
      ((a i.at).raised (record { room_less = room; high_less = high; room_is = refl; high_is = refl; limit = limit_less room high l })
      (behind i) other refl (omega (arith, s, w)) (few_is count i.declared (behind i).declared w few))

  open_raised : (room high : ℕ) → Limit Same Higher room high → ((at : ℕ) → Raises Same Higher More count (Behind Same Higher room high) (q at)
      (q' at)) → (i : Input) (other : ℕ) → Counted count i.declared other → Few Higher More count i.declared → (b : Bool) → is n (next_token i) ≡ b
      → Raised Same Higher More count (and_then (if b then open_where (nat_lt 0 room) i else Err (wrong i)) q)
      (and_then (if b then open_where (nat_lt 0 high) (record i { declared = other }) else Err (wrong (record i { declared = other }))) q')
  unfolding too_deep wrong left next_token
  open_raised room high l a i other s few false e = refl
  open_raised zero zero l a i other s few true e = (λ s. refl, λ h. absurd (let n = l.higher h in let z : ⊥ = omega arith in z))
  open_raised zero (suc high) l a i other s few true e = (
    λ s. absurd (let n = l.same s in let z : ⊥ = omega arith in z),
    λ h. behind_opened q' n end high (λ at. (a at).inside) (record i { declared = other }) e,
  )
  open_raised (suc room) zero l a i other s few true e = absurd (let n = l.no_lower in let z : ⊥ = omega arith in z)
  open_raised (suc room) (suc high) l a i other s few true e =
      subst (λ o. Raised Same Higher More count (and_then o q) (and_then (open_where (nat_lt 0 (suc high)) (record i { declared = other })) q')) (sym (opened room i))
      (subst (λ o. Raised Same Higher More count (q i.at (behind i)) (and_then o q')) (sym (opened high (record i { declared = other })))
      (behind_raised room high l a i other s few))

  opening_raises : (f : Nexts) (room high : ℕ) → ((at : ℕ) → Raises Same Higher More count (Behind Same Higher room high) (q at) (q' at)) →
      RaisesBefore Same Higher More count (Limit Same Higher room high) f (opening room n >>= q) (opening high n >>= q')
  unfolding opening next_token
  opening_raises f room high a = record {
    inside = λ i. open_inside q' high (λ at. (a at).inside) i (is n (next_token i));
    raised = λ l i other e s few. open_raised room high l a i other s few (is n (next_token i)) refl;
  }

-- an opener and what stands behind it
pub raised_opened : {Same Higher More : Type 0} {count : Counting} {B : Type 0} {q q' : ℕ → Parser B} {f : Nexts} (n : Next) → is n next.End ≡ false →
    (room high : ℕ) → ((at : ℕ) → Raises Same Higher More count (Behind Same Higher room high) (q at) (q' at)) →
    RaisesBefore Same Higher More count (Limit Same Higher room high) f (opening room n >>= q) (opening high n >>= q')
raised_opened {Same = Same} {Higher = Higher} {More = More} {count = count} {q = q} {q' = q'} {f = f} n end room high a =
    opening_raises Same Higher More count q q' n end f room high a

-- ---- ordinals of their own

back_inside : {A : Type 0} (at n declared : ℕ) (o : Outcome A) → Inside n declared o → Inside n declared (back_at at o)
back_inside at n declared (Ok x) h = h
back_inside at n declared (Err e) h = h

back_past : {A : Type 0} (at n declared : ℕ) (o : Outcome A) → Past n declared o → Past n declared (back_at at o)
back_past at n declared (Ok x) h = h
back_past at n declared (Err e) h = h

back_raised : (Same Higher More : Type 0) (count : Counting) {A : Type 0} (at : ℕ) (o o' : Outcome A) → Raised Same Higher More count o o' →
    Raised Same Higher More count (back_at at o) (back_at at o')
back_raised Same Higher More count at (Ok x) o' h = (h.0, h.1, h.2, ap (back_at at) h.3)
back_raised Same Higher More count at (Err Memory) o' h = absurd h
back_raised Same Higher More count at (Err (Wrong n)) o' h = ap (back_at at) h
back_raised Same Higher More count at (Err (TooDeep n)) o' h = (λ s. ap (back_at at) (h.0 s), λ t. back_past at n 0 o' (h.1 t))
back_raised Same Higher More count at (Err (TooMany n)) o' h = λ m. let w = h m in (w.0, w.1, back_past at n w.0 o' w.2)

own_raises : (Same Higher More : Type 0) (count : Counting) {A : Type 0} (G : Type 0) (p p' : Parser A) → Raises Same Higher More count G p p' →
    Raises Same Higher More count G (with_own_ordinals p) (with_own_ordinals p')
unfolding with_own_ordinals next_token
own_raises Same Higher More count G p p' a = record {
  inside = λ i. back_inside i.at (length i.rest) i.declared (p' (record i { at = 0 })) (a.inside (record i { at = 0 }));
  raised =
      λ g i other e s l. back_raised Same Higher More count i.at (p (record i { at = 0 })) (p' (record i { at = 0; declared = other }))
      (a.raised g (record i { at = 0 }) other refl s l);
}

pub raised_own : {Same Higher More : Type 0} {count : Counting} {A : Type 0} {G : Type 0} {p p' : Parser A} → Raises Same Higher More count G p p' →
    Raises Same Higher More count G (with_own_ordinals p) (with_own_ordinals p')
raised_own {Same = Same} {Higher = Higher} {More = More} {count = count} {G = G} {p = p} {p' = p'} a = own_raises Same Higher More count G p p' a

-- ---- declarations

-- parsers of which the second takes the first token, where it is such a one
pub record Begun (Same Higher More : Type 0) (count : Counting) {A : Type 0} (G : Type 0) (first : Nexts) (p q : Parser A) : Type 0 where
  pub raises : Raises Same Higher More count G p q
  pub takes : (i : Input) → first (next_token i) ≡ true → Past (length i.rest) i.declared (q i)

begins_by : {B : Type 0} (q : ℕ → Parser B) (n : Next) → is n next.End ≡ false → ((at : ℕ) (i : Input) → Inside (length i.rest) i.declared (q at i)) →
    (i : Input) (b : Bool) → is n (next_token i) ≡ b → b ≡ true → Past (length i.rest) i.declared (and_then (if b then read i.at (behind i) else Err (wrong i)) q)
unfolding next_token behind
begins_by q n end a i true e h =
    past_inside (length (behind i).rest) (length i.rest) (behind i).declared i.declared (q i.at (behind i))
    (behind_past i.at i.declared n i.rest end e) (let w = (behind_plain i.at i.declared i.rest).1 in omega arith) (a i.at (behind i))
begins_by q n end a i false e h = absurd (let m : ⊥ = cc in m)

begins : {B : Type 0} (q : ℕ → Parser B) (n : Next) → is n next.End ≡ false → ((at : ℕ) (i : Input) → Inside (length i.rest) i.declared (q at i)) →
    (i : Input) → is n (next_token i) ≡ true → Past (length i.rest) i.declared ((expect n >>= q) i)
unfolding expect
begins q n end a i e = begins_by q n end a i (is n (next_token i)) refl e

module _ {Same Higher More : Type 0} {count : Counting} {G : Type 0} where
  pub begun_expect : {B : Type 0} {q q' : ℕ → Parser B} (n : Next) → is n next.End ≡ false →
      ((at : ℕ) → Raises Same Higher More count G (q at) (q' at)) → Begun Same Higher More count G (is n) (expect n >>= q) (expect n >>= q')
  begun_expect {q' = q'} n end a = record {
    raises = raised_then (raised_expect n) a;
    takes = λ i e. begins q' n end (λ at. (a at).inside) i e;
  }

  pub begun_then : {A B : Type 0} {f : Nexts} {p p' : Parser A} {q q' : A → Parser B} → Begun Same Higher More count G f p p' →
      ((x : A) → Raises Same Higher More count G (q x) (q' x)) → Begun Same Higher More count G f (p >>= q) (p' >>= q')
  begun_then {p' = p'} a b = record {
    raises = raised_then a.raises b;
    takes = λ i e. past_then b (length i.rest) i.declared (p' i) (a.takes i e);
  }

pub begun_granted : {Same Higher More : Type 0} {count : Counting} {G H : Type 0} {A : Type 0} {f : Nexts} {p p' : Parser A} → (H → G) →
    Begun Same Higher More count G f p p' → Begun Same Higher More count H f p p'
begun_granted w a = record { raises = raised_granted w a.raises; takes = a.takes }
