-- Parsers look at one token past those that they take, and no further: what is read, and where reading stops, is settled
-- by the tokens up to the next one.
use Rattle.std.proofs.Common.{◌≡◌, ℕ, zero, suc, ◌+◌, ◌<◌, ◌≤◌, Bool, true, false, List, [], ◌∷◌, ◌++◌, length, Option, Some, None, Ok, Err, refl}
use Rattle.std.proofs.Common.{sym, ap, ◌∙◌, subst, append_assoc, arith}
use Rattle.std.specs.Prelude.{if◌then◌else◌, nat_lt, bytes_eq}
use Rattle.mp_ast.specs.declared.tokens.TokenKind.{TokenKind}
use Rattle.mp_ast.specs.declared.tokens.TokenKind.TheVariants as kind
use Rattle.mp_ast.specs.declared.leaves.Identifier.{Identifier}
use Rattle.mp_ast.specs.declared.leaves.Number.{Number}
use Rattle.mp_ast.specs.declared.leaves.CharacterString.{CharacterString}
use Rattle.mp_ast.specs.Rules.{Input}
use Rattle.mp_cursor.specs.declared.failure.Failure.{Failure}
use Rattle.mp_cursor.specs.declared.failure.Failure.TheVariants.{Memory, Wrong, TooDeep, TooMany}
use Rattle.mp_cursor.specs.declared.next.Next.{Next}
use Rattle.mp_cursor.specs.declared.next.Next.TheVariants as next
use Rattle.mp_cursor.specs.Nexts.{next_of, class_of, is, Nexts}
use Rattle.mp_cursor.specs.Parsers.{Outcome, Parser, and_then, ◌>>=◌, pure, refuse, next_token, behind, left, wrong, too_deep, too_many, branch, here}
use Rattle.mp_cursor.specs.Parsers.{expect, opening, open_where, identifier, identifier_of, number, number_of, character_string, string_of, directive}
use Rattle.mp_cursor.specs.Parsers.{directive_of, counted, deeper, with_own_ordinals, back_at, loop, repeated, series, repeated_series, ◌>>◌}

abbrev read_as : {A : Type 0} → A → Input → Outcome A
read_as x i = Ok (x, i)

abbrev pub stopped : {A : Type 0} → Failure → Outcome A
stopped e = Err e

abbrev pub first_kind : List TokenKind → Option TokenKind
first_kind [] = None
first_kind (k ∷ ks) = Some k

-- the same place, with other tokens from there on
abbrev pub put : Input → List TokenKind → Input
put i ks = record i { rest = ks }

-- how many tokens there are from a failure on
abbrev pub place : Failure → ℕ
place Memory = 0
place (Wrong n) = n
place (TooDeep n) = n
place (TooMany n) = n

-- the same failure, so many tokens before the end
abbrev pub moved : Failure → ℕ → Failure
moved Memory n = Memory
moved (Wrong m) n = Wrong n
moved (TooDeep m) n = TooDeep n
moved (TooMany m) n = TooMany n

-- the tokens taken and those from there on, and that the latter count by their first one alone
abbrev pub Settled : {A : Type 0} → Parser A → Input → Outcome A → Type 0
Settled p i (Ok q) =
    (c : List TokenKind) × (i.rest ≡ c ++ q.1.rest) × ((more : List TokenKind) → first_kind more ≡ first_kind q.1.rest → p (put i (c ++ more)) ≡ read_as q.0 (put q.1 more))
Settled p i (Err e) =
    (c b : List TokenKind) × (i.rest ≡ c ++ b) × (place e ≡ length b) × ((more : List TokenKind) → first_kind more ≡ first_kind b →
    p (put i (c ++ more)) ≡ stopped (moved e (length more)))

abbrev pub Settles : {A : Type 0} → Parser A → Type 0
Settles p = (i : Input) → Settled p i (p i)

-- ---- first tokens

pub first_behind : (c r s : List TokenKind) → first_kind r ≡ first_kind s → first_kind (c ++ r) ≡ first_kind (c ++ s)
first_behind [] r s e = e
first_behind (k ∷ c) r s e = refl

next_by : Option TokenKind → Next
next_by None = next.End
next_by (Some k) = class_of k

next_by_first : (ks : List TokenKind) → next_of ks ≡ next_by (first_kind ks)
unfolding next_by
next_by_first [] = refl
next_by_first (k ∷ ks) = refl

pub same_next : (r s : List TokenKind) → first_kind r ≡ first_kind s → next_of r ≡ next_of s
same_next r s e = next_by_first r ∙ ap next_by e ∙ sym (next_by_first s)

-- ---- steps

pub settles_pure : {A : Type 0} (x : A) → Settles (pure x)
settles_pure x = λ i. ([], refl, λ more h. refl)

pub settles_wrong : {A : Type 0} → Settles (refuse {A = A})
unfolding wrong left
settles_wrong = λ i. ([], i.rest, refl, refl, λ more h. refl)

-- ---- one after another

module _ {A B : Type 0} (p : Parser A) (q : A → Parser B) where
  behind_read : (i : Input) (x : A) (m : Input) → Settled p i (read_as x m) → (o : Outcome B) → Settled (q x) m o → Settled (p >>= q) i o
  behind_read i x m s (Ok y) t = (
    s.0 ++ t.0,
    s.1 ∙ ap (λ r. s.0 ++ r) t.1 ∙ sym (append_assoc s.0 t.0 y.1.rest),
    λ more h.
        ap (λ ks. and_then (p (put i ks)) q) (append_assoc s.0 t.0 more)
        ∙ ap (λ o. and_then o q) (s.2 (t.0 ++ more) (first_behind t.0 more y.1.rest h ∙ ap first_kind (sym t.1)))
        ∙ t.2 more h,
  )
  behind_read i x m s (Err e) t = (
    s.0 ++ t.0,
    t.1,
    s.1 ∙ ap (λ r. s.0 ++ r) t.2 ∙ sym (append_assoc s.0 t.0 t.1),
    t.3,
    λ more h.
        ap (λ ks. and_then (p (put i ks)) q) (append_assoc s.0 t.0 more)
        ∙ ap (λ o. and_then o q) (s.2 (t.0 ++ more) (first_behind t.0 more t.1 h ∙ ap first_kind (sym t.2)))
        ∙ t.4 more h,
  )

module _ {A B : Type 0} (p : Parser A) (q : A → Parser B) (a : Settles p) (b : (x : A) → Settles (q x)) where
  first : (i : Input) (o : Outcome A) → Settled p i o → Settled (p >>= q) i (and_then o q)
  first i (Ok x) s = behind_read p q i x.0 x.1 s (q x.0 x.1) (b x.0 x.1)
  first i (Err e) s = (s.0, s.1, s.2, s.3, λ more h. ap (λ o. and_then o q) (s.4 more h))

  pub settles_then : Settles (p >>= q)
  settles_then = λ i. first i (p i) (a i)

-- the same of one place, where the second need settle only what the first left
module _ {A B : Type 0} (p : Parser A) (q : A → Parser B) where
  first_at : (i : Input) (o : Outcome A) → Settled p i o → ((x : A) (m : Input) → o ≡ read_as x m → Settled (q x) m (q x m)) → Settled (p >>= q) i (and_then o q)
  first_at i (Ok x) s b = behind_read p q i x.0 x.1 s (q x.0 x.1) (b x.0 x.1 refl)
  first_at i (Err e) s b = (s.0, s.1, s.2, s.3, λ more h. ap (λ o. and_then o q) (s.4 more h))

  pub settled_then : (i : Input) → Settled p i (p i) → ((x : A) (m : Input) → p i ≡ read_as x m → Settled (q x) m (q x m)) → Settled (p >>= q) i (and_then (p i) q)
  settled_then i s b = first_at i (p i) s b

-- ---- choices

module _ {A : Type 0} (p q : Parser A) (test : Nexts) where
  -- what one of the two settles, where the test chooses it
  pub chosen : (i : Input) (b : Bool) (r : Parser A) → test (next_token i) ≡ b → ((m : Input) → (if b then p m else q m) ≡ r m) → (o : Outcome A) →
      Settled r i o → Settled (branch test p q) i o
  unfolding next_token
  chosen i b r e f (Ok x) s = (
    s.0,
    s.1,
    λ more h.
        ap (λ c. if c then p (put i (s.0 ++ more)) else q (put i (s.0 ++ more))) (ap test (same_next (s.0 ++ more) i.rest
        (first_behind s.0 more x.1.rest h ∙ ap first_kind (sym s.1))) ∙ e)
        ∙ f (put i (s.0 ++ more)) ∙ s.2 more h,
  )
  chosen i b r e f (Err x) s = (
    s.0,
    s.1,
    s.2,
    s.3,
    λ more h.
        ap (λ c. if c then p (put i (s.0 ++ more)) else q (put i (s.0 ++ more))) (ap test (same_next (s.0 ++ more) i.rest
        (first_behind s.0 more s.1 h ∙ ap first_kind (sym s.2))) ∙ e)
        ∙ f (put i (s.0 ++ more)) ∙ s.4 more h,
  )

  by_test : Settles p → Settles q → (i : Input) (b : Bool) → test (next_token i) ≡ b → Settled (branch test p q) i (if b then p i else q i)
  by_test a c i true e = chosen i true p e (λ m. refl) (p i) (a i)
  by_test a c i false e = chosen i false q e (λ m. refl) (q i) (c i)

  pub settles_branch : Settles p → Settles q → Settles (branch test p q)
  settles_branch a c = λ i. by_test a c i (test (next_token i)) refl

-- ---- the same parser, told in another way

pub as_by : {A : Type 0} (p q : Parser A) → ((i : Input) → p i ≡ q i) → (i : Input) (o : Outcome A) → Settled p i o → Settled q i o
as_by p q e i (Ok x) s = (s.0, s.1, λ more h. sym (e (put i (s.0 ++ more))) ∙ s.2 more h)
as_by p q e i (Err x) s = (s.0, s.1, s.2, s.3, λ more h. sym (e (put i (s.0 ++ more))) ∙ s.4 more h)

pub settles_as : {A : Type 0} (p q : Parser A) → ((i : Input) → p i ≡ q i) → Settles p → Settles q
settles_as p q e a = λ i. subst (λ o. Settled q i o) (e i) (as_by p q e i (p i) (a i))

-- ---- tokens

-- what a step does at a kind of token
pub data Step (A : Type 0) : Type 0 where
  Takes : (ℕ → A) → Step A
  Refuses : Step A
  Deep : Step A

abbrev step_by : {A : Type 0} → Step A → ℕ → ℕ → TokenKind → List TokenKind → Outcome A
step_by (Takes f) at declared k ks = Ok (f at, record { at = at + 1; declared = declared; rest = ks })
step_by Refuses at declared k ks = Err (Wrong (length (k ∷ ks)))
step_by Deep at declared k ks = Err (TooDeep (length (k ∷ ks)))

abbrev pub stepped : {A : Type 0} → (TokenKind → Step A) → ℕ → ℕ → List TokenKind → Outcome A
stepped v at declared [] = Err (Wrong 0)
stepped v at declared (k ∷ ks) = step_by (v k) at declared k ks

abbrev pub stepping : {A : Type 0} → (TokenKind → Step A) → Parser A
stepping v = λ i. stepped v i.at i.declared i.rest

abbrev input : ℕ → ℕ → List TokenKind → Input
input at declared rest = record { at = at; declared = declared; rest = rest }

some_is : {A : Type 0} (x y : A) → Some x ≡ Some y → x ≡ y
some_is x y e = cc

module _ {A : Type 0} (v : TokenKind → Step A) where
  at_end : (at declared : ℕ) (more : List TokenKind) → first_kind more ≡ None → stepped v at declared more ≡ stopped (Wrong (length more))
  at_end at declared [] h = refl
  at_end at declared (k ∷ ks) h = absurd (let n : ⊥ = cc in n)

  -- before a token of this kind
  at_kind : (at declared : ℕ) (k : TokenKind) (s : Step A) → v k ≡ s → (more : List TokenKind) → first_kind more ≡ Some k →
      (rest : List TokenKind) × (more ≡ k ∷ rest) × (stepped v at declared more ≡ step_by s at declared k rest)
  at_kind at declared k s e [] h = absurd (let n : ⊥ = cc in n)
  at_kind at declared k s e (m ∷ ms) h =
      let w = some_is m k h in
      (ms, ap (λ x. x ∷ ms) w, ap (λ x. step_by (v x) at declared x ms) w ∙ ap (λ x. step_by x at declared k ms) e)

  step_settled : (at declared : ℕ) (k : TokenKind) (ks : List TokenKind) (s : Step A) → v k ≡ s → Settled (stepping v) (input at declared (k ∷ ks)) (step_by s at declared k ks)
  step_settled at declared k ks (Takes f) e = (k ∷ [], refl, λ more h. ap (λ x. step_by x at declared k more) e)
  step_settled at declared k ks Refuses e =
      ([], k ∷ ks, refl, refl, λ more h. let w = at_kind at declared k Refuses e more h in w.2 ∙ ap (λ n. stopped (Wrong n)) (ap (λ x. length x) (sym w.1)))
  step_settled at declared k ks Deep e =
      ([], k ∷ ks, refl, refl, λ more h. let w = at_kind at declared k Deep e more h in w.2 ∙ ap (λ n. stopped (TooDeep n)) (ap (λ x. length x) (sym w.1)))

  settled_by : (at declared : ℕ) (ks : List TokenKind) → Settled (stepping v) (input at declared ks) (stepped v at declared ks)
  settled_by at declared [] = ([], [], refl, refl, λ more h. at_end at declared more h)
  settled_by at declared (k ∷ ks) = step_settled at declared k ks (v k) refl

  pub settles_stepping : Settles (stepping v)
  settles_stepping = λ i. settled_by i.at i.declared i.rest

abbrev expecting : Next → TokenKind → Step ℕ
expecting n k = if is n (class_of k) then Takes (λ at. at) else Refuses

abbrev opening_at : Bool → Step ℕ
opening_at true = Takes (λ at. at)
opening_at false = Deep

abbrev opening_step : ℕ → Next → TokenKind → Step ℕ
opening_step room n k = if is n (class_of k) then opening_at (nat_lt 0 room) else Refuses

expect_by : (n : Next) (at declared : ℕ) (k : TokenKind) (ks : List TokenKind) (b : Bool) →
    step_by (if b then Takes (λ a. a) else Refuses) at declared k ks ≡ (if b then read_as at (input (at + 1) declared ks) else Err (Wrong (length (k ∷ ks))))
expect_by n at declared k ks true = refl
expect_by n at declared k ks false = refl

expect_steps : (n : Next) → is n next.End ≡ false → (at declared : ℕ) (ks : List TokenKind) → stepped (expecting n) at declared ks ≡ expect n (input at declared ks)
unfolding expect next_token behind wrong left
expect_steps n e at declared [] = ap (λ b. if b then read_as at (input at declared []) else Err (Wrong 0)) (sym e)
expect_steps n e at declared (k ∷ ks) = expect_by n at declared k ks (is n (class_of k))

pub settles_expect : (n : Next) → is n next.End ≡ false → Settles (expect n)
settles_expect n e = settles_as (stepping (expecting n)) (expect n) (λ i. expect_steps n e i.at i.declared i.rest) (settles_stepping (expecting n))

open_by : (at declared : ℕ) (k : TokenKind) (ks : List TokenKind) (b c : Bool) → step_by (if b then opening_at c else Refuses) at declared k ks ≡
    (if b then open_where c (input at declared (k ∷ ks)) else Err (Wrong (length (k ∷ ks))))
unfolding behind too_deep left
open_by at declared k ks true true = refl
open_by at declared k ks true false = refl
open_by at declared k ks false c = refl

open_steps : (room : ℕ) (n : Next) → is n next.End ≡ false → (at declared : ℕ) (ks : List TokenKind) →
    stepped (opening_step room n) at declared ks ≡ opening room n (input at declared ks)
unfolding opening next_token wrong left
open_steps room n e at declared [] = ap (λ b. if b then open_where (nat_lt 0 room) (input at declared []) else Err (Wrong 0)) (sym e)
open_steps room n e at declared (k ∷ ks) = open_by at declared k ks (is n (class_of k)) (nat_lt 0 room)

pub settles_opening : (room : ℕ) (n : Next) → is n next.End ≡ false → Settles (opening room n)
settles_opening room n e = settles_as (stepping (opening_step room n)) (opening room n) (λ i. open_steps room n e i.at i.declared i.rest) (settles_stepping (opening_step room n))

-- ---- leaves

abbrev naming : TokenKind → Step Identifier
naming (kind.Id name) = Takes (λ at. record { at = at; name = name })
naming (kind.Number value) = Refuses
naming (kind.Text characters) = Refuses
naming (kind.Word v) = Refuses
naming (kind.Symbol v) = Refuses

name_steps : (at declared : ℕ) (ks : List TokenKind) → stepped naming at declared ks ≡ identifier_of at declared ks
name_steps at declared [] = refl
name_steps at declared (kind.Id name ∷ ks) = refl
name_steps at declared (kind.Number value ∷ ks) = refl
name_steps at declared (kind.Text characters ∷ ks) = refl
name_steps at declared (kind.Word v ∷ ks) = refl
name_steps at declared (kind.Symbol v ∷ ks) = refl

pub settles_identifier : Settles identifier
unfolding identifier
settles_identifier = settles_as (stepping naming) identifier (λ i. name_steps i.at i.declared i.rest) (settles_stepping naming)

abbrev numbering : TokenKind → Step Number
numbering (kind.Id name) = Refuses
numbering (kind.Number value) = Takes (λ at. record { at = at; value = value })
numbering (kind.Text characters) = Refuses
numbering (kind.Word v) = Refuses
numbering (kind.Symbol v) = Refuses

number_steps : (at declared : ℕ) (ks : List TokenKind) → stepped numbering at declared ks ≡ number_of at declared ks
number_steps at declared [] = refl
number_steps at declared (kind.Id name ∷ ks) = refl
number_steps at declared (kind.Number value ∷ ks) = refl
number_steps at declared (kind.Text characters ∷ ks) = refl
number_steps at declared (kind.Word v ∷ ks) = refl
number_steps at declared (kind.Symbol v ∷ ks) = refl

pub settles_number : Settles number
unfolding number
settles_number = settles_as (stepping numbering) number (λ i. number_steps i.at i.declared i.rest) (settles_stepping numbering)

abbrev texting : TokenKind → Step CharacterString
texting (kind.Id name) = Refuses
texting (kind.Number value) = Refuses
texting (kind.Text characters) = Takes (λ at. record { at = at; characters = characters })
texting (kind.Word v) = Refuses
texting (kind.Symbol v) = Refuses

text_steps : (at declared : ℕ) (ks : List TokenKind) → stepped texting at declared ks ≡ string_of at declared ks
text_steps at declared [] = refl
text_steps at declared (kind.Id name ∷ ks) = refl
text_steps at declared (kind.Number value ∷ ks) = refl
text_steps at declared (kind.Text characters ∷ ks) = refl
text_steps at declared (kind.Word v ∷ ks) = refl
text_steps at declared (kind.Symbol v ∷ ks) = refl

pub settles_string : Settles character_string
unfolding character_string
settles_string = settles_as (stepping texting) character_string (λ i. text_steps i.at i.declared i.rest) (settles_stepping texting)

abbrev directing : List ℕ → TokenKind → Step ℕ
directing spelling (kind.Id name) = if bytes_eq name spelling then Takes (λ at. at) else Refuses
directing spelling (kind.Number value) = Refuses
directing spelling (kind.Text characters) = Refuses
directing spelling (kind.Word v) = Refuses
directing spelling (kind.Symbol v) = Refuses

direct_by : (at declared : ℕ) (k : TokenKind) (ks : List TokenKind) (b : Bool) → step_by (if b then Takes (λ a. a) else Refuses) at declared k ks ≡
    (if b then read_as at (input (at + 1) declared ks) else Err (Wrong (length (k ∷ ks))))
direct_by at declared k ks true = refl
direct_by at declared k ks false = refl

directive_steps : (spelling : List ℕ) (at declared : ℕ) (ks : List TokenKind) → stepped (directing spelling) at declared ks ≡ directive_of spelling at declared ks
directive_steps spelling at declared [] = refl
directive_steps spelling at declared (kind.Id name ∷ ks) = direct_by at declared (kind.Id name) ks (bytes_eq name spelling)
directive_steps spelling at declared (kind.Number value ∷ ks) = refl
directive_steps spelling at declared (kind.Text characters ∷ ks) = refl
directive_steps spelling at declared (kind.Word v ∷ ks) = refl
directive_steps spelling at declared (kind.Symbol v ∷ ks) = refl

pub settles_directive : (spelling : List ℕ) → Settles (directive spelling)
unfolding directive
settles_directive spelling =
    settles_as (stepping (directing spelling)) (directive spelling) (λ i. directive_steps spelling i.at i.declared i.rest) (settles_stepping (directing spelling))

pub settles_here : Settles here
settles_here = λ i. ([], refl, λ more h. refl)

-- ---- blocks

counted_settled : (most : ℕ) (i : Input) (b : Bool) → nat_lt i.declared most ≡ b → Settled (counted most) i
    (if b then read_as tt (record i { declared = i.declared + 1 }) else Err (too_many i))
unfolding counted too_many left
counted_settled most i true e = ([], refl, λ more h. ap (λ b. if b then read_as tt (record (put i more) { declared = i.declared + 1 }) else Err (TooMany (length more))) e)
counted_settled most i false e =
    ([], i.rest, refl, refl, λ more h. ap (λ b. if b then read_as tt (record (put i more) { declared = i.declared + 1 }) else Err (TooMany (length more))) e)

pub settles_counted : (most : ℕ) → Settles (counted most)
unfolding counted
settles_counted most = λ i. counted_settled most i (nat_lt i.declared most) refl

pub settles_deeper : {A : Type 0} (depth : ℕ) (p : Parser A) → Settles p → Settles (deeper depth p)
unfolding too_deep left
settles_deeper zero p a = λ i. ([], i.rest, refl, refl, λ more h. refl)
settles_deeper (suc depth) p a = a

own_settled : {A : Type 0} (p : Parser A) (i : Input) (o : Outcome A) → Settled p (record i { at = 0 }) o → Settled (with_own_ordinals p) i (back_at i.at o)
unfolding with_own_ordinals
own_settled p i (Ok x) s = (s.0, s.1, λ more h. ap (back_at i.at) (s.2 more h))
own_settled p i (Err e) s = (s.0, s.1, s.2, s.3, λ more h. ap (back_at i.at) (s.4 more h))

pub settles_own_ordinals : {A : Type 0} (p : Parser A) → Settles p → Settles (with_own_ordinals p)
unfolding with_own_ordinals
settles_own_ordinals p a = λ i. own_settled p i (p (record i { at = 0 })) (a (record i { at = 0 }))

-- ---- loops

both_read : {A B : Type 0} (o : Outcome A) (q : A → Parser B) (y : B) (j : Input) → and_then o q ≡ read_as y j → (x : A) × (m : Input) × (o ≡ read_as x m) × (q x m ≡ read_as y j)
both_read (Ok p) q y j h = (p.0, p.1, refl, h)
both_read (Err e) q y j h = absurd (let n : ⊥ = cc in n)

-- goes on alike where it goes on alike behind what is read
pub goes_on : {A B : Type 0} (o : Outcome A) (q r : A → Parser B) → ((x : A) (m : Input) → o ≡ read_as x m → q x m ≡ r x m) → and_then o q ≡ and_then o r
goes_on (Ok p) q r h = h p.0 p.1 refl
goes_on (Err e) q r h = refl

pub no_length : (ks : List TokenKind) → length ks ≤ 0 → ks ≡ []
no_length [] h = refl
no_length (k ∷ ks) h = absurd (omega (arith, h))

module _ {A : Type 0} (test : Nexts) (turn : A → Parser A) (ends : test next.End ≡ false) (falls : (x : A) (i : Input) (y : A) (j : Input) →
    turn x i ≡ read_as y j → length j.rest < length i.rest) where
  -- there is no turn at the end
  loop_ends : (n : ℕ) (found : A) (i : Input) → length i.rest ≤ 0 → loop test turn n found i ≡ read_as found i
  unfolding loop next_token
  loop_ends zero found i h = refl
  loop_ends (suc n) found i h =
      ap (λ ks. if test (next_of ks) then (turn found >>= loop test turn n) i else read_as found i) (no_length i.rest h) ∙
      ap (λ b. if b then (turn found >>= loop test turn n) i else read_as found i) ends

  -- as many turns as there are tokens are enough
  loop_enough : (n m : ℕ) (found : A) (i : Input) → length i.rest ≤ n → length i.rest ≤ m → loop test turn n found i ≡ loop test turn m found i
  unfolding loop
  loop_enough zero m found i h g = sym (loop_ends m found i h)
  loop_enough (suc n) zero found i h g = loop_ends (suc n) found i g
  loop_enough (suc n) (suc m) found i h g =
      ap (λ o. if test (next_token i) then o else read_as found i)
      (goes_on (turn found i) (loop test turn n) (loop test turn m) (λ x k e. let l = falls found i x k e in loop_enough n m x k (omega arith) (omega arith)))

  abbrev once : A → Parser A
  once found = branch test (turn found >>= repeated test turn) (pure found)

  unrolled : (n : ℕ) (found : A) (i : Input) → length i.rest ≡ n → once found i ≡ repeated test turn found i
  unfolding repeated loop left next_token
  unrolled zero found i h =
      ap (λ ks. if test (next_of ks) then (turn found >>= repeated test turn) i else read_as found i) (no_length i.rest (omega arith))
      ∙ ap (λ b. if b then (turn found >>= repeated test turn) i else read_as found i) ends
      ∙ sym (loop_ends (length i.rest) found i (omega arith))
  unrolled (suc n) found i h =
      ap (λ o. if test (next_token i) then o else read_as found i)
      (goes_on (turn found i) (repeated test turn) (loop test turn n) (λ x k e. let l = falls found i x k e in loop_enough (length k.rest) n x k (omega arith) (omega arith)))
      ∙ ap (λ m. loop test turn m found i) (sym h)

  module _ (a : (x : A) → Settles (turn x)) where
    once_by : (found : A) (i : Input) → ((x : A) (m : Input) → turn found i ≡ read_as x m →
        Settled (repeated test turn x) m (repeated test turn x m)) → (b : Bool) → test (next_token i) ≡ b →
        Settled (once found) i (if b then (turn found >>= repeated test turn) i else read_as found i)
    once_by found i ih true e =
        chosen (turn found >>= repeated test turn) (pure found) test i true (turn found >>= repeated test turn) e (λ m. refl)
        ((turn found >>= repeated test turn) i) (settled_then (turn found) (repeated test turn) i (a found i) ih)
    once_by found i ih false e = chosen (turn found >>= repeated test turn) (pure found) test i false (pure found) e (λ m. refl) (read_as found i) (settles_pure found i)

    once_settled : (found : A) (i : Input) → ((x : A) (m : Input) → turn found i ≡ read_as x m →
        Settled (repeated test turn x) m (repeated test turn x m)) → Settled (repeated test turn found) i (repeated test turn found i)
    once_settled found i ih =
        let s = once_by found i ih (test (next_token i)) refl in
        subst (λ o. Settled (repeated test turn found) i o) (unrolled (length i.rest) found i refl)
        (as_by (once found) (repeated test turn found) (λ m. unrolled (length m.rest) found m refl) i (once found i) s)

    -- by how many tokens are left
    loop_settled : (n : ℕ) (found : A) (i : Input) → length i.rest ≤ n → Settled (repeated test turn found) i (repeated test turn found i)
    loop_settled zero found i h = once_settled found i (λ x m e. absurd (let l = falls found i x m e in let z : ⊥ = omega arith in z))
    loop_settled (suc n) found i h = once_settled found i (λ x m e. let l = falls found i x m e in loop_settled n x m (omega arith))

    pub settles_repeated : (found : A) → Settles (repeated test turn found)
    settles_repeated found = λ i. loop_settled (length i.rest) found i (omega arith)

-- ---- items with separators between them

module _ {A : Type 0} (separator : Next) (test : Nexts) (turn : A → Parser A) (ends : is separator next.End ≡ false)
    (falls : (i : Input) (at : ℕ) (j : Input) → expect separator i ≡ read_as at j → length j.rest < length i.rest)
    (shrinks : (x : A) (i : Input) (y : A) (j : Input) → turn x i ≡ read_as y j → length j.rest ≤ length i.rest) where
  abbrev after : (A → Parser A) → A → Parser A
  after more found = branch test (turn found >>= more) (pure found)

  abbrev series_once : (A → Parser A) → A → Parser A
  series_once more found = branch (is separator) (expect separator >> after more found) (pure found)

  -- goes on alike where it goes on alike with fewer tokens
  after_alike : (more other : A → Parser A) (found : A) (i : Input) (b : Bool) → ((x : A) (m : Input) → length m.rest ≤ length i.rest →
      more x m ≡ other x m) → (if b then (turn found >>= more) i else read_as found i) ≡ (if b then (turn found >>= other) i else read_as found i)
  after_alike more other found i true h = goes_on (turn found i) more other (λ x m e. h x m (shrinks found i x m e))
  after_alike more other found i false h = refl

  alike : (more other : A → Parser A) (found : A) (i : Input) → ((x : A) (m : Input) → length m.rest < length i.rest → more x m ≡ other x m) →
      series_once more found i ≡ series_once other found i
  alike more other found i h =
      ap (λ o. if is separator (next_token i) then o else read_as found i)
      (goes_on (expect separator i) (λ at. after more found) (λ at. after other found) (λ at m e.
      let l = falls i at m e in
      after_alike more other found m (test (next_token m)) (λ x k g. h x k (omega arith))))

  series_ends : (more : A → Parser A) (found : A) (i : Input) → length i.rest ≤ 0 → series_once more found i ≡ read_as found i
  unfolding next_token
  series_ends more found i h =
      ap (λ ks. if is separator (next_of ks) then (expect separator >> after more found) i else read_as found i) (no_length i.rest h) ∙
      ap (λ b. if b then (expect separator >> after more found) i else read_as found i) ends

  series_enough : (n m : ℕ) (found : A) (i : Input) → length i.rest ≤ n → length i.rest ≤ m → series separator test turn n found i ≡ series separator test turn m found i
  unfolding series
  series_enough zero zero found i h g = refl
  series_enough zero (suc m) found i h g = sym (series_ends (series separator test turn m) found i h)
  series_enough (suc n) zero found i h g = series_ends (series separator test turn n) found i g
  series_enough (suc n) (suc m) found i h g =
      alike (series separator test turn n) (series separator test turn m) found i (λ x k l. series_enough n m x k (omega arith) (omega arith))

  abbrev whole : A → Parser A
  whole = repeated_series separator test turn

  series_unrolled : (n : ℕ) (found : A) (i : Input) → length i.rest ≡ n → series_once whole found i ≡ whole found i
  unfolding repeated_series series left
  series_unrolled zero found i h = series_ends whole found i (omega arith) ∙ ap (λ m. series separator test turn m found i) (sym h)
  series_unrolled (suc n) found i h =
      alike whole (series separator test turn n) found i (λ x k l. series_enough (length k.rest) n x k (omega arith) (omega arith))
      ∙ ap (λ m. series separator test turn m found i) (sym h)

  module _ (a : (x : A) → Settles (turn x)) where
    after_by : (found : A) (i : Input) → ((x : A) (m : Input) → length m.rest ≤ length i.rest → Settled (whole x) m (whole x m)) → (b : Bool) →
        test (next_token i) ≡ b → Settled (after whole found) i (if b then (turn found >>= whole) i else read_as found i)
    after_by found i ih true e =
        chosen (turn found >>= whole) (pure found) test i true (turn found >>= whole) e (λ m. refl) ((turn found >>= whole) i)
        (settled_then (turn found) whole i (a found i) (λ x m g. ih x m (shrinks found i x m g)))
    after_by found i ih false e = chosen (turn found >>= whole) (pure found) test i false (pure found) e (λ m. refl) (read_as found i) (settles_pure found i)

    series_once_by : (found : A) (i : Input) → ((x : A) (m : Input) → length m.rest < length i.rest → Settled (whole x) m (whole x m)) → (b : Bool) →
        is separator (next_token i) ≡ b → Settled (series_once whole found) i (if b then (expect separator >> after whole found) i else read_as found i)
    series_once_by found i ih true e =
        chosen (expect separator >> after whole found) (pure found) (is separator) i true (expect separator >> after whole found) e (λ m. refl)
        ((expect separator >> after whole found) i)
        (settled_then (expect separator) (λ at. after whole found) i (settles_expect separator ends i) (λ at m g.
        let l = falls i at m g in
        after_by found m (λ x k f. ih x k (omega arith)) (test (next_token m)) refl))
    series_once_by found i ih false e =
        chosen (expect separator >> after whole found) (pure found) (is separator) i false (pure found) e (λ m. refl) (read_as found i) (settles_pure found i)

    series_once_settled : (found : A) (i : Input) → ((x : A) (m : Input) → length m.rest < length i.rest → Settled (whole x) m (whole x m)) →
        Settled (whole found) i (whole found i)
    series_once_settled found i ih =
        let s = series_once_by found i ih (is separator (next_token i)) refl in
        subst (λ o. Settled (whole found) i o) (series_unrolled (length i.rest) found i refl)
        (as_by (series_once whole found) (whole found) (λ m. series_unrolled (length m.rest) found m refl) i (series_once whole found i) s)

    series_settled : (n : ℕ) (found : A) (i : Input) → length i.rest ≤ n → Settled (whole found) i (whole found i)
    series_settled zero found i h = series_once_settled found i (λ x m l. absurd (let z : ⊥ = omega arith in z))
    series_settled (suc n) found i h = series_once_settled found i (λ x m l. series_settled n x m (omega arith))

    pub settles_series : (found : A) → Settles (repeated_series separator test turn found)
    settles_series found = λ i. series_settled (length i.rest) found i (omega arith)
