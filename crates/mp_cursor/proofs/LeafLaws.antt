-- The laws of leaves and of tokens that open.
use Rattle.std.proofs.Common.{◌≡◌, ℕ, zero, suc, ◌+◌, Bool, true, false, List, [], ◌∷◌, length, Ok, Err, refl, sym, ap, ◌∙◌, arith}
use Rattle.std.proofs.lemmas.Bool.{lt-ltb}
use Rattle.std.proofs.lemmas.Slice.Eq.{bytes_eq-Decides}
use Rattle.std.specs.Prelude.{if◌then◌else◌, nat_lt, bytes_eq}
use Rattle.mp_cursor.specs.declared.failure.Failure.{Failure}
use Rattle.mp_cursor.specs.declared.failure.Failure.TheVariants.{Wrong, TooDeep}
use Rattle.mp_ast.specs.declared.tokens.TokenKind.{TokenKind}
use Rattle.mp_ast.specs.declared.tokens.TokenKind.TheVariants as kind
use Rattle.mp_ast.specs.declared.words.WordSymbol.{WordSymbol}
use Rattle.mp_ast.specs.declared.symbols.Symbol.{Symbol}
use Rattle.mp_ast.specs.declared.leaves.Identifier.{Identifier}
use Rattle.mp_ast.specs.declared.leaves.Number.{Number}
use Rattle.mp_ast.specs.declared.leaves.CharacterString.{CharacterString}
use Rattle.mp_ast.specs.Rules.{Input, Rule, token}
use Rattle.mp_ast.specs.Rules.{◌>>=◌ as ◌>>=ʳ◌}
use Rattle.mp_ast.specs.Rules as rule
use Rattle.mp_ast.specs.LeafGrammar as leaf
use Rattle.mp_cursor.specs.declared.next.Next.{Next}
use Rattle.mp_cursor.specs.declared.next.Next.TheVariants as next
use Rattle.mp_cursor.specs.Nexts.{Nexts, next_of, class_of, is}
use Rattle.mp_cursor.specs.Parsers.{Outcome, Parser, and_then, ◌>>=◌, too_deep, left, next_token, expect, wrong, identifier, identifier_of, number}
use Rattle.mp_cursor.specs.Parsers.{number_of, character_string, string_of, directive, directive_of, opening, open_where}
use Rattle.mp_cursor.specs.Nexts.{any}
use Rattle.mp_cursor.proofs.Settled.{Settled, stopped, place, settles_identifier, settles_number, settles_string, settles_directive, settles_opening}
use Rattle.mp_cursor.proofs.Recovery.{no_else, failure_is, moves_token, ends_token, recovers_first}
use Rattle.mp_cursor.proofs.NextSets.{within_any}
use Rattle.mp_cursor.proofs.RuleLaws.{not_end, LawWhere, law_then, law_ends, both_ok, read, read_is, IsOnly, word_only, symbol_only, law_expect}

-- ---- leaves

abbrev pub input : ℕ → ℕ → List TokenKind → Input
input at declared rest = record { at = at; declared = declared; rest = rest }

-- a leaf that this rest begins with
abbrev Leaf : {A : Type 0} → (A → TokenKind) → (A → ℕ) → ℕ → ℕ → List TokenKind → A → Input → Type 0
Leaf kind_of at_of at declared ks x j = (ks ≡ kind_of x ∷ j.rest) × (at ≡ at_of x) × (j.at ≡ at + 1) × (j.declared ≡ declared)

identifier_sound : (at declared : ℕ) (ks : List TokenKind) (x : Identifier) (j : Input) → identifier_of at declared ks ≡ read x j →
    Leaf (λ x. kind.Id x.name) (λ x. x.at) at declared ks x j
identifier_sound at declared (kind.Id name ∷ ks) x j h =
    let w = read_is (record { at = at; name = name }) x (input (at + 1) declared ks) j h in
    (ap (λ n. kind.Id n ∷ ks) (ap (λ y. y.name) w.0) ∙ ap (λ m. kind.Id x.name ∷ m.rest) w.1, ap (λ y. y.at) w.0, sym (ap (λ m. m.at) w.1), sym (ap (λ m. m.declared) w.1))
identifier_sound at declared [] x j h = absurd (let n : ⊥ = cc in n)
identifier_sound at declared (kind.Number v ∷ ks) x j h = absurd (let n : ⊥ = cc in n)
identifier_sound at declared (kind.Text v ∷ ks) x j h = absurd (let n : ⊥ = cc in n)
identifier_sound at declared (kind.Word v ∷ ks) x j h = absurd (let n : ⊥ = cc in n)
identifier_sound at declared (kind.Symbol v ∷ ks) x j h = absurd (let n : ⊥ = cc in n)

number_sound : (at declared : ℕ) (ks : List TokenKind) (x : Number) (j : Input) → number_of at declared ks ≡ read x j →
    Leaf (λ x. kind.Number x.value) (λ x. x.at) at declared ks x j
number_sound at declared (kind.Number value ∷ ks) x j h =
    let w = read_is (record { at = at; value = value }) x (input (at + 1) declared ks) j h in (
      ap (λ n. kind.Number n ∷ ks) (ap (λ y. y.value) w.0) ∙ ap (λ m. kind.Number x.value ∷ m.rest) w.1,
      ap (λ y. y.at) w.0,
      sym (ap (λ m. m.at) w.1),
      sym (ap (λ m. m.declared) w.1),
    )
number_sound at declared [] x j h = absurd (let n : ⊥ = cc in n)
number_sound at declared (kind.Id v ∷ ks) x j h = absurd (let n : ⊥ = cc in n)
number_sound at declared (kind.Text v ∷ ks) x j h = absurd (let n : ⊥ = cc in n)
number_sound at declared (kind.Word v ∷ ks) x j h = absurd (let n : ⊥ = cc in n)
number_sound at declared (kind.Symbol v ∷ ks) x j h = absurd (let n : ⊥ = cc in n)

string_sound : (at declared : ℕ) (ks : List TokenKind) (x : CharacterString) (j : Input) → string_of at declared ks ≡ read x j →
    Leaf (λ x. kind.Text x.characters) (λ x. x.at) at declared ks x j
string_sound at declared (kind.Text characters ∷ ks) x j h =
    let w = read_is (record { at = at; characters = characters }) x (input (at + 1) declared ks) j h in (
      ap (λ n. kind.Text n ∷ ks) (ap (λ y. y.characters) w.0) ∙ ap (λ m. kind.Text x.characters ∷ m.rest) w.1,
      ap (λ y. y.at) w.0,
      sym (ap (λ m. m.at) w.1),
      sym (ap (λ m. m.declared) w.1),
    )
string_sound at declared [] x j h = absurd (let n : ⊥ = cc in n)
string_sound at declared (kind.Id v ∷ ks) x j h = absurd (let n : ⊥ = cc in n)
string_sound at declared (kind.Number v ∷ ks) x j h = absurd (let n : ⊥ = cc in n)
string_sound at declared (kind.Word v ∷ ks) x j h = absurd (let n : ⊥ = cc in n)
string_sound at declared (kind.Symbol v ∷ ks) x j h = absurd (let n : ⊥ = cc in n)

abbrev an_identifier : ℕ → List ℕ → Identifier
an_identifier at name = record { at = at; name = name }

abbrev a_number : ℕ → ℕ → Number
a_number at value = record { at = at; value = value }

abbrev a_string : ℕ → List ℕ → CharacterString
a_string at characters = record { at = at; characters = characters }

identifier_first : (at declared : ℕ) (ks : List TokenKind) (e : Failure) → identifier_of at declared ks ≡ stopped e → place e ≡ length ks
identifier_first at declared [] e h = sym (ap place (failure_is {A = Identifier} (Wrong 0) e h))
identifier_first at declared (kind.Id v ∷ ks) e h = absurd (let n : ⊥ = cc in n)
identifier_first at declared (kind.Number v ∷ ks) e h = sym (ap place (failure_is {A = Identifier} (Wrong (length (kind.Number v ∷ ks))) e h))
identifier_first at declared (kind.Text v ∷ ks) e h = sym (ap place (failure_is {A = Identifier} (Wrong (length (kind.Text v ∷ ks))) e h))
identifier_first at declared (kind.Word v ∷ ks) e h = sym (ap place (failure_is {A = Identifier} (Wrong (length (kind.Word v ∷ ks))) e h))
identifier_first at declared (kind.Symbol v ∷ ks) e h = sym (ap place (failure_is {A = Identifier} (Wrong (length (kind.Symbol v ∷ ks))) e h))

pub law_identifier : {P : Type 0} → LawWhere P true (is next.Identifier) any identifier leaf.identifier
unfolding identifier next_token
law_identifier = record {
  sound = λ i x j h. identifier_sound i.at i.declared i.rest x j h;
  complete = λ i x j d e.
      ap (identifier_of i.at i.declared) d.0
      ∙ ap (λ n. read (an_identifier n x.name) (input (i.at + 1) i.declared j.rest)) d.1
      ∙ ap (λ n. read x (input n i.declared j.rest)) (sym d.2) ∙ ap (λ n. read x (input j.at n j.rest)) (sym d.3);
  begins = λ i x j d e. ap (λ ks. is next.Identifier (next_of ks)) d.0;
  shrinks = λ i x j h. let e = ap (λ ks. length ks) (identifier_sound i.at i.declared i.rest x j h).0 in omega arith;
  settles = settles_identifier;
  moves = λ i x j d. (kind.Id x.name ∷ [], d.0, λ t h. (refl, d.1, d.2, d.3));
  recovers = λ granted. recovers_first identifier leaf.identifier (λ i e h. identifier_first i.at i.declared i.rest e h);
  ends = λ granted e i. (kind.Id (97 ∷ []) ∷ [], an_identifier i.at (97 ∷ []), input (i.at + 1) i.declared [], λ t o. refl, λ t o. (refl, refl, refl, refl));
}

number_first : (at declared : ℕ) (ks : List TokenKind) (e : Failure) → number_of at declared ks ≡ stopped e → place e ≡ length ks
number_first at declared [] e h = sym (ap place (failure_is {A = Number} (Wrong 0) e h))
number_first at declared (kind.Id v ∷ ks) e h = sym (ap place (failure_is {A = Number} (Wrong (length (kind.Id v ∷ ks))) e h))
number_first at declared (kind.Number v ∷ ks) e h = absurd (let n : ⊥ = cc in n)
number_first at declared (kind.Text v ∷ ks) e h = sym (ap place (failure_is {A = Number} (Wrong (length (kind.Text v ∷ ks))) e h))
number_first at declared (kind.Word v ∷ ks) e h = sym (ap place (failure_is {A = Number} (Wrong (length (kind.Word v ∷ ks))) e h))
number_first at declared (kind.Symbol v ∷ ks) e h = sym (ap place (failure_is {A = Number} (Wrong (length (kind.Symbol v ∷ ks))) e h))

pub law_number : {P : Type 0} → LawWhere P true (is next.Number) any number leaf.number
unfolding number next_token
law_number = record {
  sound = λ i x j h. number_sound i.at i.declared i.rest x j h;
  complete = λ i x j d e.
      ap (number_of i.at i.declared) d.0
      ∙ ap (λ n. read (a_number n x.value) (input (i.at + 1) i.declared j.rest)) d.1
      ∙ ap (λ n. read x (input n i.declared j.rest)) (sym d.2) ∙ ap (λ n. read x (input j.at n j.rest)) (sym d.3);
  begins = λ i x j d e. ap (λ ks. is next.Number (next_of ks)) d.0;
  shrinks = λ i x j h. let e = ap (λ ks. length ks) (number_sound i.at i.declared i.rest x j h).0 in omega arith;
  settles = settles_number;
  moves = λ i x j d. (kind.Number x.value ∷ [], d.0, λ t h. (refl, d.1, d.2, d.3));
  recovers = λ granted. recovers_first number leaf.number (λ i e h. number_first i.at i.declared i.rest e h);
  ends = λ granted e i. (kind.Number 1 ∷ [], a_number i.at 1, input (i.at + 1) i.declared [], λ t o. refl, λ t o. (refl, refl, refl, refl));
}

string_first : (at declared : ℕ) (ks : List TokenKind) (e : Failure) → string_of at declared ks ≡ stopped e → place e ≡ length ks
string_first at declared [] e h = sym (ap place (failure_is {A = CharacterString} (Wrong 0) e h))
string_first at declared (kind.Id v ∷ ks) e h = sym (ap place (failure_is {A = CharacterString} (Wrong (length (kind.Id v ∷ ks))) e h))
string_first at declared (kind.Number v ∷ ks) e h = sym (ap place (failure_is {A = CharacterString} (Wrong (length (kind.Number v ∷ ks))) e h))
string_first at declared (kind.Text v ∷ ks) e h = absurd (let n : ⊥ = cc in n)
string_first at declared (kind.Word v ∷ ks) e h = sym (ap place (failure_is {A = CharacterString} (Wrong (length (kind.Word v ∷ ks))) e h))
string_first at declared (kind.Symbol v ∷ ks) e h = sym (ap place (failure_is {A = CharacterString} (Wrong (length (kind.Symbol v ∷ ks))) e h))

pub law_string : {P : Type 0} → LawWhere P true (is next.Text) any character_string leaf.character_string
unfolding character_string next_token
law_string = record {
  sound = λ i x j h. string_sound i.at i.declared i.rest x j h;
  complete = λ i x j d e.
      ap (string_of i.at i.declared) d.0
      ∙ ap (λ n. read (a_string n x.characters) (input (i.at + 1) i.declared j.rest)) d.1
      ∙ ap (λ n. read x (input n i.declared j.rest)) (sym d.2) ∙ ap (λ n. read x (input j.at n j.rest)) (sym d.3);
  begins = λ i x j d e. ap (λ ks. is next.Text (next_of ks)) d.0;
  shrinks = λ i x j h. let e = ap (λ ks. length ks) (string_sound i.at i.declared i.rest x j h).0 in omega arith;
  settles = settles_string;
  moves = λ i x j d. (kind.Text x.characters ∷ [], d.0, λ t h. (refl, d.1, d.2, d.3));
  recovers = λ granted. recovers_first character_string leaf.character_string (λ i e h. string_first i.at i.declared i.rest e h);
  ends = λ granted e i. (kind.Text (97 ∷ []) ∷ [], a_string i.at (97 ∷ []), input (i.at + 1) i.declared [], λ t o. refl, λ t o. (refl, refl, refl, refl));
}

-- ---- directives

abbrev Directive : List ℕ → ℕ → ℕ → List TokenKind → ℕ → Input → Type 0
Directive spelling at declared ks x j = (ks ≡ kind.Id spelling ∷ j.rest) × (at ≡ x) × (j.at ≡ at + 1) × (j.declared ≡ declared)

spelled : (spelling name : List ℕ) (at declared : ℕ) (ks : List TokenKind) (x : ℕ) (j : Input) (b : Bool) → bytes_eq name spelling ≡ b →
    (if b then read at (input (at + 1) declared ks) else Err (Wrong (length (kind.Id name ∷ ks)))) ≡ read x j → Directive spelling at declared (kind.Id name ∷ ks) x j
spelled spelling name at declared ks x j true e h =
    let w = read_is at x (input (at + 1) declared ks) j h in
    (ap (λ n. kind.Id n ∷ ks) ((bytes_eq-Decides name spelling).0 e) ∙ ap (λ m. kind.Id spelling ∷ m.rest) w.1, w.0, sym (ap (λ m. m.at) w.1), sym (ap (λ m. m.declared) w.1))
spelled spelling name at declared ks x j false e h = absurd (let n : ⊥ = cc in n)

directive_sound : (spelling : List ℕ) (at declared : ℕ) (ks : List TokenKind) (x : ℕ) (j : Input) → directive_of spelling at declared ks ≡ read x j →
    Directive spelling at declared ks x j
directive_sound spelling at declared (kind.Id name ∷ ks) x j h = spelled spelling name at declared ks x j (bytes_eq name spelling) (λ i. bytes_eq name spelling) h
directive_sound spelling at declared [] x j h = absurd (let n : ⊥ = cc in n)
directive_sound spelling at declared (kind.Number v ∷ ks) x j h = absurd (let n : ⊥ = cc in n)
directive_sound spelling at declared (kind.Text v ∷ ks) x j h = absurd (let n : ⊥ = cc in n)
directive_sound spelling at declared (kind.Word v ∷ ks) x j h = absurd (let n : ⊥ = cc in n)
directive_sound spelling at declared (kind.Symbol v ∷ ks) x j h = absurd (let n : ⊥ = cc in n)

misspelled_first : (at declared : ℕ) (ks all : List TokenKind) (b : Bool) (e : Failure) → (if b then read at (input (at + 1) declared ks) else Err
    (Wrong (length all))) ≡ stopped e → place e ≡ length all
misspelled_first at declared ks all true e h = absurd (let n : ⊥ = cc in n)
misspelled_first at declared ks all false e h = sym (ap place (failure_is {A = ℕ} (Wrong (length all)) e h))

directive_first : (spelling : List ℕ) (at declared : ℕ) (ks : List TokenKind) (e : Failure) → directive_of spelling at declared ks ≡ stopped e → place e ≡ length ks
directive_first spelling at declared [] e h = sym (ap place (failure_is {A = ℕ} (Wrong 0) e h))
directive_first spelling at declared (kind.Id name ∷ ks) e h = misspelled_first at declared ks (kind.Id name ∷ ks) (bytes_eq name spelling) e h
directive_first spelling at declared (kind.Number v ∷ ks) e h = sym (ap place (failure_is {A = ℕ} (Wrong (length (kind.Number v ∷ ks))) e h))
directive_first spelling at declared (kind.Text v ∷ ks) e h = sym (ap place (failure_is {A = ℕ} (Wrong (length (kind.Text v ∷ ks))) e h))
directive_first spelling at declared (kind.Word v ∷ ks) e h = sym (ap place (failure_is {A = ℕ} (Wrong (length (kind.Word v ∷ ks))) e h))
directive_first spelling at declared (kind.Symbol v ∷ ks) e h = sym (ap place (failure_is {A = ℕ} (Wrong (length (kind.Symbol v ∷ ks))) e h))

pub law_directive : {P : Type 0} → (spelling : List ℕ) → LawWhere P true (is next.Identifier) any (directive spelling) (token (kind.Id spelling))
unfolding directive next_token
law_directive spelling = record {
  sound = λ i x j h. directive_sound spelling i.at i.declared i.rest x j h;
  complete = λ i x j d e.
      ap (directive_of spelling i.at i.declared) d.0
      ∙ ap (λ b. if b then read i.at (input (i.at + 1) i.declared j.rest) else Err (Wrong (length (kind.Id spelling ∷ j.rest))))
      ((bytes_eq-Decides spelling spelling).1 (λ i. spelling))
      ∙ ap (λ n. read n (input (i.at + 1) i.declared j.rest)) d.1
      ∙ ap (λ n. read x (input n i.declared j.rest)) (sym d.2) ∙ ap (λ n. read x (input j.at n j.rest)) (sym d.3);
  begins = λ i x j d e. ap (λ ks. is next.Identifier (next_of ks)) d.0;
  shrinks = λ i x j h. let e = ap (λ ks. length ks) (directive_sound spelling i.at i.declared i.rest x j h).0 in omega arith;
  settles = settles_directive spelling;
  moves = moves_token (kind.Id spelling);
  recovers = λ granted. recovers_first (directive spelling) (token (kind.Id spelling)) (λ i e h. directive_first spelling i.at i.declared i.rest e h);
  ends = λ granted e. ends_token (kind.Id spelling) refl;
}

-- ---- tokens that open

opens_with_room : (room : ℕ) (n : Next) (i : Input) → opening (suc room) n i ≡ expect n i
unfolding opening expect
opens_with_room room n i = ap (λ b. if is n (next_token i) then open_where b i else Err (wrong i)) (lt-ltb 0 (suc room) (omega arith))

abbrev Refused : Bool → Input → ℕ → Input → Type 0
Refused b i at j = (if b then open_where (nat_lt 0 0) i else Err (wrong i)) ≡ read at j → ⊥

never : (b : Bool) (i : Input) (at : ℕ) (j : Input) → Refused b i at j
never true i at j = λ h. let n : ⊥ = cc in n
never false i at j = λ h. let n : ⊥ = cc in n

-- whether an opener more may stand open
abbrev pub has_room : ℕ → Bool
has_room zero = false
has_room (suc room) = true

shut_first : (b : Bool) (i : Input) (e : Failure) → (if b then open_where (nat_lt 0 0) i else Err (wrong i)) ≡ stopped e → place e ≡ length i.rest
unfolding wrong too_deep left
shut_first true i e h = sym (ap place (failure_is {A = ℕ} (TooDeep (length i.rest)) e h))
shut_first false i e h = sym (ap place (failure_is {A = ℕ} (Wrong (length i.rest)) e h))

shut_opening : (k : TokenKind) (i : Input) (e : Failure) → opening zero (class_of k) i ≡ stopped e → place e ≡ length i.rest
unfolding opening
shut_opening k i e h = shut_first (is (class_of k) (next_token i)) i e h

pub law_opening : {P : Type 0} → (k : TokenKind) → IsOnly k → (room : ℕ) → LawWhere P false (is (class_of k)) any (opening room (class_of k)) (rule.opener room k)
unfolding opening
law_opening k o zero = record {
  sound = λ i at j h. absurd (never (is (class_of k) (next_token i)) i at j h);
  complete = λ i at j d e. absurd d;
  begins = λ i at j d e. absurd d;
  shrinks = λ i at j h. absurd (never (is (class_of k) (next_token i)) i at j h);
  settles = settles_opening zero (class_of k) (not_end k o);
  moves = λ i at j d. absurd d;
  recovers = λ granted. recovers_first (opening zero (class_of k)) (rule.opener zero k) (λ i e h. shut_first (is (class_of k) (next_token i)) i e h);
  ends = λ granted e. absurd (let n : ⊥ = cc in n);
}
law_opening k o (suc room) =
    let a = law_expect k o in
    record {
      sound = λ i at j h. a.sound i at j (sym (opens_with_room room (class_of k) i) ∙ h);
      complete = λ i at j d e. opens_with_room room (class_of k) i ∙ a.complete i at j d e;
      begins = a.begins;
      shrinks = λ i at j h. a.shrinks i at j (sym (opens_with_room room (class_of k) i) ∙ h);
      settles = settles_opening (suc room) (class_of k) (not_end k o);
      moves = moves_token k;
      recovers = λ granted i e h. a.recovers granted i e (sym (opens_with_room room (class_of k) i) ∙ h);
      ends = λ granted e. absurd (let n : ⊥ = cc in n);
    }

shut_behind : {B : Type 0} (q : ℕ → Parser B) (o : Outcome ℕ) (i : Input) (e : Failure) → ((at : ℕ) (j : Input) → o ≡ read at j → ⊥) →
    ((f : Failure) → o ≡ stopped f → place f ≡ length i.rest) → and_then o q ≡ stopped e → place e ≡ length i.rest
shut_behind q (Ok x) i e h g u = absurd (h x.0 x.1 refl)
shut_behind {B} q (Err f) i e h g u = ap place (sym (failure_is {A = B} f e u)) ∙ g f refl

stuck_by : {B : Type 0} (p : Parser ℕ) (q : ℕ → Parser B) (i : Input) (o : Outcome ℕ) → Settled p i o → ((at : ℕ) (j : Input) → o ≡ read at j → ⊥) →
    Settled (p >>= q) i (and_then o q)
stuck_by p q i (Ok x) s h = absurd (h x.0 x.1 refl)
stuck_by p q i (Err e) s h = (s.0, s.1, s.2, s.3, λ more g. ap (λ o. and_then o q) (s.4 more g))

-- an opener, and what stands behind it where there is room for it
pub law_opened : {P B : Type 0} {f h : Nexts} {q : ℕ → Parser B} {s : ℕ → Rule B} (k : TokenKind) → IsOnly k → no_else k ≡ true → (room : ℕ) →
    ((n : ℕ) → room ≡ suc n → (at : ℕ) → LawWhere P true f h (q at) (s at)) → LawWhere P (has_room room) (is (class_of k)) h
    (opening room (class_of k) >>= q) (rule.opener room k >>=ʳ s)
law_opened {q = q} {s = s} k o other zero a =
    let w = law_opening {P = Unit {0}} k o zero in
    record {
      sound = λ i x j e. let u = both_ok (opening zero (class_of k) i) q x j e in absurd (w.sound i u.0 u.1 u.2);
      complete = λ i x j d e. absurd d.2;
      begins = λ i x j d e. absurd d.2;
      shrinks = λ i x j e. let u = both_ok (opening zero (class_of k) i) q x j e in absurd (w.sound i u.0 u.1 u.2);
      settles = λ i. stuck_by (opening zero (class_of k)) q i (opening zero (class_of k) i) (w.settles i) (λ at j e. w.sound i at j e);
      moves = λ i x j d. absurd d.2;
      recovers =
          λ granted. recovers_first (opening zero (class_of k) >>= q) (rule.opener zero k >>=ʳ s)
          (λ i e u. shut_behind q (opening zero (class_of k) i) i e (λ at j g. w.sound i at j g) (λ f g. shut_opening k i f g) u);
      ends = λ granted e. absurd (let n : ⊥ = cc in n);
    }
law_opened {f = f} k o other (suc room) a = law_then (law_ends (λ granted. ends_token k other) (law_opening k o (suc room))) (within_any f) (λ at. a room refl at)

pub law_opened_word : {P B : Type 0} {f h : Nexts} {q : ℕ → Parser B} {s : ℕ → Rule B} (v : WordSymbol) → no_else (kind.Word v) ≡ true → (room : ℕ) →
    ((n : ℕ) → room ≡ suc n → (at : ℕ) → LawWhere P true f h (q at) (s at)) → LawWhere P (has_room room) (is (next.Word v)) h
    (opening room (next.Word v) >>= q) (rule.opener room (kind.Word v) >>=ʳ s)
law_opened_word v other room a = law_opened (kind.Word v) (word_only v) other room a

pub law_opened_symbol : {P B : Type 0} {f h : Nexts} {q : ℕ → Parser B} {s : ℕ → Rule B} (v : Symbol) (room : ℕ) →
    ((n : ℕ) → room ≡ suc n → (at : ℕ) → LawWhere P true f h (q at) (s at)) → LawWhere P (has_room room) (is (next.Symbol v)) h
    (opening room (next.Symbol v) >>= q) (rule.opener room (kind.Symbol v) >>=ʳ s)
law_opened_symbol v room a = law_opened (kind.Symbol v) (symbol_only v) refl room a
