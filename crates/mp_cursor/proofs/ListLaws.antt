-- The laws of lists: of what goes on while the next token is of a set, and of what has separators.
use Rattle.std.proofs.Common.{◌≡◌, ◌⊎◌, inl, inr, Ok, Err, ℕ, zero, suc, ◌<◌, ◌≤◌, Bool, true, false, List, [], ◌∷◌, ◌++◌, length, refl, sym, ap, ◌∙◌, subst, append_assoc, arith}
use Rattle.std.proofs.lemmas.List.{append-nil}
use Rattle.std.specs.Prelude.{if◌then◌else◌}
use Rattle.mp_ast.specs.Rules.{Input, Rule, gives, token, Many, no_more, one_more, many, joined, many_lists}
use Rattle.mp_ast.specs.Rules.{◌>>=◌ as ◌>>=ʳ◌, ◌>>◌ as ◌>>ʳ◌, ◌<$>◌ as ◌<$>ʳ◌}
use Rattle.mp_ast.specs.Rules as rule
use Rattle.mp_cursor.specs.Nexts.{Nexts}
use Rattle.mp_cursor.specs.Parsers.{Outcome, Parser, and_then, ◌>>=◌, ◌>>◌, ◌<$>◌, pure, next_token, branch, loop, repeated, and_one, and_all}
use Rattle.mp_cursor.specs.Parsers.{separated, expect, opening, identifier, number, left}
use Rattle.mp_cursor.specs.Nexts.{is, class_of}
use Rattle.mp_ast.specs.declared.tokens.TokenKind.{TokenKind}
use Rattle.mp_ast.specs.declared.tokens.TokenKind.TheVariants as kind
use Rattle.mp_ast.specs.declared.words.WordSymbol.{WordSymbol}
use Rattle.mp_ast.specs.declared.symbols.Symbol.{Symbol}
use Rattle.mp_cursor.specs.declared.next.Next.TheVariants as next
use Rattle.mp_cursor.proofs.LeafLaws.{law_opening, law_identifier, law_number}
use Rattle.mp_cursor.proofs.NextSets.{within, apart, within_is, apart_is, either_by, in_first, in_second, within_any, within_itself, within_both}
use Rattle.mp_cursor.specs.Nexts.{either}
use Rattle.mp_cursor.proofs.SameRules.{same_value, same_itself}
use Rattle.mp_cursor.proofs.Settled.{settles_repeated}
use Rattle.mp_cursor.specs.declared.failure.Failure.{Failure}
use Rattle.mp_cursor.proofs.Settled.{place, stopped}
use Rattle.mp_cursor.proofs.Recovery.{no_else, failure_is, Taken, Ends, Recovers, Front, Stops, stops_where, front_as, front_first, front_second}
use Rattle.mp_cursor.proofs.Recovery.{front_between, moves_then, ends_then, moves_pure, ends_pure, moves_many, ends_many}
use Rattle.mp_cursor.proofs.RuleLaws.{not_end, LawWhere, Law, read, read_is, both_ok, law_then, law_map, law_as, law_expect, IsOnly, word_only, symbol_only, token_falls}

-- a parser that takes a token at least
pub record Falls {A : Type 0} (p : Parser A) : Type 0 where
  pub by : (i : Input) (x : A) (j : Input) → p i ≡ read x j → length j.rest < length i.rest

pub falls_expect : (k : TokenKind) → IsOnly k → Falls (expect (class_of k))
falls_expect k o = record { by = λ i at j h. token_falls k i at j ((law_expect {P = Unit {0}} k o).sound i at j h) }

pub falls_word : (v : WordSymbol) → Falls (expect (next.Word v))
falls_word v = falls_expect (kind.Word v) (word_only v)

pub falls_symbol : (v : Symbol) → Falls (expect (next.Symbol v))
falls_symbol v = falls_expect (kind.Symbol v) (symbol_only v)

pub falls_opening : (room : ℕ) (k : TokenKind) → IsOnly k → Falls (opening room (class_of k))
falls_opening zero k o = record { by = λ i at j h. absurd ((law_opening {P = Unit {0}} k o zero).sound i at j h) }
falls_opening (suc room) k o = record { by = λ i at j h. token_falls k i at j ((law_opening {P = Unit {0}} k o (suc room)).sound i at j h) }

pub falls_where : {A B : Type 0} {u : Bool} {f g : Nexts} {p : Parser A} {q : A → Parser B} {s : A → Rule B} (P : Type 0) → Falls p →
    ((x : A) → LawWhere P u f g (q x) (s x)) → Falls (p >>= q)
falls_where {p = p} {q = q} P a b = record {
  by = λ i y j h.
      let o = both_ok (p i) q y j h in
      let l = a.by i o.0 o.1 o.2 in
      let n = (b o.0).shrinks o.1 y j o.3 in
      omega arith;
}

pub falls_then : {A B : Type 0} {u : Bool} {f g : Nexts} {p : Parser A} {q : A → Parser B} {s : A → Rule B} → Falls p → ((x : A) → Law u f g (q x) (s x)) → Falls (p >>= q)
falls_then a b = falls_where (Unit {0}) a b

-- an opener and what stands behind it
pub falls_opened : {B : Type 0} {u : Bool} {f h : Nexts} {q : ℕ → Parser B} {s : ℕ → Rule B} (k : TokenKind) → IsOnly k → (room : ℕ) →
    ((n : ℕ) → room ≡ suc n → (at : ℕ) → Law u f h (q at) (s at)) → Falls (opening room (class_of k) >>= q)
falls_opened {q = q} k o zero a =
    record { by = λ i x j e. let w = both_ok (opening zero (class_of k) i) q x j e in absurd ((law_opening {P = Unit {0}} k o zero).sound i w.0 w.1 w.2) }
falls_opened k o (suc room) a = falls_then (falls_opening (suc room) k o) (a room refl)

-- what takes a token behind another parser
pub falls_last : {A B : Type 0} {u : Bool} {f g : Nexts} {p : Parser A} {r : Rule A} {q : A → Parser B} → Law u f g p r → ((x : A) → Falls (q x)) → Falls (p >>= q)
falls_last {p = p} {q = q} a b = record {
  by = λ i y j h.
      let o = both_ok (p i) q y j h in
      let l = a.shrinks i o.0 o.1 o.2 in
      let n = (b o.0).by o.1 y j o.3 in
      omega arith;
}

pub falls_identifier : Falls identifier
falls_identifier = record { by = λ i x j h. token_falls (kind.Id x.name) i x.at j ((law_identifier {P = Unit {0}}).sound i x j h) }

pub falls_number : Falls number
falls_number = record { by = λ i x j h. token_falls (kind.Number x.value) i x.at j ((law_number {P = Unit {0}}).sound i x j h) }

falls_by : {A : Type 0} {p q : Parser A} → Falls p → Falls q → (i : Input) (x : A) (j : Input) (b : Bool) → (if b then p i else q i) ≡ read x j → length j.rest < length i.rest
falls_by a c i x j true h = a.by i x j h
falls_by a c i x j false h = c.by i x j h

pub falls_branch : {A : Type 0} {p q : Parser A} (test : Nexts) → Falls p → Falls q → Falls (branch test p q)
falls_branch test a c = record { by = λ i x j h. falls_by a c i x j (test (next_token i)) h }

pub falls_map : {A B : Type 0} {p : Parser A} (b : A → B) → Falls p → Falls (b <$> p)
falls_map {p = p} b a = record {
  by = λ i y j h.
      let o = both_ok (p i) (λ x. pure (b x)) y j h in
      let l = a.by i o.0 o.1 o.2 in
      let n = ap (λ m. length m.rest) (read_is (b o.0) y o.1 j o.3).1 in
      omega arith;
}

-- ---- what is added turn by turn

abbrev pub adding : {A B : Type 0} → (B → A → B) → Parser A → B → Parser B
adding add p found = (λ x. add found x) <$> p

abbrev pub all_added : {A B : Type 0} → (B → A → B) → B → List A → B
all_added add found [] = found
all_added add found (x ∷ xs) = all_added add (add found x) xs

module _ {P A B : Type 0} {u : Bool} {first inner : Nexts} {p : Parser A} {r : Rule A} (add : B → A → B) (test follow : Nexts)
    (a : LawWhere P u first inner p r) (falls : Falls p) (begins : within first test ≡ true) (stops : apart follow test ≡ true)
    (again : within first inner ≡ true) (last : within follow inner ≡ true) (ends : test next.End ≡ false) where
  abbrev Added : B → Input → B → Input → Type 0
  Added found i y j = (xs : List A) × Many r j xs i × (all_added add found xs ≡ y)

  none_added : (found : B) (i : Input) (y : B) (j : Input) → read found i ≡ read y j → Added found i y j
  none_added found i y j h = let w = read_is found y i j h in ([], subst (λ m. Many r m [] i) w.1 no_more, w.0)

  -- one turn, and then the rest
  turn_sound : (rest : B → Parser B) (found : B) (i : Input) (y : B) (j : Input) → ((z : B) (m : Input) → rest z m ≡ read y j → Added z m y j) →
      (b : Bool) → (if b then (adding add p found >>= rest) i else read found i) ≡ read y j → Added found i y j
  turn_sound rest found i y j ih true h =
      let o = both_ok (adding add p found i) rest y j h in
      let u = both_ok (p i) (λ x. pure (add found x)) o.0 o.1 o.2 in
      let e = read_is (add found u.0) o.0 u.1 o.1 u.3 in
      let w = ih o.0 o.1 o.3 in
      (u.0 ∷ w.0, one_more u.0 w.0 i o.1 (subst (λ m. r i u.0 m) e.1 (a.sound i u.0 u.1 u.2)) w.1, ap (λ z. all_added add z w.0) e.0 ∙ w.2)
  turn_sound rest found i y j ih false h = none_added found i y j h

  loop_sound : (n : ℕ) (found : B) (i : Input) (y : B) (j : Input) → loop test (adding add p) n found i ≡ read y j → Added found i y j
  unfolding loop
  loop_sound zero found i y j h = none_added found i y j h
  loop_sound (suc n) found i y j h = turn_sound (loop test (adding add p) n) found i y j (λ z m e. loop_sound n z m y j e) (test (next_token i)) h

  turn_shrinks : (rest : B → Parser B) (found : B) (i : Input) (y : B) (j : Input) → ((z : B) (m : Input) → rest z m ≡ read y j →
      length j.rest ≤ length m.rest) → (b : Bool) → (if b then (adding add p found >>= rest) i else read found i) ≡ read y j → length j.rest ≤ length i.rest
  turn_shrinks rest found i y j ih true h =
      let o = both_ok (adding add p found i) rest y j h in
      let l = (law_map (λ x. add found x) a).shrinks i o.0 o.1 o.2 in
      let n = ih o.0 o.1 o.3 in
      omega arith
  turn_shrinks rest found i y j ih false h = let e = ap (λ m. length m.rest) (read_is found y i j h).1 in omega arith

  loop_shrinks : (n : ℕ) (found : B) (i : Input) (y : B) (j : Input) → loop test (adding add p) n found i ≡ read y j → length j.rest ≤ length i.rest
  unfolding loop
  loop_shrinks zero found i y j h = let e = ap (λ m. length m.rest) (read_is found y i j h).1 in omega arith
  loop_shrinks (suc n) found i y j h = turn_shrinks (loop test (adding add p) n) found i y j (λ z m e. loop_shrinks n z m y j e) (test (next_token i)) h

  -- what a list begins with
  list_begins : (j : Input) (xs : List A) (i : Input) → Many r j xs i → follow (next_token j) ≡ true → either first follow (next_token i) ≡ true
  list_begins j _ _ no_more e = in_second first follow (next_token j) e
  list_begins j _ _ (one_more x xs i m d ds) e =
      let w = either_by first follow (next_token m) (inner (next_token m) ≡ true) (list_begins j xs m ds e)
      (within_is first inner again (next_token m)) (within_is follow inner last (next_token m)) in
      in_first first follow (next_token i) (a.begins i x m d w)

  before_list : (j : Input) (xs : List A) (m : Input) → Many r j xs m → follow (next_token j) ≡ true → inner (next_token m) ≡ true
  before_list j xs m ds e =
      either_by first follow (next_token m) (inner (next_token m) ≡ true) (list_begins j xs m ds e) (within_is first inner again (next_token m))
      (within_is follow inner last (next_token m))

  loop_complete : (n : ℕ) (found : B) (j : Input) (xs : List A) (i : Input) → Many r j xs i → length i.rest ≤ n → follow (next_token j) ≡ true →
      loop test (adding add p) n found i ≡ read (all_added add found xs) j
  unfolding loop
  loop_complete zero found j _ _ no_more l e = refl
  loop_complete (suc n) found j _ _ no_more l e =
      ap (λ b. if b then (adding add p found >>= loop test (adding add p) n) j else read found j) (apart_is follow test stops (next_token j) e)
  loop_complete zero found j _ _ (one_more x xs i m d ds) l e =
      let o = a.complete i x m d (before_list j xs m ds e) in
      let f = falls.by i x m o in
      absurd (let z : ⊥ = omega arith in z)
  loop_complete (suc n) found j _ _ (one_more x xs i m d ds) l e =
      let w = before_list j xs m ds e in
      let o = a.complete i x m d w in
      let f = falls.by i x m o in
      ap (λ b. if b then (adding add p found >>= loop test (adding add p) n) i else read found i) (within_is first test begins (next_token i) (a.begins i x m d w))
      ∙ ap (λ u. and_then (and_then u (λ x. pure (add found x))) (loop test (adding add p) n)) o
      ∙ loop_complete n (add found x) j xs m ds (omega arith) e

  turn_falls : (x : B) (i : Input) (y : B) (j : Input) → adding add p x i ≡ read y j → length j.rest < length i.rest
  turn_falls x i y j h = (falls_map (λ z. add x z) falls).by i y j h

  abbrev All : B → Rule B
  All found = (λ xs. all_added add found xs) <$>ʳ many r

  -- one item more in front
  in_front : (found : B) (i : Input) (y : B) (j : Input) → (r >>=ʳ (λ x. All (add found x))) i y j → All found i y j
  in_front found i y j d = let w = d.3 in (d.0 ∷ w.0, w.1, one_more d.0 w.0 i d.1 d.2 w.2, w.3)

  ends_all : (found : B) → Ends (All found)
  ends_all found = ends_then (many r) (λ xs. gives (all_added add found xs)) (ends_many r) (λ xs. ends_pure (all_added add found xs))

  -- an item stops, or what follows it
  turn_stops : P → (rest : B → Parser B) (found : B) (i : Input) (e : Failure) → ((z : B) → Stops (rest z) (All z)) → (o : Outcome A) → p i ≡ o →
      and_then (and_then o (λ x. pure (add found x))) rest ≡ stopped e → ((place e < length i.rest) × Front (All found) i (place e)) ⊎ (place e ≡ length i.rest)
  turn_stops granted rest found i e ih (Err f) g h = stopped_first (stops_where p r a.settles (a.recovers granted) i e (g ∙ ap stopped (failure_is {A = B} f e h)))
    where
      stopped_first : ((place e < length i.rest) × Front r i (place e)) ⊎ (place e ≡ length i.rest) →
          ((place e < length i.rest) × Front (All found) i (place e)) ⊎ (place e ≡ length i.rest)
      stopped_first (inl w) =
          inl (
            w.0,
            front_as (r >>=ʳ (λ x. All (add found x))) (All found) i (place e) (in_front found)
                (front_first r (λ x. All (add found x)) i (place e) w.1 (λ x. ends_all (add found x))),
          )
      stopped_first (inr w) = inr w
  turn_stops granted rest found i e ih (Ok x) g h = stopped_second (ih (add found x.0) x.1 e h)
    where
      l : length x.1.rest < length i.rest
      l = falls.by i x.0 x.1 g

      taken : Taken r i x.0 x.1
      taken = a.moves i x.0 x.1 (a.sound i x.0 x.1 g)

      stopped_second : ((place e < length x.1.rest) × Front (All (add found x.0)) x.1 (place e)) ⊎ (place e ≡ length x.1.rest) →
          ((place e < length i.rest) × Front (All found) i (place e)) ⊎ (place e ≡ length i.rest)
      stopped_second (inl w) =
          let k = w.0 in inl (
            omega (arith, k, l),
            front_as (r >>=ʳ (λ x. All (add found x))) (All found) i (place e) (in_front found)
                (front_second r (λ x. All (add found x)) i x.0 x.1 (place e) taken w.1 w.0),
          )
      stopped_second (inr w) =
          inl (
            omega (arith, w, l),
            front_as (r >>=ʳ (λ x. All (add found x))) (All found) i (place e) (in_front found)
                (front_between r (λ x. All (add found x)) i x.0 x.1 (place e) taken (ends_all (add found x.0) x.1) w),
          )

  loop_by : P → (rest : B → Parser B) (found : B) (i : Input) (e : Failure) → ((z : B) → Stops (rest z) (All z)) → (b : Bool) →
      (if b then (adding add p found >>= rest) i else read found i) ≡ stopped e → ((place e < length i.rest) × Front (All found) i (place e)) ⊎ (place e ≡ length i.rest)
  loop_by granted rest found i e ih true h = turn_stops granted rest found i e ih (p i) refl h
  loop_by granted rest found i e ih false h = absurd (let n : ⊥ = cc in n)

  loop_stops : P → (n : ℕ) (found : B) → Stops (loop test (adding add p) n found) (All found)
  unfolding loop
  loop_stops granted zero found i e h = absurd (let n : ⊥ = cc in n)
  loop_stops granted (suc n) found i e h = loop_by granted (loop test (adding add p) n) found i e (λ z. loop_stops granted n z) (test (next_token i)) h

  loop_recovers : P → (found : B) → Recovers (repeated test (adding add p) found) (All found)
  unfolding repeated left
  loop_recovers granted found i e h l = front_of (loop_stops granted (length i.rest) found i e h)
    where
      front_of : ((place e < length i.rest) × Front (All found) i (place e)) ⊎ (place e ≡ length i.rest) → Front (All found) i (place e)
      front_of (inl w) = w.1
      front_of (inr w) = absurd (let n : ⊥ = omega (arith, w, l) in n)

  -- a list, each item of which is added to what was found
  pub law_repeated : (found : B) → LawWhere P true (either first follow) follow (repeated test (adding add p) found) ((λ xs. all_added add found xs) <$>ʳ many r)
  unfolding repeated left
  law_repeated found = record {
    sound = λ i y j h. let w = loop_sound (length i.rest) found i y j h in (w.0, j, w.1, (w.2, refl));
    complete = λ i y j d e.
        let v = ap (λ m. follow (next_token m)) d.3.1 ∙ e in
        loop_complete (length i.rest) found d.1 d.0 i d.2 (omega arith) v ∙ ap (λ z. read z d.1) d.3.0 ∙ ap (λ m. read y m) d.3.1;
    begins = λ i y j d e. list_begins d.1 d.0 i d.2 (ap (λ m. follow (next_token m)) d.3.1 ∙ e);
    shrinks = λ i y j h. loop_shrinks (length i.rest) found i y j h;
    settles = settles_repeated test (adding add p) ends turn_falls (λ x. (law_map (λ y. add x y) a).settles) found;
    moves = moves_then (many r) (λ xs. gives (all_added add found xs)) (λ i xs j d. moves_many r a.moves j xs i d) (λ xs. moves_pure (all_added add found xs));
    recovers = λ granted. loop_recovers granted found;
    ends = λ granted e. ends_all found;
  }

-- ---- items

abbrev pub one_at_the_end : {A : Type 0} → List A → A → List A
one_at_the_end found x = found ++ x ∷ []

pub ones_added : {A : Type 0} (found xs : List A) → all_added one_at_the_end found xs ≡ found ++ xs
ones_added found [] = sym (append-nil found)
ones_added found (x ∷ xs) = ones_added (found ++ x ∷ []) xs ∙ append_assoc found (x ∷ []) xs

abbrev pub all_at_the_end : {A : Type 0} → List A → List A → List A
all_at_the_end found xs = found ++ xs

pub lists_added : {A : Type 0} (found : List A) (lists : List (List A)) → all_added all_at_the_end found lists ≡ found ++ joined lists
lists_added found [] = sym (append-nil found)
lists_added found (xs ∷ lists) = lists_added (found ++ xs) lists ∙ append_assoc found xs (joined lists)

module _ {P A : Type 0} {u : Bool} {first inner : Nexts} {p : Parser A} {r : Rule A} (test follow : Nexts) (a : LawWhere P u first inner p r)
    (falls : Falls p) (begins : within first test ≡ true) (stops : apart follow test ≡ true) (again : within first inner ≡ true)
    (last : within follow inner ≡ true) (ends : test next.End ≡ false) where
  pub law_many_from : (found : List A) → LawWhere P true (either first follow) follow (repeated test (and_one p) found) ((λ xs. found ++ xs) <$>ʳ many r)
  law_many_from found = law_as (same_value _ _ (ones_added found)) (law_repeated one_at_the_end test follow a falls begins stops again last ends found)

  pub law_many : LawWhere P true (either first follow) follow (repeated test (and_one p) []) (many r)
  law_many = law_as same_itself (law_many_from [])

module _ {P A : Type 0} {u : Bool} {first inner : Nexts} {p : Parser (List A)} {r : Rule (List A)} (test follow : Nexts)
    (a : LawWhere P u first inner p r) (falls : Falls p) (begins : within first test ≡ true) (stops : apart follow test ≡ true)
    (again : within first inner ≡ true) (last : within follow inner ≡ true) (ends : test next.End ≡ false) where
  pub law_many_lists : LawWhere P true (either first follow) follow (repeated test (and_all p) []) (many_lists r)
  law_many_lists = law_as (same_value _ _ (lists_added [])) (law_repeated all_at_the_end test follow a falls begins stops again last ends [])

-- ---- separators

module _ {P A : Type 0} {first inner : Nexts} {p : Parser A} {r : Rule A} (k : TokenKind) (o : IsOnly k) (a : LawWhere P true first inner p r) where
  -- a separator and an item
  pub law_further : LawWhere P (no_else k) (is (class_of k)) inner (expect (class_of k) >> p) (token k >>ʳ r)
  law_further = law_then (law_expect k o) (within_any first) (λ at. a)

  pub falls_further : Falls (expect (class_of k) >> p)
  falls_further = falls_where P (falls_expect k o) (λ at. a)

module _ {P A : Type 0} {first inner : Nexts} {p : Parser A} {r : Rule A} (k : TokenKind) (o : IsOnly k) (follow : Nexts)
    (a : LawWhere P true first inner p r) (stops : apart follow (is (class_of k)) ≡ true) (again : within (is (class_of k)) inner ≡ true) (last : within follow inner ≡ true) where
  pub law_separated : LawWhere P true first follow (separated (class_of k) p) (rule.separated (token k) r)
  law_separated = law_then a (within_both (is (class_of k)) follow inner again last) (λ x.
      law_many_from (is (class_of k)) follow (law_further k o a) (falls_further k o a) (within_itself (is (class_of k))) stops again last (not_end k o) (x ∷ []))
