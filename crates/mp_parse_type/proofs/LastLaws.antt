-- The law of lists whose items have separators between them, and that end, behind one more separator, with something
-- else.
use Rattle.std.proofs.Common.{◌≡◌, ◌⊎◌, inl, inr, Ok, Err, ℕ, zero, suc, ◌<◌, ◌≤◌, Bool, true, false, List, [], ◌∷◌, ◌++◌, length, refl, sym, ap, ◌∙◌, subst, append_assoc, arith}
use Rattle.std.proofs.lemmas.List.{append-nil}
use Rattle.std.specs.Prelude.{if◌then◌else◌}
use Rattle.mp_ast.specs.declared.tokens.TokenKind.{TokenKind}
use Rattle.mp_ast.specs.Rules.{Input, Rule, gives, token, Many, no_more, one_more, many}
use Rattle.mp_ast.specs.Rules.{◌>>=◌ as ◌>>=ʳ◌, ◌>>◌ as ◌>>ʳ◌, ◌<$>◌ as ◌<$>ʳ◌, ◌<|>◌ as ◌<|>ʳ◌}
use Rattle.mp_cursor.specs.declared.next.Next.{Next}
use Rattle.mp_cursor.specs.Nexts.{Nexts, is, class_of, either}
use Rattle.mp_cursor.specs.Parsers.{Outcome, Parser, and_then, ◌>>=◌, ◌>>◌, ◌<$>◌, pure, next_token, branch, and_one, expect, left}
use Rattle.mp_cursor.proofs.NextSets.{within, apart, within_is, apart_is, in_first, in_second, within_both}
use Rattle.mp_parse_type.proofs.SettledLast.{settles_with_last}
use Rattle.mp_cursor.specs.declared.failure.Failure.{Failure}
use Rattle.mp_cursor.proofs.Settled.{place, stopped, put}
use Rattle.mp_cursor.proofs.Recovery.{failure_is, Moves, Taken, Ends, Front, Stops, stops_where, front_as, front_first, front_second, front_between}
use Rattle.mp_cursor.proofs.Recovery.{moves_then, moves_or, moves_pure, moves_many, moves_token, ends_then, ends_pure}
use Rattle.mp_cursor.proofs.RuleLaws.{expect_first, not_end, Law, read, read_is, both_ok, law_map, law_expect, IsOnly, token_falls}
use Rattle.mp_parse_type.specs.Types.{series_and_last, repeated_and_last}

module _ {A B C : Type 0} {u : Bool} {first inner begin : Nexts} {p : Parser A} {r : Rule A} {q : Parser C} {t : Rule C} (k : TokenKind)
    (o : IsOnly k) (test follow : Nexts) (add : List A → C → B) (nothing : C) (a : Law u first inner p r) (c : Law true begin follow q t)
    (begins : within first test ≡ true) (stops : apart follow (is (class_of k)) ≡ true) (ends : apart begin test ≡ true)
    (again : within (is (class_of k)) inner ≡ true) (last : within follow inner ≡ true) where
  abbrev n : Next
  n = class_of k

  -- behind the items: a separator and what is last, or nothing
  abbrev ending : Rule C
  ending = (token k >>ʳ t) <|>ʳ gives nothing

  abbrev with_last : List A → Parser B
  with_last found = add found <$> q

  abbrev whole : List A → B
  whole found = add found nothing

  abbrev rest : ℕ → List A → Parser B
  rest = series_and_last n test (and_one p) with_last whole

  abbrev behind : (List A → Parser B) → List A → Parser B
  behind more found = branch test (and_one p found >>= more) (with_last found)

  abbrev Ended : List A → Input → B → Input → Type 0
  Ended found i y j = (xs : List A) × (m : Input) × Many (token k >>ʳ r) m xs i × (e : C) × ending m e j × (add (found ++ xs) e ≡ y)

  -- ---- what is read the rule allows

  ended : (found : List A) (i : Input) (y : B) (j : Input) → read (whole found) i ≡ read y j → Ended found i y j
  ended found i y j h = let w = read_is (whole found) y i j h in ([], i, no_more, nothing, inr (refl, w.1), ap (λ z. add z nothing) (append-nil found) ∙ w.0)

  behind_sound : (more : List A → Parser B) (found : List A) (i : Input) (at : ℕ) (m : Input) (y : B) (j : Input) → token k i at m →
      ((z : List A) (l : Input) → more z l ≡ read y j → Ended z l y j) → (b : Bool) → (if b then
      (and_one p found >>= more) m else with_last found m) ≡ read y j → Ended found i y j
  behind_sound more found i at m y j d ih true h =
      let w = both_ok (and_one p found m) more y j h in
      let u = both_ok (p m) (λ x. pure (found ++ x ∷ [])) w.0 w.1 w.2 in
      let e = read_is (found ++ u.0 ∷ []) w.0 u.1 w.1 u.3 in
      let s = ih w.0 w.1 w.3 in (
        u.0 ∷ s.0,
        s.1,
        one_more u.0 s.0 i w.1 (at, m, d, subst (λ l. r m u.0 l) e.1 (a.sound m u.0 u.1 u.2)) s.2,
        s.3,
        s.4,
        ap (λ z. add z s.3) (sym (append_assoc found (u.0 ∷ []) s.0) ∙ ap (λ z. z ++ s.0) e.0) ∙ s.5,
      )
  behind_sound more found i at m y j d ih false h =
      let u = both_ok (q m) (λ x. pure (add found x)) y j h in
      let e = read_is (add found u.0) y u.1 j u.3 in
      ([], i, no_more, u.0, inl (at, m, d, subst (λ l. t m u.0 l) e.1 (c.sound m u.0 u.1 u.2)), ap (λ z. add z u.0) (append-nil found) ∙ e.0)

  turn_sound : (more : List A → Parser B) (found : List A) (i : Input) (y : B) (j : Input) →
      ((z : List A) (l : Input) → more z l ≡ read y j → Ended z l y j) → (b : Bool) → (if b then (expect n >> behind more found) i else read
      (whole found) i) ≡ read y j → Ended found i y j
  turn_sound more found i y j ih true h =
      let w = both_ok (expect n i) (λ at. behind more found) y j h in
      behind_sound more found i w.0 w.1 y j ((law_expect {P = Unit {0}} k o).sound i w.0 w.1 w.2) ih (test (next_token w.1)) w.3
  turn_sound more found i y j ih false h = ended found i y j h

  list_sound : (count : ℕ) (found : List A) (i : Input) (y : B) (j : Input) → rest count found i ≡ read y j → Ended found i y j
  unfolding series_and_last
  list_sound zero found i y j h = ended found i y j h
  list_sound (suc count) found i y j h = turn_sound (rest count) found i y j (λ z l e. list_sound count z l y j e) (is n (next_token i)) h

  behind_shrinks : (more : List A → Parser B) (found : List A) (m : Input) (y : B) (j : Input) →
      ((z : List A) (l : Input) → more z l ≡ read y j → length j.rest ≤ length l.rest) → (b : Bool) →
      (if b then (and_one p found >>= more) m else with_last found m) ≡ read y j → length j.rest ≤ length m.rest
  behind_shrinks more found m y j ih true h =
      let w = both_ok (and_one p found m) more y j h in
      let f = (law_map (λ x. found ++ x ∷ []) a).shrinks m w.0 w.1 w.2 in
      let g = ih w.0 w.1 w.3 in
      omega arith
  behind_shrinks more found m y j ih false h = (law_map (add found) c).shrinks m y j h

  turn_shrinks : (more : List A → Parser B) (found : List A) (i : Input) (y : B) (j : Input) →
      ((z : List A) (l : Input) → more z l ≡ read y j → length j.rest ≤ length l.rest) → (b : Bool) →
      (if b then (expect n >> behind more found) i else read (whole found) i) ≡ read y j → length j.rest ≤ length i.rest
  turn_shrinks more found i y j ih true h =
      let w = both_ok (expect n i) (λ at. behind more found) y j h in
      let e = (law_expect {P = Unit {0}} k o).shrinks i w.0 w.1 w.2 in
      let f = behind_shrinks more found w.1 y j ih (test (next_token w.1)) w.3 in
      omega arith
  turn_shrinks more found i y j ih false h = let e = ap (λ l. length l.rest) (read_is (whole found) y i j h).1 in omega arith

  list_shrinks : (count : ℕ) (found : List A) (i : Input) (y : B) (j : Input) → rest count found i ≡ read y j → length j.rest ≤ length i.rest
  unfolding series_and_last
  list_shrinks zero found i y j h = let e = ap (λ l. length l.rest) (read_is (whole found) y i j h).1 in omega arith
  list_shrinks (suc count) found i y j h = turn_shrinks (rest count) found i y j (λ z l e. list_shrinks count z l y j e) (is n (next_token i)) h

  -- ---- what the rule allows is read

  sees : (i : Input) (at : ℕ) (m : Input) → token k i at m → is n (next_token i) ≡ true
  sees i at m d = (law_expect {P = Unit {0}} k o).begins i at m d refl

  -- where the items end
  ending_begins : (i : Input) (e : C) (j : Input) → ending i e j → follow (next_token j) ≡ true → either (is n) follow (next_token i) ≡ true
  ending_begins i e j (inl d) v = in_first (is n) follow (next_token i) (sees i d.0 d.1 d.2)
  ending_begins i e j (inr d) v = in_second (is n) follow (next_token i) (ap (λ m. follow (next_token m)) d.1 ∙ v)

  list_begins : (l : Input) → either (is n) follow (next_token l) ≡ true → (xs : List A) (i : Input) → Many (token k >>ʳ r) l xs i → either (is n) follow (next_token i) ≡ true
  list_begins l v _ _ no_more = v
  list_begins l v _ _ (one_more x xs i m d ds) = in_first (is n) follow (next_token i) (sees i d.0 d.1 d.2)

  ending_read : (count : ℕ) (found : List A) (i : Input) (e : C) (j : Input) → ending i e j → follow (next_token j) ≡ true → length i.rest ≤ count →
      rest count found i ≡ read (add found e) j
  unfolding series_and_last
  ending_read zero found i e j (inl d) v l = absurd (let f = token_falls k i d.0 d.1 d.2 in let z : ⊥ = omega arith in z)
  ending_read (suc count) found i e j (inl d) v l =
      ap (λ b. if b then (expect n >> behind (rest count) found) i else read (whole found) i) (sees i d.0 d.1 d.2)
      ∙ ap (λ u. and_then u (λ at. behind (rest count) found)) ((law_expect {P = Unit {0}} k o).complete i d.0 d.1 d.2 refl)
      ∙ ap (λ b. if b then (and_one p found >>= rest count) d.1 else with_last found d.1) (apart_is begin test ends (next_token d.1) (c.begins d.1 e j d.3 v))
      ∙ ap (λ u. and_then u (λ x. pure (add found x))) (c.complete d.1 e j d.3 v)
  ending_read zero found i e j (inr d) v l = ap (λ z. read (add found z) i) d.0 ∙ ap (λ m. read (add found e) m) d.1
  ending_read (suc count) found i e j (inr d) v l =
      ap (λ b. if b then (expect n >> behind (rest count) found) i else read (whole found) i)
      (apart_is follow (is n) stops (next_token i) (ap (λ m. follow (next_token m)) d.1 ∙ v))
      ∙ ap (λ z. read (add found z) i) d.0 ∙ ap (λ m. read (add found e) m) d.1

  list_complete : (e : C) (l j : Input) → ending l e j → follow (next_token j) ≡ true → (count : ℕ) (found xs : List A) (i : Input) →
      Many (token k >>ʳ r) l xs i → length i.rest ≤ count → rest count found i ≡ read (add (found ++ xs) e) j
  unfolding series_and_last
  list_complete e l j s v count found _ _ no_more h = ending_read count found l e j s v h ∙ ap (λ z. read (add z e) j) (sym (append-nil found))
  list_complete e l j s v zero found _ _ (one_more x xs i m d ds) h = absurd (let f = token_falls k i d.0 d.1 d.2 in let z : ⊥ = omega arith in z)
  list_complete e l j s v (suc count) found _ _ (one_more x xs i m d ds) h =
      let w = within_is (either (is n) follow) inner (within_both (is n) follow inner again last) (next_token m) (list_begins l (ending_begins l e j s v) xs m ds) in
      let u = a.complete d.1 x m d.3 w in
      let f = token_falls k i d.0 d.1 d.2 in
      let g = a.shrinks d.1 x m u in
      ap (λ b. if b then (expect n >> behind (rest count) found) i else read (whole found) i) (sees i d.0 d.1 d.2)
      ∙ ap (λ z. and_then z (λ at. behind (rest count) found)) ((law_expect {P = Unit {0}} k o).complete i d.0 d.1 d.2 refl)
      ∙ ap (λ b. if b then (and_one p found >>= rest count) d.1 else with_last found d.1) (within_is first test begins (next_token d.1) (a.begins d.1 x m d.3 w))
      ∙ ap (λ z. and_then (and_then z (λ x. pure (found ++ x ∷ []))) (rest count)) u
      ∙ list_complete e l j s v count (found ++ x ∷ []) xs m ds (omega arith)
      ∙ ap (λ z. read (add z e) j) (append_assoc found (x ∷ []) xs)

  separator_falls : (i : Input) (at : ℕ) (j : Input) → expect n i ≡ read at j → length j.rest < length i.rest
  separator_falls i at j h = token_falls k i at j ((law_expect {P = Unit {0}} k o).sound i at j h)

  item_shrinks : (x : List A) (i : Input) (y : List A) (j : Input) → and_one p x i ≡ read y j → length j.rest ≤ length i.rest
  item_shrinks x i y j h = (law_map (λ z. x ++ z ∷ []) a).shrinks i y j h

  -- ---- where the parser stops

  abbrev All : List A → Rule B
  All found = many (token k >>ʳ r) >>=ʳ (λ xs. ending >>=ʳ (λ e. gives (add (found ++ xs) e)))

  moves_all : (found : List A) → Moves (All found)
  moves_all found = moves_then (many (token k >>ʳ r)) (λ xs. ending >>=ʳ (λ e. gives (add (found ++ xs) e)))
      (λ i xs j d. moves_many (token k >>ʳ r) (moves_then (token k) (λ at. r) (moves_token k) (λ at. a.moves)) j xs i d)
      (λ xs. moves_then ending (λ e. gives (add (found ++ xs) e))
      (moves_or (token k >>ʳ t) (gives nothing) (moves_then (token k) (λ at. t) (moves_token k) (λ at. c.moves)) (moves_pure nothing))
      (λ e. moves_pure (add (found ++ xs) e)))

  ends_all : (found : List A) → Ends (All found)
  ends_all found i = ([], add (found ++ []) nothing, i, λ ks o. o, λ ks o. ([], put i ks, no_more, (nothing, put i ks, inr (refl, refl), (refl, refl))))

  -- one item more in front
  in_front : (found : List A) (i : Input) (y : B) (j : Input) → ((token k >>ʳ r) >>=ʳ (λ x. All (found ++ x ∷ []))) i y j → All found i y j
  in_front found i y j d =
      let s = d.3 in
      let e = s.3 in
      (d.0 ∷ s.0, s.1, one_more d.0 s.0 i d.1 d.2 s.2, (e.0, e.1, e.2, (ap (λ z. add z e.0) (sym (append_assoc found (d.0 ∷ []) s.0)) ∙ e.3.0, e.3.1)))

  abbrev last_item : List A → Rule B
  last_item found = token k >>ʳ (add found <$>ʳ t)

  -- what is last, behind a separator
  as_last : (found : List A) (i : Input) (y : B) (j : Input) → last_item found i y j → All found i y j
  as_last found i y j d =
      let s = d.3 in
      ([], i, no_more, (s.0, s.1, inl (d.0, d.1, d.2, s.2), (ap (λ z. add z s.0) (append-nil found) ∙ s.3.0, s.3.1)))

  ends_last : (found : List A) → Ends (add found <$>ʳ t)
  ends_last found = ends_then t (λ x. gives (add found x)) (c.ends tt refl) (λ x. ends_pure (add found x))

  after_separator : (found : List A) (i : Input) (at : ℕ) (m : Input) → token k i at m → (place : ℕ) → place ≡ length m.rest → Front (All found) i place
  after_separator found i at m d place w =
      front_as (last_item found) (All found) i place (as_last found) (front_between (token k) (λ at. add found <$>ʳ t) i at m place (moves_token k i at m d) (ends_last found m) w)

  abbrev Inside : List A → Input → Failure → Type 0
  Inside found i e = ((place e < length i.rest) × Front (All found) i (place e)) ⊎ (place e ≡ length i.rest)

  last_stops : (found : List A) (i : Input) (at : ℕ) (m : Input) (e : Failure) → token k i at m →
      ((place e < length m.rest) × Front (add found <$>ʳ t) m (place e)) ⊎ (place e ≡ length m.rest) → Inside found i e
  last_stops found i at m e d (inl w) =
      let v = w.0 in
      let l = token_falls k i at m d in
      inl (
        omega (arith, v, l),
        front_as (last_item found) (All found) i (place e) (as_last found)
            (front_second (token k) (λ at. add found <$>ʳ t) i at m (place e) (moves_token k i at m d) w.1 w.0),
      )
  last_stops found i at m e d (inr w) =
      let l = token_falls k i at m d in
      inl (omega (arith, w, l), after_separator found i at m d (place e) w)

  item_stops : (more : List A → Parser B) (found : List A) (i : Input) (at : ℕ) (m : Input) (e : Failure) → token k i at m →
      ((z : List A) → Stops (more z) (All z)) → (o : Outcome A) → p m ≡ o → and_then (and_then o (λ x. pure (found ++ x ∷ []))) more ≡ stopped e → Inside found i e
  item_stops more found i at m e d ih (Err f) g h = first_stops (stops_where p r a.settles (a.recovers tt) m e (g ∙ ap stopped (failure_is {A = B} f e h)))
    where
      l : length m.rest < length i.rest
      l = token_falls k i at m d

      first_stops : ((place e < length m.rest) × Front r m (place e)) ⊎ (place e ≡ length m.rest) → Inside found i e
      first_stops (inl w) =
          let v = w.0 in
          inl (
            omega (arith, v, l),
            front_as ((token k >>ʳ r) >>=ʳ (λ x. All (found ++ x ∷ []))) (All found) i (place e) (in_front found)
                (front_first (token k >>ʳ r) (λ x. All (found ++ x ∷ [])) i (place e) (front_second (token k) (λ at. r) i at m (place e)
                (moves_token k i at m d) w.1 w.0) (λ x. ends_all (found ++ x ∷ []))),
          )
      first_stops (inr w) = inl (omega (arith, w, l), after_separator found i at m d (place e) w)
  item_stops more found i at m e d ih (Ok x) g h = second_stops (ih (found ++ x.0 ∷ []) x.1 e h)
    where
      l : length m.rest < length i.rest
      l = token_falls k i at m d

      n_ : length x.1.rest ≤ length m.rest
      n_ = a.shrinks m x.0 x.1 g

      taken : Taken (token k >>ʳ r) i x.0 x.1
      taken = moves_then (token k) (λ at. r) (moves_token k) (λ at. a.moves) i x.0 x.1 (at, m, d, a.sound m x.0 x.1 g)

      second_stops : ((place e < length x.1.rest) × Front (All (found ++ x.0 ∷ [])) x.1 (place e)) ⊎ (place e ≡ length x.1.rest) → Inside found i e
      second_stops (inl w) =
          let v = w.0 in
          inl (
            omega (arith, v, l, n_),
            front_as ((token k >>ʳ r) >>=ʳ (λ x. All (found ++ x ∷ []))) (All found) i (place e) (in_front found)
                (front_second (token k >>ʳ r) (λ x. All (found ++ x ∷ [])) i x.0 x.1 (place e) taken w.1 w.0),
          )
      second_stops (inr w) =
          inl (
            omega (arith, w, l, n_),
            front_as ((token k >>ʳ r) >>=ʳ (λ x. All (found ++ x ∷ []))) (All found) i (place e) (in_front found)
                (front_between (token k >>ʳ r) (λ x. All (found ++ x ∷ [])) i x.0 x.1 (place e) taken (ends_all (found ++ x.0 ∷ []) x.1) w),
          )

  behind_stops : (more : List A → Parser B) (found : List A) (i : Input) (at : ℕ) (m : Input) (e : Failure) → token k i at m →
      ((z : List A) → Stops (more z) (All z)) → (b : Bool) → (if b then (and_one p found >>= more) m else with_last found m) ≡ stopped e → Inside found i e
  behind_stops more found i at m e d ih true h = item_stops more found i at m e d ih (p m) refl h
  behind_stops more found i at m e d ih false h =
      last_stops found i at m e d (stops_where (with_last found) (add found <$>ʳ t) (law_map (add found) c).settles ((law_map (add found) c).recovers tt) m e h)

  separator_stops : (more : List A → Parser B) (found : List A) (i : Input) (e : Failure) → ((z : List A) → Stops (more z) (All z)) →
      (o : Outcome ℕ) → expect n i ≡ o → and_then o (λ at. behind more found) ≡ stopped e → Inside found i e
  separator_stops more found i e ih (Ok x) g h = behind_stops more found i x.0 x.1 e ((law_expect {P = Unit {0}} k o).sound i x.0 x.1 g) ih (test (next_token x.1)) h
  separator_stops more found i e ih (Err f) g h = inr (expect_first k i e (g ∙ ap stopped (failure_is {A = B} f e h)))

  turn_stops : (more : List A → Parser B) (found : List A) (i : Input) (e : Failure) → ((z : List A) → Stops (more z) (All z)) → (b : Bool) →
      (if b then (expect n >> behind more found) i else read (whole found) i) ≡ stopped e → Inside found i e
  turn_stops more found i e ih true h = separator_stops more found i e ih (expect n i) refl h
  turn_stops more found i e ih false h = absurd (let z : ⊥ = cc in z)

  list_stops : (count : ℕ) (found : List A) → Stops (rest count found) (All found)
  unfolding series_and_last
  list_stops zero found i e h = absurd (let z : ⊥ = cc in z)
  list_stops (suc count) found i e h = turn_stops (rest count) found i e (λ z. list_stops count z) (is n (next_token i)) h

  front_of : (found : List A) (i : Input) (e : Failure) → place e < length i.rest → Inside found i e → Front (All found) i (place e)
  front_of found i e l (inl w) = w.1
  front_of found i e l (inr w) = absurd (let z : ⊥ = omega (arith, w, l) in z)

  pub law_with_last : (found : List A) → Law true (either (is n) follow) follow (repeated_and_last n test (and_one p) with_last whole found)
      (many (token k >>ʳ r) >>=ʳ (λ xs. ending >>=ʳ (λ e. gives (add (found ++ xs) e))))
  unfolding repeated_and_last left
  law_with_last found = record {
    sound = λ i y j h. let w = list_sound (length i.rest) found i y j h in (w.0, w.1, w.2, (w.3, j, w.4, (w.5, refl)));
    complete = λ i y j d e.
        let t = d.3 in
        let v = ap (λ m. follow (next_token m)) t.3.1 ∙ e in
        list_complete t.0 d.1 t.1 t.2 v (length i.rest) found d.0 i d.2 (omega arith) ∙ ap (λ z. read z t.1) t.3.0 ∙ ap (λ m. read y m) t.3.1;
    begins = λ i y j d e.
        let t = d.3 in
        let v = ap (λ m. follow (next_token m)) t.3.1 ∙ e in
        list_begins d.1 (ending_begins d.1 t.0 t.1 t.2 v) d.0 i d.2;
    shrinks = λ i y j h. list_shrinks (length i.rest) found i y j h;
    settles =
        settles_with_last n test (and_one p) with_last whole (not_end k o) separator_falls item_shrinks (λ x. (law_map (λ y. x ++ y ∷ []) a).settles)
        (λ x. (law_map (add x) c).settles) found;
    moves = moves_all found;
    recovers = λ granted i e h l. front_of found i e l (list_stops (length i.rest) found i e h);
    ends = λ granted e. ends_all found;
  }
