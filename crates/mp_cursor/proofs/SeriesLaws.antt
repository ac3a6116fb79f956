-- The law of lists whose items have separators between them, and that may end with one more.
use Rattle.std.proofs.Common.{◌≡◌, ◌⊎◌, inl, inr, Ok, Err, ℕ, zero, suc, ◌<◌, ◌≤◌, Bool, true, false, List, [], ◌∷◌, ◌++◌, length, Option, Some, None}
use Rattle.std.proofs.Common.{refl, sym, ap, ◌∙◌, subst, append_assoc, arith}
use Rattle.std.proofs.lemmas.List.{append-nil}
use Rattle.std.specs.Prelude.{if◌then◌else◌}
use Rattle.mp_ast.specs.declared.tokens.TokenKind.{TokenKind}
use Rattle.mp_ast.specs.Rules.{Input, Rule, gives, token, Many, no_more, one_more, many, optional}
use Rattle.mp_ast.specs.Rules.{◌>>=◌ as ◌>>=ʳ◌, ◌>>◌ as ◌>>ʳ◌, ◌<$>◌ as ◌<$>ʳ◌}
use Rattle.mp_ast.specs.Rules as rule
use Rattle.mp_cursor.specs.declared.next.Next.{Next}
use Rattle.mp_cursor.specs.Nexts.{Nexts}
use Rattle.mp_cursor.specs.Parsers.{Outcome, Parser, and_then, ◌>>=◌, ◌>>◌, pure, next_token, branch, series, repeated_series, separated_series, and_one, expect, left}
use Rattle.mp_cursor.specs.Nexts.{is, class_of}
use Rattle.mp_cursor.proofs.NextSets.{within, apart, within_is, apart_is, in_first, in_second, within_both}
use Rattle.mp_cursor.specs.Nexts.{either}
use Rattle.mp_cursor.proofs.Settled.{settles_series}
use Rattle.mp_cursor.specs.declared.failure.Failure.{Failure}
use Rattle.mp_cursor.proofs.Settled.{place, stopped, put}
use Rattle.mp_cursor.proofs.Recovery.{failure_is, open_instead, Moves, Taken, Ends, Front, Stops, stops_where, front_as, front_first, front_second}
use Rattle.mp_cursor.proofs.Recovery.{front_between, moves_then, moves_or, moves_pure, moves_many, moves_token}
use Rattle.mp_cursor.proofs.RuleLaws.{expect_first, not_end, law_map, LawWhere, Same, read, read_is, both_ok, law_then, law_as, law_expect, IsOnly, token_falls}

module _ {P A : Type 0} {u : Bool} {first inner : Nexts} {p : Parser A} {r : Rule A} (k : TokenKind) (o : IsOnly k) (test follow : Nexts)
    (a : LawWhere P u first inner p r) (begins : within first test ≡ true) (stops : apart follow (is (class_of k)) ≡ true)
    (ends : apart follow test ≡ true) (again : within (is (class_of k)) inner ≡ true) (last : within follow inner ≡ true) where
  abbrev n : Next
  n = class_of k

  -- further items, each behind a separator, and perhaps one more separator
  abbrev tail : Rule (List A)
  tail = many (token k >>ʳ r) >>=ʳ (λ xs. optional (token k) >>ʳ gives xs)

  abbrev rest : ℕ → List A → Parser (List A)
  rest = series n test (and_one p)

  abbrev Tail : List A → Input → List A → Input → Type 0
  Tail found i ys j = (xs : List A) × tail i xs j × (found ++ xs ≡ ys)

  -- no further item: no separator either, or one
  tail_end : (i : Input) → tail i [] i
  tail_end i = ([], i, no_more, (None, i, inr (refl, refl), (refl, refl)))

  tail_separator : (i : Input) (at : ℕ) (j : Input) → token k i at j → tail i [] j
  tail_separator i at j d = ([], i, no_more, (Some at, j, inl (at, j, d, (refl, refl)), (refl, refl)))

  tail_more : (i : Input) (at : ℕ) (m : Input) (x : A) (l : Input) (xs : List A) (j : Input) → token k i at m → r m x l → tail l xs j → tail i (x ∷ xs) j
  tail_more i at m x l xs j d c t = (x ∷ t.0, t.1, one_more x t.0 i l (at, m, d, c) t.2, (t.3.0, t.3.1, t.3.2, (ap (λ z. x ∷ z) t.3.3.0, t.3.3.1)))

  nothing : (found : List A) (i : Input) (ys : List A) (j : Input) → tail i [] j → found ≡ ys → Tail found i ys j
  nothing found i ys j t e = ([], t, append-nil found ∙ e)

  -- behind a separator
  behind_sound : (more : List A → Parser (List A)) (found : List A) (i : Input) (at : ℕ) (m : Input) (ys : List A) (j : Input) → token k i at m →
      ((z : List A) (l : Input) → more z l ≡ read ys j → Tail z l ys j) → (b : Bool) → (if b then (and_one p found >>= more) m else read found m) ≡ read ys j → Tail found i ys j
  behind_sound more found i at m ys j d ih true h =
      let w = both_ok (and_one p found m) more ys j h in
      let u = both_ok (p m) (λ x. pure (found ++ x ∷ [])) w.0 w.1 w.2 in
      let e = read_is (found ++ u.0 ∷ []) w.0 u.1 w.1 u.3 in
      let t = ih w.0 w.1 w.3 in (
        u.0 ∷ t.0,
        tail_more i at m u.0 w.1 t.0 j d (subst (λ l. r m u.0 l) e.1 (a.sound m u.0 u.1 u.2)) t.1,
        sym (append_assoc found (u.0 ∷ []) t.0) ∙
            ap (λ z. z ++ t.0) e.0 ∙ t.2,
      )
  behind_sound more found i at m ys j d ih false h =
      let w = read_is found ys m j h in
      nothing found i ys j (subst (λ l. tail i [] l) w.1 (tail_separator i at m d)) w.0

  turn_sound : (more : List A → Parser (List A)) (found : List A) (i : Input) (ys : List A) (j : Input) →
      ((z : List A) (l : Input) → more z l ≡ read ys j → Tail z l ys j) → (b : Bool) → (if b then
      (expect n >> branch test (and_one p found >>= more) (pure found)) i else read found i) ≡ read ys j → Tail found i ys j
  turn_sound more found i ys j ih true h =
      let w = both_ok (expect n i) (λ at. branch test (and_one p found >>= more) (pure found)) ys j h in
      behind_sound more found i w.0 w.1 ys j ((law_expect {P = Unit {0}} k o).sound i w.0 w.1 w.2) ih (test (next_token w.1)) w.3
  turn_sound more found i ys j ih false h =
      let w = read_is found ys i j h in
      nothing found i ys j (subst (λ l. tail i [] l) w.1 (tail_end i)) w.0

  series_sound : (count : ℕ) (found : List A) (i : Input) (ys : List A) (j : Input) → rest count found i ≡ read ys j → Tail found i ys j
  unfolding series
  series_sound zero found i ys j h =
      let w = read_is found ys i j h in
      nothing found i ys j (subst (λ l. tail i [] l) w.1 (tail_end i)) w.0
  series_sound (suc count) found i ys j h = turn_sound (rest count) found i ys j (λ z l e. series_sound count z l ys j e) (is n (next_token i)) h

  behind_shrinks : (more : List A → Parser (List A)) (found : List A) (m : Input) (ys : List A) (j : Input) →
      ((z : List A) (l : Input) → more z l ≡ read ys j → length j.rest ≤ length l.rest) → (b : Bool) →
      (if b then (and_one p found >>= more) m else read found m) ≡ read ys j → length j.rest ≤ length m.rest
  behind_shrinks more found m ys j ih true h =
      let w = both_ok (and_one p found m) more ys j h in
      let u = both_ok (p m) (λ x. pure (found ++ x ∷ [])) w.0 w.1 w.2 in
      let e = ap (λ l. length l.rest) (read_is (found ++ u.0 ∷ []) w.0 u.1 w.1 u.3).1 in
      let f = a.shrinks m u.0 u.1 u.2 in
      let g = ih w.0 w.1 w.3 in
      omega arith
  behind_shrinks more found m ys j ih false h = let e = ap (λ l. length l.rest) (read_is found ys m j h).1 in omega arith

  turn_shrinks : (more : List A → Parser (List A)) (found : List A) (i : Input) (ys : List A) (j : Input) →
      ((z : List A) (l : Input) → more z l ≡ read ys j → length j.rest ≤ length l.rest) → (b : Bool) →
      (if b then (expect n >> branch test (and_one p found >>= more) (pure found)) i else read found i) ≡ read ys j → length j.rest ≤ length i.rest
  turn_shrinks more found i ys j ih true h =
      let w = both_ok (expect n i) (λ at. branch test (and_one p found >>= more) (pure found)) ys j h in
      let e = (law_expect {P = Unit {0}} k o).shrinks i w.0 w.1 w.2 in
      let f = behind_shrinks more found w.1 ys j ih (test (next_token w.1)) w.3 in
      omega arith
  turn_shrinks more found i ys j ih false h = let e = ap (λ l. length l.rest) (read_is found ys i j h).1 in omega arith

  series_shrinks : (count : ℕ) (found : List A) (i : Input) (ys : List A) (j : Input) → rest count found i ≡ read ys j → length j.rest ≤ length i.rest
  unfolding series
  series_shrinks zero found i ys j h = let e = ap (λ l. length l.rest) (read_is found ys i j h).1 in omega arith
  series_shrinks (suc count) found i ys j h = turn_shrinks (rest count) found i ys j (λ z l e. series_shrinks count z l ys j e) (is n (next_token i)) h

  -- ---- what the rule allows is read

  sees : (i : Input) (at : ℕ) (m : Input) → token k i at m → is n (next_token i) ≡ true
  sees i at m d = (law_expect {P = Unit {0}} k o).begins i at m d refl

  -- where the items end
  last_of : (i : Input) (at : Option ℕ) (j : Input) → optional (token k) i at j → follow (next_token j) ≡ true → either (is n) follow (next_token i) ≡ true
  last_of i at j (inl d) e = in_first (is n) follow (next_token i) (sees i d.0 d.1 d.2)
  last_of i at j (inr d) e = in_second (is n) follow (next_token i) (ap (λ m. follow (next_token m)) d.1 ∙ e)

  inner_is : (i : Input) → either (is n) follow (next_token i) ≡ true → inner (next_token i) ≡ true
  inner_is i e = within_is (either (is n) follow) inner (within_both (is n) follow inner again last) (next_token i) e

  tail_begins : (l : Input) (j : Input) → either (is n) follow (next_token l) ≡ true → (xs : List A) (i : Input) → Many (token k >>ʳ r) l xs i →
      either (is n) follow (next_token i) ≡ true
  tail_begins l j e _ _ no_more = e
  tail_begins l j e _ _ (one_more x xs i m d ds) = in_first (is n) follow (next_token i) (sees i d.0 d.1 d.2)

  last_read : (count : ℕ) (found : List A) (i : Input) (at : Option ℕ) (j : Input) → optional (token k) i at j → follow (next_token j) ≡ true →
      length i.rest ≤ count → rest count found i ≡ read found j
  unfolding series
  last_read zero found i at j (inl d) e l = absurd (let f = token_falls k i d.0 d.1 d.2 in let z : ⊥ = omega arith in z)
  last_read (suc count) found i at j (inl d) e l =
      let v = ap (λ m. follow (next_token m)) d.3.1 ∙ e in
      ap (λ b. if b then (expect n >> branch test (and_one p found >>= rest count) (pure found)) i else read found i) (sees i d.0 d.1 d.2)
      ∙ ap (λ u. and_then u (λ at. branch test (and_one p found >>= rest count) (pure found))) ((law_expect {P = Unit {0}} k o).complete i d.0 d.1 d.2 refl)
      ∙ ap (λ b. if b then (and_one p found >>= rest count) d.1 else read found d.1) (apart_is follow test ends (next_token d.1) v)
      ∙ ap (λ m. read found m) d.3.1
  last_read zero found i at j (inr d) e l = ap (λ m. read found m) d.1
  last_read (suc count) found i at j (inr d) e l =
      ap (λ b. if b then (expect n >> branch test (and_one p found >>= rest count) (pure found)) i else read found i)
      (apart_is follow (is n) stops (next_token i) (ap (λ m. follow (next_token m)) d.1 ∙ e))
      ∙ ap (λ m. read found m) d.1

  series_complete : (at : Option ℕ) (l j : Input) → optional (token k) l at j → follow (next_token j) ≡ true →
      (count : ℕ) (found xs : List A) (i : Input) → Many (token k >>ʳ r) l xs i → length i.rest ≤ count → rest count found i ≡ read (found ++ xs) j
  unfolding series
  series_complete at l j c e count found _ _ no_more h = last_read count found l at j c e h ∙ ap (λ z. read z j) (sym (append-nil found))
  series_complete at l j c e zero found _ _ (one_more x xs i m d ds) h = absurd (let f = token_falls k i d.0 d.1 d.2 in let z : ⊥ = omega arith in z)
  series_complete at l j c e (suc count) found _ _ (one_more x xs i m d ds) h =
      let w = inner_is m (tail_begins l j (last_of l at j c e) xs m ds) in
      let u = a.complete d.1 x m d.3 w in
      let f = token_falls k i d.0 d.1 d.2 in
      let g = a.shrinks d.1 x m u in
      ap (λ b. if b then (expect n >> branch test (and_one p found >>= rest count) (pure found)) i else read found i) (sees i d.0 d.1 d.2)
      ∙ ap (λ z. and_then z (λ at. branch test (and_one p found >>= rest count) (pure found))) ((law_expect {P = Unit {0}} k o).complete i d.0 d.1 d.2 refl)
      ∙ ap (λ b. if b then (and_one p found >>= rest count) d.1 else read found d.1) (within_is first test begins (next_token d.1) (a.begins d.1 x m d.3 w))
      ∙ ap (λ z. and_then (and_then z (λ x. pure (found ++ x ∷ []))) (rest count)) u
      ∙ series_complete at l j c e count (found ++ x ∷ []) xs m ds (omega arith)
      ∙ ap (λ z. read z j) (append_assoc found (x ∷ []) xs)

  expect_falls : (i : Input) (at : ℕ) (j : Input) → expect n i ≡ read at j → length j.rest < length i.rest
  expect_falls i at j h = token_falls k i at j ((law_expect {P = Unit {0}} k o).sound i at j h)

  one_shrinks : (x : List A) (i : Input) (y : List A) (j : Input) → and_one p x i ≡ read y j → length j.rest ≤ length i.rest
  one_shrinks x i y j h = (law_map (λ z. x ++ z ∷ []) a).shrinks i y j h

  -- ---- where the parser stops

  abbrev All : List A → Rule (List A)
  All found = (λ xs. found ++ xs) <$>ʳ tail

  moves_last : (xs : List A) → Moves (optional (token k) >>ʳ gives xs)
  moves_last xs =
      moves_then (optional (token k)) (λ z. gives xs) (moves_or (Some <$>ʳ token k) (gives None)
      (moves_then (token k) (λ at. gives (Some at)) (moves_token k) (λ at. moves_pure (Some at))) (moves_pure None)) (λ z. moves_pure xs)

  moves_all : (found : List A) → Moves (All found)
  moves_all found = moves_then tail (λ xs. gives (found ++ xs))
      (moves_then (many (token k >>ʳ r)) (λ xs. optional (token k) >>ʳ gives xs)
      (λ i xs j d. moves_many (token k >>ʳ r) (moves_then (token k) (λ at. r) (moves_token k) (λ at. a.moves)) j xs i d) moves_last)
      (λ xs. moves_pure (found ++ xs))

  ends_all : (found : List A) → Ends (All found)
  ends_all found i = ([], found ++ [], i, λ t h. h, λ t h. ([], put i t, tail_end (put i t), (refl, refl)))

  -- one item more in front
  in_front : (found : List A) (i : Input) (ys : List A) (j : Input) → ((token k >>ʳ r) >>=ʳ (λ x. All (found ++ x ∷ []))) i ys j → All found i ys j
  in_front found i ys j d =
      let c = d.2 in
      let t = d.3 in
      (d.0 ∷ t.0, t.1, tail_more i c.0 c.1 d.0 d.1 t.0 t.1 c.2 c.3 t.2, (sym (append_assoc found (d.0 ∷ []) t.0) ∙ t.3.0, t.3.1))

  -- behind a separator the list may be over
  after_separator : (found : List A) (i : Input) (at : ℕ) (m : Input) → token k i at m → Front (All found) i (length m.rest)
  after_separator found i at m d =
      let w = moves_token k i at m d in
      (w.0, m.rest, [], found ++ [], m, w.1, refl, λ t h. ([], put m t, tail_separator (put i (w.0 ++ t)) at (put m t) (w.2 t (open_instead t m.rest h)), (refl, refl)))

  abbrev Inside : List A → Input → Failure → Type 0
  Inside found i e = ((place e < length i.rest) × Front (All found) i (place e)) ⊎ (place e ≡ length i.rest)

  item_stops : P → (rest : List A → Parser (List A)) (found : List A) (i : Input) (at : ℕ) (m : Input) (e : Failure) → token k i at m →
      ((z : List A) → Stops (rest z) (All z)) → (o : Outcome A) → p m ≡ o → and_then (and_then o (λ x. pure (found ++ x ∷ []))) rest ≡ stopped e → Inside found i e
  item_stops granted more found i at m e d ih (Err f) g h = first_stops (stops_where p r a.settles (a.recovers granted) m e (g ∙ ap stopped (failure_is {A = List A} f e h)))
    where
      l : length m.rest < length i.rest
      l = token_falls k i at m d

      first_stops : ((place e < length m.rest) × Front r m (place e)) ⊎ (place e ≡ length m.rest) → Inside found i e
      first_stops (inl w) =
          let v = w.0 in
          inl (
            omega (arith, v, l),
            front_as ((token k >>ʳ r) >>=ʳ (λ x. All (found ++ x ∷ []))) (All found) i (place e) (in_front found)
                (front_first (token k >>ʳ r) (λ x. All (found ++ x ∷ [])) i (place e) (front_second (token k) (λ at. r) i at m (place e)
                (moves_token k i at m d) w.1 w.0) (λ x. ends_all (found ++ x ∷ []))),
          )
      first_stops (inr w) = inl (omega (arith, w, l), subst (Front (All found) i) (sym w) (after_separator found i at m d))
  item_stops granted more found i at m e d ih (Ok x) g h = second_stops (ih (found ++ x.0 ∷ []) x.1 e h)
    where
      l : length m.rest < length i.rest
      l = token_falls k i at m d

      n_ : length x.1.rest ≤ length m.rest
      n_ = a.shrinks m x.0 x.1 g

      taken : Taken (token k >>ʳ r) i x.0 x.1
      taken = moves_then (token k) (λ at. r) (moves_token k) (λ at. a.moves) i x.0 x.1 (at, m, d, a.sound m x.0 x.1 g)

      second_stops : ((place e < length x.1.rest) × Front (All (found ++ x.0 ∷ [])) x.1 (place e)) ⊎ (place e ≡ length x.1.rest) → Inside found i e
      second_stops (inl w) =
          let v = w.0 in
          inl (
            omega (arith, v, l, n_),
            front_as ((token k >>ʳ r) >>=ʳ (λ x. All (found ++ x ∷ []))) (All found) i (place e) (in_front found)
                (front_second (token k >>ʳ r) (λ x. All (found ++ x ∷ [])) i x.0 x.1 (place e) taken w.1 w.0),
          )
      second_stops (inr w) =
          inl (
            omega (arith, w, l, n_),
            front_as ((token k >>ʳ r) >>=ʳ (λ x. All (found ++ x ∷ []))) (All found) i (place e) (in_front found)
                (front_between (token k >>ʳ r) (λ x. All (found ++ x ∷ [])) i x.0 x.1 (place e) taken (ends_all (found ++ x.0 ∷ []) x.1) w),
          )

  behind_stops : P → (more : List A → Parser (List A)) (found : List A) (i : Input) (at : ℕ) (m : Input) (e : Failure) → token k i at m →
      ((z : List A) → Stops (more z) (All z)) → (b : Bool) → (if b then (and_one p found >>= more) m else read found m) ≡ stopped e → Inside found i e
  behind_stops granted more found i at m e d ih true h = item_stops granted more found i at m e d ih (p m) refl h
  behind_stops granted more found i at m e d ih false h = absurd (let z : ⊥ = cc in z)

  separator_stops : P → (more : List A → Parser (List A)) (found : List A) (i : Input) (e : Failure) → ((z : List A) → Stops (more z) (All z)) →
      (o : Outcome ℕ) → expect n i ≡ o → and_then o (λ at. branch test (and_one p found >>= more) (pure found)) ≡ stopped e → Inside found i e
  separator_stops granted more found i e ih (Ok x) g h =
      behind_stops granted more found i x.0 x.1 e ((law_expect {P = Unit {0}} k o).sound i x.0 x.1 g) ih (test (next_token x.1)) h
  separator_stops granted more found i e ih (Err f) g h = inr (expect_first k i e (g ∙ ap stopped (failure_is {A = List A} f e h)))

  turn_stops : P → (more : List A → Parser (List A)) (found : List A) (i : Input) (e : Failure) → ((z : List A) → Stops (more z) (All z)) →
      (b : Bool) → (if b then (expect n >> branch test (and_one p found >>= more) (pure found)) i else read found i) ≡ stopped e → Inside found i e
  turn_stops granted more found i e ih true h = separator_stops granted more found i e ih (expect n i) refl h
  turn_stops granted more found i e ih false h = absurd (let z : ⊥ = cc in z)

  series_stops : P → (count : ℕ) (found : List A) → Stops (rest count found) (All found)
  unfolding series
  series_stops granted zero found i e h = absurd (let z : ⊥ = cc in z)
  series_stops granted (suc count) found i e h = turn_stops granted (rest count) found i e (λ z. series_stops granted count z) (is n (next_token i)) h

  front_of : (found : List A) (i : Input) (e : Failure) → place e < length i.rest → Inside found i e → Front (All found) i (place e)
  front_of found i e l (inl w) = w.1
  front_of found i e l (inr w) = absurd (let z : ⊥ = omega (arith, w, l) in z)

  law_tail : (found : List A) → LawWhere P true (either (is n) follow) follow (repeated_series n test (and_one p) found) ((λ xs. found ++ xs) <$>ʳ tail)
  unfolding repeated_series left
  law_tail found = record {
    sound = λ i ys j h. let w = series_sound (length i.rest) found i ys j h in (w.0, j, w.1, (w.2, refl));
    complete = λ i ys j d e.
        let t = d.2 in
        let v = ap (λ m. follow (next_token m)) (t.3.3.1 ∙ d.3.1) ∙ e in
        series_complete t.3.0 t.1 t.3.1 t.3.2 v (length i.rest) found t.0 i t.2 (omega arith)
        ∙ ap (λ z. read (found ++ z) t.3.1) t.3.3.0 ∙ ap (λ z. read z t.3.1) d.3.0 ∙ ap (λ m. read ys m) (t.3.3.1 ∙ d.3.1);
    begins = λ i ys j d e.
        let t = d.2 in
        let v = ap (λ m. follow (next_token m)) (t.3.3.1 ∙ d.3.1) ∙ e in
        tail_begins t.1 j (last_of t.1 t.3.0 t.3.1 t.3.2 v) t.0 i t.2;
    shrinks = λ i ys j h. series_shrinks (length i.rest) found i ys j h;
    settles = settles_series n test (and_one p) (not_end k o) expect_falls one_shrinks (λ x. (law_map (λ y. x ++ y ∷ []) a).settles) found;
    moves = moves_all found;
    recovers = λ granted i e h l. front_of found i e l (series_stops granted (length i.rest) found i e h);
    ends = λ granted e. ends_all found;
  }

  regrouped : Same (r >>=ʳ (λ x. (λ xs. (x ∷ []) ++ xs) <$>ʳ tail)) (rule.separated (token k) r >>=ʳ (λ xs. optional (token k) >>ʳ gives xs))
  regrouped = record {
    to = λ i ys j d.
        let t = d.3.2 in
        (d.0 ∷ t.0, t.1, (d.0, d.1, d.2, (t.0, t.1, t.2, (refl, refl))), (t.3.0, t.3.1, t.3.2, (ap (λ z. d.0 ∷ z) t.3.3.0 ∙ d.3.3.0, t.3.3.1 ∙ d.3.3.1)));
    back = λ i ys j d.
        let s = d.2 in
        let t = s.3 in
        (s.0, s.1, s.2, (t.0, d.3.1, (t.0, t.1, t.2, (d.3.0, d.3.1, subst (λ m. optional (token k) m d.3.0 d.3.1) (sym t.3.1) d.3.2, (refl, refl))), (t.3.0 ∙ d.3.3.0, d.3.3.1)));
  }

  -- items with separators, and one more separator that may follow
  pub law_series : LawWhere P u first follow (separated_series n test p) (rule.separated (token k) r >>=ʳ (λ xs. optional (token k) >>ʳ gives xs))
  law_series = law_as regrouped (law_then a (within_both (is n) follow inner again last) (λ x. law_tail (x ∷ [])))
