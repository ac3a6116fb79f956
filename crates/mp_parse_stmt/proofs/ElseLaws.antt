-- The law of what stands behind an `if`: an `else` that comes is taken, so that none may follow where none was taken.
use Rattle.std.proofs.Common.{◌≡◌, inl, inr, ◌≤◌, Bool, true, false, List, [], ◌∷◌, length, Option, Some, None, refl, sym, ap, ◌∙◌, arith}
use Rattle.std.specs.Prelude.{◌≢◌, if◌then◌else◌}
use Rattle.mp_ast.specs.declared.tokens.TokenKind.{TokenKind}
use Rattle.mp_ast.specs.declared.tokens.TokenKind.TheVariants as kind
use Rattle.mp_ast.specs.declared.words.WordSymbol.TheVariants as w
use Rattle.mp_ast.specs.declared.statements.Statement.{Statement}
use Rattle.mp_ast.specs.Rules.{Input, Rule}
use Rattle.mp_ast.specs.Rules as rule
use Rattle.mp_ast.specs.StatementGrammar as g
use Rattle.mp_cursor.specs.declared.next.Next.TheVariants.{Word}
use Rattle.mp_cursor.specs.Nexts.{Nexts, next_of, is, either}
use Rattle.mp_cursor.specs.Parsers.{Parser, ◌>>◌, ◌<$>◌, pure, next_token, expect}
use Rattle.mp_cursor.proofs.NextLemmas.{is_same}
use Rattle.mp_cursor.proofs.NextSets.{within_any, in_first, in_second}
use Rattle.mp_cursor.proofs.Recovery.{is_else, Moves, Ends, moves_or, ends_right, recovers_branch}
use Rattle.mp_cursor.proofs.Settled.{put, settles_branch, settles_pure}
use Rattle.mp_cursor.proofs.RuleLaws.{Law, read, read_is, law_then, law_map, law_word, word_only}
use Rattle.mp_parse_stmt.specs.Statements as p

abbrev NoElse : Input → Type 0
NoElse i = (ks : List TokenKind) → i.rest ≢ kind.Word w.Else ∷ ks

-- the next token tells whether there is one
none_by : (kinds : List TokenKind) → ((ks : List TokenKind) → kinds ≢ kind.Word w.Else ∷ ks) → (b : Bool) → is (Word w.Else) (next_of kinds) ≡ b → b ≡ false
none_by kinds h false e = refl
none_by [] h true e = absurd (let n : ⊥ = cc in n)
none_by (k ∷ ks) h true e = absurd (h ks (ap (λ m. m ∷ ks) ((word_only w.Else).only k (sym (is_same (Word w.Else) (next_of (k ∷ ks)) e)))))

is_no_else : (i : Input) → NoElse i → is (Word w.Else) (next_token i) ≡ false
unfolding next_token
is_no_else i h = none_by i.rest h (is (Word w.Else) (next_of i.rest)) refl

no_else : (i : Input) → is (Word w.Else) (next_token i) ≡ false → NoElse i
unfolding next_token
no_else i e = λ ks q. let t : is (Word w.Else) (next_of i.rest) ≡ true = ap (λ l. is (Word w.Else) (next_of l)) q in let f = sym e ∙ t in let n : ⊥ = cc in n

-- what stands in place of no `else` is none
open_by : (b : Bool) → (b ≡ true → false ≡ true) → b ≡ false
open_by true h = sym (h refl)
open_by false h = refl

abbrev left_out : Rule (Option Statement)
left_out = rule.◌>>◌ (rule.not_before (kind.Word w.Else)) (rule.gives None)

moves_left_out : Moves left_out
unfolding next_token
moves_left_out i x j d =
    let e = ap (λ m. m.rest) (d.2.1 ∙ d.3.1) in (
      [],
      e,
      λ t h. (
        tt,
        put i t,
        (no_else (put i t) (open_by (is_else t) (λ u. sym (is_no_else i d.2.0 ∙ refl) ∙ ap is_else e ∙ h u)), refl),
        (d.3.0, ap (λ m. put m t) (d.2.1 ∙ d.3.1)),
      ),
    )

ends_left_out : Ends left_out
unfolding next_token
ends_left_out i = ([], None, i, λ t o. o, λ t o. (tt, put i t, (no_else (put i t) o, refl), (refl, refl)))

module _ {begins : Nexts} {statement : Parser Statement} {r : Rule Statement} (follow : Nexts) (a : Law true begins follow statement r) where
  abbrev taken : Parser (Option Statement)
  taken = Some <$> (expect (Word w.Else) >> statement)

  law_taken : Law false (is (Word w.Else)) follow taken (rule.◌<$>◌ Some (rule.◌>>◌ (rule.word w.Else) r))
  law_taken = law_map Some (law_then (law_word w.Else) (within_any begins) (λ at. a))

  allowed : (i : Input) (x : Option Statement) (j : Input) (b : Bool) → is (Word w.Else) (next_token i) ≡ b → (if b then taken i else read None i) ≡ read x j → g.else_part r i x j
  allowed i x j true e h = inl (law_taken.sound i x j h)
  allowed i x j false e h = inr (tt, i, (no_else i e, refl), read_is None x i j h)

  is_read : (i : Input) (x : Option Statement) (j : Input) → g.else_part r i x j → follow (next_token j) ≡ true → p.else_part statement i ≡ read x j
  unfolding p.else_part
  is_read i x j (inl d) e = ap (λ b. if b then taken i else read None i) (law_taken.begins i x j d e) ∙ law_taken.complete i x j d e
  is_read i x j (inr d) e =
      ap (λ b. if b then taken i else read None i) (is_no_else i d.2.0)
      ∙ ap (λ y. read y i) d.3.0 ∙ ap (λ m. read x m) (d.2.1 ∙ d.3.1)

  begun : (i : Input) (x : Option Statement) (j : Input) → g.else_part r i x j → follow (next_token j) ≡ true → either (is (Word w.Else)) follow (next_token i) ≡ true
  begun i x j (inl d) e = in_first (is (Word w.Else)) follow (next_token i) (law_taken.begins i x j d e)
  begun i x j (inr d) e = in_second (is (Word w.Else)) follow (next_token i) (ap (λ m. follow (next_token m)) (d.2.1 ∙ d.3.1) ∙ e)

  shrinks_by : (i : Input) (x : Option Statement) (j : Input) (b : Bool) → (if b then taken i else read None i) ≡ read x j → length j.rest ≤ length i.rest
  shrinks_by i x j true h = law_taken.shrinks i x j h
  shrinks_by i x j false h = let e = ap (λ m. length m.rest) (read_is None x i j h).1 in omega arith

  pub law_else_part : Law true (either (is (Word w.Else)) follow) follow (p.else_part statement) (g.else_part r)
  unfolding p.else_part
  law_else_part = record {
    sound = λ i x j h. allowed i x j (is (Word w.Else) (next_token i)) refl h;
    complete = is_read;
    begins = begun;
    shrinks = λ i x j h. shrinks_by i x j (is (Word w.Else) (next_token i)) h;
    settles = settles_branch taken (pure None) (is (Word w.Else)) law_taken.settles (settles_pure None);
    moves = moves_or (rule.◌<$>◌ Some (rule.◌>>◌ (rule.word w.Else) r)) left_out law_taken.moves moves_left_out;
    recovers =
        λ granted. recovers_branch (is (Word w.Else)) taken (pure None) (rule.◌<$>◌ Some (rule.◌>>◌ (rule.word w.Else) r)) left_out
        (law_taken.recovers granted) (λ i e h l. absurd (let n : ⊥ = cc in n));
    ends = λ granted e. ends_right (rule.◌<$>◌ Some (rule.◌>>◌ (rule.word w.Else) r)) left_out ends_left_out;
  }
