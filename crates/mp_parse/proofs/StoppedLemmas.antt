-- A statement part that stops behind its `begin` stops in what follows: that has fewer tokens than the part, and a failure
-- is no place behind the tokens.
use Rattle.std.proofs.Common.{◌≡◌, ◌⊎◌, inl, inr, ℕ, suc, ◌+◌, ◌<◌, Bool, true, false, List, [], ◌∷◌, length, Some, None, Err, refl, sym, ap, ◌∙◌, subst, arith}
use Rattle.std.proofs.lemmas.Bool.{lt-ltb}
use Rattle.std.specs.Prelude.{if◌then◌else◌, nat_lt}
use Rattle.mp_ast.specs.declared.tokens.TokenKind.{TokenKind}
use Rattle.mp_ast.specs.declared.words.WordSymbol.TheVariants as w
use Rattle.mp_ast.specs.declared.statements.Statement.{Statement}
use Rattle.mp_ast.specs.declared.blocks.StatementPart.{StatementPart}
use Rattle.mp_ast.specs.declared.blocks.StatementPart.TheVariants.{Compound}
use Rattle.mp_ast.specs.Rules.{Input}
use Rattle.mp_cursor.specs.declared.failure.Failure.{Failure}
use Rattle.mp_cursor.specs.declared.failure.Failure.TheVariants.{Memory, Wrong, TooDeep, TooMany}
use Rattle.mp_cursor.specs.declared.next.Next.TheVariants.{Word}
use Rattle.mp_cursor.specs.Nexts.{is, next_of}
use Rattle.mp_cursor.specs.Parsers.{Parser, and_then, ◌>>=◌, pure, next_token, left, wrong, behind, behind_of, expect, opening, open_where}
use Rattle.mp_cursor.proofs.Settled.{Settles, place, stopped, settles_pure, settles_then, settles_expect}
use Rattle.mp_cursor.proofs.Recovery.{stops_inside}
use Rattle.mp_parse_stmt.specs.Statements.{sequence}
use Rattle.mp_parse_stmt.specs.Statements as statements
use Rattle.mp_parse_stmt.proofs.StatementLaws.{law_sequence_behind}
use Rattle.mp_parse.specs.Blocks.{statement_part}
use Rattle.mp_parse.specs.StoppedParts.{tokens_from, StopsBehindItsBegin}

-- what follows `begin`
abbrev part_end : ℕ → List Statement → Parser StatementPart
part_end at found = expect (Word w.End) >>= (λ end. pure (Compound at found end))

abbrev part_behind : ℕ → ℕ → Parser StatementPart
part_behind openers at = sequence (statements.behind openers).statement >>= part_end at

settles_end : (at : ℕ) (found : List Statement) → Settles (part_end at found)
settles_end at found =
    settles_then (expect (Word w.End)) (λ end. pure (Compound at found end)) (settles_expect (Word w.End) refl) (λ end. settles_pure (Compound at found end))

settles_part : (more at : ℕ) → Settles (part_behind (suc more) at)
settles_part more at =
    settles_then (sequence (statements.behind (suc more)).statement) (part_end at) (law_sequence_behind (suc more) more refl).settles (settles_end at)

-- there is room for `begin`
begun_part : (more : ℕ) (i : Input) (e : Failure) → is (Word w.Begin) (next_token i) ≡ true → statement_part (suc more) i ≡ stopped e →
    part_behind (suc more) i.at (behind i) ≡ stopped e
unfolding statement_part opening
begun_part more i e b h =
    sym (ap (λ t. and_then (if t then open_where (nat_lt 0 (suc more)) i else Err (wrong i)) (part_behind (suc more))) b
    ∙ ap (λ t. and_then (open_where t i) (part_behind (suc more))) (lt-ltb 0 (suc more) (omega arith))) ∙ h

fewer : (at declared : ℕ) (ks : List TokenKind) → is (Word w.Begin) (next_of ks) ≡ true → length (behind_of at declared ks).rest < length ks
fewer at declared [] h = absurd (let n : ⊥ = cc in n)
fewer at declared (k ∷ ks) h = omega arith

within : (n behind all : ℕ) → behind < all → (n < behind) ⊎ (n ≡ behind) → n < all
within n behind all l (inl m) = omega (arith, l, m)
within n behind all l (inr e) = omega (arith, l, e)

stops_inside_part : (more : ℕ) (i : Input) (e : Failure) → is (Word w.Begin) (next_token i) ≡ true → statement_part (suc more) i ≡ stopped e → place e < length i.rest
unfolding next_token behind
stops_inside_part more i e b h =
    within (place e) (length (behind i).rest) (length i.rest) (fewer i.at i.declared i.rest b)
    (stops_inside (part_behind (suc more) i.at) (settles_part more i.at) (behind i) e (begun_part more i e b h))

same_tokens : (e : Failure) → tokens_from e ≡ place e
same_tokens Memory = refl
same_tokens (Wrong n) = refl
same_tokens (TooDeep n) = refl
same_tokens (TooMany n) = refl

some_is : (n m : ℕ) → Some n ≡ Some m → n ≡ m
some_is n m e = cc

begun : (b : Bool) (n begin : ℕ) → (if b then Some n else None) ≡ Some begin → (b ≡ true) × (n ≡ begin)
begun true n begin h = (refl, some_is n begin h)
begun false n begin h = absurd (let z : ⊥ = cc in z)

pub stops_behind : (more : ℕ) → StopsBehindItsBegin (statement_part (more + 1))
unfolding left
stops_behind more i e begin o h =
    let w = begun (is (Word w.Begin) (next_token i)) (length i.rest) begin o in
    let n : more + 1 ≡ suc more = omega arith in
    let p = stops_inside_part more i e w.0 (subst (λ m. statement_part m i ≡ stopped e) n h) in
    let s = same_tokens e in
    let f = w.1 in
    omega (arith, p, s, f)
