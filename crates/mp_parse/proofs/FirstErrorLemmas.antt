-- The parser's error is the first error, with its code.
use Rattle.std.proofs.Common.{◌≡◌, ◌⊎◌, inl, inr, ℕ, zero, suc, ◌+◌, ◌-◌, ◌<◌, List, length, take, Ok, Err, refl, sym, ap, ◌∙◌, subst, arith}
use Rattle.mp_ast.specs.declared.tokens.TokenKind.{TokenKind}
use Rattle.mp_ast.specs.declared.blocks.Tree.{Tree}
use Rattle.mp_ast.specs.Rules.{Input}
use Rattle.mp_ast.specs.BlockGrammar.{Limits}
use Rattle.mp_ast.specs.declared.tokens.Token.{Token}
use Rattle.mp_ast.specs.Programs.{HasTree, standard, start_of, kinds_of}
use Rattle.mp_ast.specs.FirstError.{HasTooManyDeclarations, IsTooDeep, HasCode, IsFirstError}
use Rattle.mp_ast.specs.FirstError.HasCode.{ends_early, follows_the_program, too_many_blocks, nested_too_deep, wrong}
use Rattle.mp_cursor.specs.declared.failure.Failure.{Failure}
use Rattle.mp_cursor.specs.declared.failure.Failure.TheVariants.{Memory, Wrong, TooDeep, TooMany}
use Rattle.mp_cursor.specs.Parsers.{Outcome}
use Rattle.mp_cursor.proofs.RuleLaws.{read}
use Rattle.mp_parse.specs.declared.errors.ParseError.{ParseError}
use Rattle.mp_parse.specs.declared.errors.ParseError.TheVariants as error
use Rattle.mp_parse.specs.Errors.{NamesFirstError, HasCodeExactly, IsFound}
use Rattle.mp_parse.specs.Errors.{error_of, behind_program, first_error, first_error_of, told}
use Rattle.mp_parse.proofs.ProgramLemmas.{parsed, stopped, no_rest, is_derived}
use Rattle.mp_parse.proofs.DeclarationLaws.{law_program}
use Rattle.mp_parse.proofs.ErrorLemmas.{IsFirstWrong, stop_is_first, rest_is_first, same_count}
use Rattle.mp_parse.proofs.CauseLemmas.{CodeAt, fewer_viable, no_tree_stopped, place_within, never_memory, code_early, code_wrong, code_deep, code_many, code_behind}

-- ---- the parser's error

whole : (kinds : List TokenKind) (index left code : ℕ) → (HasTree standard kinds → ⊥) → IsFirstWrong kinds index → CodeAt kinds left code →
    index + left ≡ length kinds → IsFirstError standard kinds index code
whole kinds index left code n w c e = record { no_tree = n; within = w.within; before = w.before; at = w.at; cause = c index e }

-- where the parser stops
pub stop_is_error : (kinds : List TokenKind) (e : Failure) → parsed standard kinds ≡ stopped e → NamesFirstError kinds (error_of e (length kinds))
stop_is_error kinds Memory h = tt
stop_is_error kinds (Wrong zero) h = whole kinds (length kinds) 0 202 (no_tree_stopped kinds (Wrong zero) h) (stop_is_first kinds (Wrong zero) h) (code_early kinds) (omega arith)
stop_is_error kinds (Wrong (suc left)) h =
    let l = place_within kinds (Wrong (suc left)) h in
    whole kinds (length kinds - suc left) (suc left) 201 (no_tree_stopped kinds (Wrong (suc left)) h) (stop_is_first kinds (Wrong (suc left)) h)
    (code_wrong kinds left h) (omega arith)
stop_is_error kinds (TooDeep left) h =
    let l = place_within kinds (TooDeep left) h in
    whole kinds (length kinds - left) left 203 (no_tree_stopped kinds (TooDeep left) h) (stop_is_first kinds (TooDeep left) h) (code_deep kinds left h) (omega arith)
stop_is_error kinds (TooMany left) h =
    let l = place_within kinds (TooMany left) h in
    whole kinds (length kinds - left) left 204 (no_tree_stopped kinds (TooMany left) h) (stop_is_first kinds (TooMany left) h) (code_many kinds left h) (omega arith)

rest_index : (kinds : List TokenKind) (t : Tree) (j : Input) → parsed standard kinds ≡ read t j → length kinds - length j.rest + length j.rest ≡ length kinds
rest_index kinds t j h = let l = (law_program standard).shrinks (start_of kinds) t j h in omega arith

-- where tokens are left behind a program
pub rest_is_error : (kinds : List TokenKind) (t : Tree) (j : Input) → parsed standard kinds ≡ read t j → 0 < length j.rest →
    IsFirstError standard kinds (length kinds - length j.rest) 205
rest_is_error kinds t j h n =
    let w = rest_is_first kinds t j h n in
    whole kinds (length kinds - length j.rest) (length j.rest) 205 (λ d. no_rest standard kinds t d.0 j h n d.1) w (code_behind kinds t j h n) (rest_index kinds t j h)

-- for the code
pub names_error : (kinds : List TokenKind) (e : Failure) → ((e ≡ Memory → ⊥) → parsed standard kinds ≡ stopped e) → NamesFirstError kinds (error_of e (length kinds))
names_error kinds Memory h = tt
names_error kinds (Wrong n) h = stop_is_error kinds (Wrong n) (h (λ q. let m : ⊥ = cc in m))
names_error kinds (TooDeep n) h = stop_is_error kinds (TooDeep n) (h (λ q. let m : ⊥ = cc in m))
names_error kinds (TooMany n) h = stop_is_error kinds (TooMany n) (h (λ q. let m : ⊥ = cc in m))

-- what holds of the error of a failure in so many tokens
pub told_by : (tokens now : List Token) (Holds : ParseError → Type 0) (e : Failure) (answer : ParseError) → now ≡ tokens →
    answer ≡ error_of e (length now) → Holds (error_of e (length (kinds_of tokens))) → Holds answer
told_by tokens now Holds e answer t a h = subst Holds (sym a) (subst (λ n. Holds (error_of e n)) (same_count tokens ∙ ap (λ ts. length ts) (sym t)) h)

-- ---- two first errors of one list

deep_by_many : (limits : Limits) (kinds : List TokenKind) → HasTooManyDeclarations limits kinds → IsTooDeep limits kinds
deep_by_many limits kinds d = (d.0, record { openers = let e = d.1.openers in omega arith; depth = let e = d.1.depth in omega arith; declarations = d.1.declarations }, d.2)

module _ (limits : Limits) (kinds : List TokenKind) (index : ℕ) where
  one_code : (c d : ℕ) → HasCode limits kinds index c → HasCode limits kinds index d → c ≡ d
  one_code _ _ (ends_early e) (ends_early f) = refl
  one_code _ _ (ends_early e) (follows_the_program l t) = absurd (omega (arith, e, l))
  one_code _ _ (ends_early e) (too_many_blocks l n m) = absurd (omega (arith, e, l))
  one_code _ _ (ends_early e) (nested_too_deep l n m d) = absurd (omega (arith, e, l))
  one_code _ _ (ends_early e) (wrong l n d) = absurd (omega (arith, e, l))
  one_code _ _ (follows_the_program l t) (ends_early e) = absurd (omega (arith, e, l))
  one_code _ _ (follows_the_program l t) (follows_the_program k u) = refl
  one_code _ _ (follows_the_program l t) (too_many_blocks k n m) = absurd (n t)
  one_code _ _ (follows_the_program l t) (nested_too_deep k n m d) = absurd (n t)
  one_code _ _ (follows_the_program l t) (wrong k n d) = absurd (n t)
  one_code _ _ (too_many_blocks l n m) (ends_early e) = absurd (omega (arith, e, l))
  one_code _ _ (too_many_blocks l n m) (follows_the_program k t) = absurd (n t)
  one_code _ _ (too_many_blocks l n m) (too_many_blocks k o p) = refl
  one_code _ _ (too_many_blocks l n m) (nested_too_deep k o p d) = absurd (p m)
  one_code _ _ (too_many_blocks l n m) (wrong k o d) = absurd (d (deep_by_many limits (take (index + 1) kinds) m))
  one_code _ _ (nested_too_deep l n m d) (ends_early e) = absurd (omega (arith, e, l))
  one_code _ _ (nested_too_deep l n m d) (follows_the_program k t) = absurd (n t)
  one_code _ _ (nested_too_deep l n m d) (too_many_blocks k o p) = absurd (m p)
  one_code _ _ (nested_too_deep l n m d) (nested_too_deep k o p e) = refl
  one_code _ _ (nested_too_deep l n m d) (wrong k o e) = absurd (e d)
  one_code _ _ (wrong l n d) (ends_early e) = absurd (omega (arith, e, l))
  one_code _ _ (wrong l n d) (follows_the_program k t) = absurd (n t)
  one_code _ _ (wrong l n d) (too_many_blocks k o m) = absurd (d (deep_by_many limits (take (index + 1) kinds) m))
  one_code _ _ (wrong l n d) (nested_too_deep k o m e) = absurd (d e)
  one_code _ _ (wrong l n d) (wrong k o e) = refl

order : (i j : ℕ) → (i < j) ⊎ ((j < i) ⊎ (i ≡ j))
order zero zero = inr (inr refl)
order zero (suc j) = inl (omega arith)
order (suc i) zero = inr (inl (omega arith))
order (suc i) (suc j) = further (order i j)
  where
    further : (i < j) ⊎ ((j < i) ⊎ (i ≡ j)) → (suc i < suc j) ⊎ ((suc j < suc i) ⊎ (suc i ≡ suc j))
    further (inl l) = inl (omega (arith, l))
    further (inr (inl l)) = inr (inl (omega (arith, l)))
    further (inr (inr e)) = inr (inr (ap suc e))

module _ (limits : Limits) (kinds : List TokenKind) where
  -- a program begins with the tokens before the later one, and so with those up to the earlier
  not_earlier : (i j c d : ℕ) → IsFirstError limits kinds i c → IsFirstError limits kinds j d → i < j → ⊥
  not_earlier i j c d e f l = let w = f.within in e.at (omega (arith, l)) (fewer_viable limits kinds (i + 1) j (omega (arith, l)) f.before)

  one_index : (i j c d : ℕ) → IsFirstError limits kinds i c → IsFirstError limits kinds j d → (i < j) ⊎ ((j < i) ⊎ (i ≡ j)) → i ≡ j
  one_index i j c d e f (inl l) = absurd (not_earlier i j c d e f l)
  one_index i j c d e f (inr (inl l)) = absurd (not_earlier j i d c f e l)
  one_index i j c d e f (inr (inr s)) = s

  pub first_errors_agree : (i j c d : ℕ) → IsFirstError limits kinds i c → IsFirstError limits kinds j d → (i ≡ j) × (c ≡ d)
  first_errors_agree i j c d e f =
      let s = one_index i j c d e f (order i j) in
      (s, one_code limits kinds i c d e.cause (subst (λ n. HasCode limits kinds n d) (sym s) f.cause))

-- ---- a code, where its token has it

pub code_where : (kinds : List TokenKind) (e : ParseError) → NamesFirstError kinds e → (code : ℕ) → HasCodeExactly code kinds e
code_where kinds error.Memory h code = tt
code_where kinds (error.Syntax index given) h code =
    (λ e. subst (λ c. HasCode standard kinds index c) e h.cause, λ c. one_code standard kinds index given code h.cause c)

-- ---- the error that the parser finds

found_told : (kinds : List TokenKind) (e : Failure) → (e ≡ Memory → ⊥) → NamesFirstError kinds (error_of e (length kinds)) → IsFound kinds (told (error_of e (length kinds)))
found_told kinds Memory n h = absurd (n refl)
found_told kinds (Wrong zero) n h = h
found_told kinds (Wrong (suc left)) n h = h
found_told kinds (TooDeep left) n h = h
found_told kinds (TooMany left) n h = h

found_behind : (kinds : List TokenKind) (t : Tree) (j : Input) → parsed standard kinds ≡ read t j → (left : ℕ) → length j.rest ≡ left →
    IsFound kinds (behind_program left (length kinds))
found_behind kinds t j h zero e = (t, is_derived standard kinds t j h (omega (arith, e)))
found_behind kinds t j h (suc left) e = subst (λ n. IsFirstError standard kinds (length kinds - n) 205) e (rest_is_error kinds t j h (omega (arith, e)))

found_by : (kinds : List TokenKind) (o : Outcome Tree) → parsed standard kinds ≡ o → IsFound kinds (first_error_of o (length kinds))
found_by kinds (Ok x) h = found_behind kinds x.0 x.1 h (length x.1.rest) refl
found_by kinds (Err e) h = found_told kinds e (never_memory kinds e h) (stop_is_error kinds e h)

pub first_errors_are_found : (kinds : List TokenKind) → IsFound kinds (first_error kinds)
unfolding first_error
first_errors_are_found kinds = found_by kinds (parsed standard kinds) refl
