-- Where the parser of programs stops, a program begins with the tokens before, and none with the next one.
use Rattle.std.proofs.Common.{◌≡◌, ◌⊎◌, inl, inr, ℕ, zero, suc, ◌+◌, ◌-◌, ◌<◌, ◌≤◌, List, [], ◌∷◌, ◌++◌, length, length-append, take, Ok, Err, refl}
use Rattle.std.proofs.Common.{sym, ap, ◌∙◌, subst, append_assoc, arith}
use Rattle.std.proofs.lemmas.List.{append-nil}
use Rattle.mp_ast.specs.declared.tokens.TokenKind.{TokenKind}
use Rattle.mp_ast.specs.declared.blocks.Tree.{Tree}
use Rattle.mp_ast.specs.Rules.{Input}
use Rattle.mp_ast.specs.declared.tokens.Token.{Token}
use Rattle.mp_ast.specs.BlockGrammar.{Limits}
use Rattle.mp_ast.specs.Programs.{Derives, IsViable, standard, start_of, kinds_of}
use Rattle.mp_cursor.specs.declared.failure.Failure.{Failure}
use Rattle.mp_cursor.specs.declared.failure.Failure.TheVariants.{Memory, Wrong, TooDeep, TooMany}
use Rattle.mp_cursor.specs.Parsers.{Outcome}
use Rattle.mp_cursor.proofs.RuleLaws.{read, read_is}
use Rattle.mp_ast.specs.BlockGrammar as grammar
use Rattle.mp_cursor.proofs.Recovery.{Front, stops_inside}
use Rattle.mp_cursor.proofs.Settled.{Settled, first_kind, place, moved, put}
use Rattle.mp_parse.specs.Blocks.{program}
use Rattle.mp_parse.specs.Errors.{error_of}
use Rattle.mp_parse.specs.declared.errors.ParseError.{ParseError}
use Rattle.mp_parse.specs.declared.errors.ParseError.TheVariants as error
use Rattle.mp_parse.proofs.DeclarationLaws.{Room, law_program}
use Rattle.mp_parse.proofs.ProgramLemmas.{parsed, stopped, reads_program}

-- A program begins with the tokens before the one with this index, and none with this one as well. The number of tokens
-- stands for the end, where there is no token more.
pub record IsFirstWrong (kinds : List TokenKind) (index : ℕ) : Type 0 where
  pub within : index ≤ length kinds
  pub before : IsViable standard (take index kinds)
  pub at : index < length kinds → IsViable standard (take (index + 1) kinds) → ⊥

abbrev pub NamesFirstWrong : List TokenKind → ParseError → Type 0
NamesFirstWrong kinds error.Memory = Unit {0}
NamesFirstWrong kinds (error.Syntax token code) = IsFirstWrong kinds token

-- ---- lists of tokens

take_front : (c : List TokenKind) (k : TokenKind) (b : List TokenKind) → take (length c + 1) (c ++ k ∷ b) ≡ c ++ k ∷ []
take_front [] k b = refl
take_front (m ∷ c) k b = ap (λ n. take n (m ∷ c ++ k ∷ b)) (let e : suc (length c) + 1 ≡ suc (length c + 1) = omega arith in e) ∙ ap (λ ks. m ∷ ks) (take_front c k b)

-- what stands at an index of a list in two parts
abbrev Begins : List TokenKind → List TokenKind → Type 0
Begins c b = (0 < length b → IsViable standard (take (length c + 1) (c ++ b)) → ⊥)

-- a program begins with these and this one: then some list does that is one
some_program : (c : List TokenKind) (k : TokenKind) (b : List TokenKind) → IsViable standard (take (length c + 1) (c ++ k ∷ b)) →
    (more : List TokenKind) × (t : Tree) × Derives standard (c ++ k ∷ more) t
some_program c k b v =
    let w = subst (λ ks. IsViable standard ks) (take_front c k b) v in
    (w.0, w.1.0, subst (λ ks. Derives standard ks w.1.0) (append_assoc c (k ∷ []) w.0) w.1.1)

-- ---- stops

not_both : (o : Outcome Tree) (e : Failure) (t : Tree) (j : Input) → o ≡ stopped e → o ≡ read t j → ⊥
not_both o e t j h g = cc

none_behind : (c b : List TokenKind) (e : Failure) → ((more : List TokenKind) → first_kind more ≡ first_kind b →
    parsed standard (c ++ more) ≡ stopped (moved e (length more))) → Begins c b
none_behind c [] e f h v = absurd (omega (arith, h))
none_behind c (k ∷ b) e f h v =
    let w = some_program c k b v in
    not_both (parsed standard (c ++ k ∷ w.0)) (moved e (length (k ∷ w.0))) w.1 w.2.0 (f (k ∷ w.0) refl) (reads_program standard (c ++ k ∷ w.0) w.1 w.2)

-- the index where the second part begins
none_at : (kinds c b : List TokenKind) (index : ℕ) → kinds ≡ c ++ b → index ≡ length c → IsViable standard (take index kinds) → Begins c b → IsFirstWrong kinds index
none_at kinds c b index e n v h = record {
  before = v;
  within = let l = ap (λ ks. length ks) e in let s = length-append c b in omega arith;
  at = λ less v.
      let l = ap (λ ks. length ks) e in
      let s = length-append c b in
      h (omega arith) (subst (λ ks. IsViable standard (take (length c + 1) ks)) e (subst (λ m. IsViable standard (take (m + 1) kinds)) n v));
}

index_is : (kinds c b : List TokenKind) (left : ℕ) → kinds ≡ c ++ b → left ≡ length b → length kinds - left ≡ length c
index_is kinds c b left e n = let l = ap (λ ks. length ks) e in let s = length-append c b in omega arith

-- a program begins with the tokens before the last so many
abbrev pub ViableBefore : Limits → List TokenKind → ℕ → Type 0
ViableBefore limits kinds left = (index : ℕ) → index + left ≡ length kinds → IsViable limits (take index kinds)

before_at : (kinds c b : List TokenKind) (left index : ℕ) → kinds ≡ c ++ b → left ≡ length b → index ≡ length c → ViableBefore standard kinds left →
    IsViable standard (take index kinds)
before_at kinds c b left index e n f v = v index (let l = ap (λ ks. length ks) e in let s = length-append c b in omega arith)

not_early : (kinds c b : List TokenKind) (e : Failure) → kinds ≡ c ++ b → place e ≡ length b → ViableBefore standard kinds (place e) → Begins c b →
    NamesFirstWrong kinds (error_of e (length kinds))
not_early kinds c b Memory h n v f = tt
not_early kinds c b (Wrong zero) h n v f =
    let e : length kinds ≡ length c = let l = ap (λ ks. length ks) h in let s = length-append c b in omega arith in
    none_at kinds c b (length kinds) h e (before_at kinds c b zero (length kinds) h n e v) f
not_early kinds c b (Wrong (suc left)) h n v f =
    none_at kinds c b (length kinds - suc left) h (index_is kinds c b (suc left) h n) (before_at kinds c b (suc left) (length kinds - suc left) h n
    (index_is kinds c b (suc left) h n) v) f
not_early kinds c b (TooDeep left) h n v f =
    none_at kinds c b (length kinds - left) h (index_is kinds c b left h n) (before_at kinds c b left (length kinds - left) h n (index_is kinds c b left h n) v) f
not_early kinds c b (TooMany left) h n v f =
    none_at kinds c b (length kinds - left) h (index_is kinds c b left h n) (before_at kinds c b left (length kinds - left) h n (index_is kinds c b left h n) v) f

settled_stop : (kinds : List TokenKind) (e : Failure) (o : Outcome Tree) → o ≡ stopped e → ViableBefore standard kinds (place e) →
    Settled (program standard) (start_of kinds) o → NamesFirstWrong kinds (error_of e (length kinds))
settled_stop kinds e (Ok x) h v s = absurd (let n : ⊥ = cc in n)
settled_stop kinds e (Err f) h v s =
    let same = failure_is f e h in
    subst (λ g. NamesFirstWrong kinds (error_of g (length kinds))) same (not_early kinds s.0 s.1 f s.2 s.3
    (subst (λ g. ViableBefore standard kinds (place g)) (sym same) v) (none_behind s.0 s.1 f s.4))
  where
    failure_is : (f e : Failure) → stopped f ≡ stopped e → f ≡ e
    failure_is f e h = cc

-- ---- a program begins with what is before

pub granted : Room standard
granted = refl

take_all : (c d : List TokenKind) → take (length c) (c ++ d) ≡ c
take_all [] d = refl
take_all (k ∷ c) d = ap (λ ks. k ∷ ks) (take_all c d)

module _ (limits : Limits) (room : Room limits) where
  begins_with : (kinds c d : List TokenKind) (index : ℕ) → kinds ≡ c ++ d → index + length d ≡ length kinds → IsViable limits c → IsViable limits (take index kinds)
  begins_with kinds c d index e n v =
      let same : index ≡ length c = let l = ap (λ ks. length ks) e in let s = length-append c d in omega arith in
      subst (λ ks. IsViable limits ks) (sym (ap (λ ks. take index ks) e ∙ ap (λ m. take m (c ++ d)) same ∙ take_all c d)) v

  front_begins : (kinds : List TokenKind) (left index : ℕ) → Front (grammar.program limits) (start_of kinds) left → index + left ≡ length kinds →
      IsViable limits (take index kinds)
  front_begins kinds left index f n = begins_with kinds f.0 f.1 index f.5 (let m = f.6 in omega arith) (f.2 ++ [], (f.3, (put f.4 [], f.7 [] refl, refl)))

  viable_by : (kinds : List TokenKind) (e : Failure) → parsed limits kinds ≡ stopped e → (place e < length kinds) ⊎ (place e ≡ length kinds) → ViableBefore limits kinds (place e)
  viable_by kinds e h (inl l) index n = front_begins kinds (place e) index ((law_program limits).recovers room (start_of kinds) e h l) n
  viable_by kinds e h (inr l) index n =
      let f = (law_program limits).ends room refl (start_of kinds) in
      begins_with kinds [] kinds index refl (let m = l in omega arith) (f.0 ++ [], (f.1, (put f.2 [], f.4 [] refl, refl)))

  -- before the token where the parser stops
  pub viable_before : (kinds : List TokenKind) (e : Failure) → parsed limits kinds ≡ stopped e → ViableBefore limits kinds (place e)
  viable_before kinds e h = viable_by kinds e h (stops_inside (program limits) (law_program limits).settles (start_of kinds) e h)

  -- the tokens of a program, where the parser reads one
  pub tree_before : (kinds : List TokenKind) (t : Tree) (j : Input) → parsed limits kinds ≡ read t j → (c : List TokenKind) × (kinds ≡ c ++ j.rest) × Derives limits c t
  tree_before kinds t j h =
      let f = (law_program limits).moves (start_of kinds) t j ((law_program limits).sound (start_of kinds) t j h) in
      (f.0, f.1, (put j [], subst (λ ks. grammar.program limits (start_of ks) t (put j [])) (append-nil f.0) (f.2 [] (λ e. absurd (let z : ⊥ = cc in z))), refl))

  pub program_before : (kinds : List TokenKind) (t : Tree) (j : Input) → parsed limits kinds ≡ read t j → ViableBefore limits kinds (length j.rest)
  program_before kinds t j h index n =
      let w = tree_before kinds t j h in
      begins_with kinds w.0 j.rest index w.1 n ([], (t, subst (λ ks. Derives limits ks t) (sym (append-nil w.0)) w.2))

-- where the parser stops
pub stop_is_first : (kinds : List TokenKind) (e : Failure) → parsed standard kinds ≡ stopped e → NamesFirstWrong kinds (error_of e (length kinds))
stop_is_first kinds e h = settled_stop kinds e (parsed standard kinds) h (viable_before standard granted kinds e h) ((law_program standard).settles (start_of kinds))

-- ---- tokens behind the program

no_rest_behind : (c b : List TokenKind) (t : Tree) (j : Input) → 0 < length b → ((more : List TokenKind) → first_kind more ≡ first_kind b →
    parsed standard (c ++ more) ≡ read t (put j more)) → Begins c b
no_rest_behind c [] t j some f h v = absurd (omega (arith, h))
no_rest_behind c (k ∷ b) t j some f h v =
    let w = some_program c k b v in
    let e = (read_is t w.1 (put j (k ∷ w.0)) w.2.0 (sym (f (k ∷ w.0) refl) ∙ reads_program standard (c ++ k ∷ w.0) w.1 w.2)).1 in
    let l = ap (λ m. length m.rest) e in
    let n = ap (λ ks. length ks) w.2.2 in
    absurd (let z : ⊥ = omega arith in z)

settled_read : (kinds : List TokenKind) (t : Tree) (j : Input) (o : Outcome Tree) → o ≡ read t j → ViableBefore standard kinds (length j.rest) →
    Settled (program standard) (start_of kinds) o → 0 < length j.rest → IsFirstWrong kinds (length kinds - length j.rest)
settled_read kinds t j (Err e) h v s n = absurd (let z : ⊥ = cc in z)
settled_read kinds t j (Ok x) h v s n =
    let e = read_is x.0 t x.1 j h in
    let same = ap (λ m. m.rest) e.1 in
    let some = subst (λ ks. 0 < length ks) (sym same) n in
    subst (λ ks. IsFirstWrong kinds (length kinds - length ks)) same
    (none_at kinds s.0 x.1.rest (length kinds - length x.1.rest) s.1 (index_is kinds s.0 x.1.rest (length x.1.rest) s.1 refl)
    (before_at kinds s.0 x.1.rest (length x.1.rest) (length kinds - length x.1.rest) s.1 refl (index_is kinds s.0 x.1.rest (length x.1.rest) s.1 refl)
    (subst (λ ks. ViableBefore standard kinds (length ks)) (sym same) v)) (no_rest_behind s.0 x.1.rest x.0 x.1 some s.2))

pub rest_is_first : (kinds : List TokenKind) (t : Tree) (j : Input) → parsed standard kinds ≡ read t j → 0 < length j.rest → IsFirstWrong kinds (length kinds - length j.rest)
rest_is_first kinds t j h n = settled_read kinds t j (parsed standard kinds) h (program_before standard granted kinds t j h) ((law_program standard).settles (start_of kinds)) n

-- ---- for the code

pub same_count : (tokens : List Token) → length (kinds_of tokens) ≡ length tokens
same_count [] = refl
same_count (t ∷ tokens) = ap suc (same_count tokens)
