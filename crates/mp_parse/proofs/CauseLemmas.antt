-- The code of the first error is that of its cause: what the parser makes of the same tokens under higher limits tells
-- whether a program without the limits begins with them.
use Rattle.std.proofs.Common.{◌≡◌, ℕ, zero, suc, ◌+◌, ◌-◌, ◌<◌, ◌≤◌, List, [], ◌∷◌, ◌++◌, length, length-append, take, Ok, Err, refl, sym, ap, ◌∙◌, subst, append_assoc, arith}
use Rattle.std.proofs.lemmas.List.{append-nil}
use Rattle.mp_ast.specs.declared.tokens.TokenKind.{TokenKind}
use Rattle.mp_ast.specs.declared.blocks.Tree.{Tree}
use Rattle.mp_ast.specs.Rules.{Input}
use Rattle.mp_ast.specs.BlockGrammar.{Limits}
use Rattle.mp_ast.specs.Programs.{Derives, HasTree, IsViable, standard, start_of}
use Rattle.mp_ast.specs.FirstError.{NoLower, MoreDeclarations, HasTooManyDeclarations, IsTooDeep, HasCode}
use Rattle.mp_ast.specs.FirstError.HasCode.{ends_early, follows_the_program, too_many_blocks, nested_too_deep, wrong}
use Rattle.mp_cursor.specs.declared.failure.Failure.{Failure}
use Rattle.mp_cursor.specs.declared.failure.Failure.TheVariants.{Memory, Wrong, TooDeep, TooMany}
use Rattle.mp_cursor.specs.Parsers.{Outcome}
use Rattle.mp_cursor.proofs.Settled.{Settled, first_kind, place, moved, put}
use Rattle.mp_cursor.proofs.RuleLaws.{read}
use Rattle.mp_parse.specs.Blocks.{program}
use Rattle.mp_parse.proofs.DeclarationLaws.{Room, law_program}
use Rattle.mp_parse.proofs.ProgramLemmas.{parsed, stopped, reads_program}
use Rattle.mp_parse.proofs.Raised.{Past, Raised, past_more}
use Rattle.mp_parse.proofs.RaisedBlocks.{Raising, from, raised_program}
use Rattle.mp_parse.proofs.ClosedLaws.{closed_program}
use Rattle.mp_parse.proofs.ErrorLemmas.{granted, viable_before, program_before, tree_before}

-- ---- fronts of lists

taken_twice : (kinds : List TokenKind) (n m : ℕ) → n ≤ m → (rest : List TokenKind) × (take m kinds ≡ take n kinds ++ rest)
taken_twice kinds zero m h = (take m kinds, refl)
taken_twice kinds (suc n) zero h = absurd (omega (arith, h))
taken_twice [] (suc n) (suc m) h = ([], refl)
taken_twice (k ∷ kinds) (suc n) (suc m) h = let w = taken_twice kinds n m (omega (arith, h)) in (w.0, ap (λ ks. k ∷ ks) w.1)

viable_front : (limits : Limits) (c d : List TokenKind) → IsViable limits (c ++ d) → IsViable limits c
viable_front limits c d v = (d ++ v.0, (v.1.0, subst (λ ks. Derives limits ks v.1.0) (append_assoc c d v.0) v.1.1))

-- a program begins with fewer of the tokens, too
pub fewer_viable : (limits : Limits) (kinds : List TokenKind) (n m : ℕ) → n ≤ m → IsViable limits (take m kinds) → IsViable limits (take n kinds)
fewer_viable limits kinds n m h v = let w = taken_twice kinds n m h in viable_front limits (take n kinds) w.0 (subst (λ ks. IsViable limits ks) w.1 v)

take_next : (c : List TokenKind) (k : TokenKind) (b : List TokenKind) → take (length c + 1) (c ++ k ∷ b) ≡ c ++ k ∷ []
take_next [] k b = refl
take_next (m ∷ c) k b = ap (λ n. take n (m ∷ c ++ k ∷ b)) (let e : suc (length c) + 1 ≡ suc (length c + 1) = omega arith in e) ∙ ap (λ ks. m ∷ ks) (take_next c k b)

take_front : (c b : List TokenKind) → take (length c) (c ++ b) ≡ c
take_front [] b = refl
take_front (k ∷ c) b = ap (λ ks. k ∷ ks) (take_front c b)

-- ---- limits

-- limits of which none is lower
any_higher : (others : Limits) → NoLower standard others → Raising ⊥ ⊥ ⊥ 0 0 standard others
any_higher others n = record {
  openers = record { no_lower = n.openers; same = λ s. absurd s; higher = λ h. absurd h };
  depth = record { no_lower = n.depth; same = λ s. absurd s; higher = λ h. absurd h };
  declarations = record { no_lower = let d = n.declarations in omega arith; higher = λ h. absurd h; more = λ m. absurd m };
}

-- more declarations
any_more : (others : Limits) → MoreDeclarations standard others → Raising (Unit {0}) ⊥ ⊥ 0 0 standard others
any_more others n = record {
  openers = record { no_lower = let e = n.openers in omega arith; same = λ s. n.openers; higher = λ h. absurd h };
  depth = record { no_lower = let e = n.depth in omega arith; same = λ s. n.depth; higher = λ h. absurd h };
  declarations = record { no_lower = let d = n.declarations in omega arith; higher = λ h. absurd h; more = λ m. absurd m };
}

higher_limits : Limits
higher_limits = record { openers = standard.openers + 1; depth = standard.depth + 1; declarations = standard.declarations + 1 }

all_higher : Raising ⊥ (Unit {0}) ⊥ 0 0 standard higher_limits
unfolding higher_limits
all_higher = record {
  openers = record { no_lower = omega arith; same = λ s. absurd s; higher = λ h. omega arith };
  depth = record { no_lower = omega arith; same = λ s. absurd s; higher = λ h. omega arith };
  declarations = record { no_lower = omega arith; higher = λ h. omega arith; more = λ m. absurd m };
}

none_lower : NoLower standard higher_limits
unfolding higher_limits
none_lower = record { openers = omega arith; depth = omega arith; declarations = omega arith }

room_higher : Room higher_limits
unfolding higher_limits
room_higher = refl

more_limits : Limits
more_limits = record { openers = standard.openers; depth = standard.depth; declarations = standard.declarations + 1 }

one_more : Raising ⊥ ⊥ (Unit {0}) 0 0 standard more_limits
unfolding more_limits
one_more = record {
  openers = record { no_lower = omega arith; same = λ s. absurd s; higher = λ h. absurd h };
  depth = record { no_lower = omega arith; same = λ s. absurd s; higher = λ h. absurd h };
  declarations = record { no_lower = omega arith; higher = λ h. absurd h; more = λ m. omega arith };
}

more_declarations : MoreDeclarations standard more_limits
unfolding more_limits
more_declarations = record { openers = refl; depth = refl; declarations = omega arith }

room_more : Room more_limits
unfolding more_limits
room_more = refl

-- ---- what the parser makes of the same tokens under other limits

module _ {Same Higher More : Type 0} {others : Limits} (r : Raising Same Higher More 0 0 standard others) where
  compared : (kinds : List TokenKind) → Raised Same Higher More (from standard 0 0) (parsed standard kinds) (parsed others kinds)
  compared kinds = (raised_program r).raised tt (start_of kinds) 0 refl refl (λ h. omega arith, λ m. omega arith)

  compared_with : (kinds : List TokenKind) (o : Outcome Tree) → parsed standard kinds ≡ o → Raised Same Higher More (from standard 0 0) o (parsed others kinds)
  compared_with kinds o e = subst (λ u. Raised Same Higher More (from standard 0 0) u (parsed others kinds)) e (compared kinds)

-- past a place: a program begins with the token there
module _ (others : Limits) (room : Room others) (kinds : List TokenKind) where
  past_by : (left index : ℕ) (o : Outcome Tree) → parsed others kinds ≡ o → Past left 0 o → index + left ≡ length kinds → IsViable others (take (index + 1) kinds)
  past_by left index (Ok x) e p n =
      let q = p.0 in
      let f = tree_before others room kinds x.0 x.1 e in
      let l = ap (λ ks. length ks) f.1 in
      let s = length-append f.0 x.1.rest in
      fewer_viable others kinds (index + 1) (length f.0) (omega arith) (program_before others room kinds x.0 x.1 e (length f.0) (omega arith))
  past_by left index (Err f) e p n =
      let v = viable_before others room kinds f e in
      fewer_viable others kinds (index + 1) (length kinds - place f) (omega (arith, p, n)) (v (length kinds - place f) (omega (arith, p, n)))

  pub past_viable : (left index : ℕ) → Past left 0 (parsed others kinds) → index + left ≡ length kinds → IsViable others (take (index + 1) kinds)
  past_viable left index p n = past_by left index (parsed others kinds) refl p n

not_past : (o : Outcome Tree) → Past zero 0 o → ⊥
not_past (Ok x) p = let q = p.0 in omega arith
not_past (Err e) p = omega (arith, p)

some_left : (left : ℕ) (o : Outcome Tree) → Past left 0 o → 0 < left
some_left zero o p = absurd (not_past o p)
some_left (suc left) o p = omega arith

-- ---- what no program begins with, under other limits either

not_both : (o : Outcome Tree) (e : Failure) (t : Tree) (j : Input) → o ≡ stopped e → o ≡ read t j → ⊥
not_both o e t j h g = cc

-- the parser stops under these limits, too, whatever follows the next token
abbrev StopsAgain : Limits → List TokenKind → List TokenKind → Failure → Type 0
StopsAgain others c b e = (more : List TokenKind) → first_kind more ≡ first_kind b → parsed others (c ++ more) ≡ stopped (moved e (length more))

stops_again : (others : Limits) (c b : List TokenKind) (e : Failure) → StopsAgain others c b e → 0 < length b → IsViable others (take (length c + 1) (c ++ b)) → ⊥
stops_again others c [] e a n v = absurd (omega (arith, n))
stops_again others c (k ∷ b) e a n v =
    let w = subst (λ ks. IsViable others ks) (take_next c k b) v in
    let d = subst (λ ks. Derives others ks w.1.0) (append_assoc c (k ∷ []) w.0) w.1.1 in
    not_both (parsed others (c ++ k ∷ w.0)) (moved e (length (k ∷ w.0))) w.1.0 d.0 (a (k ∷ w.0) refl) (reads_program others (c ++ k ∷ w.0) w.1.0 d)

-- the tokens before a stop, and those from there on
pub record Stop (kinds : List TokenKind) (e : Failure) : Type 0 where
  pub before : List TokenKind
  pub behind : List TokenKind
  pub whole : kinds ≡ before ++ behind
  pub at : place e ≡ length behind
  pub again : StopsAgain standard before behind e

stop_by : (kinds : List TokenKind) (e : Failure) (o : Outcome Tree) → o ≡ stopped e → Settled (program standard) (start_of kinds) o → Stop kinds e
stop_by kinds e (Ok x) h s = absurd (let n : ⊥ = cc in n)
stop_by kinds e (Err f) h s = subst (λ g. Stop kinds g) (same f e h) (record { before = s.0; behind = s.1; whole = s.2; at = s.3; again = s.4 })
  where
    same : (f e : Failure) → stopped f ≡ stopped e → f ≡ e
    same f e h = cc

stop_of : (kinds : List TokenKind) (e : Failure) → parsed standard kinds ≡ stopped e → Stop kinds e
stop_of kinds e h = stop_by kinds e (parsed standard kinds) h ((law_program standard).settles (start_of kinds))

pub place_within : (kinds : List TokenKind) (e : Failure) → parsed standard kinds ≡ stopped e → place e ≤ length kinds
place_within kinds e h = let s = stop_of kinds e h in let a = s.at in let l = ap (λ ks. length ks) s.whole in let m = length-append s.before s.behind in omega arith

-- the parser itself wants no memory
pub never_memory : (kinds : List TokenKind) (e : Failure) → parsed standard kinds ≡ stopped e → e ≡ Memory → ⊥
never_memory kinds e h m = compared_with all_higher kinds (stopped Memory) (h ∙ ap stopped m)

-- ---- no program ends before a stop

module _ (kinds : List TokenKind) (e : Failure) (h : parsed standard kinds ≡ stopped e) where
  pub no_tree_stopped : HasTree standard kinds → ⊥
  no_tree_stopped t = not_both (parsed standard kinds) e t.0 t.1.0 h (reads_program standard kinds t.0 t.1)

-- a program's tokens are read whatever follows them
reads_before : (c b : List TokenKind) (t : Tree) (d : Derives standard c t) → parsed standard (c ++ b) ≡ read t (put d.0 b)
reads_before c b t d =
    let w = (closed_program standard).takes (start_of c) t d.0 d.1 in
    let same : c ≡ w.kinds = w.tokens ∙ ap (λ ks. w.kinds ++ ks) d.2 ∙ append-nil w.kinds in
    ap (λ ks. parsed standard (ks ++ b)) same ∙ (law_program standard).complete (start_of (w.kinds ++ b)) t (put d.0 b) (w.anywhere b) refl

no_tree_before : (kinds c b : List TokenKind) (e : Failure) → parsed standard kinds ≡ stopped e → kinds ≡ c ++ b → HasTree standard c → ⊥
no_tree_before kinds c b e h w t = not_both (parsed standard kinds) e t.0 (put t.1.0 b) h (ap (parsed standard) w ∙ reads_before c b t.0 t.1)

-- ---- causes

index_at : (kinds : List TokenKind) (e : Failure) (index : ℕ) (s : Stop kinds e) → index + place e ≡ length kinds → length s.before ≡ index
index_at kinds e index s n = let a = s.at in let l = ap (λ ks. length ks) s.whole in let m = length-append s.before s.behind in omega arith

-- no program ends before the token of a stop
none_before : (kinds : List TokenKind) (e : Failure) (index : ℕ) → parsed standard kinds ≡ stopped e → index + place e ≡ length kinds → HasTree standard (take index kinds) → ⊥
none_before kinds e index h n t =
    let s = stop_of kinds e h in
    let same = ap (λ m. take m kinds) (sym (index_at kinds e index s n)) ∙ ap (λ ks. take (length s.before) ks) s.whole ∙ take_front s.before s.behind in
    no_tree_before kinds s.before s.behind e h s.whole (subst (λ ks. HasTree standard ks) same t)

-- where the parser stops under other limits as well, no program without these begins with the token
never_viable : (others : Limits) (kinds : List TokenKind) (e : Failure) (index : ℕ) (s : Stop kinds e) → StopsAgain others s.before s.behind e →
    0 < place e → index + place e ≡ length kinds → IsViable others (take (index + 1) kinds) → ⊥
never_viable others kinds e index s a some n v =
    let same = ap (λ m. take (m + 1) kinds) (sym (index_at kinds e index s n)) ∙ ap (λ ks. take (length s.before + 1) ks) s.whole in
    stops_again others s.before s.behind e a (let p = s.at in omega (arith, some)) (subst (λ ks. IsViable others ks) same v)

-- 201
wrong_everywhere : (kinds : List TokenKind) (left index : ℕ) → parsed standard kinds ≡ stopped (Wrong left) → 0 < left → index + left ≡ length kinds →
    IsTooDeep standard (take (index + 1) kinds) → ⊥
wrong_everywhere kinds left index h some n d =
    let s = stop_of kinds (Wrong left) h in
    never_viable d.0 kinds (Wrong left) index s (λ more e. compared_with (any_higher d.0 d.1) (s.before ++ more) (stopped (Wrong (length more))) (s.again more e)) some n d.2

-- 203
deep_with_more : (kinds : List TokenKind) (left index : ℕ) → parsed standard kinds ≡ stopped (TooDeep left) → 0 < left → index + left ≡ length kinds →
    HasTooManyDeclarations standard (take (index + 1) kinds) → ⊥
deep_with_more kinds left index h some n d =
    let s = stop_of kinds (TooDeep left) h in
    never_viable d.0 kinds (TooDeep left) index s (λ more e. (compared_with (any_more d.0 d.1) (s.before ++ more) (stopped (TooDeep (length more)))
    (s.again more e)).0 tt) some n d.2

deep_past : (kinds : List TokenKind) (left : ℕ) → parsed standard kinds ≡ stopped (TooDeep left) → Past left 0 (parsed higher_limits kinds)
deep_past kinds left h = (compared_with all_higher kinds (stopped (TooDeep left)) h).1 tt

-- 204
many_past : (kinds : List TokenKind) (left : ℕ) → parsed standard kinds ≡ stopped (TooMany left) → Past left 0 (parsed more_limits kinds)
many_past kinds left h = let w = compared_with one_more kinds (stopped (TooMany left)) h tt in past_more left w.0 0 (parsed more_limits kinds) (omega arith) w.2

-- the code of a stop
abbrev pub CodeAt : List TokenKind → ℕ → ℕ → Type 0
CodeAt kinds left code = (index : ℕ) → index + left ≡ length kinds → HasCode standard kinds index code

pub code_early : (kinds : List TokenKind) → CodeAt kinds 0 202
code_early kinds index n = ends_early (omega (arith, n))

pub code_wrong : (kinds : List TokenKind) (left : ℕ) → parsed standard kinds ≡ stopped (Wrong (suc left)) → CodeAt kinds (suc left) 201
code_wrong kinds left h index n = wrong (omega (arith, n)) (none_before kinds (Wrong (suc left)) index h n) (wrong_everywhere kinds (suc left) index h (omega arith) n)

pub code_deep : (kinds : List TokenKind) (left : ℕ) → parsed standard kinds ≡ stopped (TooDeep left) → CodeAt kinds left 203
code_deep kinds left h index n =
    let p = deep_past kinds left h in
    let some = some_left left (parsed higher_limits kinds) p in
    nested_too_deep (omega (arith, n, some)) (none_before kinds (TooDeep left) index h n) (deep_with_more kinds left index h some n)
    (higher_limits, none_lower, past_viable higher_limits room_higher kinds left index p n)

pub code_many : (kinds : List TokenKind) (left : ℕ) → parsed standard kinds ≡ stopped (TooMany left) → CodeAt kinds left 204
code_many kinds left h index n =
    let p = many_past kinds left h in
    let some = some_left left (parsed more_limits kinds) p in
    too_many_blocks (omega (arith, n, some)) (none_before kinds (TooMany left) index h n)
    (more_limits, more_declarations, past_viable more_limits room_more kinds left index p n)

pub code_behind : (kinds : List TokenKind) (t : Tree) (j : Input) → parsed standard kinds ≡ read t j → 0 < length j.rest → CodeAt kinds (length j.rest) 205
code_behind kinds t j h some index n =
    let w = tree_before standard granted kinds t j h in
    let l = ap (λ ks. length ks) w.1 in
    let m = length-append w.0 j.rest in
    let same : take index kinds ≡ w.0 = ap (λ m. take m kinds) (let e : index ≡ length w.0 = omega arith in e) ∙ ap (λ ks. take (length w.0) ks) w.1 ∙ take_front w.0 j.rest in
    follows_the_program (omega (arith, n, some)) (subst (λ ks. HasTree standard ks) (sym same) (t, w.2))
