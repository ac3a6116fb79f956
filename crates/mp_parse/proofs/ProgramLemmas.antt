-- What the law of programs says of a whole list of tokens.
use Rattle.std.proofs.Common.{◌≡◌, ℕ, ◌<◌, ◌≤◌, List, [], ◌∷◌, length, Option, Err, refl, sym, ap, ◌∙◌, arith}
use Rattle.mp_ast.specs.declared.tokens.TokenKind.{TokenKind}
use Rattle.mp_ast.specs.declared.blocks.Block.{Block}
use Rattle.mp_ast.specs.declared.blocks.ProgramHeading.{ProgramHeading}
use Rattle.mp_ast.specs.declared.blocks.Tree.{Tree}
use Rattle.mp_ast.specs.Rules.{Input}
use Rattle.mp_ast.specs.BlockGrammar.{Limits}
use Rattle.mp_ast.specs.Programs.{Derives, HaveOneTree, start_of}
use Rattle.mp_cursor.specs.declared.failure.Failure.{Failure}
use Rattle.mp_cursor.specs.declared.failure.Failure.TheVariants.{Memory, Wrong, TooDeep, TooMany}
use Rattle.mp_cursor.specs.Parsers.{Outcome}
use Rattle.mp_cursor.proofs.RuleLaws.{read, read_is}
use Rattle.mp_parse.specs.Blocks.{program, block}
use Rattle.mp_parse.proofs.DeclarationLaws.{law_program, law_nested_block, law_block}

pub block_shrinks : (limits : Limits) (heading : Option ProgramHeading) (depth : ℕ) (i : Input) (x : Block × List Tree) (j : Input) →
    block limits heading depth i ≡ read x j → length j.rest ≤ length i.rest
block_shrinks limits heading depth i x j h = (law_block (law_nested_block limits depth) limits (λ room. room) heading depth).shrinks i x j h

-- the parser on a whole list
abbrev pub parsed : Limits → List TokenKind → Outcome Tree
parsed limits kinds = program limits (start_of kinds)

pub reads_program : (limits : Limits) (kinds : List TokenKind) (t : Tree) (d : Derives limits kinds t) → parsed limits kinds ≡ read t d.0
reads_program limits kinds t d = (law_program limits).complete (start_of kinds) t d.0 d.1 refl

pub one_tree : (limits : Limits) (kinds : List TokenKind) → HaveOneTree limits kinds
one_tree limits kinds s t d e = (read_is s t d.0 e.0 (sym (reads_program limits kinds s d) ∙ reads_program limits kinds t e)).0

-- ---- for the code

by_failure : (e : Failure) → ((e ≡ Memory → ⊥) → ⊥) → e ≡ Memory
by_failure Memory h = refl
by_failure (Wrong n) h = absurd (h (λ q. let m : ⊥ = cc in m))
by_failure (TooDeep n) h = absurd (h (λ q. let m : ⊥ = cc in m))
by_failure (TooMany n) h = absurd (h (λ q. let m : ⊥ = cc in m))

abbrev pub stopped : Failure → Outcome Tree
stopped e = Err e

not_both : (o : Outcome Tree) (e : Failure) (t : Tree) (j : Input) → o ≡ stopped e → o ≡ read t j → ⊥
not_both o e t j h g = cc

pub only_memory : (limits : Limits) (kinds : List TokenKind) (e : Failure) (t : Tree) → ((e ≡ Memory → ⊥) → parsed limits kinds ≡ stopped e) → Derives limits kinds t → e ≡ Memory
only_memory limits kinds e t h d = by_failure e (λ n. not_both (parsed limits kinds) e t d.0 (h n) (reads_program limits kinds t d))

same_read : (o : Outcome Tree) (t u : Tree) (i j : Input) → o ≡ read t i → o ≡ read u j → (t ≡ u) × (i ≡ j)
same_read o t u i j h g = read_is t u i j (sym h ∙ g)

pub no_rest : (limits : Limits) (kinds : List TokenKind) (t u : Tree) (j : Input) → parsed limits kinds ≡ read t j → 0 < length j.rest → Derives limits kinds u → ⊥
no_rest limits kinds t u j h n d =
    let w = same_read (parsed limits kinds) t u j d.0 h (reads_program limits kinds u d) in
    let z = ap (λ m. length m.rest) w.1 in
    let y = ap (λ m. length m) d.2 in
    omega (arith, n)

pub same_tree : (limits : Limits) (kinds : List TokenKind) (t u : Tree) (j : Input) → parsed limits kinds ≡ read t j → Derives limits kinds u → t ≡ u
same_tree limits kinds t u j h d = (same_read (parsed limits kinds) t u j d.0 h (reads_program limits kinds u d)).0

no_items : (kinds : List TokenKind) → length kinds ≤ 0 → kinds ≡ []
no_items [] h = refl
no_items (k ∷ kinds) h = absurd (omega (arith, h))

pub is_derived : (limits : Limits) (kinds : List TokenKind) (t : Tree) (j : Input) → parsed limits kinds ≡ read t j → length j.rest ≤ 0 → Derives limits kinds t
is_derived limits kinds t j h n = (j, (law_program limits).sound (start_of kinds) t j h, no_items j.rest n)
