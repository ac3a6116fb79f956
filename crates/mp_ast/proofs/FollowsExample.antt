-- The first error of `program p; begin end. x`: its program is over at the `.`.
use Rattle.std.proofs.Common.{◌≡◌, ◌≢◌, ◌⊎◌, ℕ, List, [], ◌∷◌, codes, inl, inr, refl, sym, ap, ◌∙◌, arith}
use Rattle.mp_ast.specs.declared.tokens.TokenKind.{TokenKind}
use Rattle.mp_ast.specs.declared.tokens.TokenKind.TheVariants.{Id, Word, Symbol}
use Rattle.mp_ast.specs.declared.words.WordSymbol.{WordSymbol}
use Rattle.mp_ast.specs.declared.words.WordSymbol.TheVariants as w
use Rattle.mp_ast.specs.declared.symbols.Symbol.TheVariants as s
use Rattle.mp_ast.specs.declared.statements.Statement.{Statement}
use Rattle.mp_ast.specs.Rules.{Rule, Input, ◌>>◌, gives, word, symbol, Many, no_more, one_more}
use Rattle.mp_ast.specs.StatementGrammar.{behind, statement}
use Rattle.mp_ast.specs.BlockGrammar.{Limits}
use Rattle.mp_ast.specs.Programs.{HasTree}
use Rattle.mp_ast.specs.FirstError.{follows_the_program}
use Rattle.mp_ast.specs.Examples.{FollowsTheProgram}
use Rattle.mp_ast.proofs.LimitExamples.{none_of_many, behind_heading, short_tree}

-- a part of a block that begins with another word is left out
kept : {A : Type 0} {X : ℕ → Input → Type 0} {xs : List A} (first : WordSymbol) (i m : Input) (k : TokenKind) (more : List TokenKind) → Word first ≢ k → i.rest ≡
    k ∷ more → ((at : ℕ) × (l : Input) × word first i at l × X at l) ⊎ gives [] i xs m → m.rest ≡ k ∷ more
kept first i m k more other e (inl p) = let f = p.2.0 in let g : Word first ≡ k = cc in absurd (other g)
kept first i m k more other e (inr p) = let g = ap (λ v. v.rest) p.1 in cc

-- before `end` a statement without openers is empty
empty_before_end : (found : Statement) (i m : Input) (more : List TokenKind) → i.rest ≡ Word w.End ∷ more → statement 0 i found m → i ≡ m
empty_before_end found i m more e (inl (inl p)) = p.2.1 ∙ p.3.1
empty_before_end found i m more e (inl (inr (inl p))) = let f = p.2.2.0 in absurd (cc)
empty_before_end found i m more e (inl (inr (inr (inl p)))) = let f = p.2.0 in absurd (cc)
empty_before_end found i m more e (inl (inr (inr (inr (inl p))))) = let f = p.2.0 in absurd (cc)
empty_before_end found i m more e (inl (inr (inr (inr (inr (inl p)))))) = absurd p.2
empty_before_end found i m more e (inl (inr (inr (inr (inr (inr (inl p))))))) = absurd p.2
empty_before_end found i m more e (inl (inr (inr (inr (inr (inr (inr (inl p)))))))) = absurd p.2
empty_before_end found i m more e (inl (inr (inr (inr (inr (inr (inr (inr (inl p))))))))) = absurd p.2
empty_before_end found i m more e (inl (inr (inr (inr (inr (inr (inr (inr (inr (inl p)))))))))) = absurd p.2
empty_before_end found i m more e (inl (inr (inr (inr (inr (inr (inr (inr (inr (inr (inl p))))))))))) = absurd p.2
empty_before_end found i m more e (inl (inr (inr (inr (inr (inr (inr (inr (inr (inr (inr p))))))))))) = absurd p.2
empty_before_end found i m more e (inr p) = let f = p.2.0 in absurd (cc)

no_further : (r : Rule Statement) (found : List Statement) (i j : Input) (more : List TokenKind) → i.rest ≡ Word w.End ∷ more → Many (symbol s.Semicolon >> r) j found i → i ≡ j
no_further r _ _ j more e no_more = refl
no_further r _ _ j more e (one_more x xs i m p rest) = let f = p.2.0 in absurd (cc)

abbrev small : Limits
small = record { openers = 1; depth = 0; declarations = 0 }

-- what stands behind the `.`, by what stands in turn behind the statements, `end`, the block and the `.`
last_of : (rest : List TokenKind) {statements after block dot over : List TokenKind} → statements ≡ Word w.End ∷ Symbol s.Dot ∷ rest → statements ≡ Word w.End ∷
    after → after ≡ block → block ≡ Symbol s.Dot ∷ dot → dot ≡ over → over ≡ [] → rest ≡ []
last_of rest a b c d e f = cc

-- nothing follows the program
nothing_follows : (rest : List TokenKind) → HasTree small (Word w.Program ∷ Id (codes "p") ∷ Symbol s.Semicolon ∷ Word w.Begin ∷ Word w.End ∷ Symbol s.Dot ∷ rest) → rest ≡ []
unfolding behind
nothing_follows rest tree =
    let p = tree.1.1 in
    let first = p.2.0 in
    let second = p.3.2.0 in
    let third : p.3.1.rest ≡ Symbol s.Semicolon ∷ Word w.Begin ∷ Word w.End ∷ Symbol s.Dot ∷ rest = cc in
    let body : List TokenKind = Word w.End ∷ Symbol s.Dot ∷ rest in
    let begins = behind_heading p.3.3.0 p.3.1 p.3.3.1 p.3.3.3.1 (Word w.Begin ∷ body) third p.3.3.2 p.3.3.3.2.0 in
    let b = p.3.3.3.3.2 in
    let labels = kept w.Label p.3.3.3.1 b.1 (Word w.Begin) body (λ e. let f : Word w.Label ≡ Word w.Begin = e in absurd (cc)) begins b.2 in
    let constants = kept w.Const b.1 b.3.1 (Word w.Begin) body (λ e. let f : Word w.Const ≡ Word w.Begin = e in absurd (cc)) labels b.3.2 in
    let types = kept w.«Type» b.3.1 b.3.3.1 (Word w.Begin) body (λ e. let f : Word w.«Type» ≡ Word w.Begin = e in absurd (cc)) constants b.3.3.2 in
    let variables = kept w.Var b.3.3.1 b.3.3.3.1 (Word w.Begin) body (λ e. let f : Word w.Var ≡ Word w.Begin = e in absurd (cc)) types b.3.3.3.2 in
    let declared = b.3.3.3.3 in
    let none = ap (λ v. v.rest) (none_of_many declared.0 b.3.3.3.1 (λ x i m q. q) declared.2) in
    let part = declared.3.2 in
    let at_begin = part.2.0 in
    let at_end : part.1.rest ≡ body = cc in
    let q = part.3.2 in
    let empty = empty_before_end q.0 part.1 q.1 (Symbol s.Dot ∷ rest) at_end q.2 in
    let still : q.1.rest ≡ body = ap (λ v. v.rest) (sym empty) ∙ at_end in
    let alone = no_further (behind 1).statement q.3.0 q.1 q.3.1 (Symbol s.Dot ∷ rest) still q.3.2 in
    let behind_all = ap (λ v. v.rest) (sym (alone ∙ q.3.3.1)) ∙ still in
    let end = part.3.3.2.0 in
    let block_end = ap (λ v. v.rest) (part.3.3.3.1 ∙ declared.3.3.2.1 ∙ declared.3.3.3.1) in
    let last = p.3.3.3.3.3 in
    let at_dot = last.2.0 in
    let over = ap (λ v. v.rest) (last.3.2.1 ∙ last.3.3.1) in
    let finished = tree.1.2 in
    last_of rest behind_all end block_end at_dot over finished

pub follows_example : FollowsTheProgram
follows_example = record {
  no_tree = λ h. let e = nothing_follows (Id (codes "x") ∷ []) h in absurd (cc);
  within = omega arith;
  before = ([], short_tree 0 0);
  at = λ h v. let e = nothing_follows (Id (codes "x") ∷ v.0) v.1 in absurd (cc);
  cause = follows_the_program (omega arith) (short_tree 0 0);
}
