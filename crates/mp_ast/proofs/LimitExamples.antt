-- The first errors at a declaration word that the limits forbid: before it a program without declarations can follow, with
-- it one within higher limits, and none within these.
use Rattle.std.proofs.Common.{◌≡◌, ◌≢◌, ◌⊎◌, ℕ, zero, suc, ◌<◌, List, [], ◌∷◌, take, codes, Option, inl, inr, refl, sym, ap, ◌∙◌, arith}
use Rattle.mp_ast.specs.declared.tokens.TokenKind.{TokenKind}
use Rattle.mp_ast.specs.declared.tokens.TokenKind.TheVariants.{Id, Word, Symbol}
use Rattle.mp_ast.specs.declared.words.WordSymbol.{WordSymbol}
use Rattle.mp_ast.specs.declared.words.WordSymbol.TheVariants as w
use Rattle.mp_ast.specs.declared.symbols.Symbol.TheVariants as s
use Rattle.mp_ast.specs.declared.blocks.ProgramHeading.{ProgramHeading}
use Rattle.mp_ast.specs.declared.blocks.Block.{Block}
use Rattle.mp_ast.specs.declared.blocks.Tree.{Tree}
use Rattle.mp_ast.specs.Rules.{Rule, Input, gives, word, symbol, opener, Many, no_more, one_more}
use Rattle.mp_ast.specs.StatementGrammar.{behind}
use Rattle.mp_ast.specs.BlockGrammar.{Limits, block_with, nested_block}
use Rattle.mp_ast.specs.Programs.{HasTree, IsViable}
use Rattle.mp_ast.specs.FirstError.{HasTooManyDeclarations, too_many_blocks, nested_too_deep}
use Rattle.mp_ast.specs.Examples.{declaring_tokens, OneTooDeep, OneTooMany, TooDeepAndTooMany}
use Rattle.mp_ast.proofs.ExampleLemmas.{seq, ◌⊳◌, took, nothing, next, past_1}

-- no block may stand in the program's, or no declaration
abbrev AllowsNone : ℕ → ℕ → Type 0
AllowsNone depth declarations = (depth ≡ 0) ⊎ (declarations ≡ 0)

-- nothing stands there, or `procedure`
abbrev BeginsNothingElse : Input → Type 0
BeginsNothingElse i = (k : TokenKind) (more : List TokenKind) → i.rest ≡ k ∷ more → k ≡ Word w.Procedure

still : (i m : Input) → i ≡ m → BeginsNothingElse i → BeginsNothingElse m
still i m e h k more f = h k more (ap (λ v. v.rest) e ∙ f)

-- a part of a block that begins with another word is left out
left_out : {A : Type 0} {X : ℕ → Input → Type 0} {xs : List A} (first : WordSymbol) (i m : Input) → Word first ≢ Word w.Procedure → BeginsNothingElse i →
    ((at : ℕ) × (l : Input) × word first i at l × X at l) ⊎ gives [] i xs m → BeginsNothingElse m
left_out first i m other h (inl p) = absurd (other (h (Word first) p.1.rest p.2.0))
left_out first i m other h (inr p) = still i m p.1 h

pub none_of_many : {A : Type 0} {r : Rule A} {j : Input} (xs : List A) (i : Input) → ((x : A) (i m : Input) → r i x m → ⊥) → Many r j xs i → i ≡ j
none_of_many _ _ h no_more = refl
none_of_many _ _ h (one_more x xs i m p more) = absurd (h x i m p)

opened : (room : ℕ) (k : TokenKind) (i : Input) (at : ℕ) (m : Input) → opener room k i at m → i.rest ≡ k ∷ m.rest
opened zero k i at m h = absurd h
opened (suc room) k i at m h = h.0

label_apart : Word w.Label ≢ Word w.Procedure
label_apart e = let f : Word w.Label ≡ Word w.Procedure = e in absurd (cc)

const_apart : Word w.Const ≢ Word w.Procedure
const_apart e = let f : Word w.Const ≡ Word w.Procedure = e in absurd (cc)

type_apart : Word w.«Type» ≢ Word w.Procedure
type_apart e = let f : Word w.«Type» ≡ Word w.Procedure = e in absurd (cc)

var_apart : Word w.Var ≢ Word w.Procedure
var_apart e = let f : Word w.Var ≡ Word w.Procedure = e in absurd (cc)

no_statements : (room : ℕ) (i : Input) (at : ℕ) (m : Input) → BeginsNothingElse i → opener room (Word w.Begin) i at m → ⊥
no_statements room i at m h o = let f = h (Word w.Begin) m.rest (opened room (Word w.Begin) i at m o) in absurd (cc)

-- the parts before the declarations are left out
at_declarations : (limits : Limits) (heading : Option ProgramHeading) (depth : ℕ) (nested : Rule Tree) (found : Block × List Tree) (i j : Input) →
    BeginsNothingElse i → (p : block_with limits heading depth nested i found j) → BeginsNothingElse p.3.3.3.1
at_declarations limits heading depth nested found i j h p =
    let labels = left_out w.Label i p.1 label_apart h p.2 in
    let constants = left_out w.Const p.1 p.3.1 const_apart labels p.3.2 in
    let types = left_out w.«Type» p.3.1 p.3.3.1 type_apart constants p.3.3.2 in
    left_out w.Var p.3.3.1 p.3.3.3.1 var_apart types p.3.3.3.2

below_none : (n m : ℕ) → n < m → m ≡ 0 → ⊥
below_none n m h e = omega arith

no_suc : (n : ℕ) → suc n ≡ 0 → ⊥
no_suc n e = omega arith

not_allowed : (depth declarations n : ℕ) → AllowsNone (suc depth) declarations → n < declarations → ⊥
not_allowed depth declarations n (inl e) h = no_suc depth e
not_allowed depth declarations n (inr e) h = below_none n declarations h e

no_block : (limits : Limits) (heading : Option ProgramHeading) (depth : ℕ) (nested : Rule Tree) (found : Block × List Tree) (i j : Input) →
    AllowsNone depth limits.declarations → BeginsNothingElse i → block_with limits heading depth nested i found j → ⊥
no_block limits heading zero nested found i j none h p =
    let declared = p.3.3.3.3 in
    let e = none_of_many declared.0 p.3.3.3.1 (λ x i m q. q) declared.2 in
    no_statements limits.openers declared.1 declared.3.2.0 declared.3.2.1 (still p.3.3.3.1 declared.1 e (at_declarations limits heading zero nested found i j h p)) declared.3.2.2
no_block limits heading (suc depth) nested found i j none h p =
    let declared = p.3.3.3.3 in
    let e = none_of_many declared.0 p.3.3.3.1 (λ x i m q. not_allowed depth limits.declarations i.declared none q.2.0) declared.2 in
    no_statements limits.openers declared.1 declared.3.2.0 declared.3.2.1
    (still p.3.3.3.1 declared.1 e (at_declarations limits heading (suc depth) nested found i j h p)) declared.3.2.2

pub behind_heading : {A : Type 0} {X : ℕ → Input → Type 0} (xs : List A) (i m j : Input) (kinds : List TokenKind) → i.rest ≡ Symbol s.Semicolon ∷ kinds →
    ((at : ℕ) × (l : Input) × symbol s.LeftParen i at l × X at l) ⊎ gives [] i xs m → m.rest ≡ Symbol s.Semicolon ∷ j.rest → j.rest ≡ kinds
behind_heading xs i m j kinds e (inl p) f = let g = p.2.0 in absurd (cc)
behind_heading xs i m j kinds e (inr p) f = let g = ap (λ v. v.rest) p.1 in cc

-- behind `program p;` nothing but `procedure` stands: there is no program
no_program : (limits : Limits) (kinds : List TokenKind) → AllowsNone limits.depth limits.declarations →
    ((k : TokenKind) (more : List TokenKind) → kinds ≡ k ∷ more → k ≡ Word w.Procedure) →
    HasTree limits (Word w.Program ∷ Id (codes "p") ∷ Symbol s.Semicolon ∷ kinds) → ⊥
no_program limits kinds none h tree =
    let p = tree.1.1 in
    let first = p.2.0 in
    let second = p.3.2.0 in
    let third : p.3.1.rest ≡ Symbol s.Semicolon ∷ kinds = cc in
    let e = behind_heading p.3.3.0 p.3.1 p.3.3.1 p.3.3.3.1 kinds third p.3.3.2 p.3.3.3.2.0 in
    no_block limits _ limits.depth (nested_block limits limits.depth) p.3.3.3.3.0 p.3.3.3.1 p.3.3.3.3.1 none (λ k more f. h k more (sym e ∙ f)) p.3.3.3.3.2

nothing_there : (k : TokenKind) (more : List TokenKind) → [] ≡ k ∷ more → k ≡ Word w.Procedure
nothing_there k more e = let f : ◌≡◌ {A = List TokenKind} [] (k ∷ more) = e in absurd (cc)

procedure_there : (kinds : List TokenKind) (k : TokenKind) (more : List TokenKind) → Word w.Procedure ∷ kinds ≡ k ∷ more → k ≡ Word w.Procedure
procedure_there kinds k more e = let f : Word w.Procedure ∷ kinds ≡ k ∷ more = e in cc

-- program p; begin end.
pub short_tree : (depth declarations : ℕ) →
    HasTree (record { openers = 1; depth = depth; declarations = declarations }) (Word w.Program ∷ Id (codes "p") ∷ Symbol s.Semicolon ∷ Word w.Begin ∷ Word w.End ∷
    Symbol s.Dot ∷ [])
unfolding behind
short_tree depth declarations = (
  _,
  (
    _,
    (seq _ _ took
        (seq _ _ took (seq _ _ (past_1 nothing)
        (seq _ _ took (seq _ _
        (seq _ _ (past_1 nothing)
        (seq _ _ (past_1 nothing)
        (seq _ _ (past_1 nothing)
        (seq _ _ (past_1 nothing)
        (seq _ _ no_more (seq _ _ (seq _ _ took (seq _ _ (seq _ _ (inl (inl (seq _ _ next nothing))) (seq _ _ no_more nothing)) (seq _ _ took nothing)))
        (seq _ _ next nothing))))))) (seq _ _ took (seq _ _ next nothing))))))),
    refl,
  ),
)

short_program : (depth declarations : ℕ) → IsViable (record { openers = 1; depth = depth; declarations = declarations }) (take 3 declaring_tokens)
short_program depth declarations = (Word w.Begin ∷ Word w.End ∷ Symbol s.Dot ∷ [], short_tree depth declarations)

-- program p; procedure q; begin end; begin end.
long_program : IsViable (record { openers = 1; depth = 1; declarations = 1 }) declaring_tokens
unfolding behind nested_block
long_program = (
  Id (codes "q") ∷ Symbol s.Semicolon ∷ Word w.Begin ∷ Word w.End ∷ Symbol s.Semicolon ∷ Word w.Begin ∷ Word w.End ∷ Symbol s.Dot ∷ [],
  (
    _,
    (
      _,
      (seq _ _ took
          (seq _ _ took (seq _ _ (past_1 nothing)
          (seq _ _ took (seq _ _
          (seq _ _ (past_1 nothing)
          (seq _ _ (past_1 nothing)
          (seq _ _ (past_1 nothing)
          (seq _ _ (past_1 nothing)
          (seq _ _ ((seq _ _ (omega arith, refl)
          (seq _ _ (inl (seq _ _ took (seq _ _ took (seq _ _ (past_1 nothing) nothing))))
          (seq _ _ took (seq _ _
          (past_1 (seq _ _ (
            _,
            (seq _ _
                (seq _ _ (past_1 nothing)
                (seq _ _ (past_1 nothing)
                (seq _ _ (past_1 nothing)
                (seq _ _ (past_1 nothing)
                (seq _ _ no_more (seq _ _ (seq _ _ took (seq _ _ (seq _ _ (inl (inl (seq _ _ next nothing))) (seq _ _ no_more nothing)) (seq _ _ took nothing)))
                (seq _ _ next nothing))))))) nothing),
            refl,
          ) nothing)) (seq _ _ took nothing))))) ⊳ no_more)
          (seq _ _ (seq _ _ took (seq _ _ (seq _ _ (inl (inl (seq _ _ next nothing))) (seq _ _ no_more nothing)) (seq _ _ took nothing))) (seq _ _ next nothing)))))))
          (seq _ _ took (seq _ _ next nothing))))))),
      refl,
    ),
  ),
)

-- where no block may stand in the program's
no_block_there : (limits : Limits) → limits.depth ≡ 0 → HasTooManyDeclarations limits declaring_tokens → ⊥
no_block_there limits e h = no_program h.0 (Word w.Procedure ∷ h.2.0) (inl (sym h.1.depth ∙ e)) (procedure_there h.2.0) h.2.1

pub one_too_deep : OneTooDeep
one_too_deep =
    let limits : Limits = record { openers = 1; depth = 0; declarations = 1 } in
    record {
      no_tree = no_program limits (Word w.Procedure ∷ []) (inl refl) (procedure_there []);
      within = omega arith;
      before = short_program 0 1;
      at = λ h v. no_program limits (Word w.Procedure ∷ v.0) (inl refl) (procedure_there v.0) v.1;
      cause = nested_too_deep (omega arith) (no_program limits [] (inl refl) nothing_there) (no_block_there limits refl)
          (record { openers = 1; depth = 1; declarations = 1 }, record { openers = omega arith; depth = omega arith; declarations = omega arith }, long_program);
    }

pub one_too_many : OneTooMany
one_too_many =
    let limits : Limits = record { openers = 1; depth = 1; declarations = 0 } in
    record {
      no_tree = no_program limits (Word w.Procedure ∷ []) (inr refl) (procedure_there []);
      within = omega arith;
      before = short_program 1 0;
      at = λ h v. no_program limits (Word w.Procedure ∷ v.0) (inr refl) (procedure_there v.0) v.1;
      cause = too_many_blocks (omega arith) (no_program limits [] (inr refl) nothing_there)
          (record { openers = 1; depth = 1; declarations = 1 }, record { openers = refl; depth = refl; declarations = omega arith }, long_program);
    }

pub too_deep_and_too_many : TooDeepAndTooMany
too_deep_and_too_many =
    let limits : Limits = record { openers = 1; depth = 0; declarations = 0 } in
    record {
      no_tree = no_program limits (Word w.Procedure ∷ []) (inl refl) (procedure_there []);
      within = omega arith;
      before = short_program 0 0;
      at = λ h v. no_program limits (Word w.Procedure ∷ v.0) (inl refl) (procedure_there v.0) v.1;
      cause = nested_too_deep (omega arith) (no_program limits [] (inl refl) nothing_there) (no_block_there limits refl)
          (record { openers = 1; depth = 1; declarations = 1 }, record { openers = omega arith; depth = omega arith; declarations = omega arith }, long_program);
    }
