-- The first errors of two lists: a program begins with no token, and each begins with `program`.
use Rattle.std.proofs.Common.{◌≡◌, List, [], ◌∷◌, refl, arith}
use Rattle.mp_ast.specs.declared.tokens.TokenKind.{TokenKind}
use Rattle.mp_ast.specs.declared.tokens.TokenKind.TheVariants.{Word}
use Rattle.mp_ast.specs.declared.words.WordSymbol.TheVariants as w
use Rattle.mp_ast.specs.BlockGrammar.{Limits}
use Rattle.mp_ast.specs.Programs.{HasTree, IsViable, standard}
use Rattle.mp_ast.specs.FirstError.{ends_early, wrong}
use Rattle.mp_ast.specs.Examples.{program_tokens, program_tree, EndsEarly, WrongFirstToken}
use Rattle.mp_ast.proofs.ProgramExample.{program_example}

first_token : (limits : Limits) (kinds : List TokenKind) → HasTree limits kinds → (more : List TokenKind) × (kinds ≡ Word w.Program ∷ more)
first_token limits kinds h = let p = h.1.1 in (p.1.rest, p.2.0)

not_empty : (limits : Limits) → HasTree limits [] → ⊥
not_empty limits h = let f = (first_token limits [] h).1 in absurd (cc)

no_begin : (limits : Limits) (more : List TokenKind) → HasTree limits (Word w.Begin ∷ more) → ⊥
no_begin limits more h = let f = (first_token limits (Word w.Begin ∷ more) h).1 in absurd (cc)

viable_at_first : IsViable standard []
viable_at_first = (program_tokens, (program_tree, program_example))

pub ends_early_example : EndsEarly
ends_early_example = record {
  no_tree = not_empty standard;
  within = omega arith;
  before = viable_at_first;
  at = λ h. absurd (omega arith);
  cause = ends_early refl;
}

pub wrong_example : WrongFirstToken
wrong_example = record {
  no_tree = no_begin standard _;
  within = omega arith;
  before = viable_at_first;
  at = λ h v. no_begin standard _ v.1;
  cause = wrong (omega arith) (not_empty standard) (λ h. no_begin h.0 _ h.2.1);
}
