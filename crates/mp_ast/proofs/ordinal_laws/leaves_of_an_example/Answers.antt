use Rattle.std.proofs.Common.{ℕ, List, Bool, false, Option, Some, None, ◌<◌, refl, ap, ◌∙◌, arith}
use Rattle.std.specs.Prelude.{bytes_eq, codes}
use Rattle.std.proofs.lemmas.Bool.{false≢true}
use Rattle.mp_ast.specs.declared.tokens.TokenKind.{TokenKind}
use Rattle.mp_ast.specs.declared.tokens.TokenKind.TheVariants as kind
use Rattle.mp_ast.specs.declared.words.WordSymbol.TheVariants as w
use Rattle.mp_ast.proofs.ordinal_laws.leaves_of_an_example.Goals as goal

-- the token is an identifier of this name
abbrev is : List ℕ → Option TokenKind → Bool
is name None = false
is name (Some (kind.Id other)) = bytes_eq name other
is name (Some (kind.Number value)) = false
is name (Some (kind.Text characters)) = false
is name (Some (kind.Word word)) = false
is name (Some (kind.Symbol symbol)) = false

pub returns-clause-stand : goal.returns-clause-stand
returns-clause-stand c = (
  λ _. (kind.Id (codes "p"), refl, refl),
  (
    λ _. (kind.Word w.Begin, refl, refl),
    (
      λ _. (kind.Id (codes "p"), refl, refl),
      (λ _. (kind.Word w.End, refl, refl), tt),
    ),
  ),
)

pub returns-clause-another_name : goal.returns-clause-another_name
returns-clause-another_name c = λ h. let t = h.1.1.0 refl in absurd (false≢true (ap (is (codes "q")) (t.1 ∙ ap Some t.2)))

pub returns-clause-another_ordinal : goal.returns-clause-another_ordinal
returns-clause-another_ordinal c = λ h. let t = h.1.1.0 refl in absurd (false≢true (ap (is (codes "p")) (t.1 ∙ ap Some t.2)))

pub returns-clause-nothing_told : goal.returns-clause-nothing_told
returns-clause-nothing_told c = λ h. let within : 4 < 7 = omega arith in let e = h 4 (codes "p") within refl in omega (arith, e)

pub returns-clause-out_of_order : goal.returns-clause-out_of_order
returns-clause-out_of_order c = λ h. let e = h.1.1.0 in omega (arith, e)
