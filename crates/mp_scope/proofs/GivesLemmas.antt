-- The test decides whether tables give an answer.
use Rattle.std.proofs.Common.{◌≡◌, ◌↔◌, Bool, true, false, IsTrue, ◌&&◌, List, Option, Some, None, Decides, refl, sym, ◌∙◌}
use Rattle.std.specs.Prelude.{is_some, unwrap_or}
use Rattle.std.proofs.lemmas.Bool.Decides.{Decides-like}
use mathlib.Core.Bool.{beq}
use Rattle.mp_tables.specs.declared.types.Shape.{Shape}
use Rattle.mp_tables.specs.declared.types.Shape.TheVariants as shape
use Rattle.mp_tables.specs.declared.headings.Heading.{Heading}
use Rattle.mp_tables.specs.declared.questions.Question.{Question}
use Rattle.mp_tables.specs.declared.questions.Question.TheVariants as question
use Rattle.mp_tables.specs.declared.questions.Given.{Given}
use Rattle.mp_tables.specs.declared.questions.Given.TheVariants as given
use Rattle.mp_tables.specs.declared.questions.Asked.{Asked}
use Rattle.mp_tables.specs.declared.tables.Table.{Table}
use Rattle.mp_tables.specs.contracts.headings.HeadingPartialEq.TheImpl as same_heading
use Rattle.mp_tables.specs.Seen.{seen, shape_of, heading_of, assigns_of, path_stands}
use Rattle.mp_tables.proofs.SameAnswers.{given_is}
use Rattle.mp_scope.specs.Gives.{Gives}
use Rattle.mp_scope.specs.GivesTest.{gives, shape_is}

never : {P : Type 0} → (P → ⊥) → Decides false P
never f = (λ e. absurd (let n : ⊥ = cc in n), λ p. absurd (f p))

by_shape : (o : Option Shape) (s : Shape) → Decides (shape_is o s) (IsTrue (is_some o) × (given.Shape (unwrap_or o (shape.Ptr None)) ≡ given.Shape s))
by_shape None s = never (λ h. let f : IsTrue false = h.0 in let n : ⊥ = cc in n)
by_shape (Some x) s = Decides-like _ (λ e. (refl, e)) (λ h. h.1) (given_is (given.Shape x) (given.Shape s))

by_heading : (b : Bool) (h k : Heading) → Decides (b && (same_heading.ghosts).eq h k) (IsTrue b × (given.Heading h ≡ given.Heading k))
by_heading true h k = Decides-like _ (λ e. (refl, e)) (λ p. p.1) (given_is (given.Heading h) (given.Heading k))
by_heading false h k = never (λ p. let f : IsTrue false = p.0 in let n : ⊥ = cc in n)

by_assigns : (b x y : Bool) → Decides (b && beq x y) (IsTrue b × (given.Assigns x ≡ given.Assigns y))
by_assigns true x y = Decides-like _ (λ e. (refl, e)) (λ p. p.1) (given_is (given.Assigns x) (given.Assigns y))
by_assigns false x y = never (λ p. let f : IsTrue false = p.0 in let n : ⊥ = cc in n)

pair : Question → Given → Asked
pair q g = record { question = q; answer = g }

decides : (tables : List Table) (q : Question) (g : Given) → Decides (gives tables q g) (Gives tables (pair q g))
unfolding pair
decides tables (question.Name n place) (given.Seen s) =
    Decides-like _ (λ e. record { stands = tt; same = e }) (λ h. h.same) (given_is (given.Seen (seen tables n place)) (given.Seen s))
decides tables (question.Shape id) (given.Shape s) =
    Decides-like _ (λ h. record { stands = h.0; same = h.1 }) (λ h. (h.stands, h.same)) (by_shape (shape_of tables id) s)
decides tables (question.Heading path) (given.Heading h) =
    Decides-like _ (λ h. record { stands = h.0; same = h.1 }) (λ h. (h.stands, h.same)) (by_heading (path_stands tables path) (heading_of tables path) h)
decides tables (question.Assigns path) (given.Assigns b) =
    Decides-like _ (λ h. record { stands = h.0; same = h.1 }) (λ h. (h.stands, h.same)) (by_assigns (path_stands tables path) (assigns_of tables path) b)
decides tables (question.Name n place) _ = never (λ h. let e = h.same in let n : ⊥ = cc in n)
decides tables (question.Shape id) _ = never (λ h. let e = h.same in let n : ⊥ = cc in n)
decides tables (question.Heading path) _ = never (λ h. let e = h.same in let n : ⊥ = cc in n)
decides tables (question.Assigns path) _ = never (λ h. let e = h.same in let n : ⊥ = cc in n)

pub given_exactly : (tables : List Table) (asked : Asked) (r : Bool) → r ≡ gives tables asked.question asked.answer → IsTrue r ↔ Gives tables asked
unfolding pair
given_exactly tables asked r e =
    (λ h. (decides tables asked.question asked.answer).0 (sym e ∙ h), λ h. e ∙ (decides tables asked.question asked.answer).1 h)
