-- Parsers of headings under higher limits.
use Rattle.std.proofs.Common.{◌≡◌, ℕ, zero, suc, Bool, true, false, ◌||◌, List, [], ◌∷◌, length, refl}
use Rattle.std.specs.Prelude.{if◌then◌else◌}
use Rattle.mp_ast.specs.declared.words.WordSymbol.TheVariants as w
use Rattle.mp_ast.specs.declared.symbols.Symbol.TheVariants as s
use Rattle.mp_ast.specs.declared.headings.FormalSection.{FormalSection}
use Rattle.mp_cursor.specs.declared.next.Next.TheVariants.{Word, Symbol}
use Rattle.mp_cursor.specs.Nexts.{is, among}
use Rattle.mp_cursor.specs.Parsers.{Parser, Outcome, next_token}
use Rattle.mp_parse_type.specs.Headings as p
use Rattle.mp_parse.proofs.Raised.{Counting, Raises, Past, Begun, Limit, Behind, raised_pure, raised_refuse, raised_expect, raised_identifier}
use Rattle.mp_parse.proofs.Raised.{raised_then, raised_map, raised_branch, raised_optional, raised_repeated, raised_identifiers, raised_granted}
use Rattle.mp_parse.proofs.Raised.{raised_never, raised_refused, raised_opened, begun_expect, less, no_room, not_higher}

module _ {Same Higher More : Type 0} {count : Counting} {G : Type 0} where
  raised_result : Raises Same Higher More count G p.result_type p.result_type
  unfolding p.result_type
  raised_result = raised_then (raised_expect _) (λ at. raised_identifier)

  raised_own_formals : {f g : Parser (List FormalSection)} → Raises Same Higher More count G f g → Raises Same Higher More count G (p.own_formals f) (p.own_formals g)
  raised_own_formals a = raised_branch (is (Symbol s.LeftParen)) a raised_pure

  raised_formal : {f g : Parser (List FormalSection)} → Raises Same Higher More count G f g → Raises Same Higher More count G (p.formal f) (p.formal g)
  unfolding p.formal p.variable_parameters p.procedure_parameter p.function_parameter p.value_parameters
  raised_formal a =
      raised_branch (is (Word w.Var)) (raised_then (raised_expect _) (λ at. raised_then raised_identifiers (λ names. raised_map _ raised_result)))
      (raised_branch (is (Word w.Procedure)) (raised_then (raised_expect _) (λ at. raised_then raised_identifier
      (λ name. raised_then (raised_own_formals a) (λ own. raised_pure))))
      (raised_branch (is (Word w.Function)) (raised_then (raised_expect _) (λ at. raised_then raised_identifier
      (λ name. raised_then (raised_own_formals a) (λ own. raised_map _ raised_result))))
      (raised_then raised_identifiers (λ names. raised_map _ raised_result))))

  raised_sections : {f g : Parser (List FormalSection)} → Raises Same Higher More count G f g → Raises Same Higher More count G (p.formal_sections f) (p.formal_sections g)
  unfolding p.formal_sections p.further_formal
  raised_sections a = raised_then (raised_formal a) (λ first. raised_repeated _ _ (λ found. raised_map _ (raised_then (raised_expect _) (λ at. raised_formal a))))

takes_either : {A : Type 0} (n declared : ℕ) (a b : Bool) (o u : Outcome A) → (a ≡ true → Past n declared o) → (b ≡ true → Past n declared u) →
    (a || (b || false)) ≡ true → Past n declared (if a then o else u)
takes_either n declared true b o u f g h = f refl
takes_either n declared false true o u f g h = g refl
takes_either n declared false false o u f g h = absurd (let z : ⊥ = cc in z)

module _ {Same Higher More : Type 0} {count : Counting} where
  raised_formals_with : (room high : ℕ) {f g : Parser (List FormalSection)} → Raises Same Higher More count (Behind Same Higher room high) f g →
      Raises Same Higher More count (Limit Same Higher room high) (p.formals_with room f) (p.formals_with high g)
  unfolding p.formals_with
  raised_formals_with room high a =
      raised_opened (Symbol s.LeftParen) refl room high (λ at. raised_then (raised_sections a) (λ found. raised_then (raised_expect _) (λ z. raised_pure)))

  behind_raises : (high room : ℕ) → Raises Same Higher More count (Behind Same Higher room high) (p.formals_behind room) (p.formals_behind high)
  unfolding p.formals_behind
  behind_raises zero zero = raised_refuse
  behind_raises zero (suc room) = raised_refused (not_higher (suc room))
  behind_raises (suc high) zero = raised_never (no_room (suc high)) (raised_formals_with high high (behind_raises high high))
  behind_raises (suc high) (suc room) = raised_granted (less room high) (raised_formals_with room high (behind_raises high room))

  raised_formals : (room high : ℕ) → Raises Same Higher More count (Limit Same Higher room high) (p.formals room) (p.formals high)
  raised_formals room high = raised_formals_with room high (behind_raises high room)

  begun_procedure : (room high : ℕ) → Begun Same Higher More count (Limit Same Higher room high) (is (Word w.Procedure)) (p.procedure_heading room) (p.procedure_heading high)
  unfolding p.procedure_heading
  begun_procedure room high =
      begun_expect (Word w.Procedure) refl (λ at. raised_then raised_identifier (λ name. raised_then (raised_own_formals (raised_formals room high)) (λ sections. raised_pure)))

  begun_function : (room high : ℕ) → Begun Same Higher More count (Limit Same Higher room high) (is (Word w.Function)) (p.function_heading room) (p.function_heading high)
  unfolding p.function_heading p.optional_result
  begun_function room high =
      begun_expect (Word w.Function) refl (λ at. raised_then raised_identifier (λ name. raised_then (raised_own_formals (raised_formals room high)) (λ sections.
      raised_then (raised_optional (is (Symbol s.Colon)) raised_result) (λ result. raised_pure))))

  -- a heading is begun by its word
  pub begun_heading : (room high : ℕ) → Begun Same Higher More count (Limit Same Higher room high) (among (Word w.Procedure ∷ Word w.Function ∷ []))
      (p.heading room) (p.heading high)
  unfolding p.heading
  begun_heading room high =
      let a = begun_procedure room high in
      let b = begun_function room high in
      record {
        raises = raised_branch (is (Word w.Procedure)) a.raises b.raises;
        takes = λ i e.
            takes_either (length i.rest) i.declared (is (Word w.Procedure) (next_token i)) (is (Word w.Function) (next_token i))
            (p.procedure_heading high i) (p.function_heading high i) (a.takes i) (b.takes i) e;
      }
