-- The laws of headings: the parsers read exactly what the grammar allows.
use Rattle.std.proofs.Common.{◌≡◌, ℕ, zero, suc, Bool, true, false, List, [], ◌∷◌, refl}
use Rattle.mp_ast.specs.declared.tokens.TokenKind.TheVariants as kind
use Rattle.mp_ast.specs.declared.words.WordSymbol.TheVariants as w
use Rattle.mp_ast.specs.declared.symbols.Symbol.TheVariants as s
use Rattle.mp_ast.specs.declared.headings.FormalSection.{FormalSection}
use Rattle.mp_ast.specs.declared.headings.FormalSection.TheVariants as f
use Rattle.mp_ast.specs.Rules.{Rule}
use Rattle.mp_ast.specs.Rules as rule
use Rattle.mp_ast.specs.HeadingGrammar as g
use Rattle.mp_cursor.specs.declared.next.Next.TheVariants as next
use Rattle.mp_cursor.specs.declared.next.Next.TheVariants.{Word, Symbol}
use Rattle.mp_cursor.specs.Nexts.{Nexts, is, any, either, among, but}
use Rattle.mp_cursor.specs.Parsers.{Parser}
use Rattle.mp_cursor.proofs.NextSets.{apart, within_any}
use Rattle.mp_cursor.proofs.RuleLaws.{Law, law_pure, law_then, law_map, law_followed, law_begun, law_as, law_word, law_symbol, law_never, law_unfinished, symbol_only}
use Rattle.mp_cursor.proofs.LeafLaws.{law_identifier, has_room, law_opened_symbol}
use Rattle.mp_cursor.proofs.ChoiceLaws.{law_branch, law_optional}
use Rattle.mp_cursor.proofs.ListLaws.{law_separated}
use Rattle.mp_cursor.proofs.ConstantLaws.{law_identifiers}
use Rattle.mp_parse_type.specs.Headings as p
use Rattle.mp_parse_type.specs.Headings.{after_heading}
use Rattle.mp_parse_type.proofs.Groupings.{last_first}

-- ---- what begins and what may follow

abbrev pub parenthesis : Nexts
parenthesis = is (Symbol s.LeftParen)

abbrev pub formal_begins : Nexts
formal_begins = among (next.Identifier ∷ Word w.Var ∷ Word w.Procedure ∷ Word w.Function ∷ [])

-- a parenthesis goes on with a procedural parameter
abbrev pub after_formal : Nexts
after_formal = but (Symbol s.LeftParen ∷ [])

abbrev pub heading_begins : Nexts
heading_begins = among (Word w.Procedure ∷ Word w.Function ∷ [])

-- ---- parameters

law_result_type : Law true (is (Symbol s.Colon)) any p.result_type g.result_type
unfolding p.result_type
law_result_type = law_then (law_symbol s.Colon) refl (λ at. law_identifier)

law_value_parameters : Law true (is next.Identifier) any p.value_parameters g.value_parameters
unfolding p.value_parameters
law_value_parameters = law_then law_identifiers refl (λ names. law_map (f.Values names) law_result_type)

law_variable_parameters : Law true (is (Word w.Var)) any p.variable_parameters g.variable_parameters
unfolding p.variable_parameters
law_variable_parameters = law_then (law_word w.Var) refl (λ at. law_then law_identifiers refl (λ names. law_map (f.Variables at names) law_result_type))

-- formal parameters, if there are any, where so many more openers may stand open
module _ {b : Bool} {formals : Parser (List FormalSection)} {r : Rule (List FormalSection)} (law : Law b parenthesis any formals r) where
  law_own_formals : (follow : Nexts) → apart follow parenthesis ≡ true → Law true (either parenthesis follow) follow (p.own_formals formals) (rule.◌<|>◌ r (rule.gives []))
  law_own_formals follow stops = law_branch parenthesis (law_followed follow (within_any follow) law) refl stops (law_pure [] follow)

  law_procedure_parameter : Law true (is (Word w.Procedure)) after_formal (p.procedure_parameter formals) (g.procedure_parameter r)
  unfolding p.procedure_parameter
  law_procedure_parameter =
      law_then (law_word w.Procedure) refl (λ at.
      law_then law_identifier refl (λ name.
      law_then (law_own_formals after_formal refl) refl (λ own. law_pure (f.Procedure at name own) after_formal)))

  law_function_parameter : Law true (is (Word w.Function)) any (p.function_parameter formals) (g.function_parameter r)
  unfolding p.function_parameter
  law_function_parameter =
      law_then (law_word w.Function) refl (λ at.
      law_then law_identifier refl (λ name.
      law_then (law_own_formals (is (Symbol s.Colon)) refl) refl (λ own. law_map (f.Function at name own) law_result_type)))

  law_formal : Law true formal_begins after_formal (p.formal formals) (g.formal r)
  unfolding p.formal
  law_formal = law_begun formal_begins refl (law_as (last_first _ _ _ _)
      (law_branch (is (Word w.Var)) (law_followed after_formal refl law_variable_parameters) refl refl
      (law_branch (is (Word w.Procedure)) law_procedure_parameter refl refl
      (law_branch (is (Word w.Function)) (law_followed after_formal refl law_function_parameter) refl refl (law_followed after_formal refl law_value_parameters)))))

  law_formals_with : (room : ℕ) → Law (has_room room) parenthesis any (p.formals_with room formals) (g.formals_with room r)
  unfolding p.formals_with p.formal_sections p.further_formal
  law_formals_with room =
      law_opened_symbol s.LeftParen room (λ n e at.
      law_then (law_separated (kind.Symbol s.Semicolon) (symbol_only s.Semicolon) (is (Symbol s.RightParen)) law_formal refl refl refl) refl (λ sections.
      law_then (law_symbol s.RightParen) refl (λ end. law_pure sections any)))

law_formals_behind : (room : ℕ) → Law false parenthesis any (p.formals_behind room) (g.formals_behind room)
unfolding p.formals_behind g.formals_behind
law_formals_behind zero = law_never parenthesis any
law_formals_behind (suc room) = law_unfinished (law_formals_with (law_formals_behind room) room)

-- formal parameters in parentheses
pub law_formals : (room : ℕ) → Law (has_room room) parenthesis any (p.formals room) (g.formals room)
law_formals room = law_formals_with (law_formals_behind room) room

-- ---- headings

law_procedure_heading : (room : ℕ) → Law true (is (Word w.Procedure)) after_formal (p.procedure_heading room) (g.procedure_heading room)
unfolding p.procedure_heading
law_procedure_heading room =
    law_then (law_word w.Procedure) refl (λ at.
    law_then law_identifier refl (λ name.
    law_then (law_own_formals (law_formals room) after_formal refl) refl (λ sections. law_pure _ after_formal)))

law_optional_result : Law true (either (is (Symbol s.Colon)) after_heading) after_heading p.optional_result (rule.optional g.result_type)
unfolding p.optional_result
law_optional_result = law_optional (is (Symbol s.Colon)) after_heading (law_followed after_heading refl law_result_type) refl refl

law_function_heading : (room : ℕ) → Law true (is (Word w.Function)) after_heading (p.function_heading room) (g.function_heading room)
unfolding p.function_heading
law_function_heading room =
    law_then (law_word w.Function) refl (λ at.
    law_then law_identifier refl (λ name.
    law_then (law_own_formals (law_formals room) after_formal refl) refl (λ sections.
    law_then law_optional_result refl (λ result. law_pure _ after_heading))))

-- a heading, where so many more openers may stand open
pub law_heading : (room : ℕ) → Law true heading_begins after_heading (p.heading room) (g.heading room)
unfolding p.heading
law_heading room =
    law_begun heading_begins refl (law_branch (is (Word w.Procedure)) (law_followed after_heading refl (law_procedure_heading room)) refl refl (law_function_heading room))
