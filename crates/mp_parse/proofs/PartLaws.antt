-- The laws of the parts of a block: the parser reads exactly what the grammar allows.
use Rattle.std.proofs.Common.{◌≡◌, Bool, true, ℕ, List, [], ◌∷◌, refl}
use Rattle.mp_ast.specs.declared.tokens.TokenKind.TheVariants as kind
use Rattle.mp_ast.specs.declared.words.WordSymbol.TheVariants as w
use Rattle.mp_ast.specs.declared.symbols.Symbol.TheVariants as s
use Rattle.mp_ast.specs.declared.leaves.Identifier.{Identifier}
use Rattle.mp_ast.specs.declared.leaves.Constant.{Constant}
use Rattle.mp_ast.specs.declared.types.Section.{Section}
use Rattle.mp_ast.specs.declared.types.Denoter.{Denoter}
use Rattle.mp_ast.specs.declared.blocks.ConstantDefinition.{ConstantDefinition}
use Rattle.mp_ast.specs.declared.blocks.TypeDefinition.{TypeDefinition}
use Rattle.mp_ast.specs.TypeGrammar as type_grammar
use Rattle.mp_cursor.specs.Leaves.{constant}
use Rattle.mp_cursor.specs.LeafTokens.{constant_begins}
use Rattle.mp_parse_type.specs.Types as types
use Rattle.mp_ast.specs.Rules.{Rule}
use Rattle.mp_ast.specs.Rules as rule
use Rattle.mp_ast.specs.LeafGrammar as leaf
use Rattle.mp_ast.specs.BlockGrammar as g
use Rattle.mp_cursor.specs.declared.next.Next.TheVariants as next
use Rattle.mp_cursor.specs.declared.next.Next.TheVariants.{Word, Symbol}
use Rattle.mp_cursor.specs.Nexts.{Nexts, is, any, either, among}
use Rattle.mp_cursor.specs.Parsers.{Parser, ◌>>=◌, ◌>>◌, pure, branch, expect, repeated, and_one}
use Rattle.mp_cursor.proofs.NextSets.{within, apart, within_any, within_itself}
use Rattle.mp_cursor.proofs.RuleLaws.{Law, LawWhere, law_where, law_pure, law_then, law_followed, law_word, law_symbol, law_ends, symbol_only}
use Rattle.mp_cursor.proofs.LeafLaws.{law_identifier, law_number, has_room, law_opened_word}
use Rattle.mp_cursor.proofs.ChoiceLaws.{law_branch}
use Rattle.mp_cursor.proofs.ListLaws.{Falls, falls_then, falls_last, falls_symbol, falls_identifier, law_many_from, law_separated}
use Rattle.mp_cursor.proofs.ConstantLaws.{law_constant}
use Rattle.mp_parse_type.proofs.TypeLaws.{law_denoter, law_section, denoter_begins}
use Rattle.mp_parse_stmt.proofs.StatementLaws.{law_sequence_behind}
use Rattle.mp_parse.specs.Blocks as p

-- ---- in general

-- a part that may be left out
law_part : {A : Type 0} {u : Bool} {f : Nexts} {q : Parser (List A)} {r : Rule (List A)} (test follow : Nexts) → Law u f follow q r →
    within f test ≡ true → apart follow test ≡ true → Law true (either f follow) follow (branch test q (pure [])) (g.part r)
law_part test follow a inside outside = law_branch test a inside outside (law_pure [] follow)

-- one after another, at least one, each beginning with a name
module _ {A : Type 0} {q : Parser A} {r : Rule A} (follow : Nexts) (a : Law true (is next.Identifier) any q r) (falls : Falls q)
    (stops : apart follow (is next.Identifier) ≡ true) where
  pub law_some : Law true (is next.Identifier) follow (q >>= (λ first. repeated (is next.Identifier) (and_one q) (first ∷ []))) (g.some r)
  law_some =
      law_then a (within_any (either (is next.Identifier) follow)) (λ first. law_many_from (is next.Identifier) follow a falls refl stops
      (within_any (is next.Identifier)) (within_any follow) refl (first ∷ []))

-- ---- what follows each part

abbrev pub after_labels : Nexts
after_labels = among (Word w.Const ∷ Word w.«Type» ∷ Word w.Var ∷ Word w.Procedure ∷ Word w.Function ∷ Word w.Begin ∷ [])

abbrev pub after_constants : Nexts
after_constants = among (Word w.«Type» ∷ Word w.Var ∷ Word w.Procedure ∷ Word w.Function ∷ Word w.Begin ∷ [])

abbrev pub after_types : Nexts
after_types = among (Word w.Var ∷ Word w.Procedure ∷ Word w.Function ∷ Word w.Begin ∷ [])

abbrev pub after_variables : Nexts
after_variables = among (Word w.Procedure ∷ Word w.Function ∷ Word w.Begin ∷ [])

abbrev pub block_begins : Nexts
block_begins = among (Word w.Label ∷ Word w.Const ∷ Word w.«Type» ∷ Word w.Var ∷ Word w.Procedure ∷ Word w.Function ∷ Word w.Begin ∷ [])

-- ---- labels

law_some_labels : Law true (is next.Number) (is (Symbol s.Semicolon)) p.some_labels (rule.separated (rule.symbol s.Comma) leaf.number)
law_some_labels = law_separated (kind.Symbol s.Comma) (symbol_only s.Comma) (is (Symbol s.Semicolon)) law_number refl refl refl

law_label_part : Law true (is (Word w.Label)) any p.label_part g.label_part
unfolding p.label_part
law_label_part =
    law_then (law_word w.Label) (within_any (is next.Number)) (λ at.
    law_then law_some_labels (within_itself (is (Symbol s.Semicolon))) (λ labels. law_then (law_symbol s.Semicolon) refl (λ z. law_pure labels any)))

pub law_labels : Law true (either (is (Word w.Label)) after_labels) after_labels p.labels (g.part g.label_part)
unfolding p.labels
law_labels = law_part (is (Word w.Label)) after_labels (law_followed after_labels (within_any after_labels) law_label_part) refl refl

-- ---- constants

abbrev a_constant : Identifier → Constant → ℕ → ConstantDefinition
a_constant name value at = record { name = name; value = value; semicolon = at }

-- behind its name
constant_behind : (name : Identifier) → Law true (is (Symbol s.Equal)) any (expect (Symbol s.Equal) >>
    (constant >>= (λ value. expect (Symbol s.Semicolon) >>= (λ at. pure (a_constant name value at)))))
    (rule.◌>>◌ (rule.symbol s.Equal) (rule.◌>>=◌ leaf.constant (λ value. rule.◌>>=◌ (rule.symbol s.Semicolon) (λ at. rule.gives (a_constant name value at)))))
constant_behind name =
    law_then (law_symbol s.Equal) (within_any constant_begins) (λ z. law_then law_constant (within_any (is (Symbol s.Semicolon)))
    (λ value. law_then (law_symbol s.Semicolon) (within_any any) (λ at. law_pure (a_constant name value at) any)))

law_constant_definition : Law true (is next.Identifier) any p.constant_definition g.constant_definition
unfolding p.constant_definition
law_constant_definition = law_then law_identifier (within_any (is (Symbol s.Equal))) constant_behind

falls_constant_definition : Falls p.constant_definition
unfolding p.constant_definition
falls_constant_definition = falls_then falls_identifier constant_behind

law_some_constants : Law true (is next.Identifier) after_constants p.some_constants (g.some g.constant_definition)
unfolding p.some_constants p.further_constant
law_some_constants = law_some after_constants law_constant_definition falls_constant_definition refl

pub law_constants : Law true (either (is (Word w.Const)) after_constants) after_constants p.constants (g.part g.constant_part)
unfolding p.constants
law_constants = law_part (is (Word w.Const)) after_constants (law_then (law_word w.Const) (within_any (is next.Identifier)) (λ z. law_some_constants)) refl refl

module _ (openers : ℕ) where
  -- ---- types

  abbrev a_type : Identifier → Denoter → ℕ → TypeDefinition
  a_type name of at = record { name = name; of = of; semicolon = at }

  type_behind : (name : Identifier) → Law true (is (Symbol s.Equal)) any (expect (Symbol s.Equal) >>
      (types.denoter openers >>= (λ of. expect (Symbol s.Semicolon) >>= (λ at. pure (a_type name of at)))))
      (rule.◌>>◌ (rule.symbol s.Equal) (rule.◌>>=◌ (type_grammar.denoter openers) (λ of. rule.◌>>=◌ (rule.symbol s.Semicolon) (λ at. rule.gives (a_type name of at)))))
  type_behind name =
      law_then (law_symbol s.Equal) (within_any denoter_begins) (λ z. law_then (law_denoter openers) refl
      (λ of. law_then (law_symbol s.Semicolon) (within_any any) (λ at. law_pure (a_type name of at) any)))

  law_type_definition : Law true (is next.Identifier) any (p.type_definition openers) (g.type_definition openers)
  unfolding p.type_definition
  law_type_definition = law_then law_identifier (within_any (is (Symbol s.Equal))) type_behind

  falls_type_definition : Falls (p.type_definition openers)
  unfolding p.type_definition
  falls_type_definition = falls_then falls_identifier type_behind

  law_some_types : Law true (is next.Identifier) after_types (p.some_types openers) (g.some (g.type_definition openers))
  unfolding p.some_types p.further_type
  law_some_types = law_some after_types law_type_definition falls_type_definition refl

  pub law_types : Law true (either (is (Word w.«Type»)) after_types) after_types (p.types openers) (g.part (g.type_part openers))
  unfolding p.types
  law_types = law_part (is (Word w.«Type»)) after_types (law_then (law_word w.«Type») (within_any (is next.Identifier)) (λ z. law_some_types)) refl refl

  -- ---- variables

  section_behind : (found : Section Denoter) → Law true (is (Symbol s.Semicolon)) any (expect (Symbol s.Semicolon) >> pure found)
      (rule.◌>>◌ (rule.symbol s.Semicolon) (rule.gives found))
  section_behind found = law_then (law_symbol s.Semicolon) (within_any any) (λ z. law_pure found any)

  law_variable_section : Law true (is next.Identifier) any (p.variable_section openers) (g.variable_section openers)
  unfolding p.variable_section
  law_variable_section = law_then (law_section openers) refl section_behind

  falls_variable_section : Falls (p.variable_section openers)
  unfolding p.variable_section
  falls_variable_section = falls_last (law_section openers) (λ found. falls_then (falls_symbol s.Semicolon) (λ z. law_pure found any))

  law_some_sections : Law true (is next.Identifier) after_variables (p.some_sections openers) (g.some (g.variable_section openers))
  unfolding p.some_sections p.further_section
  law_some_sections = law_some after_variables law_variable_section falls_variable_section refl

  pub law_variables : Law true (either (is (Word w.Var)) after_variables) after_variables (p.variables openers) (g.part (g.variable_part openers))
  unfolding p.variables
  law_variables = law_part (is (Word w.Var)) after_variables (law_then (law_word w.Var) (within_any (is next.Identifier)) (λ z. law_some_sections)) refl refl

  -- ---- statements

  pub begun_part : Law (has_room openers) (is (Word w.Begin)) any (p.statement_part openers) (g.statement_part openers)
  unfolding p.statement_part
  begun_part =
      law_opened_word w.Begin refl openers (λ n e at.
      law_then (law_sequence_behind openers n e) refl (λ found. law_then (law_word w.End) (within_any any) (λ end. law_pure _ any)))

  -- where an opener may stand open
  pub law_statement_part : {P : Type 0} → (P → has_room openers ≡ true) → LawWhere P true (is (Word w.Begin)) any (p.statement_part openers) (g.statement_part openers)
  law_statement_part {P} room = law_ends (λ granted. begun_part.ends tt (room granted)) (law_where P begun_part)
