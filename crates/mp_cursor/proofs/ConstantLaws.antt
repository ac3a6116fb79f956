-- The laws of names, signs and constants.
use Rattle.std.proofs.Common.{◌≡◌, true, [], ◌∷◌, Option, refl}
use Rattle.mp_ast.specs.declared.tokens.TokenKind.TheVariants as kind
use Rattle.mp_ast.specs.declared.symbols.Symbol.TheVariants as s
use Rattle.mp_ast.specs.declared.leaves.Sign.{Sign}
use Rattle.mp_ast.specs.declared.leaves.Constant.TheVariants as c
use Rattle.mp_ast.specs.Rules as rule
use Rattle.mp_ast.specs.LeafGrammar as grammar
use Rattle.mp_cursor.specs.declared.next.Next.TheVariants as next
use Rattle.mp_ast.specs.Rules.{◌<$>◌ as ◌<$>ʳ◌, ◌<|>◌ as ◌<|>ʳ◌}
use Rattle.mp_cursor.specs.Nexts.{Nexts, is, any, either, among}
use Rattle.mp_cursor.proofs.NextSets.{within_any, apart}
use Rattle.mp_cursor.proofs.SameRules.{or_swapped}
use Rattle.mp_cursor.specs.Leaves.{sign, signs, optional_sign, signed, signed_constant, constant, constants, identifiers}
use Rattle.mp_cursor.specs.LeafTokens.{constant_begins, but_comma}
use Rattle.mp_cursor.proofs.RuleLaws.{Law, law_then, law_map, law_pure, law_begun, law_followed, law_as, law_symbol, symbol_only}
use Rattle.mp_cursor.proofs.LeafLaws.{law_identifier, law_number, law_string}
use Rattle.mp_cursor.proofs.ChoiceLaws.{law_branch, law_optional}
use Rattle.mp_cursor.proofs.ListLaws.{law_separated}

pub law_identifiers : Law true (is next.Identifier) but_comma identifiers (rule.separated (rule.symbol s.Comma) grammar.identifier)
law_identifiers = law_separated (kind.Symbol s.Comma) (symbol_only s.Comma) but_comma law_identifier refl refl refl

pub law_sign : Law true signs any sign grammar.sign
unfolding sign
law_sign =
    law_begun signs refl (law_branch (is (next.Symbol s.Plus)) (law_then (law_symbol s.Plus) refl (λ at. law_pure _ any)) refl refl
    (law_then (law_symbol s.Minus) refl (λ at. law_pure _ any)))

-- before what begins with no sign
pub law_optional_sign : (follow : Nexts) → apart follow signs ≡ true → Law true (either signs follow) follow optional_sign (rule.optional grammar.sign)
unfolding optional_sign
law_optional_sign follow e = law_optional signs follow (law_followed follow (within_any follow) law_sign) refl e

abbrev unsigned : Nexts
unsigned = among (next.Number ∷ next.Identifier ∷ [])

law_signed : (s : Option Sign) → Law true unsigned any (signed s) (c.Number s <$>ʳ grammar.number <|>ʳ c.Name s <$>ʳ grammar.identifier)
law_signed s = law_begun unsigned refl (law_branch (is next.Number) (law_map (c.Number s) law_number) refl refl (law_map (c.Name s) law_identifier))

law_signed_constant : Law true (either signs unsigned) any signed_constant grammar.signed_constant
unfolding signed_constant
law_signed_constant = law_then (law_optional_sign unsigned refl) refl law_signed

pub law_constant : Law true constant_begins any constant grammar.constant
unfolding constant
law_constant = law_begun constant_begins refl (law_as (or_swapped _ _) (law_branch (is next.Text) (law_map c.Text law_string) refl refl law_signed_constant))

pub law_constants : Law true constant_begins but_comma constants (rule.separated (rule.symbol s.Comma) grammar.constant)
law_constants = law_separated (kind.Symbol s.Comma) (symbol_only s.Comma) but_comma law_constant refl refl refl
