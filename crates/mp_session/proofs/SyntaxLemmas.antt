-- Syntax errors: their codes, and where their tokens stand.
use Rattle.std.proofs.Common.{◌≡◌, ℕ, zero, suc, ◌<◌, ◌≤◌, List, [], ◌∷◌, length, map, All, refl, subst, arith}
use Rattle.std.proofs.lemmas.List.{length-map}
use Rattle.std.proofs.lemmas.List.Elements.{All-map}
use Rattle.std.proofs.lemmas.Map.Keys.{sorted_from_strictly_increasing}
use Rattle.std.proofs.lemmas.Map.Views.{length-le_from_below}
use Rattle.mp_ast.specs.declared.tokens.Token.{Token}
use Rattle.mp_ast.specs.declared.tokens.TokenKind.{TokenKind}
use Rattle.mp_ast.specs.Programs.{standard}
use Rattle.mp_ast.specs.FirstError.{HasCode}
use Rattle.mp_ast.specs.FirstError.HasCode.{ends_early, follows_the_program, too_many_blocks, nested_too_deep, wrong}
use Rattle.mp_lex.specs.Order.{AreTokensInOrder}
use Rattle.mp_parse.specs.declared.errors.ParseError.{ParseError}
use Rattle.mp_parse.specs.declared.errors.ParseError.TheVariants as error
use Rattle.mp_parse.specs.Errors.{NamesFirstError}
use Rattle.mp_diag.specs.Codes.{IsListed, table}
use Rattle.mp_session.specs.Listing.{start_at}

-- ---- codes

syntax_listed : IsListed 201
unfolding table
syntax_listed = refl

end_listed : IsListed 202
unfolding table
end_listed = refl

depth_listed : IsListed 203
unfolding table
depth_listed = refl

number_listed : IsListed 204
unfolding table
number_listed = refl

behind_listed : IsListed 205
unfolding table
behind_listed = refl

-- the code of an error is one of a listing
code_listed : (kinds : List TokenKind) (index code : ℕ) → HasCode standard kinds index code → IsListed code
code_listed kinds index _ (ends_early e) = end_listed
code_listed kinds index _ (follows_the_program l t) = behind_listed
code_listed kinds index _ (too_many_blocks l n m) = number_listed
code_listed kinds index _ (nested_too_deep l n m d) = depth_listed
code_listed kinds index _ (wrong l n d) = syntax_listed

-- and so is that of an error that the parser tells
pub told_listed : (kinds : List TokenKind) (token code : ℕ) (e : ParseError) → e ≡ error.Syntax token code → NamesFirstError kinds e → IsListed code
told_listed kinds token code e s h = code_listed kinds token code (subst (NamesFirstError kinds) s h).cause

-- ---- places

pub start_within : (tokens : List Token) (index end : ℕ) → All (λ token. token.start < end) tokens → start_at tokens index end ≤ end
start_within [] index end h = omega arith
start_within (token ∷ tokens) zero end h = let less = h 0 token (omega arith) in omega arith
start_within (token ∷ tokens) (suc index) end h = start_within tokens index end (λ i d less. h (suc i) d (omega arith))

-- a text has no more tokens than bytes
pub few_tokens : (text : List ℕ) (tokens : List Token) → AreTokensInOrder text tokens → length tokens ≤ length text
few_tokens text tokens o =
    subst (λ n. n ≤ length text) (length-map tokens (λ token. token.start))
    (length-le_from_below (length text) (map (λ token. token.start) tokens)
    (sorted_from_strictly_increasing (map (λ token. token.start) tokens) o.ascending)
    (All-map (λ n. n < length text) (λ token. token.start) tokens o.within))
