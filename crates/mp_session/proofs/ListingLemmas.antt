-- The listing of a text, case by case.
use Rattle.std.proofs.Common.{◌≡◌, ◌≢◌, ℕ, zero, suc, ◌<◌, ◌≤◌, true, false, List, [], ◌∷◌, length, Some, get_or, ◌==◌, All, refl, ap, sym, ◌∙◌, arith}
use Rattle.std.specs.Prelude.{Result, IfOk}
use Rattle.std.proofs.lemmas.Bool.{eqb-true}
use Rattle.std.proofs.lemmas.Result.{IfOk-weaker}
use Rattle.mp_base.specs.declared.memory.Memory.{Memory}
use Rattle.mp_base.specs.Text.{bytes_of}
use Rattle.mp_ast.specs.declared.errors.LexError.{LexError}
use Rattle.mp_ast.specs.declared.tokens.Token.{Token}
use Rattle.mp_ast.specs.Programs.{kinds_of}
use Rattle.mp_lex.specs.Lexed.{lexical_tokens, lexical_errors}
use Rattle.mp_parse.specs.declared.errors.ParseError.{ParseError}
use Rattle.mp_parse.specs.declared.errors.ParseError.TheVariants as error
use Rattle.mp_parse.specs.Errors.{first_error, told}
use Rattle.mp_diag.specs.Codes.{IsListed}
use Rattle.mp_diag.specs.Listing.{listing, shown_errors}
use Rattle.mp_diag.proofs.ListedLemmas.{lexical_listed, shown_listed}
use Rattle.mp_session.specs.Listing.{lexed_listing, parsed_listing, shown_syntax, text_listing}

is_lexed : (text : List (List ℕ)) → text_listing text ≡ lexed_listing text (lexical_tokens (bytes_of text)) (lexical_errors (bytes_of text))
unfolding text_listing
is_lexed text = refl

some_errors : (text : List (List ℕ)) (tokens : List Token) (errors : List LexError) → 0 < length errors → lexed_listing text tokens errors ≡ listing (shown_errors text errors)
some_errors text tokens [] h = absurd (omega arith)
some_errors text tokens (error ∷ errors) h = refl

no_errors : (text : List (List ℕ)) (tokens : List Token) (errors : List LexError) → length errors ≡ 0 →
    lexed_listing text tokens errors ≡ parsed_listing text tokens (first_error (kinds_of tokens))
no_errors text tokens [] h = refl
no_errors text tokens (error ∷ errors) h = absurd (omega arith)

-- the listing of lexical errors
pub erroneous : (bytes : List ℕ) (text : List (List ℕ)) (errors : List LexError) → bytes ≡ bytes_of text → errors ≡ lexical_errors bytes →
    0 < length errors → text_listing text ≡ listing (shown_errors text errors)
erroneous bytes text errors b e h = is_lexed text ∙ ap (lexed_listing text (lexical_tokens (bytes_of text))) (sym (e ∙ ap lexical_errors b))
    ∙ some_errors text (lexical_tokens (bytes_of text)) errors h

-- the listing of a text without them
pub parsed : (bytes : List ℕ) (text : List (List ℕ)) (tokens : List Token) (errors : List LexError) → bytes ≡ bytes_of text →
    tokens ≡ lexical_tokens bytes → errors ≡ lexical_errors bytes → length errors ≡ 0 →
    text_listing text ≡ parsed_listing text tokens (first_error (kinds_of tokens))
parsed bytes text tokens errors b t e h =
    is_lexed text ∙ no_errors text (lexical_tokens (bytes_of text)) (lexical_errors (bytes_of text)) (ap length (sym (e ∙ ap lexical_errors b)) ∙ h)
    ∙ ap (λ ts. parsed_listing text ts (first_error (kinds_of ts))) (sym (t ∙ ap lexical_tokens b))

-- the listing of a syntax error that the parser told as this token and this code
pub of_error : (text : List (List ℕ)) (tokens now : List Token) (token code token_told code_told : ℕ) (failure : ParseError)
    (listed : Result (List ℕ) Memory) → now ≡ tokens → token_told ≡ token → code_told ≡ code → failure ≡ error.Syntax token code
    → (failure ≢ error.Memory → first_error (kinds_of tokens) ≡ told failure)
    → IfOk listed (λ b. b ≡ listing (shown_syntax text now (record { token = token_told; code = code_told }) ∷ [])) →
    IfOk listed (λ b. b ≡ parsed_listing text tokens (first_error (kinds_of tokens)))
of_error text tokens now token code token_told code_told failure listed n t c s f h =
    let found : first_error (kinds_of tokens) ≡ Some (record { token = token; code = code }) = f (λ q. let z : ⊥ = cc in z) ∙ ap told s in
    let parts = ap (λ token. listing (shown_syntax text now (record { token = token; code = code_told }) ∷ [])) t
    ∙ ap (λ code. listing (shown_syntax text now (record { token = token; code = code }) ∷ [])) c in
    let same = parts ∙ ap (λ ts. listing (shown_syntax text ts (record { token = token; code = code }) ∷ [])) n ∙ ap (parsed_listing text tokens) (sym found) in
    IfOk-weaker listed (λ b. b ≡ listing (shown_syntax text now (record { token = token_told; code = code_told }) ∷ []))
    (λ b. b ≡ parsed_listing text tokens (first_error (kinds_of tokens))) (λ b e. e ∙ same) h

all_listed : (errors : List LexError) → All (λ error. (101 ≤ error.code) × (error.code ≤ 108)) errors → All (λ error. IsListed error.code) errors
all_listed errors h = λ k d lt. let p = h k d lt in lexical_listed (get_or errors k d).code p.0 p.1

pub lexical_shown_listed : (text : List (List ℕ)) (errors : List LexError) → All (λ error. (101 ≤ error.code) × (error.code ≤ 108)) errors →
    All (λ shown. IsListed shown.code) (shown_errors text errors)
lexical_shown_listed text errors h = shown_listed text errors (all_listed errors h)

pub some_of : (n : ℕ) → (n == 0) ≡ false → 0 < n
some_of zero e = let f : true ≡ false = e in absurd (cc)
some_of (suc n) e = omega arith

pub none_of : (n : ℕ) → (n == 0) ≡ true → n ≡ 0
none_of n e = eqb-true n 0 e
