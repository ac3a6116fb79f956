-- Codes that stand in the table, for those who make a listing.
use Rattle.std.proofs.Common.{◌≡◌, ℕ, zero, suc, ◌+◌, ◌-◌, ◌<◌, ◌≤◌, List, All, refl, subst, arith}
use Rattle.std.proofs.lemmas.List.Elements.{All-map}
use Rattle.mp_ast.specs.declared.errors.LexError.{LexError}
use Rattle.mp_diag.specs.Codes.{IsListed, table}
use Rattle.mp_diag.specs.Listing.{shown_error, shown_errors}

listed_from : (k : ℕ) → k < 8 → IsListed (101 + k)
unfolding table
listed_from zero h = refl
listed_from (suc zero) h = refl
listed_from (suc (suc zero)) h = refl
listed_from (suc (suc (suc zero))) h = refl
listed_from (suc (suc (suc (suc zero)))) h = refl
listed_from (suc (suc (suc (suc (suc zero))))) h = refl
listed_from (suc (suc (suc (suc (suc (suc zero)))))) h = refl
listed_from (suc (suc (suc (suc (suc (suc (suc zero))))))) h = refl
listed_from (suc (suc (suc (suc (suc (suc (suc (suc k)))))))) h = absurd (omega arith)

-- the codes of lexical errors
pub lexical_listed : (code : ℕ) → 101 ≤ code → code ≤ 108 → IsListed code
lexical_listed code low high =
    let e : 101 + (code - 101) ≡ code = omega arith in
    subst (λ (n : ℕ). IsListed n) e (listed_from (code - 101) (omega arith))

-- errors keep their codes when their places are found
pub shown_listed : (text : List (List ℕ)) (errors : List LexError) → All (λ e. IsListed e.code) errors → All (λ s. IsListed s.code) (shown_errors text errors)
shown_listed text errors listed = All-map (λ s. IsListed s.code) (shown_error text) errors listed
