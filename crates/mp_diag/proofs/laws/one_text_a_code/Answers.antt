-- Each row is looked up in the table, which is one computation.
use Rattle.std.proofs.Common.{◌≡◌, ℕ, Bool, true, false, List, Option, None, Some, ap, sym, refl, true≢false}
use Rattle.std.proofs.lemmas.List.Sums.{AllPass-from_list_all}
use Rattle.std.proofs.lemmas.Slice.Eq.{bytes_eq-Decides}
use Rattle.std.specs.Option.{option_map_or}
use Rattle.std.specs.Str.{bytes_eq}
use Rattle.mp_diag.specs.Codes.{table, text_of}
use Rattle.mp_diag.proofs.laws.one_text_a_code.Goals as goal

abbrev has_text : ℕ × List ℕ → Bool
has_text row = option_map_or (λ text. bytes_eq text row.1) (text_of row.0) false

told : (o : Option (List ℕ)) (t : List ℕ) → option_map_or (λ text. bytes_eq text t) o false ≡ true → o ≡ Some t
told None t h = absurd (true≢false (sym h))
told (Some text) t h = ap Some ((bytes_eq-Decides text t).0 h)

pub returns : goal.returns
unfolding table
returns c = λ k d lt. told _ _ (AllPass-from_list_all has_text table refl k d lt)
