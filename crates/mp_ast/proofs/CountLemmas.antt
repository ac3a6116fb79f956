-- How often each name stands in a list, kept by name: one more name changes its own number alone.
use Rattle.std.proofs.Common.{◌≡◌, ℕ, ◌+◌, ⊎_elim, cond, List, ◌∷◌, count_by, Option, Some, sym, ap, ◌∙◌, arith}
use Rattle.std.specs.Prelude.{bytes_eq}
use Rattle.std.specs.Option.{unwrap_or}
use Rattle.std.proofs.lemmas.Bool.{cases_Bool, false_from_ne_true, false≢true}
use Rattle.std.proofs.lemmas.List.Sums.{sum_by-cons}
use Rattle.std.proofs.lemmas.Slice.Eq.{bytes_eq-Decides}

one_more : (name : List ℕ) (earlier : List (List ℕ)) (q : List ℕ) → count_by (bytes_eq q) (name ∷ earlier) ≡ cond (bytes_eq q name) 1 0 + count_by (bytes_eq q) earlier
one_more name earlier q = sum_by-cons (λ x. cond (bytes_eq q x) 1 0) name earlier

pub counted_next :
    (before after : List ℕ → Option ℕ) (name : List ℕ) (number : ℕ) (earlier : List (List ℕ)) →
    ((q : List ℕ) → after q ≡ cond (bytes_eq name q) (Some number) (before q)) →
    number ≡ unwrap_or (before name) 0 + 1 →
    ((q : List ℕ) → unwrap_or (before q) 0 ≡ count_by (bytes_eq q) earlier) →
    (q : List ℕ) → unwrap_or (after q) 0 ≡ count_by (bytes_eq q) (name ∷ earlier)
counted_next before after name number earlier put is each q =
    let more = one_more name earlier q in
    ⊎_elim
    (λ same.
    let e = (bytes_eq-Decides name q).0 same in
    let here = ap {B = ℕ} (λ o. unwrap_or o 0) (put q ∙ ap (λ b. cond b (Some number) (before q)) same) in
    let one = ap {B = ℕ} (λ b. cond b 1 0) ((bytes_eq-Decides q name).1 (sym e)) in
    let was = each name ∙ ap (λ x. count_by (bytes_eq x) earlier) e in
    omega (arith, here, more, one, was, is))
    (λ other.
    let here = ap {B = ℕ} (λ o. unwrap_or o 0) (put q ∙ ap (λ b. cond b (Some number) (before q)) other) in
    let none = ap {B = ℕ} (λ b. cond b 1 0) (false_from_ne_true (bytes_eq q name) (λ t.
    absurd (false≢true (sym other ∙ (bytes_eq-Decides name q).1 (sym ((bytes_eq-Decides q name).0 t)))))) in
    let was = each q in
    omega (arith, here, more, none, was))
    (cases_Bool (bytes_eq name q))
