-- The steps of the search for the first that starts at a place or past it.
use Rattle.std.proofs.Common.{◌≡◌, ℕ, ◌+◌, ◌<◌, ◌≤◌, ◌==◌, ◌≢◌, nat_lt, false, List, length, get_or, ap, sym, ◌∙◌, arith, All, ⊎_elim}
use Rattle.std.specs.List.{AllWithin, list_any}
use Rattle.std.proofs.lemmas.Bool.{ne_eqb, le-ltb, cases_lt}
use Rattle.std.proofs.lemmas.Bool.Decides.{eqb_tells}
use Rattle.std.proofs.lemmas.List.Folds.{list_any_at, list_any_none}
use Rattle.std.specs.List.Sorted.{IsNonDecreasingBy}
use Rattle.std.proofs.lemmas.List.{get_or_default}

pub before_middle : {X : Type 0} (n : X → ℕ) (xs : List X) (place middle : ℕ) (e : X) → IsNonDecreasingBy n xs → middle < length xs →
    n (get_or xs middle e) < place → (k : ℕ) (d : X) → k < middle + 1 → n (get_or xs k d) < place
before_middle n xs place middle e up inside h k d l =
    let a = up k middle d (omega arith) inside in
    let b = ap n (get_or_default xs middle d e inside) in
    omega arith

pub from_middle : {X : Type 0} (n : X → ℕ) (xs : List X) (place middle : ℕ) (e : X) → IsNonDecreasingBy n xs → place ≤ n (get_or xs middle e) →
    (k : ℕ) (d : X) → middle ≤ k → k < length xs → place ≤ n (get_or xs k d)
from_middle n xs place middle e up h k d l inside =
    let a = up middle k d l inside in
    let b = ap n (get_or_default xs middle d e (omega arith)) in
    omega arith

-- the first that starts at the place or past it tells whether one starts there
none_here : {X : Type 0} (n : X → ℕ) (xs : List X) (place first : ℕ) (e : X) → IsNonDecreasingBy n xs → AllWithin (λ x. n x < place) xs 0 first →
    AllWithin (λ x. place ≤ n x) xs first (length xs) → first < length xs → n (get_or xs first e) ≢ place → All (λ x. (n x == place) ≡ false) xs
none_here n xs place first e up before after inside other k d l =
    let same = ap n (get_or_default xs first d e inside) in
    let here = after first d (omega arith) inside in
    ne_eqb (n (get_or xs k d)) place (λ is. ⊎_elim
    (λ (a : k < first). let h = before k d (omega arith) a in absurd (omega arith))
    (λ (a : first ≤ k). let h = up first k d a l in other (omega arith))
    (cases_lt k first))

pub starts_here : {X : Type 0} (n : X → ℕ) (xs : List X) (place first : ℕ) (e : X) → IsNonDecreasingBy n xs → AllWithin (λ x. n x < place) xs 0 first →
    AllWithin (λ x. place ≤ n x) xs first (length xs) → first < length xs → (n (get_or xs first e) == place) ≡ list_any (λ x. n x == place) xs
starts_here n xs place first e up before after inside = ⊎_elim
    (λ t. t.0 ∙ sym (list_any_at (λ x. n x == place) xs first e inside t.0))
    (λ t. t.0 ∙ sym (list_any_none (λ x. n x == place) xs (none_here n xs place first e up before after inside t.1)))
    (eqb_tells (n (get_or xs first e)) place)

pub starts_nowhere : {X : Type 0} (n : X → ℕ) (xs : List X) (place first : ℕ) → AllWithin (λ x. n x < place) xs 0 first → length xs ≤ first →
    nat_lt first (length xs) ≡ list_any (λ x. n x == place) xs
starts_nowhere n xs place first before none = le-ltb first (length xs) none
    ∙ sym (list_any_none (λ x. n x == place) xs (λ k d l. let h = before k d (omega arith) (omega arith) in ne_eqb (n (get_or xs k d)) place (λ e. omega arith)))
