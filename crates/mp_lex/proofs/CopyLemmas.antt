-- What stands before a place is copied as it is, and what stands from a place on is moved.
use Rattle.std.proofs.Common.{◌≡◌, ℕ, ◌+◌, ◌-◌, ◌^◌, ◌<◌, ◌≤◌, List, [], ◌∷◌, ◌++◌, take, drop, length, map, refl, ap, sym, subst, ◌∙◌, arith, All}
use Rattle.std.specs.List.{AllWithin}
use Rattle.std.proofs.lemmas.List.{take_rest, get_or-drop, length-drop}
use Rattle.mp_ast.specs.declared.errors.LexError.{LexError}
use Rattle.mp_ast.specs.declared.tokens.Token.{Token}
use Rattle.mp_lex.specs.Windows.{CanMove, before_place, from_place, moved_token, moved_error}
use Rattle.mp_lex.proofs.ListedLemmas.{take_before, drop_from}

pub same_token : (token : Token) → moved_token 0 0 token ≡ token
same_token token = let e : token.start - 0 + 0 ≡ token.start = omega arith in let made : ℕ → Token = λ s. record { kind = token.kind; start = s; len = token.len } in ap made e

pub same_error : (error : LexError) → moved_error 0 0 error ≡ error
same_error error = let e : error.start - 0 + 0 ≡ error.start = omega arith in let made : ℕ → LexError = λ s. record { start = s; len = error.len; code = error.code } in ap made e

all_same : {X : Type 0} (f : X → X) (xs : List X) → ((x : X) → f x ≡ x) → map f xs ≡ xs
all_same f [] h = refl
all_same f (x ∷ xs) h = ap (λ y. y ∷ map f xs) (h x) ∙ ap (λ r. x ∷ r) (all_same f xs h)

pub record StartsAt {X : Type 0} (n : X → ℕ) (place : ℕ) (xs : List X) (i : ℕ) : Type 0 where
  pub within : i ≤ length xs
  pub before : AllWithin (λ x. n x < place) xs 0 i
  pub after : AllWithin (λ x. place ≤ n x) xs i (length xs)

pub copied_before : {X : Type 0} (n : X → ℕ) (f : X → X) (all first second : List X) (place i : ℕ) (out new : List X) → ((x : X) → f x ≡ x) → first ≡ all →
    second ≡ all → StartsAt n place first i → new ≡ out ++ map f (take i second) → new ≡ out ++ before_place n place all
copied_before n f all first second place i out new same a b at e =
    let so = subst (λ xs. StartsAt n place xs i) a at in
    e ∙ ap (λ xs. out ++ map f (take i xs)) b ∙ ap (λ r. out ++ r) (all_same f (take i all) same ∙ take_before n place all i so.within so.before so.after)

pub copied_from : {X : Type 0} (n : X → ℕ) (f : X → X) (all first second : List X) (place i : ℕ) (out new : List X) → first ≡ all → second ≡ all →
    StartsAt n place first i → new ≡ out ++ map f (take (length second - i) (drop i second)) → new ≡ out ++ map f (from_place n place all)
copied_from n f all first second place i out new a b at e =
    let so = subst (λ xs. StartsAt n place xs i) a at in
    e ∙ ap (λ xs. out ++ map f (take (length xs - i) (drop i xs))) b ∙ ap (λ r. out ++ map f r) (take_rest all i ∙ drop_from n place all i so.within so.before so.after)

pub rest_can_move : {X : Type 0} (n : X → ℕ) (all first second : List X) (from to i : ℕ) → first ≡ all → second ≡ all → StartsAt n from first i →
    All (λ x. n x - from + to < 2 ^ 32) all → All (λ x. CanMove from to (n x)) (take (length second - i) (drop i second))
rest_can_move {X} n all first second from to i a b at room =
    let so = subst (λ xs. StartsAt n from xs i) a at in
    let within = so.within in
    let P : List X → Type 0 = λ zs. All (λ x. CanMove from to (n x)) zs in
    let rest : P (drop i all) = λ k d l.
    let inside : i + k < length all = omega (arith, length-drop i all) in
    let one = so.after (i + k) d (omega arith) inside in
    let two = room (i + k) d inside in
    let Q : X → Type 0 = λ x. CanMove from to (n x) in
    subst Q (sym (get_or-drop i all k d)) (one, two) in
    subst P (sym (ap (λ xs. take (length xs - i) (drop i xs)) b ∙ take_rest all i)) rest
