-- A search of messages, as the code has them, is a search of rows, as the definition has them.
use Rattle.std.proofs.Common.{◌≡◌, ℕ, ◌==◌, Bool, true, false, cond, List, [], ◌∷◌, Option, None, Some, Bor, map, refl, sym, ap, ◌∙◌}
use Rattle.std.specs.List.{find}
use Rattle.std.specs.Option.{option_map, option_copied}
use Rattle.mp_diag.specs.Codes.{text_in}

pub find-map : {X Y : Type 0} (f : X → Y) (p : Y → Bool) (xs : List X) → find p (map f xs) ≡ option_map f (find (λ x. p (f x)) xs)
find-map f p [] = refl
find-map f p (x ∷ xs) = elim (p (f x)) as (λ t. cond t (Some (f x)) (find p (map f xs)) ≡ option_map f
    (cond t (Some x) (find (λ y. p (f y)) xs))) [ true ↦ refl | false ↦ find-map f p xs ]

-- the text of the message that was found
pub text_found : (messages : List (ℕ × Bor (List ℕ))) (code : ℕ) (found : Option (Bor (ℕ × Bor (List ℕ)))) →
    option_copied found ≡ find (λ m. m.0 == code) messages → option_map (λ m. m.now.1.now) found ≡ text_in (map (λ m. (m.0, m.1.now)) messages) code
text_found messages code found h =
    second found ∙ ap (λ o. option_map {T = ℕ × List ℕ} (λ row. row.1) (option_map (λ m. (m.0, m.1.now)) o)) h
    ∙ sym (ap (option_map (λ row. row.1)) (find-map (λ m. (m.0, m.1.now)) (λ row. row.0 == code) messages))
  where
    second : (o : Option (Bor (ℕ × Bor (List ℕ)))) →
        option_map (λ m. m.now.1.now) o ≡ option_map {T = ℕ × List ℕ} (λ row. row.1) (option_map (λ m. (m.0, m.1.now)) (option_copied o))
    second None = refl
    second (Some m) = refl
