-- Where tokens end before the parts do.
use Rattle.std.proofs.Common.{◌≡◌, ℕ, suc, ◌<◌, ◌≤◌, Bool, true, false, cond, List, [], ◌∷◌, length, drop, All, Option, Some, refl, ap, ◌∙◌, arith}
use Rattle.std.proofs.lemmas.List.{drop_all, length-drop}
use Rattle.mp_ast.specs.declared.tokens.Token.{Token}
use Rattle.mp_session.specs.declared.departure.ProgramPart.{ProgramPart}
use Rattle.mp_session.specs.Departure.{departure, is_of}

departure_end : (parts : List ProgramPart) (end : ℕ) → 0 < length parts → departure parts [] end ≡ Some end
departure_end [] end h = absurd (omega arith)
departure_end (part ∷ parts) end h = refl

pub departure_at_end : (parts : List ProgramPart) (tokens : List Token) (i end : ℕ) → length tokens ≤ i → i < length parts →
    departure (drop i parts) (drop i tokens) end ≡ Some end
departure_at_end parts tokens i end none some =
    ap (λ ts. departure (drop i parts) ts end) (drop_all i tokens none) ∙ departure_end (drop i parts) end (omega (arith, length-drop i parts))

chosen_within : (test : Bool) (here : ℕ) (later : Option ℕ) (byte end : ℕ) → here ≤ end → (later ≡ Some byte → byte ≤ end) → cond test later (Some here) ≡ Some byte → byte ≤ end
chosen_within true here later byte end h k e = k e
chosen_within false here later byte end h k e = let same : here ≡ byte = cc in omega arith

-- a departure stands in the text or at its end
pub departure_within : (parts : List ProgramPart) (tokens : List Token) (end byte : ℕ) → All (λ token. token.start < end) tokens →
    departure parts tokens end ≡ Some byte → byte ≤ end
departure_within [] [] end byte h e = absurd (cc)
departure_within [] (token ∷ tokens) end byte h e = let same : token.start ≡ byte = cc in let lt = h 0 token (omega arith) in omega arith
departure_within (part ∷ parts) [] end byte h e = let same : end ≡ byte = cc in omega arith
departure_within (part ∷ parts) (token ∷ tokens) end byte h e =
    let lt = h 0 token (omega arith) in
    chosen_within (is_of part token.kind) token.start (departure parts tokens end) byte end (omega arith)
    (λ k. departure_within parts tokens end byte (λ i d less. h (suc i) d (omega arith)) k) e
