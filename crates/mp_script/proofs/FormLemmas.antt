-- The tokens of an access, one after another.
use Rattle.std.proofs.Common.{◌≡◌, ◌<◌, ◌≤◌, ◌+◌, ℕ, suc, List, [], ◌∷◌, length, get_or, drop, Bool, refl, ap, sym, ◌∙◌, add-one}
use Rattle.std.proofs.Math.Seq.{drop-cons}
use Rattle.std.proofs.lemmas.List.{drop_all}
use Rattle.mp_ast.specs.declared.tokens.Token.{Token}
use Rattle.mp_script.specs.declared.access.AccessPart.{AccessPart}
use Rattle.mp_script.specs.declared.access.Stage.{Stage}
use Rattle.mp_script.specs.Access.{after, completes, is_complete, part_of, parts_of}

completes_more : (s : Stage) (p : AccessPart) (parts : List AccessPart) → completes s (p ∷ parts) ≡ completes (after s p) parts
unfolding completes
completes_more s p parts = refl

completes_none : (s : Stage) → completes s [] ≡ is_complete s
unfolding completes
completes_none s = refl

drop_token : (tokens : List Token) (i : ℕ) (token : Token) → i < length tokens → token ≡ get_or tokens i token → drop i tokens ≡ token ∷ drop (i + 1) tokens
drop_token tokens i token lt is = drop-cons tokens i token lt ∙ ap (λ t. t ∷ drop (suc i) tokens) (sym is) ∙ rw add-one refl

pub form_more : (tokens : List Token) (i : ℕ) (token : Token) (s next : Stage) {all : Bool} → i < length tokens → token ≡ get_or tokens i token →
    completes s (parts_of (drop i tokens)) ≡ all → next ≡ after s (part_of token.kind) → completes next (parts_of (drop (i + 1) tokens)) ≡ all
form_more tokens i token s next lt is e n =
    let rest = drop (i + 1) tokens in
    ap (λ t. completes t (parts_of rest)) n ∙ sym (completes_more s (part_of token.kind) (parts_of rest))
    ∙ ap (λ ts. completes s (parts_of ts)) (sym (drop_token tokens i token lt is)) ∙ e

pub form_end : (tokens : List Token) (i : ℕ) (s : Stage) {all : Bool} → length tokens ≤ i → completes s (parts_of (drop i tokens)) ≡ all → is_complete s ≡ all
form_end tokens i s h e = sym (completes_none s) ∙ ap (λ ts. completes s (parts_of ts)) (sym (drop_all i tokens h)) ∙ e
