-- The kinds of the tokens behind others.
use Rattle.std.proofs.Common.{◌≡◌, ℕ, ◌-◌, List, drop, take, length, sym, ap, ◌∙◌, arith}
use Rattle.std.proofs.lemmas.List.{drop-map, length-drop, take_all}
use Rattle.mp_ast.specs.declared.tokens.Token.{Token}
use Rattle.mp_ast.specs.Programs.{kinds_of}

pub kinds_behind : (n : ℕ) (tokens : List Token) → kinds_of (take (length tokens - n) (drop n tokens)) ≡ drop n (kinds_of tokens)
kinds_behind n tokens =
    let whole : take (length tokens - n) (drop n tokens) ≡ drop n tokens = take_all _ _ (let e = length-drop n tokens in omega arith) in
    ap kinds_of whole ∙ sym (drop-map (λ t. t.kind) n tokens)
