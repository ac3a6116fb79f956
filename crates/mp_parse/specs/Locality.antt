-- Parsers that do not look around.
use Rattle.std.specs.Prelude.{◌≡◌, ℕ, ◌+◌, ◌-◌, ◌≤◌, List, ◌++◌, Ok}
use Rattle.mp_ast.specs.declared.tokens.TokenKind.{TokenKind}
use Rattle.mp_ast.specs.Rules.{Input}
use Rattle.mp_cursor.specs.Parsers.{Parser}

-- Wherever these tokens stand, and whatever follows them, the parser takes exactly them and makes this of them. It counts
-- so many declarations more, where with those before they are not too many, and the ordinals behind it go on where they
-- were before it.
abbrev pub MakesAnywhere : {A : Type 0} → ℕ → Parser A → List TokenKind → ℕ → A → Type 0
MakesAnywhere most p kinds declarations x =
    (at declared : ℕ) (rest : List TokenKind) → declared + declarations ≤ most →
    p (record { at = at; declared = declared; rest = kinds ++ rest }) ≡ Ok (x, record { at = at; declared = declared + declarations; rest = rest })

-- the parser took the tokens between two places, and makes the same of them anywhere
pub record Took {A : Type 0} (most : ℕ) (p : Parser A) (i : Input) (x : A) (j : Input) : Type 0 where
  pub kinds : List TokenKind
  pub tokens : i.rest ≡ kinds ++ j.rest
  pub at : j.at ≡ i.at
  pub declared : i.declared ≤ j.declared
  pub anywhere : MakesAnywhere most p kinds (j.declared - i.declared) x

-- What the parser makes of the tokens that it takes depends on these alone: not on what follows them, nor on how many
-- declarations came before them, as long as all are at most so many, nor on where the ordinals of the block around stand.
abbrev pub IsLocal : {A : Type 0} → ℕ → Parser A → Type 0
IsLocal {A} most p = (i : Input) (x : A) (j : Input) → p i ≡ Ok (x, j) → Took most p i x j
