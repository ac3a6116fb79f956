-- What it is that a parser reads exactly what a rule of the grammar allows.
use Rattle.std.specs.Prelude.{◌≡◌, true, Ok}
use Rattle.mp_ast.specs.Rules.{Input, Rule}
use Rattle.mp_cursor.specs.Nexts.{Nexts}
use Rattle.mp_cursor.specs.Parsers.{Parser, next_token}

-- whatever the parser reads, the rule allows
abbrev pub ReadsOnly : {A : Type 0} → Parser A → Rule A → Type 0
ReadsOnly {A} p r = (i : Input) (x : A) (j : Input) → p i ≡ Ok (x, j) → r i x j

-- whatever the rule allows before such a token, the parser reads
abbrev pub ReadsAll : {A : Type 0} → Nexts → Parser A → Rule A → Type 0
ReadsAll {A} follow p r = (i : Input) (x : A) (j : Input) → r i x j → follow (next_token j) ≡ true → p i ≡ Ok (x, j)

-- The parser reads what the rule allows, and nothing else. A token that goes on with what stands before it follows nothing
-- here: of `a, b, c` a rule of names with commas between them allows `a, b`, and the parser reads on.
pub record ReadsExactly {A : Type 0} (follow : Nexts) (p : Parser A) (r : Rule A) : Type 0 where
  pub sound : ReadsOnly p r
  pub complete : ReadsAll follow p r
