-- What lists are searched by in a time that does not grow with their length: at which number each key stands first. No statement
-- cites this: to a contract such a list is the plain list.
use Rattle.std.specs.Prelude.{◌≡◌, ℕ, suc, Bool, cond, List, [], ◌∷◌, Option, Some, None, option_map}
use Rattle.std.specs.Map.{lookup}

-- the number of the first item that passes the test
abbrev pub first_place : {X : Type 0} → (X → Bool) → List X → Option ℕ
first_place t [] = None
first_place t (x ∷ xs) = cond (t x) (Some 0) (option_map suc (first_place t xs))

-- Each key is found with the number of the first item that it is the key of.
pub record IsIndex {K X : Type 0} (eq : K → K → Bool) (test : K → X → Bool) (entries : List (K × ℕ)) (items : List X) : Type 0 where
  pub by : (k : K) → lookup (eq k) entries ≡ first_place (test k) items
