-- How tables are kept, and what holds of them.
use Rattle.std.specs.Prelude.{◌≡◌, List, map}
use Rattle.std.specs.List.{AllByRecursion}
use Rattle.std.specs.Map.{keys_of, values_of}
use Rattle.mp_base.specs.declared.path.PathStep.{PathStep}
use Rattle.mp_tables.specs.declared.tables.Table.{Table}
use Rattle.mp_tables.specs.Seen.{state_of}
use Rattle.mp_tables.specs.Standing.{TableStands}

-- each identity and each path that a table holds stands by these tables
abbrev pub StandsIn : List Table → Table → Type 0
StandsIn tables t = TableStands (state_of tables).stands (state_of tables).path_stands t

-- each identity and each path that the tables hold stands by them
abbrev pub Closed : List Table → Type 0
Closed tables = AllByRecursion (StandsIn tables) tables

-- a table stands under its path, and what the tables hold stands
pub record IsKept (entries : List (List PathStep × Table)) : Type 0 where
  pub keyed : keys_of entries ≡ map (λ t. t.path) (values_of entries)
  pub closed : Closed (values_of entries)
