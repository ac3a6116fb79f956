-- What holds of answers by tables.
use Rattle.std.specs.Prelude.{◌≡◌, ℕ, Bool, IsTrue, List, ◌++◌}
use Rattle.std.specs.List.{list_any}
use Rattle.mp_base.specs.declared.path.PathStep.{PathStep}
use Rattle.mp_base.specs.declared.place.Place.{Place}
use Rattle.mp_tables.specs.declared.types.TypeId.{TypeId}
use Rattle.mp_tables.specs.declared.tables.Table.{Table}
use Rattle.mp_tables.specs.Seen.{table_at, seen, shape_of, heading_of, assigns_of, answers_of, state_of}
use Rattle.mp_tables.specs.Growth.{HasTable, Around}
use Rattle.mp_tables.specs.Standing.{SeenStands, ShapeStands, HeadingStands}
use Rattle.mp_scope.specs.Kept.{Closed}

-- ---- what stands

-- each identity and each path in an answer stands
pub record AnswersStand (tables : List Table) : Type 0 where
  pub name : (n : List ℕ) (place : Place) → SeenStands (state_of tables).stands (state_of tables).path_stands (seen tables n place)
  pub shape : (id : TypeId) → ShapeStands (state_of tables).stands ((answers_of tables).shape id)
  pub heading : (path : List PathStep) → HeadingStands (state_of tables).stands (heading_of tables path)

-- Where what the tables hold stands, what their answers hold does.
abbrev pub ClosedTablesAnswer : Type 0
ClosedTablesAnswer = (tables : List Table) → Closed tables → AnswersStand tables

-- What stands goes on to stand when more tables follow.
pub record StandingStays (tables more : List Table) : Type 0 where
  pub types : (id : TypeId) → IsTrue ((state_of tables).stands id) → IsTrue ((state_of (tables ++ more)).stands id)
  pub paths : (path : List PathStep) → IsTrue ((state_of tables).path_stands path) → IsTrue ((state_of (tables ++ more)).path_stands path)

-- ---- block by block

-- Where a block and those around it have tables, a name is at each place of the block what it is when more tables follow.
abbrev pub InnerNamesStay : List Table → List Table → Type 0
InnerNamesStay tables more =
    (n : List ℕ) (place : Place) → Around tables place.path → HasTable tables place.path → seen (tables ++ more) n place ≡ seen tables n place

-- ---- in whatever order

-- each path has the same table in both, and a test that one table of the one passes, one of the other passes
pub record SameTables (tables others : List Table) : Type 0 where
  pub at : (path : List PathStep) → table_at tables path ≡ table_at others path
  pub any : (test : Table → Bool) → list_any test tables ≡ list_any test others

pub record SameAnswers (tables others : List Table) : Type 0 where
  pub name : (n : List ℕ) (place : Place) → seen tables n place ≡ seen others n place
  pub shape : (id : TypeId) → shape_of tables id ≡ shape_of others id
  pub heading : (path : List PathStep) → heading_of tables path ≡ heading_of others path
  pub assigns : (path : List PathStep) → assigns_of tables path ≡ assigns_of others path

-- The same tables give the same answers, in whatever order they stand.
abbrev pub OrderIsFree : Type 0
OrderIsFree = (tables others : List Table) → SameTables tables others → SameAnswers tables others
