-- Whether tables give an answer.
use Rattle.std.specs.Prelude.{◌≡◌, List}
use Rattle.mp_tables.specs.declared.questions.Asked.{Asked}
use Rattle.mp_tables.specs.declared.tables.Table.{Table}
use Rattle.mp_tables.specs.Asks.{answer}
use Rattle.mp_tables.specs.Seen.{answers_of, state_of}
use Rattle.mp_tables.specs.Standing.{QuestionStands}

-- The type or the block that is asked of stands by these tables, and this is the answer by them.
pub record Gives (tables : List Table) (pair : Asked) : Type 0 where
  pub stands : QuestionStands (state_of tables).stands (state_of tables).path_stands pair.question
  pub same : answer (answers_of tables) pair.question ≡ pair.answer
