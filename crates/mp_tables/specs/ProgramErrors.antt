-- The tables of a program, and the errors of its blocks.
use Rattle.std.specs.Prelude.{◌≡◌, ℕ, ◌<◌, min, List, [], ◌∷◌, ◌++◌, Option, Some, None, map, flat_map, nat_eq, nat_lt, if◌then◌else◌}
use Rattle.std.specs.List.{AllByRecursion}
use Rattle.mp_base.specs.declared.path.PathStep.{PathStep}
use Rattle.mp_ast.specs.PlainTrees.{PlainBlock, PlainTree}
use Rattle.mp_ast.specs.Blocks.{PlacedBlock, blocks, index_in}
use Rattle.mp_tables.specs.StatementWalks.{begin_of, end_of}
use Rattle.mp_tables.specs.declared.errors.RuleError.{RuleError}
use Rattle.mp_tables.specs.declared.tables.Table.{Table}
use Rattle.mp_tables.specs.declared.tables.Elaborated.{Elaborated}
use Rattle.mp_tables.specs.PlainTypedStatements.{PlainTypedStatements, PlainTypedBlock}
use Rattle.mp_tables.specs.declared.questions.Asked.{Asked}
use Rattle.mp_tables.specs.Asks.{Asks, Answers, Holds}
use Rattle.mp_tables.specs.Asks.{◌>>=◌ as ◌>>=ᵃ◌, pure as pureᵃ}
use Rattle.mp_tables.specs.Seen.{table_at, answers_of}
use Rattle.mp_tables.specs.Elaboration.{elaborate, frame_cells}
use Rattle.mp_tables.specs.Statements.{statement_part}

-- ---- the errors of a list of reports: in order of place, one at a place, which is the least reported there

-- one report more
abbrev pub settle : RuleError → List RuleError → List RuleError
settle e [] = e ∷ []
settle e (f ∷ errors) =
    if nat_lt e.at f.at then e ∷ f ∷ errors
    else (if nat_eq e.at f.at then record { at = f.at; code = min e.code f.code } ∷ errors
    else f ∷ settle e errors)

abbrev pub settled : List RuleError → List RuleError
settled [] = []
settled (e ∷ reports) = settle e (settled reports)

abbrev pub lesser : ℕ → Option ℕ → Option ℕ
lesser code None = Some code
lesser code (Some other) = Some (min code other)

-- the least code that is reported at a place
abbrev pub least_at : ℕ → List RuleError → Option ℕ
least_at place [] = None
least_at place (e ∷ reports) = if nat_eq e.at place then lesser e.code (least_at place reports) else least_at place reports

-- each place comes before the next one
abbrev pub Behind : ℕ → List RuleError → Type 0
Behind place [] = Unit {0}
Behind place (e ∷ errors) = (place < e.at) × Behind e.at errors

abbrev pub Ascending : List RuleError → Type 0
Ascending [] = Unit {0}
Ascending (e ∷ errors) = Behind e.at errors

-- What settling means: no place stands twice, and the code at a place is the least that is reported there.
pub record IsSettled (reports errors : List RuleError) : Type 0 where
  pub ascending : Ascending errors
  pub least : (place : ℕ) → least_at place errors ≡ least_at place reports

-- ---- tables, block by block

-- the table of a block, by the tables of the blocks before it, which are those around it and others
abbrev pub table_after : List Table → PlacedBlock → Table
table_after tables b = ((elaborate b.path b.own).run (answers_of tables)).table

abbrev pub tables_from : List Table → List PlacedBlock → List Table
tables_from tables [] = tables
tables_from tables (b ∷ bs) = tables_from (tables ++ table_after tables b ∷ []) bs

-- what a program declares
abbrev pub tables_of : PlainTree → List Table
tables_of program = tables_from [] (blocks program)

-- ---- the errors of a block

-- The declarations and the statements of a block, judged one after the other: the errors of the statements stand behind those of
-- the declarations, and are found without them.
pub record Judgement : Type 0 where
  pub elaborated : Elaborated
  pub statements : PlainTypedStatements
  pub reports : List RuleError

abbrev pub judge : List PathStep → PlainBlock → Asks Judgement
judge path own =
    elaborate path own
    >>=ᵃ (λ e. statement_part path own [] >>=ᵃ (λ s. pureᵃ (record { elaborated = e; statements = s.0; reports = e.errors ++ s.1 })))

-- the errors of a block in a program of these answers
abbrev pub errors_in : Answers → List PathStep → PlainBlock → List RuleError
errors_in a path own = settled ((judge path own).run a).reports

abbrev pub typed_block : List PathStep → PlainBlock → Judgement → PlainTypedBlock
typed_block path own j =
    record {
      path = path;
      frame = j.elaborated.frame;
      counted = frame_cells j.elaborated.frame;
      begin = begin_of own.statements;
      statements = j.statements;
      end = end_of own.statements;
    }

-- the typed tree of a block in a program of these answers
abbrev pub typed_in : Answers → List PathStep → PlainBlock → PlainTypedBlock
typed_in a path own = typed_block path own ((judge path own).run a)

-- ---- the errors of a program, in order of text: the index of the token, and the code

abbrev pub errors_at : Answers → PlacedBlock → List RuleError
errors_at a b = map (λ e. record { at = index_in b e.at; code = e.code }) (errors_in a b.path b.own)

abbrev pub errors_by : Answers → List PlacedBlock → List RuleError
errors_by a bs = settled (flat_map (errors_at a) bs)

abbrev pub errors_of : PlainTree → List RuleError
errors_of program = errors_by (answers_of (tables_of program)) (blocks program)

-- a program without errors
abbrev pub IsAccepted : PlainTree → Type 0
IsAccepted program = errors_of program ≡ []

-- the trace decides the errors of a block
abbrev pub ErrorsRestOnTheTrace : List PathStep → PlainBlock → Type 0
ErrorsRestOnTheTrace path own =
    (a b : Answers) (trace : List Asked) → (judge path own).log a (Some []) ≡ Some trace → Holds b trace → errors_in b path own ≡ errors_in a path own

-- and so it does its typed tree
abbrev pub TypedTreeRestsOnTheTrace : List PathStep → PlainBlock → Type 0
TypedTreeRestsOnTheTrace path own =
    (a b : Answers) (trace : List Asked) → (judge path own).log a (Some []) ≡ Some trace → Holds b trace → typed_in b path own ≡ typed_in a path own

-- ---- laws of the tables, which the code of the rules rests on

-- The table of each block is what its declarations give by the tables of the whole program: later blocks change nothing of it.
abbrev pub TablesAreStable : PlainTree → Type 0
TablesAreStable program =
    AllByRecursion (λ b. table_at (tables_of program) b.path ≡ Some (table_after (tables_of program) b)) (blocks program)
