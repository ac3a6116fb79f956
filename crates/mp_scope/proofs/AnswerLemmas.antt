-- Answers by tables go by the table of each path alone, and the first table of a path counts.
use Rattle.std.proofs.Common.{append-nil, append_assoc, ◌≡◌, ℕ, Bool, true, List, [], ◌∷◌, ◌++◌, Option, Some, None, refl, sym, ap, ◌∙◌, subst}
use Rattle.std.specs.Prelude.{find, bytes_eq, option_map, option_and_then, if◌then◌else◌}
use Rattle.std.specs.List.{list_any}
use Rattle.std.specs.Map.{lookup}
use Rattle.mp_base.specs.declared.path.PathStep.{PathStep}
use Rattle.mp_ast.specs.Blocks.{same_step}
use Rattle.mp_tables.specs.declared.types.TypeId.{TypeId}
use Rattle.mp_tables.specs.declared.types.TypeId.TheVariants as type
use Rattle.mp_tables.specs.declared.questions.Seen.{Seen}
use Rattle.mp_tables.specs.declared.tables.Nested.{Nested}
use Rattle.mp_tables.specs.declared.tables.Table.{Table}
use Rattle.mp_tables.specs.RequiredNames.{required_name}
use Rattle.mp_tables.specs.Seen.{table_at, seen_entry, semicolon_of, declared_or, seen_from, around_program, shape_in, shape_of, nested_at, heading_or_none, assigns_by}
use Rattle.mp_tables.specs.Growth.{HasTable, AroundFrom}
use Rattle.mp_scope.specs.Laws.{ClosedTablesAnswer, StandingStays, InnerNamesStay, OrderIsFree}
use Rattle.mp_scope.proofs.GrownLemmas.{table_front, types_more, paths_more}
use Rattle.mp_scope.proofs.ClosedLemmas.{seen_stands, shape_stands, heading_stands}

-- what a table says of a name, and of a nested block
abbrev here_in : Option Table → ℕ → List ℕ → Option Seen
here_in t at n = option_map (seen_entry at) (option_and_then (λ x. lookup (bytes_eq n) x.names) t)

abbrev nested_of : Option Table → PathStep → Option Nested
nested_of t step = option_and_then (λ x. find (λ y. same_step step y.step) x.nested) t

-- what is found on the way from outside, by the table of one block
abbrev inside_of : Seen → Option Table → PathStep → List ℕ → Seen
inside_of outer t step n = declared_or outer (here_in t (semicolon_of (nested_of t step)) n)

-- ---- block by block

same_table : (tables more : List Table) (path : List PathStep) → HasTable tables path → table_at (tables ++ more) path ≡ table_at tables path
same_table tables more path h = table_front tables more path h.0 h.1 ∙ sym h.1

seen_from-grown :
    (tables more : List Table) (outer : Seen) (path inward : List PathStep) (at : ℕ) (n : List ℕ) →
    AroundFrom tables path inward → HasTable tables (path ++ inward) →
    seen_from (tables ++ more) outer path inward at n ≡ seen_from tables outer path inward at n
seen_from-grown tables more outer path [] at n around own =
    ap (λ t. declared_or outer (here_in t at n)) (same_table tables more path (subst (HasTable tables) (append-nil path) own))
seen_from-grown tables more outer path (step ∷ inward) at n around own =
    let shift : path ++ step ∷ inward ≡ (path ++ step ∷ []) ++ inward = sym (append_assoc path (step ∷ []) inward) in
    ap (λ t. seen_from (tables ++ more) (inside_of outer t step n) (path ++ step ∷ []) inward at n) (same_table tables more path around.0)
    ∙ seen_from-grown tables more (inside_of outer (table_at tables path) step n) (path ++ step ∷ []) inward at n around.1 (subst (HasTable tables) shift own)

pub inner_names_stay : (tables more : List Table) → InnerNamesStay tables more
inner_names_stay tables more n place around own =
    seen_from-grown tables more (around_program (required_name n)) [] place.path place.ordinal n around own

pub standing_stays : (tables more : List Table) → StandingStays tables more
standing_stays tables more = record { types = types_more tables more; paths = paths_more tables more }

pub closed_tables_answer : ClosedTablesAnswer
closed_tables_answer tables closed =
    record { name = seen_stands tables closed; shape = shape_stands tables closed; heading = heading_stands tables closed }

-- ---- in whatever order

module _ (tables others : List Table) (e : (path : List PathStep) → table_at tables path ≡ table_at others path) where
  seen_from-same : (outer : Seen) (path inward : List PathStep) (at : ℕ) (n : List ℕ) → seen_from tables outer path inward at n ≡ seen_from others outer path inward at n
  seen_from-same outer path [] at n = ap (λ t. declared_or outer (here_in t at n)) (e path)
  seen_from-same outer path (step ∷ inward) at n =
      ap (λ t. seen_from tables (inside_of outer t step n) (path ++ step ∷ []) inward at n) (e path)
      ∙ seen_from-same (inside_of outer (table_at others path) step n) (path ++ step ∷ []) inward at n

  shape-same : (id : TypeId) → shape_of tables id ≡ shape_of others id
  shape-same type.Integer = refl
  shape-same type.Boolean = refl
  shape-same type.Char = refl
  shape-same type.Text = refl
  shape-same (type.Own path at) = ap (λ t. option_and_then (λ x. shape_in x.shapes at) t) (e path)

  nested_at-same : (around inward : List PathStep) → nested_at tables around inward ≡ nested_at others around inward
  nested_at-same around [] = refl
  nested_at-same around (step ∷ []) = ap (λ t. nested_of t step) (e around)
  nested_at-same around (step ∷ next ∷ inward) = nested_at-same (around ++ step ∷ []) (next ∷ inward)

  module _ (any : (test : Table → Bool) → list_any test tables ≡ list_any test others) where
    assigns_by-same : (path : List PathStep) (o : Option Nested) → assigns_by tables path o ≡ assigns_by others path o
    assigns_by-same path None = refl
    assigns_by-same path (Some x) = ap (λ b. if x.function then b else true) (any _)

pub order_is_free : OrderIsFree
order_is_free tables others same =
    record {
      name = λ n place. seen_from-same tables others same.at (around_program (required_name n)) [] place.path place.ordinal n;
      shape = shape-same tables others same.at;
      heading = λ path. ap heading_or_none (nested_at-same tables others same.at [] path);
      assigns = λ path.
          assigns_by-same tables others same.at same.any path (nested_at tables [] path)
          ∙ ap (assigns_by others path) (nested_at-same tables others same.at [] path);
    }
