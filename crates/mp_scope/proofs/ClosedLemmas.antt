-- Where what the tables hold stands, what an answer by them holds stands.
use Rattle.std.proofs.Common.{◌≡◌, ℕ, Bool, true, false, cond, List, [], ◌∷◌, ◌++◌, Option, Some, None, refl, subst}
use Rattle.std.specs.Prelude.{find, nat_lt, nat_eq, bytes_eq, if◌then◌else◌, option_map, option_and_then, unwrap_or}
use Rattle.std.specs.List.{AllByRecursion}
use Rattle.std.specs.Map.{lookup}
use Rattle.mp_base.specs.declared.path.PathStep.{PathStep}
use Rattle.mp_base.specs.declared.place.Place.{Place}
use Rattle.mp_ast.specs.Blocks.{same_step, same_path}
use Rattle.mp_tables.specs.declared.types.TypeId.{TypeId}
use Rattle.mp_tables.specs.declared.types.TypeId.TheVariants as type
use Rattle.mp_tables.specs.declared.types.Shape.TheVariants as shape
use Rattle.mp_tables.specs.declared.required.Required.{Required}
use Rattle.mp_tables.specs.declared.questions.Seen.{Seen}
use Rattle.mp_tables.specs.declared.questions.Seen.TheVariants as see
use Rattle.mp_tables.specs.declared.tables.Entry.{Entry}
use Rattle.mp_tables.specs.declared.tables.Nested.{Nested}
use Rattle.mp_tables.specs.declared.tables.Shaped.{Shaped}
use Rattle.mp_tables.specs.declared.tables.Table.{Table}
use Rattle.mp_tables.specs.RequiredNames.{required_name}
use Rattle.mp_tables.specs.Seen.{table_at, seen_entry, here, nested_in, semicolon_of, declared_or, seen_from, around_program, seen}
use Rattle.mp_tables.specs.Seen.{shape_in, own_shape, shape_of, nested_at, heading_or_none, heading_of, state_of}
use Rattle.mp_tables.specs.Standing.{Types, Paths, DeclStands, SeenStands, ShapeStands, HeadingStands}
use Rattle.mp_scope.specs.Kept.{StandsIn, Closed}

-- what a search finds has what all have
found_has : {X : Type 0} (P : X → Type 0) (test : X → Bool) (xs : List X) (x : X) → AllByRecursion P xs → find test xs ≡ Some x → P x
found_has P test [] x all h = absurd (let n : ⊥ = cc in n)
found_has P test (y ∷ xs) x all h = by (test y) (found_has P test xs x all.1) h
  where
    by : (b : Bool) → (find test xs ≡ Some x → P x) → cond b (Some y) (find test xs) ≡ Some x → P x
    by true f e = let w : y ≡ x = cc in subst P w all.0
    by false f e = f e

looked_has : (P : Entry → Type 0) (test : List ℕ → Bool) (xs : List (List ℕ × Entry)) (e : Entry) → AllByRecursion (λ n. P n.1) xs → lookup test xs ≡ Some e → P e
looked_has P test [] x all h = absurd (let n : ⊥ = cc in n)
looked_has P test (y ∷ xs) x all h = by (test y.0) (looked_has P test xs x all.1) h
  where
    by : (b : Bool) → (lookup test xs ≡ Some x → P x) → cond b (Some y.1) (lookup test xs) ≡ Some x → P x
    by true f e = let w : y.1 ≡ x = cc in subst P w all.0
    by false f e = f e

table_stands : (tables : List Table) → Closed tables → (path : List PathStep) (t : Table) → table_at tables path ≡ Some t → StandsIn tables t
table_stands tables closed path t h = found_has (StandsIn tables) (λ x. same_path path x.path) tables t closed h

module _ (tables : List Table) (closed : Closed tables) where
  types : Types
  types = (state_of tables).stands

  paths : Paths
  paths = (state_of tables).path_stands

  -- ---- names

  here_in : Option Table → ℕ → List ℕ → Option Seen
  here_in t at n = option_map (seen_entry at) (option_and_then (λ x. lookup (bytes_eq n) x.names) t)

  entry_stands :
      (at : ℕ) (outer : Seen) (o : Option Entry) →
      SeenStands types paths outer → ((e : Entry) → o ≡ Some e → DeclStands types paths e.decl) →
      SeenStands types paths (declared_or outer (option_map (seen_entry at) o))
  entry_stands at outer None h own = h
  entry_stands at outer (Some e) h own = by (nat_lt e.last at)
    where
      by : (b : Bool) → SeenStands types paths (if b then see.Is e.decl else see.NotYet)
      by true = own e refl
      by false = tt

  here_stands : (path : List PathStep) (at : ℕ) (n : List ℕ) (outer : Seen) → SeenStands types paths outer → SeenStands types paths (declared_or outer (here tables path at n))
  unfolding types paths here_in
  here_stands path at n outer h = by (table_at tables path) (table_stands tables closed path)
    where
      by : (o : Option Table) → ((t : Table) → o ≡ Some t → StandsIn tables t) → SeenStands types paths (declared_or outer (here_in o at n))
      by None own = h
      by (Some t) own =
          entry_stands at outer (lookup (bytes_eq n) t.names) h
          (λ e found. looked_has (λ e. DeclStands types paths e.decl) (bytes_eq n) t.names e (own t refl).names found)

  from_stands :
      (outer : Seen) (path inward : List PathStep) (at : ℕ) (n : List ℕ) →
      SeenStands types paths outer → SeenStands types paths (seen_from tables outer path inward at n)
  from_stands outer path [] at n h = here_stands path at n outer h
  from_stands outer path (step ∷ inward) at n h =
      let semicolon = semicolon_of (nested_in tables path step) in
      from_stands (declared_or outer (here tables path semicolon n)) (path ++ step ∷ []) inward at n (here_stands path semicolon n outer h)

  around_stands : (o : Option Required) → SeenStands types paths (around_program o)
  around_stands None = tt
  around_stands (Some r) = tt

  pub seen_stands : (n : List ℕ) (place : Place) → SeenStands (state_of tables).stands (state_of tables).path_stands (seen tables n place)
  unfolding types paths
  seen_stands n place = from_stands (around_program (required_name n)) [] place.path place.ordinal n (around_stands (required_name n))

  -- ---- shapes

  shaped_stands : (o : Option Shaped) → ((x : Shaped) → o ≡ Some x → ShapeStands types x.shape) → ShapeStands types (unwrap_or (option_map (λ x. x.shape) o) (shape.Ptr None))
  shaped_stands None own = tt
  shaped_stands (Some x) own = own x refl

  own_stands : (path : List PathStep) (at : ℕ) → ShapeStands types (unwrap_or (own_shape tables (type.Own path at)) (shape.Ptr None))
  unfolding types paths
  own_stands path at = by (table_at tables path) (table_stands tables closed path)
    where
      by : (o : Option Table) → ((t : Table) → o ≡ Some t → StandsIn tables t) → ShapeStands types (unwrap_or (option_and_then (λ t. shape_in t.shapes at) o) (shape.Ptr None))
      by None own = tt
      by (Some t) own =
          shaped_stands (find (λ x. nat_eq x.at at) t.shapes)
          (λ x found. found_has (λ s. ShapeStands types s.shape) (λ x. nat_eq x.at at) t.shapes x (own t refl).shapes found)

  pub shape_stands : (id : TypeId) → ShapeStands (state_of tables).stands (unwrap_or (shape_of tables id) (shape.Ptr None))
  unfolding types paths
  shape_stands type.Integer = tt
  shape_stands type.Boolean = tt
  shape_stands type.Char = tt
  shape_stands type.Text = tt
  shape_stands (type.Own path at) = own_stands path at

  -- ---- headings

  heading_or_none_stands : (o : Option Nested) → ((x : Nested) → o ≡ Some x → HeadingStands types x.heading) → HeadingStands types (heading_or_none o)
  heading_or_none_stands None own = (tt, tt)
  heading_or_none_stands (Some x) own = own x refl

  nested_of : Option Table → PathStep → Option Nested
  nested_of t step = option_and_then (λ x. find (λ y. same_step step y.step) x.nested) t

  nested_in_stands : (path : List PathStep) (step : PathStep) → HeadingStands types (heading_or_none (nested_in tables path step))
  unfolding types paths nested_of
  nested_in_stands path step = by (table_at tables path) (table_stands tables closed path)
    where
      by : (o : Option Table) → ((t : Table) → o ≡ Some t → StandsIn tables t) → HeadingStands types (heading_or_none (nested_of o step))
      by None own = (tt, tt)
      by (Some t) own =
          heading_or_none_stands (find (λ y. same_step step y.step) t.nested)
          (λ x found. found_has (λ x. HeadingStands types x.heading) (λ y. same_step step y.step) t.nested x (own t refl).nested found)

  nested_at_stands : (around inward : List PathStep) → HeadingStands types (heading_or_none (nested_at tables around inward))
  nested_at_stands around [] = (tt, tt)
  nested_at_stands around (step ∷ []) = nested_in_stands around step
  nested_at_stands around (step ∷ next ∷ inward) = nested_at_stands (around ++ step ∷ []) (next ∷ inward)

  pub heading_stands : (path : List PathStep) → HeadingStands (state_of tables).stands (heading_of tables path)
  unfolding types
  heading_stands path = nested_at_stands [] path
