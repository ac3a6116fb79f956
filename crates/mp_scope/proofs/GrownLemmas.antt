-- What stands by tables goes on to stand when more tables follow.
use Rattle.std.proofs.Common.{◌≡◌, Bool, true, false, cond, IsTrue, ◌||◌, List, [], ◌∷◌, ◌++◌, Option, Some, None, refl, ap, ◌∙◌}
use Rattle.std.specs.Prelude.{find, is_some, option_and_then}
use Rattle.mp_base.specs.declared.path.PathStep.{PathStep}
use Rattle.mp_ast.specs.Blocks.{same_step, same_path}
use Rattle.mp_ast.proofs.PathLemmas.{all-map, all-append}
use Rattle.mp_tables.specs.declared.types.TypeId.{TypeId}
use Rattle.mp_tables.specs.declared.types.TypeId.TheVariants as type
use Rattle.mp_tables.specs.declared.types.Bounds.{Bounds}
use Rattle.mp_tables.specs.declared.types.Shape.{Shape}
use Rattle.mp_tables.specs.declared.types.Shape.TheVariants as shape
use Rattle.mp_tables.specs.declared.headings.Heading.{Heading}
use Rattle.mp_tables.specs.declared.declarations.ConstantValue.{ConstantValue}
use Rattle.mp_tables.specs.declared.declarations.ConstantValue.TheVariants as value
use Rattle.mp_tables.specs.declared.declarations.Decl.{Decl}
use Rattle.mp_tables.specs.declared.declarations.Decl.TheVariants as decl
use Rattle.mp_tables.specs.declared.tables.Nested.{Nested}
use Rattle.mp_tables.specs.declared.tables.Table.{Table}
use Rattle.mp_tables.specs.Seen.{table_at, nested_in, nested_at, shape_of, path_stands, state_of}
use Rattle.mp_tables.specs.Standing.{Types, Paths, PathIfStands, TypeStands, TypeIfStands, BoundsStand, ShapeStands}
use Rattle.mp_tables.specs.Standing.{HeadingStands, HeadingIfStands, ConstantStands, DeclStands, TableStands}
use Rattle.mp_tables.proofs.GrowthLemmas.{shapes_stay}
use Rattle.mp_scope.specs.Kept.{StandsIn, Closed}

-- ---- where more stands, what stood stands

module _ (types more : Types) (f : (id : TypeId) → IsTrue (types id) → IsTrue (more id)) where
  type_more : (id : TypeId) → TypeStands types id → TypeStands more id
  type_more type.Integer h = tt
  type_more type.Boolean h = tt
  type_more type.Char h = tt
  type_more type.Text h = tt
  type_more (type.Own path at) h = f (type.Own path at) h

  type_if_more : (o : Option TypeId) → TypeIfStands types o → TypeIfStands more o
  type_if_more None h = tt
  type_if_more (Some id) h = type_more id h

  bounds_more : (o : Option Bounds) → BoundsStand types o → BoundsStand more o
  bounds_more None h = tt
  bounds_more (Some b) h = type_more b.host h

  shape_more : (s : Shape) → ShapeStands types s → ShapeStands more s
  shape_more (shape.Range b) h = type_more b.host h
  shape_more (shape.Names names) h = tt
  shape_more (shape.Arr a) h = (bounds_more a.index h.0, type_if_more a.component h.1)
  shape_more (shape.Rec r) h = (
    all-map (λ s. TypeIfStands types s.of) (λ s. TypeIfStands more s.of) (λ s. type_if_more s.of) r.slots h.0,
    all-map (λ p. TypeIfStands types p.host) (λ p. TypeIfStands more p.host) (λ p. type_if_more p.host) r.parts h.1,
  )
  shape_more (shape.SetOf packed base) h = bounds_more base h
  shape_more (shape.Ptr domain) h = type_if_more domain h
  shape_more shape.Text h = tt
  shape_more (shape.Str n) h = tt

  heading_more : (x : Heading) → HeadingStands types x → HeadingStands more x
  heading_more x h =
      (all-map (λ y. TypeIfStands types y.of) (λ y. TypeIfStands more y.of) (λ y. type_if_more y.of) x.formals h.0, type_if_more x.result h.1)

  heading_if_more : (o : Option Heading) → HeadingIfStands types o → HeadingIfStands more o
  heading_if_more None h = tt
  heading_if_more (Some x) h = heading_more x h

  constant_more : (o : Option ConstantValue) → ConstantStands types o → ConstantStands more o
  constant_more None h = tt
  constant_more (Some (value.Ordinal host n)) h = type_more host h
  constant_more (Some (value.Text characters)) h = tt

  module _ (paths also : Paths) (g : (path : List PathStep) → IsTrue (paths path) → IsTrue (also path)) where
    path_if_more : (o : Option (List PathStep)) → PathIfStands paths o → PathIfStands also o
    path_if_more None h = tt
    path_if_more (Some path) h = g path h

    decl_more : (d : Decl) → DeclStands types paths d → DeclStands more also d
    decl_more (decl.Const path v) h = (g path h.0, constant_more v h.1)
    decl_more (decl.Sort path id) h = (g path h.0, type_if_more id h.1)
    decl_more (decl.Var path v) h = (g path h.0, type_if_more v.of h.1)
    decl_more (decl.Param path p) h = (g path h.0, type_if_more p.of h.1, heading_if_more p.own h.2)
    decl_more (decl.Proc path r) h = (g path h.0, heading_more r.heading h.1, path_if_more r.block h.2)
    decl_more (decl.Func path r offset) h = (g path h.0, heading_more r.heading h.1, path_if_more r.block h.2)
    decl_more (decl.Label path l) h = g path h
    decl_more (decl.Required r) h = tt

    table_more : (t : Table) → TableStands types paths t → TableStands more also t
    table_more t h =
        record {
          names = all-map (λ n. DeclStands types paths n.1.decl) (λ n. DeclStands more also n.1.decl) (λ n. decl_more n.1.decl) t.names h.names;
          nested = all-map (λ x. HeadingStands types x.heading) (λ x. HeadingStands more x.heading) (λ x. heading_more x.heading) t.nested h.nested;
          shapes = all-map (λ s. ShapeStands types s.shape) (λ s. ShapeStands more s.shape) (λ s. shape_more s.shape) t.shapes h.shapes;
        }

-- ---- more tables

find_front : {X : Type 0} (test : X → Bool) (xs ys : List X) (x : X) → find test xs ≡ Some x → find test (xs ++ ys) ≡ Some x
find_front test [] ys x h = absurd (let n : ⊥ = cc in n)
find_front test (y ∷ xs) ys x h = by (test y) (find_front test xs ys x) h
  where
    by : (b : Bool) → (find test xs ≡ Some x → find test (xs ++ ys) ≡ Some x) → cond b (Some y) (find test xs) ≡ Some x → cond b (Some y) (find test (xs ++ ys)) ≡ Some x
    by true f e = e
    by false f e = f e

pub table_front : (tables more : List Table) (path : List PathStep) (t : Table) → table_at tables path ≡ Some t → table_at (tables ++ more) path ≡ Some t
table_front tables more path t h = find_front (λ x. same_path path x.path) tables more t h

some_more : {A : Type 0} (o p : Option A) → ((x : A) → o ≡ Some x → p ≡ Some x) → IsTrue (is_some o) → IsTrue (is_some p)
some_more None p f h = absurd (let n : ⊥ = cc in n)
some_more (Some x) p f h = ap is_some (f x refl)

either_more : (a b c d : Bool) → (IsTrue a → IsTrue c) → (IsTrue b → IsTrue d) → IsTrue (a || b) → IsTrue (c || d)
either_more true b true d f g h = refl
either_more true b false d f g h = let e = f refl in absurd (let n : ⊥ = cc in n)
either_more false b true d f g h = refl
either_more false b false d f g h = g h

pub types_more : (tables more : List Table) (id : TypeId) → IsTrue ((state_of tables).stands id) → IsTrue ((state_of (tables ++ more)).stands id)
types_more tables more id h = some_more (shape_of tables id) (shape_of (tables ++ more) id) (λ s e. shapes_stay tables more id s e) h

nested_of : Option Table → PathStep → Option Nested
nested_of t step = option_and_then (λ x. find (λ y. same_step step y.step) x.nested) t

nested_in_more :
    (tables more : List Table) (path : List PathStep) (step : PathStep) (x : Nested) →
    nested_in tables path step ≡ Some x → nested_in (tables ++ more) path step ≡ Some x
unfolding nested_of
nested_in_more tables more path step x h = by (table_at tables path) refl h
  where
    by : (o : Option Table) → table_at tables path ≡ o → nested_of o step ≡ Some x → nested_in (tables ++ more) path step ≡ Some x
    by None e k = absurd (let n : ⊥ = cc in n)
    by (Some t) e k = ap (λ o. nested_of o step) (table_front tables more path t e) ∙ k

nested_at_more :
    (tables more : List Table) (around inward : List PathStep) (x : Nested) → nested_at tables around inward ≡ Some x → nested_at (tables ++ more) around inward ≡ Some x
nested_at_more tables more around [] x h = absurd (let n : ⊥ = cc in n)
nested_at_more tables more around (step ∷ []) x h = nested_in_more tables more around step x h
nested_at_more tables more around (step ∷ next ∷ inward) x h = nested_at_more tables more (around ++ step ∷ []) (next ∷ inward) x h

pub paths_more : (tables more : List Table) (path : List PathStep) → IsTrue (path_stands tables path) → IsTrue (path_stands (tables ++ more) path)
paths_more tables more [] h = refl
paths_more tables more (step ∷ inward) h =
    let path : List PathStep = step ∷ inward in
    either_more (is_some (table_at tables path)) (is_some (nested_at tables [] path)) (is_some (table_at (tables ++ more) path)) (is_some (nested_at (tables ++ more) [] path))
    (some_more (table_at tables path) (table_at (tables ++ more) path) (λ t e. table_front tables more path t e))
    (some_more (nested_at tables [] path) (nested_at (tables ++ more) [] path) (λ x e. nested_at_more tables more [] path x e))
    h

pub stands_more : (tables more : List Table) (t : Table) → StandsIn tables t → StandsIn (tables ++ more) t
stands_more tables more t h =
    table_more (state_of tables).stands (state_of (tables ++ more)).stands (types_more tables more)
    (state_of tables).path_stands (state_of (tables ++ more)).path_stands (paths_more tables more) t h

pub closed-append : (tables : List Table) (t : Table) → Closed tables → StandsIn (tables ++ t ∷ []) t → Closed (tables ++ t ∷ [])
closed-append tables t closed own =
    let grown = tables ++ t ∷ [] in
    all-append (StandsIn grown) tables (t ∷ []) (all-map (StandsIn tables) (StandsIn grown) (stands_more tables (t ∷ [])) tables closed) (own, tt)
