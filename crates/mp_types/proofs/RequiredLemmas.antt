-- A search of the rows is a look-up of their names; and the hosts of the required types.
use Rattle.std.proofs.Common.{◌≡◌, Bool, true, false, cond, List, [], ◌∷◌, Option, Some, None, map, refl, sym, ap, ◌∙◌}
use Rattle.std.specs.List.{find}
use Rattle.std.specs.Map.{lookup}
use Rattle.std.specs.Option.{option_map, option_and_then}
use Rattle.mp_tables.specs.declared.types.TypeId.{TypeId}
use Rattle.mp_tables.specs.declared.types.TypeId.TheVariants as type
use Rattle.mp_tables.specs.declared.types.Bounds.{Bounds}
use Rattle.mp_tables.specs.declared.types.Shape.{Shape}
use Rattle.mp_tables.specs.RequiredNames.{required_shape}
use Rattle.mp_tables.specs.TypeRelations.{ordinal}
use Rattle.mp_tables.proofs.CleanLemmas.{some_inj}

pub lookup-rows :
    {K V X : Type 0} (test : K → Bool) (key : X → K) (value : X → V) (rows : List X) →
    lookup test (map (λ r. (key r, value r)) rows) ≡ option_map value (find (λ r. test (key r)) rows)
lookup-rows test key value [] = refl
lookup-rows test key value (r ∷ rows) =
    elim (test (key r)) as (λ t. cond t (Some (value r)) (lookup test (map (λ x. (key x, value x)) rows)) ≡ option_map value (cond t (Some r) (find (λ x. test (key x)) rows)))
    [ true ↦ refl | false ↦ lookup-rows test key value rows ]

-- the values of a required type, if it is ordinal
abbrev values_of : TypeId → Option Bounds
values_of id = option_and_then (λ s. ordinal (record { id = Some id; shape = s })) (required_shape id)

host-values : (id : TypeId) (v : Bounds) → values_of id ≡ Some v → v.host ≡ id
host-values type.Integer v e = sym (ap (λ b. b.host) (some_inj e))
host-values type.Boolean v e = sym (ap (λ b. b.host) (some_inj e))
host-values type.Char v e = sym (ap (λ b. b.host) (some_inj e))
host-values type.Text v e = absurd cc
host-values (type.Own path at) v e = absurd cc

pub required-host : (id : TypeId) (s : Shape) (v : Bounds) → required_shape id ≡ Some s → ordinal (record { id = Some id; shape = s }) ≡ Some v → v.host ≡ id
required-host id s v e f = host-values id v (ap (option_and_then (λ x. ordinal (record { id = Some id; shape = x }))) e ∙ f)
