-- Where the records that are open stand, what a name in them is stands.
use Rattle.std.proofs.Common.{◌≡◌, ℕ, ◌+◌, Bool, true, false, cond, List, [], ◌∷◌, Option, Some, None, map, refl, subst}
use Rattle.std.specs.Prelude.{option_map}
use Rattle.std.specs.List.{AllByRecursion}
use Rattle.mp_tables.specs.declared.types.Slot.{Slot}
use Rattle.mp_tables.specs.declared.types.RecordShape.{RecordShape}
use Rattle.mp_tables.specs.declared.types.Shape.TheVariants as shape
use Rattle.mp_tables.specs.Standing.{Types, Paths, TypeIfStands, ShapeStands}
use Rattle.mp_tables.specs.Sizes.{has_name, numbered_slot}
use Rattle.mp_tables.specs.Names as names
use Rattle.mp_expr_rules.specs.declared.region.Opened.{Opened}
use Rattle.mp_expr_rules.specs.Regions.{opened_of, RecordIfStands, UseIfStands}

-- the type of a slot that is found stands
pub slot_stands :
    (types : Types) (n : List ℕ) (k : ℕ) (slots : List Slot) (p : ℕ × Slot) →
    AllByRecursion (λ s. TypeIfStands types s.of) slots → numbered_slot n k slots ≡ Some p → TypeIfStands types p.1.of
slot_stands types n k [] p all h = absurd (let e : ⊥ = cc in e)
slot_stands types n k (s ∷ slots) p all h = by (has_name n s.name) (slot_stands types n (k + 1) slots p all.1) h
  where
    by :
        (b : Bool) → (numbered_slot n (k + 1) slots ≡ Some p → TypeIfStands types p.1.of) → cond b (Some (k, s)) (numbered_slot n (k + 1) slots) ≡ Some p →
        TypeIfStands types p.1.of
    by true f e = let w : (k, s) ≡ p = cc in subst (λ q. TypeIfStands types q.1.of) w all.0
    by false f e = f e

-- the type of a field that is found stands
pub field_stands :
    (types : Types) (n : List ℕ) (r : RecordShape) (f : names.Field) → ShapeStands types (shape.Rec r) → names.field_named n r ≡ Some f → TypeIfStands types f.slot.of
field_stands types n r f stands h = by (numbered_slot n 0 r.slots) (λ p e. slot_stands types n 0 r.slots p stands.0 e) h
  where
    by : (o : Option (ℕ × Slot)) → ((p : ℕ × Slot) → o ≡ Some p → TypeIfStands types p.1.of) → names.field_by r n o ≡ Some f → TypeIfStands types f.slot.of
    by None own e = absurd (let x : ⊥ = cc in x)
    by (Some (k, s)) own e = let w : record { of = r; at = names.field_at r n k s; slot = s } ≡ f = cc in subst (λ g. TypeIfStands types g.slot.of) w (own (k, s) refl)

open_stands : (types : Types) (paths : Paths) (n : List ℕ) (o : Opened) → RecordIfStands types o.fields → UseIfStands types paths (names.open_field o.number o.fields n)
open_stands types paths n o stands = by o.fields stands
  where
    by_field :
        (r : RecordShape) (f : Option names.Field) → ((g : names.Field) → f ≡ Some g → TypeIfStands types g.slot.of) →
        UseIfStands types paths (option_map (names.OpenField o.number) f)
    by_field r None own = tt
    by_field r (Some g) own = own g refl

    by : (of : Option RecordShape) → RecordIfStands types of → UseIfStands types paths (names.open_field o.number of n)
    by None h = tt
    by (Some r) h = by_field r (names.field_named n r) (λ g e. field_stands types n r g h e)

-- the type of a field of an open record stands
pub opened_stands :
    (types : Types) (paths : Paths) (n : List ℕ) (opened : List Opened) →
    AllByRecursion (λ o. RecordIfStands types o.fields) opened → UseIfStands types paths (names.field_in (map opened_of opened) n)
opened_stands types paths n [] all = tt
opened_stands types paths n (o ∷ opened) all = by (names.open_field o.number o.fields n) (open_stands types paths n o all.0) (opened_stands types paths n opened all.1)
  where
    by :
        (u : Option names.Use) → UseIfStands types paths u → UseIfStands types paths (names.field_in (map opened_of opened) n) →
        UseIfStands types paths (names.or_else u (names.field_in (map opened_of opened) n))
    by None h more = more
    by (Some u) h more = h
