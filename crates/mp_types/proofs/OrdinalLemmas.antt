-- Which types are ordinal, and with which host.
use Rattle.std.proofs.Common.{◌≡◌, ℕ, pos, true, List, ◌∷◌, Option, Some, None, length, refl, sym, ap, ◌∙◌, arith}
use Rattle.std.specs.Prelude.{◌↔◌, ◌-◌}
use Rattle.mp_tables.specs.declared.types.TypeId.{TypeId}
use Rattle.mp_tables.specs.declared.types.Bounds.{Bounds}
use Rattle.mp_tables.specs.declared.types.Shape.{Shape}
use Rattle.mp_tables.specs.declared.types.Shape.TheVariants as shape
use Rattle.mp_tables.specs.declared.types.Typed.{Typed}
use Rattle.mp_tables.specs.TypeRelations.{ordinal, has_host}
use Rattle.mp_types.specs.Ordinals.{IsRangeOrNames, IsRange, IsNames, IsOrdinalOf}
use Rattle.mp_tables.proofs.CleanLemmas.{false_true, some_inj}
use Rattle.mp_tables.proofs.SortLemmas.{same-eq}
use Rattle.mp_types.proofs.CompatibleLemmas.{same-is}

none_some : {A : Type 0} {b : Bounds} → None ≡ Some b → A
none_some e = absurd cc

by_shape : (id : Option TypeId) (s : Shape) (b : Bounds) → ordinal (record { id = id; shape = s }) ≡ Some b → IsRangeOrNames s
by_shape id (shape.Range values) b e = IsRange values
by_shape id (shape.Names names) b e = IsNames names
by_shape id (shape.Arr a) b e = none_some e
by_shape id (shape.Rec r) b e = none_some e
by_shape id (shape.SetOf p base) b e = none_some e
by_shape id (shape.Ptr domain) b e = none_some e
by_shape id shape.Text b e = none_some e
by_shape id (shape.Str n) b e = none_some e

pub range_or_names : (t : Typed) (b : Bounds) → ordinal t ≡ Some b → IsRangeOrNames t.shape
range_or_names t b e = by_shape t.id t.shape b e

by_values : (host : TypeId) (id : Option TypeId) (s : Shape) → has_host host (record { id = id; shape = s }) ≡ true → IsOrdinalOf host (record { id = id; shape = s })
by_values host id (shape.Range b) e = (b, refl, sym (same-eq host b.host e))
by_values host (Some id) (shape.Names names) e = (_, refl, sym (same-eq host id e))
by_values host None (shape.Names names) e = false_true e
by_values host id (shape.Arr a) e = false_true e
by_values host id (shape.Rec r) e = false_true e
by_values host id (shape.SetOf p base) e = false_true e
by_values host id (shape.Ptr domain) e = false_true e
by_values host id shape.Text e = false_true e
by_values host id (shape.Str n) e = false_true e

to_values : (host : TypeId) (id : Option TypeId) (s : Shape) → IsOrdinalOf host (record { id = id; shape = s }) → has_host host (record { id = id; shape = s }) ≡ true
to_values host id (shape.Range b) h = same-is host b.host (sym (ap (λ x. x.host) (some_inj h.1) ∙ h.2))
to_values host (Some id) (shape.Names names) h = same-is host id (sym (ap (λ x. x.host) (some_inj h.1) ∙ h.2))
to_values host None (shape.Names names) h = none_some h.1
to_values host id (shape.Arr a) h = none_some h.1
to_values host id (shape.Rec r) h = none_some h.1
to_values host id (shape.SetOf p base) h = none_some h.1
to_values host id (shape.Ptr domain) h = none_some h.1
to_values host id shape.Text h = none_some h.1
to_values host id (shape.Str n) h = none_some h.1

pub host_cases : (host : TypeId) (t : Typed) → (has_host host t ≡ true) ↔ IsOrdinalOf host t
host_cases host t = (by_values host t.id t.shape, to_values host t.id t.shape)

last_number : (first : List ℕ) (later : List (List ℕ)) → length (first ∷ later) - 1 ≡ length later
last_number first later = omega arith

pub names_numbered :
    (id : TypeId) (first : List ℕ) (later : List (List ℕ)) →
    ordinal (record { id = Some id; shape = shape.Names (first ∷ later) }) ≡ Some (record { host = id; low = pos 0; high = pos (length later) })
names_numbered id first later = ap (λ k. Some (record { host = id; low = pos 0; high = pos k })) (last_number first later)
