-- What the crate's own answers say, in the words of the definitions.
use Rattle.std.specs.Prelude.{ℕ}
use Rattle.mp_tables.specs.declared.types.Bounds.{Bounds}
use Rattle.mp_tables.specs.TypeRelations as relation
use Rattle.mp_types.specs.declared.ordinals.Values.{Values}
use Rattle.mp_types.specs.declared.strings.StringForm.{StringForm}
use Rattle.mp_types.specs.declared.strings.StringForm.TheVariants as form

-- the values, whose host is lent
abbrev pub bounds_of : Values → Bounds
bounds_of v = record { host = v.host.now; low = v.low; high = v.high }

abbrev pub form_of : StringForm → relation.StringForm
form_of form.NoString = relation.NoString
form_of (form.OfLength n) = relation.OfLength n
form_of form.OfSomeLength = relation.OfSomeLength
