-- What is lent of tables, as the value that it stands for.
use Rattle.mp_tables.specs.declared.declarations.Decl.TheVariants as decl
use Rattle.mp_tables.specs.declared.questions.Seen.{Seen}
use Rattle.mp_tables.specs.declared.questions.Seen.TheVariants as see
use Rattle.mp_scope.specs.declared.sight.Sight.{Sight}
use Rattle.mp_scope.specs.declared.sight.Sight.TheVariants as sight

-- what the name is
abbrev pub seen_of : Sight → Seen
seen_of (sight.Is d) = see.Is d.now
seen_of (sight.Required r) = see.Is (decl.Required r)
seen_of sight.NotYet = see.NotYet
seen_of sight.Absent = see.Absent
