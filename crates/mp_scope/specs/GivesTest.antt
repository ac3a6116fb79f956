-- The test of `Gives`: what the code goes by. No statement cites this.
use Rattle.std.specs.Prelude.{Bool, false, ◌&&◌, List, Option, Some, None}
use mathlib.Core.Bool.{beq}
use Rattle.mp_tables.specs.declared.types.Shape.{Shape}
use Rattle.mp_tables.specs.declared.questions.Question.{Question}
use Rattle.mp_tables.specs.declared.questions.Question.TheVariants as question
use Rattle.mp_tables.specs.declared.questions.Given.{Given}
use Rattle.mp_tables.specs.declared.questions.Given.TheVariants as given
use Rattle.mp_tables.specs.declared.tables.Table.{Table}
use Rattle.mp_tables.specs.contracts.types.ShapePartialEq.TheImpl as same_shape
use Rattle.mp_tables.specs.contracts.headings.HeadingPartialEq.TheImpl as same_heading
use Rattle.mp_tables.specs.contracts.questions.SeenPartialEq.TheImpl as same_seen
use Rattle.mp_tables.specs.Seen.{seen, shape_of, heading_of, assigns_of, path_stands}

-- it is there, and this one
abbrev pub shape_is : Option Shape → Shape → Bool
shape_is None s = false
shape_is (Some x) s = (same_shape.ghosts).eq x s

abbrev pub gives : List Table → Question → Given → Bool
gives tables (question.Name n place) (given.Seen s) = (same_seen.ghosts).eq (seen tables n place) s
gives tables (question.Shape id) (given.Shape s) = shape_is (shape_of tables id) s
gives tables (question.Heading path) (given.Heading h) = path_stands tables path && (same_heading.ghosts).eq (heading_of tables path) h
gives tables (question.Assigns path) (given.Assigns b) = path_stands tables path && beq (assigns_of tables path) b
gives tables _ _ = false
