use Rattle.std.proofs.Common.{◌≡◌, ◌-◌, ◌≤◌, drop, length, true}
use Rattle.std.specs.Prelude.{is_some}
use Rattle.mp_machine.specs.ValueRows.{characters_of, string_relation}
use Rattle.mp_machine.proofs.relations.compare_strings.Given as goal

-- what is left of both tells for all
abbrev pub invariant-characters : goal.invariant-characters
invariant-characters l = record {
  within_first : l.i ≤ length l.xs;
  within_second : l.i ≤ length l.ys;
  first : is_some (characters_of (drop l.i l.xs)) ≡ true;
  second : is_some (characters_of (drop l.i l.ys)) ≡ true;
  same : string_relation l.relation (characters_of (drop l.i l.xs)) (characters_of (drop l.i l.ys))
      ≡ string_relation l.relation (characters_of l.xs) (characters_of l.ys);
}

abbrev pub decreases-characters : goal.decreases-characters
decreases-characters l = length l.xs - l.i
