use Rattle.std.proofs.Common.{◌≡◌, ◌<◌, ◌^◌, take}
use Rattle.mp_lex.specs.Meaning.{digits_value}
use Rattle.mp_script.proofs.numbers.value.Given as goal

abbrev pub invariant-digits : goal.invariant-digits
invariant-digits l = record {
  small : l.value < 10 ^ l.digit-index;
  same : l.value ≡ digits_value (take l.digit-index l.digits);
}
