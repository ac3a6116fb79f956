use Rattle.std.proofs.Common.{◌≡◌, take}
use Rattle.mp_base.specs.Text.{IsLine, cut}
use Rattle.mp_script.proofs.lines.cut_bytes.Given as goal

abbrev pub invariant-bytes : goal.invariant-bytes
invariant-bytes l = record {
  parts : cut (take l.byte-index l.bytes) ≡ record { whole = l.lines.items; rest = l.rest.items };
  line : IsLine l.rest.items;
}
