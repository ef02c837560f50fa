use Rattle.std.proofs.Common.{◌≡◌, ◌-◌, ◌++◌, take, drop}
use Rattle.octets.specs.Decimal.{decimal}
use Rattle.octets.proofs.DecimalLaws.{last_digits}
use Rattle.octets_append.proofs.write_decimal.Given as goal

abbrev pub invariant-loop-i : goal.invariant-loop-i
invariant-loop-i l = record {
  beyond : drop l.digits l.out ≡ drop l.digits l.initial.out;
  so_far : decimal l.x ≡ last_digits l.i l.rest ++ take (l.digits - l.i) (drop l.i l.out);
}
