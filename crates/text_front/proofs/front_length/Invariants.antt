-- `text_front::front_length` meets its contract: every octet that was passed is of the class.
use Rattle.std.proofs.Common.{◌≡◌, ◌+◌, length, drop}
use Rattle.text_class.specs.code.Classes.{in_class}
use Rattle.octets.specs.Octets.{front}
use Rattle.text_front.proofs.front_length.Given as goal

abbrev pub invariant-loop-i : goal.invariant-loop-i
invariant-loop-i l = length (front (in_class l.class) l.s) ≡ l.i + length (front (in_class l.class) (drop l.i l.s))
