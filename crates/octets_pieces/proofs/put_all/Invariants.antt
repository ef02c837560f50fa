-- `octets_pieces::put_all` meets its contract.
use Rattle.std.proofs.Common.{map, take}
use mathlib.Core.List.{flatten}
use Rattle.octets_pieces.specs.code.Putting.{Puts}
use Rattle.octets_pieces.proofs.put_all.Given as goal

abbrev pub invariant-loop-text : goal.invariant-loop-text
invariant-loop-text l = Puts (flatten (map (λ t. t.now) (take l.text-index l.texts))) l.at l.initial.out l.end l.out
