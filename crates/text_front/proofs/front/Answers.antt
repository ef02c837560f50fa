-- `text_front::front` meets its contract: as many octets as the front part has.
use Rattle.std.proofs.Common.{arith}
use Rattle.std.proofs.lemmas.Grind.{common_steps}
use Rattle.text_class.specs.code.Classes.{in_class}
use Rattle.octets.proofs.PartLaws.{front_part, front_end}
use Rattle.text_front.proofs.front.Goals as goal

pub slice_bounds-result-end : goal.slice_bounds-result-end
slice_bounds-result-end c = grind (arith, common_steps, front_end (in_class c.args.class) c.args.s.now _ c.front_length.ensures)

pub returns : goal.returns
returns c = grind (arith, common_steps, front_part (in_class c.args.class) c.args.s.now _ c.front_length.ensures)
