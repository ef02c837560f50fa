-- `text_front::after` meets its contract: what follows as many octets as the front part has.
use mathlib.Core.Path.{ap, sym, ◌∙◌}
use Prim.Native.Nat.{ℕ}
use lib.ListN.{drop}
use Rattle.text_class.specs.code.Classes.{in_class}
use Rattle.octets.proofs.PartLaws.{after_drop}
use Rattle.text_front.proofs.after.Goals as goal

pub returns : goal.returns
returns c =
    let a = c.args in
    c.skip.ensures ∙ ap (λ (n : ℕ). drop n a.s.now) c.front_length.ensures ∙ sym (after_drop (in_class a.class) a.s.now)
