-- `octets_write::write` meets its contract.
use mathlib.Core.Path.{refl, ap, ◌∙◌}
use native.Mathlib.Omega.{arith}
use lib.ListN.{set, get_or, length-set}
use borrow.Author.Rules.{rules}
use Rattle.octets.specs.Octets.{Octets}
use Rattle.octets.proofs.LentLaws.{one_more, refuses, writes, copied}
use Rattle.octets_write.proofs.write.Goals as goal

pub returns-then-out-n : goal.returns-then-out-n
returns-then-out-n c = refuses c.args.text.now c.args.out.now c.if-out-n.true _ refl _ c.too_short.ensures

pub loop-i-preserved : goal.loop-i-preserved
loop-i-preserved c =
    let a = c.args in
    let m = c.loop-i in
    record {
      room = search rules;
      as_long = simp length-set (search rules);
      copied = ap (λ (l : Octets). set l m.i (get_or a.text.now m.i 0)) m.invariant.copied ∙ one_more a.text.now a.out.now m.i (omega arith) (omega arith);
    }

pub returns : goal.returns
returns c =
    let a = c.args in
    let m = c.loop-i in
    writes a.text.now a.out.now (omega arith) _ refl m.out (m.invariant.copied ∙ copied a.text.now a.out.now m.i (omega arith))
