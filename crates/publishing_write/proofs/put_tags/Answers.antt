-- `publishing_write::put_tags` meets its contract: a tag more at each turn.
use borrow.Author.Rules.{rules}
use native.Mathlib.Omega.{arith}
use mathlib.Core.Path.{◌≡◌}
use Prim.Native.Nat.{◌<◌}
use lib.ListN.{length}
use Rattle.octets_pieces.proofs.PuttingLaws.{puts_nothing, puts_both}
use Rattle.publishing_write.specs.code.TagWords.{tags_from}
use Rattle.publishing_write.proofs.TagLaws.{one_more, all_tags}
use Rattle.publishing_write.proofs.put_tags.Goals as goal

pub loop-name-init : goal.loop-name-init
unfolding tags_from
loop-name-init c =
    let a = c.args in
    puts_nothing a.out.now a.at

pub loop-name-preserved : goal.loop-name-preserved
loop-name-preserved c =
    let m = c.loop-name in
    let a = c.args in
    let fits : m.name < length a.values = search rules in
    rw (one_more a.values m.name fits) (puts_both _ _ a.out.now a.at m.invariant (rw c.from.ensures at c.put_tag-end.ensures))

pub returns : goal.returns
returns c =
    let m = c.loop-name in
    let a = c.args in
    let count : length a.values ≡ 7 = search rules in
    rw (all_tags a.values m.name (omega (arith, count))) at m.invariant
