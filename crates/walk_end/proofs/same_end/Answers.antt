-- `walk_end::same_end` meets its contract.
use Rattle.walk_end.proofs.EndLaws.{same_ends}
use Rattle.walk_end.proofs.same_end.Goals as goal

pub returns : goal.returns
returns c =
    let a = c.args in
    same_ends a.d.now a.a.0 a.b.0 _ _ c.clip.ensures c.clip-2.ensures
