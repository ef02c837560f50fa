-- `evaluation_first::point` meets its contract.
use Rattle.walk_known.specs.code.Kept.{kept_answers}
use Rattle.evaluation_first.proofs.PointLaws.{points_on, points_first}
use Rattle.evaluation_first.proofs.point.Goals as goal

pub returns-then-e : goal.returns-then-e
returns-then-e c = points_on c.args.e c.if-e.true

pub returns : goal.returns
unfolding kept_answers
returns c =
    points_first c.args.e _ _ c.if-e.false c.begin-position.ensures
