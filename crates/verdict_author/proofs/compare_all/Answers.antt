-- `verdict_author::compare_all` meets its contract.
use native.Mathlib.Omega.{arith}
use Rattle.walk_known.specs.code.Kept.{kept_answers}
use Rattle.verdict_compare.proofs.ComparingLaws.{compares_same}
use Rattle.verdict_author.proofs.AuthorLaws.{compares_all}
use Rattle.verdict_author.proofs.compare_all.Goals as goal

pub returns : goal.returns
returns c =
    let a = c.args in
    let β = kept_answers a.domains.now a.count a.kept.now in
    let on = compares_same a.domains.now a.numbers.now a.t β a.ruling _ _ _ {v = 1} c.compare.ensures (omega arith) in
    compares_all a.domains.now a.numbers.now a.t β _ _ _ _ a.ruling a.w c.store.ensures on
