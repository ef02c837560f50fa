-- `domain_rule::check` meets its contract.
use native.Mathlib.Omega.{arith}
use Rattle.domain.specs.Domain.{labels}
use Rattle.domain_rule.specs.code.Scanning.{class_code}
use Rattle.domain.proofs.Computing.{domain_computes}
use Rattle.domain_rule.proofs.CheckLaws.{good_domain}
use Rattle.domain_rule.proofs.PlainLaws.{no_bad}
use Rattle.domain_rule.proofs.TableLaws.{classes_from, all_classes}
use Rattle.domain_rule.proofs.check.Goals as goal

pub scan-requires : goal.scan-requires
unfolding class_code classes_from domain_computes
scan-requires c = (all_classes, omega arith)

pub returns-in-Some : goal.returns-in-Some
returns-in-Some c =
    let s = c.args.s.now in
    let found = c.scan.ensures c.in-Some.labels c.in-Some.is in
    good_domain s (no_bad 0 (labels s) found.0 (c.is_short.ensures c.if-is_short.true)) (omega arith) _ found.1
