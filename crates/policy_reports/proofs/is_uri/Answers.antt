-- `policy_reports::is_uri` meets its contract: what was passed is of a URI, so what is left decides.
use Rattle.std.proofs.Common.{◌≡◌, arith}
use Rattle.policy_reports.proofs.ReportLaws.{owes, passes, begins, ends, hex}
use Rattle.policy_reports.proofs.is_uri.Goals as goal
use Rattle.policy_reports.proofs.is_uri.Goals.{then-owed-gt0+else-not-is_ascii_hexdigit, else-owed-gt0+then-x-eq37, else-owed-gt0+else-x-eq37+else-not-is_uri_octet}

pub returns-then-not-is_ascii_hexdigit : goal.returns-then-not-is_ascii_hexdigit
returns-then-not-is_ascii_hexdigit c =
    let m = c.loop-x in
    let s = c.args.s.now in
    rw (m.invariant.1, owes s m.x-index (omega arith) m.owed (omega arith), hex, ← c.is_ascii_hexdigit.ensures.value, c.if-not-is_ascii_hexdigit.true)

pub returns-then-not-is_uri_octet : goal.returns-then-not-is_uri_octet
returns-then-not-is_uri_octet c =
    let m = c.loop-x in
    let s = c.args.s.now in
    let none : m.owed ≡ 0 = omega arith in
    rw (m.invariant.1, none, passes s m.x-index (omega arith) c.if-x-eq37.false, ← c.is_uri_octet.ensures, c.if-not-is_uri_octet.true)

pub loop-x-preserved : goal.loop-x-preserved
loop-x-preserved c =
    let m = c.loop-x in
    let s = c.args.s.now in
    elim c.if-owed-gt0.branch [
      | then-owed-gt0+else-not-is_ascii_hexdigit w ↦
          (omega arith, rw (w.owed-is, m.invariant.1, owes s m.x-index (omega arith) m.owed (omega arith), hex, ← w.is_ascii_hexdigit.ensures.value, w.if-not-is_ascii_hexdigit.false))
      | else-owed-gt0+then-x-eq37 w ↦
          let none : m.owed ≡ 0 = omega arith in
          (omega arith, rw (w.owed-is, m.invariant.1, none) (begins s m.x-index (omega arith) w.if-x-eq37.true))
      | else-owed-gt0+else-x-eq37+else-not-is_uri_octet w ↦
          let none : m.owed ≡ 0 = omega arith in
          (omega arith, rw (w.owed-is, m.invariant.1, none, passes s m.x-index (omega arith) w.if-x-eq37.false, ← w.is_uri_octet.ensures, w.if-not-is_uri_octet.false))
    ]

pub returns : goal.returns
returns c =
    let m = c.loop-x in
    rw (m.invariant.1, ends m.owed c.args.s.now m.x-index (omega arith))
