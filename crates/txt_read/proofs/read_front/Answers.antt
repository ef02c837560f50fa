-- `txt_read::read_front` meets its contract.
use native.Mathlib.Omega.{arith}
use borrow.Author.Tests.{eq-eqb, ne_eqb}
use Rattle.octets.specs.Framing.{size_of}
use Rattle.txt_read.proofs.RecordLaws.{short_front, no_mark, record_front}
use Rattle.txt_read.proofs.read_front.Goals as goal
use Rattle.txt_read.proofs.read_front.Goals.{then-bytes-lt4-via-then-bytes-lt4, then-bytes-lt4-via-else-bytes-lt4+then-bytes-ne84, then-bytes-lt4-via-else-bytes-lt4+else-bytes-ne84+then-bytes-ne88}

pub returns-then-bytes-lt4 : goal.returns-then-bytes-lt4
returns-then-bytes-lt4 c =
    let t = c.args.bytes.now in
    elim c.then-bytes-lt4.branch [
      | then-bytes-lt4-via-then-bytes-lt4 w ↦ short_front t (omega arith)
      | then-bytes-lt4-via-else-bytes-lt4+then-bytes-ne84 w ↦ no_mark t (omega arith) (simp (ne_eqb _ _ w.if-bytes-ne84.true))
      | then-bytes-lt4-via-else-bytes-lt4+else-bytes-ne84+then-bytes-ne88 w ↦
          no_mark t (omega arith) (simp (eq-eqb _ _ w.if-bytes-ne84.false, ne_eqb _ _ w.if-bytes-ne88.true))
    ]

pub returns-then-n-bytes : goal.returns-then-n-bytes
unfolding size_of
returns-then-n-bytes c =
    rw (c.from.ensures, c.from-2.ensures)
    (record_front c.args.bytes.now (omega arith) (simp (eq-eqb _ _ c.if-bytes-ne84.false, eq-eqb _ _ c.if-bytes-ne88.false)) (omega arith))

pub returns-else-n-bytes : goal.returns-else-n-bytes
unfolding size_of
returns-else-n-bytes c = short_front c.args.bytes.now (omega arith)
