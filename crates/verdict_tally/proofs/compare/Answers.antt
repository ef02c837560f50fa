-- `verdict_tally::compare` meets its contract.
use mathlib.Core.Path.{sym}
use native.Mathlib.Omega.{arith}
use Rattle.alignment.specs.Alignments.{compared}
use Rattle.verdict_tally.proofs.TallyLaws.{read_unknown, read_known}
use Rattle.verdict_tally.proofs.compare.Goals as goal

pub returns-then-min-lt2 : goal.returns-then-min-lt2
returns-then-min-lt2 c =
    let a = c.args in
    sym (read_unknown a.author.now a.d.now a.first a.own (rw c.min.ensures at c.if-min-lt2.true))

pub overflow_sub-first : goal.overflow_sub-first
overflow_sub-first c = omega (arith, c.min.ensures)

pub overflow_sub-own : goal.overflow_sub-own
overflow_sub-own c = omega (arith, c.min.ensures)

pub returns-then-same_octets : goal.returns-then-same_octets
unfolding compared
returns-then-same_octets c =
    let a = c.args in
    let known = read_known a.author.now a.d.now a.first a.own (rw c.min.ensures at c.if-min-lt2.false) in
    rw (known, ← c.skip-organization.ensures, ← c.skip.ensures, ← c.same_octets.ensures, c.if-same_octets.true)

pub returns-else-same_octets : goal.returns-else-same_octets
unfolding compared
returns-else-same_octets c =
    let a = c.args in
    let known = read_known a.author.now a.d.now a.first a.own (rw c.min.ensures at c.if-min-lt2.false) in
    rw (known, ← c.skip-organization.ensures, ← c.skip.ensures, ← c.same_octets.ensures, c.if-same_octets.false)
