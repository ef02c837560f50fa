-- `rows_match::same_seen` meets its contract.
use Rattle.std.proofs.Common.{◌≡◌, ◌&&◌, ◌∙◌, arith, eqb}
use Rattle.std.specs.Bool.{beq}
use Rattle.std.proofs.lemmas.Grind.{common_steps}
use Rattle.octets.specs.Octets.{is_set, same}
use Rattle.octets.proofs.TextLaws.{same_each}
use Rattle.rows.specs.Rows.{same_seen}
use Rattle.rows_match.proofs.same_seen.Goals as goal

pub returns-then-a-b-4 : goal.returns-then-a-b-4
unfolding same_seen is_set
returns-then-a-b-4 c =
    let a = c.args.a in
    let b = c.args.b in
    let first : c.if-a-b.value ≡ (c.eq.result && eqb a.disposition b.disposition && beq (is_set a.dkim) (is_set b.dkim)) = grind (arith, common_steps) in
    let second : c.if-a-b-2.value ≡ (c.if-a-b.value && beq (is_set a.spf) (is_set b.spf)) = grind (arith, common_steps) in
    let third : c.if-a-b-3.value ≡ (c.if-a-b-2.value && eqb a.author b.author) = grind (arith, common_steps) in
    let e : c.eq.result ≡ same a.source b.source = c.eq.ensures ∙ same_each _ _ in
    let all : same_seen a b ≡ (c.if-a-b-3.value && eqb a.set b.set) = rw (third, second, first, e) in
    rw (all, c.if-a-b-4.true)

pub returns-else-a-b-4 : goal.returns-else-a-b-4
unfolding same_seen is_set
returns-else-a-b-4 c =
    let a = c.args.a in
    let b = c.args.b in
    let first : c.if-a-b.value ≡ (c.eq.result && eqb a.disposition b.disposition && beq (is_set a.dkim) (is_set b.dkim)) = grind (arith, common_steps) in
    let second : c.if-a-b-2.value ≡ (c.if-a-b.value && beq (is_set a.spf) (is_set b.spf)) = grind (arith, common_steps) in
    let third : c.if-a-b-3.value ≡ (c.if-a-b-2.value && eqb a.author b.author) = grind (arith, common_steps) in
    let e : c.eq.result ≡ same a.source b.source = c.eq.ensures ∙ same_each _ _ in
    let all : same_seen a b ≡ (c.if-a-b-3.value && eqb a.set b.set) = rw (third, second, first, e) in
    rw (all, c.if-a-b-4.false)
