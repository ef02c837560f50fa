use Rattle.std.proofs.Common.{◌-◌, refl, ◌∙◌, arith}
use lib.Seq.{drop-set-lt}
use Rattle.octets.specs.Decimal.{decimal}
use Rattle.octets.proofs.DecimalLaws.{before_digits, next_digit, all_digits}
use Rattle.octets.proofs.LentLaws.{refuses, writes}
use Rattle.octets_append.proofs.write_decimal.Goals as goal

pub returns-then-out-digits : goal.returns-then-out-digits
returns-then-out-digits c =
    let a = c.args in
    let n = c.decimal_length-digits in
    refuses (decimal a.x) a.out.now (omega (arith, n.ensures)) _ n.ensures _ c.too_short.ensures

pub loop-i-init : goal.loop-i-init
loop-i-init c =
    let n = c.decimal_length-digits in
    record { beyond = refl; so_far = before_digits c.args.x n.result c.args.out.now n.ensures }

pub loop-i-preserved : goal.loop-i-preserved
loop-i-preserved c =
    let n = c.decimal_length-digits.result in
    let m = c.loop-i in
    record {
      beyond = drop-set-lt n m.out (m.i - 1) _ (omega arith) ∙ m.invariant.beyond;
      so_far = m.invariant.so_far ∙ next_digit m.rest n m.i m.out (omega arith) (omega arith) (omega arith);
    }

pub returns : goal.returns
returns c =
    let a = c.args in
    let n = c.decimal_length-digits in
    let m = c.loop-i in
    writes (decimal a.x) a.out.now (omega (arith, n.ensures)) _ n.ensures m.out
    (all_digits a.x n.result m.out a.out.now m.i m.rest (omega arith) m.invariant.beyond n.ensures m.invariant.so_far)
