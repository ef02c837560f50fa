-- How many digits a number has, by its logarithm.
use Rattle.std.proofs.Common.{◌≡◌, ℕ, zero, suc, ◌+◌, ◌*◌, ◌/◌, ◌^◌, ◌<◌, ◌≤◌, Bool, true, false, ltb, length, refl, arith, pow-suc, ltb-true, ltb-false}
use Rattle.std.specs.Prelude.{Option, Some, None, IfNone, IfSome, unwrap_or}
use Rattle.octets.specs.Decimal.{decimal}
use Rattle.octets.proofs.DecimalLaws.{length_one, length_more, decimal_below}

power_above : (n : ℕ) → 0 < 10 ^ n
power_above zero = omega arith
power_above (suc n) = rw (pow-suc 10 n) (omega (arith, power_above n))

-- a number that is no less than a power of ten has more digits
more_digits : (n x : ℕ) → 10 ^ n ≤ x → n < length (decimal x)
more_digits zero x h = go (ltb x 10) refl
  where
    go : (b : Bool) → ltb x 10 ≡ b → 0 < length (decimal x)
    go true e = omega (arith, length_one x (ltb-true x 10 e))
    go false e = omega (arith, length_more x (ltb-false x 10 e))
more_digits (suc n) x h =
    let power : 10 ^ suc n ≡ 10 ^ n * 10 = pow-suc 10 n in
    let some : 0 < 10 ^ n = power_above n in
    let smaller : 10 ^ n ≤ x / 10 = omega arith in
    omega (arith, length_more x (omega arith), more_digits n (x / 10) smaller)

pub so_long : (x : ℕ) (o : Option ℕ) → IfNone o (x ≡ 0) → IfSome o (λ k. 10 ^ k ≤ x) → IfSome o (λ k. x < 10 * 10 ^ k) → unwrap_or o 0 + 1 ≡ length (decimal x)
so_long x None h at_least below = omega (arith, length_one x (omega arith))
so_long x (Some k) h at_least below =
    let power : 10 ^ suc k ≡ 10 ^ k * 10 = pow-suc 10 k in
    omega (arith, more_digits k x at_least, decimal_below k x (omega arith))
