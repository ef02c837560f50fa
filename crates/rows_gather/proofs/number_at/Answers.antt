-- `rows_gather::number_at` meets its contract.
use Rattle.std.proofs.Common.{◌≡◌, get_or, drop, arith}
use Rattle.rows_gather.specs.code.Gathered.{number_from}
use Rattle.rows_gather.proofs.number_at.Goals as goal

pub returns : goal.returns
unfolding number_from
returns c =
    let s = drop c.args.at c.args.t.now in
    let first : c.octet_at.result ≡ get_or s 0 0 = rw c.skip-s.ensures at c.octet_at.ensures in
    let second : c.octet_at-2.result ≡ get_or s 1 0 = rw c.skip-s.ensures at c.octet_at-2.ensures in
    let third : c.octet_at-3.result ≡ get_or s 2 0 = rw c.skip-s.ensures at c.octet_at-3.ensures in
    let fourth : c.octet_at-4.result ≡ get_or s 3 0 = rw c.skip-s.ensures at c.octet_at-4.ensures in
    omega (arith, c.from_le_bytes.ensures)
