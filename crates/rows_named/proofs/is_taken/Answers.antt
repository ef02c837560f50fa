-- `rows_named::is_taken` meets its contract.
use Rattle.std.proofs.Common.{◌≡◌, ◌&&◌, not, leb, arith}
use Rattle.std.proofs.lemmas.Grind.{common_steps}
use Rattle.rows.specs.Lists.{reported}
use Rattle.rows_named.specs.code.Naming.{takes}
use Rattle.rows_named.proofs.is_taken.Goals as goal

pub returns-after-is_spf : goal.returns-after-is_spf
unfolding reported takes
returns-after-is_spf c =
    let i = reported c.args.body.now in
    let known : c.if-octet_at-lt2.value ≡ (not (leb 16 c.args.index) && not (leb 2 i.kind) && not (leb 3 i.outcome)) = grind (arith, common_steps) in
    grind (arith, common_steps)

pub returns-else-octet_at-lt3 : goal.returns-else-octet_at-lt3
unfolding reported takes
returns-else-octet_at-lt3 c =
    let i = reported c.args.body.now in
    let known : c.if-octet_at-lt2.value ≡ (not (leb 16 c.args.index) && not (leb 2 i.kind) && not (leb 3 i.outcome)) = grind (arith, common_steps) in
    grind (arith, common_steps)
