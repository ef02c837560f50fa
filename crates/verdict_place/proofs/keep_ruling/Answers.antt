-- `verdict_place::keep_ruling` meets its contract.
use mathlib.Core.Path.{ap, ◌∙◌}
use Rattle.verdict_cursor.specs.code.Positions.{ruling_in}
use Rattle.txt_codes.specs.code.Codes.{settings_of}
use Rattle.txt_codes.proofs.CodeLaws.{settings_back}
use Rattle.verdict_place.proofs.keep_ruling.Goals as goal

pub returns : goal.returns
unfolding ruling_in
returns c =
    let r = c.args.r in
    λ i. record { begin = r.begin; settings = (ap settings_of c.encode_settings.ensures.0 ∙ settings_back r.settings) i; policy = c.keep_policy.ensures i }
