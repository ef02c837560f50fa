-- `txt_codes::decode_settings` meets its contract.
use Rattle.txt_codes.specs.code.Codes.{settings_of}
use Rattle.txt_codes.proofs.decode_settings.Goals as goal

pub returns : goal.returns
unfolding settings_of
returns c = cc
