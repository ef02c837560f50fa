-- Laws of the policy records that were found.
use Rattle.std.specs.Prelude.{Option, Some, None}
use mathlib.Core.Path.{◌≡◌, refl}
use mathlib.Core.List.{List, [], ◌∷◌}
use Rattle.policy.specs.declared.Settings.{Settings}
use Rattle.txt.specs.Answers.{add_record, single}
use Rattle.txt_found.specs.code.Finding.{found_of, add_found, found_reply}

-- one more text beside those that were found
pub found_more : (r : Option Settings) (rs : List Settings) → add_found r (found_of rs) ≡ found_of (add_record r rs)
unfolding found_of add_record
found_more None rs = refl
found_more (Some s) [] = refl
found_more (Some s) (r ∷ []) = refl
found_more (Some s) (r ∷ q ∷ rs) = refl

-- what they say of the name
pub found_single : (rs : List Settings) → found_reply (found_of rs) ≡ single rs
unfolding found_of single
found_single [] = refl
found_single (s ∷ []) = refl
found_single (s ∷ r ∷ rs) = refl
