-- The table of the classes of all octets.
use mathlib.Core.List.{List, [], ◌∷◌}
use mathlib.Core.Path.{◌≡◌, ap, sym, ◌∙◌}
use Prim.Native.Nat.{ℕ, zero, suc, ◌+◌, ◌<◌}
use native.Mathlib.Nat.{add-zero, zero-add, add-suc, suc-add, le_of_suc-le-suc, not-suc-le-zero}
use lib.ListN.{get_or}
use Rattle.domain_rule.specs.code.Scanning.{class_code, Classes}

-- the classes of n octets, from i on
unfoldable pub classes_from : ℕ → ℕ → List ℕ
classes_from i zero = []
classes_from i (suc n) = class_code i ∷ classes_from (suc i) n

from : (n i k : ℕ) → k < n → get_or (classes_from i n) k 0 ≡ class_code (i + k)
unfolding classes_from
from zero i k h = absurd (not-suc-le-zero h)
from (suc n) i zero h = ap class_code (sym (add-zero i))
from (suc n) i (suc k) h = from n (suc i) k (le_of_suc-le-suc h) ∙ ap class_code (suc-add i k ∙ sym (add-suc i k))

pub all_classes : Classes (classes_from 0 256)
all_classes x h = from 256 0 x h ∙ ap class_code (zero-add x)
