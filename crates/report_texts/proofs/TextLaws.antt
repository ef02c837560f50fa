-- Laws of entities, and of what may be written.
use mathlib.Core.Path.{◌≡◌, sym}
use mathlib.Core.Bool.{false}
use Prim.Native.Nat.{ℕ, ◌≤◌, ◌<◌}
use lib.Dec.{leb}
use lib.ListN.{length}
use borrow.Author.Tests.{lt-leb, le-leb}
use Rattle.octets.specs.Octets.{Octets, between, front}
use Rattle.octets.proofs.PartLaws.{all_front}
use Rattle.report.specs.Report.{good_text}

-- ------------------------------------------------------------------ 19

pub too_long : (t : Octets) → 4096 < length t → false ≡ good_text t
unfolding good_text
too_long t h = rw (lt-leb (length t) 4096 h)

pub of_class : (t : Octets) {n : ℕ} → length t ≤ 4096 → n ≡ length (front (between 32 126) t) → leb (length t) n ≡ good_text t
unfolding good_text
of_class t h e = rw (le-leb (length t) 4096 h, e) (sym (all_front (between 32 126) t))
