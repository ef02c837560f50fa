-- Laws of the two walks of a check.
use mathlib.Core.Path.{◌≡◌, refl, ap, sym, ◌∙◌}
use mathlib.Core.Bool.{true, false}
use Prim.Native.Nat.{◌+◌, ◌≤◌, ◌<◌}
use native.Mathlib.Omega.{arith}
use lib.Dec.{leb}
use lib.ListN.{length}
use borrow.Author.Tests.{le-leb, lt-leb}
use Rattle.std.specs.Prelude.{if◌then◌else◌}
use Rattle.lookup.specs.Lookup.{Answers}
use Rattle.domain.specs.Domain.{Domain}
use Rattle.txt.specs.declared.Reply.{Reply}
use Rattle.address.specs.declared.Agreement.{Agreement}
use Rattle.address.specs.Address.{confirming_name}
use Rattle.address.proofs.NameLaws.{long_name}
use Rattle.address_check.specs.code.Cursor.{on_confirming, settled, confirm_on}
use Rattle.address_check.specs.code.Pairs.{both}

module _ (β : Answers Reply) (p h : Domain) where
  pub too_long : 237 < length p + length h → settled Agreement.PlainNo ≡ confirm_on β (both p h)
  unfolding confirm_on
  too_long l = rw (lt-leb (length (confirming_name p h)) 253 (omega (arith, l, long_name p h)))

  pub short_enough : length p + length h ≤ 237 → on_confirming ≡ confirm_on β (both p h)
  unfolding confirm_on
  short_enough l = rw (le-leb (length (confirming_name p h)) 253 (omega (arith, l, long_name p h)))
