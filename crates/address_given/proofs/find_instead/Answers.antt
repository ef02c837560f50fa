-- `address_given::find_instead` meets its contract.
use borrow.Enum.Refused.{opened}
use mathlib.Core.Path.{◌≡◌, refl}
use mathlib.Core.List.{[], ◌∷◌}
use mathlib.Core.Logic.{⊎_elim}
use native.Mathlib.Omega.{arith}
use types.Run.{OneOf}
use denote.Enum.Declared.{tag_of}
use Rattle.address.specs.declared.Agreement.{Agreement}
use Rattle.address.specs.contracts.Agreement as agreements
use Rattle.address_check.specs.Numbers.{instead_of}
use Rattle.address_given.proofs.find_instead.Goals as goal

-- no other agreement has a place
elsewhere : (a : Agreement) → OneOf (0 ∷ 1 ∷ 2 ∷ 3 ∷ []) (tag_of agreements.the_type a) → record { begin = 0; length = 0 } ≡ instead_of a
unfolding instead_of
elsewhere Agreement.NotKnown h = refl
elsewhere Agreement.PlainNo h = refl
elsewhere Agreement.Inside h = refl
elsewhere Agreement.Confirmed h = refl
elsewhere (Agreement.Replaced b) h = absurd (⊎_elim (λ z. omega arith) (⊎_elim (λ z. omega arith) (⊎_elim (λ z. omega arith) (λ z. omega arith))) h)

pub returns-in_default : goal.returns-in_default
unfolding instead_of
returns-in_default c = elsewhere c.args.a (opened c.in_default.in_default-own.keys2)

pub returns : goal.returns
unfolding instead_of
returns c = rw c.in-Replaced.is
