-- A reading program that takes so many octets and no more: an octet behind them is refused 20.
use Rattle.std.specs.Prelude.{◌≡◌, Bool, true, false, ℕ, zero, suc, ◌-◌, Option, None, Some}
use Rattle.parsing.specs.Reads.{Reads, done, give, next, Left, open_at, stuck, Reader, Fed}

unfoldable pub at_most : {R A : Type 0} → ℕ → Reads R A → Reads R A
at_most n (done a) = done a
at_most n (give r t) = give r (at_most n t)
at_most zero (next refuses k) = next (λ x. Some 20) k
at_most (suc n) (next refuses k) = next refuses (λ x. at_most n (k x))

-- a reader that counts so far
unfoldable pub limited_left : {R A : Type 0} → ℕ → Left R A → Left R A
limited_left n (open_at t) = open_at (at_most n t)
limited_left n (stuck q) = stuck q

unfoldable pub limited : {R A : Type 0} → ℕ → Reader R A → Reader R A
limited most r = record { taken = r.taken; left = limited_left (most - r.taken) r.left }

-- a program that has its value or takes an octet
unfoldable pub is_ready : {R A : Type 0} → Reads R A → Bool
is_ready (done a) = true
is_ready (give r t) = false
is_ready (next refuses k) = true

-- a program that takes no more octets than so many, whatever the text
unfoldable pub Within : {R A : Type 0} → ℕ → Reads R A → Type 0
Within n (done a) = Unit
Within n (give r t) = Within n t
Within zero (next refuses k) = ⊥
Within (suc n) (next refuses k) = (x : ℕ) → refuses x ≡ None → Within n (k x)
