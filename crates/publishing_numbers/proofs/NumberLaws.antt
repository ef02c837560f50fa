-- What numbers that are not listed stand for, and the number of t.
use Rattle.std.proofs.Common.{◌≡◌, ℕ, zero, suc, Bool, true, false, refl, sym, arith, cond}
use borrow.Author.Tests.{ne_eqb}
use lib.Dec.{eqb}
use Rattle.policy.specs.declared.Setting.{Setting}
use Rattle.policy.specs.declared.Mode.{Mode}
use Rattle.policy.specs.declared.Psd.{Psd}
use Rattle.publishing.specs.Numbers.{setting_in, mode_in, psd_in, testing_in, testing_number}

pub setting_rest : (n : ℕ) → (n ≡ 0 → ⊥) → (n ≡ 1 → ⊥) → (n ≡ 2 → ⊥) → (n ≡ 3 → ⊥) → setting_in n ≡ Setting.Invalid
unfolding setting_in
setting_rest zero h i j k = absurd (h refl)
setting_rest (suc zero) h i j k = absurd (i refl)
setting_rest (suc (suc zero)) h i j k = absurd (j refl)
setting_rest (suc (suc (suc zero))) h i j k = absurd (k refl)
setting_rest (suc (suc (suc (suc n)))) h i j k = refl

pub mode_rest : (n : ℕ) → (n ≡ 1 → ⊥) → mode_in n ≡ Mode.Relaxed
unfolding mode_in
mode_rest zero h = refl
mode_rest (suc zero) h = absurd (h refl)
mode_rest (suc (suc n)) h = refl

pub psd_rest : (n : ℕ) → (n ≡ 1 → ⊥) → (n ≡ 2 → ⊥) → psd_in n ≡ Psd.Unset
unfolding psd_in
psd_rest zero h i = refl
psd_rest (suc zero) h i = absurd (h refl)
psd_rest (suc (suc zero)) h i = absurd (i refl)
psd_rest (suc (suc (suc n))) h i = refl

pub testing_is : (n : ℕ) → testing_in n ≡ eqb n 1
unfolding testing_in
testing_is zero = refl
testing_is (suc zero) = refl
testing_is (suc (suc n)) = sym (ne_eqb (suc (suc n)) 1 (omega arith))

pub testing_from : (b : Bool) → testing_number b ≡ cond b 1 0
unfolding testing_number
testing_from true = refl
testing_from false = refl
