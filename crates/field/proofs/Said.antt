-- The numbers of what is read say it again.
use Rattle.std.specs.Prelude.{Ok, Err}
use mathlib.Core.Path.{◌≡◌, refl}
use mathlib.Core.Logic.{◌⊎◌, inl, inr}
use native.Mathlib.Omega.{arith}
use borrow.Author.Tests.{ne_eqb}
use Rattle.octets.specs.Octets.{Octets}
use Rattle.octets.specs.Refusing.{OrRefused, ok, not_ok}
use Rattle.octets.specs.declared.Refusal.{Refusal}
use Rattle.octets.proofs.TextLaws.{flag_said}
use Rattle.field.specs.declared.NamedMethods.{NamedMethods}
use Rattle.field.specs.code.Reading.{read_field}
use Rattle.field.specs.Numbers.{field_answer, field_read}
use Rattle.field.specs.Numbers.{field_read_numbers, field_read_said, SaidAgain}
use Rattle.field.proofs.Claimed.{field_claims}

refusal_said : (r : Refusal) → (r.number ≡ 0 → ⊥) → field_read_said (field_read_numbers (Err r)) ≡ Err r
unfolding field_read_said field_read_numbers
refusal_said r h = rw (ne_eqb r.number 0 h)

methods_said : (m : NamedMethods) → field_read_said (field_read_numbers (Ok m)) ≡ Ok m
unfolding field_read_said field_read_numbers
methods_said m = rw (flag_said m.dkim, flag_said m.spf)

pub said_again : (s : Octets) → SaidAgain s
unfolding field_read field_answer
said_again s = go (read_field s) refl
  where
    not_zero : (r : Refusal) → (r.number ≡ 24) ⊎ (r.number ≡ 25) ⊎ (r.number ≡ 26) → r.number ≡ 0 → ⊥
    not_zero r (inl e) f = omega arith
    not_zero r (inr (inl e)) f = omega arith
    not_zero r (inr (inr e)) f = omega arith

    go : (o : OrRefused NamedMethods) → read_field s ≡ o → field_read_said (field_read_numbers (field_answer (read_field s))) ≡ field_answer (read_field s)
    go (ok m) e = rw e (methods_said m)
    go (not_ok r) e = rw e (refusal_said r (not_zero r ((field_claims s).numbers r e)))
