-- What the tests of an open address mean for the program that is left.
use mathlib.Core.Path.{◌≡◌, refl, ap, ◌∙◌}
use mathlib.Core.List.{[], ◌∷◌, ◌++◌}
use mathlib.Core.Bool.{true, false, ◌||◌}
use Prim.Native.Nat.{ℕ, zero, suc, ◌-◌, ◌≤◌, ◌<◌}
use native.Mathlib.Omega.{arith}
use lib.ListN.{length, length-append}
use borrow.Author.Tests.{eq-eqb, ne_eqb}
use Rattle.octets.specs.Octets.{Octets}
use Rattle.parsing.specs.Reads.{Reads, done}
use Rattle.parsing_steps.specs.Stepping.{on, refused, step_of}
use Rattle.parsing_steps.proofs.StepLaws.{where_no, where_yes}
use Rattle.report_form.specs.ReportForm.{Said}
use Rattle.report_form.specs.code.ReportReading.{Address, dotted, grouped, goes_on_dotted, goes_on_grouped, ends_number, with_digit, next_number, source_of, digits_from, address_from}
use Rattle.report_states.specs.Standing.{part_from, address_left}

address_is : (m : ℕ) (a : Address) → address_from {R = Said} m a ≡ digits_from 4 (part_from m) a
unfolding address_from part_from
address_is zero a = refl
address_is (suc m) a = refl

module _ (a : Address) (x : ℕ) where
  abbrev part : Address → ℕ → Reads Said Octets
  part = part_from (7 - length a.before)

  -- neither ends the number nor goes on
  pub refused_full : ends_number a x ≡ false → 4 ≤ a.digits → step_of (address_left {R = Said} a) x ≡ refused 20
  unfolding address_left digits_from
  refused_full e h = let z : 4 - a.digits ≡ 0 = omega (arith, h) in rw z (where_no (ends_number a) _ x e)

  pub refused_digit : ends_number a x ≡ false → goes_on_dotted a x ≡ false → goes_on_grouped a x ≡ false → step_of (address_left {R = Said} a) x ≡ refused 20
  unfolding address_left digits_from
  refused_digit e f g = go (4 - a.digits)
    where
      go : (n : ℕ) → step_of (digits_from n part a) x ≡ refused 20
      go zero = where_no (ends_number a) _ x e
      go (suc n) = where_no (λ y. ends_number a y || goes_on_dotted a y || goes_on_grouped a y) _ x (rw (e, f, g) refl)

  -- ended by `<`
  pub ended_less : ends_number a x ≡ true → x ≡ 60 → step_of (address_left {R = Said} a) x ≡ on (done (source_of a))
  unfolding address_left digits_from
  ended_less e f = go (4 - a.digits)
    where
      go : (n : ℕ) → step_of (digits_from n part a) x ≡ on (done (source_of a))
      go zero = where_yes (ends_number a) _ x e ∙ rw (eq-eqb x 60 f) refl
      go (suc n) = where_yes (λ y. ends_number a y || goes_on_dotted a y || goes_on_grouped a y) _ x (rw e refl) ∙ rw (eq-eqb x 60 f) refl

  -- ended by `.` or `:`
  to_part : ends_number a x ≡ true → (x ≡ 60 → ⊥) → step_of (address_left {R = Said} a) x ≡ on (part a x)
  unfolding address_left digits_from
  to_part e f = go (4 - a.digits)
    where
      go : (n : ℕ) → step_of (digits_from n part a) x ≡ on (part a x)
      go zero = where_yes (ends_number a) _ x e ∙ rw (ne_eqb x 60 f) refl
      go (suc n) = where_yes (λ y. ends_number a y || goes_on_dotted a y || goes_on_grouped a y) _ x (rw e refl) ∙ rw (ne_eqb x 60 f, e) refl

  one_more : (v : ℕ) → length a.before < 7 → 7 - length a.before ≡ suc (7 - length (a.before ++ (v ∷ [])))
  one_more v h = omega (arith, h, length-append a.before (v ∷ []))

  part_dot : (m : ℕ) → x ≡ 46 → part_from {R = Said} (suc m) a x ≡ address_from m (next_number dotted (a.before ++ (a.ten ∷ [])))
  unfolding part_from
  part_dot m f = rw (eq-eqb x 46 f, part_from) refl

  part_colon : (m : ℕ) → (x ≡ 46 → ⊥) → part_from {R = Said} (suc m) a x ≡ address_from m (next_number grouped (a.before ++ (a.sixteen ∷ [])))
  unfolding part_from
  part_colon m f = rw (ne_eqb x 46 f, part_from) refl

  pub next_dot : ends_number a x ≡ true → x ≡ 46 → length a.before < 7 → step_of (address_left {R = Said} a) x ≡ on (address_left (next_number dotted (a.before ++ (a.ten ∷ []))))
  unfolding next_number address_left
  next_dot e f h =
      to_part e (λ q. omega (arith, f, q)) ∙ ap (λ n. on (part_from {R = Said} n a x)) (one_more a.ten h)
      ∙ ap on (part_dot _ f ∙ (address_is (7 - length (a.before ++ (a.ten ∷ []))) (next_number dotted (a.before ++ (a.ten ∷ [])))))

  pub next_colon : ends_number a x ≡ true → x ≡ 58 → length a.before < 7 → step_of (address_left {R = Said} a) x ≡ on (address_left (next_number grouped (a.before ++ (a.sixteen ∷ []))))
  unfolding next_number address_left
  next_colon e f h =
      to_part e (λ q. omega (arith, f, q)) ∙ ap (λ n. on (part_from {R = Said} n a x)) (one_more a.sixteen h)
      ∙ ap on (part_colon _ (λ q. omega (arith, f, q)) ∙ (address_is (7 - length (a.before ++ (a.sixteen ∷ []))) (next_number grouped (a.before ++ (a.sixteen ∷ [])))))

  -- a digit more
  pub digit_more : ends_number a x ≡ false → (x ≡ 60 → ⊥) → a.digits < 4 → (goes_on_dotted a x || goes_on_grouped a x) ≡ true → step_of (address_left {R = Said} a) x ≡ on (address_left (with_digit a x))
  unfolding address_left digits_from with_digit
  digit_more e f h g =
      let z : 4 - a.digits ≡ suc (4 - suc a.digits) = omega (arith, h) in
      ap (λ n. step_of (digits_from {R = Said} n part a) x) z
      ∙ where_yes (λ y. ends_number a y || goes_on_dotted a y || goes_on_grouped a y) _ x (rw e g)
      ∙ rw (ne_eqb x 60 f, e) refl
