-- What is claimed of a sheet that is not broken: readings that look right and are not.
use Rattle.std.specs.Prelude.{◌≡◌, List, ◌∷◌, ◌++◌, false, ◌≤◌, length}
use Rattle.octets.specs.Octets.{Octets, same_text}
use Rattle.octets.specs.Refusing.{ok}
use Rattle.domain.specs.Domain.{without_dot}
use Rattle.txt.specs.declared.Status.{Status}
use Rattle.records.specs.Sheet.{Entry, answer_entry, entries}

pub record SheetClaims : Type 0 where
  -- "over 65,536 octets" is broken, whatever its records
  pub limit : (sheet : Octets) (rs : List Entry) → entries sheet ≡ ok rs → length sheet ≤ 65536
  -- "one name answered twice" is broken, also where it is written in another case
  pub twice : (sheet : Octets) (a b c : List Entry) (m n : Octets) (s u : Status) (x y : Octets)
      → entries sheet ≡ ok (a ++ answer_entry m s x ∷ (b ++ answer_entry n u y ∷ c)) → same_text m n ≡ false
  -- "`example.com` and `example.com.` .. on a sheet both answered is refusal 8": each is kept without the dot, so they are one name
  pub no_dot : (sheet : Octets) (a b : List Entry) (n : Octets) (s : Status) (x : Octets)
      → entries sheet ≡ ok (a ++ answer_entry n s x ∷ b) → without_dot n ≡ n
