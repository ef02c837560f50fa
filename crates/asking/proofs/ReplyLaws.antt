-- Laws of accepted answers that are read.
use mathlib.Core.Path.{◌≡◌, refl, ap, sym, ◌∙◌}
use mathlib.Core.List.{[], ◌∷◌, ◌++◌, map-append}
use mathlib.Core.Bool.{true, false}
use Prim.Native.Nat.{suc}
use lib.ListN.{length}
use Rattle.std.specs.Prelude.{if◌then◌else◌, Some, option_map}
use Rattle.octets.specs.Octets.{same}
use Rattle.lookup.specs.Lookup.{Name, Lookups, reading, Answers, names, find, run_over}
use Rattle.lookup.proofs.RunLaws.{run_same}
use Rattle.lookup.proofs.ReadingLaws.{run_reading}
use Rattle.txt.specs.declared.Reply.{Reply}
use Rattle.txt.specs.Answers.{Answer, reply}
use Rattle.asking.specs.Asking.{replies}

-- the reply for a name is the answer for it, read
find_replies : (β : Answers Answer) (n : Name) → find (replies β) n ≡ option_map reply (find β n)
unfolding replies find
find_replies [] n = refl
find_replies (p ∷ β) n =
    elim (same n p.0) as (λ t. (if t then Some (reply p.1) else find (replies β) n) ≡ option_map reply (if t then Some p.1 else find β n)) [
      | true ↦ refl
      | false ↦ find_replies β n
    ]

pub replies_append : (β γ : Answers Answer) → replies (β ++ γ) ≡ replies β ++ replies γ
unfolding replies
replies_append β γ = map-append (λ p. (p.0, reply p.1)) β γ

-- there are as many replies as names answered
pub length_replies : (β : Answers Answer) → length (replies β) ≡ length (names β)
unfolding replies names
length_replies [] = refl
length_replies (p ∷ β) = ap suc (length_replies β)

-- a program that reads each answer as it is looked at runs over the replies
pub run_replies : {A : Type 0} (β : Answers Answer) (t : Lookups Reply A) → run_over β (reading reply t) ≡ run_over (replies β) t
unfolding run_over
run_replies β t = run_reading reply (find β) t ∙ sym (run_same (find (replies β)) _ (find_replies β) t)
