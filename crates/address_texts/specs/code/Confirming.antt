-- What the texts of an answer say at the confirming name, as code finds it.
use Rattle.std.specs.Prelude.{◌≡◌, false, Result, Ok, Err, Some}
use mathlib.Core.List.{List, ◌++◌, flatten}
use Rattle.octets.specs.Octets.{Octets}
use Rattle.domain.specs.Domain.{Domain}
use Rattle.txt.specs.Answers.{Answer, texts_of}
use Rattle.txt.specs.Taking.{taken, left_after}
use Rattle.address.specs.declared.Agreement.{Agreement}
use Rattle.address.specs.Address.{agreement, confirmation}
use Rattle.txt.specs.declared.Reply.{Reply}
use Rattle.octets.specs.declared.Refusal.{Refusal}

-- of a readable answer whose texts stand at the front of the scratch
abbrev pub JudgesTexts : (bytes scratch : Octets) → (host : Domain) → Agreement → Type 0
JudgesTexts bytes scratch h r = (ts : List Octets) (m : Octets) → texts_of 16 bytes ≡ Some ts → scratch ≡ flatten ts ++ m → r ≡ agreement h 0 false ts

-- refused as every answer is; else what it says
unfoldable pub confirming_of : Domain → Answer → Result Reply Refusal → Result Agreement Refusal
confirming_of h a (Ok r) = Ok (confirmation h a)
confirming_of h a (Err f) = Err f

pub record TakesConfirming (a : Answer) (h : Domain) (before : Octets) (r : Result Agreement Refusal) (after : Octets) : Type 0 where
  pub answers : r ≡ confirming_of h a (taken a before)
  pub leaves : after ≡ left_after a before
