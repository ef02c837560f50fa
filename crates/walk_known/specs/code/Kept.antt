-- Answers that were accepted, kept as numbers: where each one's target lies in the stored domains, and what it said.
use Rattle.std.specs.Prelude.{List, [], ◌∷◌, ℕ, zero, suc, if◌then◌else◌, Some, Option}
use Rattle.octets.specs.Octets.{Octets, part_of}
use Rattle.lookup.specs.Lookup.{Answers, Name, find}
use Rattle.domain.specs.Domain.{Domain, can_ask, asked_name}
use Rattle.txt.specs.declared.Reply.{Reply}
use Rattle.txt_codes.specs.code.Codes.{reply_of}

-- ------------------------------------------------------------------ kept answers

-- each as three numbers: where its target begins and ends in the stored domains, and the reply
unfoldable pub kept_answers : (domains : Octets) → (count : ℕ) → List ℕ → Answers Reply
kept_answers domains zero kept = []
kept_answers domains (suc n) [] = []
kept_answers domains (suc n) (from ∷ []) = []
kept_answers domains (suc n) (from ∷ end ∷ []) = []
kept_answers domains (suc n) (from ∷ end ∷ code ∷ kept) = (asked_name (part_of domains from end), reply_of code) ∷ kept_answers domains n kept

-- what is known of a name
unfoldable pub known : (domains : Octets) → (count : ℕ) → List ℕ → Name → Option Reply
known domains count kept n = find (kept_answers domains count kept) n

-- what is known of a target: one too long to ask has no record
unfoldable pub looked_at : Answers Reply → Domain → Option Reply
looked_at β t = if can_ask t then find β (asked_name t) else Some Reply.NoRecord
