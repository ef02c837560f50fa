-- Where a word leads, by its node's number and its place among the node's words.
use Rattle.std.specs.Prelude.{◌≡◌, [], ◌∷◌, Bool, false, ℕ, ◌-◌, ◌≤◌, ◌<◌, eqb, get_or, if◌then◌else◌, Result}
use Rattle.octets.specs.Octets.{flag, between}
use Rattle.report_states.specs.Standing.{Word, w_more, word_goes}
use Rattle.report_words.specs.code.Table.{word_nodes}
use Rattle.report_steps.specs.declared.Refusal.{Refusal}
use Rattle.report_kept.specs.declared.ReaderState.{ReaderState}
use Rattle.report_kept.specs.declared.Turn.{Turn}
use Rattle.report_kept.specs.code.View.{is_broken, Turned, Leaves, flagged, judged}

unfoldable pub word_of : ℕ → Word
word_of n = get_or word_nodes (n - 36) w_more

-- the number of a node's first word, and how many it has
unfoldable pub first_number : ℕ → ℕ
first_number n = get_or (36 ∷ 38 ∷ 41 ∷ 44 ∷ 47 ∷ 49 ∷ 52 ∷ 54 ∷ 56 ∷ 58 ∷ 62 ∷ 64 ∷ 66 ∷ 69 ∷ 72 ∷ 75 ∷ []) (n - 36) 0

unfoldable pub word_count : ℕ → ℕ
word_count n = get_or (2 ∷ 3 ∷ 3 ∷ 3 ∷ 2 ∷ 3 ∷ 2 ∷ 2 ∷ 2 ∷ 4 ∷ 2 ∷ 2 ∷ 3 ∷ 3 ∷ 3 ∷ 2 ∷ []) (n - 36) 0

-- the nodes whose words have one octet
unfoldable pub is_single : ℕ → Bool
is_single n = between 42 44 n

-- where most lead
unfoldable pub plain_next : ℕ → ℕ
plain_next n = get_or (0 ∷ 8 ∷ 0 ∷ 9 ∷ 0 ∷ 10 ∷ 11 ∷ 12 ∷ 13 ∷ 17 ∷ 19 ∷ 22 ∷ 0 ∷ 28 ∷ 31 ∷ 0 ∷ []) (n - 36) 0

unfoldable pub by_place : (k first second third : ℕ) → ℕ
by_place k first second third = if eqb k 0 then first else if eqb k 1 then second else third

-- a record more
unfoldable pub one_record : (k : ℕ) → ReaderState → ReaderState
one_record k s = if eqb k 0 then judged s.disposition s.outcome (s.left - 1) s else s

unfoldable pub word_next : (node k : ℕ) → ℕ
word_next n k =
    if eqb n 36 then (if eqb k 0 then 54 else 55)
    else if eqb n 38 then (if eqb k 0 then 39 else if eqb k 1 then 41 else 42)
    else if eqb n 40 then (if eqb k 0 then 41 else 42)
    else if eqb n 48 then (if eqb k 0 then 25 else if eqb k 1 then 29 else 33)
    else if eqb n 51 then (if eqb k 0 then 14 else 65)
    else plain_next n

-- what is known then
unfoldable pub chosen_by : (node k : ℕ) → ReaderState → ReaderState
chosen_by n k s =
    if eqb n 45 then judged k s.outcome s.left s
    else if eqb n 46 then flagged (flag (eqb k 1)) s.spf s
    else if eqb n 47 then flagged s.dkim (flag (eqb k 1)) s
    else if eqb n 49 then judged s.disposition k s.left s
    else if eqb n 50 then judged s.disposition k s.left s
    else if eqb n 51 then one_record k s
    else s

-- behind a word, and an octet of one
abbrev pub LeavesWord : ReaderState → (k : ℕ) → Result Turn Refusal → Type 0
LeavesWord s k r = 36 ≤ s.node → s.node < 52 → is_broken s.node s.identifiers ≡ false → Leaves s (λ o. word_goes (word_of s.node) o k) r

abbrev pub BeginsWord : ReaderState → (x : ℕ) → Result Turn Refusal → Type 0
BeginsWord s x r = s.which ≡ 0 → 36 ≤ s.node → s.node < 52 → is_broken s.node s.identifiers ≡ false → Turned s false x r

abbrev pub TurnsWord : ReaderState → (x : ℕ) → Result Turn Refusal → Type 0
TurnsWord s x r = 36 ≤ s.node → s.node < 52 → is_broken s.node s.identifiers ≡ false → Turned s false x r
