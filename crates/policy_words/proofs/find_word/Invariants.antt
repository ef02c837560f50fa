-- `policy_words::find_word` meets its contract: no word that was passed is the text.
use mathlib.Core.Path.{◌≡◌}
use Prim.Native.Nat.{◌≤◌, ◌+◌, ◌-◌}
use Rattle.policy_words.specs.code.Rows.{word_place}
use Rattle.policy_words.proofs.find_word.Given as goal

abbrev pub invariant-loop-i : goal.invariant-loop-i
invariant-loop-i l = (l.first ≤ l.i) × (l.i - l.first ≤ l.last - l.first) × (word_place l.s l.first l.last ≡ l.i - l.first + word_place l.s l.i l.last)
