-- `verdict_compare::compare` meets its contract. The loop's invariant: comparing from the first walk on, with what was stored, is comparing from `walk` on, with what is stored.
use mathlib.Core.Path.{◌≡◌}
use Prim.Native.Nat.{◌+◌, ◌≤◌}
use lib.ListN.{get_or}
use Rattle.walk_known.specs.code.Kept.{kept_answers}
use Rattle.verdict_judgement.specs.declared.Terms.{Terms}
use Rattle.verdict_cursor.specs.code.Standing.{NoneFrom, given_count}
use Rattle.verdict_compare.proofs.ComparingLaws.{comparing}
use Rattle.verdict_compare.proofs.compare.Given as goal

abbrev pub invariant-loop-walk : goal.invariant-loop-walk
invariant-loop-walk l = (l.last ≤ 16) × (1 ≤ l.walk) × (l.walk ≤ l.last + 1) × (l.author ≡ get_or l.stored 0 0) × (NoneFrom l.initial.walk l.initial.stored → NoneFrom l.walk l.stored)
    × ((t : Terms) → l.last ≡ given_count l.domains l.numbers t
    → comparing l.domains l.numbers t (kept_answers l.domains l.count l.kept) l.ruling l.initial.stored l.initial.walk ≡ comparing l.domains l.numbers t (kept_answers l.domains l.count l.kept) l.ruling l.stored l.walk)
