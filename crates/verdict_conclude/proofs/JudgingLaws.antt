-- Laws of a verdict in numbers, and of what an evaluation waits for.
use mathlib.Core.Path.{◌≡◌, ap, ◌∙◌}
use mathlib.Core.List.{List, map}
use Prim.Native.Nat.{ℕ, ◌-◌, ◌≤◌, min}
use native.Mathlib.Omega.{arith}
use lib.ListN.{length, drop, length-drop}
use Rattle.octets.specs.Octets.{Octets}
use Rattle.octets.proofs.PartLaws.{clipped}
use Rattle.lookup.specs.Lookup.{has}
use Rattle.domain.specs.declared.Octet.{Octet}
use Rattle.alignment.specs.declared.Alignment.{Alignment}
use Rattle.alignment_settle.specs.declared.Tally.{Tally}
use Rattle.alignment_stored.specs.code.Stored.{slot}
use Rattle.alignment_settle.specs.code.Tallies.{alignment_digits, tally_of}
use Rattle.alignment.specs.Numbers.{alignments_in}
use Rattle.verdict.specs.declared.Result.{Result}
use Rattle.verdict.specs.declared.AppliedPolicy.{AppliedPolicy}
use Rattle.verdict_judgement.specs.declared.Terms.{Terms}
use Rattle.verdict_judgement.specs.declared.Judged.{Judged}
use Rattle.verdict.specs.Message.{Message}
use Rattle.verdict.specs.Verdict.{result_of, result_with, verdict_of, unjudged}
use Rattle.verdict_judgement.specs.code.Judging.{stored_message, tally_result, judgement, as_numbers, Fixed, judged_standing, JudgedFixed, Concludes}
use Rattle.verdict_judgement.specs.Reading.{verdict_in}
use Rattle.verdict_cursor.specs.declared.Ruling.{Ruling}
use Rattle.verdict_cursor.specs.code.Stage.{concluded}
use Rattle.verdict_cursor.specs.code.Cursor.{read_alignment, alignments_read}
use Rattle.verdict_cursor.specs.code.Standing.{stored_at, passed_from, given_count, verdict_by}
use Rattle.verdict_conclude.proofs.TallyLaws.{packed_read, none_packed, none_judged, tallied, tally_tallied, passed_identifiers, passed_length}

module _ (m : Message) (begin : Octet) where
  -- one that is not judged
  unjudged_read : (r : Result) (p : AppliedPolicy) → verdict_in m (judgement m.support begin r p 0) ≡ unjudged m (drop begin.0 m.author) r p
  unfolding verdict_in judgement unjudged verdict_of
  unjudged_read r p = rw (none_judged m.identifiers)

  -- the one that a tally gives is the one that the alignments give
  tallied_read : (p : AppliedPolicy) (l : List Alignment) → length l ≡ length m.identifiers
      → verdict_in m (judgement m.support begin (result_with p (tally_result (tallied m.identifiers l))) p (alignment_digits l)) ≡ concluded m (drop begin.0 m.author) p l
  unfolding verdict_in judgement concluded verdict_of tallied result_of tally_result
  tallied_read p l e = rw (← e, packed_read l)

  -- its numbers are fixed where its place is in the author domain, and its digits are those of the alignments
  judgement_fixed : (r : Result) (p : AppliedPolicy) (digits : ℕ) → begin.0 ≤ length m.author → digits ≡ alignment_digits (alignments_in (length m.identifiers) digits)
      → Fixed m (judgement m.support begin r p digits)
  unfolding as_numbers verdict_in judgement
  judgement_fixed r p digits h e =
      let place : begin.0 ≡ length m.author - length (drop begin.0 m.author) = omega (arith, length-drop begin.0 m.author) in
      rw (← place, ← e)

module _ (domains : Octets) (numbers : List ℕ) (t : Terms) (at begin : Octet) (h : begin.0 ≡ min at.0 (length (slot domains numbers 0))) where
  place_clipped : drop begin.0 (slot domains numbers 0) ≡ drop at.0 (slot domains numbers 0)
  place_clipped = rw h (clipped (slot domains numbers 0) at.0)

  -- that judges no identifier
  pub concludes_none : (r : Result) (p : AppliedPolicy)
      → Concludes domains numbers t (has (unjudged (stored_message domains numbers t) (drop at.0 (slot domains numbers 0)) r p)) (Judged.Done (judgement t.support begin r p 0))
  unfolding judged_standing JudgedFixed stored_message
  concludes_none r p =
      let m = stored_message domains numbers t in
      record {
        standing = rw (← place_clipped) (ap has (unjudged_read m begin r p));
        fixed = judgement_fixed m begin r p 0 (omega arith) (none_packed _);
      }

  -- that judges each
  pub concludes_each : (stored : List ℕ) (ruling : Ruling) → ruling.begin ≡ at → (tally : Tally)
      → tally ≡ tally_of (map (λ w. (w.0, read_alignment ruling.settings (slot domains numbers 0) (stored_at stored 0) w)) (passed_from domains numbers stored 1 (given_count domains numbers t)))
      → Concludes domains numbers t (has (verdict_by domains numbers t stored ruling)) (Judged.Done (judgement t.support begin (result_with ruling.policy (tally_result tally)) ruling.policy tally.digits))
  unfolding judged_standing JudgedFixed stored_message verdict_by alignments_read given_count tallied
  concludes_each stored ruling e tally f =
      let m = stored_message domains numbers t in
      let passed = passed_from domains numbers stored 1 (min t.identifiers 16) in
      let one = read_alignment ruling.settings (slot domains numbers 0) (stored_at stored 0) in
      let long : length (map one passed) ≡ length m.identifiers = passed_length domains numbers stored one 1 (min t.identifiers 16) in
      let same : tally ≡ tallied m.identifiers (map one passed) = f ∙ tally_tallied one passed ∙ ap (λ is. tallied is (map one passed)) (passed_identifiers domains numbers stored 1 (min t.identifiers 16)) in
      let digits : tally.digits ≡ alignment_digits (map one passed) = ap (λ u. u.digits) same in
      record {
        standing = rw (e, ← place_clipped, same) (ap has (tallied_read m begin ruling.policy (map one passed) long));
        fixed = judgement_fixed m begin _ _ _ (omega arith) (rw (digits, ← long, packed_read (map one passed)));
      }
