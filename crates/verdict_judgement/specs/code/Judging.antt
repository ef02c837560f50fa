-- How a stored message and a verdict in numbers are read.
use Rattle.std.specs.Prelude.{◌≡◌, List, Bool, ◌||◌, ℕ, ◌-◌, min, length, drop, if◌then◌else◌}
use Rattle.octets.specs.Octets.{Octets}
use Rattle.lookup.specs.Lookup.{Standing, needs, has}
use Rattle.domain.specs.declared.Octet.{Octet}
use Rattle.domain.specs.Domain.{asked_name}
use Rattle.alignment_stored.specs.code.Stored.{slot, stored_identifiers}
use Rattle.alignment_settle.specs.declared.Tally.{Tally}
use Rattle.alignment_settle.specs.code.Tallies.{alignment_digits}
use Rattle.verdict.specs.declared.Result.{Result}
use Rattle.verdict.specs.declared.AppliedPolicy.{AppliedPolicy}
use Rattle.verdict.specs.Message.{Message}
use Rattle.verdict.specs.Verdict.{disposition_of, Verdict}
use Rattle.verdict_judgement.specs.Reading.{verdict_in}
use Rattle.verdict_judgement.specs.declared.Terms.{Terms}
use Rattle.verdict_judgement.specs.declared.Judgement.{Judgement}
use Rattle.verdict_judgement.specs.declared.Judged.{Judged}

-- the message that is stored
unfoldable pub stored_message : Octets → List ℕ → Terms → Message
stored_message domains numbers t = record {
  author = slot domains numbers 0;
  existence = t.existence;
  support = t.support;
  identifiers = stored_identifiers domains numbers 1 (min t.identifiers 16);
}

-- ------------------------------------------------------------------ the verdict

-- d, of a tally
unfoldable pub tally_result : Tally → Result
tally_result t = if t.aligned then Result.Pass else if t.unknown || t.temporary then Result.Temperror else Result.Fail

unfoldable pub judgement : (support : Bool) → (begin : Octet) → Result → AppliedPolicy → (alignments : ℕ) → Judgement
judgement support begin r p digits = record {
  result = r;
  begin = begin;
  policy = p;
  disposition = disposition_of support p r;
  alignments = digits;
}

-- the numbers of a verdict: where its domain begins in the author domain, and its alignments' digits
unfoldable pub as_numbers : Message → Verdict → Judgement
as_numbers m v = record {
  result = v.result;
  begin = record { 0 = length m.author - length v.domain };
  policy = v.policy;
  disposition = v.disposition;
  alignments = alignment_digits v.alignments;
}

-- numbers that are those of the verdict that they say, so that the verdict leaves none of them open
abbrev pub Fixed : Message → Judgement → Type 0
Fixed m j = j ≡ as_numbers m (verdict_in m j)

-- a target is marked by its walk, and by where it begins in that walk's domain
unfoldable pub judged_standing : Octets → List ℕ → Terms → Judged → Standing Verdict
judged_standing domains numbers t (Judged.Missing walk place) = needs (asked_name (drop place.0 (slot domains numbers walk)))
judged_standing domains numbers t (Judged.Done j) = has (verdict_in (stored_message domains numbers t) j)

unfoldable pub JudgedFixed : Message → Judged → Type 0
JudgedFixed m (Judged.Missing walk place) = Unit
JudgedFixed m (Judged.Done j) = Fixed m j

-- the promise of code that comes to a verdict where a run stands
pub record Concludes (domains : Octets) (numbers : List ℕ) (t : Terms) (u : Standing Verdict) (r : Judged) : Type 0 where
  pub standing : judged_standing domains numbers t r ≡ u
  pub fixed : JudgedFixed (stored_message domains numbers t) r
