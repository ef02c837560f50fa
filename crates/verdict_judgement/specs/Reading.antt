-- How a verdict in numbers is read.
use Rattle.std.specs.Prelude.{length, drop}
use Rattle.alignment.specs.Numbers.{alignments_in}
use Rattle.verdict.specs.Message.{Message}
use Rattle.verdict.specs.Verdict.{Verdict}
use Rattle.verdict_judgement.specs.declared.Judgement.{Judgement}

-- "A name or domain given by walk and place is compared as the one these mark": the domain of the applied record begins at a place of the author's
unfoldable pub verdict_in : Message → Judgement → Verdict
verdict_in m j = record {
  result = j.result;
  domain = drop j.begin.0 m.author;
  policy = j.policy;
  disposition = j.disposition;
  alignments = alignments_in (length m.identifiers) j.alignments;
}
