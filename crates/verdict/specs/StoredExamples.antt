-- What is stored of one message's walks, answer by answer (document 02, Ask 7).
use Rattle.std.specs.Prelude.{◌≡◌, List, [], ◌∷◌, ◌++◌, false, ℕ}
use Prim.Native.String.{String}
use Rattle.octets.specs.Octets.{octets}
use Rattle.lookup.specs.Lookup.{Answers}
use Rattle.domain.specs.Domain.{asked_name}
use Rattle.policy.specs.declared.Policy.{Policy}
use Rattle.policy.specs.declared.Setting.{Setting}
use Rattle.policy.specs.declared.Mode.{Mode}
use Rattle.policy.specs.declared.Psd.{Psd}
use Rattle.policy.specs.declared.Settings.{Settings}
use Rattle.txt.specs.declared.Reply.{Reply}
use Rattle.alignment.specs.declared.Kind.{Kind}
use Rattle.alignment.specs.declared.Outcome.{Outcome}
use Rattle.alignment.specs.Alignments.{Identifier}
use Rattle.verdict.specs.declared.Existence.{Existence}
use Rattle.verdict.specs.Message.{Message}
use Rattle.verdict.specs.Stored.{numbers_stored}

abbrev plain : Settings
plain = record { p = Setting.Set Policy.None; sp = Setting.Absent; np = Setting.Absent; adkim = Mode.Relaxed; aspf = Mode.Relaxed; psd = Psd.Unset; t = false; reports = false }

abbrev signed : String → Identifier
signed d = record { kind = Kind.Dkim; outcome = Outcome.Pass; domain = octets d }

-- the second needs no walk: it equals the author's
abbrev message : Message
message = record { author = octets "m.o.x"; existence = Existence.Exists; support = false; identifiers = signed "k.o.x" ∷ signed "m.o.x" ∷ signed "p.q" ∷ signed "o.x" ∷ [] }

abbrev at : String → Reply → Answers Reply
at d r = (asked_name (octets d), r) ∷ []

-- the author's walk: a record at o.x alone
abbrev walked : Answers Reply
walked = at "m.o.x" Reply.NoRecord ++ at "o.x" (Reply.Record plain) ++ at "x" Reply.NoRecord

abbrev stored : Answers Reply → List ℕ
stored β = numbers_stored β message

pub record StoredExamples : Type 0 where
  pub not_begun : stored [] ≡ []
  pub still_open : stored (at "m.o.x" Reply.NoRecord ++ at "o.x" (Reply.Record plain)) ≡ []
  -- o.x begins at 2 in m.o.x
  pub ended : stored walked ≡ 4 ∷ []
  -- k.o.x is walked; p.q is open; the walk of o.x, which lacks no answer, has not begun
  pub in_order : stored (walked ++ at "k.o.x" Reply.NoRecord) ≡ 4 ∷ 4 ∷ 0 ∷ []
  pub failed : stored (walked ++ at "k.o.x" Reply.NoRecord ++ at "p.q" Reply.Error) ≡ 4 ∷ 4 ∷ 0 ∷ 1 ∷ 2 ∷ []
  -- an error in the author's walk, before a record applies and after: no identifier is walked
  pub author_failed : stored (at "m.o.x" Reply.Error) ≡ 1 ∷ []
  pub completing_failed : stored (at "m.o.x" (Reply.Record plain) ++ at "o.x" Reply.Error ++ at "k.o.x" Reply.NoRecord) ≡ 1 ∷ []
