-- The form of an aggregate report: the texts that Ask 9 writes, "begin and end judged apart", and what their rows say.
use Rattle.std.specs.Prelude.{◌≡◌, Bool, true, ◌&&◌, not, ℕ, ◌-◌, ◌/◌, ◌%◌, ◌^◌, eqb, leb, length, if◌then◌else◌}
use mathlib.Core.List.{List, ◌∷◌, [], ◌++◌, map, flatten}
use Rattle.octets.specs.Octets.{Octets, is_empty, is_nothing, is_set, all, same, between, lower}
use Rattle.domain.specs.Domain.{Domain, is_domain}
use Rattle.policy.specs.declared.Policy.{Policy}
use Rattle.policy.specs.declared.Settings.{Settings}
use Rattle.reporting.specs.FileName.{good_id}
use Rattle.rows.specs.declared.Row.{Row}
use Rattle.rows.specs.Lists.{Reported, good_set}
use Rattle.report.specs.Report.{Reporter, row_policy, Line, report_text, good_texts, good_line}

-- ------------------------------------------------------------------ a row, as a report says it

-- "its domain and identifiers in place of the two numbers"
pub record Said : Type 0 where
  pub source : Octets
  pub count : ℕ
  pub disposition : Policy
  pub dkim : Bool
  pub spf : Bool
  pub author : Domain
  pub identifiers : List Reported

-- "domains and selectors as it spells them"
unfoldable pub said_dkim : Reported → List Reported
said_dkim i = if eqb i.kind 1 then record { kind = 1; outcome = i.outcome; selector = lower i.selector; domain = lower i.domain } ∷ [] else []

-- "SPF without selector"
unfoldable pub said_spf : Reported → List Reported
said_spf i = if eqb i.kind 0 then record { kind = 0; outcome = i.outcome; selector = []; domain = lower i.domain } ∷ [] else []

-- "DKIM before SPF"
unfoldable pub said_identifiers : List Reported → List Reported
said_identifiers is = flatten (map said_dkim is) ++ flatten (map said_spf is)

unfoldable pub said : Line → Said
said l = record {
  source = l.row.seen.source;
  count = l.row.count;
  disposition = row_policy l.row.seen.disposition;
  dkim = is_set l.row.seen.dkim;
  spf = is_set l.row.seen.spf;
  author = lower l.names.author;
  identifiers = said_identifiers l.names.identifiers;
}

-- ------------------------------------------------------------------ a source's sixteen octets

-- "IPv4 mapped": ten octets 0, two 255, before the four of a dotted address
unfoldable pub mapped : Octets
mapped = 0 ∷ 0 ∷ 0 ∷ 0 ∷ 0 ∷ 0 ∷ 0 ∷ 0 ∷ 0 ∷ 0 ∷ 255 ∷ 255 ∷ []

-- those of eight groups
unfoldable pub group_octets : List ℕ → Octets
group_octets [] = []
group_octets (g ∷ gs) = (g / 256) ∷ (g % 256) ∷ group_octets gs

-- ------------------------------------------------------------------ what Ask 9 does not refuse

-- the most that begin and end can be, and a count
pub record Widths : Type 0 where
  pub times : ℕ
  pub counts : ℕ

-- 64 bits, and "4,294,967,295"
abbrev pub widths : Widths
widths = record { times = 2 ^ 64 - 1; counts = 2 ^ 32 - 1 }

-- a row with a count, its numbers within their widths
unfoldable pub good_row : Widths → Row → Bool
good_row ws r = eqb (length r.seen.source) 16 && all (between 0 255) r.seen.source && between 1 ws.counts r.count

-- 28 "a set that 01 would refuse 3 or 4", and 11
unfoldable pub good_entry : Widths → Line → Bool
good_entry ws l = good_row ws l.row && not (is_nothing (good_set l.names.identifiers)) && good_line l

-- one row with a count or more, 256 at most
unfoldable pub good_lines : Widths → List Line → Bool
good_lines ws ls = not (is_empty ls) && leb (length ls) 256 && all (good_entry ws) ls

-- the list's domain, in lower case as it was cleared; 19; and 11 "begin and end judged apart"
unfoldable pub good_front : Widths → Domain → Reporter → Bool
good_front ws d by =
    is_domain d && same (lower d) d && good_texts by.organization by.email by.contact && good_id by.id
    && leb by.begin ws.times && leb by.end ws.times

-- what is written
pub record Writing : Type 0 where
  pub domain : Domain
  pub settings : Settings
  pub reporter : Reporter
  pub lines : List Line

unfoldable pub text_of : Writing → Octets
text_of w = report_text w.domain w.settings w.reporter w.lines

unfoldable pub good : Widths → Writing → Bool
good ws w = good_front ws w.domain w.reporter && good_lines ws w.lines

-- a text of "the form that Ask 9 writes from any rows"
abbrev pub Form : Widths → Octets → Type 0
Form ws s = (w : Writing) × (good ws w ≡ true) × (text_of w ≡ s)

-- whether some such text begins so
abbrev pub Begins : Widths → Octets → Type 0
Begins ws s = (rest : Octets) × Form ws (s ++ rest)
