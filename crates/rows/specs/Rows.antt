-- Daily rows of one policy domain (document 02, Ask 1; for a final dot Ask 5, for a row's two numbers Ask 9): what clearing a list and entering a
-- verdict give. "The report room wants each day's verdicts gathered".
use Rattle.std.specs.Prelude.{List, [], ◌∷◌, ◌++◌, map, Bool, false, ◌&&◌, not, ℕ, ◌+◌, eqb, leb, take, drop, if◌then◌else◌, Option, None, Some}
use Rattle.std.specs.Bool.{beq}
use Rattle.octets.specs.Octets.{Octets, is_nothing, is_set, flag, any, same, same_text, lower}
use Rattle.octets.specs.Refusing.{◌>>=◌, OrRefused, ok, not_ok, refusal, refuse_if}
use Rattle.domain.specs.Domain.{Domain, without_dot, is_domain}
use Rattle.policy.specs.declared.Policy.{Policy}
use Rattle.alignment.specs.declared.Kind.{Kind}
use Rattle.verdict.specs.declared.Result.{Result}
use Rattle.verdict.specs.declared.Disposition.{Disposition}
use Rattle.verdict.specs.Message.{Message}
use Rattle.verdict.specs.Verdict.{Verdict}
use Rattle.book.specs.Book.{method}
use Rattle.rows.specs.declared.Seen.{Seen}
use Rattle.rows.specs.declared.Row.{Row}
use Rattle.rows.specs.declared.Finding.{Finding}
use Rattle.rows.specs.declared.Entry.{Entry}
use Rattle.rows.specs.Lists.{Lists, named_by}

-- ------------------------------------------------------------------ a row

-- "a row with count 0 is free"
unfoldable pub is_free : Row → Bool
is_free r = eqb r.count 0

-- equal "source address (16 octets, IPv4 mapped), disposition, whether DKIM aligned, whether SPF aligned"; that IPv4 is mapped is the caller's to see to.
-- Ask 9: "rows match only where these are equal too", author domain and set by their places
unfoldable pub same_seen : Seen → Seen → Bool
same_seen a b =
    same a.source b.source
    && eqb a.disposition b.disposition
    && beq (is_set a.dkim) (is_set b.dkim)
    && beq (is_set a.spf) (is_set b.spf)
    && eqb a.author b.author
    && eqb a.set b.set

-- a "matching row that isn't free"
unfoldable pub is_match : Seen → Row → Bool
is_match s r = not (is_free r) && same_seen s r.seen

-- "and a message count"
unfoldable pub with_count : ℕ → Row → Row
with_count n r = record { seen = r.seen; count = n }

-- ------------------------------------------------------------------ the list

-- "Up to 256 rows are lent as one list of row records"; "Rows past the 256th are no part of the list"
unfoldable pub on_list : List Row → List Row
on_list rows = take 256 rows

unfoldable pub past_list : List Row → List Row
past_list rows = drop 256 rows

-- the first that passes a test, and the list with that one changed
unfoldable pub first : {A : Type 0} → (A → Bool) → List A → Option A
first f [] = None
first f (x ∷ xs) = if f x then Some x else first f xs

unfoldable pub change_first : {A : Type 0} → (A → Bool) → (A → A) → List A → List A
change_first f g [] = []
change_first f g (x ∷ xs) = if f x then g x ∷ xs else x ∷ change_first f g xs

-- "raises the count of its first matching row": 13 "the count would pass 4,294,967,295"
unfoldable pub raised : Seen → List Row → (matching : Row) → OrRefused (List Row)
raised s rows r =
    if leb 4294967295 r.count then not_ok (refusal 13 0) else ok (change_first (is_match s) (λ m. with_count (m.count + 1) m) rows)

-- "or takes the first free one": 12 "no free row and no match"
unfoldable pub taken : Seen → List Row → OrRefused (List Row)
taken s rows = if any is_free rows then ok (change_first is_free (λ _. record { seen = s; count = 1 }) rows) else not_ok (refusal 12 0)

unfoldable pub counted_by : Seen → List Row → Option Row → OrRefused (List Row)
counted_by s rows (Some r) = raised s rows r
counted_by s rows None = taken s rows

unfoldable pub counted : Seen → List Row → OrRefused (List Row)
counted s rows = counted_by s rows (first (is_match s) rows)

-- ------------------------------------------------------------------ a verdict, as it is entered

unfoldable pub result_number : Result → ℕ
result_number Result.None = 0
result_number Result.Pass = 1
result_number Result.Fail = 2
result_number Result.Temperror = 3
result_number Result.Permerror = 4

unfoldable pub disposition_number : Disposition → ℕ
disposition_number (Disposition.Apply Policy.None) = 0
disposition_number (Disposition.Apply Policy.Quarantine) = 1
disposition_number (Disposition.Apply Policy.Reject) = 2
disposition_number Disposition.Defer = 3

-- 14 "not a pass or fail": neither of the two defers, and a number that is not listed is neither
unfoldable pub is_judged : Finding → Bool
is_judged f =
    any (λ r. eqb f.result (result_number r)) (Result.Pass ∷ Result.Fail ∷ [])
    && any (λ p. eqb f.disposition (disposition_number (Disposition.Apply p))) (Policy.None ∷ Policy.Quarantine ∷ Policy.Reject ∷ [])

unfoldable pub seen_in : Entry → Seen
seen_in e = record {
  source = e.source;
  disposition = e.finding.disposition;
  dkim = flag (is_set e.finding.dkim);
  spf = flag (is_set e.finding.spf);
  spare = 0;
  author = e.author;
  set = e.set;
}

-- what 01's verdict says to a list; "whether DKIM aligned": whether an identifier of that kind is
unfoldable pub finding_of : Message → Verdict → Finding
finding_of m v = record {
  result = result_number v.result;
  disposition = disposition_number v.disposition;
  dkim = flag (method Kind.Dkim m v).aligned;
  spf = flag (method Kind.Spf m v).aligned;
}

-- ------------------------------------------------------------------ the two calls

-- a list: the policy domain "named when it is cleared", none before; and the rows lent
pub record Listing : Type 0 where
  pub domain : Option Domain
  pub rows : List Row

-- 27 "another policy domain, or a list never cleared"; "every domain we take" may "end in one dot, which is dropped"
unfoldable pub serves : Option Domain → Octets → Bool
serves None d = false
serves (Some named) d = same_text (without_dot d) named

-- "A day's end clears the list, its counts to 0 and no more; a bad policy domain there is refused 11"; its final dot is dropped
unfoldable pub cleared : Octets → Listing → OrRefused Listing
cleared d l = do
  _ ← refuse_if (not (is_domain (without_dot d))) (refusal 11 0)
  ok (record { domain = Some (lower (without_dot d)); rows = map (with_count 0) (on_list l.rows) ++ past_list l.rows })

-- of the verdict, the two lists and the domain of its applied record: "order 14, 27, 12, 13"; "Entering a row keeps Ask 1's order, with 28 after 27";
-- "A later number's place is 0 unless its request says more"
unfoldable pub entered : Entry → Lists → Octets → Listing → OrRefused Listing
entered e lists d l = do
  _ ← refuse_if (not (is_judged e.finding)) (refusal 14 0)
  _ ← refuse_if (not (serves l.domain d)) (refusal 27 0)
  _ ← refuse_if (is_nothing (named_by lists e.author e.set)) (refusal 28 0)
  rows ← counted (seen_in e) (on_list l.rows)
  ok (record { domain = l.domain; rows = rows ++ past_list l.rows })
