-- What is claimed of document 02's requests, in its order.
use Rattle.std.specs.Prelude.{◌≡◌, ◌⊎◌, ◌↔◌, Bool, true, false, ℕ, suc, ◌+◌, ◌≤◌, ◌<◌, eqb, length, take, get_or, Err, Some, None, Result as OrErr}
use mathlib.Core.List.{List, [], ◌∷◌, ◌++◌, map, flatten}
use Rattle.octets.specs.Octets.{Octets, octets, is_nothing, same_text}
use Rattle.octets.specs.Refusing.{ok, not_ok, refusal}
use Rattle.octets.specs.declared.Refusal.{Refusal}
use Rattle.lookup.specs.Lookup.{Name, value, member}
use Rattle.domain.specs.Domain.{Domain, without_dot, is_domain}
use Rattle.domain.specs.FinalDot.{FinalDot}
use Rattle.policy.specs.Repeated.{Repeated}
use Rattle.policy.specs.Records.{read_policy, rua_text}
use Rattle.policy.specs.declared.Settings.{Settings}
use Rattle.force.specs.InForce.{usable}
use Rattle.publishing.specs.Publishing.{good_rua, written_record}
use Rattle.publishing.specs.Claims.{beside, Reads}
use Rattle.publishing.specs.Numbers.{settings_in, numbers_of}
use Rattle.publishing.specs.RecordExamples.{RecordsWritten}
use Rattle.grammar.specs.Grammar.{Text, Viable, Fault}
use Rattle.reporting.specs.declared.Method.{Method}
use Rattle.reporting.specs.Field.{is_listed, field_text}
use Rattle.field.specs.Field.{dkim, spf, id_align, field_naming, repeating, any_depth}
use Rattle.field.specs.Claims.{NoRepeats}
use Rattle.field.specs.Examples.{FieldsRead}
use Rattle.field.specs.Numbers.{field_read, field_read_numbers, field_read_said}
use Rattle.field.specs.code.Reading.{read_field}
use Rattle.txt.specs.declared.Reply.{Reply}
use Rattle.txt.specs.declared.Status.{Status}
use Rattle.txt.specs.Answers.{Answer}
use Rattle.asking.specs.Asking.{standing, asked_names, replies}
use Rattle.verdict.specs.declared.Result.{Result}
use Rattle.verdict.specs.Message.{Message}
use Rattle.verdict.specs.Verdict.{Verdict, evaluate, separate_walks}
use Rattle.verdict.specs.Mending.{Mends, is_settled, failed_or_temperror, SameVerdict, Delayed, ErrorClaims}
use Rattle.verdict.specs.Stored.{numbers_stored}
use Rattle.verdict.specs.StoredExamples.{StoredExamples}
use Rattle.book.specs.Start.{GivenMessage, opening, Opened, adding, started, single_start}
use Rattle.book.specs.Book.{Call, add, opened, walks, passed_or_failed, book_answer}
use Rattle.book.specs.BookClaims.{book_after}
use Rattle.book.specs.AddingCalls.{AddingCalls}
use Rattle.book.specs.MendedCalls.{AnswersMend}
use Rattle.records.specs.Sheet.{Entry, answer_entry, entries}
use Rattle.sheet.specs.Printed.{printed}
use Rattle.sheet.specs.Dotted.{dotted}
use Rattle.rows.specs.declared.Seen.{Seen}
use Rattle.rows.specs.declared.Row.{Row}
use Rattle.rows.specs.Rows.{is_judged, finding_of, Listing, serves, cleared, on_list, past_list}
use Rattle.rows.specs.History.{clear, is_accepted, History, since_clearing, total, number}
use Rattle.rows_day.specs.declared.DayList.{DayList}
use Rattle.rows_day.specs.declared.Changed.{Changed as ListChanged}
use Rattle.rows_day.specs.Day.{domain_in, Does, Ran}
use Rattle.evaluation.specs.declared.Evaluation.{Evaluation}
use Rattle.evaluation.specs.declared.Changed.{Changed}
use Rattle.evaluation.specs.Promises.{Changes, opened_view}
use Rattle.evaluation.specs.GivenBack.{message_now}
use Rattle.evaluation.specs.MendedRuns.{Judged}
use Rattle.evaluation.specs.StoredAfter.{Left}
use Rattle.evaluation_finding.specs.declared.Found.{Found}
use Rattle.evaluation_finding.specs.code.Entering.{Finds}
use Rattle.evaluation_finding.specs.FoundRead.{found_in}
use Rattle.evaluation_finding.specs.FoundAfter.{finding_by}
use Rattle.claims.specs.Addresses.{AddressesHold}
use Rattle.claims.specs.Reports.{ReportsHold}

-- ------------------------------------------------------------------ Ask 1: daily rows

-- of every run of clearing and entering, from a list that was never cleared on
pub record RowsHold : Type 0 where
  -- "the sum of all counts equals the number of verdicts accepted since the list was cleared, that number taken from the history of calls"
  pub sum : (first last : DayList) (before after : List Row) (h : History)
      → domain_in first ≡ None → Ran first before h last after → is_nothing (domain_in last) ≡ false
      → total (λ _. true) (on_list after) ≡ length (since_clearing [] h)
  -- "and so each disposition's total"
  pub by_disposition : (first last : DayList) (before after : List Row) (h : History)
      → domain_in first ≡ None → Ran first before h last after → is_nothing (domain_in last) ≡ false
      → (d : ℕ) → total (λ s. eqb d s.disposition) (on_list after) ≡ number (λ s. eqb d s.disposition) (since_clearing [] h)
  -- and the total of whatever else rows are told apart by
  pub by_any : (first last : DayList) (before after : List Row) (h : History)
      → domain_in first ≡ None → Ran first before h last after → is_nothing (domain_in last) ≡ false
      → (f : Seen → Bool) → total f (on_list after) ≡ number f (since_clearing [] h)
  -- "Rows past the 256th are no part of the list and not touched", and none is lost
  pub past_untouched : (first last : DayList) (before after : List Row) (h : History) → Ran first before h last after → past_list after ≡ past_list before
  pub as_many_rows : (first last : DayList) (before after : List Row) (h : History) → Ran first before h last after → length after ≡ length before
  -- "A day's end clears the list, its counts to 0 and no more"
  pub day_end_counts : (d : Domain) (list : DayList) (before : List Row) (r : ListChanged) (after : List Row)
      → Does (clear d) list before r after → is_accepted r.refusal ≡ true → map (λ r. r.count) (on_list after) ≡ map (λ _. 0) (on_list before)
  pub day_end_no_more : (d : Domain) (list : DayList) (before : List Row) (r : ListChanged) (after : List Row)
      → Does (clear d) list before r after → is_accepted r.refusal ≡ true → map (λ r. r.seen) after ≡ map (λ r. r.seen) before
  -- "14 not a pass or fail": of every message and all answers, exactly there
  pub judged_exactly : (m : Message) (α : Name → Reply) → is_judged (finding_of m (value α (evaluate m))) ≡ passed_or_failed (value α (evaluate m)).result
  -- "One list serves one policy domain, named when it is cleared"
  pub serves_named : (d : Octets) (before after : Listing) → cleared d before ≡ ok after → (x : Octets) → serves after.domain x ≡ same_text (without_dot x) (without_dot d)
  -- "each day's verdicts": after every list of calls, refused ones too, what is entered is the book's verdict
  pub finds_the_book : (author : Octets) (existence support : ℕ) (before : Evaluation) (r : Changed) → Changes before (opened_view (opening author existence support)) r
      → (m : Message) → opening author existence support ≡ ok m
      → (cs : List Call) (e : Evaluation) → Left r.evaluation cs e
      → (f : OrErr Found Refusal) → Finds e f → found_in (message_now e) f ≡ finding_by (book_after m cs).message (standing (walks (book_after m cs)) (book_after m cs).run)

-- ------------------------------------------------------------------ Ask 4: writing policy records

pub record RecordsHold : Type 0 where
  -- "Reading what was written gives back the same settings"
  pub reads_back : (s : Settings) (rua text : Octets) → written_record s rua ≡ ok text → Reads text (beside rua s) rua
  -- "Reading any usable record whose rua refusal 16 allows, and writing it, gives a text with the same settings"
  pub same_settings : (old : Octets) (s : Settings) → read_policy old ≡ Some s → usable s ≡ true → good_rua (rua_text old) ≡ true
      → (new : Octets) × (written_record s (rua_text old) ≡ ok new) × Reads new s (rua_text old)
  -- "and doing so again changes no octet"
  pub no_octet : (old new : Octets) (s again : Settings) → read_policy old ≡ Some s → written_record s (rua_text old) ≡ ok new
      → read_policy new ≡ Some again → written_record again (rua_text new) ≡ ok new
  -- settings by numbers, handed out and handed in again, are the same
  pub numbers_back : (s : Settings) → settings_in (numbers_of s) ≡ beside [] s
  -- "`v=DMARC1`, then p, sp, np, adkim, aspf, psd, t, rua in that order ..": computed
  pub records_written : RecordsWritten

-- ------------------------------------------------------------------ Ask 5: a final dot

pub record DotsHold : Type 0 where
  -- "end in one dot, which is dropped": that one alone, whatever stands before it
  pub one_dropped : (d : Domain) → without_dot (d ++ octets ".") ≡ d
  -- nothing is dropped from a domain that keeps the rule
  pub none_to_drop : (d : Domain) → is_domain d ≡ true → without_dot d ≡ d
  -- "every domain we take": with the dot, an opening and an adding are what they are without
  pub author_dot : (d : Domain) → is_domain d ≡ true → (existence support : ℕ) → opening (d ++ octets ".") existence support ≡ opening d existence support
  pub identifier_dot : (d : Domain) → is_domain d ≡ true → (m : Message) (kind outcome : ℕ)
      → adding m (record { kind = kind; outcome = outcome; domain = d ++ octets "." }) ≡ adding m (record { kind = kind; outcome = outcome; domain = d })
  -- "one name in demand 3's list": no name of it ends in a dot, and an answer for it does the same if a dot is put to it
  pub no_dot_asked : (m : Message) (cs : List Call) → Opened m → (n : Name) → member n (asked_names (book_after m cs).run) ≡ true → without_dot n ≡ n
  pub answer_dot : (m : Message) (cs : List Call) → Opened m → (n : Name) → (book_after m cs).run.asked ≡ Some n → (status : Status) (bytes scratch : Octets)
      → book_answer (book_after m cs) (n ++ octets ".") status bytes scratch ≡ book_answer (book_after m cs) n status bytes scratch
  -- "on a sheet both answered is refusal 8": each is kept without the dot, so they are one name
  pub sheet_dot : (sheet : Octets) (a b : List Entry) (n : Octets) (s : Status) (x : Octets) → entries sheet ≡ ok (a ++ answer_entry n s x ∷ b) → without_dot n ≡ n
  -- computed
  pub dots_judged : FinalDot
  pub dotted_sheets : map (λ r. printed (flatten r.sheet)) dotted ≡ map (λ r. flatten (map octets r.text)) dotted

-- ------------------------------------------------------------------ Ask 6: what an error can do

-- of every message, and two sets of answers of which the second mends the first
pub record ErrorsHold : Type 0 where
  -- "If the first set gives none, pass, fail or permerror, the second gives the same result, policy and disposition"
  pub same : (m : Message) (α β : Name → Answer) → Mends α β → is_settled (value α (separate_walks m)).result ≡ true → SameVerdict (value α (separate_walks m)) (value β (separate_walks m))
  -- so only temperror changes
  pub delayed : (m : Message) (α β : Name → Answer) → Mends α β → Delayed (value α (separate_walks m)) (value β (separate_walks m))
  -- and a message that fails over the real answers never passes, nor gets none or permerror, because a lookup failed
  pub fails : (m : Message) (α β : Name → Answer) → Mends α β → (value β (separate_walks m)).result ≡ Result.Fail → failed_or_temperror (value α (separate_walks m)).result ≡ true
  -- the same of two runs of the calls themselves
  pub of_calls : (m n : Message) (cs ds : List Call) → (book_after m cs).message ≡ (book_after n ds).message → AnswersMend (book_after m cs).run.taken (book_after n ds).run.taken
      → (v w : Verdict) → Judged m cs v → Judged n ds w → ErrorClaims v w

-- ------------------------------------------------------------------ Ask 12: reading the field

-- of every text
pub record FieldsHold : Type 0 where
  -- "What is accepted is exactly that grammar within that depth, read as the methods it names"
  pub accepted_exactly : (text : Octets) (d s : Bool) → (read_field text ≡ ok (record { dkim = d; spf = s })) ↔ Text (field_naming 8 d s) text
  -- "24 not the grammar, .., at the first octet it can't have there (the length if the text ends early)"
  pub refused_24 : (text : Octets) (p : ℕ) → read_field text ≡ not_ok (refusal 24 p) → Fault (id_align (any_depth text)) text p
  -- "repeats and depth aside": the grammar at any depth has no other front parts of the text
  pub depth_aside : (text : Octets) (n k : ℕ) → Viable (id_align n) (take k text) → Viable (id_align (any_depth text)) (take k text)
  -- "25 at the ninth parenthesis open at once": the grammar within eight can't have that octet, the grammar can
  pub refused_25 : (text : Octets) (p : ℕ) → read_field text ≡ not_ok (refusal 25 p)
      → (p < length text) × (get_or text p 0 ≡ 40) × Fault (id_align 8) text p × Viable (id_align (any_depth text)) (take (suc p) text)
  -- "26 where a method already read, spelled whole again, begins"
  pub refused_26 : (text : Octets) (p : ℕ) → read_field text ≡ not_ok (refusal 26 p)
      → ((p + 4 ≤ length text) × Text (repeating (any_depth text) dkim) (take (p + 4) text))
      ⊎ ((p + 3 ≤ length text) × Text (repeating (any_depth text) spf) (take (p + 3) text))
  pub no_other_number : (text : Octets) (r : Refusal) → read_field text ≡ not_ok r → (r.number ≡ 24) ⊎ (r.number ≡ 25) ⊎ (r.number ≡ 26)
  -- "the earliest is given": up to its place the text begins a field within eight, and no method is spelled again
  pub earliest : (text : Octets) (r : Refusal) → read_field text ≡ not_ok r
      → Viable (id_align 8) (take r.place text) × NoRepeats (any_depth text) (take r.place text)
  -- "so every field we write reads back as its own"
  pub field_reads_back : (dkim spf : Method) → read_field (field_text dkim spf) ≡ ok (record { dkim = is_listed dkim; spf = is_listed spf })
  -- what the reader answers says it: by numbers nothing is lost, and a refused field never reads as `none`
  pub field_numbers_say : (text : Octets) → field_read_said (field_read_numbers (field_read text)) ≡ field_read text
  pub refused_names_both : (r : Refusal) → field_read_numbers (Err r) ≡ record { refusal = r; dkim = 1; spf = 1 }
  -- computed
  pub fields_read : FieldsRead

-- ------------------------------------------------------------------ all requests that have landed, but Ask 10

-- Ask 3 is a promise of code alone: `Passes` (`domain/specs/OnePass.antt`), of every domain
pub record RequestsHold : Type 0 where
  pub daily_rows : RowsHold
  -- Ask 2, computed
  pub repeated_tags : Repeated
  pub written_records : RecordsHold
  pub final_dots : DotsHold
  pub errors : ErrorsHold
  -- Ask 7: "after every later answer the stored one equals the one worked out afresh. While a walk is open, or after an error in it, nothing is
  -- stored and the state says so": of every walk, after every list of calls
  pub stored_afresh : (author : Octets) (existence support : ℕ) (before : Evaluation) (r : Changed) → Changes before (opened_view (opening author existence support)) r
      → (m : Message) → opening author existence support ≡ ok m
      → (cs : List Call) (e : Evaluation) → Left r.evaluation cs e
      → (walk : ℕ) → get_or e.stored walk 0 ≡ get_or (numbers_stored (replies (book_after m cs).run.taken) (book_after m cs).message) walk 0
  pub stored_examples : StoredExamples
  -- Ask 8: "Opening and adding in order gives the state that the single start gave", its first refusal too
  pub as_the_single_start : (g : GivenMessage) → started g ≡ single_start g
  pub same_state : (g : GivenMessage) (m n : Message) → opening g.author g.existence g.support ≡ ok m → single_start g ≡ ok n
      → book_after m (map add g.identifiers) ≡ opened n
  pub adding_calls : AddingCalls
  pub aggregate_reports : ReportsHold
  pub read_fields : FieldsHold
  pub outside_addresses : AddressesHold
