-- The program that is left of what a reader keeps; every value of it is read.
use Rattle.std.specs.Prelude.{◌≡◌, List, [], ◌∷◌, Bool, ◌&&◌, ◌||◌, ℕ, zero, suc, ◌+◌, eqb, leb, length, if◌then◌else◌, Result, Ok, Err}
use Rattle.octets.specs.Octets.{Octets, is_set, between}
use Rattle.parsing.specs.Reads.{Reads, give, ◌>>=◌}
use Rattle.parsing_steps.specs.Stepping.{Step, on, refused, step_of, shut}
use Rattle.report_form.specs.ReportForm.{Said}
use Rattle.report_form.specs.code.ReportReading.{next_number, either}
use Rattle.report_states.specs.Chain.{Open, said_open, with_source}
use Rattle.report_states.specs.Standing.{Goes, Place, Kept, arrive, from_literal, l_source_end, left_at, node_of, disposition_numbered}
use Rattle.report_source.specs.code.Sources.{source_left, five_zeros}
use Rattle.report_steps.specs.declared.Refusal.{Refusal}
use Rattle.report_steps.specs.code.Steps.{refusal_number}
use Rattle.report_kept.specs.declared.ReaderState.{ReaderState}
use Rattle.report_kept.specs.declared.Written.{Written}
use Rattle.report_kept.specs.declared.Turn.{Turn}
use Rattle.report_kept.specs.Layout.{name_in, base, listed, singles, pairs, source_in}

-- what is known of the open row
unfoldable pub known_of : ReaderState → Octets → Open
known_of s row = record {
  left = s.left;
  begin = s.begin;
  source = source_in s.kind row;
  count = s.count;
  disposition = disposition_numbered s.disposition;
  dkim = is_set s.dkim;
  spf = is_set s.spf;
  author = name_in 16 s.author row;
  identifiers = listed s.identifiers row;
  domain = name_in (base s.identifiers) s.domain row;
  selector = name_in (base s.identifiers + 253) s.selector row;
  outcome = s.outcome;
}

unfoldable pub place_of : ReaderState → Place
place_of s = record {
  node = s.node;
  which = s.which;
  at = s.at;
  length = s.length;
  label = s.label;
  value = s.value;
  some = is_set s.some;
}

-- where the open name stands; the published domain is not kept
unfoldable pub name_at : (node identifiers : ℕ) → ℕ
name_at node n = if eqb node 60 then 16 else if eqb node 62 then base n + 253 else base n

unfoldable pub so_far_in : ReaderState → Octets → Octets
so_far_in s row = if eqb s.node 59 then [] else name_in (name_at s.node s.identifiers) s.length row

unfoldable pub kept_of : ReaderState → Octets → Kept
kept_of s row = record { known = known_of s row; so_far = so_far_in s row; address = next_number either [] }

-- the numbers before the open one of an address
unfoldable pub before_in : (kind numbers : ℕ) → Octets → List ℕ
before_in kind numbers row = if eqb kind 1 then singles numbers row else pairs numbers row

-- the nodes within an identifier: of sixteen before it no text leads there
unfoldable pub within_identifier : ℕ → Bool
within_identifier node = between 24 31 node || between 48 50 node || between 61 63 node

unfoldable pub is_broken : (node identifiers : ℕ) → Bool
is_broken node n = within_identifier node && leb 16 n

unfoldable pub source_from : ReaderState → Octets → Reads Said (Unit {0})
source_from s row = source_left s.kind s.digits s.ten s.sixteen (before_in s.kind s.numbers row)
    >>= λ v. from_literal l_source_end (with_source v (known_of s row))

unfoldable pub left_in : ReaderState → Octets → Reads Said (Unit {0})
left_in s row =
    if is_broken s.node s.identifiers then shut
    else if eqb s.node 64 then source_from s row
    else left_at (node_of s.node) (place_of s) (kept_of s row)

-- the row
unfoldable pub said_in : ReaderState → Octets → Said
said_in s row = said_open (known_of s row)

-- ------------------------------------------------------------------ what is written

-- octets laid over others from a place on
unfoldable pub laid : Octets → Octets → Octets
laid [] row = row
laid (w ∷ ws) [] = []
laid (w ∷ ws) (x ∷ row) = w ∷ laid ws row

unfoldable pub laid_at : ℕ → Octets → Octets → Octets
laid_at zero ws row = laid ws row
laid_at (suc n) ws [] = []
laid_at (suc n) ws (x ∷ row) = x ∷ laid_at n ws row

unfoldable pub write : Written → Octets → Octets
write Written.Nothing row = row
write (Written.One at a) row = laid_at at (a ∷ []) row
write (Written.Two at a b) row = laid_at at (a ∷ b ∷ []) row
write (Written.Three at a b c) row = laid_at at (a ∷ b ∷ c ∷ []) row
write (Written.Four at a b c d) row = laid_at at (a ∷ b ∷ c ∷ d ∷ []) row

-- ------------------------------------------------------------------ what an octet says

-- the text goes on, a row handed out or not, or it is refused
unfoldable pub turn_step : Result Turn Refusal → Octets → Step Said (Unit {0})
turn_step (Ok t) row =
    if t.gives then on (give (said_in t.state (write t.written row)) (left_in t.state (write t.written row))) else on (left_in t.state (write t.written row))
turn_step (Err r) row = refused (refusal_number r)

-- an octet, over any octets of the row; whether five groups 0 stand before an open one is told
abbrev pub Turned : ReaderState → (five : Bool) → (x : ℕ) → Result Turn Refusal → Type 0
Turned s five x r = (row : Octets) → length row ≡ 8432 → (s.node ≡ 64 → five_zeros (before_in s.kind s.numbers row) ≡ five)
    → step_of (left_in s row) x ≡ turn_step r row

-- ------------------------------------------------------------------ states after an octet

-- at a node's start
unfoldable pub arrived : ℕ → ReaderState → ReaderState
arrived n s = record {
  taken = s.taken;
  refused = s.refused;
  value = 0;
  begin = s.begin;
  count = s.count;
  length = 0;
  left = s.left;
  ten = s.ten;
  sixteen = s.sixteen;
  node = n;
  which = 0;
  at = 0;
  label = 0;
  some = 0;
  disposition = s.disposition;
  dkim = s.dkim;
  spf = s.spf;
  kind = s.kind;
  digits = s.digits;
  numbers = s.numbers;
  author = s.author;
  identifiers = s.identifiers;
  domain = s.domain;
  selector = s.selector;
  outcome = s.outcome;
}

-- at an address's
unfoldable pub at_address : ReaderState → ReaderState
at_address s = record {
  taken = s.taken;
  refused = s.refused;
  value = 0;
  begin = s.begin;
  count = s.count;
  length = 0;
  left = s.left;
  ten = 0;
  sixteen = 0;
  node = 64;
  which = 0;
  at = 0;
  label = 0;
  some = 0;
  disposition = s.disposition;
  dkim = s.dkim;
  spf = s.spf;
  kind = 0;
  digits = 0;
  numbers = 0;
  author = s.author;
  identifiers = s.identifiers;
  domain = s.domain;
  selector = s.selector;
  outcome = s.outcome;
}

unfoldable pub further : (at : ℕ) → ReaderState → ReaderState
further at s = record {
  taken = s.taken;
  refused = s.refused;
  value = s.value;
  begin = s.begin;
  count = s.count;
  length = s.length;
  left = s.left;
  ten = s.ten;
  sixteen = s.sixteen;
  node = s.node;
  which = s.which;
  at = at;
  label = s.label;
  some = s.some;
  disposition = s.disposition;
  dkim = s.dkim;
  spf = s.spf;
  kind = s.kind;
  digits = s.digits;
  numbers = s.numbers;
  author = s.author;
  identifiers = s.identifiers;
  domain = s.domain;
  selector = s.selector;
  outcome = s.outcome;
}

unfoldable pub on_word : (which at : ℕ) → ReaderState → ReaderState
on_word which at s = record {
  taken = s.taken;
  refused = s.refused;
  value = s.value;
  begin = s.begin;
  count = s.count;
  length = s.length;
  left = s.left;
  ten = s.ten;
  sixteen = s.sixteen;
  node = s.node;
  which = which;
  at = at;
  label = s.label;
  some = s.some;
  disposition = s.disposition;
  dkim = s.dkim;
  spf = s.spf;
  kind = s.kind;
  digits = s.digits;
  numbers = s.numbers;
  author = s.author;
  identifiers = s.identifiers;
  domain = s.domain;
  selector = s.selector;
  outcome = s.outcome;
}

unfoldable pub longer : (at length label : ℕ) → ReaderState → ReaderState
longer at length label s = record {
  taken = s.taken;
  refused = s.refused;
  value = s.value;
  begin = s.begin;
  count = s.count;
  length = length;
  left = s.left;
  ten = s.ten;
  sixteen = s.sixteen;
  node = s.node;
  which = s.which;
  at = at;
  label = label;
  some = s.some;
  disposition = s.disposition;
  dkim = s.dkim;
  spf = s.spf;
  kind = s.kind;
  digits = s.digits;
  numbers = s.numbers;
  author = s.author;
  identifiers = s.identifiers;
  domain = s.domain;
  selector = s.selector;
  outcome = s.outcome;
}

unfoldable pub at_number : ℕ → ReaderState → ReaderState
at_number value s = record {
  taken = s.taken;
  refused = s.refused;
  value = value;
  begin = s.begin;
  count = s.count;
  length = s.length;
  left = s.left;
  ten = s.ten;
  sixteen = s.sixteen;
  node = s.node;
  which = s.which;
  at = s.at;
  label = s.label;
  some = 1;
  disposition = s.disposition;
  dkim = s.dkim;
  spf = s.spf;
  kind = s.kind;
  digits = s.digits;
  numbers = s.numbers;
  author = s.author;
  identifiers = s.identifiers;
  domain = s.domain;
  selector = s.selector;
  outcome = s.outcome;
}

unfoldable pub flagged : (dkim spf : ℕ) → ReaderState → ReaderState
flagged dkim spf s = record {
  taken = s.taken;
  refused = s.refused;
  value = s.value;
  begin = s.begin;
  count = s.count;
  length = s.length;
  left = s.left;
  ten = s.ten;
  sixteen = s.sixteen;
  node = s.node;
  which = s.which;
  at = s.at;
  label = s.label;
  some = s.some;
  disposition = s.disposition;
  dkim = dkim;
  spf = spf;
  kind = s.kind;
  digits = s.digits;
  numbers = s.numbers;
  author = s.author;
  identifiers = s.identifiers;
  domain = s.domain;
  selector = s.selector;
  outcome = s.outcome;
}

unfoldable pub judged : (disposition outcome left : ℕ) → ReaderState → ReaderState
judged disposition outcome left s = record {
  taken = s.taken;
  refused = s.refused;
  value = s.value;
  begin = s.begin;
  count = s.count;
  length = s.length;
  left = left;
  ten = s.ten;
  sixteen = s.sixteen;
  node = s.node;
  which = s.which;
  at = s.at;
  label = s.label;
  some = s.some;
  disposition = disposition;
  dkim = s.dkim;
  spf = s.spf;
  kind = s.kind;
  digits = s.digits;
  numbers = s.numbers;
  author = s.author;
  identifiers = s.identifiers;
  domain = s.domain;
  selector = s.selector;
  outcome = outcome;
}

unfoldable pub valued : (begin count : ℕ) → ReaderState → ReaderState
valued begin count s = record {
  taken = s.taken;
  refused = s.refused;
  value = s.value;
  begin = begin;
  count = count;
  length = s.length;
  left = s.left;
  ten = s.ten;
  sixteen = s.sixteen;
  node = s.node;
  which = s.which;
  at = s.at;
  label = s.label;
  some = s.some;
  disposition = s.disposition;
  dkim = s.dkim;
  spf = s.spf;
  kind = s.kind;
  digits = s.digits;
  numbers = s.numbers;
  author = s.author;
  identifiers = s.identifiers;
  domain = s.domain;
  selector = s.selector;
  outcome = s.outcome;
}

unfoldable pub named : (author identifiers domain selector outcome : ℕ) → ReaderState → ReaderState
named author identifiers domain selector outcome s = record {
  taken = s.taken;
  refused = s.refused;
  value = s.value;
  begin = s.begin;
  count = s.count;
  length = s.length;
  left = s.left;
  ten = s.ten;
  sixteen = s.sixteen;
  node = s.node;
  which = s.which;
  at = s.at;
  label = s.label;
  some = s.some;
  disposition = s.disposition;
  dkim = s.dkim;
  spf = s.spf;
  kind = s.kind;
  digits = s.digits;
  numbers = s.numbers;
  author = author;
  identifiers = identifiers;
  domain = domain;
  selector = selector;
  outcome = outcome;
}

unfoldable pub one_more : ReaderState → ReaderState
one_more s = record {
  taken = s.taken;
  refused = s.refused;
  value = s.value;
  begin = s.begin;
  count = s.count;
  length = s.length;
  left = s.left;
  ten = s.ten;
  sixteen = s.sixteen;
  node = s.node;
  which = s.which;
  at = s.at;
  label = s.label;
  some = s.some;
  disposition = s.disposition;
  dkim = s.dkim;
  spf = s.spf;
  kind = s.kind;
  digits = s.digits;
  numbers = s.numbers;
  author = s.author;
  identifiers = s.identifiers + 1;
  domain = 0;
  selector = 0;
  outcome = 0;
}

unfoldable pub closed_state : ReaderState → (identifiers : ℕ) → ReaderState
closed_state s n = record {
  taken = s.taken;
  refused = s.refused;
  value = s.value;
  begin = s.begin;
  count = s.count;
  length = s.length;
  left = s.left;
  ten = s.ten;
  sixteen = s.sixteen;
  node = s.node;
  which = s.which;
  at = s.at;
  label = s.label;
  some = s.some;
  disposition = s.disposition;
  dkim = s.dkim;
  spf = s.spf;
  kind = s.kind;
  digits = s.digits;
  numbers = s.numbers;
  author = s.author;
  identifiers = n;
  domain = 0;
  selector = 0;
  outcome = 0;
}

unfoldable pub on_source : (kind numbers digits ten sixteen : ℕ) → ReaderState → ReaderState
on_source kind numbers digits ten sixteen s = record {
  taken = s.taken;
  refused = s.refused;
  value = s.value;
  begin = s.begin;
  count = s.count;
  length = s.length;
  left = s.left;
  ten = ten;
  sixteen = sixteen;
  node = s.node;
  which = s.which;
  at = s.at;
  label = s.label;
  some = s.some;
  disposition = s.disposition;
  dkim = s.dkim;
  spf = s.spf;
  kind = kind;
  digits = digits;
  numbers = numbers;
  author = s.author;
  identifiers = s.identifiers;
  domain = s.domain;
  selector = s.selector;
  outcome = s.outcome;
}

unfoldable pub plain : (gives : Bool) → ReaderState → Turn
plain gives s = record { gives = gives; state = s; written = Written.Nothing }

-- the ends of the open identifier
unfoldable pub closing : ReaderState → (kind : ℕ) → Written
closing s kind = Written.Four (base s.identifiers + 506) s.domain s.selector s.outcome kind

-- what stands behind a node goes on so
abbrev pub Leaves : (s : ReaderState) → (Open → Goes) → Result Turn Refusal → Type 0
Leaves s g r = (row : Octets) → length row ≡ 8432
    → on (arrive (g (known_of s row))) ≡ turn_step r row
