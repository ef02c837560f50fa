-- Laws of a reader's state where a node begins.
use mathlib.Core.Path.{◌≡◌, refl, sym, ap, ◌∙◌}
use mathlib.Core.List.{[], ◌∷◌, ◌++◌}
use mathlib.Core.Bool.{Bool, true, false}
use Prim.Native.Nat.{ℕ, zero, suc, ◌+◌, ◌≤◌, ◌<◌}
use native.Mathlib.Omega.{arith}
use lib.Dec.{eqb}
use lib.ListN.{length, length-append}
use borrow.Author.Tests.{eq-eqb, ne_eqb}
use Rattle.std.specs.Prelude.{if◌then◌else◌, Some, Ok}
use Rattle.octets.specs.Octets.{Octets, is_set, between}
use Rattle.parsing.specs.Reads.{give, ◌>>=◌}
use Rattle.parsing_steps.specs.Stepping.{on, shut}
use Rattle.report_form.specs.code.ReportReading.{next_number, either}
use Rattle.report_states.specs.Chain.{Open, said_open, with_source, with_identifiers, with_signature, with_sender, without_open}
use Rattle.report_states.specs.Standing.{Goes, address_node, from_literal, l_source_end, from, by, handed, arrive, left_at, address_left, node_of, disposition_numbered, start, kept_new}
use Rattle.report_states.proofs.NodeLaws.{start_law}
use Rattle.report_source.specs.code.Sources.{limit, fits_kind, is_sound, source_left}
use Rattle.report_address.specs.code.Addresses.{kind_of, address_of}
use Rattle.report_kept.specs.declared.ReaderState.{ReaderState}
use Rattle.report_kept.specs.Layout.{name_in, base, identifier_at, listed, pairs, source_in}
use Rattle.report_kept.proofs.WriteLaws.{name_front, source_front, listed_more}
use Rattle.report_kept.specs.code.View.{known_of, place_of, name_at, so_far_in, kept_of, before_in, within_identifier, is_broken, source_from, left_in, said_in, write, turn_step, Leaves, closing, arrived, at_address, one_more, plain}

no_name : (b : Bool) (at : ℕ) (row : Octets) → (if b then [] else name_in at 0 row) ≡ []
unfolding name_in
no_name true at row = refl
no_name false at row = refl

-- the program that is left, by what is told of the node
pub left_other : (s : ReaderState) (row : Octets) → is_broken s.node s.identifiers ≡ false → (s.node ≡ 64 → ⊥) → left_in s row ≡ left_at (node_of s.node) (place_of s) (kept_of s row)
unfolding left_in
left_other s row h e = rw (h, ne_eqb s.node 64 e)

calm_address : (n i : ℕ) → n ≡ 64 → is_broken n i ≡ false
unfolding is_broken within_identifier between
calm_address n i e = rw e refl

pub left_source : (s : ReaderState) (row : Octets) → s.node ≡ 64 → left_in s row ≡ source_from s row
unfolding left_in
left_source s row e = rw (calm_address s.node s.identifiers e, eq-eqb s.node 64 e)

pub left_broken : (s : ReaderState) (row : Octets) → is_broken s.node s.identifiers ≡ true → left_in s row ≡ shut
unfolding left_in
left_broken s row h = rw h

-- at a node's start, the program from there
pub lands : (n : ℕ) (s : ReaderState) (row : Octets) → is_broken n s.identifiers ≡ false → (n ≡ 64 → ⊥) → left_in (arrived n s) row ≡ from (node_of n) (known_of s row)
unfolding arrived place_of kept_of so_far_in known_of start kept_new is_set
lands n s row h e =
    left_other (arrived n s) row h e
    ∙ ap (λ z. left_at (node_of n) (start n) (record { known = known_of s row; so_far = z; address = next_number either [] })) (no_name (eqb n 59) (name_at n s.identifiers) row)
    ∙ start_law (node_of n) n (known_of s row)

-- at an address's
none_left : source_left 0 0 0 0 [] ≡ address_left (next_number either [])
unfolding source_left is_sound fits_kind limit address_of kind_of next_number
none_left = refl

pub lands_address : (s : ReaderState) (row : Octets) → left_in (at_address s) row ≡ from address_node (known_of s row)
unfolding at_address source_from before_in pairs known_of with_source left_at kept_new
lands_address s row =
    left_source (at_address s) row refl
    ∙ ap (λ t. t >>= λ v. from_literal l_source_end (with_source v (known_of s row))) none_left
    ∙ start_law address_node 64 (known_of s row)

-- ------------------------------------------------------------------ behind a node

-- it leads to a node, with what is known then
pub leaves_to : (s s' : ReaderState) (g : Open → Goes) (n : ℕ) → ((row : Octets) → g (known_of s row) ≡ by (node_of n) (known_of s' row))
    → is_broken n s'.identifiers ≡ false → (n ≡ 64 → ⊥) → Leaves s g (Ok (plain false (arrived n s')))
unfolding plain turn_step arrive by handed write
leaves_to s s' g n e h f row l = ap (λ z. on (arrive z)) (e row) ∙ ap on (sym (lands n s' row h f))

pub leaves_to_address : (s : ReaderState) (g : Open → Goes) → ((row : Octets) → g (known_of s row) ≡ by address_node (known_of s row)) → Leaves s g (Ok (plain false (at_address s)))
unfolding plain turn_step arrive by handed write
leaves_to_address s g e row l = ap (λ z. on (arrive z)) (e row) ∙ ap on (sym (lands_address s row))

-- a row is handed out there
pub leaves_with_row : (s : ReaderState) (g : Open → Goes) (n : ℕ) → ((row : Octets) → g (known_of s row) ≡ record { row = Some (said_open (known_of s row)); known = known_of s row; node = node_of n })
    → is_broken n s.identifiers ≡ false → (n ≡ 64 → ⊥) → Leaves s g (Ok (plain true (arrived n s)))
unfolding plain turn_step arrive handed write said_in arrived known_of
leaves_with_row s g n e h f row l = ap (λ z. on (arrive z)) (e row) ∙ ap (λ t. on (give (said_open (known_of s row)) t)) (sym (lands n s row h f))

-- ------------------------------------------------------------------ an identifier more

pub listed_length : (n : ℕ) (row : Octets) → length (listed n row) ≡ n
unfolding listed
listed_length zero row = refl
listed_length (suc n) row = length-append (listed n row) (identifier_at (base n) row ∷ []) ∙ (let e = listed_length n row in omega (arith, e))

module _ (s : ReaderState) (kind : ℕ) where
  abbrev ends : Octets
  ends = s.domain ∷ s.selector ∷ s.outcome ∷ kind ∷ []

  module _ (row : Octets) (h : s.identifiers < 16) (l : length row ≡ 8432) where
    abbrev to : ℕ
    to = base s.identifiers + 506

    room : base s.identifiers + 510 ≤ length row
    unfolding base
    room = omega (arith, h, l)

    far : 16 + 253 ≤ to
    unfolding base
    far = omega arith

    same_source : source_in s.kind (write (closing s kind) row) ≡ source_in s.kind row
    unfolding write closing
    same_source = source_front s.kind to ends row (omega (arith, far))

    same_author : name_in 16 s.author (write (closing s kind) row) ≡ name_in 16 s.author row
    unfolding write closing
    same_author = name_front 16 s.author to ends row far

    same_list : listed (s.identifiers + 1) (write (closing s kind) row)
        ≡ listed s.identifiers row ++ (record { kind = kind; outcome = s.outcome; selector = if eqb kind 1 then name_in (base s.identifiers + 253) s.selector row else []; domain = name_in (base s.identifiers) s.domain row } ∷ [])
    unfolding write closing
    same_list = listed_more s.identifiers s.domain s.selector s.outcome kind row room

    closed_known : known_of (one_more s) (write (closing s kind) row) ≡ without_open (with_identifiers (listed s.identifiers row
        ++ (record { kind = kind; outcome = s.outcome; selector = if eqb kind 1 then name_in (base s.identifiers + 253) s.selector row else []; domain = name_in (base s.identifiers) s.domain row } ∷ [])) (known_of s row))
    unfolding known_of one_more without_open with_identifiers name_in
    closed_known = λ j. record {
      left = s.left;
      begin = s.begin;
      source = same_source j;
      count = s.count;
      disposition = disposition_numbered s.disposition;
      dkim = is_set s.dkim;
      spf = is_set s.spf;
      author = same_author j;
      identifiers = same_list j;
      domain = [];
      selector = [];
      outcome = 0;
    }

pub closes_signature : (s : ReaderState) (row : Octets) → s.identifiers < 16 → length row ≡ 8432 → known_of (one_more s) (write (closing s 1) row) ≡ with_signature (known_of s row)
unfolding with_signature known_of
closes_signature s row h l = closed_known s 1 row h l

pub closes_sender : (s : ReaderState) (row : Octets) → s.identifiers < 16 → length row ≡ 8432 → known_of (one_more s) (write (closing s 0) row) ≡ with_sender (known_of s row)
unfolding with_sender known_of
closes_sender s row h l = closed_known s 0 row h l

-- behind an identifier
pub leaves_closed : (s : ReaderState) (kind : ℕ) (g : Open → Goes) (n : ℕ) → ((row : Octets) → length row ≡ 8432 → g (known_of s row) ≡ by (node_of n) (known_of (one_more s) (write (closing s kind) row)))
    → is_broken n (s.identifiers + 1) ≡ false → (n ≡ 64 → ⊥) → Leaves s g (Ok (record { gives = false; state = arrived n (one_more s); written = closing s kind }))
unfolding turn_step arrive by handed one_more
leaves_closed s kind g n e h f row l = ap (λ z. on (arrive z)) (e row l) ∙ ap on (sym (lands n (one_more s) (write (closing s kind) row) h f))
