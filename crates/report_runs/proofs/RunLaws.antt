-- Laws of runs within a literal, a word or a name, and of the octet that ends it.
use mathlib.Core.Path.{◌≡◌, refl, sym, ap, ◌∙◌, subst}
use mathlib.Core.List.{List, [], ◌∷◌, flatten}
use mathlib.Core.Bool.{Bool, true, false}
use Prim.Native.Nat.{ℕ, zero, suc, ◌+◌, ◌-◌, ◌≤◌, ◌<◌}
use native.Mathlib.Omega.{arith}
use lib.Dec.{eqb}
use lib.ListN.{length, take, get_or}
use borrow.Author.Tests.{ne_eqb}
use Rattle.octets.specs.Octets.{Octets}
use Rattle.octets_pieces.specs.code.Pieces.{piece, starts}
use Rattle.octets_pieces.proofs.PieceLaws.{word_piece}
use Rattle.parsing_steps.specs.Stepping.{step_of, behind}
use Rattle.report_form.specs.ReportForm.{Said}
use Rattle.std.specs.Prelude.{Option, None, Some, Result, Ok, Err}
use Rattle.report_steps.specs.declared.Leaf.{Leaf}
use Rattle.report_steps.specs.declared.Refusal.{Refusal}
use Rattle.report_leaves.specs.declared.NamePlace.{NamePlace as Place}
use Rattle.report_leaves.specs.code.Leaves.{said, Names, NameTurns}
use Rattle.report_words.specs.code.Table.{texts}
use Rattle.report_kept.specs.declared.ReaderState.{ReaderState}
use Rattle.report_kept.specs.declared.Written.{Written}
use Rattle.report_kept.specs.declared.Turn.{Turn}
use Rattle.report_kept.specs.code.View.{is_broken, name_at, laid, laid_at, write, Turned, Leaves, arrived, plain, further, on_word, longer}
use Rattle.report_states.specs.Standing.{literal_goes}
use Rattle.report_literals.specs.code.Literals.{literal_of, next_number_of}
use Rattle.report_literals.proofs.LiteralLaws as literal
use Rattle.report_choices.specs.code.Choices.{first_number, word_count}
use Rattle.report_choices.proofs.ChoiceLaws as word
use Rattle.report_names.specs.code.Names.{NamePlace}
use Rattle.report_names.proofs.NameTurns.{name_kept, name_ended, name_stands}
use Rattle.report_taken.specs.code.Taking.{largest, Takes, KnowsFive, counted}
use Rattle.report_taken.proofs.TakeLaws.{takes_on}
use Rattle.report_runs.specs.declared.Run.{Run}
use Rattle.report_runs.specs.declared.NameRun.{NameRun}
use Rattle.report_runs.specs.code.Runs.{far, onward, Held, Advances, Longer, GoesOn, Ended, Matches, LeadsOn, LeavesPiece, OpenText, OpenPiece, AtEnd, EndsPiece, IsTable, OpenName, AtNameEnd, EndsName, Copied, RunsName}
use Rattle.report_runs.proofs.HeldLaws.{held_first, held_octet}

-- ------------------------------------------------------------------ a state that has not moved

pub stays : (s : ReaderState) → s.refused ≡ 0 → onward s.taken s.at s.length s.label s ≡ s
unfolding onward
stays s e = λ j. record {
  taken = s.taken;
  refused = sym e j;
  value = s.value;
  begin = s.begin;
  count = s.count;
  length = s.length;
  left = s.left;
  ten = s.ten;
  sixteen = s.sixteen;
  node = s.node;
  which = s.which;
  at = s.at;
  label = s.label;
  some = s.some;
  disposition = s.disposition;
  dkim = s.dkim;
  spf = s.spf;
  kind = s.kind;
  digits = s.digits;
  numbers = s.numbers;
  author = s.author;
  identifiers = s.identifiers;
  domain = s.domain;
  selector = s.selector;
  outcome = s.outcome;
}

-- ------------------------------------------------------------------ one octet that goes on

module _ (s : ReaderState) (apart : s.node < 64) (taken at length label at_after length_after label_after x : ℕ) (w : Written) (few : taken < largest) where
  abbrev before : ReaderState
  before = onward taken at length label s

  abbrev after : ReaderState
  after = onward taken at_after length_after label_after s

  pub takes_octet : Turned before false x (Ok (record { gives = false; state = after; written = w })) → (row : Octets)
      → Takes before x row (record { gives = false; state = onward (taken + 1) at_after length_after label_after s }) (write w row)
  unfolding onward counted
  takes_octet turned row =
      takes_on before false x row (λ q. absurd (omega (arith, q, apart))) refl few (record { gives = false; state = after; written = w }) turned
      (onward (taken + 1) at_after length_after label_after s) (write w row) refl refl

-- ------------------------------------------------------------------ a literal or a word

module _ (s : ReaderState) (rest row : Octets) (calm : s.refused ≡ 0) (text : Octets) (it : OpenText s text) where
  abbrev behind_octets : ℕ → ReaderState
  behind_octets k = onward (s.taken + k) (s.at + k) s.length s.label s

  held_piece : (k : ℕ) → s.taken + k ≤ largest → k ≤ length rest → ((j : ℕ) → j < k → GoesOn text (s.at + j) (get_or rest j 0)) → Held s rest row (behind_octets k) row k
  unfolding plain write
  held_piece zero few within each =
      let none : s.taken ≡ s.taken + 0 = omega arith in
      let nowhere : s.at ≡ s.at + 0 = omega arith in
      subst (λ t. Held s rest row t row 0) (sym (stays s calm) ∙ (λ j. onward (none j) (nowhere j) s.length s.label s)) (held_first s rest row)
  held_piece (suc k) few within each =
      let so_far = held_piece k (omega (arith, few)) (omega (arith, within)) (λ j h. each j (omega (arith, h))) in
      let turned = it.goes (s.taken + k) (s.at + k) (get_or rest k 0) (each k (omega arith)) in
      let took = takes_octet s it.apart (s.taken + k) (s.at + k) s.length s.label (s.at + k + 1) s.length s.label (get_or rest k 0) Written.Nothing (omega (arith, few)) turned row in
      let octets : s.taken + k + 1 ≡ s.taken + suc k = omega arith in
      let place : s.at + k + 1 ≡ s.at + suc k = omega arith in
      let one : k + 1 ≡ suc k = omega arith in
      let held = held_octet s rest row (behind_octets k) row k so_far (omega (arith, within)) _ row took refl in
      subst (λ n. Held s rest row (behind_octets (suc k)) row n) one (subst (λ t. Held s rest row t row (k + 1)) (λ j. onward (octets j) (place j) s.length s.label s) held)

-- the table's text
pub of_table : (all : Octets) (begins : List ℕ) (n : ℕ) (text : Octets) → IsTable all begins → text ≡ piece all begins n → text ≡ get_or texts n []
of_table all begins n text (e, f) g = g ∙ (λ j. piece (e j) (f j) n) ∙ word_piece texts n

piece_end : (s : ReaderState) (text : Octets) (taken at : ℕ) → OpenText s text → AtEnd text (onward taken at s.length s.label s)
unfolding onward
piece_end s text taken at it = (it.apart, refl, it.ends taken at)

pub piece_runs : (all : Octets) (begins : List ℕ) (s : ReaderState) (rest row : Octets) (n k : ℕ) (text : Octets) (t : ReaderState) (r : Run) (after : Octets)
    → s.taken < far → OpenPiece s (Some n) → text ≡ piece all begins n → Matches text s.at rest k
    → t ≡ onward (s.taken + k) (s.at + k) s.length s.label s → EndsPiece text (record { used = k; state = t }) rest row r after
    → IsTable all begins → Advances s rest row r after
unfolding largest OpenPiece
piece_runs all begins s rest row n k text t r after less is_open e m f ends table calm =
    let it = subst (OpenText s) (sym (of_table all begins n text table e)) is_open in
    let held = subst (λ u. Held s rest row u row k) (sym f) (held_piece s rest row calm text it k (omega (arith, less, m.few)) m.within m.each) in
    let (room, longer) = ends (subst (AtEnd text) (sym f) (piece_end s text (s.taken + k) (s.at + k) it)) m.within in
    (room, longer s row held)

pub none_runs : (s : ReaderState) (rest row : Octets) → Advances s rest row (record { used = 0; state = s }) row
none_runs s rest row calm = (omega arith, held_first s rest row)

-- ------------------------------------------------------------------ which piece is open

pub literal_open : (s : ReaderState) → s.node < 36 → is_broken s.node s.identifiers ≡ false → OpenPiece s (Some s.node)
unfolding onward further plain OpenPiece
literal_open s h calm = record {
  apart = omega (arith, h);
  goes = λ taken at x on. literal.turns_on (onward taken at s.length s.label s) h calm x on;
  ends = λ taken at x r ended leaves. literal.turns_ended (onward taken at s.length s.label s) h calm x r ended (leaves.0 h calm);
}

pub word_open : (s : ReaderState) (n : ℕ) → 36 ≤ s.node → s.node < 52 → is_broken s.node s.identifiers ≡ false → (s.which ≡ 0 → ⊥) → s.which ≤ word_count s.node
    → n ≡ first_number s.node + (s.which - 1) → OpenPiece s (Some n)
unfolding onward on_word plain OpenPiece
word_open s n h l calm begun room e = record {
  apart = omega (arith, l);
  goes = λ taken at x on. word.turns_on (onward taken at s.length s.label s) h l calm (s.which - 1) (omega (arith, begun)) room x (subst (λ m. GoesOn (get_or texts m []) at x) e on);
  ends = λ taken at x r ended leaves.
      word.turns_ended (onward taken at s.length s.label s) h l calm (s.which - 1) (omega (arith, begun)) room x r (subst (λ m. Ended (get_or texts m []) at x) e ended) (leaves.1 begun h l calm);
}

-- the literals that only lead on are more than these
pub leads_on : (s : ReaderState) (r : Turn) → 22 ≤ s.node → s.node < 28 → LeadsOn s r → LeavesPiece s (Ok r)
unfolding literal.is_plain
leads_on s r a b e = ((λ h calm. subst (λ t. Leaves s (literal_goes (literal_of s.node)) (Ok t)) (sym e) (literal.leaves_plain s h calm only)), λ some h l calm. absurd (omega (arith, b, h)))
  where
    only : literal.is_plain s.node ≡ true
    only = rw (
      ne_eqb s.node 14 (λ q. omega (arith, q, a)),
      ne_eqb s.node 18 (λ q. omega (arith, q, a)),
      ne_eqb s.node 20 (λ q. omega (arith, q, a)),
      ne_eqb s.node 21 (λ q. omega (arith, q, a)),
      ne_eqb s.node 28 (λ q. omega (arith, q, b)),
      ne_eqb s.node 31 (λ q. omega (arith, q, b)),
      ne_eqb s.node 33 (λ q. omega (arith, q, b)),
    ) refl

-- ------------------------------------------------------------------ a match of one octet more

module _ (text : Octets) (at : ℕ) (rest : Octets) where
  abbrev pub Each : ℕ → Type 0
  Each k = (j : ℕ) → j < k → GoesOn text (at + j) (get_or rest j 0)

  pub each_none : Each 0
  each_none j h = absurd (omega (arith, h))

  pub each_more : (k : ℕ) → Each k → GoesOn text (at + k) (get_or rest k 0) → Each (k + 1)
  each_more k e g j h = go (k - j) refl
    where
      go : (d : ℕ) → k - j ≡ d → GoesOn text (at + j) (get_or rest j 0)
      go zero q = let same : k ≡ j = omega (arith, h, q) in subst (λ i. GoesOn text (at + i) (get_or rest i 0)) same g
      go (suc d) q = e j (omega (arith, q))

-- ------------------------------------------------------------------ a name

pub name_open : (s : ReaderState) (place : ℕ) → 60 ≤ s.node → s.node < 64 → is_broken s.node s.identifiers ≡ false → NamePlace s.node s.identifiers place → OpenName s place
unfolding onward longer
name_open s place h l calm stands = record {
  apart = l;
  goes = λ taken length label x q names more.
      let t = onward taken s.at length label s in
      let other : s.node ≡ 59 → ⊥ = (λ q. omega (arith, q, h)) in
      let here : place ≡ name_at s.node s.identifiers = stands.1 (name_stands s (omega (arith, h)) l calm other) in
      subst
      (λ p. Turned t false x (Ok (record { gives = false; state = onward taken s.at q.length q.label s; written = Written.One (p + length) x })))
      (sym here)
      (name_kept t (omega (arith, h)) l calm x q names more other);
  ends = λ taken length label x names. name_ended (onward taken s.at length label s) (omega (arith, h)) l calm x names;
}

module _ (size₀ label₀ place : ℕ) (rest row : Octets) where
  -- behind some octets of it, of every reader at its beginning
  pub record Named (r : NameRun) (now : Octets) : Type 0 where
    pub few : r.used ≤ 253
    pub within : r.used ≤ length rest
    pub held : (s : ReaderState) → s.length ≡ size₀ → s.label ≡ label₀ → OpenName s place → s.taken < far → s.refused ≡ 0
        → Held s rest row (onward (s.taken + r.used) s.at r.length r.label s) now r.used

  pub named_first : Named (record { used = 0; length = size₀; label = label₀ }) row
  named_first = record { few = omega arith; within = omega arith; held = first }
    where
      first : (s : ReaderState) → s.length ≡ size₀ → s.label ≡ label₀ → OpenName s place → s.taken < far → s.refused ≡ 0 → Held s rest row (onward (s.taken + 0) s.at size₀ label₀ s) row 0
      first s e f is_open less calm =
          let none : s.taken ≡ s.taken + 0 = omega arith in
          subst (λ t. Held s rest row t row 0) (sym (stays s calm) ∙ (λ j. onward (none j) s.at (e j) (f j) s)) (held_first s rest row)

  pub named_more : (r : NameRun) (q : Place) (x k : ℕ) (now later : Octets) → Named r now → k ≡ r.used → k < 253 → k < length rest → x ≡ get_or rest k 0
      → NameTurns r.length r.label x (Ok (Leaf.More q)) → later ≡ laid_at (place + r.length) (x ∷ []) now
      → Named (record { used = k + 1; length = q.length; label = q.label }) later
  unfolding largest write
  named_more r q x k now later so_far at few within is turns put =
      subst (λ u. Named (record { used = u + 1; length = q.length; label = q.label }) later) (sym at)
      (record { few = omega (arith, few, at); within = omega (arith, within, at); held = more })
    where
      more : (s : ReaderState) → s.length ≡ size₀ → s.label ≡ label₀ → OpenName s place → s.taken < far → s.refused ≡ 0
          → Held s rest row (onward (s.taken + (r.used + 1)) s.at q.length q.label s) later (r.used + 1)
      more s e f is_open less calm =
          let w = Written.One (place + r.length) x in
          let here = onward (s.taken + r.used) s.at r.length r.label s in
          let onto = laid_at (place + r.length) (x ∷ []) now in
          let took = takes_octet s is_open.apart (s.taken + r.used) s.at r.length r.label s.at q.length q.label x w (omega (arith, less, few, at))
          (is_open.goes (s.taken + r.used) r.length r.label x q turns.0 (turns.1 q refl)) now in
          let octets : s.taken + r.used + 1 ≡ s.taken + (r.used + 1) = omega arith in
          let there : x ≡ get_or rest r.used 0 = is ∙ ap (λ i. get_or rest i 0) at in
          let moved = held_octet s rest row here now r.used (so_far.held s e f is_open less calm) (omega (arith, within, at)) _ onto
          (subst (λ y. Takes here y now (record { gives = false; state = onward (s.taken + r.used + 1) s.at q.length q.label s }) onto) there took) refl in
          subst (λ (l : Octets). Held s rest row (onward (s.taken + (r.used + 1)) s.at q.length q.label s) l (r.used + 1)) (sym put)
          (subst (λ t. Held s rest row t onto (r.used + 1)) (λ j. onward (octets j) s.at q.length q.label s) moved)

  pub named_so_far : (r : NameRun) (now : Octets) → Named r now → RunsName size₀ label₀ place rest row r now
  named_so_far r now so_far = (so_far.few, λ s e f is_open less. record { within = so_far.within; held = so_far.held s e f is_open less })

name_end : (s : ReaderState) (place taken length label : ℕ) → OpenName s place → AtNameEnd (onward taken s.at length label s)
unfolding onward
name_end s place taken length label it = (it.apart, refl, λ x. it.ends taken length label x)

pub name_runs : (s : ReaderState) (place : ℕ) (rest row : Octets) (q : NameRun) (now : Octets) (t : ReaderState) (r : Run) → RunsName s.length s.label place rest row q now
    → OpenName s place → s.taken < far → t ≡ onward (s.taken + q.used) s.at q.length q.label s → EndsName (record { used = q.used; state = t }) rest r → Advances s rest row r now
name_runs s place rest row q now t r run is_open less e ends calm =
    let it = run.1 s refl refl is_open less in
    let held = subst (λ u. Held s rest row u now q.used) (sym e) (it.held calm) in
    let (room, longer) = ends (subst AtNameEnd (sym e) (name_end s place (s.taken + q.used) q.length q.label is_open)) now it.within in
    (room, longer s row held)

-- ------------------------------------------------------------------ an octet behind a run

pub none_longer : (q : Run) (rest row : Octets) → Longer q rest row q row
none_longer q rest row room = (room, λ s row₀ held. held)

module _ (q : Run) (rest row : Octets) (within : q.used < length rest) (r : Turn) (turned : Turned q.state false (get_or rest q.used 0) (Ok r)) (apart : q.state.node < 64) (calm : q.state.refused ≡ 0) (few : q.state.taken < largest) where
  pub octet_longer : r.gives ≡ false → (t : ReaderState) (after : Octets) → t ≡ counted (q.state.taken + 1) r.state → after ≡ write r.written row
      → Longer q rest row (record { used = q.used + 1; state = t }) after
  octet_longer quiet t after e f room = (
    omega (arith, within),
    λ s row₀ held.
        held_octet s rest row₀ q.state row q.used held within (record { gives = r.gives; state = t }) after
        (takes_on q.state false (get_or rest q.used 0) row (λ i. absurd (omega (arith, i, apart))) calm few r turned t after e f)
        quiet,
  )

-- ------------------------------------------------------------------ as the code says them

pub matched : (text : Octets) (at : ℕ) (rest : Octets) (k : ℕ) → k ≤ 116 → at + k ≤ 255 → k ≤ length rest → Each text at rest k → Matches text at rest k
matched text at rest k few room within each = record { few = few; room = room; within = within; each = each }

pub counts_on : (s t : ReaderState) (taken at length label : ℕ) → t ≡ onward taken at length label s → taken < largest → t.taken < largest
unfolding onward
counts_on s t taken at length label e h = subst (λ u. u.taken < largest) (sym e) h

pub led_by : (s t : ReaderState) (n : ℕ) (r : Turn) → r ≡ plain false t → t ≡ arrived n s → n ≡ next_number_of s.node s.disposition s.dkim s.identifiers s.left → LeadsOn s r
led_by s t n r e f g = e ∙ ap (plain false) (f ∙ ap (λ m. arrived m s) g)
