-- Laws of one octet of a source address, as it changes a reader's state and its row.
use mathlib.Core.Path.{◌≡◌, refl, sym, ap, ◌∙◌, subst}
use mathlib.Core.List.{List, [], ◌∷◌, ◌++◌, append_assoc}
use mathlib.Core.Logic.{◌⊎◌, inl, inr}
use mathlib.Core.Bool.{Bool, true, false, false≢true}
use Prim.Native.Nat.{ℕ, zero, suc, ◌+◌, ◌*◌, ◌-◌, ◌/◌, ◌%◌, ◌≤◌, ◌<◌}
use native.Mathlib.Omega.{arith}
use lib.Dec.{eqb}
use lib.ListN.{length, length-append, get_or}
use borrow.Author.Tests.{eq-eqb, ne_eqb, eqb-true, eqb-false, le-leb, lt-leb}
use Rattle.std.specs.Prelude.{if◌then◌else◌, Result, Ok, Err}
use Rattle.report_steps.specs.declared.Refusal.{Refusal}
use Rattle.report_steps.specs.code.Steps.{refusal_number}
use Rattle.report_kept.specs.declared.Written.{Written}
use Rattle.report_source.specs.declared.OpenNumber.{OpenNumber}
use Rattle.octets.specs.Octets.{Octets, is_set, between}
use Rattle.parsing.specs.Reads.{Reads, ◌>>=◌, octet_where}
use Rattle.parsing_steps.specs.Stepping.{on, refused, step_of, takes, then_on}
use Rattle.parsing_steps.proofs.StepLaws.{step_bind, done_on}
use Rattle.report_form.specs.ReportForm.{Said, mapped, group_octets}
use Rattle.report_form.specs.code.ReportReading.{Address, grouped, last_number, is_last, source_of, digits_from}
use Rattle.report_states.specs.Chain.{with_source}
use Rattle.report_states.specs.Standing.{from, nodes, node_of, from_literal, l_source_end, part_from, address_left, disposition_numbered}
use Rattle.report_address.specs.code.Addresses.{kind_of, address_of}
use Rattle.report_source.specs.code.Sources.{is_sound, no_octet, source_left, five_zeros, source_turn, Sources, number_told, Turns}
use Rattle.report_source.specs.declared.SourceTurn.{SourceTurn}
use Rattle.report_origin.specs.code.Origins.{octet_put, group_put, source_ended, source_next, TurnsSource}
use Rattle.report_kept.specs.declared.ReaderState.{ReaderState}
use Rattle.report_kept.specs.Layout.{base, singles, pairs, source_in}
use Rattle.report_kept.specs.code.View.{known_of, before_in, source_from, left_in, laid_at, write, turn_step, Turned, within_identifier, is_broken, arrived, on_source, plain}
use Rattle.report_kept.proofs.ArriveLaws.{left_source, lands}
use Rattle.report_kept.proofs.WriteLaws.{name_back, listed_back, single_more, pair_more}

-- ------------------------------------------------------------------ the numbers before the open one

singles_length : (n : ℕ) (row : Octets) → length (singles n row) ≡ n
unfolding singles
singles_length zero row = refl
singles_length (suc n) row = length-append (singles n row) (get_or row (12 + n) 0 ∷ []) ∙ (let e = singles_length n row in omega (arith, e))

pairs_length : (n : ℕ) (row : Octets) → length (pairs n row) ≡ n
unfolding pairs
pairs_length zero row = refl
pairs_length (suc n) row = length-append (pairs n row) ((get_or row (2 * n) 0 * 256 + get_or row (2 * n + 1) 0) ∷ []) ∙ (let e = pairs_length n row in omega (arith, e))

pub before_length : (kind n : ℕ) (row : Octets) → length (before_in kind n row) ≡ n
unfolding before_in
before_length kind n row = go (eqb kind 1)
  where
    go : (b : Bool) → length (if b then singles n row else pairs n row) ≡ n
    go true = singles_length n row
    go false = pairs_length n row

-- ------------------------------------------------------------------ what is left takes an octet

takes_digits : (n : ℕ) (part : Address → ℕ → Reads Said Octets) (a : Address) → takes (digits_from n part a) ≡ true
unfolding takes digits_from octet_where
takes_digits zero part a = refl
takes_digits (suc n) part a = refl

takes_source : (kind digits ten sixteen : ℕ) (before : List ℕ) → takes (source_left kind digits ten sixteen before) ≡ true
unfolding source_left address_left address_of takes no_octet octet_where
takes_source kind digits ten sixteen before = go (is_sound kind (length before) digits ten sixteen)
  where
    go : (b : Bool) → takes (if b then address_left (address_of kind digits ten sixteen before) else no_octet) ≡ true
    go true = takes_digits (4 - digits) (part_from (7 - length before)) (address_of kind digits ten sixteen before)
    go false = refl

module _ (s : ReaderState) (is : s.node ≡ 64) where
  abbrev before : Octets → List ℕ
  before row = before_in s.kind s.numbers row

  abbrev behind : Octets → Octets → Reads Said (Unit {0})
  behind row v = from_literal l_source_end (with_source v (known_of s row))

  -- an octet of the address, and what stands behind it
  source_step : (x : ℕ) (row : Octets) → step_of (left_in s row) x ≡ then_on (step_of (source_left s.kind s.digits s.ten s.sixteen (before row)) x) (behind row)
  unfolding source_from
  source_step x row =
      ap (λ t. step_of t x) (left_source s row is)
      ∙ step_bind (source_left s.kind s.digits s.ten s.sixteen (before row)) (behind row) x (takes_source s.kind s.digits s.ten s.sixteen (before row))

  -- a digit more
  pub origin_more : (five : Bool) (x kind digits ten sixteen value : ℕ) → Sources s.kind s.numbers five s.digits s.ten s.sixteen x 0 kind digits ten sixteen value → eqb kind 1 ≡ eqb s.kind 1
      → Turned s five x (Ok (plain false (on_source kind s.numbers digits ten sixteen s)))
  unfolding plain write turn_step source_turn then_on source_from known_of with_source on_source before_in
  origin_more five x kind digits ten sixteen value e same row l f =
      source_step x row
      ∙ ap (λ t. then_on t (behind row)) (e (before row) (before_length s.kind s.numbers row) (f is))
      ∙ (λ j. on (source_left kind digits ten sixteen (if sym same j then singles s.numbers row else pairs s.numbers row) >>= behind row))
      ∙ ap on (sym (left_source (on_source kind s.numbers digits ten sixteen s) row is))

  -- another octet
  pub origin_refused : (five : Bool) (x : ℕ) (r : Refusal) → Sources s.kind s.numbers five s.digits s.ten s.sixteen x (refusal_number r) 0 0 0 0 0 → Turned s five x (Err r)
  unfolding turn_step source_turn then_on refusal_number
  origin_refused five x r e row l f =
      source_step x row
      ∙ ap (λ t. then_on t (behind row)) (e (before row) (before_length s.kind s.numbers row) (f is))
      ∙ go r
    where
      go : (r : Refusal) → then_on (source_turn (refusal_number r) 0 0 0 0 0 (source_of (address_of s.kind s.digits s.ten s.sixteen (before row))) (before row)) (behind row) ≡ refused (refusal_number r)
      go Refusal.Outside = refl
      go Refusal.Over = refl
      go Refusal.Early = refl

-- ------------------------------------------------------------------ what is written

base_far : (n : ℕ) → 272 ≤ base n
unfolding base
base_far n = omega arith

calm_15 : (i : ℕ) → is_broken 15 i ≡ false
unfolding is_broken within_identifier between
calm_15 i = refl

no_numbers : (row : Octets) → pairs 0 row ≡ singles 0 row
unfolding pairs singles
no_numbers row = refl

-- in the first 16 octets: all that is known but the source stays as it is
module _ (s : ReaderState) (kind numbers to : ℕ) (ws row : Octets) (v : Octets) (h : to + length ws ≤ 16) where
  pub same_behind : with_source v (known_of (on_source kind numbers 0 0 0 s) (laid_at to ws row)) ≡ with_source v (known_of s row)
  unfolding known_of with_source on_source
  same_behind = λ j. record {
    left = s.left;
    begin = s.begin;
    source = v;
    count = s.count;
    disposition = disposition_numbered s.disposition;
    dkim = is_set s.dkim;
    spf = is_set s.spf;
    author = name_back 16 s.author to ws row (omega (arith, h)) j;
    identifiers = listed_back s.identifiers to ws row (omega (arith, h)) j;
    domain = name_back (base s.identifiers) s.domain to ws row (omega (arith, h, far)) j;
    selector = name_back (base s.identifiers + 253) s.selector to ws row (omega (arith, h, far)) j;
    outcome = s.outcome;
  }
    where
      far : 272 ≤ base s.identifiers
      far = base_far s.identifiers

module _ (s : ReaderState) (is : s.node ≡ 64) where
  -- a number ends at a dot
  before_dotted : (kind n : ℕ) (row : Octets) → (kind ≡ 1) ⊎ (n ≡ 0) → before_in kind n row ≡ singles n row
  unfolding before_in
  before_dotted kind n row (inl e) = rw (eq-eqb kind 1 e)
  before_dotted kind n row (inr e) = go (eqb kind 1) n e
    where
      go : (b : Bool) (n : ℕ) → n ≡ 0 → (if b then singles n row else pairs n row) ≡ singles n row
      go true n q = refl
      go false zero q = none
        where
          none : pairs 0 row ≡ singles 0 row
          none = no_numbers row
      go false (suc n) q = absurd (omega (arith, q))

  pub origin_dot : (five : Bool) (x digits ten sixteen value : ℕ) → Sources s.kind s.numbers five s.digits s.ten s.sixteen x 2 1 digits ten sixteen value → s.numbers < 3 → (s.kind ≡ 1) ⊎ (s.numbers ≡ 0)
      → Turned s five x (Ok (record { gives = false; state = on_source 1 (s.numbers + 1) 0 0 0 s; written = Written.One (12 + s.numbers) value }))
  unfolding write turn_step source_turn then_on source_from before_in on_source
  origin_dot five x digits ten sixteen value e few one row l f =
      let to = 12 + s.numbers in
      let after = laid_at to (value ∷ []) row in
      let next : s.numbers + 1 ≡ suc s.numbers = omega arith in
      let longer : before_in s.kind s.numbers row ++ (value ∷ []) ≡ singles (s.numbers + 1) after
      = ap (λ b. b ++ (value ∷ [])) (before_dotted s.kind s.numbers row one) ∙ sym (single_more s.numbers value row (omega (arith, few, l))) ∙ ap (λ n. singles n after) (sym next) in
      source_step s is x row
      ∙ ap (λ t. then_on t (behind s is row)) (e (before s is row) (before_length s.kind s.numbers row) (f is))
      ∙ (λ j. on (source_left 1 0 0 0 (longer j) >>= λ v. from_literal l_source_end (sym (same_behind s 1 (s.numbers + 1) to (value ∷ []) row v (omega (arith, few))) j)))
      ∙ ap on (sym (left_source (on_source 1 (s.numbers + 1) 0 0 0 s) after is))

  -- at a colon
  before_grouped : (kind n : ℕ) (row : Octets) → (kind ≡ 1 → ⊥) → before_in kind n row ≡ pairs n row
  unfolding before_in
  before_grouped kind n row e = rw (ne_eqb kind 1 e)

  pub origin_colon : (five : Bool) (x digits ten sixteen value a b : ℕ) → Sources s.kind s.numbers five s.digits s.ten s.sixteen x 2 2 digits ten sixteen value → s.numbers < 7 → (s.kind ≡ 1 → ⊥) → a * 256 + b ≡ value
      → Turned s five x (Ok (record { gives = false; state = on_source 2 (s.numbers + 1) 0 0 0 s; written = Written.Two (2 * s.numbers) a b }))
  unfolding write turn_step source_turn then_on source_from before_in on_source
  origin_colon five x digits ten sixteen value a b e few one q row l f =
      let to = 2 * s.numbers in
      let after = laid_at to (a ∷ b ∷ []) row in
      let next : s.numbers + 1 ≡ suc s.numbers = omega arith in
      let longer : before_in s.kind s.numbers row ++ (value ∷ []) ≡ pairs (s.numbers + 1) after
      = (λ j. before_grouped s.kind s.numbers row one j ++ (sym q j ∷ [])) ∙ sym (pair_more s.numbers a b row (omega (arith, few, l))) ∙ ap (λ n. pairs n after) (sym next) in
      source_step s is x row
      ∙ ap (λ t. then_on t (behind s is row)) (e (before s is row) (before_length s.kind s.numbers row) (f is))
      ∙ (λ j. on (source_left 2 0 0 0 (longer j) >>= λ v. from_literal l_source_end (sym (same_behind s 2 (s.numbers + 1) to (a ∷ b ∷ []) row v (omega (arith, few))) j)))
      ∙ ap on (sym (left_source (on_source 2 (s.numbers + 1) 0 0 0 s) after is))

-- ------------------------------------------------------------------ the address ends

pub last_by : (kind numbers : ℕ) → is_last (kind_of kind) numbers ≡ true → ((kind ≡ 1) × (numbers ≡ 3)) ⊎ ((kind_of kind ≡ grouped) × (kind ≡ 1 → ⊥) × (numbers ≡ 7))
unfolding is_last last_number kind_of
last_by kind numbers e = go (eqb kind 0) refl (eqb kind 1) refl
  where
    go : (a : Bool) → eqb kind 0 ≡ a → (b : Bool) → eqb kind 1 ≡ b → ((kind ≡ 1) × (numbers ≡ 3)) ⊎ ((kind_of kind ≡ grouped) × (kind ≡ 1 → ⊥) × (numbers ≡ 7))
    go true p b q = absurd (false≢true (rw (eqb-true kind 0 p) at e))
    go false p true q = inl (eqb-true kind 1 q, eqb-true numbers 3 (rw (eqb-true kind 1 q) at e))
    go false p false q = inr (rw (p, q) refl, eqb-false kind 1 q, eqb-true numbers 7 (rw (p, q, is_last) at e))

module _ (s : ReaderState) (is : s.node ≡ 64) where
  ended_known : (to : ℕ) (ws row v : Octets) → to + length ws ≤ 16 → source_in s.kind (laid_at to ws row) ≡ v → known_of s (laid_at to ws row) ≡ with_source v (known_of s row)
  unfolding known_of with_source
  ended_known to ws row v h e = λ j. record {
    left = s.left;
    begin = s.begin;
    source = e j;
    count = s.count;
    disposition = disposition_numbered s.disposition;
    dkim = is_set s.dkim;
    spf = is_set s.spf;
    author = name_back 16 s.author to ws row (omega (arith, h)) j;
    identifiers = listed_back s.identifiers to ws row (omega (arith, h)) j;
    domain = name_back (base s.identifiers) s.domain to ws row (let far = base_far s.identifiers in omega (arith, h, far)) j;
    selector = name_back (base s.identifiers + 253) s.selector to ws row (let far = base_far s.identifiers in omega (arith, h, far)) j;
    outcome = s.outcome;
  }

  ended_at : (five : Bool) (x kind digits ten sixteen value to : ℕ) (ws row : Octets) → length row ≡ 8432 → five_zeros (before s is row) ≡ five
      → Sources s.kind s.numbers five s.digits s.ten s.sixteen x 1 kind digits ten sixteen value → to + length ws ≤ 16
      → source_in s.kind (laid_at to ws row) ≡ source_of (address_of s.kind s.digits s.ten s.sixteen (before s is row)) → step_of (left_in s row) x ≡ on (left_in (arrived 15 s) (laid_at to ws row))
  unfolding source_turn then_on from node_of nodes
  ended_at five x kind digits ten sixteen value to ws row l f e h same =
      let v = source_of (address_of s.kind s.digits s.ten s.sixteen (before s is row)) in
      source_step s is x row
      ∙ ap (λ t. then_on t (behind s is row)) (e (before s is row) (before_length s.kind s.numbers row) f)
      ∙ ap on (done_on v (behind s is row))
      ∙ ap (λ o. on (from_literal l_source_end o)) (sym (ended_known to ws row v h same))
      ∙ ap on (sym (lands 15 s (laid_at to ws row) (calm_15 s.identifiers) (λ q. omega (arith, q))))

  pub origin_dotted : (five : Bool) (x kind digits ten sixteen value : ℕ) → Sources s.kind s.numbers five s.digits s.ten s.sixteen x 1 kind digits ten sixteen value → s.kind ≡ 1 → s.numbers ≡ 3
      → Turned s five x (Ok (record { gives = false; state = arrived 15 s; written = Written.One (15) s.ten }))
  unfolding write turn_step source_in source_of address_of kind_of before_in
  origin_dotted five x kind digits ten sixteen value e one three row l f =
      let more = single_more 3 s.ten row (omega (arith, l)) in
      ended_at five x kind digits ten sixteen value 15 (s.ten ∷ []) row l (f is) e (omega arith)
      (rw (eq-eqb s.kind 1 one, three, one) (ap (λ z. mapped ++ z) more ∙ sym (append_assoc mapped (singles 3 row) (s.ten ∷ []))))

  pub origin_grouped : (five : Bool) (x kind digits ten sixteen value a b : ℕ) → Sources s.kind s.numbers five s.digits s.ten s.sixteen x 1 kind digits ten sixteen value → kind_of s.kind ≡ grouped → (s.kind ≡ 1 → ⊥) → s.numbers ≡ 7
      → a * 256 + b ≡ s.sixteen → Turned s five x (Ok (record { gives = false; state = arrived 15 s; written = Written.Two (14) a b }))
  unfolding write turn_step source_in source_of address_of before_in
  origin_grouped five x kind digits ten sixteen value a b e groups other seven q row l f =
      let more = pair_more 7 a b row (omega (arith, l)) in
      ended_at five x kind digits ten sixteen value 14 (a ∷ b ∷ []) row l (f is) e (omega arith)
      (rw (ne_eqb s.kind 1 other, groups, seven) (ap group_octets (more ∙ ap (λ v. pairs 7 row ++ (v ∷ [])) q)))

-- ------------------------------------------------------------------ as the code says them

by_256 : (v : ℕ) → v / 256 * 256 + v % 256 ≡ v
by_256 v = omega arith

small_octet : (v : ℕ) → v ≤ 255 → v % 256 ≡ v
small_octet v h = omega (arith, h)

module _ (s : ReaderState) where
  pub ended_octet : s.kind ≡ 1 → octet_put (arrived 15 s) 15 s.ten ≡ source_ended s
  unfolding source_ended
  ended_octet e = rw (eq-eqb s.kind 1 e)

  pub ended_group : (s.kind ≡ 1 → ⊥) → group_put (arrived 15 s) 14 s.sixteen ≡ source_ended s
  unfolding source_ended
  ended_group e = rw (ne_eqb s.kind 1 e)

  pub next_none : (kind v : ℕ) → 7 ≤ s.numbers → Err Refusal.Outside ≡ source_next s kind v
  unfolding source_next
  next_none kind v h = rw (le-leb 7 s.numbers h)

  pub next_octet : (kind v : ℕ) → s.numbers < 7 → kind ≡ 1 → Ok (octet_put (on_source 1 (s.numbers + 1) 0 0 0 s) (12 + s.numbers) v) ≡ source_next s kind v
  unfolding source_next
  next_octet kind v h e = rw (lt-leb 7 s.numbers h, eq-eqb kind 1 e)

  pub next_group : (kind v : ℕ) → s.numbers < 7 → (kind ≡ 1 → ⊥) → Ok (group_put (on_source 2 (s.numbers + 1) 0 0 0 s) (2 * s.numbers) v) ≡ source_next s kind v
  unfolding source_next
  next_group kind v h e = rw (lt-leb 7 s.numbers h, ne_eqb kind 1 e)

module _ (s : ReaderState) (five : Bool) (x : ℕ) where
  abbrev Says : Result SourceTurn Refusal → Type 0
  Says r = Turns s.kind s.numbers five s.digits s.ten s.sixteen x r

  pub source_more : (n : OpenNumber) → Says (Ok (SourceTurn.More n)) → TurnsSource s five x (Ok (plain false (on_source n.kind s.numbers n.digits n.ten n.sixteen s)))
  unfolding Turns
  source_more n t is = origin_more s is five x n.kind n.digits n.ten n.sixteen 0 t.0 t.1

  pub source_refused : (r : Refusal) → Says (Err r) → TurnsSource s five x (Err r)
  unfolding Turns
  source_refused r t is = origin_refused s is five x r t

  pub source_over : Says (Ok SourceTurn.Ended) → TurnsSource s five x (Ok (source_ended s))
  unfolding octet_put group_put Turns
  source_over (said, last, fits) is =
      elim (last_by s.kind s.numbers last) [
        | inl (one, three) ↦ subst (Turned s five x) (ap (λ v. Ok (record { gives = false; state = arrived 15 s; written = Written.One 15 v })) (sym (small_octet s.ten (fits one))) ∙ ap Ok (ended_octet s one)) (origin_dotted s is five x 0 0 0 0 0 said one three)
        | inr (groups, other, seven) ↦ subst (Turned s five x) (ap Ok (ended_group s other)) (origin_grouped s is five x 0 0 0 0 0 (s.sixteen / 256) (s.sixteen % 256) said groups other seven (by_256 s.sixteen))
      ]

  pub source_number : (kind value : ℕ) → Says (Ok (SourceTurn.Number kind value)) → TurnsSource s five x (source_next s kind value)
  unfolding octet_put group_put number_told Turns
  source_number kind value (said, told) is =
      elim told [
        | inl (dot, v, fits, few, before) ↦ subst (Turned s five x) (ap (λ v. Ok (record { gives = false; state = on_source 1 (s.numbers + 1) 0 0 0 s; written = Written.One (12 + s.numbers) v })) (sym (small_octet value (omega (arith, v, fits)))) ∙ next_octet s kind value (omega (arith, few)) dot)
            (origin_dot s is five x 0 0 0 value (subst (λ k. Sources s.kind s.numbers five s.digits s.ten s.sixteen x 2 k 0 0 0 value) dot said) few before)
        | inr (colon, v, few, other) ↦ subst (Turned s five x) (next_group s kind value few (λ e. omega (arith, e, colon)))
            (origin_colon s is five x 0 0 0 value (value / 256) (value % 256) (subst (λ k. Sources s.kind s.numbers five s.digits s.ten s.sixteen x 2 k 0 0 0 value) colon said) few other (by_256 value))
      ]
