-- Laws of one octet of a text, an id or a number.
use mathlib.Core.Path.{◌≡◌, refl, sym, ap, ◌∙◌, subst}
use mathlib.Core.Bool.{Bool, true, false}
use Prim.Native.Nat.{ℕ, zero, suc, ◌-◌, ◌≤◌, ◌<◌}
use native.Mathlib.Omega.{arith}
use lib.Dec.{eqb}
use lib.ListN.{length}
use borrow.Author.Tests.{lt-leb, le-leb}
use Rattle.std.specs.Prelude.{if◌then◌else◌}
use Rattle.octets.specs.Octets.{Octets, is_set, between}
use Rattle.parsing_steps.specs.Stepping.{step_of}
use Rattle.report_form.specs.ReportForm.{Said}
use Rattle.report_states.specs.Chain.{Open, with_begin, with_count}
use Rattle.report_states.specs.Standing.{Text, Number, t_org, t_email, t_extra, n_begin, n_end, n_count, text_node, id_node, number_node, by, handed, arrive, from, text_goes, number_goes, text_left, id_left, digits_of, number_left, least, most, floor, nodes, node_of, left_at}
use Rattle.std.specs.Prelude.{Option, None, Some, Result, Ok, Err}
use Rattle.std.specs.Option.{is_some, unwrap_or}
use Rattle.parsing.specs.Reads.{◌>>◌}
use Rattle.report_steps.specs.declared.Leaf.{Leaf}
use Rattle.report_steps.specs.declared.Refusal.{Refusal}
use Rattle.report_leaves.specs.declared.TextPlace.{TextPlace}
use Rattle.report_leaves.specs.code.Leaves.{said, text_at}
use Rattle.report_values.proofs.NodeSteps.{goes, text_step, id_step, number_step}
use Rattle.report_kept.specs.declared.ReaderState.{ReaderState}
use Rattle.report_kept.specs.code.View.{known_of, place_of, kept_of, within_identifier, is_broken, left_in, write, turn_step, Turned, arrived, longer, at_number, valued, plain}
use Rattle.report_kept.proofs.ArriveLaws.{left_other, lands}
use Rattle.report_turns.specs.code.Values.{least_of, most_of, floor_of, read_in, number_left_at}

-- ------------------------------------------------------------------ a text

text_node_at : (n : ℕ) → 52 ≤ n → n < 55 → (t : Text) × (node_of n ≡ text_node t) × ((o : Open) → text_goes t o ≡ by (node_of (n - 51)) o)
unfolding node_of nodes text_goes
text_node_at n a b = go (n - 52) refl
  where
    go : (m : ℕ) → n - 52 ≡ m → (t : Text) × (node_of n ≡ text_node t) × ((o : Open) → text_goes t o ≡ by (node_of (n - 51)) o)
    go zero e = let is : n ≡ 52 = omega (arith, e, a) in subst (λ k. (t : Text) × (node_of k ≡ text_node t) × ((o : Open) → text_goes t o ≡ by (node_of (k - 51)) o)) (sym is) (t_org, refl, λ o. refl)
    go (suc zero) e = let is : n ≡ 53 = omega (arith, e, a) in subst (λ k. (t : Text) × (node_of k ≡ text_node t) × ((o : Open) → text_goes t o ≡ by (node_of (k - 51)) o)) (sym is) (t_email, refl, λ o. refl)
    go (suc (suc zero)) e = let is : n ≡ 54 = omega (arith, e, a) in subst (λ k. (t : Text) × (node_of k ≡ text_node t) × ((o : Open) → text_goes t o ≡ by (node_of (k - 51)) o)) (sym is) (t_extra, refl, λ o. refl)
    go (suc (suc (suc m))) e = absurd (omega (arith, e, a, b))

-- nodes that are within no identifier
calm_below : (n i : ℕ) → n < 24 → is_broken n i ≡ false
unfolding is_broken within_identifier between
calm_below n i h = rw (lt-leb 24 n h, lt-leb 48 n (omega (arith, h)), lt-leb 61 n (omega (arith, h))) refl

calm_value : (n i : ℕ) → 51 ≤ n → n < 61 → is_broken n i ≡ false
unfolding is_broken within_identifier between
calm_value n i a b = rw (lt-leb n 31 (omega (arith, a)), le-leb 24 n (omega (arith, a)), lt-leb n 50 (omega (arith, a)), le-leb 48 n (omega (arith, a)), lt-leb 61 n b) refl

module _ (s : ReaderState) (a : 52 ≤ s.node) (b : s.node < 55) where
  abbrev pub TextSays : (x : ℕ) → Result (Leaf TextPlace) Refusal → Type 0
  TextSays x r = step_of (text_left {R = Said} s.length s.at) x ≡ said text_at tt r

  text_on : (x : ℕ) (r : Result (Leaf TextPlace) Refusal) (row : Octets) → TextSays x r
      → step_of (left_in s row) x ≡ goes (λ q. left_in (longer q.at q.length s.label s) row) (left_in (arrived (s.node - 51) s) row) r
  unfolding place_of kept_of known_of longer left_at arrive by handed text_at ◌>>◌
  text_on x r row e =
      let (t, is, to) = text_node_at s.node a b in
      let calm = calm_value s.node s.identifiers (omega (arith, a)) (omega (arith, b)) in
      ap (λ u. step_of u x) (left_other s row calm (λ q. omega (arith, q, b)) ∙ ap (λ m. left_at m (place_of s) (kept_of s row)) is)
      ∙ text_step (place_of s) (kept_of s row) x t r e
      ∙ (λ j. goes
      (λ q. (sym (left_other (longer q.at q.length s.label s) row calm (λ h. omega (arith, h, b)) ∙ ap (λ m. left_at m (place_of (longer q.at q.length s.label s)) (kept_of (longer q.at q.length s.label s) row)) is)) j)
      ((ap arrive (to (known_of s row)) ∙ sym (lands (s.node - 51) s row (calm_below (s.node - 51) s.identifiers (omega (arith, b))) (λ q. omega (arith, q, b)))) j)
      r)

  pub text_more : (x : ℕ) (q : TextPlace) → TextSays x (Ok (Leaf.More q)) → Turned s false x (Ok (plain false (longer q.at q.length s.label s)))
  unfolding goes turn_step plain write
  text_more x q e row l f = text_on x (Ok (Leaf.More q)) row e

  pub text_ended : (x : ℕ) → TextSays x (Ok Leaf.Ended) → Turned s false x (Ok (plain false (arrived (s.node - 51) s)))
  unfolding goes turn_step plain write
  text_ended x e row l f = text_on x (Ok Leaf.Ended) row e

  pub text_refused : (x : ℕ) (r : Refusal) → TextSays x (Err r) → Turned s false x (Err r)
  unfolding goes turn_step
  text_refused x r e row l f = text_on x (Err r) row e

-- ------------------------------------------------------------------ an id

module _ (s : ReaderState) (a : s.node ≡ 55) where
  abbrev pub IdSays : (x : ℕ) → Result (Leaf ℕ) Refusal → Type 0
  IdSays x r = step_of (id_left {R = Said} s.length) x ≡ said id_left tt r

  id_on : (x : ℕ) (r : Result (Leaf ℕ) Refusal) (row : Octets) → IdSays x r
      → step_of (left_in s row) x ≡ goes (λ length. left_in (longer s.at length s.label s) row) (left_in (arrived 4 s) row) r
  unfolding place_of kept_of known_of longer left_at node_of nodes from ◌>>◌
  id_on x r row e =
      let calm = calm_value s.node s.identifiers (omega (arith, a)) (omega (arith, a)) in
      let is : node_of s.node ≡ id_node = ap node_of a in
      ap (λ u. step_of u x) (left_other s row calm (λ q. omega (arith, q, a)) ∙ ap (λ m. left_at m (place_of s) (kept_of s row)) is)
      ∙ id_step (place_of s) (kept_of s row) x r e
      ∙ (λ j. goes
      (λ length. (sym (left_other (longer s.at length s.label s) row calm (λ q. omega (arith, q, a)) ∙ ap (λ m. left_at m (place_of (longer s.at length s.label s)) (kept_of (longer s.at length s.label s) row)) is)) j)
      ((sym (lands 4 s row (calm_below 4 s.identifiers (omega arith)) (λ q. omega (arith, q)))) j)
      r)

  pub id_more : (x length : ℕ) → IdSays x (Ok (Leaf.More length)) → Turned s false x (Ok (plain false (longer s.at length s.label s)))
  unfolding goes turn_step plain write
  id_more x length e row l f = id_on x (Ok (Leaf.More length)) row e

  pub id_ended : (x : ℕ) → IdSays x (Ok Leaf.Ended) → Turned s false x (Ok (plain false (arrived 4 s)))
  unfolding goes turn_step plain write
  id_ended x e row l f = id_on x (Ok Leaf.Ended) row e

  pub id_refused : (x : ℕ) (r : Refusal) → IdSays x (Err r) → Turned s false x (Err r)
  unfolding goes turn_step
  id_refused x r e row l f = id_on x (Err r) row e

-- ------------------------------------------------------------------ a number

module _ (s : ReaderState) where
  abbrev Numbers : ℕ → Type 0
  Numbers k = (n : Number) × (node_of k ≡ number_node n) × (least_of k ≡ least n) × (most_of k ≡ most n)
      × ((row : Octets) → (if eqb k 57 then s.begin else 0) ≡ floor n (known_of s row))
      × ((row : Octets) (v : ℕ) → arrive (number_goes n (known_of s row) v) ≡ left_in (if eqb k 56 then arrived 5 (valued v s.count s) else if eqb k 57 then arrived 6 s else arrived 16 (valued s.begin v s)) row)

  number_begin : Numbers 56
  unfolding node_of nodes least_of most_of least most floor number_goes arrive by handed known_of valued with_begin
  number_begin = (n_begin, refl, refl, refl, (λ row. refl), λ row v. sym (lands 5 (valued v s.count s) row (calm_below 5 s.identifiers (omega arith)) (λ q. omega (arith, q))))

  number_end : Numbers 57
  unfolding node_of nodes least_of most_of least most floor number_goes arrive by handed known_of
  number_end = (n_end, refl, refl, refl, (λ row. refl), λ row v. sym (lands 6 s row (calm_below 6 s.identifiers (omega arith)) (λ q. omega (arith, q))))

  number_count : Numbers 58
  unfolding node_of nodes least_of most_of least most floor number_goes arrive by handed known_of valued with_count
  number_count = (n_count, refl, refl, refl, (λ row. refl), λ row v. sym (lands 16 (valued s.begin v s) row (calm_below 16 s.identifiers (omega arith)) (λ q. omega (arith, q))))

  number_at : 56 ≤ s.node → s.node < 59 → Numbers s.node
  number_at a b = go (s.node - 56) refl
    where
      go : (m : ℕ) → s.node - 56 ≡ m → Numbers s.node
      go zero e = let is : s.node ≡ 56 = omega (arith, e, a) in subst Numbers (sym is) number_begin
      go (suc zero) e = let is : s.node ≡ 57 = omega (arith, e, a) in subst Numbers (sym is) number_end
      go (suc (suc zero)) e = let is : s.node ≡ 58 = omega (arith, e, a) in subst Numbers (sym is) number_count
      go (suc (suc (suc m))) e = absurd (omega (arith, e, a, b))

  module _ (a : 56 ≤ s.node) (b : s.node < 59) where
    abbrev pub NumberSays : (x v : ℕ) → Result (Leaf ℕ) Refusal → Type 0
    NumberSays x v r = step_of (number_left {R = Said} (least_of s.node) (most_of s.node) (floor_of s) s.value (is_set s.some)) x ≡ said (λ u. number_left (least_of s.node) (most_of s.node) (floor_of s) u true) v r

    number_on : (x v : ℕ) (r : Result (Leaf ℕ) Refusal) (row : Octets) → NumberSays x v r → step_of (left_in s row) x ≡ goes (λ u. left_in (at_number u s) row) (left_in (number_left_at s v) row) r
    unfolding place_of kept_of known_of at_number left_at floor_of number_left_at is_set
    number_on x v r row e =
        let (n, is, low, high, base, to) = number_at a b in
        let calm = calm_value s.node s.identifiers (omega (arith, a)) (omega (arith, b)) in
        ap (λ u. step_of u x) (left_other s row calm (λ q. omega (arith, q, b)) ∙ ap (λ m. left_at m (place_of s) (kept_of s row)) is)
        ∙ number_step (place_of s) (kept_of s row) x n v r
        (subst {A = ℕ × ℕ × ℕ} (λ w. step_of (number_left {R = Said} w.0 w.1 w.2 s.value (is_set s.some)) x ≡ said (λ u. number_left w.0 w.1 w.2 u true) v r) (λ j. (low j, high j, base row j)) e)
        ∙ (λ j. goes
        (λ u. (sym (left_other (at_number u s) row calm (λ q. omega (arith, q, b)) ∙ ap (λ m. left_at m (place_of (at_number u s)) (kept_of (at_number u s) row)) is)) j)
        (to row v j)
        r)

    pub number_more : (x v u : ℕ) → NumberSays x v (Ok (Leaf.More u)) → Turned s false x (Ok (plain false (at_number u s)))
    unfolding goes turn_step plain write
    number_more x v u e row l f = number_on x v (Ok (Leaf.More u)) row e

    pub number_ended : (x v : ℕ) → NumberSays x v (Ok Leaf.Ended) → Turned s false x (Ok (plain false (number_left_at s v)))
    unfolding goes turn_step plain write
    number_ended x v e row l f = number_on x v (Ok Leaf.Ended) row e

    pub number_refused : (x v : ℕ) (r : Refusal) → NumberSays x v (Err r) → Turned s false x (Err r)
    unfolding goes turn_step
    number_refused x v r e row l f = number_on x v (Err r) row e

  -- as the code says it, of what is read
  pub read_number : (least most floor : ℕ) (o : Option ℕ) (x : ℕ) (r : Result (Leaf ℕ) Refusal)
      → least ≡ least_of s.node → most ≡ most_of s.node → floor ≡ floor_of s → o ≡ read_in s
      → step_of (number_left {R = Said} least most floor (unwrap_or o 0) (is_some o)) x ≡ said (λ u. number_left least most floor u true) (unwrap_or o 0) r
      → step_of (number_left {R = Said} (least_of s.node) (most_of s.node) (floor_of s) s.value (is_set s.some)) x ≡ said (λ u. number_left (least_of s.node) (most_of s.node) (floor_of s) u true) (unwrap_or o 0) r
  unfolding read_in number_left digits_of
  read_number least most floor o x r a b d q e =
      sym (ap (λ t. step_of t x) (ap (λ p. number_left {R = Said} (least_of s.node) (most_of s.node) (floor_of s) (unwrap_or p 0) (is_some p)) q ∙ same (is_set s.some)))
      ∙ subst {A = ℕ × ℕ × ℕ} (λ w. step_of (number_left {R = Said} w.0 w.1 w.2 (unwrap_or o 0) (is_some o)) x ≡ said (λ u. number_left w.0 w.1 w.2 u true) (unwrap_or o 0) r) (λ j. (a j, b j, d j)) e
    where
      same : (b : Bool) → number_left {R = Said} (least_of s.node) (most_of s.node) (floor_of s) (unwrap_or (if b then Some s.value else None) 0) (is_some (if b then Some s.value else None)) ≡ number_left (least_of s.node) (most_of s.node) (floor_of s) s.value b
      same true = refl
      same false = refl
