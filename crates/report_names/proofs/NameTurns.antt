-- Laws of one octet of a name.
use mathlib.Core.Path.{◌≡◌, refl, sym, ap, ◌∙◌, subst}
use mathlib.Core.List.{[], ◌∷◌, ◌++◌}
use mathlib.Core.Logic.{◌⊎◌, inl, inr}
use mathlib.Core.Bool.{Bool, true, false, false≢true}
use Prim.Native.Nat.{ℕ, zero, suc, ◌+◌, ◌*◌, ◌-◌, ◌≤◌, ◌<◌, min}
use native.Mathlib.Omega.{arith}
use lib.Dec.{eqb, leb}
use lib.ListN.{length, take, drop}
use borrow.Author.Tests.{eq-eqb, ne_eqb, lt-leb, leb-true, leb-false}
use Rattle.std.specs.Prelude.{if◌then◌else◌}
use Rattle.octets.specs.Octets.{Octets, is_set, between}
use Rattle.parsing.specs.Reads.{◌>>=◌}
use Rattle.parsing_steps.specs.Stepping.{on, step_of}
use Rattle.report_form.specs.code.ReportReading.{next_number, either}
use Rattle.report_states.specs.Chain.{with_author, with_domain, with_selector}
use Rattle.report_states.specs.Standing.{Node, Name, Kept, word_node, text_node, id_node, number_node, address_node, last_node, m_domain, m_author, m_signature, m_selector, m_sender, name_node, literal_node, l_domain_end, by, handed, arrive, from, name_goes, name_left, disposition_numbered, nodes, node_of, left_at}
use Rattle.std.specs.Prelude.{Result, Ok, Err}
use Rattle.report_steps.specs.declared.Leaf.{Leaf}
use Rattle.report_steps.specs.declared.Refusal.{Refusal}
use Rattle.report_leaves.specs.declared.NamePlace.{NamePlace as Place}
use Rattle.report_leaves.specs.code.Leaves.{Names}
use Rattle.report_values.proofs.NodeSteps.{goes, name_step, name_any}
use Rattle.report_kept.specs.declared.ReaderState.{ReaderState}
use Rattle.report_kept.specs.declared.Written.{Written}
use Rattle.report_kept.specs.Layout.{name_in, base, listed}
use Rattle.report_kept.specs.code.View.{known_of, place_of, name_at, so_far_in, kept_of, within_identifier, is_broken, left_in, laid_at, write, turn_step, Turned, arrived, longer, named, plain}
use Rattle.report_kept.proofs.ArriveLaws.{left_other, lands}
use Rattle.report_kept.proofs.WriteLaws.{name_front, name_back, name_more, listed_front, source_front}
use Rattle.report_names.specs.code.Names.{fitting, name_left_at, NamePlace}

-- a name of more octets than it can have is all of them
take_all : (n : ℕ) (l : Octets) → length l ≤ n → take n l ≡ l
take_all zero [] h = refl
take_all zero (x ∷ l) h = absurd (omega (arith, h))
take_all (suc n) [] h = refl
take_all (suc n) (x ∷ l) h = ap (λ k. x ∷ k) (take_all n l (omega (arith, h)))

take_few : (n : ℕ) (l : Octets) → length (take n l) ≤ n
take_few zero l = omega arith
take_few (suc n) [] = omega arith
take_few (suc n) (x ∷ l) = let h = take_few n l in omega (arith, h)

fitting_name : (at n : ℕ) (row : Octets) → name_in at (fitting n) row ≡ name_in at n row
unfolding name_in fitting
fitting_name at n row = go (leb 253 n) refl
  where
    few : length (take 253 (drop at row)) ≤ 253
    few = take_few 253 (drop at row)

    go : (b : Bool) → leb 253 n ≡ b → take (if b then 253 else n) (take 253 (drop at row)) ≡ take n (take 253 (drop at row))
    go true e = take_all 253 (take 253 (drop at row)) few ∙ sym (take_all n (take 253 (drop at row)) (let h = leb-true 253 n e in omega (arith, h, few)))
    go false e = refl

calm_below : (n i : ℕ) → n < 24 → is_broken n i ≡ false
unfolding is_broken within_identifier between
calm_below n i h = rw (lt-leb 24 n h, lt-leb 48 n (omega (arith, h)), lt-leb 61 n (omega (arith, h))) refl

-- ------------------------------------------------------------------ the five names

-- the node, its name, and what stands behind it
abbrev NameAt : ReaderState → ℕ → Type 0
NameAt s k = (m : Name) × (node_of k ≡ name_node m)
    × ((row : Octets) → arrive (name_goes m (known_of s row) (if eqb k 59 then [] else name_in (name_at k s.identifiers) s.length row)) ≡ left_in (
    if eqb k 59 then arrived 7 s
    else if eqb k 60 then arrived 23 (named (fitting s.length) 0 0 0 0 s)
    else if eqb k 61 then arrived 26 (named s.author s.identifiers (fitting s.length) s.selector s.outcome s)
    else if eqb k 62 then arrived 27 (named s.author s.identifiers s.domain (fitting s.length) s.outcome s)
    else arrived 30 (named s.author s.identifiers (fitting s.length) s.selector s.outcome s)) row)
    × ((k ≡ 59 → ⊥) → (name_at k s.identifiers + 253 ≤ 8432)
    × ((row : Octets) (x v : ℕ) (d : Octets) → s.length < 253 → name_goes m (known_of s (laid_at (name_at k s.identifiers + s.length) (x ∷ []) row)) d ≡ name_goes m (known_of s row) d))

-- what is known but for the open name stays as it is
module _ (s : ReaderState) (row : Octets) (x : ℕ) (d : Octets) (h : s.length < 253) where
  abbrev one : Octets
  one = x ∷ []

  same_author : with_author d (known_of s (laid_at (16 + s.length) one row)) ≡ with_author d (known_of s row)
  unfolding known_of with_author
  same_author = λ j. record {
    left = s.left;
    begin = s.begin;
    source = source_front s.kind (16 + s.length) one row (omega arith) j;
    count = s.count;
    disposition = disposition_numbered s.disposition;
    dkim = is_set s.dkim;
    spf = is_set s.spf;
    author = d;
    identifiers = [];
    domain = [];
    selector = [];
    outcome = 0;
  }

  abbrev from_base : ℕ
  from_base = base s.identifiers

  far : 269 ≤ from_base
  unfolding base
  far = omega arith

  same_domain : with_domain d (known_of s (laid_at (from_base + s.length) one row)) ≡ with_domain d (known_of s row)
  unfolding known_of with_domain
  same_domain = λ j. record {
    left = s.left;
    begin = s.begin;
    source = source_front s.kind (from_base + s.length) one row (omega (arith, far)) j;
    count = s.count;
    disposition = disposition_numbered s.disposition;
    dkim = is_set s.dkim;
    spf = is_set s.spf;
    author = name_front 16 s.author (from_base + s.length) one row (omega (arith, far)) j;
    identifiers = listed_front s.identifiers (from_base + s.length) one row (omega arith) j;
    domain = d;
    selector = name_back (from_base + 253) s.selector (from_base + s.length) one row (omega (arith, h)) j;
    outcome = s.outcome;
  }

  same_selector : with_selector d (known_of s (laid_at (from_base + 253 + s.length) one row)) ≡ with_selector d (known_of s row)
  unfolding known_of with_selector
  same_selector = λ j. record {
    left = s.left;
    begin = s.begin;
    source = source_front s.kind (from_base + 253 + s.length) one row (omega (arith, far)) j;
    count = s.count;
    disposition = disposition_numbered s.disposition;
    dkim = is_set s.dkim;
    spf = is_set s.spf;
    author = name_front 16 s.author (from_base + 253 + s.length) one row (omega (arith, far)) j;
    identifiers = listed_front s.identifiers (from_base + 253 + s.length) one row (omega arith) j;
    domain = name_front from_base s.domain (from_base + 253 + s.length) one row (omega arith) j;
    selector = d;
    outcome = s.outcome;
  }

module _ (s : ReaderState) where
  room : s.identifiers < 16 → base s.identifiers + 506 ≤ 8432
  unfolding base
  room h = omega (arith, h)

  few : leb 16 s.identifiers ≡ false → s.identifiers < 16
  few e = leb-false 16 s.identifiers e

  at_domain : NameAt s 59
  unfolding node_of nodes name_goes arrive by handed known_of
  at_domain = (m_domain, refl, λ row. sym (lands 7 s row (calm_below 7 s.identifiers (omega arith)) (λ q. omega (arith, q))), λ h. absurd (h refl))

  at_author : NameAt s 60
  unfolding node_of nodes name_goes arrive by handed known_of named with_author name_at listed name_in
  at_author = (m_author, refl, λ row. ap (λ v. from (node_of 23) (with_author v (known_of s row))) (sym (fitting_name 16 s.length row)) ∙ sym (lands 23 (named (fitting s.length) 0 0 0 0 s) row (calm_below 23 0 (omega arith)) (λ q. omega (arith, q))), λ h. (omega arith, λ row x v d l. ap (by (node_of 23)) (same_author s row x d l)))

  at_signature : is_broken 61 s.identifiers ≡ false → NameAt s 61
  unfolding node_of nodes name_goes arrive by handed known_of named with_domain name_at is_broken within_identifier between
  at_signature calm = (m_signature, refl, λ row. ap (λ v. from (node_of 26) (with_domain v (known_of s row))) (sym (fitting_name (base s.identifiers) s.length row)) ∙ sym (lands 26 (named s.author s.identifiers (fitting s.length) s.selector s.outcome s) row calm (λ q. omega (arith, q))), λ h. (omega (arith, room (few calm)), λ row x v d l. ap (by (node_of 26)) (same_domain s row x d l)))

  at_selector : is_broken 62 s.identifiers ≡ false → NameAt s 62
  unfolding node_of nodes name_goes arrive by handed known_of named with_selector name_at is_broken within_identifier between
  at_selector calm = (m_selector, refl, λ row. ap (λ v. from (node_of 27) (with_selector v (known_of s row))) (sym (fitting_name (base s.identifiers + 253) s.length row)) ∙ sym (lands 27 (named s.author s.identifiers s.domain (fitting s.length) s.outcome s) row calm (λ q. omega (arith, q))), λ h. (omega (arith, room (few calm)), λ row x v d l. ap (by (node_of 27)) (same_selector s row x d l)))

  at_sender : is_broken 63 s.identifiers ≡ false → NameAt s 63
  unfolding node_of nodes name_goes arrive by handed known_of named with_domain name_at is_broken within_identifier between
  at_sender calm = (m_sender, refl, λ row. ap (λ v. from (node_of 30) (with_domain v (known_of s row))) (sym (fitting_name (base s.identifiers) s.length row)) ∙ sym (lands 30 (named s.author s.identifiers (fitting s.length) s.selector s.outcome s) row calm (λ q. omega (arith, q))), λ h. (omega (arith, room (few calm)), λ row x v d l. ap (by (node_of 30)) (same_domain s row x d l)))

  name_node_at : 59 ≤ s.node → s.node < 64 → is_broken s.node s.identifiers ≡ false → NameAt s s.node
  name_node_at a b calm = go (s.node - 59) refl
    where
      go : (m : ℕ) → s.node - 59 ≡ m → NameAt s s.node
      go zero e = let is : s.node ≡ 59 = omega (arith, e, a) in subst (NameAt s) (sym is) at_domain
      go (suc zero) e = let is : s.node ≡ 60 = omega (arith, e, a) in subst (NameAt s) (sym is) at_author
      go (suc (suc zero)) e = let is : s.node ≡ 61 = omega (arith, e, a) in subst (NameAt s) (sym is) (at_signature (ap (λ n. is_broken n s.identifiers) (sym is) ∙ calm))
      go (suc (suc (suc zero))) e = let is : s.node ≡ 62 = omega (arith, e, a) in subst (NameAt s) (sym is) (at_selector (ap (λ n. is_broken n s.identifiers) (sym is) ∙ calm))
      go (suc (suc (suc (suc zero)))) e = let is : s.node ≡ 63 = omega (arith, e, a) in subst (NameAt s) (sym is) (at_sender (ap (λ n. is_broken n s.identifiers) (sym is) ∙ calm))
      go (suc (suc (suc (suc (suc m))))) e = absurd (omega (arith, e, a, b))

-- ------------------------------------------------------------------ an octet

unfoldable is_domain_node : Node → Bool
is_domain_node (name_node m_domain) = true
is_domain_node (name_node m_author) = false
is_domain_node (name_node m_signature) = false
is_domain_node (name_node m_selector) = false
is_domain_node (name_node m_sender) = false
is_domain_node (literal_node x) = false
is_domain_node (word_node x) = false
is_domain_node (text_node x) = false
is_domain_node id_node = false
is_domain_node (number_node x) = false
is_domain_node address_node = false
is_domain_node last_node = false

no_author : name_node m_author ≡ node_of 59 → ⊥
unfolding node_of nodes is_domain_node
no_author i = false≢true (ap is_domain_node i)

no_signature : name_node m_signature ≡ node_of 59 → ⊥
unfolding node_of nodes is_domain_node
no_signature i = false≢true (ap is_domain_node i)

no_selector : name_node m_selector ≡ node_of 59 → ⊥
unfolding node_of nodes is_domain_node
no_selector i = false≢true (ap is_domain_node i)

no_sender : name_node m_sender ≡ node_of 59 → ⊥
unfolding node_of nodes is_domain_node
no_sender i = false≢true (ap is_domain_node i)

module _ (s : ReaderState) (a : 59 ≤ s.node) (b : s.node < 64) (calm : is_broken s.node s.identifiers ≡ false) where
  abbrev it : NameAt s s.node
  it = name_node_at s a b calm

  left_name : (t : ReaderState) (row : Octets) → t.node ≡ s.node → t.identifiers ≡ s.identifiers → left_in t row ≡ left_at (name_node it.0) (place_of t) (kept_of t row)
  left_name t row e f =
      left_other t row ((λ j. is_broken (e j) (f j)) ∙ calm) (λ q. omega (arith, q, e, b))
      ∙ ap (λ m. left_at m (place_of t) (kept_of t row)) (ap node_of e ∙ it.1)

  abbrev after_octet : (x : ℕ) (row : Octets) → Kept
  after_octet x row = record { known = known_of s row; so_far = so_far_in s row ++ (x ∷ []); address = next_number either [] }

  name_on : (x : ℕ) (r : Result (Leaf Place) Refusal) (row : Octets) → Names s.length s.label x r
      → step_of (left_in s row) x ≡ goes (λ q. left_at (name_node it.0) (place_of (longer s.at q.length q.label s)) (after_octet x row)) (arrive (name_goes it.0 (known_of s row) (so_far_in s row))) r
  unfolding place_of kept_of longer left_at
  name_on x r row e =
      ap (λ u. step_of u x) (left_name s row refl refl)
      ∙ name_step (place_of s) (kept_of s row) x it.0 r (e (so_far_in s row))

  pub name_ended : (x : ℕ) → Names s.length s.label x (Ok Leaf.Ended) → Turned s false x (Ok (plain false (name_left_at s)))
  unfolding plain write goes turn_step so_far_in name_left_at
  name_ended x e row l f = name_on x (Ok Leaf.Ended) row e ∙ ap on (it.2 row)

  pub name_refused : (x : ℕ) (r : Refusal) → Names s.length s.label x (Err r) → Turned s false x (Err r)
  unfolding goes turn_step
  name_refused x r e row l f = name_on x (Err r) row e

  -- a name that is kept, and the published domain, which is not
  pub name_kept : (x : ℕ) (q : Place) → Names s.length s.label x (Ok (Leaf.More q)) → (q.length ≡ s.length + 1) × (s.length < 253) → (s.node ≡ 59 → ⊥)
      → Turned s false x (Ok (record { gives = false; state = longer s.at q.length q.label s; written = Written.One (name_at s.node s.identifiers + s.length) x }))
  unfolding write goes turn_step so_far_in left_at name_left place_of kept_of longer known_of
  name_kept x q e (more, less) other row l f =
      let (room, same) = it.3 other in
      let at = name_at s.node s.identifiers in
      let t = longer s.at q.length q.label s in
      let after = laid_at (at + s.length) (x ∷ []) row in
      let no = ne_eqb s.node 59 other in
      let so_far : (if eqb s.node 59 then [] else name_in at s.length row) ++ (x ∷ []) ≡ (if eqb s.node 59 then [] else name_in at q.length after)
      = rw no (sym (ap (λ n. name_in at n after) more ∙ name_more at s.length x row less (omega (arith, room, l)))) in
      name_on x (Ok (Leaf.More q)) row e
      ∙ (λ j. on (name_left q.length q.label (so_far j) >>= λ v. arrive (sym (same row x 0 v less) j)))
      ∙ ap on (sym (left_name t after refl refl))

  pub name_skipped : (x : ℕ) (q : Place) → Names s.length s.label x (Ok (Leaf.More q)) → s.node ≡ 59 → Turned s false x (Ok (plain false (longer s.at q.length q.label s)))
  unfolding plain write goes turn_step left_at name_left place_of kept_of longer known_of so_far_in name_goes arrive by handed
  name_skipped x q e is row l f =
      let t = longer s.at q.length q.label s in
      name_on x (Ok (Leaf.More q)) row e
      ∙ ap on (at_domain_any it.0 (sym it.1 ∙ ap node_of is))
      ∙ ap on (sym (left_name t row refl refl))
    where
      at_domain_any : (m : Name) → name_node m ≡ node_of 59 → left_at (name_node m) (place_of (longer s.at q.length q.label s)) (after_octet x row) ≡ left_at (name_node m) (place_of (longer s.at q.length q.label s)) (kept_of (longer s.at q.length q.label s) row)
      at_domain_any m_domain i = name_any (253 - q.length) q.label _ _ (from (literal_node l_domain_end) (known_of s row))
      at_domain_any m_author i = absurd (no_author i)
      at_domain_any m_signature i = absurd (no_signature i)
      at_domain_any m_selector i = absurd (no_selector i)
      at_domain_any m_sender i = absurd (no_sender i)

-- ------------------------------------------------------------------ as the code says them

module _ (n i : ℕ) where
  pub place_author : n ≡ 60 → NamePlace n i 16
  unfolding name_at
  place_author e = (omega arith, λ _. rw (eq-eqb n 60 e))

  at_least : (m : ℕ) → m ≡ min i 15 → n ≡ 60 ⊎ i < 16 → (n ≡ 60 → ⊥) → m ≡ i
  at_least m e (inl q) f = absurd (f q)
  at_least m e (inr h) f = omega (arith, e, h)

  pub place_selector : (m : ℕ) → m ≡ min i 15 → n ≡ 62 → NamePlace n i (272 + 510 * m + 253)
  unfolding name_at base
  place_selector m e f = (omega (arith, e), λ q. ap (λ k. 272 + 510 * k + 253) (at_least m e q (λ g. omega (arith, g, f))) ∙ rw (ne_eqb n 60 (λ q. omega (arith, q, f)), eq-eqb n 62 f) refl)

  pub place_first : (m : ℕ) → m ≡ min i 15 → (n ≡ 60 → ⊥) → (n ≡ 62 → ⊥) → NamePlace n i (272 + 510 * m)
  unfolding name_at base
  place_first m e f g = (omega (arith, e), λ q. ap (λ k. 272 + 510 * k) (at_least m e q f) ∙ rw (ne_eqb n 60 f, ne_eqb n 62 g) refl)

-- where it stands, of a name that is kept
pub name_stands : (s : ReaderState) → 59 ≤ s.node → s.node < 64 → is_broken s.node s.identifiers ≡ false → (s.node ≡ 59 → ⊥) → s.node ≡ 60 ⊎ s.identifiers < 16
unfolding is_broken within_identifier between
name_stands s a b calm other = go (s.node - 60) refl
  where
    go : (m : ℕ) → s.node - 60 ≡ m → s.node ≡ 60 ⊎ s.identifiers < 16
    go zero e = inl (omega (arith, e, a, other))
    go (suc zero) e = let is : s.node ≡ 61 = omega (arith, e) in inr (leb-false 16 s.identifiers (ap (λ n. is_broken n s.identifiers) (sym is) ∙ calm))
    go (suc (suc zero)) e = let is : s.node ≡ 62 = omega (arith, e) in inr (leb-false 16 s.identifiers (ap (λ n. is_broken n s.identifiers) (sym is) ∙ calm))
    go (suc (suc (suc zero))) e = let is : s.node ≡ 63 = omega (arith, e) in inr (leb-false 16 s.identifiers (ap (λ n. is_broken n s.identifiers) (sym is) ∙ calm))
    go (suc (suc (suc (suc m)))) e = absurd (omega (arith, e, b))

pub kept_at : (s : ReaderState) (x place : ℕ) (q : Place) → place ≡ name_at s.node s.identifiers
    → Turned s false x (Ok (record { gives = false; state = longer s.at q.length q.label s; written = Written.One (name_at s.node s.identifiers + s.length) x }))
    → Turned s false x (Ok (record { gives = false; state = longer s.at q.length q.label s; written = Written.One (place + s.length) x }))
kept_at s x place q e h = subst (λ p. Turned s false x (Ok (record { gives = false; state = longer s.at q.length q.label s; written = Written.One (p + s.length) x }))) (sym e) h
