-- What is left of a reader has its value or takes an octet: a row is handed out before.
use mathlib.Core.Path.{◌≡◌, refl, sym, ap, ◌∙◌}
use mathlib.Core.List.{List, [], ◌∷◌, ◌++◌}
use mathlib.Core.Bool.{Bool, true, false, ◌&&◌, false≢true, and-false}
use Prim.Native.Nat.{ℕ, zero, suc, ◌-◌, ◌≤◌, ◌<◌}
use native.Mathlib.Omega.{arith}
use lib.Dec.{eqb, leb, ltb}
use lib.ListN.{length, take, get_or}
use borrow.Author.Tests.{lt-leb, leb-true, leb-false}
use Rattle.std.specs.Prelude.{if◌then◌else◌}
use Rattle.octets.specs.Octets.{Octets, octets, all, between}
use Rattle.parsing.specs.Reads.{Reads, done, give, next, ◌>>=◌, ◌>>◌, octet_where}
use Rattle.parsing_steps.specs.Stepping.{takes, behind, shut}
use Rattle.parsing_steps.proofs.StepLaws.{takes_behind}
use Rattle.parsing_limit.specs.Limits.{is_ready}
use Rattle.parsing_limit.proofs.LimitLaws.{ready_takes}
use Rattle.report_form.specs.ReportForm.{Said}
use Rattle.report_form.specs.code.ReportReading.{Address, one_word, reading_entity, text_from, id_from, digits_more, name_from, digits_from, policy, mode, outcome, disposition, fail_or_pass}
use Rattle.report_form.specs.code.ReportReading.{item}
use Rattle.report_states.specs.Chain.{Open, c_extra_or_id, c_p, c_tags, c_sp, c_second, c_np, c_adkim, c_aspf, c_testing, c_disposition, c_item, c_signature_outcome, c_sender_outcome}
use Rattle.report_states.specs.Chain.{c_more}
use Rattle.report_states.specs.Standing.{Node, literal_node, word_node, text_node, id_node, number_node, name_node, address_node, last_node, Word, w_extra, w_p, w_tags, w_sp, w_second, w_np}
use Rattle.report_states.specs.Standing.{w_adkim, w_aspf, w_testing, w_disposition, w_dkim, w_spf, w_item, w_signature, w_sender, w_more, words, Place, Kept, literal_text, from_word}
use Rattle.report_states.specs.Standing.{c_dkim_any, c_spf_any, word_left, entity_rest, in_entity, text_left, id_left, number_left, digits_of, least, most, floor, name_left, part_from}
use Rattle.report_states.specs.Standing.{address_left, left_at, nodes, node_of}
use Rattle.report_address.specs.code.Addresses.{address_of}
use Rattle.report_source.specs.code.Sources.{is_sound, no_octet, source_left}
use Rattle.report_kept.specs.declared.ReaderState.{ReaderState}
use Rattle.report_kept.specs.code.View.{place_of, kept_of, before_in, within_identifier, is_broken, source_from, left_in}
use Rattle.report_kept.proofs.ArriveLaws.{left_other}

takes_bind : {A B : Type 0} (t : Reads Said A) (f : A → Reads Said B) → takes t ≡ true → takes (t >>= f) ≡ true
unfolding takes ◌>>=◌
takes_bind (done a) f e = absurd (false≢true e)
takes_bind (give r t) f e = absurd (false≢true e)
takes_bind (next refuses k) f e = refl

-- ------------------------------------------------------------------ leaves, and what stands behind them

module _ {B : Type 0} where
  takes_text_behind : (i : ℕ) (s : Octets) (u : Reads Said B) → takes (behind i s >> u) ≡ true
  unfolding ◌>>◌
  takes_text_behind i s u = takes_bind (behind i s) (λ _. u) (takes_behind Said i s)

  takes_text_from : (n : ℕ) (some : Bool) (f : Unit {0} → Reads Said B) → takes (text_from n some >>= f) ≡ true
  unfolding takes text_from octet_where ◌>>=◌
  takes_text_from zero some f = refl
  takes_text_from (suc n) some f = refl

  takes_twice : (t : Reads Said (Unit {0})) (f : Unit {0} → Reads Said (Unit {0})) (g : Unit {0} → Reads Said B) → takes t ≡ true → takes ((t >>= f) >>= g) ≡ true
  unfolding takes ◌>>=◌
  takes_twice (done a) f g q = absurd (false≢true q)
  takes_twice (give r t) f g q = absurd (false≢true q)
  takes_twice (next refuses k) f g q = refl

  takes_entity : (e : ℕ) (f : Unit {0} → Reads Said (Unit {0})) (g : Unit {0} → Reads Said B) → takes ((in_entity e >>= f) >>= g) ≡ true
  unfolding in_entity reading_entity one_word octet_where takes ◌>>=◌
  takes_entity zero f g = refl
  takes_entity (suc e) f g = takes_twice (behind 0 (entity_rest e)) f g (takes_behind Said 0 (entity_rest e))

  takes_id : (n : ℕ) (some : Bool) (f : Unit {0} → Reads Said B) → takes (id_from n some >>= f) ≡ true
  unfolding takes id_from octet_where ◌>>=◌
  takes_id zero some f = refl
  takes_id (suc n) some f = refl

  takes_number : (n l m : ℕ) (ends : ℕ → Bool) (v : ℕ) (some : Bool) (f : ℕ → Reads Said B) → takes (digits_more n l m ends v some >>= f) ≡ true
  unfolding takes digits_more ◌>>=◌
  takes_number zero l m ends v some f = refl
  takes_number (suc n) l m ends v some f = refl

  takes_name : (n label : ℕ) (s : Octets) (f : Octets → Reads Said B) → takes (name_from n label s >>= f) ≡ true
  unfolding takes name_from octet_where ◌>>=◌
  takes_name zero label s f = refl
  takes_name (suc n) label s f = refl

  takes_digits : (n : ℕ) (part : Address → ℕ → Reads Said Octets) (a : Address) (f : Octets → Reads Said B) → takes (digits_from n part a >>= f) ≡ true
  unfolding takes digits_from octet_where ◌>>=◌
  takes_digits zero part a f = refl
  takes_digits (suc n) part a f = refl

  takes_source : (kind digits ten sixteen : ℕ) (before : List ℕ) (f : Octets → Reads Said B) → takes (source_left kind digits ten sixteen before >>= f) ≡ true
  unfolding source_left address_left address_of no_octet octet_where takes ◌>>=◌
  takes_source kind digits ten sixteen before f = go (is_sound kind (length before) digits ten sixteen)
    where
      go : (b : Bool) → takes ((if b then address_left (address_of kind digits ten sixteen before) else no_octet) >>= f) ≡ true
      go true = takes_digits (4 - digits) (part_from (7 - length before)) (address_of kind digits ten sixteen before) f
      go false = refl

-- ------------------------------------------------------------------ nodes

takes_word : (w : Word) (o : Open) → takes (from_word w o) ≡ true
unfolding takes from_word one_word octet_where ◌>>=◌ policy mode outcome disposition fail_or_pass item c_extra_or_id c_p c_tags c_sp c_second c_np c_adkim c_aspf c_testing c_disposition c_dkim_any c_spf_any c_item c_signature_outcome c_sender_outcome c_more
takes_word w_extra o = refl
takes_word w_p o = refl
takes_word w_tags o = refl
takes_word w_sp o = refl
takes_word w_second o = refl
takes_word w_np o = refl
takes_word w_adkim o = refl
takes_word w_aspf o = refl
takes_word w_testing o = refl
takes_word w_disposition o = refl
takes_word w_dkim o = refl
takes_word w_spf o = refl
takes_word w_item o = refl
takes_word w_signature o = refl
takes_word w_sender o = refl
takes_word w_more o = refl

takes_word_left : (w : Word) (o : Open) (which at : ℕ) → takes (word_left w o which at) ≡ true
unfolding word_left
takes_word_left w o zero i = takes_word w o
takes_word_left w o (suc k) i = takes_text_behind i (octets (get_or (words w) k "")) _

takes_text : (n e : ℕ) (u : Reads Said (Unit {0})) → takes (text_left n e >> u) ≡ true
unfolding text_left ◌>>◌
takes_text n zero u = takes_text_from (4096 - n) (ltb 0 n) (λ _. u)
takes_text n (suc e) u = takes_entity e _ (λ _. u)

both : (a b : Bool) → (a && b) ≡ true → (a ≡ true) × (b ≡ true)
both true b e = (refl, e)
both false b e = absurd (false≢true e)

past : (ns : List Node) (n : ℕ) → length ns ≤ n → get_or ns n last_node ≡ last_node
past [] n h = refl
past (m ∷ ns) zero h = absurd (omega (arith, h))
past (m ∷ ns) (suc n) h = past ns n (omega (arith, h))

last_at : (n : ℕ) → 65 ≤ n → node_of n ≡ last_node
unfolding node_of nodes
last_at n h = go (leb 66 n) refl
  where
    go : (b : Bool) → leb 66 n ≡ b → node_of n ≡ last_node
    go true e = past nodes n (leb-true 66 n e)
    go false e = let is : n ≡ 65 = (let less = leb-false 66 n e in omega (arith, less, h)) in ap node_of is

calm_last : (n i : ℕ) → 65 ≤ n → is_broken n i ≡ false
unfolding is_broken within_identifier between
calm_last n i h = rw (lt-leb n 31 (omega (arith, h)), lt-leb n 50 (omega (arith, h)), lt-leb n 63 (omega (arith, h)), and-false (leb 24 n), and-false (leb 48 n), and-false (leb 61 n)) refl

-- every node but the last takes an octet
unfoldable is_on : Node → Bool
is_on (literal_node l) = true
is_on (word_node w) = true
is_on (text_node t) = true
is_on id_node = true
is_on (number_node n) = true
is_on (name_node n) = true
is_on address_node = true
is_on last_node = false

takes_at : (m : Node) (p : Place) (k : Kept) → takes (left_at m p k) ≡ is_on m
unfolding left_at is_on takes id_left number_left name_left address_left ◌>>◌
takes_at (literal_node l) p k = takes_text_behind p.at (octets (literal_text l)) _
takes_at (word_node w) p k = takes_word_left w k.known p.which p.at
takes_at (text_node t) p k = takes_text p.length p.at _
takes_at id_node p k = takes_id (64 - p.length) (ltb 0 p.length) _
takes_at (number_node n) p k = takes_number _ (least n) (most n) (leb (floor n k.known)) _ p.some _
takes_at (name_node n) p k = takes_name (253 - p.length) p.label k.so_far _
takes_at address_node p k = takes_digits (4 - k.address.digits) (part_from (7 - length k.address.before)) k.address _
takes_at last_node p k = refl

in_front : (ns : List Node) (n : ℕ) → n < length ns → all is_on ns ≡ true → is_on (get_or (ns ++ (last_node ∷ [])) n last_node) ≡ true
unfolding all
in_front [] n h e = absurd (omega (arith, h))
in_front (m ∷ ns) zero h e = (both (is_on m) (all is_on ns) e).0
in_front (m ∷ ns) (suc n) h e = in_front ns n (omega (arith, h)) (both (is_on m) (all is_on ns) e).1

takes_node : (n : ℕ) → n < 65 → is_on (node_of n) ≡ true
unfolding node_of nodes is_on all
takes_node n h = in_front (take 65 nodes) n h refl

module _ (s : ReaderState) (row : Octets) where
  abbrev by_tests : (a b : Bool) → Reads Said (Unit {0})
  by_tests a b = if a then shut else if b then source_from s row else left_at (node_of s.node) (place_of s) (kept_of s row)

  pub takes_left : s.node < 65 → takes (left_in s row) ≡ true
  unfolding left_in source_from shut octet_where takes
  takes_left h = go (is_broken s.node s.identifiers) (eqb s.node 64)
    where
      go : (a b : Bool) → takes (by_tests a b) ≡ true
      go true b = refl
      go false true = takes_source s.kind s.digits s.ten s.sixteen (before_in s.kind s.numbers row) _
      go false false = takes_at (node_of s.node) (place_of s) (kept_of s row) ∙ takes_node s.node h

  pub left_last : 65 ≤ s.node → left_in s row ≡ done tt
  unfolding left_at
  left_last h =
      left_other s row (calm_last s.node s.identifiers h) (λ q. omega (arith, q, h))
      ∙ ap (λ m. left_at m (place_of s) (kept_of s row)) (last_at s.node h)

  pub ready_left : is_ready (left_in s row) ≡ true
  unfolding is_ready
  ready_left = go (leb 65 s.node) refl
    where
      go : (b : Bool) → leb 65 s.node ≡ b → is_ready (left_in s row) ≡ true
      go true e = ap is_ready (left_last (leb-true 65 s.node e))
      go false e = ready_takes (left_in s row) (takes_left (omega (arith, leb-false 65 s.node e)))
