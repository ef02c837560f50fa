-- What an octet says at a place of each kind: the program that is left there steps as its leaf does.
use mathlib.Core.Path.{◌≡◌, refl, sym, ap, ◌∙◌}
use mathlib.Core.List.{[], ◌∷◌, ◌++◌}
use mathlib.Core.Bool.{Bool, true, false, false≢true}
use Prim.Native.Nat.{ℕ, zero, suc, ◌-◌, ◌+◌}
use lib.Dec.{eqb, leb, ltb}
use lib.ListN.{get_or}
use Rattle.std.specs.Prelude.{Result, Ok, Err}
use Rattle.octets.specs.Octets.{Octets, octets}
use Rattle.parsing.specs.Reads.{Reads, done, give, next, ◌>>=◌, ◌>>◌, octet_where}
use Rattle.parsing_steps.specs.Stepping.{Step, on, refused, step_of, takes, then_on, behind}
use Rattle.parsing_steps.proofs.StepLaws.{step_bind, done_on, takes_behind}
use Rattle.report_form.specs.ReportForm.{Said}
use Rattle.report_form.specs.code.ReportReading.{reading_entity as entity, one_word, text_from, id_from, digits_more as number_from, name_allows, name_from}
use Rattle.report_states.specs.Standing.{Place, Literal, Word, Text, Number, Name, literal_node, word_node, text_node, id_node, number_node, name_node, Kept, arrive, literal_text, words, literal_goes, word_goes, text_goes, number_goes, name_goes, from_literal, l_id_end, entity_rest, in_entity, text_left, id_left, number_left, least, most, floor, name_left, word_left, left_at}
use Rattle.report_leaves.specs.code.Leaves.{said, text_at}
use Rattle.report_leaves.specs.declared.TextPlace.{TextPlace}
use Rattle.report_leaves.specs.declared.NamePlace.{NamePlace}
use Rattle.report_steps.specs.declared.Leaf.{Leaf}
use Rattle.report_steps.specs.declared.Refusal.{Refusal}
use Rattle.report_steps.specs.code.Steps.{refusal_number}

-- the program goes on as what is left where so much is read, or so, or it is refused
unfoldable pub goes : {P : Type 0} → (P → Reads Said (Unit {0})) → Reads Said (Unit {0}) → Result (Leaf P) Refusal → Step Said (Unit {0})
goes left u (Ok (Leaf.More p)) = on (left p)
goes left u (Ok Leaf.Ended) = on u
goes left u (Err r) = refused (refusal_number r)

module _ {A P : Type 0} (t : Reads Said A) (left : P → Reads Said A) (a : A) (f : A → Reads Said (Unit {0})) (x : ℕ) (r : Result (Leaf P) Refusal) where
  -- a leaf, and what stands behind it
  pub leaf_step : takes t ≡ true → step_of t x ≡ said left a r → step_of (t >>= f) x ≡ goes (λ p. left p >>= f) (f a) r
  unfolding said goes then_on
  leaf_step h e = step_bind t f x h ∙ ap (λ s. then_on s f) e ∙ go r
    where
      go : (r : Result (Leaf P) Refusal) → then_on (said left a r) f ≡ goes (λ p. left p >>= f) (f a) r
      go (Ok (Leaf.More p)) = refl
      go (Ok Leaf.Ended) = ap on (done_on a f)
      go (Err r) = refl

-- ------------------------------------------------------------------ every leaf takes an octet

takes_bind : {A B : Type 0} (t : Reads Said A) (f : A → Reads Said B) → takes t ≡ true → takes (t >>= f) ≡ true
unfolding takes ◌>>=◌
takes_bind (done a) f e = absurd (false≢true e)
takes_bind (give r t) f e = absurd (false≢true e)
takes_bind (next refuses k) f e = refl

takes_text_from : (n : ℕ) (some : Bool) → takes (text_from {R = Said} n some) ≡ true
unfolding takes text_from octet_where
takes_text_from zero some = refl
takes_text_from (suc n) some = refl

takes_entity : (e : ℕ) → takes (in_entity {R = Said} e) ≡ true
unfolding in_entity entity one_word octet_where takes
takes_entity zero = refl
takes_entity (suc e) = takes_behind Said 0 (entity_rest e)

takes_text : (n e : ℕ) → takes (text_left {R = Said} n e) ≡ true
unfolding text_left ◌>>◌
takes_text n zero = takes_text_from (4096 - n) (ltb 0 n)
takes_text n (suc e) = takes_bind (in_entity e) _ (takes_entity e)

takes_id_from : (n : ℕ) (some : Bool) → takes (id_from {R = Said} n some) ≡ true
unfolding takes id_from octet_where
takes_id_from zero some = refl
takes_id_from (suc n) some = refl

takes_name_from : (n label : ℕ) (s : Octets) → takes (name_from {R = Said} n label s) ≡ true
unfolding takes name_from octet_where
takes_name_from zero label s = refl
takes_name_from (suc n) label s = refl

takes_number_from : (n l m : ℕ) (ends : ℕ → Bool) (v : ℕ) (some : Bool) → takes (number_from {R = Said} n l m ends v some) ≡ true
unfolding takes number_from
takes_number_from zero l m ends v some = refl
takes_number_from (suc n) l m ends v some = refl

-- ------------------------------------------------------------------ places

module _ (p p' : Place) (k : Kept) (x : ℕ) where
  -- a literal: one octet further, or where it leads
  pub literal_step : (l : Literal) (r : Result (Leaf (Unit {0})) Refusal) → p'.at ≡ p.at + 1 → step_of (behind {R = Said} p.at (octets (literal_text l))) x ≡ said (λ _. behind (p.at + 1) (octets (literal_text l))) tt r
      → step_of (left_at (literal_node l) p k) x ≡ goes (λ _. left_at (literal_node l) p' k) (arrive (literal_goes l k.known)) r
  unfolding left_at ◌>>◌
  literal_step l r q e =
      leaf_step (behind p.at (octets (literal_text l))) (λ _. behind (p.at + 1) (octets (literal_text l))) tt _ x r (takes_behind Said p.at (octets (literal_text l))) e
      ∙ ap (λ i. goes (λ _. behind i (octets (literal_text l)) >>= (λ _. arrive (literal_goes l k.known))) (arrive (literal_goes l k.known)) r) (sym q)

  -- a word behind its first octet
  pub word_step : (w : Word) (j : ℕ) (r : Result (Leaf (Unit {0})) Refusal) → p.which ≡ suc j → p'.which ≡ suc j → p'.at ≡ p.at + 1
      → step_of (behind {R = Said} p.at (octets (get_or (words w) j ""))) x ≡ said (λ _. behind (p.at + 1) (octets (get_or (words w) j ""))) tt r
      → step_of (left_at (word_node w) p k) x ≡ goes (λ _. left_at (word_node w) p' k) (arrive (word_goes w k.known j)) r
  unfolding left_at word_left ◌>>◌
  word_step w j r c d q e =
      ap (λ i. step_of (word_left w k.known i p.at) x) c
      ∙ leaf_step (behind p.at (octets (get_or (words w) j ""))) (λ _. behind (p.at + 1) (octets (get_or (words w) j ""))) tt _ x r (takes_behind Said p.at (octets (get_or (words w) j ""))) e
      ∙ (λ i. goes (λ _. word_left w k.known (sym d i) (sym q i)) (arrive (word_goes w k.known j)) r)

-- a text, an id, a number or a name, by what is left of it where so much is read
module _ (p : Place) (k : Kept) (x : ℕ) where
  pub text_step : (t : Text) (r : Result (Leaf TextPlace) Refusal) → step_of (text_left {R = Said} p.length p.at) x ≡ said text_at tt r
      → step_of (left_at (text_node t) p k) x ≡ goes (λ q. text_at q >>= (λ _. arrive (text_goes t k.known))) (arrive (text_goes t k.known)) r
  unfolding left_at ◌>>◌
  text_step t r e = leaf_step (text_left p.length p.at) text_at tt _ x r (takes_text p.length p.at) e

  pub id_step : (r : Result (Leaf ℕ) Refusal) → step_of (id_left {R = Said} p.length) x ≡ said id_left tt r
      → step_of (left_at id_node p k) x ≡ goes (λ n. id_left n >>= (λ _. from_literal l_id_end k.known)) (from_literal l_id_end k.known) r
  unfolding left_at id_left ◌>>◌
  id_step r e = leaf_step (id_left p.length) id_left tt _ x r (takes_id_from (64 - p.length) (ltb 0 p.length)) e

  pub number_step : (n : Number) (v : ℕ) (r : Result (Leaf ℕ) Refusal) → step_of (number_left {R = Said} (least n) (most n) (floor n k.known) p.value p.some) x ≡ said (λ u. number_left (least n) (most n) (floor n k.known) u true) v r
      → step_of (left_at (number_node n) p k) x ≡ goes (λ u. number_left (least n) (most n) (floor n k.known) u true >>= (λ w. arrive (number_goes n k.known w))) (arrive (number_goes n k.known v)) r
  unfolding left_at number_left
  number_step n v r e =
      leaf_step (number_left (least n) (most n) (floor n k.known) p.value p.some) (λ u. number_left (least n) (most n) (floor n k.known) u true) v (λ w. arrive (number_goes n k.known w)) x r
      (takes_number_from _ (least n) (most n) (leb (floor n k.known)) _ p.some) e

  -- a name: what was read of it is then an octet longer
  pub name_step : (n : Name) (r : Result (Leaf NamePlace) Refusal)
      → step_of (name_left {R = Said} p.length p.label k.so_far) x ≡ said (λ q. name_left q.length q.label (k.so_far ++ (x ∷ []))) k.so_far r
      → step_of (left_at (name_node n) p k) x ≡ goes (λ q. name_left q.length q.label (k.so_far ++ (x ∷ [])) >>= (λ v. arrive (name_goes n k.known v))) (arrive (name_goes n k.known k.so_far)) r
  unfolding left_at name_left
  name_step n r e =
      leaf_step (name_left p.length p.label k.so_far) (λ q. name_left q.length q.label (k.so_far ++ (x ∷ []))) k.so_far (λ v. arrive (name_goes n k.known v)) x r
      (takes_name_from (253 - p.length) p.label k.so_far) e

-- ------------------------------------------------------------------ a name that is not kept

-- where nothing behind a name depends on it, what was read of it does not matter: the published domain is not stored
pub name_any : (n label : ℕ) (s t : Octets) (u : Reads Said (Unit {0})) → (name_from {R = Said} n label s >>= (λ _. u)) ≡ (name_from n label t >>= (λ _. u))
unfolding name_from octet_where ◌>>=◌
name_any zero label s t u = refl
name_any (suc n) label s t u = λ j. octet_where (name_allows (suc n) label) (λ x. go x (eqb x 60) (eqb x 46) (λ l a b. name_any n l a b u) j)
  where
    go : (x : ℕ) (b c : Bool) → ((l : ℕ) (v w : Octets) → (name_from {R = Said} n l v >>= (λ _. u)) ≡ (name_from n l w >>= (λ _. u)))
        → ◌>>=◌ {A = Octets} (elim b as (λ _. Reads Said Octets) [ true ↦ done s | false ↦ elim c as (λ _. Reads Said Octets) [ true ↦ name_from n 0 (s ++ (x ∷ [])) | false ↦ name_from n (suc label) (s ++ (x ∷ [])) ] ]) (λ _. u)
        ≡ ◌>>=◌ {A = Octets} (elim b as (λ _. Reads Said Octets) [ true ↦ done t | false ↦ elim c as (λ _. Reads Said Octets) [ true ↦ name_from n 0 (t ++ (x ∷ [])) | false ↦ name_from n (suc label) (t ++ (x ∷ [])) ] ]) (λ _. u)
    go x true c h = refl
    go x false true h = h 0 _ _
    go x false false h = h (suc label) _ _
