-- Laws of one octet of a literal or a word.
use Rattle.std.proofs.Common.{◌≡◌, ℕ, zero, suc, ◌+◌, ◌%◌, ◌<◌, ◌≤◌, Bool, true, false, eqb, List, [], ◌∷◌, map, length, get_or, take, drop, min, sym, refl, ap, ◌∙◌, subst, arith, eq-eqb, ne_eqb}
use mathlib.Core.List.{flatten}
use lib.Dec.{ltb}
use borrow.Author.Tests.{le-ltb}
use Prim.Native.String.{String}
use Rattle.octets.specs.Octets.{Octets, octets}
use Rattle.parsing_steps.specs.Stepping.{on, step_of, behind}
use Rattle.parsing_steps.proofs.StepLaws.{behind_other, behind_past, behind_next, behind_last}
use Rattle.octets_pieces.specs.code.Pieces.{piece, starts as starts_of}
use Rattle.octets_pieces.proofs.PieceLaws.{word_piece}
use Rattle.report_form.specs.ReportForm.{Said}
use Rattle.report_leaves.specs.code.Leaves.{said}
use Rattle.report_steps.specs.declared.Leaf.{Leaf}
use Rattle.report_steps.specs.declared.Refusal.{Refusal}
use Rattle.report_steps.specs.code.Steps.{refusal_number}
use Rattle.std.specs.Prelude.{Option, None, Some, Result, Ok, Err}
use Rattle.report_words.specs.code.Table.{texts, literals, word_nodes, words_at, pick_octets, first_of}
use Rattle.report_states.specs.Standing.{Word, literal_text, words, pick_from, pick, w_extra, w_p, w_tags, w_sp, w_second, w_np, w_adkim, w_aspf, w_testing, w_disposition, w_dkim, w_spf, w_item, w_signature, w_sender, w_more}
use Rattle.report_form.specs.code.ReportReading.{first_is as starts}

abbrev pub Answer : Type 0
Answer = Result (Leaf (Unit {0})) Refusal

module _ (s : Octets) (i x : ℕ) where
  abbrev pub PieceSays : Answer → Type 0
  PieceSays r = step_of (behind {R = Said} i s) x ≡ said (λ _. behind (i + 1) s) tt r

  pub past_end : length s ≤ i → PieceSays (Err Refusal.Outside)
  unfolding said refusal_number
  past_end h = behind_past Said i s x h

  pub another : i < length s → (get_or s i 0 ≡ x → ⊥) → PieceSays (Err Refusal.Outside)
  unfolding said refusal_number
  another h e = behind_other Said i s x h (ne_eqb (get_or s i 0) x e)

  pub the_last : i < length s → get_or s i 0 ≡ x → length s ≡ i + 1 → PieceSays (Ok Leaf.Ended)
  unfolding said
  the_last h e l = behind_last Said i s x (omega (arith, l)) (eq-eqb (get_or s i 0) x e)

  pub the_next : i < length s → get_or s i 0 ≡ x → (length s ≡ i + 1 → ⊥) → PieceSays (Ok (Leaf.More tt))
  unfolding said
  the_next h e l = let one : suc i ≡ i + 1 = omega arith in behind_next Said i s x (omega (arith, h, l)) (eq-eqb (get_or s i 0) x e) ∙ ap (λ k. on (behind {R = Said} k s)) one

-- a text of the table
pub of_table : (all begins : Octets) (s : Octets) (n i x : ℕ) (r : Answer) → all ≡ flatten texts → begins ≡ starts_of 0 texts → s ≡ piece all begins n → PieceSays s i x r → PieceSays (get_or texts n []) i x r
of_table all begins s n i x r e f g h = subst (λ t. PieceSays t i x r) (g ∙ (λ j. piece (e j) (f j) n) ∙ word_piece texts n) h

-- ------------------------------------------------------------------ the word that an octet begins

begins_one : (x : ℕ) (s : Octets) → starts x (take 1 s) ≡ starts x s
unfolding starts
begins_one x [] = refl
begins_one x (y ∷ s) = refl

one_of : (ts : List Octets) (n : ℕ) → get_or (map (take 1) ts) n [] ≡ take 1 (get_or ts n [])
one_of [] n = refl
one_of (t ∷ ts) zero = refl
one_of (t ∷ ts) (suc n) = one_of ts n

abbrev alone : ℕ → Octets
alone c = c ∷ []

alone_at : (cs : Octets) (n : ℕ) → n < length cs → get_or (map alone cs) n [] ≡ alone (get_or cs n 0)
alone_at [] n h = absurd (omega (arith, h))
alone_at (c ∷ cs) zero h = refl
alone_at (c ∷ cs) (suc n) h = alone_at cs n (omega (arith, h))

alone_past : (cs : Octets) (n : ℕ) → length cs ≤ n → get_or (map alone cs) n [] ≡ []
alone_past [] n h = refl
alone_past (c ∷ cs) zero h = absurd (omega (arith, h))
alone_past (c ∷ cs) (suc n) h = alone_past cs n (omega (arith, h))

-- by the first octets of the table's texts
unfoldable pub first_octets : Octets
first_octets = octets "<///////<<<<<<<//<f<fp</<<//<</<<<<<ernqrsnanqrnanqrrsrsnypnqrfpfpds/fptfptr/"

each_first : map (take 1) texts ≡ map alone first_octets
unfolding first_octets texts literals word_nodes literal_text words octets flatten
each_first = refl

many_first : length first_octets ≡ 77
unfolding first_octets octets
many_first = refl

module _ (n x : ℕ) where
  by_first : starts x (get_or (map alone first_octets) n []) ≡ starts x (get_or texts n [])
  by_first = ap (λ (l : List Octets). starts x (get_or l n [])) (sym each_first) ∙ ap (starts x) (one_of texts n) ∙ begins_one x (get_or texts n [])

  pub first_begins : n < 77 → eqb x (get_or first_octets n 0) ≡ starts x (get_or texts n [])
  unfolding starts
  first_begins h = sym (ap (starts x) (alone_at first_octets n (omega (arith, h, many_first)))) ∙ by_first

  pub past_begins : 77 ≤ n → ltb n 77 ≡ starts x (get_or texts n [])
  unfolding starts
  past_begins h = le-ltb n 77 h ∙ sym (ap (starts x) (alone_past first_octets n (omega (arith, h, many_first)))) ∙ by_first

abbrev pub Four : ℕ → List Octets
Four n = get_or texts n [] ∷ get_or texts ((n + 1) % 256) [] ∷ get_or texts ((n + 2) % 256) [] ∷ get_or texts ((n + 3) % 256) [] ∷ []

four_at : (n k : ℕ) → n < 256 → k < 4 → get_or (Four n) k [] ≡ get_or texts ((n + k) % 256) []
four_at n zero l h = let e : n ≡ (n + 0) % 256 = omega (arith, l) in ap (λ m. get_or texts m []) e
four_at n (suc zero) l h = refl
four_at n (suc (suc zero)) l h = refl
four_at n (suc (suc (suc zero))) l h = refl
four_at n (suc (suc (suc (suc k)))) l h = absurd (omega (arith, h))

front : (k count : ℕ) (ts : List Octets) → k < count → k < length ts → drop k (take count ts) ≡ get_or ts k [] ∷ drop (suc k) (take count ts)
front k zero ts h l = absurd (omega (arith, h))
front k (suc count) [] h l = absurd (omega (arith, l))
front zero (suc count) (t ∷ ts) h l = refl
front (suc k) (suc count) (t ∷ ts) h l = front k count ts (omega (arith, h)) (omega (arith, l))

past : (k count : ℕ) (ts : List Octets) → min count (length ts) ≤ k → drop k (take count ts) ≡ []
past zero zero ts h = refl
past (suc k) zero ts h = refl
past k (suc count) [] h = none k
  where
    none : (k : ℕ) → drop {A = Octets} k [] ≡ []
    none zero = refl
    none (suc k) = refl
past zero (suc count) (t ∷ ts) h = absurd (omega (arith, h))
past (suc k) (suc count) (t ∷ ts) h = past k count ts (omega (arith, h))

-- what the words from a place on give
abbrev pub Rest : (first count x k : ℕ) → Option ℕ
Rest first count x k = pick_octets k x (drop k (words_at first count))

module _ (first count x k : ℕ) where
  module _ (l : first < 256) (h : k < count) (f : k < 4) where
    turn : Rest first count x k ≡ elim (starts x (get_or texts ((first + k) % 256) [])) [ true ↦ Some k | false ↦ Rest first count x (k + 1) ]
    unfolding words_at pick_octets
    turn =
        let one : suc k ≡ k + 1 = omega arith in
        ap (pick_octets k x) (front k count (Four first) h f)
        ∙ ap (λ w. elim (starts x w) [ true ↦ Some k | false ↦ pick_octets (suc k) x (drop (suc k) (take count (Four first))) ]) (four_at first k l f)
        ∙ ap (λ n. elim (starts x (get_or texts ((first + k) % 256) [])) [ true ↦ Some k | false ↦ pick_octets n x (drop n (take count (Four first))) ]) one

    pub picked : (n : ℕ) (b : Bool) → n ≡ (first + k) % 256 → b ≡ starts x (get_or texts n []) → b ≡ true → Some k ≡ Rest first count x k
    picked n b e g t = sym (turn ∙ rw (ap (λ m. starts x (get_or texts m [])) (sym e) ∙ sym g ∙ t) refl)

    pub not_picked : (n : ℕ) (b : Bool) → n ≡ (first + k) % 256 → b ≡ starts x (get_or texts n []) → b ≡ false → Rest first count x k ≡ Rest first count x (k + 1)
    not_picked n b e g t = turn ∙ rw (ap (λ m. starts x (get_or texts m [])) (sym e) ∙ sym g ∙ t) refl

  pub none_picked : min count 4 ≤ k → None ≡ Rest first count x k
  unfolding words_at pick_octets
  none_picked h = sym (ap (pick_octets k x) (past k count (Four first) h))

-- ------------------------------------------------------------------ the words of a node

node_words : (w : Word) → words_at (first_of w) (length (words w)) ≡ map octets (words w)
unfolding words_at first_of words texts literals word_nodes literal_text octets flatten
node_words w_extra = refl
node_words w_p = refl
node_words w_tags = refl
node_words w_sp = refl
node_words w_second = refl
node_words w_np = refl
node_words w_adkim = refl
node_words w_aspf = refl
node_words w_testing = refl
node_words w_disposition = refl
node_words w_dkim = refl
node_words w_spf = refl
node_words w_item = refl
node_words w_signature = refl
node_words w_sender = refl
node_words w_more = refl

pick_same : (k x : ℕ) (ws : List String) → pick_octets k x (map octets ws) ≡ pick_from k x ws
unfolding pick_octets pick_from
pick_same k x [] = refl
pick_same k x (w ∷ ws) = go (starts x (octets w)) refl (pick_same (suc k) x ws)
  where
    go : (b : Bool) → starts x (octets w) ≡ b → pick_octets (suc k) x (map octets ws) ≡ pick_from (suc k) x ws → pick_octets k x (octets w ∷ map octets ws) ≡ pick_from k x (w ∷ ws)
    go true e h = rw (e, pick_octets, pick_from) refl
    go false e h = rw (e, pick_octets, pick_from) h

-- what `pick_word` gives for a node's words is what the program picks
pub picks_word : (w : Word) (x : ℕ) → pick_octets 0 x (words_at (first_of w) (length (words w))) ≡ pick x (words w)
unfolding pick
picks_word w x = ap (pick_octets 0 x) (node_words w) ∙ pick_same 0 x (words w)
