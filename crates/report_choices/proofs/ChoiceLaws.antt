-- Laws of words: where each leads.
use mathlib.Core.Path.{◌≡◌, refl, sym, ap, ◌∙◌, subst}
use mathlib.Core.List.{List, [], ◌∷◌, flatten}
use mathlib.Core.Bool.{Bool, true, false, false≢true}
use Prim.Native.Nat.{ℕ, zero, suc, ◌+◌, ◌-◌, ◌≤◌, ◌<◌}
use Prim.Native.String.{String}
use native.Mathlib.Omega.{arith}
use lib.Dec.{eqb, leb, ltb}
use lib.ListN.{length, drop, take, get_or}
use borrow.Author.Tests.{lt-ltb, le-leb, eqb-false, lt-leb}
use Rattle.std.specs.Prelude.{if◌then◌else◌, Option, None, Some}
use Rattle.octets.specs.Octets.{Octets, octets, flag, between}
use Rattle.octets.proofs.TextLaws.{flag_said, true→T}
use Rattle.parsing.specs.Reads.{◌>>◌, exactly}
use Rattle.parsing_steps.specs.Stepping.{on, step_of, behind}
use Rattle.parsing_steps.proofs.StepLaws.{behind_past, done_on}
use Rattle.report_form.specs.ReportForm.{Said}
use Rattle.report_form.specs.code.ReportReading.{first_is}
use Rattle.report_states.specs.Chain.{Open, with_disposition, with_dkim, with_spf, with_outcome, with_left}
use Rattle.report_states.specs.Standing.{Word, literal_node, word_node, last_node, l_row, l_dkim_end, l_spf_end, by, arrive, literal_text, words, pick_from, pick, picked, word_goes, word_left, nodes, node_of, left_at, w_extra, w_p, w_tags, w_sp, w_second, w_np, w_adkim, w_aspf, w_testing, w_disposition, w_dkim, w_spf, w_item, w_signature, w_sender, w_more}
use Rattle.report_states.proofs.NodeLaws.{word_law}
use Rattle.std.specs.Prelude.{Result, Ok, Err}
use Rattle.report_steps.specs.declared.Leaf.{Leaf}
use Rattle.report_steps.specs.declared.Refusal.{Refusal}
use Rattle.report_steps.specs.code.Steps.{refusal_number}
use Rattle.report_leaves.specs.code.Leaves.{said}
use Rattle.report_words.specs.code.Table.{literals, word_nodes, texts, words_at, pick_octets, first_of}
use Rattle.report_words.proofs.PieceSteps.{Answer, PieceSays, Four, picks_word}
use Rattle.report_values.proofs.NodeSteps.{goes, word_step}
use Rattle.report_kept.specs.declared.ReaderState.{ReaderState}
use Rattle.report_kept.specs.declared.Turn.{Turn}
use Rattle.report_kept.specs.code.View.{known_of, place_of, kept_of, so_far_in, within_identifier, is_broken, left_in, write, turn_step, Turned, Leaves, arrived, on_word, flagged, judged, plain}
use Rattle.report_kept.proofs.ArriveLaws.{left_other, leaves_to}
use Rattle.report_choices.specs.code.Choices.{word_of, first_number, word_count, is_single, plain_next, word_next, one_record, chosen_by}
use Rattle.std.proofs.lemmas.Option.{none-some, same_Some}

unfoldable Each : ℕ → (ℕ → Type 0) → Type 0
Each zero P = Unit
Each (suc m) P = P 0 × Each m (λ n. P (suc n))

below : (m : ℕ) (P : ℕ → Type 0) → Each m P → (n : ℕ) → n < m → P n
unfolding Each
below zero P e n h = absurd (omega (arith, h))
below (suc m) P e zero h = e.0
below (suc m) P e (suc n) h = below m (λ k. P (suc k)) e.1 n (omega (arith, h))

-- the number of a word node
unfoldable number_of : Word → ℕ
number_of w_extra = 36
number_of w_p = 37
number_of w_tags = 38
number_of w_sp = 39
number_of w_second = 40
number_of w_np = 41
number_of w_adkim = 42
number_of w_aspf = 43
number_of w_testing = 44
number_of w_disposition = 45
number_of w_dkim = 46
number_of w_spf = 47
number_of w_item = 48
number_of w_signature = 49
number_of w_sender = 50
number_of w_more = 51

number_back : (n : ℕ) → n < 16 → n + 36 ≡ number_of (get_or word_nodes n w_more)
unfolding number_of word_nodes Each
number_back = below 16 (λ n. n + 36 ≡ number_of (get_or word_nodes n w_more)) (refl, (refl, (refl, (refl, (refl, (refl, (refl, (refl, (refl, (refl, (refl, (refl, (refl, (refl, (refl, (refl, tt))))))))))))))))

node_word : (w : Word) → node_of (number_of w) ≡ word_node w
unfolding number_of node_of nodes
node_word w_extra = refl
node_word w_p = refl
node_word w_tags = refl
node_word w_sp = refl
node_word w_second = refl
node_word w_np = refl
node_word w_adkim = refl
node_word w_aspf = refl
node_word w_testing = refl
node_word w_disposition = refl
node_word w_dkim = refl
node_word w_spf = refl
node_word w_item = refl
node_word w_signature = refl
node_word w_sender = refl
node_word w_more = refl

first_word : (w : Word) → first_number (number_of w) ≡ first_of w
unfolding number_of first_number first_of
first_word w_extra = refl
first_word w_p = refl
first_word w_tags = refl
first_word w_sp = refl
first_word w_second = refl
first_word w_np = refl
first_word w_adkim = refl
first_word w_aspf = refl
first_word w_testing = refl
first_word w_disposition = refl
first_word w_dkim = refl
first_word w_spf = refl
first_word w_item = refl
first_word w_signature = refl
first_word w_sender = refl
first_word w_more = refl

count_words : (w : Word) → word_count (number_of w) ≡ length (words w)
unfolding number_of word_count words
count_words w_extra = refl
count_words w_p = refl
count_words w_tags = refl
count_words w_sp = refl
count_words w_second = refl
count_words w_np = refl
count_words w_adkim = refl
count_words w_aspf = refl
count_words w_testing = refl
count_words w_disposition = refl
count_words w_dkim = refl
count_words w_spf = refl
count_words w_item = refl
count_words w_signature = refl
count_words w_sender = refl
count_words w_more = refl

-- the texts of a node's words
text_word : (w : Word) (k : ℕ) → k < length (words w) → get_or texts (first_of w + k) [] ≡ octets (get_or (words w) k "")
unfolding words first_of texts literals word_nodes literal_text octets flatten
text_word w_extra zero h = refl
text_word w_extra (suc zero) h = refl
text_word w_extra (suc (suc k)) h = absurd (omega (arith, h))
text_word w_p zero h = refl
text_word w_p (suc zero) h = refl
text_word w_p (suc (suc zero)) h = refl
text_word w_p (suc (suc (suc k))) h = absurd (omega (arith, h))
text_word w_tags zero h = refl
text_word w_tags (suc zero) h = refl
text_word w_tags (suc (suc zero)) h = refl
text_word w_tags (suc (suc (suc k))) h = absurd (omega (arith, h))
text_word w_sp zero h = refl
text_word w_sp (suc zero) h = refl
text_word w_sp (suc (suc zero)) h = refl
text_word w_sp (suc (suc (suc k))) h = absurd (omega (arith, h))
text_word w_second zero h = refl
text_word w_second (suc zero) h = refl
text_word w_second (suc (suc k)) h = absurd (omega (arith, h))
text_word w_np zero h = refl
text_word w_np (suc zero) h = refl
text_word w_np (suc (suc zero)) h = refl
text_word w_np (suc (suc (suc k))) h = absurd (omega (arith, h))
text_word w_adkim zero h = refl
text_word w_adkim (suc zero) h = refl
text_word w_adkim (suc (suc k)) h = absurd (omega (arith, h))
text_word w_aspf zero h = refl
text_word w_aspf (suc zero) h = refl
text_word w_aspf (suc (suc k)) h = absurd (omega (arith, h))
text_word w_testing zero h = refl
text_word w_testing (suc zero) h = refl
text_word w_testing (suc (suc k)) h = absurd (omega (arith, h))
text_word w_disposition zero h = refl
text_word w_disposition (suc zero) h = refl
text_word w_disposition (suc (suc zero)) h = refl
text_word w_disposition (suc (suc (suc zero))) h = refl
text_word w_disposition (suc (suc (suc (suc k)))) h = absurd (omega (arith, h))
text_word w_dkim zero h = refl
text_word w_dkim (suc zero) h = refl
text_word w_dkim (suc (suc k)) h = absurd (omega (arith, h))
text_word w_spf zero h = refl
text_word w_spf (suc zero) h = refl
text_word w_spf (suc (suc k)) h = absurd (omega (arith, h))
text_word w_item zero h = refl
text_word w_item (suc zero) h = refl
text_word w_item (suc (suc zero)) h = refl
text_word w_item (suc (suc (suc k))) h = absurd (omega (arith, h))
text_word w_signature zero h = refl
text_word w_signature (suc zero) h = refl
text_word w_signature (suc (suc zero)) h = refl
text_word w_signature (suc (suc (suc k))) h = absurd (omega (arith, h))
text_word w_sender zero h = refl
text_word w_sender (suc zero) h = refl
text_word w_sender (suc (suc zero)) h = refl
text_word w_sender (suc (suc (suc k))) h = absurd (omega (arith, h))
text_word w_more zero h = refl
text_word w_more (suc zero) h = refl
text_word w_more (suc (suc k)) h = absurd (omega (arith, h))

-- words of one octet, and of more
one_octet : (w : Word) (k : ℕ) → is_single (number_of w) ≡ true → drop 1 (octets (get_or (words w) k "")) ≡ []
unfolding words number_of is_single between octets
one_octet w_extra k e = absurd (false≢true e)
one_octet w_p k e = absurd (false≢true e)
one_octet w_tags k e = absurd (false≢true e)
one_octet w_sp k e = absurd (false≢true e)
one_octet w_second k e = absurd (false≢true e)
one_octet w_np k e = absurd (false≢true e)
one_octet w_adkim zero e = refl
one_octet w_adkim (suc zero) e = refl
one_octet w_adkim (suc (suc k)) e = refl
one_octet w_aspf zero e = refl
one_octet w_aspf (suc zero) e = refl
one_octet w_aspf (suc (suc k)) e = refl
one_octet w_testing zero e = refl
one_octet w_testing (suc zero) e = refl
one_octet w_testing (suc (suc k)) e = refl
one_octet w_disposition k e = absurd (false≢true e)
one_octet w_dkim k e = absurd (false≢true e)
one_octet w_spf k e = absurd (false≢true e)
one_octet w_item k e = absurd (false≢true e)
one_octet w_signature k e = absurd (false≢true e)
one_octet w_sender k e = absurd (false≢true e)
one_octet w_more k e = absurd (false≢true e)

more_octets : (w : Word) (k : ℕ) → is_single (number_of w) ≡ false → k < length (words w) → 1 < length (octets (get_or (words w) k ""))
unfolding words number_of is_single between octets
more_octets w_extra zero e h = omega arith
more_octets w_extra (suc zero) e h = omega arith
more_octets w_extra (suc (suc k)) e h = absurd (omega (arith, h))
more_octets w_p zero e h = omega arith
more_octets w_p (suc zero) e h = omega arith
more_octets w_p (suc (suc zero)) e h = omega arith
more_octets w_p (suc (suc (suc k))) e h = absurd (omega (arith, h))
more_octets w_tags zero e h = omega arith
more_octets w_tags (suc zero) e h = omega arith
more_octets w_tags (suc (suc zero)) e h = omega arith
more_octets w_tags (suc (suc (suc k))) e h = absurd (omega (arith, h))
more_octets w_sp zero e h = omega arith
more_octets w_sp (suc zero) e h = omega arith
more_octets w_sp (suc (suc zero)) e h = omega arith
more_octets w_sp (suc (suc (suc k))) e h = absurd (omega (arith, h))
more_octets w_second zero e h = omega arith
more_octets w_second (suc zero) e h = omega arith
more_octets w_second (suc (suc k)) e h = absurd (omega (arith, h))
more_octets w_np zero e h = omega arith
more_octets w_np (suc zero) e h = omega arith
more_octets w_np (suc (suc zero)) e h = omega arith
more_octets w_np (suc (suc (suc k))) e h = absurd (omega (arith, h))
more_octets w_adkim k e h = absurd (false≢true (sym e))
more_octets w_aspf k e h = absurd (false≢true (sym e))
more_octets w_testing k e h = absurd (false≢true (sym e))
more_octets w_disposition zero e h = omega arith
more_octets w_disposition (suc zero) e h = omega arith
more_octets w_disposition (suc (suc zero)) e h = omega arith
more_octets w_disposition (suc (suc (suc zero))) e h = omega arith
more_octets w_disposition (suc (suc (suc (suc k)))) e h = absurd (omega (arith, h))
more_octets w_dkim zero e h = omega arith
more_octets w_dkim (suc zero) e h = omega arith
more_octets w_dkim (suc (suc k)) e h = absurd (omega (arith, h))
more_octets w_spf zero e h = omega arith
more_octets w_spf (suc zero) e h = omega arith
more_octets w_spf (suc (suc k)) e h = absurd (omega (arith, h))
more_octets w_item zero e h = omega arith
more_octets w_item (suc zero) e h = omega arith
more_octets w_item (suc (suc zero)) e h = omega arith
more_octets w_item (suc (suc (suc k))) e h = absurd (omega (arith, h))
more_octets w_signature zero e h = omega arith
more_octets w_signature (suc zero) e h = omega arith
more_octets w_signature (suc (suc zero)) e h = omega arith
more_octets w_signature (suc (suc (suc k))) e h = absurd (omega (arith, h))
more_octets w_sender zero e h = omega arith
more_octets w_sender (suc zero) e h = omega arith
more_octets w_sender (suc (suc zero)) e h = omega arith
more_octets w_sender (suc (suc (suc k))) e h = absurd (omega (arith, h))
more_octets w_more zero e h = omega arith
more_octets w_more (suc zero) e h = omega arith
more_octets w_more (suc (suc k)) e h = absurd (omega (arith, h))

short_word : (w : Word) (k : ℕ) → length (octets (get_or (words w) k "")) ≤ 116
unfolding words octets
short_word w_extra zero = omega arith
short_word w_extra (suc zero) = omega arith
short_word w_extra (suc (suc k)) = omega arith
short_word w_p zero = omega arith
short_word w_p (suc zero) = omega arith
short_word w_p (suc (suc zero)) = omega arith
short_word w_p (suc (suc (suc k))) = omega arith
short_word w_tags zero = omega arith
short_word w_tags (suc zero) = omega arith
short_word w_tags (suc (suc zero)) = omega arith
short_word w_tags (suc (suc (suc k))) = omega arith
short_word w_sp zero = omega arith
short_word w_sp (suc zero) = omega arith
short_word w_sp (suc (suc zero)) = omega arith
short_word w_sp (suc (suc (suc k))) = omega arith
short_word w_second zero = omega arith
short_word w_second (suc zero) = omega arith
short_word w_second (suc (suc k)) = omega arith
short_word w_np zero = omega arith
short_word w_np (suc zero) = omega arith
short_word w_np (suc (suc zero)) = omega arith
short_word w_np (suc (suc (suc k))) = omega arith
short_word w_adkim zero = omega arith
short_word w_adkim (suc zero) = omega arith
short_word w_adkim (suc (suc k)) = omega arith
short_word w_aspf zero = omega arith
short_word w_aspf (suc zero) = omega arith
short_word w_aspf (suc (suc k)) = omega arith
short_word w_testing zero = omega arith
short_word w_testing (suc zero) = omega arith
short_word w_testing (suc (suc k)) = omega arith
short_word w_disposition zero = omega arith
short_word w_disposition (suc zero) = omega arith
short_word w_disposition (suc (suc zero)) = omega arith
short_word w_disposition (suc (suc (suc zero))) = omega arith
short_word w_disposition (suc (suc (suc (suc k)))) = omega arith
short_word w_dkim zero = omega arith
short_word w_dkim (suc zero) = omega arith
short_word w_dkim (suc (suc k)) = omega arith
short_word w_spf zero = omega arith
short_word w_spf (suc zero) = omega arith
short_word w_spf (suc (suc k)) = omega arith
short_word w_item zero = omega arith
short_word w_item (suc zero) = omega arith
short_word w_item (suc (suc zero)) = omega arith
short_word w_item (suc (suc (suc k))) = omega arith
short_word w_signature zero = omega arith
short_word w_signature (suc zero) = omega arith
short_word w_signature (suc (suc zero)) = omega arith
short_word w_signature (suc (suc (suc k))) = omega arith
short_word w_sender zero = omega arith
short_word w_sender (suc zero) = omega arith
short_word w_sender (suc (suc zero)) = omega arith
short_word w_sender (suc (suc (suc k))) = omega arith
short_word w_more zero = omega arith
short_word w_more (suc zero) = omega arith
short_word w_more (suc (suc k)) = omega arith

-- ------------------------------------------------------------------ where a word leads

node_if : (b : Bool) (m n : ℕ) → (if b then node_of m else node_of n) ≡ node_of (if b then m else n)
node_if true m n = refl
node_if false m n = refl

node_of_three : (a b : Bool) (l m n : ℕ) → (if a then node_of l else if b then node_of m else node_of n) ≡ node_of (if a then l else if b then m else n)
node_of_three true b l m n = refl
node_of_three false true l m n = refl
node_of_three false false l m n = refl

module _ (s : ReaderState) (row : Octets) (k : ℕ) where
  abbrev known : Open
  known = known_of s row

  goes_word : (w : Word) → word_goes w known k ≡ by (node_of (word_next (number_of w) k)) (known_of (chosen_by (number_of w) k s) row)
  unfolding number_of word_goes word_next plain_next chosen_by one_record node_of nodes known_of judged flagged with_disposition with_dkim with_spf with_outcome with_left
  goes_word w_extra = ap (λ m. by m known) (node_if (eqb k 0) 54 55)
  goes_word w_p = refl
  goes_word w_tags = ap (λ m. by m known) (node_of_three (eqb k 0) (eqb k 1) 39 41 42)
  goes_word w_sp = refl
  goes_word w_second = ap (λ m. by m known) (node_if (eqb k 0) 41 42)
  goes_word w_np = refl
  goes_word w_adkim = refl
  goes_word w_aspf = refl
  goes_word w_testing = refl
  goes_word w_disposition = refl
  goes_word w_dkim = ap (λ b. by (literal_node l_dkim_end) (with_dkim b known)) (sym (flag_said (eqb k 1)))
  goes_word w_spf = ap (λ b. by (literal_node l_spf_end) (with_spf b known)) (sym (flag_said (eqb k 1)))
  goes_word w_item = ap (λ m. by m known) (node_of_three (eqb k 0) (eqb k 1) 25 29 33)
  goes_word w_signature = refl
  goes_word w_sender = refl
  goes_word w_more = go (eqb k 0)
    where
      go : (b : Bool) → (if b then by (literal_node l_row) (with_left (s.left - 1) known) else by last_node known) ≡ by (node_of (if b then 14 else 65)) (known_of (if b then judged s.disposition s.outcome (s.left - 1) s else s) row)
      go true = refl
      go false = refl

same_list : (n k : ℕ) (s : ReaderState) → (chosen_by n k s).identifiers ≡ s.identifiers
unfolding chosen_by one_record judged flagged
same_list n k s = go (eqb n 45) (eqb n 46) (eqb n 47) (eqb n 49) (eqb n 50) (eqb n 51) (eqb k 0)
  where
    go : (a b c d e f g : Bool) → (if a then judged k s.outcome s.left s else if b then flagged (flag (eqb k 1)) s.spf s else if c then flagged s.dkim (flag (eqb k 1)) s
        else if d then judged s.disposition k s.left s else if e then judged s.disposition k s.left s
        else if f then (if g then judged s.disposition s.outcome (s.left - 1) s else s) else s).identifiers ≡ s.identifiers
    go true b c d e f g = refl
    go false true c d e f g = refl
    go false false true d e f g = refl
    go false false false true e f g = refl
    go false false false false true f g = refl
    go false false false false false true true = refl
    go false false false false false true false = refl
    go false false false false false false g = refl

unfoldable Fine : (next identifiers : ℕ) → Type 0
Fine n i = (is_broken n i ≡ false) × (eqb n 64 ≡ false)

fine_two : (i m n : ℕ) → Fine m i → Fine n i → (b : Bool) → Fine (if b then m else n) i
fine_two i m n e f true = e
fine_two i m n e f false = f

fine_three : (i l m n : ℕ) → Fine l i → Fine m i → Fine n i → (a b : Bool) → Fine (if a then l else if b then m else n) i
fine_three i l m n d e f true b = d
fine_three i l m n d e f false true = e
fine_three i l m n d e f false false = f

fine_word : (w : Word) (k i : ℕ) → is_broken (number_of w) i ≡ false → Fine (word_next (number_of w) k) i
unfolding number_of word_next plain_next Fine is_broken within_identifier between
fine_word w_extra k i h = fine_two i 54 55 (refl, refl) (refl, refl) (eqb k 0)
fine_word w_p k i h = (refl, refl)
fine_word w_tags k i h = fine_three i 39 41 42 (refl, refl) (refl, refl) (refl, refl) (eqb k 0) (eqb k 1)
fine_word w_sp k i h = (refl, refl)
fine_word w_second k i h = fine_two i 41 42 (refl, refl) (refl, refl) (eqb k 0)
fine_word w_np k i h = (refl, refl)
fine_word w_adkim k i h = (refl, refl)
fine_word w_aspf k i h = (refl, refl)
fine_word w_testing k i h = (refl, refl)
fine_word w_disposition k i h = (refl, refl)
fine_word w_dkim k i h = (refl, refl)
fine_word w_spf k i h = (refl, refl)
fine_word w_item k i h = fine_three i 25 29 33 (h, refl) (h, refl) (refl, refl) (eqb k 0) (eqb k 1)
fine_word w_signature k i h = (h, refl)
fine_word w_sender k i h = (h, refl)
fine_word w_more k i h = fine_two i 14 65 (refl, refl) (refl, refl) (eqb k 0)

-- the first word that an octet begins is one of them
pick_less : (j x : ℕ) (vs : List String) (k : ℕ) → pick_from j x vs ≡ Some k → k < j + length vs
unfolding pick_from
pick_less j x [] k e = absurd (none-some k e)
pick_less j x (v ∷ vs) k e = go (first_is x (octets v)) refl (pick_less (suc j) x vs k)
  where
    go : (b : Bool) → first_is x (octets v) ≡ b → (pick_from (suc j) x vs ≡ Some k → k < suc j + length vs) → k < j + suc (length vs)
    go true q more = let same = same_Some j k (rw (q, pick_from) at e) in omega (arith, same)
    go false q more = let less = more (rw (q, pick_from) at e) in omega (arith, less)

few_words : (w : Word) → length (words w) ≤ 4
unfolding words
few_words w_extra = omega arith
few_words w_p = omega arith
few_words w_tags = omega arith
few_words w_sp = omega arith
few_words w_second = omega arith
few_words w_np = omega arith
few_words w_adkim = omega arith
few_words w_aspf = omega arith
few_words w_testing = omega arith
few_words w_disposition = omega arith
few_words w_dkim = omega arith
few_words w_spf = omega arith
few_words w_item = omega arith
few_words w_signature = omega arith
few_words w_sender = omega arith
few_words w_more = omega arith

pick_below : (k x : ℕ) (ts : List Octets) (j : ℕ) → pick_octets k x ts ≡ Some j → j < k + length ts
unfolding pick_octets
pick_below k x [] j e = absurd (true→T {b = false} (cc e))
pick_below k x (t ∷ ts) j e = go (first_is x t) refl (pick_below (suc k) x ts j)
  where
    go : (b : Bool) → first_is x t ≡ b → (pick_octets (suc k) x ts ≡ Some j → j < suc k + length ts) → j < k + suc (length ts)
    go true q h = let same : k ≡ j = cc (rw (q, pick_octets) at e) in omega (arith, same)
    go false q h = let less = h (rw (q, pick_octets) at e) in omega (arith, less)

length_take : (n : ℕ) (ts : List Octets) → length (take n ts) ≤ length ts
length_take zero ts = omega arith
length_take (suc n) [] = omega arith
length_take (suc n) (t ∷ ts) = let less = length_take n ts in omega (arith, less)

pub picked_few : (x first count k : ℕ) → Some k ≡ pick_octets 0 x (words_at first count) → k < 4
unfolding words_at
picked_few x first count k e = let less = pick_below 0 x (words_at first count) k (sym e) in let few = length_take count (Four first) in omega (arith, less, few)

one_picked : (w : Word) (x k : ℕ) → pick x (words w) ≡ Some k → k < length (words w)
unfolding pick
one_picked w x k e = let less = pick_less 0 x (words w) k e in omega (arith, less)

-- ------------------------------------------------------------------ an octet

above : (n : ℕ) → 36 ≤ n → n < 52 → n ≡ number_of (word_of n)
unfolding word_of
above n a b = let same : n - 36 + 36 ≡ n = omega (arith, a) in sym same ∙ number_back (n - 36) (omega (arith, a, b))

module _ (s : ReaderState) (a : 36 ≤ s.node) (b : s.node < 52) (calm : is_broken s.node s.identifiers ≡ false) where
  abbrev wd : Word
  wd = word_of s.node

  here : s.node ≡ number_of wd
  here = above s.node a b

  pub leaves_word : (k : ℕ) → Leaves s (λ o. word_goes wd o k) (Ok (plain false (arrived (word_next s.node k) (chosen_by s.node k s))))
  unfolding Fine
  leaves_word k =
      let fine = fine_word wd k s.identifiers (ap (λ n. is_broken n s.identifiers) (sym here) ∙ calm) in
      leaves_to s (chosen_by s.node k s) (λ o. word_goes wd o k) (word_next s.node k)
      (λ row. goes_word s row k wd ∙ (λ j. by (node_of (word_next (sym here j) k)) (known_of (chosen_by (sym here j) k s) row)))
      ((λ j. is_broken (word_next (here j) k) (same_list s.node k s j)) ∙ fine.0) (eqb-false _ 64 (ap (λ n. eqb (word_next n k) 64) here ∙ fine.1))

  left_word : (s' : ReaderState) (row : Octets) → s'.node ≡ s.node → s'.identifiers ≡ s.identifiers → left_in s' row ≡ left_at (word_node wd) (place_of s') (kept_of s' row)
  left_word s' row e f =
      left_other s' row ((λ j. is_broken (e j) (f j)) ∙ calm) (λ q. omega (arith, q, e, b))
      ∙ ap (λ m. left_at m (place_of s') (kept_of s' row)) (ap node_of (e ∙ here) ∙ node_word wd)

  -- the first octet
  module _ (begins : s.which ≡ 0) where
    first_step : (x : ℕ) (row : Octets) → step_of (left_in s row) x ≡ picked (words wd) (word_goes wd (known_of s row)) (pick x (words wd))
    unfolding left_at word_left place_of kept_of
    first_step x row =
        ap (λ t. step_of t x) (left_word s row refl refl) ∙ ap (λ i. step_of (word_left wd (known_of s row) i s.at) x) begins ∙ word_law wd (known_of s row) x

    abbrev Picks : (x : ℕ) → Option ℕ → Type 0
    Picks x r = r ≡ pick_octets 0 x (words_at (first_number s.node) (word_count s.node))

    place_picked : (x : ℕ) (r : Option ℕ) → Picks x r → pick x (words wd) ≡ r
    place_picked x r e =
        sym (picks_word wd x) ∙ (λ j. pick_octets 0 x (words_at (sym (first_word wd) j) (sym (count_words wd) j))) ∙ ap (λ n. pick_octets 0 x (words_at (first_number n) (word_count n))) (sym here) ∙ sym e

    pub turns_none : (x : ℕ) → Picks x None → Turned s false x (Err Refusal.Outside)
    unfolding picked turn_step refusal_number
    turns_none x e row l f = first_step x row ∙ ap (picked (words wd) (word_goes wd (known_of s row))) (place_picked x None e)

    pub turns_single : (x k : ℕ) (r : Result Turn Refusal) → Picks x (Some k) → is_single s.node ≡ true → Leaves s (λ o. word_goes wd o k) r → Turned s false x r
    unfolding picked ◌>>◌ exactly
    turns_single x k r e i g row l f =
        first_step x row ∙ ap (picked (words wd) (word_goes wd (known_of s row))) (place_picked x (Some k) e)
        ∙ ap (λ t. on (exactly t >> arrive (word_goes wd (known_of s row) k))) (one_octet wd k (ap is_single (sym here) ∙ i))
        ∙ ap on (done_on tt (λ _. arrive (word_goes wd (known_of s row) k))) ∙ g row l

    pub turns_begun : (x k : ℕ) → Picks x (Some k) → is_single s.node ≡ false → Turned s false x (Ok (plain false (on_word (k + 1) 1 s)))
    unfolding picked turn_step plain write left_at word_left place_of kept_of known_of so_far_in on_word behind
    turns_begun x k e i row l f =
        let is = place_picked x (Some k) e in
        let less = one_picked wd x k is in
        let one : k + 1 ≡ suc k = omega arith in
        let long = lt-ltb 1 (length (octets (get_or (words wd) k ""))) (more_octets wd k (ap is_single (sym here) ∙ i) less) in
        first_step x row ∙ ap (picked (words wd) (word_goes wd (known_of s row))) is
        ∙ ap (λ t. on (t >> arrive (word_goes wd (known_of s row) k))) (sym (behind_one long))
        ∙ ap on (ap (λ i. word_left wd (known_of s row) i 1) (sym one)) ∙ ap on (sym (left_word (on_word (k + 1) 1 s) row refl refl))
      where
        behind_one : ltb 1 (length (octets (get_or (words wd) k ""))) ≡ true → behind {R = Said} 1 (octets (get_or (words wd) k "")) ≡ exactly (drop 1 (octets (get_or (words wd) k "")))
        behind_one long = rw long

  -- behind the first octet
  module _ (k : ℕ) (open_word : s.which ≡ suc k) where
    abbrev Says : ℕ → Answer → Type 0
    Says x r = PieceSays (get_or texts (first_number s.node + k) []) s.at x r

    later_step : (x : ℕ) (r : Answer) (row : Octets) → PieceSays (octets (get_or (words wd) k "")) s.at x r
        → step_of (left_in s row) x ≡ goes (λ _. left_in (on_word s.which (s.at + 1) s) row) (arrive (word_goes wd (known_of s row) k)) r
    unfolding kept_of so_far_in known_of on_word place_of
    later_step x r row e =
        ap (λ t. step_of t x) (left_word s row refl refl)
        ∙ word_step (place_of s) (place_of (on_word s.which (s.at + 1) s)) (kept_of s row) x wd k r open_word open_word refl e
        ∙ ap (λ t. goes (λ _. t) (arrive (word_goes wd (known_of s row) k)) r) (sym (left_word (on_word s.which (s.at + 1) s) row refl refl))

    refused_step : (x : ℕ) (r : Refusal) (row : Octets) → PieceSays (octets (get_or (words wd) k "")) s.at x (Err r) → step_of (left_in s row) x ≡ turn_step (Err r) row
    unfolding goes turn_step
    refused_step x r row e = later_step x (Err r) row e

    -- no such word, or past its end
    pub turns_no_word : (x : ℕ) → word_count s.node < s.which → Turned s false x (Err Refusal.Outside)
    unfolding said refusal_number octets
    turns_no_word x h row l f =
        refused_step x Refusal.Outside row
        (behind_past Said s.at (octets (get_or (words wd) k "")) x (let many = ap word_count here ∙ count_words wd in let none = beyond (words wd) k (omega (arith, h, many, open_word)) in omega (arith, none)))
      where
        beyond : (vs : List String) (m : ℕ) → length vs ≤ m → length (octets (get_or vs m "")) ≡ 0
        beyond [] m q = refl
        beyond (v ∷ vs) zero q = absurd (omega (arith, q))
        beyond (v ∷ vs) (suc m) q = beyond vs m (omega (arith, q))

    pub turns_past : (x : ℕ) → 116 ≤ s.at → Turned s false x (Err Refusal.Outside)
    unfolding said refusal_number
    turns_past x h row l f =
        refused_step x Refusal.Outside row
        (behind_past Said s.at (octets (get_or (words wd) k "")) x (let short = short_word wd k in omega (arith, h, short)))

    module _ (room : s.which ≤ word_count s.node) where
      word_says : (x : ℕ) (r : Answer) → Says x r → PieceSays (octets (get_or (words wd) k "")) s.at x r
      word_says x r e =
          let many = ap word_count here ∙ count_words wd in
          subst (λ t. PieceSays t s.at x r)
          (ap (λ n. get_or texts (n + k) []) (ap first_number here ∙ first_word wd) ∙ text_word wd k (omega (arith, room, many, open_word))) e

      pub turns_on : (x : ℕ) → Says x (Ok (Leaf.More tt)) → Turned s false x (Ok (plain false (on_word s.which (s.at + 1) s)))
      unfolding goes turn_step plain write
      turns_on x e row l f = later_step x (Ok (Leaf.More tt)) row (word_says x (Ok (Leaf.More tt)) e)

      pub turns_ended : (x : ℕ) (r : Result Turn Refusal) → Says x (Ok Leaf.Ended) → Leaves s (λ o. word_goes wd o k) r → Turned s false x r
      unfolding goes
      turns_ended x r e g row l f = later_step x (Ok Leaf.Ended) row (word_says x (Ok Leaf.Ended) e) ∙ g row l

      pub turns_refused : (x : ℕ) (r : Refusal) → Says x (Err r) → Turned s false x (Err r)
      turns_refused x r e row l f = refused_step x r row (word_says x (Err r) e)

unfoldable all_below : List ℕ → Type 0
all_below [] = Unit
all_below (x ∷ l) = (x ≤ 75) × all_below l

pub first_small : (n : ℕ) → first_number n ≤ 75
unfolding first_number all_below
first_small n = all_small (36 ∷ 38 ∷ 41 ∷ 44 ∷ 47 ∷ 49 ∷ 52 ∷ 54 ∷ 56 ∷ 58 ∷ 62 ∷ 64 ∷ 66 ∷ 69 ∷ 72 ∷ 75 ∷ []) (n - 36) (omega arith, (omega arith, (omega arith, (omega arith, (omega arith, (omega arith, (omega arith, (omega arith, (omega arith, (omega arith, (omega arith, (omega arith, (omega arith, (omega arith, (omega arith, (omega arith, tt))))))))))))))))
  where
    all_small : (l : List ℕ) (m : ℕ) → all_below l → get_or l m 0 ≤ 75
    all_small [] m h = omega arith
    all_small (x ∷ l) zero h = h.0
    all_small (x ∷ l) (suc m) h = all_small l m h.1

pub count_small : (n : ℕ) → word_count n ≤ 75
unfolding word_count all_below
count_small n = all_small (2 ∷ 3 ∷ 3 ∷ 3 ∷ 2 ∷ 3 ∷ 2 ∷ 2 ∷ 2 ∷ 4 ∷ 2 ∷ 2 ∷ 3 ∷ 3 ∷ 3 ∷ 2 ∷ []) (n - 36) (omega arith, (omega arith, (omega arith, (omega arith, (omega arith, (omega arith, (omega arith, (omega arith, (omega arith, (omega arith, (omega arith, (omega arith, (omega arith, (omega arith, (omega arith, (omega arith, tt))))))))))))))))
  where
    all_small : (l : List ℕ) (m : ℕ) → all_below l → get_or l m 0 ≤ 75
    all_small [] m h = omega arith
    all_small (x ∷ l) zero h = h.0
    all_small (x ∷ l) (suc m) h = all_small l m h.1

-- ------------------------------------------------------------------ as the code says them

module _ (n : ℕ) where
  pub single_below : n < 42 → false ≡ is_single n
  unfolding is_single between
  single_below h = rw (lt-leb 42 n h) refl

  pub single_above : 42 ≤ n → leb n 44 ≡ is_single n
  unfolding is_single between
  single_above h = rw (le-leb 42 n h) refl
