-- Laws of the records of an answer: the first one, and the rest that is read as an answer again.
use mathlib.Core.Path.{◌≡◌, refl, ap, sym, ◌∙◌}
use mathlib.Core.List.{List, [], ◌∷◌, flatten}
use mathlib.Core.Bool.{Bool, true, false, ◌&&◌, false≢true, and-false, and-eq-true_iff}
use Prim.Native.Nat.{ℕ, zero, suc, ◌+◌, ◌-◌, ◌≤◌, ◌<◌}
use native.Mathlib.Omega.{arith}
use lib.Dec.{eqb}
use lib.ListN.{length, get_or}
use Rattle.std.specs.Prelude.{if◌then◌else◌, Some, None, Option, option_map}
use Rattle.octets.specs.Octets.{Octets, octets, same}
use Rattle.octets.specs.Framing.{mark_of, size_of, body_of, after_record, is_whole}
use Rattle.octets.specs.Lent.{over}
use Rattle.octets.proofs.LentLaws.{rest_of}
use Rattle.octets.proofs.FramingLaws.{whole, not_whole, whole_fits, mark_octets}
use Rattle.policy.specs.Records.{read_policy}
use Rattle.txt_found.specs.declared.Found.{Found}
use Rattle.txt_found.specs.code.Finding.{found_of, add_found}
use Rattle.txt_found.proofs.FoundLaws.{found_more}
use Rattle.txt.specs.Answers.{push, joined, rdata_text, push_read, is_text_record, texts_of, policy_records}
use Rattle.txt_read.specs.code.Steps.{is_there, or_empty, front_of, all_texts, Room, Copies, Finds}
use Rattle.txt_read.proofs.StringLaws.{read_joined}
use Rattle.txt_read.proofs.ScratchLaws.{part, rest, onto, first_fits, written, Begun, begun}
use Rattle.policy.specs.declared.Settings.{Settings}

-- RDATA of k octets of the record at the front, and what follows the record, as the code takes them
abbrev pub rdata : ℕ → Octets → Octets
rdata k bs = part 4 (k + 4) bs

abbrev pub others : ℕ → Octets → Octets
others k bs = rest (k + 4) bs

-- ------------------------------------------------------------------ the first text, and those of the rest

pub first_there : (o : Option Octets) (ts : Option (List Octets)) → is_there (push_read o ts) ≡ (is_there o && is_there ts)
unfolding push push_read
first_there None ts = refl
first_there (Some t) None = refl
first_there (Some t) (Some ts) = refl

both_there : (o : Option Octets) (ts : Option (List Octets)) → is_there (push_read o ts) ≡ true → (is_there o ≡ true) × (is_there ts ≡ true)
both_there o ts t = (and-eq-true_iff (is_there o) (is_there ts)).0 (sym (first_there o ts) ∙ t)

-- ------------------------------------------------------------------ the first record, as the code reads it

module _ (t : Octets) where
  front_is : (x : Bool) (k : ℕ) → (if x then Some (size_of t) else None) ≡ Some k → (x ≡ true) × (size_of t ≡ k)
  front_is true k f = (refl, cc)
  front_is false k f = let z : ◌≡◌ {A = ℕ} 0 1 = cc in absurd (omega arith)

  front_not : (x : Bool) → (if x then Some (size_of t) else None) ≡ None → x ≡ false
  front_not true f = let z : ◌≡◌ {A = ℕ} 0 1 = cc in absurd (omega arith)
  front_not false f = refl

-- a text that begins with no whole record of text, as the returns of `read_front` have it
module _ (t : Octets) where
  pub short_front : length t < 4 + size_of t → None ≡ front_of t
  unfolding front_of is_text_record
  short_front h = rw (not_whole t h, and-false (same (mark_of t) (octets "TX")))

  module _ (two : 2 ≤ length t) where
    marked : same (mark_of t) (octets "TX") ≡ (eqb (get_or t 0 0) 84 && eqb (get_or t 1 0) 88)
    unfolding octets
    marked = mark_octets t 84 88 two

    pub no_mark : (eqb (get_or t 0 0) 84 && eqb (get_or t 1 0) 88) ≡ false → None ≡ front_of t
    unfolding front_of is_text_record
    no_mark e = rw (marked, e)

    pub record_front : (eqb (get_or t 0 0) 84 && eqb (get_or t 1 0) 88) ≡ true → 4 + size_of t ≤ length t → Some (size_of t) ≡ front_of t
    unfolding front_of is_text_record
    record_front e h = rw (marked, e, whole t h)

-- a record of k octets of RDATA stands at the front
pub record First (bs : Octets) (k : ℕ) : Type 0 where
  pub within : k + 4 ≤ length bs
  pub texts : (n : ℕ) → texts_of (suc n) bs ≡ push_read (rdata_text (rdata k bs)) (texts_of n (others k bs))

texts_whole : (n : ℕ) (t : Octets) → 4 ≤ length t → is_text_record t ≡ true → texts_of (suc n) t ≡ push_read (rdata_text (body_of t)) (texts_of n (after_record t))
unfolding texts_of
texts_whole n [] h e = absurd (omega arith)
texts_whole n (b ∷ bs) h e = rw (e, texts_of)

pub first : (bs : Octets) (k : ℕ) → front_of bs ≡ Some k → First bs k
unfolding front_of is_text_record body_of after_record
first bs k f =
    let p = front_is bs (is_text_record bs) k f in
    let h = whole_fits bs ((and-eq-true_iff (same (mark_of bs) (octets "TX")) (is_whole bs)).0 p.0).1 in
    let q : k + 4 - 4 ≡ k = omega arith in
    let s : k + 4 ≡ 4 + k = omega arith in
    record {
      within = omega (arith, h, p.1);
      texts = λ n. rw (rest_of bs (k + 4), q, s, ← p.1) (texts_whole n bs (omega (arith, h)) p.0);
    }

-- whether all can be read, with a budget of n records
pub whether : {bs : Octets} {k : ℕ} → First bs k → (n : ℕ) → (n ≡ 0 → ⊥) → is_there (texts_of n bs) ≡ (is_there (rdata_text (rdata k bs)) && is_there (texts_of (n - 1) (others k bs)))
whether f zero z = absurd (z refl)
whether {bs} {k} f (suc n) z =
    let r : suc n - 1 ≡ n = omega arith in
    rw r (ap is_there (f.texts n) ∙ first_there (rdata_text (rdata k bs)) (texts_of n (others k bs)))

-- no record stands at the front
pub unreadable : (n : ℕ) (bs : Octets) → (length bs ≡ 0 → ⊥) → front_of bs ≡ None → texts_of n bs ≡ None
unfolding texts_of front_of
unreadable n [] h f = absurd (h refl)
unreadable zero (b ∷ bs) h f = refl
unreadable (suc n) (b ∷ bs) h f = rw (front_not (b ∷ bs) (is_text_record (b ∷ bs)) f, texts_of)

pub no_octets : (n : ℕ) (bs : Octets) → length bs ≡ 0 → texts_of n bs ≡ Some []
unfolding texts_of
no_octets zero [] h = refl
no_octets (suc n) [] h = refl
no_octets n (b ∷ bs) h = absurd (omega arith)

pub no_budget : (bs : Octets) → (length bs ≡ 0 → ⊥) → texts_of 0 bs ≡ None
unfolding texts_of
no_budget [] h = absurd (h refl)
no_budget (b ∷ bs) h = refl

-- one record more may be there, and is not
more_budget : (n : ℕ) (bs : Octets) → is_there (texts_of n bs) ≡ true → texts_of (suc n) bs ≡ texts_of n bs
more_budget zero [] t = no_octets 1 [] refl ∙ sym (no_octets 0 [] refl)
more_budget zero (b ∷ bs) t = absurd (false≢true (sym (ap is_there (no_budget (b ∷ bs) (λ e. omega arith))) ∙ t))
more_budget (suc n) [] t = no_octets (suc (suc n)) [] refl ∙ sym (no_octets (suc n) [] refl)
more_budget (suc n) (b ∷ bs) t = go (λ l. more_budget n l) (front_of (b ∷ bs)) refl
  where
    go : ((l : Octets) → is_there (texts_of n l) ≡ true → texts_of (suc n) l ≡ texts_of n l) → (f : Option ℕ) → front_of (b ∷ bs) ≡ f → texts_of (suc (suc n)) (b ∷ bs) ≡ texts_of (suc n) (b ∷ bs)
    go again None e = unreadable (suc (suc n)) (b ∷ bs) (λ z. omega arith) e ∙ sym (unreadable (suc n) (b ∷ bs) (λ z. omega arith) e)
    go again (Some k) e =
        let f = first (b ∷ bs) k e in
        let o = rdata_text (rdata k (b ∷ bs)) in
        let l = others k (b ∷ bs) in
        f.texts (suc n) ∙ ap (push_read o) (again l (both_there o (texts_of n l) (sym (ap is_there (f.texts n)) ∙ t)).1) ∙ sym (f.texts n)

-- ------------------------------------------------------------------ the texts, one after another

pub map_there : (o : Option (List Octets)) → is_there (option_map flatten o) ≡ is_there o
map_there None = refl
map_there (Some ts) = refl

pub map_flat : (o : Option (List Octets)) → or_empty (option_map flatten o) ≡ flatten (or_empty o)
unfolding flatten
map_flat None = refl
map_flat (Some ts) = refl

first_onto : (o : Option Octets) (ts : Option (List Octets)) → is_there o ≡ true → option_map flatten (push_read o ts) ≡ onto (or_empty o) (option_map flatten ts)
unfolding push push_read onto flatten
first_onto None ts t = absurd (false≢true t)
first_onto (Some t) None p = refl
first_onto (Some t) (Some ts) p = refl

first_of : (o : Option Octets) (ts : Option (List Octets)) → is_there o ≡ true → is_there ts ≡ true → or_empty (push_read o ts) ≡ or_empty o ∷ or_empty ts
unfolding push push_read
first_of None ts t u = absurd (false≢true t)
first_of (Some t) None p u = absurd (false≢true u)
first_of (Some t) (Some ts) p u = refl

-- the answer ends where no record stands
ended : (bs : Octets) → front_of bs ≡ None → is_there (texts_of 16 bs) ≡ true → texts_of 16 bs ≡ Some []
ended [] f t = no_octets 16 [] refl
ended (b ∷ bs) f t = absurd (false≢true (sym (ap is_there (unreadable 16 (b ∷ bs) (λ e. omega arith) f)) ∙ t))

pub finds_nothing : (bs m : Octets) → front_of bs ≡ None → Room (all_texts bs) m → Finds bs m Found.Nothing m
unfolding all_texts policy_records found_of over flatten
finds_nothing bs m f room =
    let e = ended bs f (sym (map_there (texts_of 16 bs)) ∙ room.reads) in
    record { answers = rw e; leaves = rw e }

-- a readable answer with a record of k octets of RDATA at its front, and memory m with room for its texts
module _ (bs : Octets) (k : ℕ) (f : front_of bs ≡ Some k) (m : Octets) (room : Room (all_texts bs) m) where
  there : (is_there (rdata_text (rdata k bs)) ≡ true) × (is_there (texts_of 15 (others k bs)) ≡ true)
  unfolding all_texts
  there =
      both_there (rdata_text (rdata k bs)) (texts_of 15 (others k bs))
      (sym (ap is_there ((first bs k f).texts 15)) ∙ sym (map_there (texts_of 16 bs)) ∙ room.reads)

  apart : texts_of 16 bs ≡ push_read (joined 0 (rdata k bs)) (texts_of 16 (others k bs))
  apart =
      (first bs k f).texts 15
      ∙ rw (more_budget 15 (others k bs) there.1, read_joined (rdata k bs) there.0)

  rest_there : is_there (texts_of 16 (others k bs)) ≡ true
  rest_there = ap is_there (more_budget 15 (others k bs) there.1) ∙ there.1

  -- the first record's text, and those of the rest
  text_there : is_there (joined 0 (rdata k bs)) ≡ true
  text_there = sym (ap is_there (read_joined (rdata k bs) there.0)) ∙ there.0

  both : all_texts bs ≡ onto (or_empty (joined 0 (rdata k bs))) (all_texts (others k bs))
  unfolding all_texts
  both = ap (option_map flatten) apart ∙ first_onto (joined 0 (rdata k bs)) (texts_of 16 (others k bs)) text_there

  room_for_both : Room (onto (or_empty (joined 0 (rdata k bs))) (all_texts (others k bs))) m
  room_for_both = rw both at room

  pub room_for_text : Room (joined 0 (rdata k bs)) m
  room_for_text = record { reads = text_there; fits = first_fits (or_empty (joined 0 (rdata k bs))) m (all_texts (others k bs)) room_for_both }

  -- the text is copied
  module _ (j : ℕ) (m₁ : Octets) (c : Copies (joined 0 (rdata k bs)) m j m₁) where
    pub text_copied : Begun (all_texts bs) (all_texts (others k bs)) m m₁ j
    text_copied = rw both (begun (or_empty (joined 0 (rdata k bs))) m (all_texts (others k bs)) room_for_both j c.answers m₁ c.leaves)

    -- and with the policy records of the rest, those of the answer are found
    pub found_with : (r : Option Settings) (f₁ : Found) → r ≡ read_policy (part 0 j m₁) → f₁ ≡ found_of (policy_records (or_empty (texts_of 16 (others k bs))))
        → add_found r f₁ ≡ found_of (policy_records (or_empty (texts_of 16 bs)))
    unfolding policy_records
    found_with r f₁ p q =
        let t = or_empty (joined 0 (rdata k bs)) in
        let ts = texts_of 16 (others k bs) in
        let e : part 0 j m₁ ≡ t = written t m (all_texts (others k bs)) room_for_both j c.answers m₁ c.leaves in
        rw (p, q, e, apart, first_of (joined 0 (rdata k bs)) ts text_there rest_there) (found_more (read_policy t) (policy_records (or_empty ts)))
