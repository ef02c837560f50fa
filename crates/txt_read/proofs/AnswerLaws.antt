-- Laws of a whole answer: its texts fit the scratch, and what taking it gives and leaves.
use Rattle.std.specs.Prelude.{Result, Ok, Err, Some, None, Option}
use mathlib.Core.Path.{◌≡◌, refl, ap, sym, ◌∙◌}
use mathlib.Core.List.{List, [], ◌∷◌, flatten}
use mathlib.Core.Logic.{⊎_elim}
use mathlib.Core.Bool.{Bool, true, false, false≢true}
use Prim.Native.Nat.{ℕ, zero, suc, ◌+◌, ◌-◌, ◌≤◌, ◌<◌}
use native.Mathlib.Omega.{arith}
use borrow.Author.Tests.{le-leb, lt-leb, leb-true, leb-false}
use denote.Enum.Declared.{tag_of}
use types.Run.{OneOf}
use lib.Dec.{leb}
use lib.ListN.{length, drop, length-append, length-take, length-drop}
use Rattle.octets.specs.Octets.{Octets}
use Rattle.octets.specs.Lent.{over}
use Rattle.octets.specs.Refusing.{refusal}
use Rattle.txt.specs.declared.Status.{Status}
use Rattle.txt_found.specs.declared.Found.{Found}
use Rattle.txt_found.specs.code.Finding.{found_reply}
use Rattle.txt_found.proofs.FoundLaws.{found_single}
use Rattle.txt.specs.declared.Reply.{Reply}
use Rattle.txt.specs.Answers.{Answer, records, answer_of, push, joined, rdata_text, push_read, texts_of, texts_read, texts, scratch_after, policy_records, single, reply_of_texts, reply}
use Rattle.txt.specs.Taking.{taken, left_after, Takes}
use Rattle.txt_read.specs.code.Steps.{is_there, or_empty, front_of, all_texts, Room, Finds}
use Rattle.txt.specs.contracts.Status.{the_type}
use Rattle.txt_read.proofs.RecordLaws.{map_there, map_flat, rdata, others, first, unreadable, no_octets, no_budget}
use Rattle.octets.specs.declared.Refusal.{Refusal}

-- ------------------------------------------------------------------ the texts are no longer than the bytes

push_length : (b : ℕ) (o : Option Octets) → length (or_empty (push b o)) ≤ suc (length (or_empty o))
unfolding push
push_length b None = omega arith
push_length b (Some t) = omega arith

joined_length : (n : ℕ) (bs : Octets) → length (or_empty (joined n bs)) ≤ length bs
unfolding joined
joined_length zero [] = omega arith
joined_length zero (n ∷ bs) = omega (arith, joined_length n bs)
joined_length (suc n) [] = omega arith
joined_length (suc n) (b ∷ bs) = omega (arith, joined_length n bs, push_length b (joined n bs))

text_length : (bs : Octets) → length (or_empty (rdata_text bs)) ≤ length bs
unfolding rdata_text
text_length [] = omega arith
text_length (n ∷ bs) = omega (arith, joined_length n bs)

first_length : (o : Option Octets) (ts : Option (List Octets)) → length (flatten (or_empty (push_read o ts))) ≤ length (or_empty o) + length (flatten (or_empty ts))
unfolding push push_read flatten
first_length None ts = omega arith
first_length (Some t) None = omega arith
first_length (Some t) (Some ts) = omega (arith, length-append t (flatten ts))

texts_length : (n : ℕ) (bs : Octets) → length (flatten (or_empty (texts_of n bs))) ≤ length bs
unfolding flatten
texts_length zero [] = rw (no_octets 0 [] refl) (omega arith)
texts_length zero (b ∷ bs) = rw (no_budget (b ∷ bs) (λ e. omega arith)) (omega arith)
texts_length (suc n) [] = rw (no_octets (suc n) [] refl) (omega arith)
texts_length (suc n) (b ∷ bs) = go (λ l. texts_length n l) (front_of (b ∷ bs)) refl
  where
    go : ((l : Octets) → length (flatten (or_empty (texts_of n l))) ≤ length l) → (f : Option ℕ) → front_of (b ∷ bs) ≡ f → length (flatten (or_empty (texts_of (suc n) (b ∷ bs)))) ≤ length (b ∷ bs)
    go again None e = rw (unreadable (suc n) (b ∷ bs) (λ z. omega arith) e) (omega arith)
    go again (Some k) e =
        let s = b ∷ bs in
        let f = first s k e in
        let r = rdata k s in
        let l = others k s in
        rw (f.texts n)
        (omega (arith, f.within, again l, first_length (rdata_text r) (texts_of n l), text_length r, length-take (k + 4 - 4) (drop 4 s), length-take (length s - (k + 4)) (drop (k + 4) s), length-drop (k + 4) s))

-- ------------------------------------------------------------------ an answer within the limits

there_just : (o : Option (List Octets)) → is_there o ≡ true → o ≡ Some (or_empty o)
there_just None t = absurd (false≢true t)
there_just (Some ts) t = refl

not_there : (o : Option (List Octets)) → is_there o ≡ false → o ≡ None
not_there None t = refl
not_there (Some ts) t = absurd (false≢true (sym t))

pub limit_kept : (bytes : Octets) → length bytes ≤ 4096 → texts_read bytes ≡ texts_of 16 bytes
unfolding texts_read
limit_kept bytes h = rw (le-leb (length bytes) 4096 h)

pub limit_broken : (bytes : Octets) → 4096 < length bytes → texts_read bytes ≡ None
unfolding texts_read
limit_broken bytes h = rw (lt-leb (length bytes) 4096 h)

-- the octets of a readable answer are within the limit
within_limit : (bytes : Octets) → is_there (texts_read bytes) ≡ true → length bytes ≤ 4096
within_limit bytes t = go (leb (length bytes) 4096) refl
  where
    go : (b : Bool) → leb (length bytes) 4096 ≡ b → length bytes ≤ 4096
    go true e = leb-true (length bytes) 4096 e
    go false e = absurd (false≢true (sym (ap is_there (limit_broken bytes (leb-false (length bytes) 4096 e))) ∙ t))

-- the texts of a readable answer fit the scratch
pub texts_fit : (bytes : Octets) → is_there (texts_read bytes) ≡ true → length (flatten (or_empty (texts_of 16 bytes))) ≤ 4096
texts_fit bytes t = omega (arith, texts_length 16 bytes, within_limit bytes t)

-- ------------------------------------------------------------------ what taking an answer gives and leaves

module _ (a : Answer) (m : Octets) (r : Result Reply Refusal) where
  -- refusal 6
  pub refuses_answer : is_there (texts a) ≡ false → r ≡ Err (refusal 6 0) → Takes a m r m
  unfolding taken left_after
  refuses_answer t f =
      let e = not_there (texts a) t in
      record { answers = rw (e, f, taken); leaves = rw (e, left_after) }

  module _ (ts : List Octets) (e : texts a ≡ Some ts) where
    -- refusal 10
    pub refuses_scratch : length m < 4096 → r ≡ Err (refusal 10 4096) → Takes a m r m
    unfolding taken left_after
    refuses_scratch h f = record {
      answers = rw (e, taken) (rw (lt-leb 4096 (length m) h) f);
      leaves = rw (e, left_after) (rw (lt-leb 4096 (length m) h));
    }

    pub replies : 4096 ≤ length m → r ≡ Ok (reply a) → (after : Octets) → after ≡ over (flatten ts) m → Takes a m r after
    unfolding taken left_after scratch_after
    replies h f after g = record {
      answers = rw (e, taken) (rw (le-leb 4096 (length m) h) f);
      leaves = rw (e, left_after) (rw (le-leb 4096 (length m) h) g);
    }

-- ------------------------------------------------------------------ records

module _ (bytes m : Octets) (t : is_there (texts_read bytes) ≡ true) where
  read_whole : texts_read bytes ≡ texts_of 16 bytes
  read_whole = limit_kept bytes (within_limit bytes t)

  read_texts : texts_read bytes ≡ Some (or_empty (texts_of 16 bytes))
  read_texts = there_just (texts_read bytes) t ∙ rw read_whole

  pub scratch_short : length m < 4096 → (r : Result Reply Refusal) → r ≡ Err (refusal 10 4096) → Takes (records bytes) m r m
  unfolding texts
  scratch_short h r f = refuses_scratch (records bytes) m r (or_empty (texts_of 16 bytes)) read_texts h f

  pub room_for_texts : 4096 ≤ length m → Room (all_texts bytes) m
  unfolding all_texts
  room_for_texts h = record {
    reads = map_there (texts_of 16 bytes) ∙ sym (ap is_there read_whole) ∙ t;
    fits = omega (arith, texts_fit bytes t, ap length (map_flat (texts_of 16 bytes)));
  }

  pub taken_records : 4096 ≤ length m → (f : Found) (after : Octets) → Finds bytes m f after → (r : Reply) → r ≡ found_reply f → Takes (records bytes) m (Ok r) after
  unfolding texts reply reply_of_texts all_texts
  taken_records h f after d r e =
      let ts = or_empty (texts_of 16 bytes) in
      let replied : r ≡ single (policy_records ts) = e ∙ ap found_reply d.answers ∙ found_single (policy_records ts) in
      replies (records bytes) m (Ok r) ts read_texts h (rw (read_texts, replied)) after (d.leaves ∙ ap (λ x. over x m) (map_flat (texts_of 16 bytes)))

-- ------------------------------------------------------------------ none and error

-- a status that is not records
abbrev pub Bare : Status → Type 0
Bare s = s ≡ Status.Records → ⊥

bare_texts : (s : Status) (bytes : Octets) → Bare s → texts (answer_of s bytes) ≡ Some []
unfolding answer_of texts
bare_texts Status.Records bytes t = absurd (t refl)
bare_texts Status.NoRecords bytes t = refl
bare_texts Status.Error bytes t = refl

pub none_reply : (s : Status) (bytes : Octets) → Bare s → (s ≡ Status.Error → ⊥) → Reply.NoRecord ≡ reply (answer_of s bytes)
unfolding answer_of reply
none_reply Status.Records bytes t u = absurd (t refl)
none_reply Status.NoRecords bytes t u = refl
none_reply Status.Error bytes t u = absurd (u refl)

module _ (s : Status) (bytes m : Octets) (t : Bare s) where
  pub bare_short : length m < 4096 → (r : Result Reply Refusal) → r ≡ Err (refusal 10 4096) → Takes (answer_of s bytes) m r m
  bare_short h r f = refuses_scratch (answer_of s bytes) m r [] (bare_texts s bytes t) h f

  pub bare_reply : 4096 ≤ length m → (r : Reply) → r ≡ reply (answer_of s bytes) → Takes (answer_of s bytes) m (Ok r) m
  unfolding over flatten
  bare_reply h r f = replies (answer_of s bytes) m (Ok r) [] (bare_texts s bytes t) h (ap Ok f) m refl
