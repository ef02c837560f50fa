-- Laws of an answer's texts at the confirming name.
use mathlib.Core.Path.{◌≡◌, refl, ap, sym, ◌∙◌}
use mathlib.Core.List.{List, [], ◌∷◌, ◌++◌, flatten, append_assoc}
use mathlib.Core.Bool.{Bool, true, false, false≢true}
use Prim.Native.Nat.{ℕ, zero, suc, ◌+◌, ◌-◌, ◌≤◌, ◌<◌}
use native.Mathlib.Omega.{arith}
use native.Mathlib.Numerals.{add-one}
use lib.Dec.{leb}
use lib.ListN.{length, take, drop, get_or}
use lib.Seq.{drop-drop, drop_at, take_at}
use borrow.Author.Tests.{leb-true}
use Rattle.std.specs.Prelude.{if◌then◌else◌, Result, Ok, Err, Some, None, Option}
use Rattle.octets.specs.Octets.{Octets, part_of, all, same}
use Rattle.octets.specs.Lent.{over}
use Rattle.octets.specs.Refusing.{refusal}
use Rattle.octets.specs.declared.Refusal.{Refusal}
use Rattle.octets.proofs.LentLaws.{rest_of}
use Rattle.octets.proofs.TextLaws.{true→T}
use Rattle.domain.specs.Domain.{Domain}
use Rattle.policy.specs.declared.Bounds.{Bounds}
use Rattle.policy.specs.Records.{read_policy, rua_text, rua_begin, rua_length, rua_bounds}
use Rattle.policy_read.proofs.RecordLaws.{rua_fits}
use Rattle.txt.specs.declared.Status.{Status}
use Rattle.txt.specs.declared.Reply.{Reply}
use Rattle.txt.specs.Answers.{Answer, records, no_records, lookup_error, answer_of, push, joined, rdata_text, push_read, texts_of, texts_read, texts, scratch_after, reply}
use Rattle.txt.specs.Taking.{taken, left_after, Takes}
use Rattle.txt_read.specs.code.Steps.{is_there, or_empty, front_of}
use Rattle.txt_read.proofs.StringLaws.{read_joined, one_passed}
use Rattle.txt_read.proofs.ScratchLaws.{rest}
use Rattle.txt_read.proofs.RecordLaws.{rdata, others, First, first, unreadable, no_octets, no_budget}
use Rattle.address.specs.declared.Agreement.{Agreement}
use Rattle.address.specs.Address.{rua_hosts, by_hosts, agreement, confirmation}
use Rattle.address_hosts.specs.declared.Hosts.{Hosts}
use Rattle.address_hosts.specs.declared.Said.{Said}
use Rattle.address_hosts.specs.code.Saying.{hosts_said, record_said, text_said}
use Rattle.address_texts.specs.code.Confirming.{JudgesTexts, confirming_of, TakesConfirming}
use Rattle.policy.specs.declared.Settings.{Settings}
use Rattle.std.proofs.lemmas.Option.{same_Some, none-some}

-- ------------------------------------------------------------------ the length of a text

push_there : (b : ℕ) (o : Option Octets) → is_there (push b o) ≡ is_there o
unfolding push
push_there b None = refl
push_there b (Some t) = refl

push_size : (b : ℕ) (o : Option Octets) → is_there o ≡ true → length (or_empty (push b o)) ≡ suc (length (or_empty o))
unfolding push
push_size b None e = absurd (false≢true e)
push_size b (Some t) e = refl

-- the string that is open, and the others
size_fits : (n : ℕ) (bs : Octets) → n ≤ length bs → is_there (joined n bs) ≡ true
    → length (or_empty (joined n bs)) ≡ n + length (or_empty (joined 0 (drop n bs)))
unfolding joined
size_fits zero bs h e = omega arith
size_fits (suc n) [] h e = absurd (omega arith)
size_fits (suc n) (b ∷ bs) h e =
    let t : is_there (joined n bs) ≡ true = sym (push_there b (joined n bs)) ∙ e in
    omega (arith, push_size b (joined n bs) t, size_fits n bs (omega arith) t)

pub next_size : (l : Octets) (k : ℕ) → k ≡ get_or l 0 0 → 0 < length l → k + 1 ≤ length l → is_there (joined 0 l) ≡ true
    → (is_there (joined 0 (rest (k + 1) l)) ≡ true) × (length (or_empty (joined 0 l)) ≡ k + length (or_empty (joined 0 (rest (k + 1) l))))
unfolding joined
next_size [] k e h r t = absurd (omega arith)
next_size (n ∷ bs) k e h r t = (
  sym (one_passed (n ∷ bs) k e h r) ∙ t,
  rw (rest_of (n ∷ bs) (k + 1), add-one k, e) (size_fits n bs (omega arith) t),
)

pub not_there : (o : Option Octets) → is_there o ≡ false → is_there o ≡ true → ⊥
not_there o e f = false≢true (sym e ∙ f)

-- ------------------------------------------------------------------ what one text more says

unfoldable by_said : (at : ℕ) → (passed heard : Agreement) → Said → Agreement
by_said at passed heard Said.NoRecord = passed
by_said at passed heard Said.Silent = heard
by_said at passed heard (Said.Replaces b) = Agreement.Replaced (record { begin = at + b.begin; length = b.length })
by_said at passed heard Said.Other = Agreement.PlainNo

hosts_by : (h : Domain) (at : ℕ) (t : Octets) (hs : List Domain) (passed heard : Agreement)
    → by_hosts h at t hs heard ≡ by_said at passed heard (record_said t (hosts_said h hs))
unfolding by_hosts by_said record_said hosts_said rua_bounds
hosts_by h at t [] passed heard = refl
hosts_by h at t (x ∷ xs) passed heard =
    elim (all (same h) (x ∷ xs)) as (λ b.
    (if b then Agreement.Replaced (record { begin = at + rua_begin t; length = rua_length t }) else Agreement.PlainNo)
    ≡ by_said at passed heard (record_said t (if b then Hosts.Same else Hosts.Other))) [
      | true ↦ refl
      | false ↦ refl
    ]

text_by : (h : Domain) (at : ℕ) (one : Bool) (t : Octets) (ts : List Octets)
    → agreement h at one (t ∷ ts) ≡ by_said at (agreement h (at + length t) one ts) (agreement h (at + length t) true ts) (text_said h t)
unfolding agreement text_said by_said
text_by h at one t ts = go (read_policy t)
  where
    go : (r : Option Settings) → elim r as (λ _. Agreement) [
      | Some s ↦ by_hosts h at t (rua_hosts (rua_text t)) (agreement h (at + length t) true ts)
      | None ↦ agreement h (at + length t) one ts
    ] ≡ by_said at (agreement h (at + length t) one ts) (agreement h (at + length t) true ts) (elim r as (λ _. Said) [
      | None ↦ Said.NoRecord
      | Some s ↦ record_said t (hosts_said h (rua_hosts (rua_text t)))
    ])
    go None = refl
    go (Some s) = hosts_by h at t (rua_hosts (rua_text t)) (agreement h (at + length t) one ts) (agreement h (at + length t) true ts)

-- ------------------------------------------------------------------ what is left of an answer

-- texts that are still to be judged, where they stand in the scratch, and that they say what the whole says
pub record Remains (scratch m : Octets) (h : Domain) (bytes : Octets) (at : ℕ) (one : Bool) (budget : ℕ) (whole : Agreement) : Type 0 where
  pub left : List Octets
  pub read : texts_of budget bytes ≡ Some left
  pub there : drop at scratch ≡ flatten left ++ m
  pub says : agreement h at one left ≡ whole

cons_nil : (t : Octets) (ts : List Octets) → [] ≡ t ∷ ts → ⊥
cons_nil t ts e = true→T {b = false} (cc e)

-- a first text and the others, where both could be read
push_parts : (o : Option Octets) (u : Option (List Octets)) (ts : List Octets) → push_read o u ≡ Some ts
    → (t : Octets) × (us : List Octets) × (o ≡ Some t) × (u ≡ Some us) × (ts ≡ t ∷ us)
unfolding push_read push
push_parts None u ts e = absurd (none-some ts e)
push_parts (Some t) None ts e = absurd (none-some ts e)
push_parts (Some t) (Some us) ts e = (t, us, refl, refl, sym (same_Some (t ∷ us) ts e))

module _ {scratch m : Octets} {h : Domain} {bytes : Octets} {at : ℕ} {one : Bool} {whole : Agreement} {budget : ℕ}
    (w : Remains scratch m h bytes at one budget whole) where
  nothing_more : w.left ≡ [] → (if one then Agreement.Confirmed else Agreement.PlainNo) ≡ whole
  unfolding agreement
  nothing_more e = ap (agreement h at one) (sym e) ∙ w.says

  -- no record is left
  pub none_left : front_of bytes ≡ None → (if one then Agreement.Confirmed else Agreement.PlainNo) ≡ whole
  none_left f = nothing_more (go bytes f w.left w.read)
    where
      go : (bs : Octets) → front_of bs ≡ None → (ts : List Octets) → texts_of budget bs ≡ Some ts → ts ≡ []
      go [] f ts e = sym (same_Some [] ts (sym (no_octets budget [] refl) ∙ e))
      go (b ∷ bs) f ts e = absurd (none-some ts (sym (unreadable budget (b ∷ bs) (λ z. omega arith) f) ∙ e))

  -- no more may be read
  pub none_allowed : budget ≤ 0 → (if one then Agreement.Confirmed else Agreement.PlainNo) ≡ whole
  none_allowed z = let e : budget ≡ 0 = omega arith in nothing_more (go bytes w.left (rw e at w.read))
    where
      go : (bs : Octets) (ts : List Octets) → texts_of 0 bs ≡ Some ts → ts ≡ []
      go [] ts e = sym (same_Some [] ts (sym (no_octets 0 [] refl) ∙ e))
      go (b ∷ bs) ts e = absurd (none-some ts (sym (no_budget (b ∷ bs) (λ z. omega arith)) ∙ e))

  -- one record more
  module _ (p : 0 < budget) {k : ℕ} (f : front_of bytes ≡ Some k) {size : ℕ}
      (z : is_there (joined 0 (rdata k bytes)) ≡ true → size ≡ length (or_empty (joined 0 (rdata k bytes))))
      {piece : Octets} (q : piece ≡ part_of scratch at (at + size)) {x : Said} (y : x ≡ text_said h piece) where
    apart : (t : Octets) × (us : List Octets) × (rdata_text (rdata k bytes) ≡ Some t)
        × (texts_of (budget - 1) (others k bytes) ≡ Some us) × (w.left ≡ t ∷ us)
    apart =
        let b : budget ≡ suc (budget - 1) = omega arith in
        push_parts (rdata_text (rdata k bytes)) (texts_of (budget - 1) (others k bytes)) w.left
        (sym ((first bytes k f).texts (budget - 1)) ∙ ap (λ n. texts_of n bytes) (sym b) ∙ w.read)

    text : Octets
    text = apart.0

    after : List Octets
    after = apart.1

    read_text : joined 0 (rdata k bytes) ≡ Some text
    unfolding text
    read_text = sym (read_joined (rdata k bytes) (ap is_there apart.2)) ∙ apart.2

    sized : size ≡ length text
    sized = z (ap is_there read_text) ∙ ap (λ o. length (or_empty o)) read_text

    stands : drop at scratch ≡ text ++ (flatten after ++ m)
    unfolding flatten text after
    stands = w.there ∙ ap (λ l. flatten l ++ m) apart.4 ∙ append_assoc text (flatten after) m

    cut_out : piece ≡ text
    unfolding part_of
    cut_out = let d : at + size - at ≡ size = omega arith in q ∙ rw (d, stands) (take_at text (flatten after ++ m) size (sym sized))

    onward : drop (at + size) scratch ≡ flatten after ++ m
    onward = sym (drop-drop size at scratch) ∙ ap (drop size) stands ∙ drop_at text (flatten after ++ m) size (sym sized)

    turned : by_said at (agreement h (at + size) one after) (agreement h (at + size) true after) x ≡ whole
    unfolding text after
    turned =
        ap (by_said at (agreement h (at + size) one after) (agreement h (at + size) true after)) (y ∙ ap (text_said h) cut_out)
        ∙ ap (λ (n : ℕ). by_said at (agreement h (at + n) one after) (agreement h (at + n) true after) (text_said h text)) sized
        ∙ sym (text_by h at one text after) ∙ ap (agreement h at one) (sym apart.4) ∙ w.says

    pub passes : x ≡ Said.NoRecord → Remains scratch m h (others k bytes) (at + size) one (budget - 1) whole
    unfolding by_said after
    passes e =
        let said = sym (ap (by_said at (agreement h (at + size) one after) (agreement h (at + size) true after)) e) ∙ turned in
        record { left = after; read = apart.3; there = onward; says = said }

    pub hears : x ≡ Said.Silent → Remains scratch m h (others k bytes) (at + size) true (budget - 1) whole
    unfolding by_said after
    hears e =
        let said = sym (ap (by_said at (agreement h (at + size) one after) (agreement h (at + size) true after)) e) ∙ turned in
        record { left = after; read = apart.3; there = onward; says = said }

    pub replaces : (b : Bounds) → x ≡ Said.Replaces b → Agreement.Replaced (record { begin = at + b.begin; length = b.length }) ≡ whole
    unfolding by_said
    replaces b e = sym (ap (by_said at (agreement h (at + size) one after) (agreement h (at + size) true after)) e) ∙ turned

    pub another : x ≡ Said.Other → Agreement.PlainNo ≡ whole
    unfolding by_said
    another e = sym (ap (by_said at (agreement h (at + size) one after) (agreement h (at + size) true after)) e) ∙ turned

pub all_remain : (bytes scratch : Octets) (h : Domain) (ts : List Octets) (m : Octets) → texts_of 16 bytes ≡ Some ts → scratch ≡ flatten ts ++ m
    → Remains scratch m h bytes 0 false 16 (agreement h 0 false ts)
all_remain bytes scratch h ts m e f = record { left = ts; read = e; there = f; says = refl }

-- the bounds of a record that replaces lie in its text
pub bounds_in : (h : Domain) (t : Octets) (b : Bounds) → Said.Replaces b ≡ text_said h t → b.begin ≤ length t
unfolding text_said record_said
bounds_in h t b e = go (read_policy t) (hosts_said h (rua_hosts (rua_text t))) e
  where
    go : (r : Option Settings) (x : Hosts) → Said.Replaces b ≡ elim r as (λ _. Said) [ None ↦ Said.NoRecord | Some s ↦ record_said t x ]
        → b.begin ≤ length t
    go None x e = absurd (true→T {b = false} (cc e))
    go (Some s) Hosts.Nothing e = absurd (true→T {b = false} (cc e))
    go (Some s) Hosts.Other e = absurd (true→T {b = false} (cc e))
    go (Some s) Hosts.Same e = let f : b ≡ rua_bounds t = cc in omega (arith, rua_fits t b f)

-- ------------------------------------------------------------------ a whole answer

readable : (bytes : Octets) (ts : List Octets) → texts_read bytes ≡ Some ts → texts_read bytes ≡ texts_of 16 bytes
unfolding texts_read
readable bytes ts e = go (leb (length bytes) 4096) e
  where
    go : (b : Bool) → (if b then texts_of 16 bytes else None) ≡ Some ts → (if b then texts_of 16 bytes else None) ≡ texts_of 16 bytes
    go true e = refl
    go false e = absurd (none-some ts e)

taken_ok : (a : Answer) (before : Octets) (r : Reply) → Ok r ≡ taken a before
    → (ts : List Octets) × (texts a ≡ Some ts) × (left_after a before ≡ scratch_after ts before)
unfolding taken left_after
taken_ok a before r e = go (texts a) refl e
  where
    go : (o : Option (List Octets)) → texts a ≡ o → Ok r ≡ elim o as (λ _. (Result Reply Refusal)) [
      | None ↦ Err (refusal 6 0)
      | Some ts ↦ if leb 4096 (length before) then Ok (reply a) else Err (refusal 10 4096)
    ] → (ts : List Octets) × (texts a ≡ Some ts)
        × (elim (texts a) as (λ _. Octets) [ None ↦ before | Some ts ↦ if leb 4096 (length before) then scratch_after ts before else before ]
        ≡ scratch_after ts before)
    go None q e = absurd (true→T {b = false} (cc e))
    go (Some ts) q e = fit (leb 4096 (length before)) refl e
      where
        fit : (b : Bool) → leb 4096 (length before) ≡ b → Ok r ≡ (if b then Ok (reply a) else Err (refusal 10 4096))
            → (ts : List Octets) × (texts a ≡ Some ts)
            × (elim (texts a) as (λ _. Octets) [ None ↦ before | Some ts ↦ if leb 4096 (length before) then scratch_after ts before else before ]
            ≡ scratch_after ts before)
        fit true f e = (ts, q, rw (q, f))
        fit false f e = absurd (true→T {b = false} (cc e))

module _ (h : Domain) (a : Answer) {before after : Octets} {t : Result Reply Refusal} (k : Takes a before t after) where
  pub refuses : (f : Refusal) → t ≡ Err f → TakesConfirming a h before (Err f) after
  unfolding confirming_of
  refuses f e = record { answers = ap (confirming_of h a) (sym e ∙ k.answers); leaves = k.leaves }

  pub says_it : (r : Reply) → t ≡ Ok r → {g : Agreement} → g ≡ confirmation h a → TakesConfirming a h before (Ok g) after
  unfolding confirming_of
  says_it r e f = record { answers = ap Ok f ∙ ap (confirming_of h a) (sym e ∙ k.answers); leaves = k.leaves }

-- of records, what their texts say
pub says_records : (h : Domain) (bytes : Octets) {before after : Octets} {t : Result Reply Refusal} → Takes (records bytes) before t after
    → (r : Reply) → t ≡ Ok r
    → {g : Agreement} → JudgesTexts bytes after h g → g ≡ confirmation h (records bytes)
unfolding confirmation texts scratch_after over
says_records h bytes {before} {after} k r e {g} c =
    let (ts, f, l) = taken_ok (records bytes) before r (sym e ∙ k.answers) in
    let read : texts_of 16 bytes ≡ Some ts = sym (readable bytes ts f) ∙ f in
    c ts (drop (length (flatten ts)) before) read (k.leaves ∙ l) ∙ rw (f, confirmation)
