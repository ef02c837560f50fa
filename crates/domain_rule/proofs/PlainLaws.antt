-- Laws of the domain rule, read from the end of a text, octet by octet.
use mathlib.Core.Path.{◌≡◌, refl, ap, ap₂, sym, ◌∙◌}
use mathlib.Core.List.{List, [], ◌∷◌}
use mathlib.Core.Bool.{Bool, true, false, ◌&&◌, not, true≢false}
use Prim.Native.Nat.{ℕ, suc, ◌+◌, ◌-◌, ◌≤◌, ◌<◌, ◌/◌}
use native.Mathlib.Omega.{arith}
use lib.Dec.{eqb, leb}
use lib.ListN.{length, drop, get_or}
use lib.Seq.{drop-cons}
use borrow.Author.Tests.{le-leb, eqb-true}
use Rattle.std.specs.Prelude.{if◌then◌else◌, None}
use Rattle.octets.specs.Octets.{Octets, is_empty, all, onto_first, split, made_of}
use Rattle.octets.proofs.Computing.{octets_computes}
use Rattle.domain.specs.Domain.{Domain, domain_octet, labels, good_label, first_bad, label_count}
use Rattle.domain_rule.specs.code.Scanning.{class_code, some_label, short_label}
use Rattle.octets.proofs.PartLaws.{split_found, split_other}
use Rattle.domain.proofs.RuleLaws.{fault_next}

-- ------------------------------------------------------------------ no octet is wrong and no label empty

-- a text whose labels are so, but for the first, which may be empty after a dot or the end
pub record Plain (d : Domain) (after n : ℕ) : Type 0 where
  pub first : Octets
  pub rest : List Octets
  pub parts : labels d ≡ first ∷ rest
  pub word : all domain_octet first ≡ true
  pub whole : all some_label rest ≡ true
  pub number : n ≡ suc (length rest)
  pub not_empty : after ≡ 0 → is_empty first ≡ false

pub plain_end : (n : ℕ) → n ≡ 1 → Plain [] 1 n
unfolding labels split all
plain_end n e = record { first = []; rest = []; parts = refl; word = refl; whole = refl; number = e; not_empty = λ h. absurd (omega arith) }

module _ (d : Domain) (after n : ℕ) (p : Plain d after n) where
  plain_word : (x : ℕ) → domain_octet x ≡ true → eqb x 46 ≡ false → Plain (x ∷ d) 0 n
  unfolding labels onto_first all
  plain_word x e f = record {
    first = x ∷ p.first;
    rest = p.rest;
    parts = split_other 46 x d f ∙ ap (onto_first x) p.parts;
    word = ap₂ ◌&&◌ e p.word;
    whole = p.whole;
    number = p.number;
    not_empty = λ h. refl;
  }

  plain_dot : (x : ℕ) → eqb x 46 ≡ true → after ≡ 0 → Plain (x ∷ d) 1 (n + 1)
  unfolding labels all some_label
  plain_dot x e f = record {
    first = [];
    rest = p.first ∷ p.rest;
    parts = split_found 46 x d e ∙ ap (λ (l : List Octets). [] ∷ l) p.parts;
    word = refl;
    whole = ap₂ ◌&&◌ (ap₂ ◌&&◌ (ap not (p.not_empty f)) p.word) p.whole;
    number = omega (arith, p.number);
    not_empty = λ h. absurd (omega arith);
  }

  -- no dot is an octet of a label
  no_dot : (x : ℕ) → domain_octet x ≡ true → eqb x 46 ≡ false
  unfolding domain_octet octets_computes
  no_dot x e = go (eqb x 46) refl
    where
      go : (b : Bool) → eqb x 46 ≡ b → eqb x 46 ≡ false
      go false f = f
      go true f = absurd (true≢false (sym e ∙ ap domain_octet (eqb-true x 46 f)))

  pub plain_next : (x class m : ℕ) → class ≡ class_code x → (class + after) / 2 ≡ 0 → m ≡ n + class → Plain (x ∷ d) class m
  unfolding class_code
  plain_next x class m e z f = by_word (domain_octet x) refl
    where
      by_dot : domain_octet x ≡ false → (b : Bool) → eqb x 46 ≡ b → Plain (x ∷ d) class m
      by_dot g true h =
          let one : class ≡ 1 = e ∙ rw (g, h) in
          let k : m ≡ n + 1 = omega arith in
          rw (one, k) (plain_dot x h (omega arith))
      by_dot g false h =
          let two : class ≡ 2 = e ∙ rw (g, h) in
          absurd (omega arith)

      by_word : (b : Bool) → domain_octet x ≡ b → Plain (x ∷ d) class m
      by_word true g =
          let none : class ≡ 0 = e ∙ rw g in
          let k : m ≡ n = omega arith in
          rw (none, k) (plain_word x g (no_dot x g))
      by_word false g = by_dot g (eqb x 46) refl

  pub plain_whole : after ≡ 0 → (all some_label (labels d) ≡ true) × (n ≡ label_count d)
  unfolding label_count all some_label
  plain_whole e = (ap (all some_label) p.parts ∙ ap₂ ◌&&◌ (ap₂ ◌&&◌ (ap not (p.not_empty e)) p.word) p.whole, p.number ∙ sym (ap length p.parts))

-- ------------------------------------------------------------------ no label is long

-- a text whose labels are short, the first of this length
pub record Short (d : Domain) (run : ℕ) : Type 0 where
  pub first : Octets
  pub rest : List Octets
  pub parts : labels d ≡ first ∷ rest
  pub size : run ≡ length first
  pub whole : all short_label rest ≡ true

pub short_end : (run : ℕ) → run ≡ 0 → Short [] run
unfolding labels split all
short_end run e = record { first = []; rest = []; parts = refl; size = e; whole = refl }

module _ (d : Domain) (run : ℕ) (p : Short d run) where
  pub short_dot : run ≤ 63 → (x : ℕ) → eqb x 46 ≡ true → Short (x ∷ d) 0
  unfolding labels all short_label
  short_dot h x e = record {
    first = [];
    rest = p.first ∷ p.rest;
    parts = split_found 46 x d e ∙ ap (λ (l : List Octets). [] ∷ l) p.parts;
    size = refl;
    whole = ap₂ ◌&&◌ (le-leb (length p.first) 63 (omega (arith, p.size))) p.whole;
  }

  pub short_other : (x : ℕ) → eqb x 46 ≡ false → Short (x ∷ d) (run + 1)
  unfolding labels onto_first
  short_other x f = record {
    first = x ∷ p.first;
    rest = p.rest;
    parts = split_other 46 x d f ∙ ap (onto_first x) p.parts;
    size = omega (arith, p.size);
    whole = p.whole;
  }

  pub short_whole : run ≤ 63 → all short_label (labels d) ≡ true
  unfolding all short_label
  short_whole h = ap (all short_label) p.parts ∙ ap₂ ◌&&◌ (le-leb (length p.first) 63 (omega (arith, p.size))) p.whole

-- the labels of a short text are short: no run is longer than the text
pub short_text : (d : Domain) → length d ≤ 63 → all short_label (labels d) ≡ true
short_text d h = let (run, k, p) = runs d h in short_whole d run p (omega arith)
  where
    runs : (e : Domain) → length e ≤ 63 → (run : ℕ) × (run ≤ length e) × Short e run
    runs [] h = (0, omega arith, short_end 0 refl)
    runs (x ∷ e) h = let (run, k, p) = runs e (omega arith) in go run k p (eqb x 46) refl
      where
        go : (run : ℕ) → run ≤ length e → Short e run → (b : Bool) → eqb x 46 ≡ b → (r : ℕ) × (r ≤ length (x ∷ e)) × Short (x ∷ e) r
        go run k p true f = (0, omega arith, short_dot e run p (omega arith) x f)
        go run k p false f = (run + 1, omega arith, short_other e run p x f)

-- ------------------------------------------------------------------ the rule

good_both : (l : Octets) → some_label l ≡ true → short_label l ≡ true → good_label l ≡ true
unfolding good_label made_of some_label short_label
good_both l e f = go (not (is_empty l)) (leb (length l) 63) (all domain_octet l) e f
  where
    go : (a b c : Bool) → (a && c) ≡ true → b ≡ true → ((a && b) && c) ≡ true
    go true true true e f = refl
    go true true false e f = e
    go true false c e f = absurd (true≢false (sym f))
    go false b c e f = absurd (true≢false (sym e))

pub no_bad : (at : ℕ) (ls : List Octets) → all some_label ls ≡ true → all short_label ls ≡ true → first_bad at ls ≡ None
unfolding all first_bad
no_bad at [] e f = refl
no_bad at (l ∷ ls) e f =
    fault_next at l ls (good_both l (first_of (some_label l) (all some_label ls) e) (first_of (short_label l) (all short_label ls) f))
    ∙ no_bad (at + length l + 1) ls (second_of (some_label l) (all some_label ls) e) (second_of (short_label l) (all short_label ls) f)
  where
    first_of : (a b : Bool) → (a && b) ≡ true → a ≡ true
    first_of true b h = refl
    first_of false b h = h

    second_of : (a b : Bool) → (a && b) ≡ true → b ≡ true
    second_of true b h = h
    second_of false b h = absurd (true≢false (sym h))

-- ------------------------------------------------------------------ an octet more, by its place

pub drop_before : (s : Octets) (i : ℕ) → 0 < i → i ≤ length s → drop (i - 1) s ≡ get_or s (i - 1) 0 ∷ drop i s
drop_before s i z h =
    let e : suc (i - 1) ≡ i = omega arith in
    drop-cons s (i - 1) 0 (omega arith) ∙ ap (λ (n : ℕ). get_or s (i - 1) 0 ∷ drop n s) e

pub class_small : (x : ℕ) → class_code x ≤ 2
unfolding class_code
class_small x = go (domain_octet x) (eqb x 46)
  where
    go : (a b : Bool) → (if a then 0 else if b then 1 else 2) ≤ 2
    go true b = omega arith
    go false true = omega arith
    go false false = omega arith
