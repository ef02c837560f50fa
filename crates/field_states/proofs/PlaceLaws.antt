-- Where refusal 25 is given, a parenthesis stands.
use mathlib.Core.Path.{◌≡◌, refl, sym, ap, ◌∙◌}
use mathlib.Core.List.{[], ◌∷◌}
use mathlib.Core.Bool.{Bool, true, false, ◌&&◌, false≢true}
use Prim.Native.Nat.{ℕ, suc, ◌+◌, ◌<◌}
use native.Mathlib.Omega.{arith}
use lib.Dec.{leb}
use lib.ListN.{length, get_or}
use Rattle.octets.specs.Octets.{Octets}
use Rattle.octets.specs.Refusing.{OrRefused, not_ok, refusal}
use Rattle.field.specs.declared.NamedMethods.{NamedMethods}
use Rattle.field.proofs.RefusingLaws.{ok≢refused, refused_injective}
use Rattle.field_states.specs.Claims.{AtParenthesis}
use Rattle.field_states.specs.declared.Reader.{Reader}
use Rattle.field_states.specs.declared.Misread.{Misread}
use Rattle.std.specs.Prelude.{Result, Ok, Err}
use Rattle.field_states.specs.code.States.{step, opens, depth_of, ninth, is_wrong, again, word_size, turn, ends, ended, run_reader, start}
use Rattle.field_states.proofs.LiveLaws.{opens_forty}
use Rattle.field_states.proofs.RunLaws.{turn_wrong, turn_again, turn_on, run_on, run_wrong, run_deep, run_again, reads}

-- a parenthesis in a text, counted from a place on
abbrev Stands : Octets → (at p : ℕ) → Type 0
Stands s at p = (k : ℕ) × (p ≡ at + k) × (k < length s) × (get_or s k 0 ≡ 40)

same_number : {m n p q : ℕ} → ◌≡◌ {A = OrRefused NamedMethods} (not_ok (refusal m p)) (not_ok (refusal n q)) → m ≡ n
same_number e = ap (λ r. r.number) (refused_injective e)

same_place : {m n p q : ℕ} → ◌≡◌ {A = OrRefused NamedMethods} (not_ok (refusal m p)) (not_ok (refusal n q)) → p ≡ q
same_place e = ap (λ r. r.place) (refused_injective e)

is_deep : Result Reader Misread → Bool
is_deep (Ok q) = false
is_deep (Err Misread.Wrong) = false
is_deep (Err Misread.TooDeep) = true
is_deep (Err (Misread.Again n)) = false

-- a turn is too deep only at a parenthesis
deep_forty : (r : Reader) (x : ℕ) → turn r x ≡ Err Misread.TooDeep → x ≡ 40
unfolding ninth is_deep
deep_forty r x e = go (ninth r.state x) refl (is_wrong (step r x).state) refl (again r.state r.dkim r.spf x) refl
  where
    left : (a b : Bool) → (a && b) ≡ true → a ≡ true
    left true b f = refl
    left false b f = absurd (false≢true f)

    off : (t : Result Reader Misread) → turn r x ≡ t → is_deep t ≡ false → x ≡ 40
    off t f g = absurd (false≢true (sym g ∙ ap is_deep (sym f ∙ e)))

    go : (a : Bool) → ninth r.state x ≡ a → (b : Bool) → is_wrong (step r x).state ≡ b → (c : Bool) → again r.state r.dkim r.spf x ≡ c → x ≡ 40
    go true i b j c k = opens_forty r.state x (left (opens r.state x) (leb 8 (depth_of r.state)) i)
    go false i true j c k = off (Err Misread.Wrong) (turn_wrong r x i j) refl
    go false i false j true k = off (Err (Misread.Again (word_size r.state))) (turn_again r x i j k) refl
    go false i false j false k = off (Ok (step r x)) (turn_on r x i j k) refl

not_at_end : (at : ℕ) (r : Reader) (p : ℕ) → ended at r ≡ not_ok (refusal 25 p) → ⊥
unfolding ended
not_at_end at r p e = go (ends r.state) refl
  where
    go : (b : Bool) → ends r.state ≡ b → ⊥
    go true f = ok≢refused (rw f at e)
    go false f = let n : ◌≡◌ {A = ℕ} 24 25 = same_number (rw f at e) in omega (arith, n)

stands : (s : Octets) (at : ℕ) (r : Reader) (p : ℕ) → run_reader at r s ≡ not_ok (refusal 25 p) → Stands s at p
stands [] at r p e = absurd (not_at_end at r p (sym (over at r) ∙ e))
  where
    over : (at : ℕ) (r : Reader) → run_reader at r [] ≡ ended at r
    over at r = unfold run_reader in refl
stands (x ∷ s) at r p e = go (turn r x) refl (λ q. stands s (suc at) q p)
  where
    go : (t : Result Reader Misread) → turn r x ≡ t → ((q : Reader) → run_reader (suc at) q s ≡ not_ok (refusal 25 p) → Stands s (suc at) p) → Stands (x ∷ s) at p
    go (Ok q) f next =
        let (k, i, j, l) = next q (sym (run_on r x at s q f) ∙ e) in
        (suc k, omega (arith, i), omega (arith, j), l)
    go (Err Misread.Wrong) f next = let n : ◌≡◌ {A = ℕ} 24 25 = same_number (sym (run_wrong r x at s f) ∙ e) in absurd (omega (arith, n))
    go (Err Misread.TooDeep) f next = (0, omega (arith, same_place (sym (run_deep r x at s f) ∙ e)), omega arith, deep_forty r x f)
    go (Err (Misread.Again m)) f next = let n : ◌≡◌ {A = ℕ} 26 25 = same_number (sym (run_again r x at s m f) ∙ e) in absurd (omega (arith, n))

pub at_parenthesis : (text : Octets) → AtParenthesis text
at_parenthesis text p e =
    let (k, i, j, l) = stands text 0 start p (reads text ∙ e) in
    let same : p ≡ k = omega (arith, i) in
    (omega (arith, same, j), ap (λ z. get_or text z 0) same ∙ l)
