-- Laws of writers that count on.
use Rattle.std.proofs.Common.{◌≡◌, ℕ, ◌+◌, ◌%◌, ◌^◌, ◌<◌, ◌≤◌, Bool, true, false, leb, [], ◌++◌, length, take, drop, sym, refl, ap, ◌∙◌, mod-eq_of_lt, arith, length-append, length-drop, take-append-drop, length-take-le, le-leb, leb-true}
use Rattle.std.specs.Prelude.{if◌then◌else◌}
use Rattle.octets.specs.Octets.{Octets}
use Rattle.octets.specs.Lent.{over}
use Rattle.octets_append.specs.code.Appending.{fits_at, Appends}
use Rattle.octets_append.proofs.AppendLaws.{moved_on, appends_both}
use Rattle.octets_pieces.specs.code.Putting.{Puts}

-- appending keeps the length of the memory
pub appends_keeps : (text before : Octets) (at : ℕ) {next : ℕ} {after : Octets} → Appends text at before next after → length after ≡ length before
unfolding fits_at over
appends_keeps text before at p = ap length p.leaves ∙ go (leb (at + length text) (length before)) refl
  where
    go : (b : Bool) → leb (at + length text) (length before) ≡ b → length (if b then take at before ++ (text ++ drop (length text) (drop at before)) else before) ≡ length before
    go false e = refl
    go true e =
        let room = leb-true (at + length text) (length before) e in
        rw (length-append, length-append, length-drop, length-drop, length-take-le at before (omega (arith, room))) (omega (arith, room))

-- a text that is appended, with its length counted
pub puts : (text before : Octets) (at : ℕ) {moved next : ℕ} {after : Octets} → length before < 2 ^ 64 → Appends text at before moved after → next ≡ (at + length text) % 2 ^ 64 → Puts text at before next after
unfolding fits_at
puts text before at bound p e = record {
  counts = λ h. e ∙ mod-eq_of_lt h;
  appends = λ room. record {
    moves = e ∙ mod-eq_of_lt (omega (arith, room, bound)) ∙ rw (le-leb (at + length text) (length before) room);
    leaves = p.leaves;
  };
  keeps = appends_keeps text before at p;
}

-- nothing
pub puts_nothing : (before : Octets) (at : ℕ) → Puts [] at before at before
unfolding over fits_at
puts_nothing before at = record {
  counts = λ h. omega arith;
  appends = λ room. record { moves = rw (here room) (omega arith); leaves = rw (here room) (sym (take-append-drop at before)) };
  keeps = refl;
}
  where
    here : at + 0 ≤ length before → leb (at + 0) (length before) ≡ true
    here room = le-leb (at + 0) (length before) room

-- a text and then another after it are the two as one
pub puts_both : (a b before : Octets) (at : ℕ) {mid next : ℕ} {once twice : Octets} → Puts a at before mid once → Puts b mid once next twice → Puts (a ++ b) at before next twice
puts_both a b before at {mid} {next} {once} p q = record {
  counts = λ h. omega (arith, size, p.counts (omega (arith, size, h)), q.counts (omega (arith, size, h, p.counts (omega (arith, size, h)))));
  appends = λ room.
      let first : at + length a ≤ length before = omega (arith, size, room) in
      let second : mid + length b ≤ length once = omega (arith, size, room, p.keeps, moved_on a before at first (p.appends first)) in
      appends_both a b before at room (p.appends first) (q.appends second);
  keeps = q.keeps ∙ p.keeps;
}
  where
    size : length (a ++ b) ≡ length a + length b
    size = length-append a b
