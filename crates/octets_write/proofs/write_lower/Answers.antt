-- `octets_write::write_lower` meets its contract.
use mathlib.Core.Path.{◌≡◌, ap, ap₂, sym, ◌∙◌}
use mathlib.Core.List.{[], ◌∷◌}
use native.Mathlib.Omega.{arith}
use Prim.Native.Nat.{ℕ, ◌<◌}
use lib.ListN.{length, set, get_or, length-set}
use borrow.Author.Rules.{rules}
use Rattle.std.specs.Char.{to_ascii_lowercase}
use Rattle.octets.specs.Octets.{Octets, lower, lower_octet}
use Rattle.octets.proofs.TextLaws.{lower_length, lower_at, lowered}
use Rattle.octets.proofs.LentLaws.{one_more, refuses, writes, copied}
use Rattle.octets_write.proofs.write_lower.Goals as goal

octet_lowered : (x : ℕ) → to_ascii_lowercase x ≡ lower_octet x
unfolding lower
octet_lowered x = ap (λ (l : Octets). get_or l 0 0) (lowered (x ∷ []))

pub returns-then-out-size : goal.returns-then-out-size
returns-then-out-size c =
    let a = c.args in
    refuses (lower a.text.now) a.out.now (omega (arith, lower_length a.text.now, c.if-out-size.true)) _ (sym (lower_length a.text.now)) _ c.too_short.ensures

pub loop-i-preserved : goal.loop-i-preserved
loop-i-preserved c =
    let a = c.args in
    let m = c.loop-i in
    let room : m.i < length (lower a.text.now) = omega (arith, lower_length a.text.now) in
    let octet : c.to_ascii_lowercase.result ≡ get_or (lower a.text.now) m.i 0 = c.to_ascii_lowercase.ensures.value ∙ octet_lowered _ ∙ sym (lower_at a.text.now m.i) in
    record {
      room = search rules;
      as_long = simp length-set (search rules);
      copied = ap₂ (λ (l : Octets) (b : ℕ). set l m.i b) m.invariant.copied octet ∙ one_more (lower a.text.now) a.out.now m.i room (omega arith);
    }

pub returns : goal.returns
returns c =
    let a = c.args in
    let m = c.loop-i in
    let all : m.i ≡ length (lower a.text.now) = omega (arith, lower_length a.text.now) in
    writes (lower a.text.now) a.out.now (omega (arith, lower_length a.text.now)) _ (sym (lower_length a.text.now)) m.out
    (m.invariant.copied ∙ copied (lower a.text.now) a.out.now m.i all)
