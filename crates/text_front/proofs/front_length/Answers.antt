-- `text_front::front_length` meets its contract: every octet that was passed is of the class.
use Rattle.std.proofs.Common.{◌≡◌, ◌∙◌, sym, length, arith}
use Rattle.text_class.specs.code.Classes.{in_class}
use Rattle.octets.proofs.PartLaws.{one_more, ends_before, ends_with}
use Rattle.text_front.proofs.front_length.Goals as goal

pub returns-then-not-is_in : goal.returns-then-not-is_in
returns-then-not-is_in c =
    let a = c.args in
    let m = c.loop-i in
    sym (m.invariant ∙ ends_before (in_class a.class) a.s.now m.i (omega arith) (sym c.is_in.ensures ∙ c.if-not-is_in.true))

pub loop-i-preserved : goal.loop-i-preserved
loop-i-preserved c =
    let a = c.args in
    let m = c.loop-i in
    m.invariant ∙ one_more (in_class a.class) a.s.now m.i (omega arith) (sym c.is_in.ensures ∙ c.if-not-is_in.false)

pub returns : goal.returns
returns c =
    let a = c.args in
    let m = c.loop-i in
    let last : m.i ≡ length a.s.now = omega arith in
    sym (m.invariant ∙ ends_with (in_class a.class) a.s.now m.i (sym last) ∙ last)
