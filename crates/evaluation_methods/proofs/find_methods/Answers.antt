-- `evaluation_methods::find_methods` meets its contract.
use mathlib.Core.Path.{◌≡◌, sym, ◌∙◌}
use Prim.Native.Nat.{◌+◌, ◌-◌, ◌/◌}
use native.Mathlib.Omega.{arith}
use Rattle.evaluation_methods.proofs.MethodLaws.{merge_begin, methods_end, methods_more}
use Rattle.evaluation_methods.proofs.find_methods.Goals as goal

pub loop-walk-init : goal.loop-walk-init
loop-walk-init c = λ domains.
    let all : c.min-walk-end.result + 1 - 1 ≡ c.min-walk-end.result = omega arith in
    rw all (merge_begin _ _)

pub loop-walk-preserved : goal.loop-walk-preserved
loop-walk-preserved c = λ domains.
    let l = c.loop-walk in
    let left : c.min-walk-end.result + 1 - l.walk - 1 ≡ c.min-walk-end.result + 1 - (l.walk + 1) = omega arith in
    let more = methods_more domains c.args.numbers.now l.walk (c.min-walk-end.result + 1 - l.walk) l.rest (omega arith) l.methods in
    rw (c.add_method-methods.ensures, c.kind_at-kind.ensures, ← left) (l.invariant domains ∙ more)

pub returns : goal.returns
returns c = λ domains.
    let l = c.loop-walk in
    rw (← c.min-walk-end.ensures) (sym (l.invariant domains ∙ methods_end domains c.args.numbers.now l.walk (c.min-walk-end.result + 1 - l.walk) l.rest (omega arith) l.methods))

pub returns-2 : goal.returns-2
returns-2 c = λ domains.
    let l = c.loop-walk in
    let left = c.min-walk-end.result + 1 - l.walk in
    let more = methods_more domains c.args.numbers.now l.walk left l.rest (omega arith) l.methods in
    let none = methods_end domains c.args.numbers.now (l.walk + 1) (left - 1) (l.rest / 4) (omega arith) _ in
    rw (c.add_method-methods.ensures, c.kind_at-kind.ensures, ← c.min-walk-end.ensures) (sym (l.invariant domains ∙ more ∙ none))
