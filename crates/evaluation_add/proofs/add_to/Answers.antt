-- `evaluation_add::add_to` meets its contract.
use mathlib.Core.Path.{◌≡◌, sym, ◌∙◌}
use mathlib.Core.Bool.{false}
use native.Mathlib.Omega.{arith}
use Rattle.domain.proofs.RuleLaws.{domain_short}
use Rattle.verdict.specs.Message.{Message}
use Rattle.evaluation_open.specs.code.Opening.{Holds}
use Rattle.evaluation_add.proofs.AddLaws.{any_spf, bad_kind, bad_outcome, seventeenth, second_spf, bad_domain, good_identifier, held_spf, adding_refused, adding_ok}
use Rattle.evaluation_add.proofs.add_to.Goals as goal
use Rattle.evaluation_add.proofs.add_to.Goals.{Joined-else-kind-eq0, else-kind-eq0-via-then-kind-eq0+else-has_spf, else-kind-eq0-via-else-kind-eq0, then-kind-gt1-via-then-kind-gt1, then-kind-gt1-via-else-kind-gt1+then-outcome-gt2}

pub returns-then-kind-gt1 : goal.returns-then-kind-gt1
returns-then-kind-gt1 c m h =
    adding_refused h c.min-index.result c.min-index.ensures _
    (elim c.then-kind-gt1.branch [
      | then-kind-gt1-via-then-kind-gt1 w ↦ bad_kind _ _ _ w.if-kind-gt1.true
      | then-kind-gt1-via-else-kind-gt1+then-outcome-gt2 w ↦ bad_outcome _ _ _ w.if-kind-gt1.false w.if-outcome-gt2.true
    ])
    c.refused.ensures

pub returns-then-index-ge-MOST_IDENTIFIERS : goal.returns-then-index-ge-MOST_IDENTIFIERS
returns-then-index-ge-MOST_IDENTIFIERS c m h =
    adding_refused h c.min-index.result c.min-index.ensures _ (seventeenth _ _ _ c.if-kind-gt1.false c.if-outcome-gt2.false c.if-index-ge-MOST_IDENTIFIERS.true) c.refused-then-index-ge-MOST_IDENTIFIERS.ensures

pub returns-then-has_spf : goal.returns-then-has_spf
returns-then-has_spf c m h =
    adding_refused h c.min-index.result c.min-index.ensures _ (second_spf _ _ _ c.if-kind-gt1.false c.if-outcome-gt2.false c.if-kind-eq0.true (held_spf h c.min-index.result c.min-index.ensures ∙ sym (c.has_spf.ensures _) ∙ c.if-has_spf.true)) c.refused-then-has_spf.ensures

-- where the kind is SPF's, none was before
first : (v : Joined-else-kind-eq0) →
    let a = v.args in
    (m : Message) → Holds a.e m → a.kind ≡ 0 → any_spf m.identifiers ≡ false
first v m h k =
    elim v.else-kind-eq0.branch [
      | else-kind-eq0-via-then-kind-eq0+else-has_spf w ↦ held_spf h v.min-index.result v.min-index.ensures ∙ sym (w.has_spf.ensures _) ∙ w.if-has_spf.false
      | else-kind-eq0-via-else-kind-eq0 w ↦ absurd (w.if-kind-eq0.false k)
    ]

pub returns-then-not-is_domain : goal.returns-then-not-is_domain
returns-then-not-is_domain c m h =
    adding_refused h c.min-index.result c.min-index.ensures _ (bad_domain _ _ _ c.if-kind-gt1.false c.if-outcome-gt2.false c.if-index-ge-MOST_IDENTIFIERS.false (first (goal.at.returns-then-not-is_domain c).Joined-else-kind-eq0 m h) c.without_dot-d.ensures (sym c.is_domain.ensures ∙ c.if-not-is_domain.true)) c.refused-then-not-is_domain.ensures

pub store-requires : goal.store-requires
store-requires c =
    record {
      identifiers_bound = omega (arith, c.if-index-ge-MOST_IDENTIFIERS.false, c.min-index.ensures);
      d_len_bound = domain_short _ (sym c.is_domain.ensures ∙ c.if-not-is_domain.false);
    }

pub returns : goal.returns
returns c m h =
    adding_ok h c.min-index.result c.min-index.ensures _ (good_identifier _ _ _ c.if-kind-gt1.false c.if-outcome-gt2.false c.if-index-ge-MOST_IDENTIFIERS.false (first (goal.at.returns c).Joined-else-kind-eq0 m h) c.without_dot-d.ensures (sym c.is_domain.ensures ∙ c.if-not-is_domain.false)) (c.store.ensures.0 m h) c.store.ensures.1
