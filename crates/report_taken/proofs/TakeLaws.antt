-- Laws of one octet that a reader takes.
use mathlib.Core.Path.{◌≡◌, refl, sym, ap, ◌∙◌, subst}
use mathlib.Core.List.{List, [], ◌∷◌}
use mathlib.Core.Bool.{Bool, true, false}
use Prim.Native.Nat.{ℕ, zero, suc, ◌+◌, ◌-◌, ◌≤◌, ◌<◌}
use native.Mathlib.Omega.{arith}
use lib.Dec.{eqb}
use lib.ListN.{length}
use borrow.Author.Tests.{eq-eqb, ne_eqb, eqb-true, eqb-false}
use Rattle.std.specs.Prelude.{if◌then◌else◌, Result, Ok, Err}
use Rattle.report_steps.specs.declared.Refusal.{Refusal}
use Rattle.report_steps.specs.code.Steps.{refusal_number}
use Rattle.octets.specs.Octets.{Octets}
use Rattle.octets.specs.Refusing.{refusal}
use Rattle.parsing.specs.Reads.{Reads, give, Left, open_at, stuck, Reader, Fed, handing, stands, run, feed}
use Rattle.parsing_steps.specs.Stepping.{Step, on, refused, step_of, run_after}
use Rattle.parsing_limit.specs.Limits.{at_most, limited_left, limited, is_ready}
use Rattle.parsing_limit.proofs.LimitLaws.{step_most, ready_most, run_nothing, run_first, most_step, full_step}
use Rattle.report_form.specs.ReportForm.{Said}
use Rattle.report_kept.specs.declared.ReaderState.{ReaderState}
use Rattle.report_kept.specs.declared.Written.{Written}
use Rattle.report_kept.specs.declared.Turn.{Turn}
use Rattle.report_kept.specs.code.View.{known_of, place_of, kept_of, so_far_in, source_from, left_in, said_in, write, turn_step, Turned}
use Rattle.report_kept.proofs.WriteLaws.{length_laid}
use Rattle.report_taken.specs.declared.Taken.{Taken}
use Rattle.report_taken.specs.code.Taking.{largest, left_of, counting, view, rows_by, Takes, KnowsFive, stopped, counted}
use Rattle.report_taken.proofs.ReadyLaws.{ready_left}

-- ------------------------------------------------------------------ the reader of a state

module _ (s : ReaderState) (row : Octets) where
  pub view_open : s.refused ≡ 0 → view s row ≡ record { taken = s.taken; left = open_at (at_most (largest - s.taken) (left_in s row)) }
  unfolding view limited counting left_of limited_left
  view_open e = rw (eq-eqb s.refused 0 e) refl

  pub view_stuck : (s.refused ≡ 0 → ⊥) → view s row ≡ record { taken = s.taken; left = stuck (refusal s.refused s.taken) }
  unfolding view limited counting left_of limited_left
  view_stuck e = rw (ne_eqb s.refused 0 e) refl

  pub feed_open : (t : Octets) → s.refused ≡ 0 → feed (view s row) t ≡ run s.taken (at_most (largest - s.taken) (left_in s row)) t
  unfolding feed
  feed_open t e = ap (λ r. feed r t) (view_open e)

  pub feed_stuck : (t : Octets) → (s.refused ≡ 0 → ⊥) → feed (view s row) t ≡ record { rows = []; reader = view s row }
  unfolding feed
  feed_stuck t e = ap (λ r. feed r t) (view_stuck e) ∙ ap (λ r. record { rows = []; reader = r }) (sym (view_stuck e))

  ready : (n : ℕ) → is_ready (at_most n (left_in s row)) ≡ true
  ready n = ready_most n (left_in s row) ∙ ready_left s row

  -- nothing is left to hand out
  pub feed_nothing : feed (view s row) [] ≡ record { rows = []; reader = view s row }
  feed_nothing = go (eqb s.refused 0) refl
    where
      go : (b : Bool) → eqb s.refused 0 ≡ b → feed (view s row) [] ≡ record { rows = []; reader = view s row }
      go true e =
          let z = eqb-true s.refused 0 e in
          feed_open [] z ∙ run_nothing s.taken (at_most (largest - s.taken) (left_in s row)) (ready (largest - s.taken)) ∙ ap (λ r. record { rows = []; reader = r }) (sym (view_open z))
      go false e = feed_stuck [] (eqb-false s.refused 0 e)

module _ (s : ReaderState) (row : Octets) (x : ℕ) where
  first : s.refused ≡ 0 → feed (view s row) (x ∷ []) ≡ run_after s.taken (step_of (at_most (largest - s.taken) (left_in s row)) x) []
  first e = feed_open s row (x ∷ []) e ∙ run_first s.taken x (at_most (largest - s.taken) (left_in s row)) [] (ready s row (largest - s.taken))

  pub takes_stuck : (s.refused ≡ 0 → ⊥) → Takes s x row (record { gives = false; state = s }) row
  unfolding rows_by
  takes_stuck e l = (l, feed_stuck s row (x ∷ []) e)

  -- where it is not counted further
  pub takes_full : s.refused ≡ 0 → largest ≤ s.taken → Takes s x row (record { gives = false; state = stopped 20 s }) row
  unfolding run_after rows_by stopped
  takes_full e h l =
      let none : largest - s.taken ≡ 0 = omega (arith, h) in (
        l,
        first e
            ∙ ap (λ n. run_after s.taken (step_of (at_most n (left_in s row)) x) []) none
            ∙ ap (λ t. run_after s.taken t []) (full_step x (left_in s row))
            ∙ ap (λ r. record { rows = []; reader = r }) (sym (view_stuck (stopped 20 s) row (λ q. omega (arith, q)))),
      )

numbered : (r : Refusal) → refusal_number r ≡ 0 → ⊥
unfolding refusal_number
numbered Refusal.Outside q = omega (arith, q)
numbered Refusal.Over q = omega (arith, q)
numbered Refusal.Early q = omega (arith, q)

module _ (s : ReaderState) (five : Bool) (x : ℕ) (row : Octets) (knows : KnowsFive s row five) (calm : s.refused ≡ 0) (few : s.taken < largest) where
  abbrev rest : ℕ
  rest = largest - (s.taken + 1)

  stepped : (r : Result Turn Refusal) → Turned s five x r → length row ≡ 8432 → feed (view s row) (x ∷ []) ≡ run_after s.taken (step_most rest (turn_step r row)) []
  stepped r turned l =
      let some : largest - s.taken ≡ suc rest = omega (arith, few) in
      first s row x calm
      ∙ ap (λ n. run_after s.taken (step_of (at_most n (left_in s row)) x) []) some
      ∙ ap (λ t. run_after s.taken t []) (most_step rest x (left_in s row))
      ∙ ap (λ t. run_after s.taken (step_most rest t) []) (turned row l knows)

  pub takes_refused : (r : Refusal) → Turned s five x (Err r) → Takes s x row (record { gives = false; state = stopped (refusal_number r) s }) row
  unfolding run_after rows_by stopped turn_step step_most
  takes_refused r turned l = (
    l,
    stepped (Err r) turned l
        ∙ ap (λ v. record { rows = []; reader = v }) (sym (view_stuck (stopped (refusal_number r) s) row (numbered r))),
  )

  module _ (r : Turn) (turned : Turned s five x (Ok r)) where
    abbrev after : Octets
    after = write r.written row

    long : (w : Written) → length row ≡ 8432 → length (write w row) ≡ 8432
    unfolding write
    long Written.Nothing l = l
    long (Written.One at a) l = length_laid at (a ∷ []) row ∙ l
    long (Written.Two at a b) l = length_laid at (a ∷ b ∷ []) row ∙ l
    long (Written.Three at a b c) l = length_laid at (a ∷ b ∷ c ∷ []) row ∙ l
    long (Written.Four at a b c d) l = length_laid at (a ∷ b ∷ c ∷ d ∷ []) row ∙ l

    abbrev onward : ReaderState
    onward = counted (s.taken + 1) r.state

    same_left : left_in onward after ≡ left_in r.state after
    unfolding counted left_in source_from known_of place_of kept_of so_far_in
    same_left = refl

    same_said : said_in onward after ≡ said_in r.state after
    unfolding counted said_in known_of
    same_said = refl

    stays : run (suc s.taken) (at_most rest (left_in r.state after)) [] ≡ record { rows = []; reader = view onward after }
    unfolding counted
    stays =
        let one : suc s.taken ≡ s.taken + 1 = omega arith in
        run_nothing (suc s.taken) (at_most rest (left_in r.state after)) (ready r.state after rest)
        ∙ (λ j. stands (one j) (open_at (at_most rest (sym same_left j))))
        ∙ ap (λ v. record { rows = []; reader = v }) (sym (view_open onward after refl))

    on_turn : Takes s x row (record { gives = r.gives; state = onward }) after
    unfolding run_after rows_by turn_step step_most at_most handing run
    on_turn l = (long r.written l, go r.gives refl)
      where
        go : (b : Bool) → r.gives ≡ b → feed (view s row) (x ∷ []) ≡ record { rows = rows_by r.gives onward after; reader = view onward after }
        go false e = rw e at (stepped (Ok r) turned l) ∙ stays ∙ ap (λ b. record { rows = rows_by b onward after; reader = view onward after }) (sym e)
        go true e =
            rw e at (stepped (Ok r) turned l) ∙ ap (handing (said_in r.state after)) stays ∙ ap (λ v. record { rows = v ∷ []; reader = view onward after }) (sym same_said)
            ∙ ap (λ b. record { rows = rows_by b onward after; reader = view onward after }) (sym e)

    pub takes_on : (t : ReaderState) (now : Octets) → t ≡ onward → now ≡ after → Takes s x row (record { gives = r.gives; state = t }) now
    takes_on t now e f = subst (λ u. Takes s x row (record { gives = r.gives; state = u }) now) (sym e)
        (subst (λ (l : Octets). Takes s x row (record { gives = r.gives; state = onward }) l) (sym f) on_turn)
