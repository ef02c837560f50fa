-- Laws of a whole sheet: from its records to its start, and what is printed.
use Rattle.std.specs.Prelude.{Ok, Err}
use mathlib.Core.Path.{◌≡◌, refl, ap, sym, ◌∙◌}
use mathlib.Core.Bool.{false}
use Prim.Native.Nat.{ℕ}
use Rattle.octets.specs.Octets.{Octets}
use Rattle.octets.specs.Refusing.{OrRefused, ok, not_ok, ◌>>=◌}
use Rattle.octets.specs.declared.Refusal.{Refusal}
use Rattle.octets.proofs.TextLaws.{true→T}
use Rattle.verdict.specs.Message.{Message}
use Rattle.book.specs.Start.{started}
use Rattle.evaluation.specs.declared.Evaluation.{Evaluation}
use Rattle.evaluation.specs.declared.Changed.{Changed}
use Rattle.records.specs.Sheet.{entries, message_in}
use Rattle.records_fields.specs.code.Layout.{listed, message_on, Whole}
use Rattle.records_find.proofs.SheetLaws.{message_law}
use Rattle.sheet.specs.Printed.{evaluated_over, evaluated, text_of, printed}
use Rattle.sheet_open.specs.code.OpeningSheet.{OpensWith}
use Rattle.sheet_open.proofs.OpenLaws.{added}
use Rattle.sheet_turn.specs.code.Conversing.{answers_on}
use Rattle.sheet_run.specs.code.Beginning.{Begins}
use Rattle.sheet_turn.proofs.ConversingLaws.{begins}

-- a broken sheet
pub broken : (sheet : Octets) (k : ℕ) (e : Evaluation) (f : Refusal) → entries sheet ≡ not_ok f → Begins sheet (record { records = k; evaluation = e; acceptance = Err f })
unfolding printed evaluated ◌>>=◌
broken sheet k e f r = record {
  refused = λ g q. rw r (ap (λ x. text_of (not_ok x)) (cc q));
  accepted = λ q. absurd (true→T {b = false} (cc q));
}

module _ (k : ℕ) (sheet : Octets) (ω : Whole k sheet) where
  -- by what its start gives
  started_then : OrRefused Message → OrRefused Octets
  started_then x = x >>= λ m. evaluated_over m (answers_on k sheet)

  printed_whole : printed sheet ≡ text_of (started_then (started (message_in (listed k sheet))))
  unfolding printed evaluated ◌>>=◌ started_then answers_on
  printed_whole = rw ω.reads

  -- the opening and the addings that the code makes
  pub whole : (r : Changed) → OpensWith (started (message_on k sheet)) r → Begins sheet (record { records = k; evaluation = r.evaluation; acceptance = r.acceptance })
  unfolding OpensWith started_then ◌>>=◌
  whole r c = go (started (message_in (listed k sheet))) refl (rw (message_law k sheet ω) c)
    where
      go : (o : OrRefused Message) → started (message_in (listed k sheet)) ≡ o → OpensWith o r → Begins sheet (record { records = k; evaluation = r.evaluation; acceptance = r.acceptance })
      go (ok m) s (a, v) = record {
        refused = λ g q. let z : Err g ≡ (Ok tt) = sym q ∙ a in absurd (true→T {b = false} (cc z));
        accepted = λ q.
            let first = added (message_in (listed k sheet)) m s in
            record {
              message = m;
              all_listed = ω.all_listed;
              conversing = λ lines size. begins first.first m first.opens _ first.book (answers_on k sheet) r.evaluation lines v size;
              prints = printed_whole ∙ rw s;
            };
      }
      go (not_ok x) s a = record {
        refused = λ g q.
            let z : Err g ≡ Err x = sym q ∙ a in
            let w : g ≡ x = cc z in
            printed_whole ∙ rw (s, w);
        accepted = λ q. let z : (Ok tt) ≡ Err x = sym q ∙ a in absurd (true→T {b = false} (cc z));
      }
