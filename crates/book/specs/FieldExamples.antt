-- Identity-Alignment fields (document 01, "Names and fields written"): "A method is listed if identifiers of its kind were given and none is aligned".
use Rattle.std.specs.Prelude.{◌≡◌, List, [], ◌∷◌, ◌++◌, map, false}
use Prim.Native.String.{String}
use Rattle.octets.specs.Octets.{Octets, octets}
use Rattle.octets.specs.Refusing.{OrRefused, ok, not_ok, refusal}
use Rattle.policy.specs.declared.Policy.{Policy}
use Rattle.alignment.specs.declared.Kind.{Kind}
use Rattle.alignment.specs.declared.Outcome.{Outcome}
use Rattle.alignment.specs.declared.Alignment.{Alignment}
use Rattle.verdict.specs.declared.Existence.{Existence}
use Rattle.verdict.specs.declared.Result.{Result}
use Rattle.verdict.specs.declared.AppliedPolicy.{AppliedPolicy}
use Rattle.verdict.specs.declared.Disposition.{Disposition}
use Rattle.verdict.specs.Message.{Message}
use Rattle.verdict.specs.Verdict.{Verdict}
use Rattle.book.specs.Book.{field_of}

-- a result, the identifiers by kind and alignment, and the field's text
pub record FieldRow : Type 0 where
  pub result : Result
  pub identifiers : List (Kind × Alignment)
  pub text : OrRefused Octets

unfoldable pub message_with : List (Kind × Alignment) → Message
message_with is = record {
  author = octets "a";
  existence = Existence.Exists;
  support = false;
  identifiers = map (λ i. record { kind = i.0; outcome = Outcome.Pass; domain = octets "b" }) is;
}

unfoldable pub verdict_with : Result → List (Kind × Alignment) → Verdict
verdict_with r is = record {
  result = r;
  domain = octets "a";
  policy = AppliedPolicy.Known Policy.None;
  disposition = Disposition.Apply Policy.None;
  alignments = map (λ i. i.1) is;
}

abbrev by_dkim : Alignment → Kind × Alignment
by_dkim a = (Kind.Dkim, a)

abbrev by_spf : Alignment → Kind × Alignment
by_spf a = (Kind.Spf, a)

abbrev aligned : Alignment
aligned = Alignment.Aligned

abbrev not_aligned : Alignment
not_aligned = Alignment.NotAligned

abbrev not_known : Alignment
not_known = Alignment.Unknown

-- "`Identity-Alignment: ` then .., then CR LF"
abbrev lists : Result → List (Kind × Alignment) → String → FieldRow
lists r is methods = record { result = r; identifiers = is; text = ok (octets "Identity-Alignment: " ++ octets methods ++ (13 ∷ 10 ∷ [])) }

-- "9: field wanted when the result is neither pass nor fail, or no identifier was given"
abbrev has_no_field : Result → List (Kind × Alignment) → FieldRow
has_no_field r is = record { result = r; identifiers = is; text = not_ok (refusal 9 0) }

unfoldable pub field_table : List FieldRow
field_table =
    lists Result.Pass (by_dkim aligned ∷ []) "none"
    ∷ lists Result.Fail (by_dkim not_aligned ∷ []) "dkim"
    ∷ lists Result.Pass (by_spf aligned ∷ []) "none"
    ∷ lists Result.Fail (by_spf not_aligned ∷ []) "spf"
    -- in this order, however they were given
    ∷ lists Result.Fail (by_dkim not_aligned ∷ by_spf not_aligned ∷ []) "dkim, spf"
    ∷ lists Result.Fail (by_spf not_aligned ∷ by_dkim not_aligned ∷ []) "dkim, spf"
    ∷ lists Result.Pass (by_spf not_aligned ∷ by_dkim aligned ∷ []) "spf"
    ∷ lists Result.Pass (by_spf aligned ∷ by_dkim not_aligned ∷ by_dkim not_aligned ∷ []) "dkim"
    -- one that is aligned is enough, first or last
    ∷ lists Result.Pass (by_dkim aligned ∷ by_dkim not_aligned ∷ []) "none"
    ∷ lists Result.Pass (by_dkim not_aligned ∷ by_dkim aligned ∷ []) "none"
    -- an alignment that is unknown is not aligned
    ∷ lists Result.Pass (by_spf aligned ∷ by_dkim not_known ∷ []) "dkim"
    ∷ has_no_field Result.Fail []
    ∷ has_no_field Result.None (by_dkim not_aligned ∷ [])
    ∷ has_no_field Result.Temperror (by_dkim not_known ∷ [])
    ∷ has_no_field Result.Permerror (by_dkim not_aligned ∷ [])
    ∷ []

unfoldable pub FieldsWritten : Type 0
FieldsWritten = map (λ l. field_of (message_with l.identifiers) (verdict_with l.result l.identifiers)) field_table ≡ map (λ l. l.text) field_table
