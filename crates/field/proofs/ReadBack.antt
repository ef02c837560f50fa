-- "every field we write reads back as its own".
use mathlib.Core.Path.{◌≡◌, refl}
use mathlib.Core.List.{[], ◌∷◌, ◌++◌}
use mathlib.Core.Bool.{Bool, true, false}
use Rattle.octets.specs.Octets.{octets, is_nothing, between}
use Rattle.octets.specs.Refusing.{ok}
use Rattle.reporting.specs.declared.Method.{Method}
use Rattle.reporting.specs.Field.{is_listed, methods, field_text}
use Rattle.grammar.specs.code.Finding.{has_empty, has_text, ◌and_then◌, ◌or_else◌, following, fault_from, fault, shortest_text_from, shortest_text}
use Rattle.field.specs.Field.{optional, one_or_more, one, letter, literal, WSP, CRLF, FWS, ctext, quoted_pair, comment, CFWS, heading, dkim, spf, dmarc_method, comma, closing, id_align, repeating, any_depth}
use Rattle.field.specs.code.Reading.{naming, at_place, begin_of_word, outside_grammar, too_deep, spelled_again, refusals, earlier, earliest, methods_named, read_field}
use Rattle.field.specs.Claims.{ReadsBack}

-- the four fields, by computation
four : (a b : Bool) → read_field (octets "Identity-Alignment: " ++ methods a b ++ (13 ∷ 10 ∷ [])) ≡ ok (record { dkim = a; spf = b })
unfolding octets is_nothing between methods has_empty has_text ◌and_then◌ ◌or_else◌ following fault_from fault shortest_text_from shortest_text optional one_or_more one letter literal WSP CRLF FWS ctext quoted_pair comment CFWS heading dkim spf dmarc_method comma closing id_align naming repeating any_depth at_place begin_of_word outside_grammar too_deep spelled_again refusals earlier earliest methods_named read_field
four false false = refl
four false true = refl
four true false = refl
four true true = refl

pub reads_back : (d s : Method) → ReadsBack d s
unfolding field_text
reads_back d s = four (is_listed d) (is_listed s)
