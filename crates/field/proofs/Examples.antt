-- The examples, computed.
use mathlib.Core.Path.{refl}
use Rattle.grammar.proofs.Computing.{grammar_computes}
use Rattle.field.specs.Field.{optional, one_or_more, one, letter, literal, WSP, CRLF, FWS, ctext, quoted_pair, comment, CFWS, heading, dkim, spf, dmarc_method, comma, closing, id_align, repeating, any_depth}
use Rattle.field.specs.code.Reading.{naming, at_place, begin_of_word, outside_grammar, too_deep, spelled_again, refusals, earlier, earliest, methods_named, read_field}
use Rattle.field.specs.Examples.{FieldsRead}

pub fields_read : FieldsRead
unfolding grammar_computes optional one_or_more one letter literal WSP CRLF FWS ctext quoted_pair comment CFWS heading dkim spf dmarc_method comma closing id_align naming repeating any_depth at_place begin_of_word outside_grammar too_deep spelled_again refusals earlier earliest methods_named read_field
fields_read = record {
  cases = refl;
  colon = refl;
  alone = refl;
  last = refl;
  closing = refl;
  closed = refl;
  folded = refl;
  fold = refl;
  eight = refl;
  ninth = refl;
  comment = refl;
  again = refl;
  almost = refl;
  earliest = refl;
}
