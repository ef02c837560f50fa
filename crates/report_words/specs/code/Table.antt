-- The literals and words of the form, by their numbers.
use Rattle.std.specs.Prelude.{ℕ, suc, ◌+◌, ◌%◌, true, false, List, [], ◌∷◌, ◌++◌, map, take, slice_index_or, Option, None, Some}
use mathlib.Core.List.{flatten}
use Rattle.report_form.specs.code.ReportReading.{first_is}
use Rattle.octets.specs.Octets.{Octets, octets}
use Rattle.report_states.specs.Standing.{Literal, Word, literal_text, words, l_report, l_org_end, l_email_end, l_extra_end, l_id_end, l_begin_end, l_end_end, l_domain_end, l_p_end, l_sp_end, l_np_end, l_adkim_end, l_aspf_end, l_testing_end, l_row, l_source_end, l_count_end, l_disposition_end, l_dkim_fail, l_dkim_end, l_spf_fail, l_spf_pass, l_spf_end, l_author_end, l_item_start, l_signature, l_signature_domain_end, l_selector_end, l_signature_end, l_sender, l_sender_domain_end, l_sender_end, l_full, l_record_end, l_more_start, l_feedback, w_extra, w_p, w_tags, w_sp, w_second, w_np, w_adkim, w_aspf, w_testing, w_disposition, w_dkim, w_spf, w_item, w_signature, w_sender, w_more}

-- the literals in the order of the nodes
unfoldable pub literals : List Literal
literals = l_report ∷ l_org_end ∷ l_email_end ∷ l_extra_end ∷ l_id_end ∷ l_begin_end ∷ l_end_end ∷ l_domain_end ∷ l_p_end ∷ l_sp_end ∷ l_np_end ∷ l_adkim_end ∷ l_aspf_end ∷ l_testing_end ∷ l_row ∷ l_source_end ∷ l_count_end ∷ l_disposition_end ∷ l_dkim_fail ∷ l_dkim_end ∷ l_spf_fail ∷ l_spf_pass ∷ l_spf_end ∷ l_author_end ∷ l_item_start ∷ l_signature ∷ l_signature_domain_end ∷ l_selector_end ∷ l_signature_end ∷ l_sender ∷ l_sender_domain_end ∷ l_sender_end ∷ l_full ∷ l_record_end ∷ l_more_start ∷ l_feedback ∷ []

unfoldable pub word_nodes : List Word
word_nodes = w_extra ∷ w_p ∷ w_tags ∷ w_sp ∷ w_second ∷ w_np ∷ w_adkim ∷ w_aspf ∷ w_testing ∷ w_disposition ∷ w_dkim ∷ w_spf ∷ w_item ∷ w_signature ∷ w_sender ∷ w_more ∷ []

-- the literals, and then the words of each word node
unfoldable pub texts : List Octets
texts = map octets (map literal_text literals ++ flatten (map words word_nodes))

-- at most four of them from a number on, counted by 256
unfoldable pub words_at : (first count : ℕ) → List Octets
words_at first count = take count (slice_index_or texts first [] ∷ slice_index_or texts ((first + 1) % 256) [] ∷ slice_index_or texts ((first + 2) % 256) [] ∷ slice_index_or texts ((first + 3) % 256) [] ∷ [])

-- the first of some texts that begins with an octet, by its place from k on
unfoldable pub pick_octets : ℕ → ℕ → List Octets → Option ℕ
pick_octets k x [] = None
pick_octets k x (w ∷ ws) = elim (first_is x w) [ true ↦ Some k | false ↦ pick_octets (suc k) x ws ]

-- the number of a word node's first word
unfoldable pub first_of : Word → ℕ
first_of w_extra = 36
first_of w_p = 38
first_of w_tags = 41
first_of w_sp = 44
first_of w_second = 47
first_of w_np = 49
first_of w_adkim = 52
first_of w_aspf = 54
first_of w_testing = 56
first_of w_disposition = 58
first_of w_dkim = 62
first_of w_spf = 64
first_of w_item = 66
first_of w_signature = 69
first_of w_sender = 72
first_of w_more = 75
