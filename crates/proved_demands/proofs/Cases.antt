-- The twelve cases and the places of a 5, computed.
-- Assumes nothing.
use mathlib.Core.Path.{refl}
use mathlib.Core.List.{flat_map}
use Rattle.base_lists.specs.Lists.{all, headed, run, is_in, same}
use Rattle.base_bytes.specs.Bytes.{within, is_letter, is_digit, is_alnum, is_name_start, is_name_part, is_key_start, is_blank, is_quote, is_plain, is_punct, is_space, is_marked}
use Rattle.text_utf8.specs.Computed.{is_utf8, octets_from, lead_of, after_of}
use Rattle.base_refusals.specs.Numbers.{number_of}
use Rattle.text_names.specs.Names.{is_name, is_key, is_bare_name}
use Rattle.text_names.specs.Computed.{is_size, tag_from, is_tag, language_by, is_language}
use Rattle.text_escapes.specs.Unescape.{unescape_from, unescape}
use Rattle.block_grammar.specs.Grammar.{is_value}
use Rattle.block_grammar.specs.Computed.{ends, finish, shut_of, value_token, after_name, token_of, text, read_from, read_payload}
use Rattle.block_grammar.specs.Meaning.{is_class, is_among, fresh_after, once_in, classes_once, piece_ranges}
use Rattle.block_grammar.specs.Close.{turned}
use Rattle.block_grammar.specs.ComputedClose.{scan_step, close_from, find_close}
use Rattle.block_places.specs.Computed.{turn_of, walk_passes, payload_place}
use Rattle.set_canon.specs.Canon.{marked, escape, more_text, pairs_text, pairs_of, pairs, canon}
use Rattle.set_table.specs.Types.{range_bytes, name_bytes, value_bytes}
use Rattle.set_table.specs.Rows.{has_key, put_row, with_put, with_puts, slot_entry, meant, padded, table_of, rows_in, listed_of, meaning_of}
use Rattle.set_table.specs.Puts.{by_name, valued, puts_of, puts_in}
use Rattle.set_table.specs.Filled.{limited}
use Rattle.set_fill.specs.Fill.{filled_of}
use Rattle.read_brace.specs.Brace.{brace_at, finished, at_brace, read_attrs_at}
use Rattle.proved_demands.specs.Typed.{typed}
use Rattle.proved_demands.specs.Cases.{TwelveCases, PlacesAtBraces}

pub twelve_cases : TwelveCases
unfolding typed all headed run is_in same within is_letter is_digit is_alnum is_name_start is_name_part is_key_start is_blank is_quote is_plain is_punct is_space is_utf8 octets_from
    lead_of after_of number_of is_name is_key is_bare_name is_size tag_from is_tag language_by is_language unescape_from unescape is_value ends finish shut_of value_token after_name token_of text
    read_from read_payload piece_ranges turned scan_step close_from find_close marked is_marked escape flat_map more_text pairs_text pairs_of pairs canon range_bytes name_bytes
    value_bytes has_key put_row with_put with_puts slot_entry meant padded table_of rows_in listed_of meaning_of is_class is_among fresh_after once_in classes_once by_name valued puts_of puts_in limited filled_of brace_at finished at_brace
    read_attrs_at
twelve_cases = refl

pub places_at_braces : PlacesAtBraces
unfolding typed all headed run is_in same within is_letter is_digit is_alnum is_name_start is_name_part is_key_start is_blank is_quote is_plain is_utf8 octets_from lead_of after_of number_of
    is_name is_key is_bare_name is_size tag_from is_tag language_by is_language is_value ends finish shut_of value_token after_name token_of text read_from read_payload turned scan_step close_from
    find_close turn_of walk_passes payload_place filled_of brace_at finished at_brace read_attrs_at
places_at_braces = record { first = refl; later = refl }
