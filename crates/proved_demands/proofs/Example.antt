-- The example of document 01's 'The sheet program', computed.
-- Assumes nothing.
use mathlib.Core.Path.{refl}
use mathlib.Core.List.{flat_map}
use Rattle.base_lists.specs.Lists.{is_in, all, headed, run, same}
use Rattle.base_bytes.specs.Bytes.{is_blank, is_plain, is_quote, within, is_letter, is_digit, is_alnum, is_name_part, is_key_start, is_name_start, is_space, is_punct, is_tail, is_indent, is_marked}
use Rattle.text_utf8.specs.Computed.{lead_of, after_of, octets_from, is_utf8}
use Rattle.base_refusals.specs.Numbers.{number_of}
use Rattle.text_checks.specs.Check.{check_of}
use Rattle.text_names.specs.Names.{is_key, is_bare_name, is_name}
use Rattle.text_names.specs.Computed.{is_size, tag_from, is_tag, language_by, is_language}
use Rattle.text_escapes.specs.Unescape.{unescape_from, unescape}
use Rattle.text_lines.specs.Lines.{lines, eol, line_from, ranges_from, ranges}
use Rattle.text_lines.specs.Trim.{trim_end, trim_start, trim, trim_range, is_blank_line}
use Rattle.text_tabs.specs.Columns.{tab_stop, column_after, indent_from, capped}
use Rattle.block_grammar.specs.Computed.{ends, finish, shut_of, value_token, after_name, token_of, text, read_from, read_payload}
use Rattle.block_grammar.specs.Grammar.{is_value}
use Rattle.block_grammar.specs.Close.{turned}
use Rattle.block_grammar.specs.ComputedClose.{scan_step, close_from}
use Rattle.block_grammar.specs.Meaning as meaning
use Rattle.set_canon.specs.Canon.{pairs_of, pairs, marked, escape, more_text, pairs_text, canon}
use Rattle.block_payloads.specs.Payloads.{ends_in_close, behind_from, behind_last, continues}
use Rattle.run_scanners.specs.Scanners.{passed, seek_step, seek_from, last_open_brace, scan_from, open_quote_at_end, held_step, hold_from, holds_open}
use Rattle.set_table.specs.Rows.{padded, table_of, put_row, has_key, with_put, with_puts, slot_entry, meant, rows_in, listed_of, meaning_of}
use Rattle.set_table.specs.Puts.{by_name, valued, puts_of, puts_in}
use Rattle.set_table.specs.Types.{range_bytes, name_bytes, value_bytes}
use Rattle.set_table.specs.Filled.{limited}
use Rattle.set_exchange.specs.Exchange.{firsts_by, exchanged}
use Rattle.block_chain.specs.Chain.{good_line}
use Rattle.block_chain.specs.Computed.{blocks_from, read_blocks}
use Rattle.set_fill.specs.Fill.{chain_at}
use Rattle.run_joins.specs.Joins.{passes}
use Rattle.run_lines.specs.Runs.{run_from, run_at}
use Rattle.block_trimmed_line.specs.Fronts.{front_of, opens_at}
use Rattle.read_blocks.specs.Blocks.{run_found, found}
use Rattle.read_lengths.specs.Lengths.{flush_left}
use Rattle.sheet_blocks.specs.Sheets.{tries_from, only_blocks, blocks_of}
use Rattle.text_digits.specs.Decimal.{places_in, places, decimal}
use Rattle.sheet_report.specs.Report.{report_line, refused_line, canon_line, block_line, report_of, report}
use Rattle.proved_demands.specs.Typed.{typed}
use Rattle.proved_demands.specs.Cases.{ExampleReported}

pub example : ExampleReported
unfolding typed is_in all headed run same is_blank is_plain is_quote within is_letter is_digit is_alnum is_name_part is_key_start is_name_start is_space is_punct is_tail is_indent lead_of
    after_of octets_from is_utf8 number_of check_of is_key is_bare_name is_name is_size tag_from is_tag language_by is_language unescape_from unescape lines eol line_from ranges_from ranges trim_end
    trim_start trim trim_range is_blank_line tab_stop column_after indent_from capped ends finish shut_of value_token after_name token_of text read_from read_payload is_value scan_step
    close_from meaning.piece_ranges pairs_of pairs flat_map marked is_marked escape more_text pairs_text canon ends_in_close behind_from behind_last continues turned passed seek_step
    seek_from last_open_brace scan_from open_quote_at_end held_step hold_from holds_open padded table_of put_row has_key with_put with_puts slot_entry meant rows_in listed_of meaning_of meaning.is_class meaning.is_among meaning.fresh_after meaning.once_in meaning.classes_once by_name valued
    puts_of puts_in range_bytes name_bytes value_bytes blocks_from read_blocks good_line limited chain_at firsts_by exchanged passes run_from run_at front_of opens_at run_found found flush_left tries_from
    only_blocks blocks_of places_in places decimal report_line refused_line canon_line block_line report_of report
example = refl
