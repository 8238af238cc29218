-- The line that begins at a place, trimmed.
use Rattle.std.specs.Prelude.{ℕ, ◌+◌, Bool, List}
use Rattle.base_bytes.specs.Bytes.{is_indent}
use Rattle.text_lines.specs.Lines.{line_from, line_at}
use Rattle.text_lines.specs.Trim.{trim, trim_range}
use Rattle.block_payloads.specs.Payloads.{ends_in_close, opens}
use Rattle.block_trimmed_line.specs.declared.Front.{Front}
use Rattle.base_lists.specs.Lists.{first_is}

-- it starts with `{`; else 3: "trimmed line doesn't start with `{`"
unfoldable pub opens_at : List ℕ → ℕ → Bool
opens_at t at = opens (line_at t at)

-- its range, where the next line begins, and the braces at its ends: "if the first line's trimmed end isn't `}`"
unfoldable pub front_of : List ℕ → ℕ → Front
front_of t at =
    record {
      from = at + (trim_range (line_at t at)).from;
      to = at + (trim_range (line_at t at)).to;
      next = (line_from t at).next;
      opens = opens_at t at;
      closes = ends_in_close (trim (line_at t at));
    }

-- "for `standalone_attrs_block_len`, first line starts with space or tab"
abbrev pub begins_indented : List ℕ → Bool
begins_indented s = first_is is_indent s
