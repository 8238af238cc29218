-- A value byte by byte: its raw text, and what that stands for. No definition of the writer's own promises rests on these.
use Rattle.std.specs.Prelude.{ℕ, ◌+◌, Bool, true, false, cond, List, [], leb, length, get_or, None, Option, Some}
use Rattle.text_escapes.specs.Unescape.{unescape, piece_at}
use Rattle.set_table.specs.Types.{Texts, range_bytes}
use Rattle.set_table.specs.declared.Value.{Value}
use Rattle.set_table.specs.declared.Text as texts
use Rattle.set_table.specs.declared.Text.TheVariants as text

-- the raw text of a value, and whether it is to be unescaped
abbrev pub raw_text : Texts → texts.Text → List ℕ
raw_text t (text.Plain o from to) = range_bytes t o from to
raw_text t (text.Quoted o from to) = range_bytes t o from to
raw_text t text.Empty = []

unfoldable pub raw_bytes : Texts → Value → List ℕ
raw_bytes t v = raw_text t v.text

abbrev pub is_quoted_text : texts.Text → Bool
is_quoted_text (text.Plain o from to) = false
is_quoted_text (text.Quoted o from to) = true
is_quoted_text text.Empty = false

unfoldable pub is_quoted : Value → Bool
is_quoted v = is_quoted_text v.text

-- what a raw text stands for
abbrev pub bytes_in : Bool → List ℕ → List ℕ
bytes_in quoted s = cond quoted (unescape s) s

-- its byte at i, and where the next one stands
unfoldable pub piece_in : Bool → List ℕ → ℕ → Option (ℕ × ℕ)
piece_in quoted s i = cond quoted (piece_at s i) (cond (leb (length s) i) None (Some (get_or s i 0, i + 1)))
