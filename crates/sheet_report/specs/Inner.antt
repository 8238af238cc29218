-- The canonical text in a line, as the code's own functions promise it. No definition of a public promise rests on this.
use Rattle.std.specs.Prelude.{ℕ, List, leb, length}
use Rattle.base_refusals.specs.Numbers.{max_text}
use Rattle.set_writer.specs.Inner.{put_if}

-- xs at `at`, unless it is longer than a text may be
unfoldable pub put_short : List ℕ → ℕ → List ℕ → List ℕ
put_short buf at xs = put_if (leb (length xs) max_text) buf at xs
