-- What the writer answers and what then stands in the lent memory, where xs is the canonical text.
use Rattle.std.specs.Prelude.{ℕ, Bool, cond, ◌&&◌, List, [], ◌∷◌, ◌++◌, leb, length, Err, Ok, Result}
use Rattle.base_lists.specs.Lists.{is_some, over}
use Rattle.base_refusals.specs.Numbers.{max_text, Paper, refused_paper, passed_paper}
use Rattle.base_refusals.specs.Orders.{Ground}
use Rattle.base_refusals.specs.declared.Refusal.TheVariants.{CanonTooLong, NotWellFormed, EmptySet}
use Rattle.text_checks.specs.Check.{both_order, both_of}
use Rattle.text_checks.specs.Outcomes.{or_left, unless, or_else}
use Rattle.set_canon.specs.Canon.{canon}
use Rattle.set_table.specs.Types.{Texts}
use Rattle.set_table.specs.Rows.{meaning_of}
use Rattle.set_table.specs.declared.Attrs.{Attrs}
use Rattle.set_wellformed.specs.WellFormed.{table_ok}
use Rattle.base_refusals.specs.declared.Refusal.{Refusal}

-- the number of an answer, and how many bytes are written
abbrev pub wrote_paper : Result ℕ Refusal → Paper
wrote_paper (Err r) = refused_paper r
wrote_paper (Ok n) = passed_paper (n ∷ [])

-- "canonical text above 65,535 bytes or the lent buffer": not so for a text of n bytes
unfoldable pub has_room : ℕ → ℕ → Bool
has_room size n = leb n max_text && leb n size

-- "10" alone, of the text xs for a buffer of `size` bytes
abbrev pub room_order : List ℕ → ℕ → List Ground
room_order xs size = Ground.lacking CanonTooLong (has_room size (length xs)) ∷ []

unfoldable pub wrote_of : List ℕ → ℕ → Result ℕ Refusal
wrote_of xs size = cond (has_room size (length xs)) (Ok (length xs)) (Err CanonTooLong)

-- "The writer changes only the bytes it counts."
unfoldable pub content_after : List ℕ → List ℕ → List ℕ
content_after buf xs = cond (has_room (length buf) (length xs)) (over xs buf) buf

-- ---- a set that a caller gives: "merging, well-formedness and writing take both texts"

-- "writer 1 and 2 of the first text, 1 and 2 of the second, 11, 12, 10"
abbrev pub writer_order : Texts → Attrs → ℕ → List Ground
writer_order t a size =
    both_order t.first t.second
    ++ (Ground.lacking NotWellFormed (table_ok t a)
    ∷ Ground.lacking EmptySet (is_some (meaning_of t a))
    ∷ room_order (canon (meaning_of t a)) size)

-- all but the last, which is of the text that would be written
unfoldable pub writable : Texts → Attrs → Result (Unit {0}) Refusal
writable t a = or_else (both_of t.first t.second) (or_else (unless NotWellFormed (table_ok t a)) (unless EmptySet (is_some (meaning_of t a))))

abbrev pub or_refused : Result (Unit {0}) Refusal → Result ℕ Refusal → Result ℕ Refusal
or_refused (Err r) w = Err r
or_refused (Ok _) w = w

unfoldable pub attrs_wrote : Texts → Attrs → ℕ → Result ℕ Refusal
attrs_wrote t a size = or_refused (writable t a) (wrote_of (canon (meaning_of t a)) size)

unfoldable pub attrs_content : Texts → Attrs → List ℕ → List ℕ
attrs_content t a buf = or_left (writable t a) buf (content_after buf (canon (meaning_of t a)))
