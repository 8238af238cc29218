-- Reading at a brace. "Order: at a brace 1, 3, 4, 2, 5, 6, 7", and where the payload went wrong.
use Rattle.std.specs.Prelude.{ℕ, suc, Bool, true, cond, ◌&&◌, List, [], ◌∷◌, eqb, ltb, length, get_or, Err, None, Ok, Option, Result, Some}
use Rattle.std.proofs.Math.Seq.{slice}
use Rattle.base_bytes.specs.declared.Mode.{Mode}
use Rattle.base_bytes.specs.Bytes.{open_brace}
use Rattle.text_utf8.specs.Computed.{is_utf8}
use Rattle.base_refusals.specs.Numbers.{too_long, number_of, Paper, refused_paper, passed_paper}
use Rattle.base_refusals.specs.Orders.{Ground, order_no}
use Rattle.base_refusals.specs.declared.Refusal.{Refusal}
use Rattle.base_refusals.specs.declared.Refusal.TheVariants.{TextTooLong, NotUtf8, NothingThere, NoClose, NoReading}
use Rattle.block_grammar.specs.ComputedClose.{find_close}
use Rattle.block_grammar.specs.Computed.{read_payload}
use Rattle.block_places.specs.Computed.{payload_place}
use Rattle.set_table.specs.Types.{one, empty_set}
use Rattle.set_fill.specs.Fill.{reading_order, filled_of}
use Rattle.set_table.specs.declared.Filled.{Filled}
use Rattle.text_lines.specs.declared.Range.{Range}
use Rattle.read_brace.specs.declared.NotRead.{NotRead}
use Rattle.read_brace.specs.declared.NotRead.TheVariants.{Refused, Unread}
use Rattle.read_brace.specs.declared.Read.{Read}

-- the number of an answer, and the place behind the block
abbrev pub brace_paper : Result ℕ NotRead → Paper
brace_paper (Err (Refused r)) = refused_paper r
brace_paper (Err (Unread n)) = refused_paper NoReading
brace_paper (Ok n) = passed_paper (n ∷ [])

-- "Refusal 5 at a brace shall carry a place": that of an answer, 0 where it has none
abbrev pub place_said : Result ℕ NotRead → ℕ
place_said (Err (Refused r)) = 0
place_said (Err (Unread n)) = n
place_said (Ok n) = 0

-- the set of a refusal is the empty one
abbrev pub refusing_read : Refusal → Read
refusing_read r = record { answer = Err (Refused r); set = empty_set }

-- a `{` stands there; else 3: "no `{` at the place"
unfoldable pub brace_at : List ℕ → ℕ → Bool
brace_at t i = ltb i (length t) && eqb (get_or t i 0) open_brace

-- the bytes between the brace at i and the close at e
abbrev pub payload_of : List ℕ → ℕ → ℕ → List ℕ
payload_of t i e = slice (suc i) e t

-- a refusal, which for 5 has the place n, or the place behind the close
abbrev pub answer_at : Result (Unit {0}) Refusal → ℕ → ℕ → Result ℕ NotRead
answer_at (Err r) next n = cond (eqb (number_of r) (number_of NoReading)) (Err (Unread n)) (Err (Refused r))
answer_at (Ok _) next n = Ok next

-- the set as it was filled: a refusal's is the empty one already
unfoldable pub finished : Filled → ℕ → ℕ → Read
finished f next n = record { answer = answer_at f.outcome next n; set = f.set }

-- 4, then 2 of the payload alone, then 5 to 7
abbrev pub read_to : Mode → List ℕ → ℕ → Option ℕ → Read
read_to m t i None = refusing_read NoClose
read_to m t i (Some e) =
    cond (is_utf8 (payload_of t i e))
    (finished (filled_of m (one t) (suc i) (payload_of t i e)) (suc e) (payload_place m (payload_of t i e)))
    (refusing_read NotUtf8)

-- 1, then 3, then what the search for the close leads to
unfoldable pub at_brace : {A : Type 0} → A → A → (Option ℕ → A) → List ℕ → ℕ → A
at_brace long none to t i = cond (too_long t) long (cond (brace_at t i) (to (find_close t (suc i))) none)

unfoldable pub read_attrs_at : Mode → List ℕ → ℕ → Read
read_attrs_at m t i = at_brace (refusing_read TextTooLong) (refusing_read NothingThere) (read_to m t i) t i

-- ---- "at a brace 1, 3, 4, 2, 5, 6, 7"

abbrev pub close_order : Mode → List ℕ → ℕ → Option ℕ → List Ground
close_order m t i None = Ground.given NoClose true ∷ []
close_order m t i (Some e) = Ground.lacking NotUtf8 (is_utf8 (payload_of t i e)) ∷ reading_order (one t) (read_payload m (suc i) (payload_of t i e))

abbrev pub brace_order : Mode → List ℕ → ℕ → List Ground
brace_order m t i = Ground.given TextTooLong (too_long t) ∷ Ground.lacking NothingThere (brace_at t i) ∷ close_order m t i (find_close t (suc i))

-- the place behind the close, if there is one
abbrev pub behind_close : Option ℕ → List ℕ
behind_close None = []
behind_close (Some e) = suc e ∷ []

-- ---- "the length in bytes of the longest prefix of the payload .. that can still be continued to an acceptable payload in the same mode": said with a 5

abbrev pub place_to : Mode → List ℕ → ℕ → Option ℕ → ℕ
place_to m t i None = 0
place_to m t i (Some e) = payload_place m (payload_of t i e)

unfoldable pub place_at : Mode → List ℕ → ℕ → ℕ
place_at m t i = cond (eqb (order_no (brace_order m t i)) (number_of NoReading)) (place_to m t i (find_close t (suc i))) 0

-- ---- "the payload is handed back as that part of the caller's text, on a refusal as the empty part at the text's front"

abbrev pub empty_front : Range
empty_front = record { from = 0; to = 0 }

abbrev pub part_to : List ℕ → ℕ → Option ℕ → Range
part_to t i None = empty_front
part_to t i (Some e) = cond (is_utf8 (payload_of t i e)) (record { from = suc i; to = e }) empty_front

unfoldable pub payload_at : List ℕ → ℕ → Range
payload_at t i = at_brace empty_front empty_front (part_to t i) t i
