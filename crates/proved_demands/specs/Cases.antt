-- The texts whose answers are proved byte for byte: of document 01 the twelve of 'Cases on both sides' and the example of 'The sheet program', and those whose payload goes wrong at a place.
use Rattle.std.specs.Prelude.{◌≡◌, List, [], ◌∷◌, ◌++◌, map, ℕ, length, Err, Ok, Result}
use Prim.Native.String.{String}
use Rattle.base_bytes.specs.Bytes.{open_brace, close_brace}
use Rattle.base_bytes.specs.declared.Mode.TheVariants.{Strict}
use Rattle.block_grammar.specs.Meaning.{Entry}
use Rattle.set_canon.specs.Canon.{canon}
use Rattle.set_table.specs.Types.{one}
use Rattle.set_table.specs.Rows.{meaning_of}
use Rattle.read_brace.specs.Brace.{brace_paper, read_attrs_at}
use Rattle.read_brace.specs.declared.NotRead.{NotRead}
use Rattle.read_brace.specs.declared.NotRead.TheVariants.{Refused, Unread}
use Rattle.sheet_report.specs.Report.{report}
use Rattle.proved_places.specs.Places.{place_cases}
use Rattle.proved_demands.specs.Typed.{typed}

-- ---- "Proved as one list under one claim (strict, at byte 0)"

-- a text; the number of its answer, 0 where it is read; the place behind the close; and the canonical text of what was read
pub record Listed : Type 0 where
  pub given : List ℕ
  pub number : ℕ
  pub next : ℕ
  pub canonical : List ℕ

abbrev pub as_read : String → ℕ → String → Listed
as_read s n c = record { given = typed s; number = 0; next = n; canonical = typed c }

abbrev pub as_refused : String → ℕ → Listed
as_refused s n = record { given = typed s; number = n; next = 0; canonical = [] }

abbrev pub the_twelve : List Listed
the_twelve =
    -- "`{:}` empty lang"
    as_read "{:}" 3 "{lang=\"\"}" ∷
    -- "`{class=""}` one empty class"
    as_read "{class=\"\"}" 10 "{class=\"\"}" ∷
    -- "`{_a}` 5"
    as_refused "{_a}" 5 ∷
    -- "`{:abcdefgh}` accepted"
    as_read "{:abcdefgh}" 11 "{lang=\"abcdefgh\"}" ∷
    -- "`{:abcdefghi}` 5"
    as_refused "{:abcdefghi}" 5 ∷
    -- "`{a=}` 5"
    as_refused "{a=}" 5 ∷
    -- "`{}` 5"
    as_refused "{}" 5 ∷
    -- "`{a="1"b}` 5"
    as_refused "{a=\"1\"b}" 5 ∷
    -- "`{a="}"}` accepted to the end"
    as_read "{a=\"}\"}" 7 "{a=\"}\"}" ∷
    -- "`{k=1 k=2}` value 2"
    as_read "{k=1 k=2}" 9 "{k=\"2\"}" ∷
    -- "`{a` 4"
    as_refused "{a" 4 ∷
    -- "`{.a #x k=1 .b}` written `{class="a" class="b" id="x" k="1"}`"
    as_read "{.a #x k=1 .b}" 14 "{class=\"a\" class=\"b\" id=\"x\" k=\"1\"}" ∷
    []

-- what `read_attrs_at` answers at byte 0 of a text
abbrev pub behind_read : Result ℕ NotRead → ℕ
behind_read (Err (Refused r)) = 0
behind_read (Err (Unread n)) = 0
behind_read (Ok n) = n

abbrev pub canon_read : Result ℕ NotRead → List Entry → List ℕ
canon_read (Err (Refused r)) m = []
canon_read (Err (Unread n)) m = []
canon_read (Ok n) m = canon m

abbrev pub answered : List ℕ → Listed
answered t =
    record {
      given = t;
      number = (brace_paper (read_attrs_at Strict t 0).answer).number;
      next = behind_read (read_attrs_at Strict t 0).answer;
      canonical = canon_read (read_attrs_at Strict t 0).answer (meaning_of (one t) (read_attrs_at Strict t 0).set);
    }

abbrev pub TwelveCases : Type 0
TwelveCases = map (λ c. answered c.given) the_twelve ≡ the_twelve

-- ---- "Refusal 5 at a brace shall carry a place: the length in bytes of the longest prefix of the payload" (document 02)

-- the list of proved_places/specs/Places, each payload between braces behind a front
abbrev pub PlacesBehind : List ℕ → Type 0
PlacesBehind front = map (λ c. (read_attrs_at Strict (front ++ (open_brace ∷ (c.bytes ++ (close_brace ∷ [])))) (length front)).answer) place_cases ≡ map (λ c. Err (Unread c.place)) place_cases

-- strict, at byte 0; and counted from behind the brace, wherever it stands
pub record PlacesAtBraces : Type 0 where
  pub first : PlacesBehind []
  pub later : PlacesBehind (typed "x")

-- ---- "Input:" and "Output:" of 'The sheet program'

abbrev pub example_sheet : List ℕ
example_sheet =
    typed "{.wheel side=left}\n" ++
    (typed "text\n" ++
    (typed "{#v17\n" ++
    (typed " side=right}\n" ++
    typed "{.a}{.b side=\"x}y\"}\n")))

abbrev pub example_report : List ℕ
example_report =
    typed "block\t1\t1\t{class=\"wheel\" side=\"left\"}\n" ++
    (typed "block\t3\t2\t{id=\"v17\" side=\"right\"}\n" ++
    typed "block\t5\t1\t{class=\"a\" class=\"b\" side=\"x}y\"}\n")

abbrev pub ExampleReported : Type 0
ExampleReported = report example_sheet ≡ example_report
