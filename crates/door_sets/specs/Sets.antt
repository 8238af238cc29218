-- What a caller from C or Rust is answered of a set that is read or merged.
use Rattle.std.specs.Prelude.{ℕ, zero, suc, List, [], ◌∷◌, Err, Ok, Result}
use Rattle.base_bytes.specs.declared.Mode.{Mode}
use Rattle.base_bytes.specs.declared.Mode.TheVariants.{Strict, Loose}
use Rattle.text_checks.specs.Check.{check_of}
use Rattle.base_refusals.specs.Numbers.{Paper, passed_paper}
use Rattle.base_refusals.specs.declared.Refusal.TheVariants.{NoReading}
use Rattle.set_table.specs.Types.{one}
use Rattle.set_table.specs.declared.Attrs.{Attrs}
use Rattle.read_brace.specs.Brace.{read_attrs_at, place_said}
use Rattle.read_brace.specs.declared.Read.{Read}
use Rattle.read_brace.specs.declared.NotRead as answers
use Rattle.read_brace.specs.declared.NotRead.TheVariants as answer
use Rattle.read_by_line.specs.Entries.{parse_standalone}
use Rattle.set_merge.specs.Merge.{merge_of}
use Rattle.text_checks.specs.Outcomes.{or_else}
use Rattle.door_shared.specs.Tells.{Said, refused_step, set_said}
use Rattle.base_refusals.specs.declared.Refusal.{Refusal}
use Rattle.read_brace.specs.declared.NotRead.{NotRead}

-- "`read_attrs_at` is strict (spaces only), lines are loose": 0 is strict, any other number loose
abbrev pub mode_of : ℕ → Mode
mode_of zero = Strict
mode_of (suc n) = Loose

-- on paper: that number, 1 for any other
abbrev pub mode_paper : Mode → Paper
mode_paper Strict = passed_paper (0 ∷ [])
mode_paper Loose = passed_paper (1 ∷ [])

-- why no set was read, and the place behind what was
abbrev pub check_by : Result ℕ answers.NotRead → Result (Unit {0}) Refusal
check_by (Err (answer.Refused r)) = Err r
check_by (Err (answer.Unread n)) = Err NoReading
check_by (Ok n) = Ok tt

abbrev pub place_behind : Result ℕ answers.NotRead → ℕ
place_behind (Err (answer.Refused r)) = 0
place_behind (Err (answer.Unread n)) = 0
place_behind (Ok n) = n

-- "Order: at a brace 1, 3, 4, 2, 5, 6, 7", and then the writer's 2, of the whole text, and 10; "Refusal 5 at a brace shall carry a place", which is told last
abbrev pub brace_by : List ℕ → List ℕ → Read → Said
brace_by t buf r = set_said (or_else (check_by r.answer) (check_of t)) (one t) r.set buf (λ n. place_behind r.answer ∷ n ∷ place_said r.answer ∷ [])

unfoldable pub brace_said : Mode → List ℕ → ℕ → List ℕ → Said
brace_said m t i buf = brace_by t buf (read_attrs_at m t i)

-- `parse_standalone_attrs`, and then 10
unfoldable pub line_said : List ℕ → ℕ → List ℕ → Said
line_said t n buf = set_said (parse_standalone t n).outcome (one t) (parse_standalone t n).set buf (λ k. k ∷ [])

-- two lines of one text, "Both sets of a merge are over the same two texts.": here the lent one and the empty one: the first line's refusal, else the second's, else the merge's, else 10
abbrev pub merge_by : List ℕ → List ℕ → Result (Unit {0}) Refusal → Attrs → Result (Unit {0}) Refusal → Attrs → Said
merge_by t buf a x b y =
    set_said (or_else a (or_else b (merge_of (one t) x y).outcome)) (one t) (merge_of (one t) x y).set buf (λ n. refused_step a b (merge_of (one t) x y).outcome ∷ n ∷ [])

unfoldable pub merge_said : List ℕ → ℕ → ℕ → List ℕ → Said
merge_said t m n buf =
    merge_by t buf (parse_standalone t m).outcome (parse_standalone t m).set (parse_standalone t n).outcome (parse_standalone t n).set
