-- The joined text: "a wrapped run's set is of the second, the joined text".
use Rattle.std.specs.Prelude.{ℕ, ◌-◌, ◌≤◌, ◌≡◌, true, false, not, List, eqb, length, drop, Some}
use Rattle.base_lists.specs.Lists.{all}
use Rattle.base_bytes.specs.Bytes.{lf}
use Rattle.base_refusals.specs.Numbers.{outcome_no}
use Rattle.text_utf8.specs.Computed.{is_utf8}
use Rattle.text_lines.specs.Lines.{line_of, line_at}
use Rattle.text_lines.specs.declared.Range.{Range}
use Rattle.block_payloads.specs.Payloads.{opens}
use Rattle.run_lines.specs.Runs.{run_at}
use Rattle.run_refused.specs.Refused.{refused_run}

-- ---- "well-formed if its texts give neither 1 nor 2": the joined text is UTF-8

-- where the text is, from the first line's place on
abbrev pub JoinedUtf8 : Type 0
JoinedUtf8 = (cap base : ℕ) (t : List ℕ) (at : ℕ) → is_utf8 (drop at t) ≡ true → is_utf8 (run_at cap base t at).text ≡ true

-- as it is from each line of a UTF-8 text on
abbrev pub LineUtf8 : Type 0
LineUtf8 = (n : ℕ) (t : List ℕ) (r : Range) → is_utf8 t ≡ true → line_of n t ≡ Some r → is_utf8 (drop r.from t) ≡ true

-- and from each line of one on that opens with a brace, wherever it begins
abbrev pub OpenUtf8 : Type 0
OpenUtf8 = (t : List ℕ) (at : ℕ) → is_utf8 t ≡ true → opens (line_at t at) ≡ true → is_utf8 (drop at t) ≡ true

-- and it is no longer than its buffer, nor than the text from there on
abbrev pub JoinedShort : Type 0
JoinedShort = (cap base : ℕ) (t : List ℕ) (at : ℕ) → (length (run_at cap base t at).text ≤ cap) × (length (run_at cap base t at).text ≤ length t - at)

abbrev pub RefusedShort : Type 0
RefusedShort = (cap : ℕ) (t : List ℕ) (n : ℕ) → length (refused_run cap t n).text ≤ length t

-- ---- "no LF in an unescaped id, class or key value": there is none in the joined text

abbrev pub JoinedNoLf : Type 0
JoinedNoLf = (cap base : ℕ) (t : List ℕ) (at : ℕ) → all (λ b. not (eqb b lf)) (run_at cap base t at).text ≡ true

-- ---- "Its buffers for joining and canonical text hold 65,535 bytes each, so 9 can't arise": a buffer of the text's length is enough

abbrev pub NeverFull : Type 0
NeverFull = (cap base : ℕ) (t : List ℕ) (at : ℕ) → length t ≤ cap → eqb (outcome_no (run_at cap base t at).stop) 9 ≡ false
