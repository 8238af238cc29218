-- Numbers told in lent memory, and a set handed out there as its canonical text.
use Rattle.std.specs.Prelude.{ℕ, List, [], ◌∷◌, length, Err, Ok, Result}
use Rattle.set_canon.specs.Canon.{canon}
use Rattle.set_table.specs.Types.{Texts}
use Rattle.set_table.specs.Rows.{meaning_of}
use Rattle.set_table.specs.declared.Attrs.{Attrs}
use Rattle.set_writer.specs.Write.{wrote_paper, wrote_of, content_after, or_refused}
use Rattle.text_checks.specs.Outcomes.{or_left}
use Rattle.base_refusals.specs.declared.Refusal.{Refusal}

-- as many of the numbers as there is room for stand at the front of the lent memory; the rest of it is untouched
unfoldable pub told_in : List ℕ → List ℕ → List ℕ
told_in [] xs = []
told_in (b ∷ buf) [] = b ∷ buf
told_in (b ∷ buf) (x ∷ xs) = x ∷ told_in buf xs

-- how many bytes the canonical text has, 0 where none is written
abbrev pub len_of : Result ℕ Refusal → ℕ
len_of (Err r) = 0
len_of (Ok n) = n

-- what the writer refuses
abbrev pub outcome_of : Result ℕ Refusal → Result (Unit {0}) Refusal
outcome_of (Err r) = Err r
outcome_of (Ok n) = Ok tt

-- which of three steps is the first that refuses, counted from 1; 0 where none does
abbrev pub refused_step : Result (Unit {0}) Refusal → Result (Unit {0}) Refusal → Result (Unit {0}) Refusal → ℕ
refused_step (Err r) b c = 1
refused_step (Ok _) (Err r) c = 2
refused_step (Ok _) (Ok _) (Err r) = 3
refused_step (Ok _) (Ok _) (Ok _) = 0

-- an answer: its number, what is told, and what then stands in the memory that was lent for canonical text
pub record Said : Type 0 where
  pub number : ℕ
  pub told : List ℕ
  pub out : List ℕ

-- a set over the texts t, unless the check refuses it: its canonical text, where it has room in `buf`; its length, 0 where none is written, is one of the numbers told
abbrev pub set_said : Result (Unit {0}) Refusal → Texts → Attrs → List ℕ → (ℕ → List ℕ) → Said
set_said c t a buf tell =
    record {
      number = (wrote_paper (or_refused c (wrote_of (canon (meaning_of t a)) (length buf)))).number;
      told = tell (len_of (or_refused c (wrote_of (canon (meaning_of t a)) (length buf))));
      out = or_left c buf (content_after buf (canon (meaning_of t a)));
    }
