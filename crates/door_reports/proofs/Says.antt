-- An answer about a part of a report, made of what the parts promise.
-- Assumes nothing.
use mathlib.Core.Path.{◌≡◌, ap, ◌∙◌}
use mathlib.Core.List.{List}
use Prim.Native.Nat.{ℕ}
use Rattle.sheet_report.specs.Parts.{Laid, told_no, shown_part}
use Rattle.sheet_report.specs.declared.Part.{Part}
use Rattle.door_shared.specs.Tells.{told_in}
use Rattle.door_reports.specs.Reports.{part_told}

pub part_told_lem : (told : List ℕ) (R : Laid) {x : Part} {v : List ℕ} {r : ℕ} {i j o w : List ℕ} → x ≡ shown_part R → i ≡ j → o ≡ w → r ≡ told_no x.told → v ≡ told_in told (part_told x) → (r ≡ told_no R.told) × ((i ≡ j) × ((o ≡ w) × (v ≡ told_in told (part_told (shown_part R)))))
part_told_lem told R {x} {v} {r} e b c n s = (n ∙ ap (λ y. told_no y.told) e, (b, (c, s ∙ ap (λ y. told_in told (part_told y)) e)))
