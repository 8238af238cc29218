-- The tag at a brace, as the code comes to it: by the payload that is handed back.
-- Assumes nothing.
use Rattle.std.specs.Prelude.{None, Option, Some}
use mathlib.Core.Path.{◌≡◌, refl, sym, ◌∙◌, ap}
use mathlib.Core.Bool.{Bool, true, false, cond}
use mathlib.Core.List.{List}
use Prim.Native.Nat.{ℕ, suc}
use lib.Dec.{ltb}
use lib.ListN.{length}
use lib.Seq.{slice}
use Rattle.base_bytes.specs.declared.Mode.{Mode}
use Rattle.base_refusals.specs.Numbers.{max_text}
use Rattle.text_utf8.specs.Computed.{is_utf8}
use Rattle.text_lines.specs.declared.Range.{Range}
use Rattle.block_grammar.specs.Computed.{read_from, read_payload}
use Rattle.block_grammar.specs.ComputedClose.{find_close}
use Rattle.base_refusals.specs.declared.Refusal.TheVariants.{BadTag}
use Rattle.read_brace.specs.Brace.{refusing_read, read_attrs_at, brace_at, payload_of, at_brace, empty_front, part_to, payload_at}
use Rattle.read_tags.specs.Tagged.{passed_by, tag_to, tag_at, read_tagged}
use Rattle.read_tags.specs.declared.Tags.TheVariants.{WellFormed}
use Rattle.read_tags.proofs.Langs.{anywhere}

abbrev passes_in : Mode → List ℕ → Range → Bool
passes_in m t r = passed_by (read_payload m 0 (slice r.from r.to t))

-- the empty part at the text's front has no reading
front : (m : Mode) (t : List ℕ) → passes_in m t empty_front ≡ true
unfolding read_payload read_from
front m t = refl

payload_passes : (m : Mode) (t : List ℕ) (i : ℕ) → passes_in m t (payload_at t i) ≡ tag_at m t i
unfolding payload_at tag_at at_brace
payload_passes m t i = go (ltb max_text (length t)) (brace_at t i) (find_close t (suc i))
  where
    cut : (b : Bool) (e : ℕ) → passes_in m t (cond b (record { from = suc i; to = e }) empty_front) ≡ cond b (passed_by (read_payload m (suc i) (payload_of t i e))) true
    cut true e = anywhere m (payload_of t i e) 0 (suc i)
    cut false e = front m t

    closed : (p : Option ℕ) → passes_in m t (part_to t i p) ≡ tag_to m t i p
    closed None = front m t
    closed (Some e) = cut (is_utf8 (payload_of t i e)) e

    go : (a b : Bool) (p : Option ℕ) → passes_in m t (cond a empty_front (cond b (part_to t i p) empty_front)) ≡ cond a true (cond b (tag_to m t i p) true)
    go true b p = front m t
    go false true p = closed p
    go false false p = front m t

-- the code's two ways
module _ (m : Mode) (t : List ℕ) (i : ℕ) {s : List ℕ} {b : Bool} (is : s ≡ slice (payload_at t i).from (payload_at t i).to t) (told : b ≡ passed_by (read_payload m 0 s)) where
  tag_by : b ≡ tag_at m t i
  tag_by = told ∙ ap (λ x. passed_by (read_payload m 0 x)) is ∙ payload_passes m t i

  pub bad_tag : b ≡ false → refusing_read BadTag ≡ read_tagged WellFormed m t i
  unfolding read_tagged
  bad_tag h = rw (sym tag_by ∙ h)

  pub good_tag : b ≡ true → read_attrs_at m t i ≡ read_tagged WellFormed m t i
  unfolding read_tagged
  good_tag h = rw (sym tag_by ∙ h)
