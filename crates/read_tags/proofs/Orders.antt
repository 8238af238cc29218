-- The numbers of a strict reading, at a brace 1, 3, 4, 2, 5, 13, 6, 7, and the place of a 5.
-- Assumes nothing.
use Rattle.std.specs.Prelude.{None, Option, Some}
use mathlib.Core.Path.{◌≡◌, refl, sym, ◌∙◌, ap}
use mathlib.Core.Bool.{Bool, true, false, cond}
use mathlib.Core.List.{List}
use Prim.Native.Nat.{ℕ, suc}
use lib.Dec.{eqb}
use Rattle.base_bytes.specs.declared.Mode.{Mode}
use Rattle.base_refusals.specs.Numbers.{too_long, number_of, Paper, refused_paper}
use Rattle.base_refusals.specs.Orders.{Ground, in_order, on_paper}
use Rattle.base_refusals.specs.declared.Refusal.TheVariants.{TextTooLong, NotUtf8, NothingThere, NoReading, BadTag}
use Rattle.base_refusals.proofs.Orders.{paper_no}
use Rattle.text_utf8.specs.Computed.{is_utf8}
use Rattle.block_grammar.specs.Grammar.{Placed, Reading}
use Rattle.block_grammar.specs.Computed.{read_payload}
use Rattle.block_grammar.specs.ComputedClose.{find_close}
use Rattle.set_table.specs.Types.{Texts, one}
use Rattle.set_fill.specs.Fill.{reading_order}
use Rattle.read_brace.specs.Brace.{brace_paper, place_said, refusing_read, brace_at, payload_of, at_brace, read_attrs_at, close_order, brace_order, behind_close, place_to, place_at}
use Rattle.read_brace.specs.declared.Read.{Read}
use Rattle.read_brace.proofs.Numbers.{brace_no, said}
use Rattle.read_brace.proofs.Places.{brace_place}
use Rattle.read_tags.specs.Tagged.{tag_passes, passed_by, tag_to, tag_at, read_tagged, tagged_reading, tagged_close, tagged_order, tagged_place_at}
use Rattle.read_tags.specs.declared.Tags.{Tags}
use Rattle.read_tags.specs.declared.Tags.TheVariants.{Any, WellFormed}

-- a strict order on paper: that of ordinary reading where the tag passes, else 13
abbrev Either : Bool → List Ground → List Ground → List ℕ → Type 0
Either pass strict plain vs = on_paper strict vs ≡ cond pass (on_paper plain vs) (refused_paper BadTag)

module _ (vs : List ℕ) where
  reading : (t : Texts) (r : Reading) → Either (passed_by r) (tagged_reading t r) (reading_order t r) vs
  unfolding on_paper in_order
  reading t Reading.refused = refl
  reading t (Reading.items is) = refl

  closed : (m : Mode) (t : List ℕ) (i : ℕ) (p : Option ℕ) → Either (tag_to m t i p) (tagged_close m t i p) (close_order m t i p) vs
  unfolding on_paper in_order
  closed m t i None = refl
  closed m t i (Some e) = go (is_utf8 (payload_of t i e)) _ _ (reading (one t) (read_payload m (suc i) (payload_of t i e)))
    where
      go : (b c : Bool) {x : Paper} (y : Paper) → x ≡ cond c y (refused_paper BadTag) → cond b x (refused_paper NotUtf8) ≡ cond (cond b c true) (cond b y (refused_paper NotUtf8)) (refused_paper BadTag)
      go true c y h = h
      go false c y h = refl

  whole : (m : Mode) (t : List ℕ) (i : ℕ) → Either (tag_at m t i) (tagged_order WellFormed m t i) (brace_order m t i) vs
  unfolding on_paper in_order tag_at at_brace
  whole m t i = go (too_long t) (brace_at t i) _ _ (closed m t i (find_close t (suc i)))
    where
      go : (a b c : Bool) {x : Paper} (y : Paper) → x ≡ cond c y (refused_paper BadTag)
          → cond a (refused_paper TextTooLong) (cond b x (refused_paper NothingThere)) ≡ cond (cond a true (cond b c true)) (cond a (refused_paper TextTooLong) (cond b y (refused_paper NothingThere))) (refused_paper BadTag)
      go true b c y h = refl
      go false true c y h = h
      go false false c y h = refl

paper_of : (c : Bool) (r : Read) → brace_paper (cond c r (refusing_read BadTag)).answer ≡ cond c (brace_paper r.answer) (refused_paper BadTag)
paper_of true r = refl
paper_of false r = refl

pub tagged_no : (g : Tags) (m : Mode) (t : List ℕ) (i : ℕ) → brace_paper (read_tagged g m t i).answer ≡ on_paper (tagged_order g m t i) (behind_close (find_close t (suc i)))
unfolding read_tagged
tagged_no Any m t i = brace_no m t i
tagged_no WellFormed m t i =
    rw (whole (behind_close (find_close t (suc i))) m t i, ← brace_no m t i) (paper_of (tag_at m t i) (read_attrs_at m t i))

-- ---- the place: what an answer says, by its number

module _ (m : Mode) (t : List ℕ) (i : ℕ) where
  -- the place that is said with the number k
  abbrev place_by : ℕ → ℕ
  place_by k = cond (eqb k (number_of NoReading)) (place_to m t i (find_close t (suc i))) 0

  abbrev Says : Read → Type 0
  Says r = place_said r.answer ≡ place_by (brace_paper r.answer).number

  plain_says : Says (read_attrs_at m t i)
  unfolding place_at
  plain_says =
      brace_place m t i ∙ ap place_by (sym (paper_no (brace_order m t i) (behind_close (find_close t (suc i)))) ∙ ap (λ p. p.number) (sym (brace_no m t i)))

  tagged_says : (g : Tags) → Says (read_tagged g m t i)
  unfolding read_tagged number_of
  tagged_says Any = plain_says
  tagged_says WellFormed = go (tag_at m t i)
    where
      go : (c : Bool) → Says (cond c (read_attrs_at m t i) (refusing_read BadTag))
      go true = plain_says
      go false = refl

  pub tagged_place : (g : Tags) → place_said (read_tagged g m t i).answer ≡ tagged_place_at g m t i
  unfolding tagged_place_at
  tagged_place g =
      tagged_says g ∙ ap place_by (ap (λ p. p.number) (tagged_no g m t i) ∙ paper_no (tagged_order g m t i) (behind_close (find_close t (suc i))))

pub tagged_said_lem : (g : Tags) (m : Mode) (t : List ℕ) (i : ℕ) {r : Read} → r ≡ read_tagged g m t i
    → record { value : r ≡ read_tagged g m t i; answer_value : brace_paper r.answer ≡ on_paper (tagged_order g m t i) (behind_close (find_close t (suc i))); answer_value_2 : place_said r.answer ≡ tagged_place_at g m t i }
tagged_said_lem g m t i = said (tagged_no g m t i) (tagged_place m t i g)
