-- With one or two of three sets empty, the meaning is that of the others merged, however they are grouped.
-- Assumes nothing.
use mathlib.Core.Path.{◌≡◌, sym, ◌∙◌, ap}
use mathlib.Core.Bool.{true}
use mathlib.Core.List.{List, [], ◌∷◌, ◌++◌, append-nil, flat_map}
use Rattle.base_lists.specs.Lists.{all}
use Rattle.base_lists.proofs.Scan.{both}
use Rattle.block_grammar.specs.Meaning.{Entry, classes_once}
use Rattle.proved_grammar.specs.Meaning.{puts}
use Rattle.set_table.specs.Types.{Texts}
use Rattle.set_table.specs.Rows.{listed_of, meaning_of}
use Rattle.set_table.specs.declared.Attrs.{Attrs}
use Rattle.set_wellformed.specs.WellFormed.{well_formed}
use Rattle.proved_sets.specs.Formed.{HasNothing}
use Rattle.proved_sets.specs.Merged.{merge_meaning}
use Rattle.proved_sets.proofs.MergeMeans.{merge_gives}
use Rattle.proved_sets.proofs.PutsKept.{empty_formed}
use Rattle.proved_sets.proofs.WellFormedShape.{formed_parts, formed_whole}
use Rattle.proved_groups.specs.Groups.{AllFormed, all_listed, Within, AllWithin, all_mean, GroupsMean, OneEmpty, TwoEmpty}
use Rattle.proved_groups.proofs.Merging.{empty_among}
use Rattle.proved_groups.proofs.Steps.{listed-within, step, first_means, groups_mean}

three : (t : Texts) (a b c : Attrs) → well_formed t a ≡ true → well_formed t b ≡ true → well_formed t c ≡ true → AllFormed t (a ∷ b ∷ c ∷ [])
unfolding all
three t a b c f g h = rw (f, g, h)

-- what others list and mean that have no more than these
groups : (t : Texts) (a b c : Attrs) (sets : List Attrs) {m : List Entry} → AllFormed t (a ∷ b ∷ c ∷ []) → all_listed t (a ∷ b ∷ c ∷ []) ≡ all_listed t sets → all_mean t (a ∷ b ∷ c ∷ []) ≡ all_mean t sets
    → AllWithin t sets → all_mean t sets ≡ m → GroupsMean t a b c m
groups t a b c sets f l e w q = let v : AllWithin t (a ∷ b ∷ c ∷ []) = rw l w in rw (← q, ← e) (groups_mean t a b c f v)

-- an empty set is well-formed where another is
empty_well : (t : Texts) (a e : Attrs) → HasNothing e → well_formed t a ≡ true → well_formed t e ≡ true
empty_well t a e n h = let z = formed_parts t a h in formed_whole t e z.0 z.1 ∙ empty_formed t e n

-- ---- two sets
module _ (t : Texts) (a b : Attrs) (f : AllFormed t (a ∷ b ∷ [])) (w : AllWithin t (a ∷ b ∷ [])) where
  formed : (well_formed t a ≡ true) × (well_formed t b ≡ true)
  unfolding all
  formed = let p = both (well_formed t a) (all (well_formed t) (b ∷ [])) f in (p.0, (both (well_formed t b) true p.1).0)

  listed-two : all_listed t (a ∷ b ∷ []) ≡ listed_of t a ++ listed_of t b
  unfolding flat_map
  listed-two = ap (λ l. listed_of t a ++ l) (append-nil (listed_of t b))

  pub two_means : all_mean t (a ∷ b ∷ []) ≡ merge_meaning t a b
  unfolding flat_map meaning_of
  two_means =
      let v : Within (listed_of t a ++ listed_of t b) = rw listed-two at w in
      let m = merge_gives t a b (step t a b formed.0 formed.1 v) in
      first_means t a (b ∷ []) formed.0 ∙ ap (λ l. classes_once (puts (listed_of t a) l)) (append-nil (listed_of t b)) ∙ ap classes_once (sym m.lists)

pub one_empty : OneEmpty
one_empty t e a b n f w =
    let h = formed t a b f w in
    let k = empty_well t a e n h.0 in
    let x = empty_among t [] (a ∷ b ∷ []) e n in
    let y = empty_among t (a ∷ []) (b ∷ []) e n in
    let z = empty_among t (a ∷ b ∷ []) [] e n in
    let q = two_means t a b f w in (
      groups t e a b (a ∷ b ∷ []) (three t e a b k h.0 h.1) x.lists x.means w q,
      groups t a e b (a ∷ b ∷ []) (three t a e b h.0 k h.1) y.lists y.means w q,
      groups t a b e (a ∷ b ∷ []) (three t a b e h.0 h.1 k) z.lists z.means w q,
    )

-- ---- one set
module _ (t : Texts) (a : Attrs) (h : well_formed t a ≡ true) where
  pub one_means : all_mean t (a ∷ []) ≡ meaning_of t a
  unfolding flat_map puts meaning_of
  one_means = first_means t a [] h

  one-within : AllWithin t (a ∷ [])
  unfolding flat_map
  one-within = rw (append-nil (listed_of t a)) (listed-within t a h)

pub two_empty : TwoEmpty
two_empty t d e a n o h =
    let j = empty_well t a d n h in
    let k = empty_well t a e o h in
    let w = one-within t a h in
    let q = one_means t a h in
    let x = empty_among t (a ∷ []) (e ∷ []) d n in
    let y = empty_among t (a ∷ []) [] e o in
    let u = empty_among t [] (a ∷ e ∷ []) d n in
    let v = empty_among t [] (e ∷ a ∷ []) d n in
    let z = empty_among t [] (a ∷ []) e o in (
      groups t a d e (a ∷ []) (three t a d e h j k) (x.lists ∙ y.lists) (x.means ∙ y.means) w q,
      groups t d a e (a ∷ []) (three t d a e j h k) (u.lists ∙ y.lists) (u.means ∙ y.means) w q,
      groups t d e a (a ∷ []) (three t d e a j k h) (v.lists ∙ z.lists) (v.means ∙ z.means) w q,
    )
