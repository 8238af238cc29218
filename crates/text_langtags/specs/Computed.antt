-- Well-formed language tags by computing: byte by byte, with the stage of the tag and the present subtag. The rules are Grammar; the two are proved to agree
-- (proved_langtags/specs/WellFormedTags).
use Rattle.std.specs.Prelude.{ℕ, ◌-◌, Bool, true, false, cond, not, ◌||◌, List, [], ◌∷◌, ◌++◌, eqb, leb, length}
use Rattle.base_lists.specs.Lists.{all, first_is}
use Rattle.base_bytes.specs.Bytes.{within, is_letter, is_digit, is_alnum, hyphen}
use Rattle.text_langtags.specs.Letters.{smalls, is_x, is_listed, irregulars}
use Rattle.text_langtags.specs.declared.SubtagKind.{SubtagKind}
use Rattle.text_langtags.specs.declared.SubtagKind.TheVariants.{Other, X, Single, Two, Three, Four, Long, Number, Variant, Plain}
use Rattle.text_langtags.specs.declared.Stage.{Stage}
use Rattle.text_langtags.specs.declared.Stage.TheVariants as at

-- ---- a subtag: its length and its bytes tell what it may be

-- by its length, whether it begins with x or with a digit, and whether all its bytes are letters, digits, or either
unfoldable pub kind_by : ℕ → Bool → Bool → Bool → Bool → Bool → SubtagKind
kind_by n x digit letters digits alnum =
    cond (not alnum) Other
    (cond (eqb n 1) (cond x X Single)
    (cond (eqb n 2) (cond letters Two Plain)
    (cond (eqb n 3) (cond letters Three (cond digits Number Plain))
    (cond (eqb n 4) (cond letters Four (cond digit Variant Plain))
    (cond (within 5 8 n) (cond letters Long Variant)
    Other)))))

unfoldable pub subtag_kind : List ℕ → SubtagKind
subtag_kind t = kind_by (length t) (first_is is_x t) (first_is is_digit t) (all is_letter t) (all is_digit t) (all is_alnum t)

-- 1*8alphanum
abbrev pub is_subtag : SubtagKind → Bool
is_subtag Other = false
is_subtag X = true
is_subtag Single = true
is_subtag Two = true
is_subtag Three = true
is_subtag Four = true
is_subtag Long = true
is_subtag Number = true
is_subtag Variant = true
is_subtag Plain = true

-- 2*8alphanum
abbrev pub is_part : SubtagKind → Bool
is_part Other = false
is_part X = false
is_part Single = false
is_part Two = true
is_part Three = true
is_part Four = true
is_part Long = true
is_part Number = true
is_part Variant = true
is_part Plain = true

-- ---- the stage behind a subtag

-- x opens private use, another single byte an extension
abbrev pub opened : SubtagKind → Stage
opened Other = at.Bad
opened X = at.Private
opened Single = at.Single
opened Two = at.Bad
opened Three = at.Bad
opened Four = at.Bad
opened Long = at.Bad
opened Number = at.Bad
opened Variant = at.Bad
opened Plain = at.Bad

-- the first subtag: a language, behind which three extlangs may follow if it has two or three letters, or x
abbrev pub began : SubtagKind → Stage
began Other = at.Bad
began X = at.Private
began Single = at.Bad
began Two = at.Body 5
began Three = at.Body 5
began Four = at.Body 2
began Long = at.Body 2
began Number = at.Bad
began Variant = at.Bad
began Plain = at.Bad

-- behind the language. What may still come: n - 2 extlangs, a script if n is 2 or more, a region if n is 1 or more, and variants
abbrev pub continued : ℕ → SubtagKind → Stage
continued n Other = at.Bad
continued n X = at.Private
continued n Single = at.Single
continued n Two = cond (leb 1 n) (at.Body 0) at.Bad
continued n Three = cond (leb 3 n) (at.Body (n - 1)) at.Bad
continued n Four = cond (leb 2 n) (at.Body 1) at.Bad
continued n Long = at.Body 0
continued n Number = cond (leb 1 n) (at.Body 0) at.Bad
continued n Variant = at.Body 0
continued n Plain = at.Bad

abbrev pub next_stage : Stage → SubtagKind → Stage
next_stage at.Bad k = at.Bad
next_stage at.Start k = began k
next_stage (at.Body n) k = continued n k
next_stage at.Single k = cond (is_part k) at.Extension at.Bad
next_stage at.Extension k = cond (is_part k) at.Extension (opened k)
next_stage at.Private k = cond (is_subtag k) at.Own at.Bad
next_stage at.Own k = cond (is_subtag k) at.Own at.Bad

-- a tag may end here: not behind a singleton or an x that has no subtag yet
abbrev pub may_end : Stage → Bool
may_end at.Bad = false
may_end at.Start = false
may_end (at.Body n) = true
may_end at.Single = false
may_end at.Extension = true
may_end at.Private = false
may_end at.Own = true

-- ---- a tag

-- the stage at the end of s, where t is read of the present subtag: a hyphen ends a subtag
unfoldable pub stage_from : Stage → List ℕ → List ℕ → Stage
stage_from st t [] = next_stage st (subtag_kind t)
stage_from st t (b ∷ s) = cond (eqb b hyphen) (stage_from (next_stage st (subtag_kind t)) [] s) (stage_from st (t ++ (b ∷ [])) s)

-- langtag / privateuse
unfoldable pub is_unlisted : List ℕ → Bool
is_unlisted s = may_end (stage_from at.Start [] s)

-- "well-formedness in RFC 5646 section 2.1", "letter case ignored". The regular tags are langtags.
unfoldable pub is_well_formed : List ℕ → Bool
is_well_formed s = is_unlisted s || is_listed irregulars (smalls s)

-- "The empty tag stays allowed, since it means unknown."
unfoldable pub is_allowed : List ℕ → Bool
is_allowed [] = true
is_allowed (b ∷ s) = is_well_formed (b ∷ s)
