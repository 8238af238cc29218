-- Strictly read sets.
-- Assumes nothing.
use Rattle.std.specs.Prelude.{Err, Ok}
use mathlib.Core.Path.{◌≡◌, refl, sym, ◌∙◌, ap, subst}
use mathlib.Core.Bool.{Bool, true, false, cond}
use mathlib.Core.List.{List, []}
use Prim.Native.Nat.{ℕ, ◌<◌}
use native.Mathlib.Omega.{arith}
use Rattle.base_lists.proofs.More.{contra}
use Rattle.base_bytes.specs.declared.Mode.{Mode}
use Rattle.base_bytes.specs.declared.Mode.TheVariants.{Strict}
use Rattle.base_refusals.specs.Numbers.{number_of}
use Rattle.base_refusals.specs.declared.Refusal.TheVariants.{NoReading, BadTag}
use Rattle.base_lists.specs.Lists.{same}
use Rattle.text_langtags.specs.Grammar.{Allowed}
use Rattle.block_grammar.specs.Meaning.{lang_name, is_class, lookup}
use Rattle.proved_grammar.specs.Meaning.{absent, meaning}
use Rattle.set_table.specs.Types.{one, empty_set}
use Rattle.set_table.specs.Rows.{meaning_of}
use Rattle.set_wellformed.specs.WellFormed.{well_formed}
use Rattle.read_brace.specs.Brace.{brace_paper, refusing_read, read_attrs_at}
use Rattle.read_brace.specs.declared.NotRead.TheVariants.{Refused, Unread}
use Rattle.proved_sets.specs.Merged.{merge_meaning}
use Rattle.proved_sets.proofs.MergeMeans.{merge_gives}
use Rattle.proved_reading.proofs.Meaning.{read_means, none_reads, refused_empty, five_has_place}
use Rattle.proved_reading.proofs.Agrees.{read_well}
use Rattle.proved_reading.proofs.HandedOut.{handed_out_ok}
use Rattle.proved_demands.specs.Demands.{canon_of}
use Rattle.proved_demands.proofs.Canonical.{texts_equal, reads_back}
use Rattle.read_tags.specs.Tagged.{tag_at, read_tagged}
use Rattle.read_tags.specs.declared.Tags.TheVariants.{Any, WellFormed}
use Rattle.proved_tags.specs.Rules.{LangAllowed}
use Rattle.proved_tags.specs.Strictly.{strict_set, ReadStrictly, AnyIsOrdinary, StrictIsOrdinary, StrictRefused, StrictPlaces, StrictFits, StrictTextsEqual, StrictReadsBack, CanonBackStrictly, StrictBackStrictly, MergePasses, StrictMergePasses}
use Rattle.proved_tags.proofs.Langs.{passes_allowed, allowed_passes}
use Rattle.proved_tags.proofs.Rules.{strict_passes, reads_tag, unread_tag}

pub any_is_ordinary : AnyIsOrdinary
unfolding read_tagged
any_is_ordinary m t i = refl

-- a set is handed out only where the tag passes
set-passes : (m : Mode) (t : List ℕ) (i n : ℕ) → ReadStrictly m t i n → tag_at m t i ≡ true
unfolding read_tagged
set-passes m t i n = go (tag_at m t i)
  where
    go : (b : Bool) → (cond b (read_attrs_at m t i) (refusing_read BadTag)).answer ≡ Ok n → b ≡ true
    go true e = refl
    go false e = contra true refl (cc)

pub strict_is_ordinary : StrictIsOrdinary
strict_is_ordinary m t i n e =
    let p = set-passes m t i n e in
    let s = strict_passes m t i p in
    let r = read_means (rw s at e) in
    let q : meaning_of (one t) (strict_set m t i) ≡ meaning r.items = ap (λ x. meaning_of (one t) x.set) s ∙ r.meant in
    record { same = s; lang = subst LangAllowed (sym q) (passes_allowed r.items (sym (reads_tag m t i r.reads) ∙ p)) }

pub strict_refused : StrictRefused
unfolding read_tagged
strict_refused Any m t i e = refused_empty m t i e
strict_refused WellFormed m t i e = go (tag_at m t i) e
  where
    go : (b : Bool) → 0 < (brace_paper (cond b (read_attrs_at m t i) (refusing_read BadTag)).answer).number → (cond b (read_attrs_at m t i) (refusing_read BadTag)).set ≡ empty_set
    go true e = refused_empty m t i e
    go false e = refl

-- ---- 5 and its place

pub strict_places : (m : Mode) (t : List ℕ) (i : ℕ) → StrictPlaces m t i
unfolding read_tagged number_of
strict_places m t i =
    record {
      always = bare (tag_at m t i);
      place = λ n. (was (tag_at m t i), λ e. ap (λ r. r.answer) (strict_passes m t i (unread_tag m t i (λ k is. none_reads e))) ∙ e);
    }
  where
    bare : (b : Bool) → (cond b (read_attrs_at m t i) (refusing_read BadTag)).answer ≡ Err (Refused NoReading) → ⊥
    bare true e = five_has_place m t i e
    bare false e = absurd (omega (arith, ap (λ a. (brace_paper a).number) e))

    was : (b : Bool) {n : ℕ} → (cond b (read_attrs_at m t i) (refusing_read BadTag)).answer ≡ Err (Unread n) → (read_attrs_at m t i).answer ≡ Err (Unread n)
    was true e = e
    was false e = contra true refl (cc)

-- ---- demand 3

pub strict_fits : StrictFits
strict_fits m t i n u e l =
    let s = (strict_is_ordinary m t i n e).same in
    let w = read_well m t i (rw s at e) in
    let q : strict_set m t i ≡ (read_attrs_at m t i).set = ap (λ x. x.set) s in
    record { well = subst (λ a. well_formed (one t) a ≡ true) (sym q) (handed_out_ok m t i u); some = subst (λ a. meaning_of (one t) a ≡ [] → ⊥) (sym q) w.1; short = l }

pub strict_texts_equal : StrictTextsEqual
strict_texts_equal m k t u i j = texts_equal (one t) (one u) (strict_set m t i) (strict_set k u j)

pub strict_reads_back : StrictReadsBack
strict_reads_back m t i = reads_back (one t) (strict_set m t i)

-- an ordinary reading whose `lang` would pass is the strict one
ordinary_strict : (m : Mode) (t : List ℕ) (i n : ℕ) → (read_attrs_at m t i).answer ≡ Ok n → LangAllowed (meaning_of (one t) (read_attrs_at m t i).set) → read_tagged WellFormed m t i ≡ read_attrs_at m t i
ordinary_strict m t i n e a =
    let r = read_means e in
    strict_passes m t i (reads_tag m t i r.reads ∙ allowed_passes r.items (subst LangAllowed r.meant a))

pub canon_back_strictly : CanonBackStrictly
canon_back_strictly t a f l =
    let b = reads_back t a f in
    let s = ordinary_strict Strict (canon_of t a) 0 _ b.answer (subst LangAllowed (sym b.means) l) in
    record { answer = ap (λ x. x.answer) s ∙ b.answer; means = ap (λ x. meaning_of (one (canon_of t a)) x.set) s ∙ b.means }

pub strict_back_strictly : StrictBackStrictly
strict_back_strictly m t i n u e l = canon_back_strictly (one t) (strict_set m t i) (strict_fits m t i n u e l) (strict_is_ordinary m t i n e).lang

-- ---- merging

pub merge_passes : MergePasses
unfolding is_class same
merge_passes t a b e f g v q =
    let w = merge_gives t a b e in
    go (absent lang_name (meaning_of t b)) refl (w.later_wins lang_name) (w.earlier_stays lang_name)
  where
    go : (x : Bool) → absent lang_name (meaning_of t b) ≡ x
        → (absent lang_name (meaning_of t b) ≡ false → is_class lang_name ≡ false → lookup lang_name (merge_meaning t a b) ≡ lookup lang_name (meaning_of t b))
        → (absent lang_name (meaning_of t b) ≡ true → lookup lang_name (merge_meaning t a b) ≡ lookup lang_name (meaning_of t a)) → Allowed v
    go true p later earlier = f v (sym (earlier p) ∙ q)
    go false p later earlier = g v (sym (later p refl) ∙ q)

pub strict_merge_passes : StrictMergePasses
strict_merge_passes m k t i j n p d e o = merge_passes (one t) (strict_set m t i) (strict_set k t j) o (strict_is_ordinary m t i n d).lang (strict_is_ordinary k t j p e).lang
