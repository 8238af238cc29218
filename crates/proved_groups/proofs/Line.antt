-- Canonical texts back to back are read as one line, and mean the merge.
-- Assumes nothing.
use Rattle.std.specs.Prelude.{Ok}
use mathlib.Core.Path.{◌≡◌, refl, sym, ◌∙◌, ap}
use mathlib.Core.Bool.{true}
use mathlib.Core.List.{List, [], ◌∷◌, ◌++◌, append-nil, map, map-append, flat_map}
use Prim.Native.Nat.{ℕ, ◌+◌}
use native.Mathlib.Omega.{arith}
use lib.ListN.{length}
use lib.Seq.{slice}
use Rattle.base_lists.specs.Lists.{all}
use Rattle.base_lists.proofs.Each.{all_map}
use Rattle.base_bytes.specs.declared.Mode.{Mode}
use Rattle.base_bytes.specs.declared.Mode.TheVariants.{Loose}
use Rattle.text_utf8.specs.Computed.{is_utf8}
use Rattle.proved_texts.proofs.Utf8Grammar as utf8
use Rattle.proved_texts.proofs.Utf8Grammar.{utf8_append}
use Rattle.block_grammar.specs.Grammar.{Placed}
use Rattle.block_grammar.specs.Meaning.{Entry, once_in, classes_once}
use Rattle.block_chain.specs.Chain.{Blocks}
use Rattle.block_trimmed_line.specs.Fronts.{front_of}
use Rattle.proved_grammar.specs.Meaning.{said, puts, entries_of, listed, meaning, distinct}
use Rattle.proved_grammar.specs.Merged.{merged, block_items}
use Rattle.proved_grammar.proofs.Merged.{put_associative, line_merges}
use Rattle.proved_grammar.proofs.Once.{puts_right}
use Rattle.proved_grammar.proofs.Views.{puts-append}
use Rattle.set_canon.specs.Canon.{canon}
use Rattle.set_table.specs.Types.{Texts, one}
use Rattle.set_table.specs.Rows.{listed_of, meaning_of}
use Rattle.set_table.specs.declared.Attrs.{Attrs}
use Rattle.set_wellformed.specs.WellFormed.{well_formed}
use Rattle.read_by_line.specs.Entries.{parse_standalone}
use Rattle.proved_sets.specs.Limits.{class_count, key_count, SizeGiven, Utf8Given, LimitGiven}
use Rattle.proved_sets.proofs.Counts.{class_puts, class_listed, key_puts, key_listed, once_classes, once_keys}
use Rattle.proved_sets.proofs.MeansUtf8.{all_utf8}
use Rattle.proved_sets.proofs.WellFormedMeans.{means_wf}
use Rattle.proved_sets.proofs.WellFormedShape.{formed_parts}
use Rattle.proved_reading.specs.ByLines.{BlocksGiven, OpenGiven, NumberGiven}
use Rattle.proved_reading.proofs.ByLines.{line_by_rules}
use Rattle.proved_groups.specs.Groups.{AllFormed, all_listed, Within, AllWithin, merged_all, all_mean}
use Rattle.proved_groups.specs.BackToBack.{SetOver, its_meaning, NonEmpty, Composable, back_to_back, over_listed, LineFits, ReadAsLine, LineReads, LineOfOne, all_over, line_meaning, LineIs, LineOfTwo, LineOfThree, LineOfSeveral}
use Rattle.proved_groups.proofs.Merging.{merged_parts}
use Rattle.proved_groups.proofs.Steps.{listed-within, groups_mean, several_merge}
use Rattle.proved_groups.proofs.Empty.{one_means, two_means}
use Rattle.proved_groups.proofs.Anywhere.{Stands, canon_stands}
use Rattle.proved_groups.proofs.Alone.{opens_is, front_is, line_of_lem, block_is, same_set, sheet_is}

-- ======== what the blocks of the line say
entries_append : (is js : List Placed) → entries_of (is ++ js) ≡ entries_of is ++ entries_of js
unfolding entries_of
entries_append is js = map-append (λ p. said p.item) is js

-- putting what is listed is putting what the items say
put-said : (m x : List Entry) (is : List Placed) → listed is ≡ x → puts m (entries_of is) ≡ puts m x
unfolding listed distinct puts
put-said m x is e = put_associative m [] (entries_of is) refl ∙ ap (puts m) e

-- the sets' blocks from a place on: their items put what the meanings put
record Row (m : Mode) (at : ℕ) (ps : List SetOver) : Type 0 where
  items : List Placed
  blocks : Blocks m at (back_to_back ps) items
  puts-same : (x : List Entry) → puts x (entries_of items) ≡ puts x (flat_map its_meaning ps)

its_block : (m : Mode) (at : ℕ) (p : SetOver) → NonEmpty p → Stands m at (its_meaning p)
its_block m at p h = canon_stands m at (its_meaning p) (means_wf p.texts p.set (formed_parts p.texts p.set h.well).2) h.some

row_of : (m : Mode) (at : ℕ) {ps : List SetOver} → Composable ps → Row m at ps
unfolding back_to_back flat_map
row_of m at (Composable.last {p = p} h) =
    let b = its_block m at p h in
    record {
      items = b.items;
      blocks = rw (append-nil (canon (its_meaning p))) (Blocks.one b.block);
      puts-same = λ x. rw (append-nil (its_meaning p)) (put-said x (its_meaning p) b.items b.lists);
    }
row_of m at (Composable.more {p = p} {ps = ps} h c) =
    let b = its_block m at p h in
    let r = row_of m (at + length (canon (its_meaning p))) c in
    record {
      items = b.items ++ r.items;
      blocks = Blocks.more b.block r.blocks;
      puts-same = λ x. ap (puts x) (entries_append b.items r.items) ∙ puts-append x (entries_of b.items) (entries_of r.items)
          ∙ ap (λ y. puts y (entries_of r.items)) (put-said x (its_meaning p) b.items b.lists) ∙ r.puts-same (puts x (its_meaning p)) ∙ sym (puts-append x (its_meaning p) (flat_map its_meaning ps));
    }

-- the meanings one behind the other are what is listed, with each class once
once_flat : (ps : List SetOver) → flat_map its_meaning ps ≡ classes_once (over_listed ps)
unfolding flat_map classes_once meaning_of
once_flat [] = refl
once_flat (p ∷ ps) = ap (λ l. its_meaning p ++ l) (once_flat ps) ∙ sym (map-append once_in (listed_of p.texts p.set) (over_listed ps))

-- ======== UTF-8
its_utf8 : (p : SetOver) → NonEmpty p → is_utf8 (canon (its_meaning p)) ≡ true
its_utf8 p h = (all_utf8 p.texts p.set h.well).1

line_utf8 : {ps : List SetOver} → Composable ps → is_utf8 (back_to_back ps) ≡ true
unfolding back_to_back flat_map
line_utf8 (Composable.last {p = p} h) = rw (append-nil (canon (its_meaning p))) (its_utf8 p h)
line_utf8 (Composable.more {p = p} {ps = ps} h c) = utf8_append (canon (its_meaning p)) (back_to_back ps) (its_utf8 p h) ∙ line_utf8 c

-- ======== the line
module _ (ps : List SetOver) (f : LineFits ps) where
  abbrev text : List ℕ
  text = back_to_back ps

  row : Row Loose (front_of text 0).from ps
  row = row_of Loose (front_of text 0).from f.sets

  row_lists : listed row.items ≡ puts [] (classes_once (over_listed ps))
  unfolding listed
  row_lists = row.puts-same [] ∙ ap (puts []) (once_flat ps)

  row_means : meaning row.items ≡ merged_all (map its_meaning ps)
  unfolding meaning meaning_of
  row_means = ap classes_once row_lists ∙ puts_right [] (over_listed ps) ∙ sym (merged_parts (λ p. listed_of p.texts p.set) ps)

  few_said : Within (entries_of row.items)
  unfolding class_count distinct
  few_said =
      let y = over_listed ps in
      let w = f.within in
      record {
        classes = omega (arith, w.classes, class_listed row.items, ap class_count row_lists, class_puts [] (classes_once y), once_classes y);
        keys = omega (arith, w.keys, key_listed row.items, ap key_count row_lists, key_puts [] (classes_once y) refl, once_keys y);
      }

  given : ((parse_standalone text 1).outcome ≡ Ok tt) × (meaning_of (one text) (parse_standalone text 1).set ≡ merged_all (map its_meaning ps))
  given =
      let b : Blocks Loose (front_of text 0).from (slice (front_of text 0).from (front_of text 0).to text) row.items = rw (front_is row.blocks) row.blocks in
      let z = (line_by_rules text 1).only (Ok tt) (merged [] (map meaning (block_items b)))
      (SizeGiven.short f.short (Utf8Given.text (utf8.sound text (line_utf8 f.sets)) (NumberGiven.there (line_of_lem row.blocks) (OpenGiven.opened (opens_is row.blocks) (BlocksGiven.good b (LimitGiven.within few_said.classes few_said.keys)))))) in
      (z.0, z.1 ∙ sym (line_merges b) ∙ row_means)

  line_read : ReadAsLine text (merged_all (map its_meaning ps))
  line_read =
      let u = line_utf8 f.sets in
      record { passes = given.0; means = given.1; block = block_is row.blocks f.short u; same = same_set row.blocks f.short u; sheet = sheet_is row.blocks }

pub line_reads : LineReads
line_reads ps f = line_read ps f

-- ======== one set
pub line_of-one : LineOfOne
unfolding back_to_back flat_map
line_of-one p h l =
    let e = append-nil (canon (its_meaning p)) in
    let w : Within (over_listed (p ∷ [])) = rw (append-nil (listed_of p.texts p.set)) (listed-within p.texts p.set h.well) in
    let r = line_reads (p ∷ []) (record { sets = Composable.last h; short = rw e l; within = w }) in
    rw (e, one_means p.texts p.set h.well) at r

-- ======== sets over the same texts
all_well : {ps : List SetOver} → Composable ps → all (λ p. well_formed p.texts p.set) ps ≡ true
unfolding all
all_well (Composable.last h) = rw h.well
all_well (Composable.more h c) = rw h.well (all_well c)

module _ (t : Texts) where
  over-listed : (sets : List Attrs) → over_listed (all_over t sets) ≡ all_listed t sets
  unfolding flat_map
  over-listed [] = refl
  over-listed (a ∷ sets) = ap (λ l. listed_of t a ++ l) (over-listed sets)

  over_means : (sets : List Attrs) → map its_meaning (all_over t sets) ≡ map (meaning_of t) sets
  over_means [] = refl
  over_means (a ∷ sets) = ap (λ l. meaning_of t a ∷ l) (over_means sets)

  module _ (sets : List Attrs) (f : LineFits (all_over t sets)) where
    over_formed : AllFormed t sets
    over_formed = rw all_map at (all_well f.sets)

    over-within : AllWithin t sets
    over-within = rw (over-listed sets) at f.within

    -- a set that means what they mean is what the line is
    is_line : (a : Attrs) → meaning_of t a ≡ all_mean t sets → LineIs (all_over t sets) t a
    is_line a e =
        let z : line_meaning (all_over t sets) ≡ meaning_of t a = (line_reads (all_over t sets) f).means ∙ ap merged_all (over_means sets) ∙ sym e in
        record { means = z; text = ap canon z }

pub line_of-two : LineOfTwo
line_of-two t a b f =
    let s = a ∷ b ∷ [] in
    is_line t s f _ (sym (two_means t a b (over_formed t s f) (over-within t s f)))

pub line_of_three : LineOfThree
line_of_three t a b c f =
    let s = a ∷ b ∷ c ∷ [] in
    let g = groups_mean t a b c (over_formed t s f) (over-within t s f) in
    (is_line t s f _ g.left, is_line t s f _ g.right)

pub line_of_several : LineOfSeveral
line_of_several t a bs f =
    let s = a ∷ bs in
    is_line t s f _ (several_merge t a bs (over_formed t s f) (over-within t s f)).means
