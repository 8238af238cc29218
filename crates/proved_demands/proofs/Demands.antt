-- Demands 1 and 2, and what document 01 wants proved: mostly by theorems of the crates below.
-- Assumes nothing.
use Rattle.std.specs.Prelude.{Err, Ok, Result}
use mathlib.Core.Path.{◌≡◌, refl, sym}
use mathlib.Core.Bool.{Bool, true, false, cond}
use mathlib.Core.List.{List, [], ◌∷◌, map}
use Prim.Native.Nat.{ℕ}
use lib.Dec.{ltb}
use lib.ListN.{length, drop}
use lib.Seq.{take_at, drop_at}
use Rattle.base_lists.specs.Lists.{over}
use Rattle.base_lists.proofs.More.{contra}
use Rattle.base_refusals.specs.Numbers.{max_text, too_long}
use Rattle.base_refusals.specs.declared.Refusal.{Refusal}
use Rattle.base_refusals.specs.declared.Refusal.TheVariants.{TextTooLong, NothingThere, JoinFull, CanonTooLong}
use Rattle.base_refusals.proofs.Numbers.{number_among, number_own, eight_unused}
use Rattle.text_lines.specs.Lines.{lines}
use Rattle.text_checks.specs.Check.{is_text}
use Rattle.text_checks.specs.Outcomes.{or_left}
use Rattle.text_line_start.specs.Starts.{place_of}
use Rattle.block_grammar.proofs.Payload as payloads
use Rattle.block_chain.proofs.Blocks as chains
use Rattle.set_canon.specs.Canon.{canon}
use Rattle.set_table.specs.Types.{Texts}
use Rattle.set_table.specs.Rows.{meaning_of}
use Rattle.set_table.specs.declared.Attrs.{Attrs}
use Rattle.set_table.specs.declared.Filled.{Filled}
use Rattle.set_table.specs.Filled.{refusing}
use Rattle.set_wellformed.specs.WellFormed.{well_formed}
use Rattle.set_writer.specs.Write.{has_room, wrote_of, content_after, writable, or_refused, attrs_wrote, attrs_content}
use Rattle.set_merge.specs.Merge.{merge_of}
use Rattle.set_lent.proofs.Standing.{refused_stands}
use Rattle.run_lines.specs.Runs.{as_is, run_at}
use Rattle.run_lines.proofs.Bounds.{lookahead_sum}
use Rattle.read_blocks.specs.Blocks.{found, wrapped, joined_in, join_holds}
use Rattle.read_blocks.specs.ByLine.{wrapped_found}
use Rattle.sheet_blocks.specs.declared.Next.{Next}
use Rattle.sheet_blocks.specs.Sheets.{Try, tries_at, only_blocks, nowhere, first_block, next_of}
use Rattle.proved_texts.proofs.Utf8Grammar as utf8
use Rattle.proved_texts.proofs.Escapes as escapes
use Rattle.proved_texts.proofs.Tabs.{no_tab_lem, columns_count, indent_spaces}
use Rattle.proved_grammar.proofs.Blocks as lines-of-blocks
use Rattle.proved_grammar.proofs.Quick.{quick_passes}
use Rattle.proved_sets.proofs.MergeMeans.{merge_gives}
use Rattle.proved_sets.proofs.MergeRules.{merge_by_rules}
use Rattle.proved_sets.proofs.Settled.{refusals_empty}
use Rattle.proved_sets.proofs.Zeroed.{rest_zero}
use Rattle.proved_runs.proofs.Bounds as runs
use Rattle.proved_runs.proofs.RefusedBounds as refused-runs
use Rattle.proved_runs.proofs.EndingBounds.{sum_of_runs}
use Rattle.proved_reading.proofs.Meaning.{brace_by_rules, third_dropped, tidy, refused_empty, five_has_place, place_on_boundary}
use Rattle.proved_reading.proofs.HandedOut.{handed_out_ok, fill_out_ok}
use Rattle.proved_reading.proofs.ChainsOut.{chain_out_ok}
use Rattle.proved_reading.proofs.ByLines.{blocks_by_rules, line_by_rules, block_by_rules, run_by_rules}
use Rattle.proved_reading.proofs.BlockSets.{block_zeroed, filled_empty, block_empty, empty_over}
use Rattle.proved_reading.proofs.LineSets.{line_empty, line_zeroed, line_set_ok, block_set_ok, run-set_ok}
use Rattle.proved_reading.proofs.Alone.{blocks_over_one}
use Rattle.proved_reading.proofs.LengthsAgree.{agree}
use Rattle.proved_reading.proofs.LengthsFair.{fair_block, fair_wraps}
use Rattle.proved_sheets.proofs.Answers.{next_zeroed}
use Rattle.proved_sheets.proofs.BlockSets.{next_set_ok}
use Rattle.proved_sheets.proofs.Calls.{refused_laid}
use Rattle.proved_origins.proofs.Meaning.{bytes_mean}
use Rattle.proved_origins.proofs.Exchanged.{exchange_keeps, exchange_rest, exchange_merges, exchange_writes}
use Rattle.proved_origins.proofs.OneText.{exchanged_of, behaves_as_before, formed_over_more, empty_asks}
use Rattle.proved_origins.proofs.Mirror.{mirrors_as_before}
use Rattle.proved_origins.proofs.Steady.{empty_range, zero_range}
use Rattle.proved_origins.proofs.Read.{read_first, read_joined}
use Rattle.proved_demands.proofs.Eight.{reading_never_eight, merge_never_eight}
use Rattle.proved_demands.specs.Demands.{Numbered, NoneIfRefused, NoSet, LeftAsStated, ByStandards, ByGrammar, LastCloseDropped, QuickTest, Lookahead, RowsZero, SetsWellFormed, WithPlace, TwoTexts, RepeatedClasses}
use Rattle.proved_grammar.proofs.Plain.{kept_plain, plain_only}
use Rattle.proved_grammar.proofs.Once.{once_changes, once_apart, joined_once, repeated_nothing}
use Rattle.proved_sets.proofs.LineMeant.{line_lists}
use Rattle.proved_reading.proofs.Agrees.{brace_lists}
use Rattle.proved_sets.proofs.CanonAgain.{repeated_unwritten}

-- ======== a refusal's number

pub numbered : Numbered
numbered = record { among = number_among; own = number_own; unused = eight_unused; reading = reading_never_eight; merging = merge_never_eight }

-- ======== "hands out no set"

abbrev Empties : Filled → Type 0
Empties f = NoneIfRefused f.outcome f.set

none : (q : Refusal) → Empties (refusing q)
none q r e = refl

next_empties : (t : List ℕ) (cap at : ℕ) → NoneIfRefused (next_of t cap at).block.outcome (next_of t cap at).block.set
unfolding next_of
next_empties t cap at = go (too_long t) (ltb cap max_text) (only_blocks (tries_at t cap 0 at))
  where
    R : Bool → Bool → List Try → Next
    R x y bs = cond x (nowhere TextTooLong at) (cond y (nowhere JoinFull at) (first_block t at bs))

    go : (x y : Bool) (bs : List Try) → NoneIfRefused (R x y bs).block.outcome (R x y bs).block.set
    go true y bs = none TextTooLong
    go false true bs = none JoinFull
    go false false [] = none NothingThere
    go false false (b ∷ bs) = block_empty t b.at b.found

pub no_set : NoSet
no_set =
    record {
      brace = refused_empty;
      line = line_empty;
      block = block_empty;
      run = λ t n base cap. block_empty t (place_of t n) (wrapped_found t n base cap);
      next = next_empties;
      merge = λ t a b r e. filled_empty (refusals_empty.merge t a b) e;
    }

-- ======== lent memory

writer_leaves : (t : Texts) (a : Attrs) (buf : List ℕ) (r : Refusal) → attrs_wrote t a (length buf) ≡ Err r → attrs_content t a buf ≡ buf
unfolding attrs_wrote attrs_content wrote_of content_after
writer_leaves t a buf r = go (writable t a) (has_room (length buf) (length xs))
  where
    xs : List ℕ
    xs = canon (meaning_of t a)

    go : (c : Result (Unit {0}) Refusal) (b : Bool) → or_refused c (cond b (Ok (length xs)) (Err CanonTooLong)) ≡ Err r → or_left c buf (cond b (over xs buf) buf) ≡ buf
    go (Err q) b e = refl
    go (Ok _) false e = refl
    go (Ok _) true e = contra true refl (cc)

pub left_as_stated : LeftAsStated
unfolding join_holds
left_as_stated =
    record {
      front = λ buf f. take_at (joined_in f) (drop (length (joined_in f)) buf) (length (joined_in f)) refl;
      rest = λ buf f. drop_at (joined_in f) (drop (length (joined_in f)) buf) (length (joined_in f)) refl;
      writer = writer_leaves;
      start = λ t out cap r. (refused_laid t out 0 0 cap r).1;
      part = λ t out at n cap r. (refused_laid t out at n cap r).0;
      target = λ was f r e. sym (refused_stands was f e);
    }

-- ======== Demand 2

pub by_standards : ByStandards
by_standards =
    record {
      utf8 = λ s. (utf8.sound s, λ w. utf8.complete w);
      escapes = λ s t. (λ e. rw e at (escapes.stands s), λ h. escapes.only h);
      tabs = no_tab_lem;
      columns = columns_count;
      indent = λ s. sym (indent_spaces s);
    }

pub by_grammar : ByGrammar
by_grammar =
    record {
      payload = λ m at s is. (payloads.sound m at s is, λ p. payloads.complete p);
      blocks = λ m at s is. (chains.sound m at s is, λ p. lines-of-blocks.complete p);
      brace = brace_by_rules;
      chain = blocks_by_rules;
      line = line_by_rules;
      block = block_by_rules;
      run = run_by_rules;
      merge = merge_by_rules;
      counts = λ t at f. let g = agree t at f in (g.0, g.1.0);
    }

-- ======== to be proved

pub last_close_dropped : LastCloseDropped
last_close_dropped = third_dropped

pub quick_test : QuickTest
quick_test m t i e is c p = quick_passes p t c.rest i c.whole

pub lookahead : Lookahead
unfolding run_at
lookahead =
    record {
      sum = λ cap base t at. lookahead_sum cap base (map as_is (lines (drop at t)));
      bound = λ cap base t at. (runs.lookahead_le cap base t at).1;
      block = λ t n base cap. (fair_block t cap n base).lookahead;
      wrapped = λ t n base cap. (fair_wraps t cap n base).lookahead;
      refused = refused-runs.lookahead_le;
      ends = sum_of_runs;
    }

-- ---- sets handed out

pub rows_zero : RowsZero
rows_zero =
    record {
      brace = λ m t i. (tidy m t i).past;
      line = line_zeroed;
      block = block_zeroed;
      next = next_zeroed;
      merge = rest_zero.merge;
    }

merge_well : (t : Texts) (a b : Attrs) → is_text t.first ≡ true → is_text t.second ≡ true → well_formed t (merge_of t a b).set ≡ true
merge_well t a b h u = go (merge_of t a b).outcome refl
  where
    go : (o : Result (Unit {0}) Refusal) → (merge_of t a b).outcome ≡ o → well_formed t (merge_of t a b).set ≡ true
    go (Ok _) e = (merge_gives t a b e).formed
    go (Err r) e = rw (filled_empty (refusals_empty.merge t a b) e) (empty_over t.first h t.second u)

pub sets-well_formed : SetsWellFormed
sets-well_formed =
    record {
      brace = handed_out_ok;
      line = λ t n h. line_set_ok t h n;
      block = λ t n base cap h. block_set_ok t h n base cap;
      run = λ t n base cap h. run-set_ok t h n base cap;
      merge = merge_well;
      chain = chain_out_ok;
      fill = fill_out_ok;
      next = next_set_ok;
    }

-- ---- where the payload went wrong

pub with_place : WithPlace
with_place = record { always = five_has_place; boundary = place_on_boundary }

-- ---- two texts

pub two_texts : TwoTexts
two_texts =
    record {
      means = bytes_mean;
      exchange = exchange_keeps;
      rest = exchange_rest;
      merges = exchange_merges;
      writes = exchange_writes;
      alone = behaves_as_before;
      other = exchanged_of;
      mirror = mirrors_as_before;
      empty = empty_range;
      zero = zero_range;
      more = formed_over_more;
      asks = empty_asks;
      read = read_first;
      joined = read_joined;
      single = blocks_over_one;
    }

-- ======== repeated classes are one class
pub repeated_classes : RepeatedClasses
repeated_classes =
    record {
      kept = kept_plain;
      only = plain_only;
      changes = once_changes;
      stay = once_apart;
      nothing = repeated_nothing;
      reading = brace_lists;
      lines = line_lists;
      merging = merge_gives;
      meanings = joined_once;
      unwritten = repeated_unwritten;
    }
