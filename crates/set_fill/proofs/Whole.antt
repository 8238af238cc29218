-- From the part of a text to its payload or its line of blocks, and what a caller may know of the answer.
-- Assumes nothing.
use mathlib.Core.Path.{◌≡◌, refl, sym, ap, ◌∙◌}
use mathlib.Core.Bool.{Bool, true, false}
use mathlib.Core.List.{List}
use Prim.Native.Nat.{ℕ, ◌+◌, ◌<◌, ◌≤◌}
use native.Mathlib.Omega.{arith}
use lib.Dec.{ltb}
use lib.ListN.{length, drop, length-take}
use lib.Seq.{slice}
use borrow.Author.Tests.{ltb-false}
use Rattle.base_lists.specs.Lists.{run}
use Rattle.base_lists.proofs.More.{contra}
use Rattle.base_bytes.specs.declared.Mode.{Mode}
use Rattle.base_bytes.specs.Bytes.{is_blank}
use Rattle.block_grammar.specs.Computed.{read_from, one_or_more, read_payload}
use Rattle.block_grammar.specs.Grammar.{Reading}
use Rattle.block_chain.specs.Computed.{blocks_from, read_blocks}
use Rattle.block_chain.proofs.Blocks.{some_read}
use Rattle.base_refusals.specs.declared.Refusal.TheVariants.{TextTooLong, NoReading}
use Rattle.base_refusals.specs.Numbers.{max_text}
use Rattle.set_table.specs.Types.{Texts, one}
use Rattle.set_table.specs.Rows.{no_rows}
use Rattle.set_fill.specs.declared.Following as nexts
use Rattle.set_fill.specs.declared.Following.TheVariants.{Last, Unread, Closing}
use Rattle.set_table.specs.declared.Filled.{Filled}
use Rattle.set_table.specs.Filled.{refusing}
use Rattle.set_fill.specs.Fill.{filled_by, filled_of, fill_at, chain_at}
use Rattle.set_fill.specs.Inner.{Rest, of_reading, chain_rest, tokens_at, Opened, filled_from}
use Rattle.set_fill.proofs.Chains as chains

by_reading : (t : Texts) (r : Reading) → filled_from t no_rows (of_reading r) ≡ filled_by t r
unfolding filled_from
by_reading t Reading.refused = refl
by_reading t (Reading.items is) = refl

module _ (m : Mode) (t : List ℕ) (at end : ℕ) where
  pub too_long_lem : {f : Filled} {b : Bool} → b ≡ ltb max_text (length t) → b ≡ true → f ≡ refusing TextTooLong → f ≡ fill_at m t at end
  unfolding fill_at
  too_long_lem h e q = q ∙ (rw (sym h ∙ e))

  -- s is the text's front
  module _ {b : Bool} (h : b ≡ ltb max_text (length t)) (l : b ≡ false) {s : List ℕ} (q : s ≡ slice 0 end t) where
    pub short : length s ≤ max_text
    short = rw q (omega (arith, ltb-false max_text (length t) (sym h ∙ l), length-take end t))

    front : filled_by (one t) (one_or_more (read_from m (drop at s) 0 at)) ≡ fill_at m t at end
    unfolding fill_at filled_of read_payload
    front = rw (q, sym h ∙ l)

    module _ {a : ℕ} (is : a ≡ at + run (is_blank m) (drop at s)) {f : Filled} where
      pub no_token : length s ≤ a → f ≡ refusing NoReading → f ≡ fill_at m t at end
      no_token h g = g ∙ (rw (chains.none_read m s at is h) at front)

      pub tokens : a < length s → f ≡ filled_from (one t) no_rows (chain_rest m s (length s) (tokens_at at)) → f ≡ fill_at m t at end
      tokens h g = g ∙ ap (filled_from (one t) no_rows) (chains.alone m s at) ∙ by_reading (one t) (read_from m (drop at s) 0 at) ∙ (rw (chains.some_read m s at is h) at front)

-- ---- a line of blocks
refused : (t : Texts) (r : Reading) → of_reading r ≡ Rest.refused → filled_by t (one_or_more r) ≡ refusing NoReading
refused t Reading.refused e = refl
refused t (Reading.items is) e = contra true refl (cc)

module _ (t : List ℕ) (from to : ℕ) where
  pub line_too_long : (m : Mode) {f : Filled} {b : Bool} → b ≡ ltb max_text (length t) → b ≡ true → f ≡ refusing TextTooLong → f ≡ chain_at m t from to
  unfolding chain_at
  line_too_long m h e q = q ∙ (rw (sym h ∙ e))

  -- w is the text's front
  module _ {b : Bool} (h : b ≡ ltb max_text (length t)) (l : b ≡ false) {w : List ℕ} (q : w ≡ slice 0 to t) where
    pub line_short : length w ≤ max_text
    line_short = rw q (omega (arith, ltb-false max_text (length t) (sym h ∙ l), length-take to t))

    module _ {m : Mode} {n : nexts.Following} (o : Opened m w from n) where
      line : filled_by (one t) (one_or_more (blocks_from m (drop from w) 0 from)) ≡ chain_at m t from to
      unfolding chain_at read_blocks
      line = rw (q, sym h ∙ l)

      pub no_block : {f : Filled} → n ≡ Last → f ≡ refusing NoReading → f ≡ chain_at m t from to
      no_block e g = g ∙ (rw (chains.last_rest m w from (rw e at o.told)) at line)

      pub unread : {f : Filled} → n ≡ Unread → f ≡ refusing NoReading → f ≡ chain_at m t from to
      unread e g = g ∙ sym (refused (one t) (blocks_from m (drop from w) 0 from) (rw e at o.told)) ∙ line

      pub blocks : {e : ℕ} {f : Filled} → n ≡ Closing e → f ≡ filled_from (one t) no_rows (chain_rest m w e (tokens_at (from + 1))) → f ≡ chain_at m t from to
      blocks k g =
          let z = chains.goes o k in
          let y = some_read m w from (omega (arith, z.ahead, z.within)) in
          g ∙ sym (ap (filled_from (one t) no_rows) z.is) ∙ by_reading (one t) (blocks_from m (drop from w) 0 from) ∙ (rw y at line)
