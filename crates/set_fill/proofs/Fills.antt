-- The loop that fills a set: what each push does to what is still to be put, as the table goes by the laws of set_table.
-- Assumes nothing.
use Rattle.std.specs.Prelude.{Ok}
use mathlib.Core.Path.{◌≡◌, refl, sym, ◌∙◌}
use mathlib.Core.Logic.{inl, inr}
use mathlib.Core.List.{List, [], ◌∷◌}
use Prim.Native.Nat.{ℕ, ◌+◌, ◌≤◌}
use native.Mathlib.Omega.{arith}
use lib.ListN.{length, take}
use lib.Seq.{length-take-le}
use borrow.Author.Tests.{le-ltb}
use Rattle.base_bytes.specs.declared.Mode.{Mode}
use Rattle.base_refusals.specs.declared.Refusal.{Refusal}
use Rattle.base_refusals.specs.declared.Refusal.TheVariants.{NoReading}
use Rattle.set_table.specs.declared.Value.{Value}
use Rattle.set_table.specs.declared.Name.{Name}
use Rattle.set_table.specs.declared.Attrs.{Attrs}
use Rattle.set_table.specs.Types.{Texts, max_classes, max_keys, empty_set}
use Rattle.set_table.specs.Rows.{Rows, Put, no_rows, key_at, with_put, with_puts}
use Rattle.set_table.specs.Inner.{Holds}
use Rattle.set_table.proofs.Holding.{holds_none, nclass, class_count, key_more}
use Rattle.set_fill.specs.declared.Cursor.{Cursor}
use Rattle.set_fill.specs.declared.Following as nexts
use Rattle.set_fill.specs.declared.Following.TheVariants.{Last, Unread, Closing}
use Rattle.set_fill.specs.declared.Push as pushes
use Rattle.set_fill.specs.declared.Push.TheVariants.{End, Bad}
use Rattle.set_table.specs.declared.Filled.{Filled}
use Rattle.set_table.specs.Filled.{refusing, limited}
use Rattle.set_fill.specs.Inner.{Rest, before, rest_of, chain_rest, tokens_at, Opened, PutsNext, Yields, filled_from, over_of}
use Rattle.set_fill.proofs.Chains as chains
use Rattle.set_fill.proofs.Limits as limits

-- ---- the loop: the table so far, and what is still to be put gives the whole's answer
pub record Fills (t : Texts) (m : Mode) (w : List ℕ) (whole : Filled) (a : Attrs) (e : ℕ) (c : Cursor) : Type 0 where
  pub rows : Rows
  pub holds : Holds a rows
  pub stands : chains.Stands w e c
  pub rest : filled_from t rows (chain_rest m w e c) ≡ whole

pub start : (t : Texts) (m : Mode) (w : List ℕ) (at e : ℕ) {a : Attrs} {c : Cursor} → at ≤ e → e ≤ length w → a ≡ empty_set → c ≡ tokens_at at → Fills t m w (filled_from t no_rows (chain_rest m w e (tokens_at at))) a e c
start t m w at e h l p q =
    rw (p, q)
    (record { rows = no_rows; holds = holds_none; stands = record { inside = record { at = omega arith; to = omega arith; next = omega (arith, length-take-le e w l) }; fits = l }; rest = refl })

filled_before : (t : Texts) (r : Rows) (p : Put) (x : Rest) → filled_from t r (before (p ∷ []) x) ≡ filled_from t (with_put t r p) x
unfolding filled_from with_puts
filled_before t r p Rest.refused = refl
filled_before t r p (Rest.puts ps) = refl

module _ {t : Texts} {m : Mode} {w : List ℕ} {whole : Filled} {a : Attrs} {e : ℕ} {c : Cursor} (inv : Fills t m w whole a e c) where
  module _ {q : pushes.Push} (y : Yields m (take e w) c.at (rest_of m (take e w) c) q) where
    pub bad : {f : Filled} → q ≡ Bad → f ≡ refusing NoReading → f ≡ whole
    unfolding filled_from
    bad g h = h ∙ (rw (chains.bad inv.stands y g) at inv.rest)

    module _ {x : nexts.Following} (o : Opened m w (e + 1) x) (g : q ≡ End) where
      pub last : x ≡ Last → record { outcome = Ok tt; set = a } ≡ whole
      unfolding filled_from limited with_puts
      last k =
          let h = inv.holds in
          let r = inv.rows in
          rw h.is (rw (chains.last inv.stands y o g k, le-ltb max_classes (length r.classes) h.classes, le-ltb max_keys (length r.keys) h.keys) at inv.rest)

      pub unread : {f : Filled} → x ≡ Unread → f ≡ refusing NoReading → f ≡ whole
      unfolding filled_from
      unread k h = h ∙ (rw (chains.unread inv.stands y o g k) at inv.rest)

      -- the set stays as the next block begins
      pub into : {f : ℕ} {d : Cursor} → x ≡ Closing f → d ≡ tokens_at (e + 2) → Fills t m w whole a f d
      into k h = record { rows = inv.rows; holds = inv.holds; stands = chains.into inv.stands o k h; rest = rw (chains.entered inv.stands y o g k h) at inv.rest }

  module _ {p : Put} {d : Cursor} (g : PutsNext m (take e w) c.at (rest_of m (take e w) c) p d) where
    after : filled_from t (with_put t inv.rows p) (chain_rest m w e d) ≡ whole
    after = sym (filled_before t inv.rows p (chain_rest m w e d)) ∙ (rw (chains.next inv.stands g) at inv.rest)

    -- the table is changed as the rows are
    pub next : {b : Attrs} → Holds b (with_put t inv.rows p) → Fills t m w whole b e d
    next h = record { rows = with_put t inv.rows p; holds = h; stands = chains.on inv.stands g; rest = after }

  pub class_over : {v : Value} {d : Cursor} → PutsNext m (take e w) c.at (rest_of m (take e w) c) (Put.class v) d → max_classes ≤ a.nclass → {x : Refusal} {f : Filled} → x ≡ over_of (a.nclass + 1) (chain_rest m w e d) → f ≡ refusing x → f ≡ whole
  class_over {v} {d} g l p q =
      let n = class_count inv.holds t v in
      q ∙ (rw (p, ← n) (sym (limits.over t (with_put t inv.rows (Put.class v)) (chain_rest m w e d) (inl (omega (arith, n)))))) ∙ after g

  pub key_over : {n : Name} {v : Value} {d : Cursor} → PutsNext m (take e w) c.at (rest_of m (take e w) c) (Put.key n v) d → {k : ℕ} → k ≡ key_at t n (take a.nkey a.keys) → a.nkey ≤ k → max_keys ≤ a.nkey
      → {x : Refusal} {f : Filled} → x ≡ over_of a.nclass (chain_rest m w e d) → f ≡ refusing x → f ≡ whole
  unfolding with_put
  key_over {n} {v} {d} g f l h p q =
      q ∙ (rw (p, nclass inv.holds) (sym (limits.over t (with_put t inv.rows (Put.key n v)) (chain_rest m w e d) (inr (omega (arith, key_more inv.holds t v n f l)))))) ∙ after g
