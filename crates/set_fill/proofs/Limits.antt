-- Once a limit is passed: the refusal is known but for what is still to be put.
-- Assumes nothing.
use mathlib.Core.Path.{◌≡◌, refl, sym, ◌∙◌}
use mathlib.Core.Bool.{Bool, true, false, cond}
use mathlib.Core.Logic.{◌⊎◌, inl, inr}
use mathlib.Core.List.{List, [], ◌∷◌}
use Prim.Native.Nat.{ℕ, ◌+◌, ◌<◌, ◌≤◌}
use native.Mathlib.Omega.{arith}
use lib.Dec.{ltb}
use lib.ListN.{length, take, length-append}
use borrow.Author.Tests.{lt-ltb}
use Rattle.base_bytes.specs.declared.Mode.{Mode}
use Rattle.base_refusals.specs.declared.Refusal.{Refusal}
use Rattle.base_refusals.specs.declared.Refusal.TheVariants.{NoReading, TooManyClasses, TooManyKeys}
use Rattle.set_table.specs.Types.{Texts, max_classes, max_keys}
use Rattle.set_table.specs.Rows.{Rows, Put, with_put, with_puts}
use Rattle.set_table.specs.Filled.{refusing, limited}
use Rattle.set_table.proofs.Puts.{put_grows}
use Rattle.set_fill.specs.declared.Cursor.{Cursor}
use Rattle.set_fill.specs.declared.Following as nexts
use Rattle.set_fill.specs.declared.Following.TheVariants.{Last, Unread, Closing}
use Rattle.set_fill.specs.declared.Push as pushes
use Rattle.set_fill.specs.declared.Push.TheVariants.{End, Bad}
use Rattle.set_fill.specs.Inner.{Rest, before, rest_of, chain_rest, tokens_at, InText, Opened, PutsNext, Yields, filled_from, over_by, counted_put, count_from, over_of}
use Rattle.set_fill.proofs.Chains as chains

-- ---- the loop that goes on for the refusal's number
pub record Counts (m : Mode) (w : List ℕ) (n : ℕ) (r : Refusal) (count e : ℕ) (c : Cursor) : Type 0 where
  pub stands : chains.Stands w e c
  pub bound : count ≤ n + c.at
  pub rest : over_of count (chain_rest m w e c) ≡ r

pub start : (m : Mode) (w : List ℕ) (n : ℕ) {e : ℕ} {c : Cursor} → InText (take e w) c → e ≤ length w → Counts m w n (over_of n (chain_rest m w e c)) n e c
start m w n i l = record { stands = record { inside = i; fits = l }; bound = omega arith; rest = refl }

counted_le : (p : Put) (n : ℕ) → counted_put p n ≤ n + 1
counted_le (Put.ident v) n = omega arith
counted_le (Put.class v) n = omega arith
counted_le (Put.key k v) n = omega arith

over-before : (n : ℕ) (p : Put) (r : Rest) → over_of n (before (p ∷ []) r) ≡ over_of (counted_put p n) r
unfolding over_of count_from
over-before n p Rest.refused = refl
over-before n p (Rest.puts ps) = refl

module _ {m : Mode} {w : List ℕ} {n : ℕ} {r : Refusal} {count e : ℕ} {c : Cursor} (inv : Counts m w n r count e c) where
  pub next : {p : Put} {d : Cursor} → PutsNext m (take e w) c.at (rest_of m (take e w) c) p d → Counts m w n r (counted_put p count) e d
  next {p} {d} g =
      record {
        stands = chains.on inv.stands g;
        bound = omega (arith, inv.bound, g.ahead, counted_le p count);
        rest = sym (over-before count p (chain_rest m w e d)) ∙ (rw (chains.next inv.stands g) at inv.rest);
      }

  module _ {q : pushes.Push} (y : Yields m (take e w) c.at (rest_of m (take e w) c) q) where
    pub bad : q ≡ Bad → NoReading ≡ r
    unfolding over_of
    bad g = rw (chains.bad inv.stands y g) at inv.rest

    module _ {x : nexts.Following} (o : Opened m w (e + 1) x) (g : q ≡ End) where
      pub last : x ≡ Last → over_by count ≡ r
      unfolding over_of count_from
      last k = rw (chains.last inv.stands y o g k) at inv.rest

      pub unread : x ≡ Unread → NoReading ≡ r
      unfolding over_of
      unread k = rw (chains.unread inv.stands y o g k) at inv.rest

      pub into : {f : ℕ} {d : Cursor} → x ≡ Closing f → d ≡ tokens_at (e + 2) → Counts m w n r count f d
      into k h =
          record {
            stands = chains.into inv.stands o k h;
            bound = omega (arith, inv.bound, chains.farther inv.stands o k h);
            rest = rw (chains.entered inv.stands y o g k h) at inv.rest;
          }

-- ---- the rows of a passed limit
passed-put : (t : Texts) (s : Rows) (p : Put) → (max_classes < length s.classes) ⊎ (max_keys < length s.keys)
    → (max_classes < length (with_put t s p).classes) ⊎ (max_keys < length (with_put t s p).keys)
passed-put t s p (inl h) = inl (omega (arith, put_grows t s p))
passed-put t s p (inr h) = inr (omega (arith, put_grows t s p))

count_put : (t : Texts) (s : Rows) (p : Put) → length (with_put t s p).classes ≡ counted_put p (length s.classes)
unfolding with_put
count_put t s (Put.ident v) = refl
count_put t s (Put.class v) = omega (arith, length-append s.classes (v ∷ []))
count_put t s (Put.key n v) = refl

limited-puts : (t : Texts) (s : Rows) (ps : List Put) → (max_classes < length s.classes) ⊎ (max_keys < length s.keys) → limited (with_puts t s ps) ≡ refusing (over_by (count_from (length s.classes) ps))
unfolding limited with_puts count_from
limited-puts t s [] (inl h) = rw (lt-ltb max_classes (length s.classes) h)
limited-puts t s [] (inr h) = rw (lt-ltb max_keys (length s.keys) h) (go (ltb max_classes (length s.classes)))
  where
    go : (x : Bool) → cond x (refusing TooManyClasses) (refusing TooManyKeys) ≡ refusing (cond x TooManyClasses TooManyKeys)
    go true = refl
    go false = refl
limited-puts t s (p ∷ ps) h = rw (← count_put t s p) (limited-puts t (with_put t s p) ps (passed-put t s p h))

-- with a limit passed, the classes that are still to be put decide which
pub over : (t : Texts) (s : Rows) (r : Rest) → (max_classes < length s.classes) ⊎ (max_keys < length s.keys) → filled_from t s r ≡ refusing (over_of (length s.classes) r)
unfolding filled_from over_of
over t s Rest.refused h = refl
over t s (Rest.puts ps) h = limited-puts t s ps h
