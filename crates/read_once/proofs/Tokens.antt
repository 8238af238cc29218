-- Each token by the places that its function finds, for every place that the close may have.
-- Assumes nothing.
use Rattle.std.specs.Prelude.{None, Option, Some}
use mathlib.Core.Path.{◌≡◌, refl, sym, ◌∙◌}
use mathlib.Core.Bool.{Bool, true, false, cond, ◌&&◌}
use mathlib.Core.List.{List}
use Prim.Native.Nat.{ℕ, ◌+◌, ◌<◌, ◌≤◌}
use native.Mathlib.Omega.{arith}
use lib.Dec.{ltb}
use lib.ListN.{length, get_or, take, drop}
use Rattle.base_lists.specs.Lists.{all, is_in, run, first_is}
use Rattle.base_lists.proofs.Runs as runs
use Rattle.base_lists.proofs.More.{contra}
use Rattle.base_bytes.specs.declared.Mode.{Mode}
use Rattle.base_bytes.specs.Bytes.{within, is_letter, is_digit, is_alnum, is_name_start, is_name_part, is_quote, is_plain}
use Rattle.base_letters.specs.Classes.{is_of, front_run, TellsBytes}
use Rattle.base_letters.proofs.Fronts as fronts
use Rattle.text_names.specs.Names.{is_name}
use Rattle.text_names.specs.Computed.{tag_passes}
use Rattle.block_grammar.specs.Grammar.{Item}
use Rattle.block_grammar.specs.Computed.{ends, front_token}
use Rattle.block_grammar.specs.ComputedClose.{find_close}
use Rattle.block_grammar.proofs.Bytes.{start-part}
use Rattle.block_places.specs.Computed.{Spot}
use Rattle.block_tokens.specs.declared.Token as tokens
use Rattle.block_tokens.specs.declared.Token.TheVariants.{Bad, Tag, Quoted}
use Rattle.block_tokens.specs.Shown.{shown_item, shown}
use Rattle.block_tokens.specs.Inner.{tag_token, quoted_from, part, spot_place}
use Rattle.block_tokens.proofs.Words as words
use Rattle.read_once.specs.declared.Sort.TheVariants.{Wrong}
use Rattle.read_once.specs.declared.Seen.{Seen}
use Rattle.read_once.specs.Inner.{tag_size, tag_ends, QuoteEnds, seen_of, Sees}
use Rattle.read_once.proofs.Calm as calm
use Rattle.read_once.proofs.Cuts as cuts
use Rattle.read_once.proofs.Look as look
use Rattle.read_once.proofs.Tags as tags

-- ---- the search passes over names and plain values
module _ (t : List ℕ) (a : ℕ) {e : ℕ} where
  pub over_name : (k : ℕ) → e ≡ a + k → k ≤ run is_name_part (drop a t) → find_close t e ≡ find_close t a
  unfolding all is_name_part is_alnum is_letter is_digit within
  over_name k is h = calm.calm is_name_part refl t a k is h

  pub over_front : (f : ℕ → Bool) → ((b : ℕ) → f b ≡ true → is_name_part b ≡ true) → e ≡ a + front_run f is_name_part (drop a t) → find_close t e ≡ find_close t a
  over_front f of is = over_name (front_run f is_name_part (drop a t)) is (rw (fronts.as_run f is_name_part of (drop a t)) (go (first_is f (drop a t))))
    where
      go : (x : Bool) → cond x (run is_name_part (drop a t)) 0 ≤ run is_name_part (drop a t)
      go true = omega arith
      go false = omega arith

  pub over_plain : e ≡ a + run is_plain (drop a t) → find_close t e ≡ find_close t a
  unfolding all is_plain is_in
  over_plain is = calm.calm is_plain refl t a (run is_plain (drop a t)) is (omega arith)

-- ---- behind `#` or `.`, as the table of classes finds it
pub named : {table : List ℕ} → TellsBytes table → (t : List ℕ) (a : ℕ) {e : ℕ} → e ≡ a + front_run (is_of table 7) (is_of table 15) (drop a t) → e ≡ a + front_run is_name_start is_name_part (drop a t)
named tells t a is = is ∙ fronts.same_front tells.name tells.part a (drop a t)

pub sigil : (t : List ℕ) (a i : ℕ) (m : Mode) (item : List ℕ → Item) (tok : ℕ → tokens.Token) → ((n : List ℕ) → shown_item i (item n) ≡ tok (a + length n)) → {e : ℕ} {r : Seen} → e ≡ a + front_run is_name_start is_name_part (drop a t) → a ≤ length t
    → Sees t i e (λ c. cond (ltb a e && ends m (drop e (take c t))) (tok e) (Bad e)) r → Sees t i a (λ c. shown i (spot_place Spot.sigil a (take c t)) (front_token m (run is_name_part (drop a (take c t))) is_name item (drop a (take c t)))) r
sigil t a i m item tok shows {e} is l s =
    let w = fronts.inside is_name_start is_name_part t is l in
    look.further s w.0 (over_front t a is_name_start start-part is)
    (λ c h u q. words.sigil_front (take c t) (cuts.cut_front u is_name_start is_name_part a is) (cuts.cut_le u w.0) i m item tok shows q)

-- ---- behind `:`
pub tagged : (t : List ℕ) (i : ℕ) (m : Mode) {e size : ℕ} → e ≡ i + 1 + tag_passes is_alnum (drop (i + 1) t) 0 → size ≡ tag_size is_alnum (drop (i + 1) t) 0 → i + 1 ≤ length t → {good : Bool} → good ≡ tag_ends (i + 1) e size
    → {r : Seen} → Sees t i e (λ c. cond (good && ends m (drop e (take c t))) (Tag (i + 1) e) (Bad e)) r → Sees t i (i + 1) (λ c. shown i (spot_place (Spot.tag 0 true) (i + 1) (take c t)) (tag_token m (drop (i + 1) (take c t)))) r
tagged t i m {e} {size} is z l {good} g s =
    look.further s (omega (arith, is)) (over_name t (i + 1) (tag_passes is_alnum (drop (i + 1) t) 0) is (tags.in_run (drop (i + 1) t)))
    (λ c h u q. (let k = tags.cut_tag u is_alnum (i + 1) is in tags.tag_is m i (take c t) k.0 (z ∙ sym k.1) (cuts.cut_le u (omega (arith, is))) g q))

-- ---- in quotes, behind the key from i to k whose `=` stands at k
module _ (t : List ℕ) (i k : ℕ) (m : Mode) (l : k + 1 < length t) (h : is_quote (get_or t (k + 1) 0) ≡ true) where
  two : k + 1 + 1 ≡ k + 2
  two = omega arith

  pub quoted_none : {p : Option ℕ} {r : Seen} → QuoteEnds t (get_or t (k + 1) 0) (k + 2) p → p ≡ None → r ≡ seen_of Wrong (length t) (length t) (length t)
      → Sees t i (k + 1) (λ c. shown i (spot_place (Spot.quoted (get_or t (k + 1) 0) false) (k + 2) (take c t)) (quoted_from m (part i k (take c t)) (get_or t (k + 1) 0) (drop (k + 2) (take c t)))) r
  quoted_none q e p =
      let z = calm.quote_unshut t (k + 1) l h (rw two q.shuts) e in
      look.wrongs p (omega arith) (omega arith) (calm.nowhere t (length t) (omega arith) ∙ sym z) (λ c w u. contra true refl (cc))

  pub quoted_some : {p : Option ℕ} {e : ℕ} {r : Seen} → i ≤ k → QuoteEnds t (get_or t (k + 1) 0) (k + 2) p → p ≡ Some e → Sees t i (e + 1) (λ c. cond (ends m (drop (e + 1) (take c t))) (Quoted i k (e + 1)) (Bad (e + 1))) r
      → Sees t i (k + 1) (λ c. shown i (spot_place (Spot.quoted (get_or t (k + 1) 0) false) (k + 2) (take c t)) (quoted_from m (part i k (take c t)) (get_or t (k + 1) 0) (drop (k + 2) (take c t)))) r
  quoted_some {e = e} n q p s =
      let w = q.shuts.within e p in
      look.further s (omega (arith, w.0)) (calm.quote-passed t (k + 1) l h (rw two q.shuts) p)
      (λ c f u z. words.quoted_some m i k (take c t) (get_or t (k + 1) 0) n (cuts.cut_le u (omega (arith, w.0))) (cuts.cut_closed (get_or t (k + 1) 0) (k + 2) u (q.found e p) (omega arith)) z)
