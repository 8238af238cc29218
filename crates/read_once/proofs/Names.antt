-- Values behind `=`, names, and what stands at a place by its first byte, for every place that the close may have.
-- Assumes nothing.
use mathlib.Core.Path.{◌≡◌, refl, sym, ◌∙◌, ap}
use mathlib.Core.Bool.{Bool, true, false, cond, ◌&&◌}
use mathlib.Core.List.{List}
use Prim.Native.Nat.{ℕ, ◌+◌, ◌<◌, ◌≤◌}
use native.Mathlib.Omega.{arith}
use lib.Dec.{eqb, ltb}
use lib.ListN.{length, get_or, take, drop}
use borrow.Author.Tests.{eqb-false, ltb-true, ltb-false, le-ltb}
use Rattle.base_lists.specs.Lists.{all, is_in, run, first_is}
use Rattle.base_lists.proofs.Runs as runs
use Rattle.base_lists.proofs.Scan as scan
use Rattle.base_lists.proofs.More.{contra}
use Rattle.base_bytes.specs.declared.Mode.{Mode}
use Rattle.base_bytes.specs.Bytes.{is_letter, is_name_part, is_key_start, is_quote, is_plain}
use Rattle.base_letters.specs.Classes.{front_run}
use Rattle.base_letters.proofs.Fronts as fronts
use Rattle.text_names.specs.Names.{is_bare_name}
use Rattle.block_grammar.specs.Grammar.{Item}
use Rattle.block_grammar.specs.Computed.{ends, name_token, value_token}
use Rattle.block_grammar.specs.ComputedClose.{find_close}
use Rattle.block_grammar.proofs.Bytes.{letter_key, key_part}
use Rattle.block_grammar.proofs.Close.{quote_close}
use Rattle.block_places.specs.Computed.{Spot}
use Rattle.block_tokens.specs.declared.Token as tokens
use Rattle.block_tokens.specs.declared.Token.TheVariants.{Bad, Plain, Bare}
use Rattle.block_tokens.specs.Shown.{shown_item, shown, token_at}
use Rattle.block_tokens.specs.Inner.{starts_eq, tag_token, id_token, class_token, quoted_from, part, spot_place, word_place}
use Rattle.block_tokens.proofs.Words as words
use Rattle.read_once.specs.declared.Sort.TheVariants as sort
use Rattle.read_once.specs.declared.Seen.{Seen}
use Rattle.read_once.specs.Inner.{specials, token_seen, is_token, is_closing, seen_of, Sees, Found}
use Rattle.read_once.proofs.Calm as calm
use Rattle.read_once.proofs.Cuts as cuts
use Rattle.read_once.proofs.Cuts.{Cut}
use Rattle.read_once.proofs.Look as look
use Rattle.read_once.proofs.Tokens as laws

-- ---- the value behind the key from i to k, whose `=` stands at k
module _ (t : List ℕ) (i k : ℕ) (m : Mode) where
  abbrev Value : Seen → Type 0
  Value r = Sees t i (k + 1) (λ c. shown i (spot_place Spot.due (k + 1) (take c t)) (value_token m (part i k (take c t)) (drop (k + 1) (take c t)))) r

  pub value_none : {r : Seen} → k + 1 ≡ length t → r ≡ seen_of sort.Wrong (k + 1) (k + 1) (k + 1) → Value r
  value_none e p = look.wrongs p (omega arith) (omega arith) refl (λ c h u. absurd (omega (arith, u.low, u.high)))

  pub value_quoted : {r : Seen} → is_quote (get_or t (k + 1) 0) ≡ true → Sees t i (k + 1) (λ c. shown i (spot_place (Spot.quoted (get_or t (k + 1) 0) false) (k + 2) (take c t)) (quoted_from m (part i k (take c t)) (get_or t (k + 1) 0) (drop (k + 2) (take c t)))) r → Value r
  value_quoted g s =
      look.further s (omega arith) refl
      (λ c h u q. (let n = calm.not_here t (k + 1) (eqb-false (get_or t (k + 1) 0) 125 (quote_close (get_or t (k + 1) 0) g)) h in
      let v : Cut t (k + 2) c = record { low = omega arith; high = u.high } in
      let b = cuts.cut_byte v (k + 1) (omega arith) in
      words.value_quoted m i k (take c t) (cuts.cut_lt v (omega arith)) (rw b g) (rw b q)))

  pub value_plain : {e : ℕ} {r : Seen} → i ≤ k → k + 1 < length t → is_quote (get_or t (k + 1) 0) ≡ false → e ≡ k + 1 + run is_plain (drop (k + 1) t) → Sees t i e (λ c. cond (ltb (k + 1) e && ends m (drop e (take c t))) (Plain i k e) (Bad e)) r → Value r
  value_plain {e} {r} n l g is s =
      let w = runs.inside is_plain t is (omega arith) in
      look.further s w.0 (laws.over_plain t (k + 1) is) (λ c h u q. go c u q (ltb (k + 1) c) refl)
    where
      go : (c : ℕ) → Cut t e c → token_seen r ≡ cond (ltb (k + 1) e && ends m (drop e (take c t))) (Plain i k e) (Bad e) → (x : Bool) → ltb (k + 1) c ≡ x → token_seen r ≡ shown i (spot_place Spot.due (k + 1) (take c t)) (value_token m (part i k (take c t)) (drop (k + 1) (take c t)))
      go c u q true p =
          let v : Cut t (k + 2) c = record { low = omega (arith, ltb-true (k + 1) c p); high = u.high } in
          let le = (runs.inside is_plain t is (omega arith)).0 in
          words.value_plain m i k (take c t) (cuts.cut_lt v (omega arith)) (rw (cuts.cut_byte v (k + 1) (omega arith)) g)
          (words.plain_word i m (λ x. Item.plain (part i k (take c t)) x) (take c t) (cuts.cut-run u is_plain (k + 1) is) (cuts.cut_le u le) (λ x z. words.key_shown m i k (take c t) x n (cuts.cut_le u (omega arith)) z) q)
      go c u q false p =
          let z : e ≡ k + 1 = omega (arith, ltb-false (k + 1) c p, u.low, (runs.inside is_plain t is (omega arith)).0) in
          let y : k + 1 ≡ length (take c t) = rw (cuts.cut-length u) (omega (arith, ltb-false (k + 1) c p, u.low)) in
          (rw (le-ltb (k + 1) e (omega arith)) at q) ∙ (ap (λ x. Bad x) z ∙ words.value_none m i k (take c t) y)

-- ---- a key with its value, or a bare name, from i on; its bytes up to e are a name's
module _ (t : List ℕ) (i : ℕ) (m : Mode) {e : ℕ} (is : e ≡ i + front_run is_key_start is_name_part (drop i t)) (l : i < length t) where
  abbrev Name : Seen → Type 0
  Name r = Sees t i i (λ c. shown i (i + word_place (drop i (take c t))) (name_token m (drop i (take c t)))) r × (is_token r.sort ≡ true → i < r.end)

  pub name_none : {r : Seen} → e ≡ i → r ≡ seen_of sort.Wrong i i i → Name r
  name_none n p =
      (look.wrongs p (omega arith) (omega arith) refl (λ c h u. words.name_none m i (take c t) refl (cuts.cut_fails u is_key_start i (fronts.nothing is_key_start is_name_part key_part t is n)) (cuts.cut_le u (omega arith))), λ w. contra false (rw p at w) refl)

  module _ (n : e ≡ i → ⊥) where
    begun : (first_is is_key_start (drop i t) ≡ true) × (e ≡ i + run is_name_part (drop i t))
    begun = fronts.begun is_key_start is_name_part key_part t is n

    ahead : i < e
    ahead = omega (arith, fronts.inside is_key_start is_name_part t is (omega arith))

    passed : find_close t e ≡ find_close t i
    passed = laws.over_front t i is_key_start key_part is

    pub name_key : {r : Seen} → starts_eq (drop e t) ≡ true → Sees t i (e + 1) (λ c. shown i (spot_place Spot.due (e + 1) (take c t)) (value_token m (part i e (take c t)) (drop (e + 1) (take c t)))) r → Name r
    unfolding all
    name_key g s =
        let x = words.starts_within t e g in
        let y = calm.calm_one (λ b. eqb b 61) refl t e x (scan.first_some (λ b. eqb b 61) t e x ∙ g) in (
          look.further s (omega (arith, ahead)) (y ∙ passed)
              (λ c h u q. (let v : Cut t e c = record { low = omega (arith, u.low); high = u.high } in
              words.name_key m i (take c t) (cuts.cut-run v is_name_part i begun.1) (sym (cuts.cut_first u (λ b. eqb b 61) e (omega arith) (sym g))) (sym (cuts.cut_first v is_key_start i ahead (sym begun.0))) q)),
          λ w. omega (arith, ahead, s.looks.from),
        )

    pub name_word : {good : Bool} {r : Seen} → starts_eq (drop e t) ≡ false → good ≡ is_letter (get_or t i 0) → Sees t i e (λ c. cond (good && ends m (drop e (take c t))) (Bare i e) (Bad e)) r → Name r
    unfolding shown_item is_bare_name
    name_word g o s = (
      look.further s (omega (arith, ahead)) passed
          (λ c h u q. (let z = cuts.cut-run u is_name_part i begun.1 in
          words.name_word m i (take c t) z (cuts.cut_fails u (λ b. eqb b 61) e g) (sym (cuts.cut_first u is_key_start i ahead (sym begun.0)))
          (words.headed_word is_letter is_name_part (λ b h. key_part b (letter_key b h)) (take c t) i e m (λ n. Item.bare n) z (cuts.cut_le u (omega (arith, ahead))) (cuts.cut_first u is_letter i ahead (o ∙ scan.first_some is_letter t i l)) (λ n h. rw h) q))),
      λ w. omega (arith, ahead, s.looks.from),
    )

-- ---- by the first byte
module _ (t : List ℕ) (i : ℕ) (m : Mode) {r : Seen} where
  pub at_end : length t ≤ i → i ≤ length t → r ≡ seen_of sort.Wrong i i i → Found m t i r
  at_end l u p = rw p (record {
    looks = record { from = omega arith; within = u; close = refl; each = λ c h. absurd (omega (arith, (look.behind i h).low, (look.behind i h).high)) };
    ahead = λ w. contra false w refl;
    spans = tt;
    closes = λ w. contra false w refl;
    still = λ w c h. absurd (omega (arith, (look.behind i h).low, (look.behind i h).high));
  })

  pub at_close : i < length t → get_or t i 0 ≡ 125 → r ≡ seen_of sort.Close i i i → Found m t i r
  at_close l e p = rw p (record {
    looks = record { from = omega arith; within = omega arith; close = refl; each = λ c h. words.past_end m (take c t) i (rw (cuts.cut-length (look.behind i h)) (omega (arith, calm.same_close t i l e h))) };
    ahead = λ w. contra false w refl;
    spans = tt;
    closes = λ w. (refl, calm.here t i l e);
    still = λ w. contra true refl w;
  })

  pub at_token : (get_or t i 0 ≡ 125 → ⊥) → Sees t i i (λ c. token_at m (take c t) i) r → (is_token r.sort ≡ true → i < r.end) → Found m t i r
  at_token n s a = record {
    looks = s.looks;
    ahead = a;
    spans = s.spans;
    closes = λ w. contra (is_closing r.sort) w s.other;
    still = λ w c h. calm.not_here t i n h;
  }

  -- `:`, `#` or `.`
  at_sign : (b : ℕ) → is_in specials b ≡ false → (b ≡ 125 → ⊥) → (f : List ℕ → tokens.Token) → ((s : List ℕ) → i < length s → get_or s i 0 ≡ b → f s ≡ token_at m s i) → i < length t → get_or t i 0 ≡ b → Sees t i (i + 1) (λ c. f (take c t)) r → Found m t i r
  at_sign b q n f w l e s =
      at_token (λ z. n (sym e ∙ z))
      (look.further s (omega arith) (calm.calm_byte t i l (rw e q)) (λ c h u p. p ∙ w (take c t) (cuts.cut_lt u (omega arith)) (cuts.cut_byte u i (omega arith) ∙ e)))
      (λ z. omega (arith, s.looks.from))

  pub at_colon : i < length t → get_or t i 0 ≡ 58 → Sees t i (i + 1) (λ c. shown i (spot_place (Spot.tag 0 true) (i + 1) (take c t)) (tag_token m (drop (i + 1) (take c t)))) r → Found m t i r
  unfolding is_in
  at_colon = at_sign 58 refl (λ z. omega (arith, z)) (λ s. shown i (spot_place (Spot.tag 0 true) (i + 1) s) (tag_token m (drop (i + 1) s))) (λ s. words.at_colon m s i)

  pub at_hash : i < length t → get_or t i 0 ≡ 35 → Sees t i (i + 1) (λ c. shown i (spot_place Spot.sigil (i + 1) (take c t)) (id_token m (drop (i + 1) (take c t)))) r → Found m t i r
  unfolding is_in
  at_hash = at_sign 35 refl (λ z. omega (arith, z)) (λ s. shown i (spot_place Spot.sigil (i + 1) s) (id_token m (drop (i + 1) s))) (λ s. words.at_hash m s i)

  pub at_dot : i < length t → get_or t i 0 ≡ 46 → Sees t i (i + 1) (λ c. shown i (spot_place Spot.sigil (i + 1) (take c t)) (class_token m (drop (i + 1) (take c t)))) r → Found m t i r
  unfolding is_in
  at_dot = at_sign 46 refl (λ z. omega (arith, z)) (λ s. shown i (spot_place Spot.sigil (i + 1) s) (class_token m (drop (i + 1) s))) (λ s. words.at_dot m s i)

  pub at_name : i < length t → (get_or t i 0 ≡ 125 → ⊥) → (get_or t i 0 ≡ 58 → ⊥) → (get_or t i 0 ≡ 35 → ⊥) → (get_or t i 0 ≡ 46 → ⊥) → Sees t i i (λ c. shown i (i + word_place (drop i (take c t))) (name_token m (drop i (take c t)))) r × (is_token r.sort ≡ true → i < r.end) → Found m t i r
  at_name l n p q o s =
      at_token n
      (look.further s.0 (omega arith) refl
      (λ c h u z. (let v : Cut t (i + 1) c = record { low = omega (arith, calm.not_here t i n h); high = u.high } in
      let b = cuts.cut_byte v i (omega arith) in
      z ∙ words.at_other m (take c t) i (cuts.cut_lt v (omega arith)) (λ x. p (sym b ∙ x)) (λ x. q (sym b ∙ x)) (λ x. o (sym b ∙ x)))))
      s.1
