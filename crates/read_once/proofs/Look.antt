-- What is seen from a place on, where the close isn't known: a part that is read is passed, and the token's end is at the close or before.
-- Assumes nothing.
use Rattle.std.specs.Prelude.{Some}
use mathlib.Core.Path.{◌≡◌, refl, ◌∙◌, ap}
use mathlib.Core.Bool.{Bool, true, false, cond, ◌&&◌}
use mathlib.Core.List.{List}
use Prim.Native.Nat.{ℕ, ◌+◌, ◌<◌, ◌≤◌}
use native.Mathlib.Omega.{arith}
use lib.ListN.{length, get_or, take, drop, drop_of_length-le}
use lib.Seq.{drop-cons}
use Rattle.base_bytes.specs.declared.Mode.{Mode}
use Rattle.base_bytes.specs.Bytes.{is_blank}
use Rattle.block_grammar.specs.Computed.{ends}
use Rattle.block_grammar.specs.ComputedClose.{find_close}
use Rattle.block_grammar.proofs.Close as close
use Rattle.block_tokens.specs.declared.Token as tokens
use Rattle.block_tokens.specs.declared.Token.TheVariants.{Bad}
use Rattle.read_once.specs.declared.Sort.TheVariants.{Wrong}
use Rattle.read_once.specs.declared.Seen.{Seen}
use Rattle.read_once.specs.Inner.{token_seen, is_closing, seen_of, Spans, Sees}
use Rattle.read_once.proofs.Calm as calm
use Rattle.read_once.proofs.Cuts as cuts
use Rattle.read_once.proofs.Cuts.{Cut}

pub behind : {t : List ℕ} (e : ℕ) {c : ℕ} → find_close t e ≡ Some c → Cut t e c
behind {t} e {c} h = let f = close.found t e c h in record { low = f.from; high = f.to }

-- from a on the same is seen as from e on, if the search passes from a to e
pub further : {t : List ℕ} {i a e : ℕ} {f g : ℕ → tokens.Token} {r : Seen} → Sees t i e f r → a ≤ e → find_close t e ≡ find_close t a → ((c : ℕ) → find_close t e ≡ Some c → Cut t e c → token_seen r ≡ f c → token_seen r ≡ g c) → Sees t i a g r
further {t} {i} {a} {e} s l p w =
    let k = s.looks in
    record {
      looks = record { from = omega (arith, k.from); within = k.within; close = k.close ∙ p; each = λ c h. (let z = p ∙ h in w c z (behind e z) (k.each c z)) };
      other = s.other;
      spans = s.spans;
    }

-- bytes that go wrong at e
pub wrongs : {t : List ℕ} {i a e : ℕ} {g : ℕ → tokens.Token} {r : Seen} → r ≡ seen_of Wrong e e e → a ≤ e → e ≤ length t → find_close t e ≡ find_close t a → ((c : ℕ) → find_close t a ≡ Some c → Cut t e c → Bad e ≡ g c) → Sees t i a g r
wrongs {t} {i} {a} {e} is l u p w =
    rw is (record {
      looks = record { from = l; within = u; close = p; each = λ c h. w c h (behind e (p ∙ h)) };
      other = refl;
      spans = tt;
    })

-- ---- a token may end before e
module _ (t : List ℕ) (e : ℕ) (m : Mode) where
  ends-here : {c : ℕ} → e < length t → get_or t e 0 ≡ 125 → find_close t e ≡ Some c → ends m (drop e (take c t)) ≡ true
  unfolding ends
  ends-here {c} l b h =
      let z = calm.same_close t e l b h in
      rw (drop_of_length-le (take c t) {i = e} (rw (cuts.cut-length (behind e h)) (omega arith)))

  ends-before : {c : ℕ} → (get_or t e 0 ≡ 125 → ⊥) → find_close t e ≡ Some c → ends m (drop e (take c t)) ≡ is_blank m (get_or t e 0)
  unfolding ends
  ends-before {c} n h =
      let l = calm.not_here t e n h in
      let u : Cut t (e + 1) c = record { low = omega arith; high = (behind e h).high } in
      rw (drop-cons (take c t) e 0 (cuts.cut_lt u (omega arith)), cuts.cut_byte u e (omega arith))

  module _ {r : Seen} (at : r.end ≡ e) (o : is_closing r.sort ≡ false) (u : e ≤ length t) {i : ℕ} (z : Spans i r) where
    seen : {g : ℕ → tokens.Token} → ((c : ℕ) → find_close t e ≡ Some c → token_seen r ≡ g c) → Sees t i e g r
    seen w = record {
      looks = record { from = omega arith; within = omega arith; close = ap (find_close t) at; each = w };
      other = o;
      spans = z;
    }

    pub finish_end : {good : Bool} → good ≡ true → length t ≤ e → Sees t i e (λ c. cond (good && ends m (drop e (take c t))) (token_seen r) (Bad e)) r
    finish_end g l = seen (λ c h. absurd (omega (arith, (behind e h).low, (behind e h).high)))

    pub finish-here : {good : Bool} → good ≡ true → e < length t → get_or t e 0 ≡ 125 → Sees t i e (λ c. cond (good && ends m (drop e (take c t))) (token_seen r) (Bad e)) r
    finish-here g l b = seen (λ c h. rw (g, ends-here l b h))

    pub finish_blank : {good : Bool} → good ≡ true → (get_or t e 0 ≡ 125 → ⊥) → is_blank m (get_or t e 0) ≡ true → Sees t i e (λ c. cond (good && ends m (drop e (take c t))) (token_seen r) (Bad e)) r
    finish_blank g n b = seen (λ c h. rw (g, ends-before n h, b))

  module _ {r : Seen} (tok : tokens.Token) (i : ℕ) (is : r ≡ seen_of Wrong e e e) (u : e ≤ length t) where
    pub finish_bad : {good : Bool} → good ≡ false → Sees t i e (λ c. cond (good && ends m (drop e (take c t))) tok (Bad e)) r
    finish_bad g = wrongs is (omega arith) u refl (λ c h k. rw g)

    pub finish_wrong : {good : Bool} → good ≡ true → (get_or t e 0 ≡ 125 → ⊥) → is_blank m (get_or t e 0) ≡ false → Sees t i e (λ c. cond (good && ends m (drop e (take c t))) tok (Bad e)) r
    finish_wrong g n b = wrongs is (omega arith) u refl (λ c h k. rw (g, ends-before n h, b))
