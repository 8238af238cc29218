-- A block's set over a single text: what was joined or, where nothing was, the lent one.
-- Assumes nothing.
use mathlib.Core.Path.{◌≡◌, refl, sym, ◌∙◌, ap}
use mathlib.Core.Bool.{true, cond}
use mathlib.Core.List.{List, [], ◌∷◌}
use Prim.Native.Nat.{ℕ}
use lib.Dec.{eqb, eqb-suc-zero}
use lib.ListN.{length}
use Rattle.base_bytes.specs.declared.Mode.TheVariants.{Loose}
use Rattle.base_lists.specs.Lists.{is_some}
use Rattle.text_checks.specs.Check.{is_text}
use Rattle.block_trimmed_line.specs.Fronts.{front_of}
use Rattle.block_chain.specs.Computed.{read_blocks, blocks_from}
use Rattle.set_table.specs.Types.{two, empty_set}
use Rattle.set_table.specs.Rows.{meaning_of}
use Rattle.set_table.specs.declared.Attrs.{Attrs}
use Rattle.set_table.specs.declared.Origin.TheVariants.{First}
use Rattle.set_exchange.specs.Exchange.{exchanged}
use Rattle.set_fill.specs.Fill.{chain_at}
use Rattle.set_wellformed.specs.WellFormed.{well_formed}
use Rattle.proved_sets.proofs.TableWhole.{empty_means}
use Rattle.proved_sets.proofs.WellFormedShape.{formed_parts}
use Rattle.proved_origins.proofs.Exchanged.{exchange_keeps}
use Rattle.proved_origins.proofs.OneText.{behaves_as_before}
use Rattle.proved_origins.proofs.Read.{read_first, read_joined, exchanged_empty}
use Rattle.read_blocks.specs.Blocks.{Found, block_of, as_first, as_second}
use Rattle.proved_reading.specs.Alone.{BlocksOverOne}
use Rattle.proved_reading.proofs.BlockSets.{empty_over}

-- what the set a over w is, as a set of the first text, and b as one of the second, with u beside w; s over t and x is what they were
record Same (t x w u : List ℕ) (a b s : Attrs) : Type 0 where
  pub first : meaning_of (two w u) a ≡ meaning_of (two t x) s
  pub second : meaning_of (two u w) b ≡ meaning_of (two t x) s
  pub first_formed : is_text t ≡ true → is_text u ≡ true → well_formed (two t x) s ≡ true → well_formed (two w u) a ≡ true
  pub second_formed : is_text t ≡ true → is_text u ≡ true → well_formed (two t x) s ≡ true → well_formed (two u w) b ≡ true

-- the empty set, whatever the texts are
empty_same : (t x w u : List ℕ) → (well_formed (two t x) empty_set ≡ true → is_text t ≡ true → is_text w ≡ true) → Same t x w u empty_set empty_set empty_set
empty_same t x w u h =
    record {
      first = empty_means (two w u) ∙ sym (empty_means (two t x));
      second = empty_means (two u w) ∙ sym (empty_means (two t x));
      first_formed = λ k l e. empty_over w (h e k) u l;
      second_formed = λ k l e. empty_over u l w (h e k);
    }

-- one good line of the lent text
line_same : (t u : List ℕ) (from to : ℕ) → let c = (chain_at Loose t from to).set in Same t [] t u c (exchanged c) c
line_same t u from to =
    let b = (behaves_as_before First t u).one (chain_at Loose t from to).set (read_first.chain Loose t from to) in
    let j = read_joined Loose u t from to in
    record { first = b.means; second = j.means; first_formed = λ k l e. b.formed l ∙ e; second_formed = λ k l e. j.formed l ∙ e }

-- what was joined
run-same : (t x u : List ℕ) (from to : ℕ) → let c = (chain_at Loose x from to).set in Same t x x u (exchanged (exchanged c)) (exchanged c) (exchanged c)
run-same t x u from to =
    let c = (chain_at Loose x from to).set in
    let b = (behaves_as_before First x u).one c (read_first.chain Loose x from to) in
    let j = read_joined Loose t x from to in
    let k = read_joined Loose u x from to in
    let w = (exchange_keeps (two t x) c).twice in
    record {
      first = rw w (b.means ∙ sym j.means);
      second = k.means ∙ sym j.means;
      first_formed = λ h l e. rw w (b.formed l ∙ sym (j.formed h) ∙ e);
      second_formed = λ h l e. k.formed l ∙ sym (j.formed h) ∙ e;
    }

empty_chain : (chain_at Loose [] 0 0).set ≡ empty_set
unfolding chain_at read_blocks blocks_from
empty_chain = refl

-- by whether anything was joined
any_same : (t x u : List ℕ) (s : Attrs) → (x ≡ [] → s ≡ empty_set) → Same t x x u (exchanged s) s s
    → Same t x (cond (is_some x) x t) u (cond (eqb (length x) 0) s (exchanged s)) (cond (eqb (length x) 0) (exchanged s) s) s
any_same t [] u s e h = rw (e refl, exchanged_empty) (empty_same t [] t u (λ w k. k))
any_same t (b ∷ y) u s e h = rw (eqb-suc-zero (length y)) h

pub blocks_over_one : BlocksOverOne
unfolding block_of as_first as_second
blocks_over_one t at Found.line u =
    let z = line_same t u (front_of t at).from (front_of t at).to in
    record { first = z.first; second = z.second; first_formed = z.first_formed; second_formed = z.second_formed }
blocks_over_one t at (Found.run r) u =
    let s = exchanged (chain_at Loose r.text 0 (length r.text)).set in
    let z = any_same t r.text u s (λ e. ap exchanged (rw e empty_chain) ∙ exchanged_empty) (run-same t r.text u 0 (length r.text)) in
    record { first = z.first; second = z.second; first_formed = z.first_formed; second_formed = z.second_formed }
blocks_over_one t at (Found.none q x n) u =
    let z = any_same t x u empty_set (λ e. refl) (rw exchanged_empty (empty_same t x x u (λ w k. (formed_parts (two t x) empty_set w).1))) in
    record { first = z.first; second = z.second; first_formed = z.first_formed; second_formed = z.second_formed }
