-- Which text the sets that are read are of.
use Rattle.std.specs.Prelude.{◌≡◌, true, List, ℕ}
use Rattle.base_bytes.specs.declared.Mode.{Mode}
use Rattle.text_checks.specs.Check.{is_text}
use Rattle.set_table.specs.Types.{one, two}
use Rattle.set_table.specs.Rows.{meaning_of}
use Rattle.set_table.specs.declared.Origin.TheVariants.{First, Second}
use Rattle.set_exchange.specs.Exchange.{exchanged}
use Rattle.set_wellformed.specs.WellFormed.{well_formed}
use Rattle.set_fill.specs.Fill.{fill_at, chain_at}
use Rattle.proved_origins.specs.OneText.{is_all_of}

-- what is read out of one text, at a brace or as a line, is of the first
pub record ReadFirst : Type 0 where
  pub fill : (m : Mode) (t : List ℕ) (at end : ℕ) → is_all_of First (fill_at m t at end).set ≡ true
  pub chain : (m : Mode) (t : List ℕ) (from to : ℕ) → is_all_of First (chain_at m t from to).set ≡ true

-- "the variant's block is wrapped and lives in the join buffer": a line read out of what was joined, x, as a set of the second text
pub record ReadsJoined (m : Mode) (t x : List ℕ) (from to : ℕ) : Type 0 where
  pub of : is_all_of Second (exchanged (chain_at m x from to).set) ≡ true
  pub means : meaning_of (two t x) (exchanged (chain_at m x from to).set) ≡ meaning_of (one x) (chain_at m x from to).set
  pub formed : is_text t ≡ true → well_formed (two t x) (exchanged (chain_at m x from to).set) ≡ well_formed (one x) (chain_at m x from to).set

abbrev pub ReadJoined : Type 0
ReadJoined = (m : Mode) (t x : List ℕ) (from to : ℕ) → ReadsJoined m t x from to
