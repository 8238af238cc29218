-- What is put next, where pieces of a class value may come first.
-- Assumes nothing.
use mathlib.Core.Path.{◌≡◌, refl, ◌∙◌}
use mathlib.Core.List.{List, []}
use Prim.Native.Nat.{ℕ, ◌+◌}
use native.Mathlib.Omega.{arith}
use lib.ListN.{take}
use lib.Seq.{slice}
use Rattle.base_lists.specs.Lists.{run}
use Rattle.base_bytes.specs.declared.Mode.{Mode}
use Rattle.base_bytes.specs.Bytes.{is_space}
use Rattle.set_fill.specs.Inner.{tokens_from}
use Rattle.set_fill.proofs.Walk.{before_none}
use Rattle.read_once.specs.declared.Kind as kinds
use Rattle.read_once.specs.declared.Code as codes
use Rattle.read_once.specs.declared.Code.TheVariants as code
use Rattle.read_once.specs.declared.Moved.{Moved}
use Rattle.read_once.specs.Inner.{pieces_in, Stands, rest_at, piece_move, Putting, MoveTells, Moves}
use Rattle.read_once.proofs.Moves.{moves_put, before_more}
use Rattle.read_once.proofs.Values as values

-- no pieces are left
pub no_more : (m : Mode) (t s : List ℕ) (k : kinds.Kind) (at to next : ℕ) → pieces_in t k at to ≡ [] → rest_at m t s k at to next ≡ tokens_from m s next
unfolding rest_at
no_more m t s k at to next e = rw e (before_none (tokens_from m s next))

module _ {t : List ℕ} {at to next : ℕ} (inv : Stands t at to next) (k : kinds.Kind) {from : ℕ} (is : from ≡ at + run is_space (slice at to t)) where
  pub token_next : {m : Mode} {r : Moved} → from ≡ to → Moves m t next next (λ s. tokens_from m s next) r → Moves m t at next (λ s. rest_at m t s k at to next) r
  token_next {m} {r} e p = record { told = go r.code p.told }
    where
      left : (s : List ℕ) → rest_at m t s k at to next ≡ tokens_from m s next
      left s = no_more m t s k at to next (values.no_pieces inv k is e)

      put : Putting m t next next (λ s. tokens_from m s next) r → Putting m t at next (λ s. rest_at m t s k at to next) r
      put p =
          record {
            ahead = omega (arith, p.ahead, inv.low, inv.mid);
            inside = p.inside;
            short = p.short;
            close = p.close;
            each = λ c h. (let z = p.each c h in record { is = left (take c t) ∙ z.is; place = z.place; lang = z.lang });
          }

      go : (x : codes.Code) → MoveTells m t next next (λ s. tokens_from m s next) r x → MoveTells m t at next (λ s. rest_at m t s k at to next) r x
      go code.Close p = record { ahead = p.ahead; closes = p.closes; each = λ c h. (let z = p.each c h in record { is = left (take c t) ∙ z.is; place = z.place; lang = z.lang }) }
      go code.Wrong p =
          record { ahead = p.ahead; within = p.within; close = p.close; each = λ c h. (let z = p.each c h in record { is = left (take c t) ∙ z.is; place = z.place; lang = z.lang }) }
      go code.Id p = put p
      go code.Class p = put p
      go code.Key p = put p
      go code.Lang p = put p
      go code.Tag p = put p

  pub piece_next : (m : Mode) {r : Moved} → (from ≡ to → ⊥) → r ≡ piece_move t from k to next → Moves m t at next (λ s. rest_at m t s k at to next) r
  unfolding rest_at
  piece_next m n q =
      let z = values.stops inv k is n in
      let b = values.between inv k is in
      rw q
      (moves_put refl
      (record {
        ahead = omega (arith, z.0, b.0);
        inside = record { low = z.1; mid = inv.mid; high = inv.high };
        short = (omega (arith, b.1, inv.mid, inv.high), omega (arith, b.1, inv.mid, inv.high), omega (arith, b.1, inv.mid, inv.high), omega (arith, z.1, inv.mid, inv.high));
        close = refl;
        each = λ c h. record { is = rw (values.one_piece inv k is n) (before_more _ _ (tokens_from m (take c t) next)); place = refl; lang = λ x. refl };
      }))
