-- What a value puts: the pieces of a class value, and a value by its name.
-- Assumes nothing.
use mathlib.Core.Path.{◌≡◌, refl}
use mathlib.Core.Bool.{true, false, cond}
use mathlib.Core.List.{List, [], ◌∷◌}
use Prim.Native.Nat.{ℕ, ◌+◌, ◌-◌, ◌<◌, ◌≤◌}
use native.Mathlib.Omega.{arith}
use lib.ListN.{length, take, drop, length-take, length-drop}
use lib.Seq.{slice, slice_empty, length-take-le}
use Rattle.base_lists.specs.Lists.{run, same}
use Rattle.base_lists.proofs.Scan.{run_le}
use Rattle.base_lists.proofs.Same.{same_true}
use Rattle.base_lists.proofs.Parts.{slice_part}
use Rattle.base_bytes.specs.Bytes.{is_space}
use Rattle.block_grammar.specs.Meaning.{id_name, class_name, lang_name}
use Rattle.set_table.specs.Puts.{by_name}
use Rattle.set_fill.proofs.Pieces as pieces
use Rattle.read_once.specs.declared.Kind as kinds
use Rattle.read_once.specs.declared.Code.TheVariants as code
use Rattle.read_once.specs.declared.Moved.{Moved}
use Rattle.read_once.specs.Inner.{pieces_in, classes_in, named_puts, Stands, span_bytes, put_of, put_move, piece_move, Puts}

-- no pieces come before the tokens
pub none_left : (t : List ℕ) (k : kinds.Kind) (n : ℕ) → pieces_in t k n n ≡ []
none_left t k n = rw (slice_empty n t, pieces.none n)

-- ---- class values: whitespace is passed up to `from`
module _ {t : List ℕ} {at to next : ℕ} (inv : Stands t at to next) (k : kinds.Kind) {from : ℕ} (is : from ≡ at + run is_space (slice at to t)) where
  ends : length (take to t) ≡ to
  ends = length-take-le to t (omega (arith, inv.mid, inv.high))

  pub between : (at ≤ from) × (from ≤ to)
  between = omega (arith, is, ends, run_le is_space (slice at to t), length-drop at (take to t), inv.low)

  pub no_pieces : from ≡ to → pieces_in t k at to ≡ []
  no_pieces e = rw (pieces.no_piece (take to t) at is (omega (arith, ends)))

  pub whole_class : 0 < at → from ≡ to → {r : Moved} → r ≡ put_move code.Class at at k at to next → Puts t (at - 1) next (classes_in t k at to) [] r
  whole_class h e q =
      rw q
      (record {
        same = refl;
        put = refl;
        is = rw (no_pieces e, none_left t k next);
        ahead = omega (arith, inv.low, inv.mid);
        inside = record { low = omega arith; mid = omega arith; high = inv.high };
        short = (omega (arith, inv.low, inv.mid, inv.high), omega (arith, inv.low, inv.mid, inv.high), omega (arith, inv.low, inv.mid, inv.high), omega (arith, inv.mid, inv.high));
        lang = refl;
      })

  module _ (n : from ≡ to → ⊥) where
    here : from < length (take to t)
    here = omega (arith, ends, between, n)

    pub stops : (from < (piece_move t from k to next).to) × ((piece_move t from k to next).to ≤ to)
    stops = let z = pieces.piece_ahead (take to t) at is refl here in omega (arith, z.0, z.1, ends)

    pub one_piece : pieces_in t k at to ≡ put_of (piece_move t from k to next) ∷ pieces_in t k (piece_move t from k to next).to to
    one_piece = rw (pieces.a_piece (take to t) at is refl here)

    pub first_class : 0 < at → {r : Moved} → r ≡ piece_move t from k to next → Puts t (at - 1) next (classes_in t k at to) [] r
    first_class h q =
        let z = stops in
        let b = between in
        rw q
        (record {
          same = refl;
          put = refl;
          is = rw one_piece;
          ahead = omega (arith, z.0, b.0);
          inside = record { low = z.1; mid = inv.mid; high = inv.high };
          short = (omega (arith, b.1, inv.mid, inv.high), omega (arith, b.1, inv.mid, inv.high), omega (arith, b.1, inv.mid, inv.high), omega (arith, z.1, inv.mid, inv.high));
          lang = refl;
        })

-- ---- by the name
id_no_lang : (n : List ℕ) → same n id_name ≡ true → same n lang_name ≡ false
unfolding same
id_no_lang n e = rw (same_true n id_name e)

class_no_lang : (n : List ℕ) → same n class_name ≡ true → same n lang_name ≡ false
unfolding same
class_no_lang n e = rw (same_true n class_name e)

module _ {t : List ℕ} {at to next : ℕ} (inv : Stands t at to next) {f e : ℕ} (le : f ≤ e) (l : e ≤ at) (h : f < at) (k : kinds.Kind) where
  abbrev said : List (List ℕ)
  said = cond (same (slice f e t) lang_name) (span_bytes t k at to ∷ []) []

  fits : (e ≤ length t) × (at ≤ length t) × (to ≤ length t)
  fits = omega (arith, inv.low, inv.mid, inv.high)

  pub named_id : {r : Moved} → same (take (e - f) (drop f t)) id_name ≡ true → r ≡ put_move code.Id f e k at to next → Puts t f next (named_puts t f e k at to) said r
  unfolding by_name
  named_id g q =
      let z = slice_part f e t in
      rw q
      (record {
        same = refl;
        put = refl;
        is = rw (z, g, none_left t k next);
        ahead = omega (arith, inv.low, inv.mid);
        inside = record { low = omega arith; mid = omega arith; high = inv.high };
        short = (omega (arith, fits), omega (arith, fits), omega (arith, fits), omega (arith, fits));
        lang = rw (z, id_no_lang (take (e - f) (drop f t)) g);
      })

  pub named_class : {r : Moved} → same (take (e - f) (drop f t)) id_name ≡ false → same (take (e - f) (drop f t)) class_name ≡ true → Puts t (at - 1) next (classes_in t k at to) [] r → Puts t f next (named_puts t f e k at to) said r
  unfolding by_name
  named_class g c p =
      let z = slice_part f e t in
      record {
        same = p.same;
        put = p.put;
        is = rw (z, g, c) p.is;
        ahead = omega (arith, p.ahead);
        inside = p.inside;
        short = p.short;
        lang = rw (z, class_no_lang (take (e - f) (drop f t)) c) p.lang;
      }

  module _ (g : same (take (e - f) (drop f t)) id_name ≡ false) (c : same (take (e - f) (drop f t)) class_name ≡ false) where
    ended : f + length (take (e - f) (drop f t)) ≡ e
    ended = omega (arith, length-take (e - f) (drop f t), length-drop f t, fits)

    pub named_lang : same (take (e - f) (drop f t)) lang_name ≡ true → {r : Moved} → r ≡ put_move code.Lang f e k at to next → Puts t f next (named_puts t f e k at to) said r
    unfolding by_name
    named_lang n q =
        let z = slice_part f e t in
        rw q
        (record {
          same = refl;
          put = refl;
          is = rw (z, g, c, ended, none_left t k next);
          ahead = omega (arith, inv.low, inv.mid);
          inside = record { low = omega arith; mid = omega arith; high = inv.high };
          short = (omega (arith, fits), omega (arith, fits), omega (arith, fits), omega (arith, fits));
          lang = rw (z, n);
        })

    pub named_key : same (take (e - f) (drop f t)) lang_name ≡ false → {r : Moved} → r ≡ put_move code.Key f e k at to next → Puts t f next (named_puts t f e k at to) said r
    unfolding by_name
    named_key n q =
        let z = slice_part f e t in
        rw q
        (record {
          same = refl;
          put = refl;
          is = rw (z, g, c, ended, none_left t k next);
          ahead = omega (arith, inv.low, inv.mid);
          inside = record { low = omega arith; mid = omega arith; high = inv.high };
          short = (omega (arith, fits), omega (arith, fits), omega (arith, fits), omega (arith, fits));
          lang = rw (z, n);
        })
