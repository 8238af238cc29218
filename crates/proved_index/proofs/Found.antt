-- What a look-up says: the first record with the id, and nothing exactly where no record has it.
-- Assumes nothing.
use Rattle.base_refusals.specs.declared.Refusal.{Refusal}
use Rattle.std.specs.Prelude.{None, Ok, Some, Option, Result}
use mathlib.Core.Path.{◌≡◌, refl, sym, ◌∙◌, ap}
use mathlib.Core.Bool.{Bool, true, false, cond, not, ◌&&◌}
use mathlib.Core.List.{List, [], ◌∷◌, ◌++◌}
use Prim.Native.Nat.{ℕ}
use native.Mathlib.Omega.{arith}
use borrow.Author.Tests.{not-true}
use Rattle.base_lists.specs.Lists.{all}
use Rattle.base_lists.proofs.Scan.{both}
use Rattle.base_refusals.specs.Orders.{in_order}
use Rattle.sheet_records.specs.Records.{Record, IsIndex}
use Rattle.sheet_index.specs.Finding.{has_id, first_with, find_record}
use Rattle.proved_index.specs.Lookups.{lacks_id, FirstWith, FindsFirst, MissesExactly}
use Rattle.proved_index.proofs.Form.{index_is_read, read_own}

missing_lacks : (id : List ℕ) (rs : List Record) → first_with id rs ≡ Ok None → lacks_id id rs ≡ true
unfolding first_with all
missing_lacks id [] e = refl
missing_lacks id (r ∷ rs) e = go (has_id id r) e (missing_lacks id rs)
  where
    go : (x : Bool) → cond {A = Result (Option (ℕ × ℕ × ℕ)) Refusal} x (Ok (Some (r.line, r.count, r.offset))) (first_with id rs) ≡ Ok None → (first_with id rs ≡ Ok None → lacks_id id rs ≡ true) → (not x && lacks_id id rs) ≡ true
    go true e ih = let z : ◌≡◌ {A = ℕ} 0 1 = cc in absurd (omega arith)
    go false e ih = ih e

lacks_missing : (id : List ℕ) (rs : List Record) → lacks_id id rs ≡ true → first_with id rs ≡ Ok None
unfolding first_with all
lacks_missing id [] e = refl
lacks_missing id (r ∷ rs) e =
    let h = both (not (has_id id r)) (lacks_id id rs) e in
    rw (not-true (has_id id r) h.0) (lacks_missing id rs h.1)

-- a row that is found is that of the first record with the id
found_first : (id : List ℕ) (rs : List Record) (l c o : ℕ) → first_with id rs ≡ Ok (Some (l, c, o)) → (r : Record) × ((◌≡◌ {A = Result (Option (ℕ × ℕ × ℕ)) Refusal} (Ok (Some (r.line, r.count, r.offset))) (Ok (Some (l, c, o)))) × FirstWith id rs r)
unfolding first_with all
found_first id [] l c o e = let z : ◌≡◌ {A = ℕ} 0 1 = cc in absurd (omega arith)
found_first id (r ∷ rs) l c o e = go (has_id id r) refl e (found_first id rs l c o)
  where
    go : (x : Bool) → has_id id r ≡ x → cond {A = Result (Option (ℕ × ℕ × ℕ)) Refusal} x (Ok (Some (r.line, r.count, r.offset))) (first_with id rs) ≡ Ok (Some (l, c, o))
        → (first_with id rs ≡ Ok (Some (l, c, o)) → (q : Record) × ((◌≡◌ {A = Result (Option (ℕ × ℕ × ℕ)) Refusal} (Ok (Some (q.line, q.count, q.offset))) (Ok (Some (l, c, o)))) × FirstWith id rs q))
        → (q : Record) × ((◌≡◌ {A = Result (Option (ℕ × ℕ × ℕ)) Refusal} (Ok (Some (q.line, q.count, q.offset))) (Ok (Some (l, c, o)))) × FirstWith id (r ∷ rs) q)
    go true b e ih = (r, (e, record { front = []; behind = rs; stands = refl; has = b; none_before = refl }))
    go false b e ih =
        let y = ih e in
        let f = y.1.1 in
        (y.0, (y.1.0, record { front = r ∷ f.front; behind = f.behind; stands = ap (λ (l : List Record). r ∷ l) f.stands; has = f.has; none_before = rw b f.none_before }))

-- and each first record with the id is found
at_front : (id : List ℕ) (xs : List Record) (r : Record) (ys : List Record) → lacks_id id xs ≡ true → has_id id r ≡ true → first_with id (xs ++ (r ∷ ys)) ≡ Ok (Some (r.line, r.count, r.offset))
unfolding first_with all
at_front id [] r ys e h = rw h
at_front id (x ∷ xs) r ys e h =
    let g = both (not (has_id id x)) (lacks_id id xs) e in
    rw (not-true (has_id id x) g.0) (at_front id xs r ys g.1 h)

-- in an index a look-up says what its records say
find_in : (t id : List ℕ) (rs : List Record) → IsIndex t rs → find_record t id ≡ first_with id rs
unfolding find_record in_order
find_in t id rs w = let x = index_is_read t rs w in rw (read_own t x.0, x.0) (ap (first_with id) x.1)

pub finds_first : FindsFirst
finds_first t id rs w = (
  λ r f. find_in t id rs w ∙ (ap (first_with id) f.stands ∙ at_front id f.front r f.behind f.none_before f.has),
  λ l c o e. found_first id rs l c o (sym (find_in t id rs w) ∙ e),
)

pub misses_exactly : MissesExactly
misses_exactly t id rs w = (λ e. missing_lacks id rs (sym (find_in t id rs w) ∙ e), λ e. find_in t id rs w ∙ lacks_missing id rs e)
