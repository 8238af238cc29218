-- The loop over the blocks of a sheet.
-- Assumes nothing.
use Rattle.std.specs.Prelude.{Ok, Err, None, Option, Result, Some}
use mathlib.Core.Path.{◌≡◌, refl, sym, ◌∙◌, ap}
use mathlib.Core.Bool.{true, false, cond}
use mathlib.Core.List.{List, [], ◌∷◌, ◌++◌, append_assoc, append-nil}
use Prim.Native.Nat.{ℕ, zero, suc, ◌+◌, ◌≤◌}
use native.Mathlib.Omega.{arith}
use lib.ListN.{length}
use lib.Seq.{slice}
use Rattle.base_refusals.specs.Numbers.{max_text}
use Rattle.base_refusals.specs.declared.Refusal.{Refusal}
use Rattle.base_refusals.specs.declared.Refusal.TheVariants.{SharedValve}
use Rattle.set_table.specs.Types.{two}
use Rattle.sheet_blocks.specs.declared.Next.{Next}
use Rattle.sheet_blocks.specs.Sheets.{Try, blocks_of, tries_at, only_blocks, join_behind, up_to_block}
use Rattle.sheet_blocks.proofs.Tries.{try}
use Rattle.sheet_blocks.proofs.Rooms.{blocks_are}
use Rattle.sheet_blocks.proofs.SheetWalk.{none_by, first_by, SheetWalk, walk_start, walk_tries, WalkEnds, WalkMeets}
use Rattle.sheet_valves.specs.Tables.{empty_table, with_setting}
use Rattle.sheet_valves.specs.Pairs.{first_pair}
use Rattle.sheet_valves.specs.declared.Table.{Table}
use Rattle.sheet_valves.specs.declared.Setting.{Setting}
use Rattle.sheet_variants.specs.Variants.{heard_by, heard, no_table, whole_by, whole_table, heard_then, variants_from, is_stop, past_of}
use Rattle.sheet_variants.specs.declared.Variants as answer

-- ---- the tries gone past

module _ (t : List ℕ) where
  past_none : (xs : List Try) → only_blocks xs ≡ [] → past_of t xs ≡ xs
  unfolding past_of
  past_none = none_by (λ us. past_of t us ≡ us) (λ x us n h. rw n (ap (λ (l : List Try). x ∷ l) h)) refl

  past_first : (zs : List Try) {y : Try} {ys : List Try} (xs : List Try) → only_blocks xs ≡ y ∷ ys → past_of t (up_to_block xs ++ zs) ≡ up_to_block xs ++ cond (is_stop (heard t y)) [] (past_of t zs)
  unfolding past_of
  past_first zs {y} = first_by (λ us. past_of t (us ++ zs) ≡ us ++ cond (is_stop (heard t y)) [] (past_of t zs)) (λ x us n h. rw n (ap (λ (l : List Try). x ∷ l) h)) (λ b. rw b)

-- ---- the loop: so much is gone past, and the table is filled so far

pub record Walks (t join₀ : List ℕ) (R : answer.Variants) (P : List Try) (join : List ℕ) (at line : ℕ) (table : Table) : Type 0 where
  pub past : List Try
  pub walk : SheetWalk t join₀ join at line past
  pub rest : R ≡ variants_from t table (only_blocks (tries_at t (length join₀) line at))
  pub gone : P ≡ past ++ past_of t (tries_at t (length join₀) line at)

pub walks_start : (t join : List ℕ) {u : Table} → length t ≤ max_text → max_text ≤ length join → u ≡ empty_table
    → Walks t join (variants_from t empty_table (blocks_of t)) (past_of t (tries_at t max_text 1 0)) join 0 1 u
walks_start t join k j e =
    record {
      past = [];
      walk = walk_start t join 0 1 k j (omega arith) (omega arith);
      rest = rw (e, blocks_are t (length join) k (omega arith));
      gone = ap (past_of t) (walk_tries t join 0 1 k j);
    }

-- what is promised
abbrev pub Tells : List ℕ → answer.Variants → List Try → answer.Variants → List ℕ → Type 0
Tells join₀ R P r join = (r ≡ R) × (join ≡ join_behind join₀ P)

module _ {t join₀ : List ℕ} {R : answer.Variants} {P : List Try} {join : List ℕ} {at line : ℕ} {table : Table} (inv : Walks t join₀ R P join at line table) where
  pub walks_none : {join' : List ℕ} {p : answer.Variants} → WalkEnds t join₀ at line inv.past join' → p ≡ whole_table table → Tells join₀ R P p join'
  unfolding variants_from
  walks_none w q = (
    q ∙ sym (rw w.blocks at inv.rest),
    w.joins ∙ ap (join_behind join₀) (sym (inv.gone ∙ rw (past_none t (tries_at t (length join₀) line at) w.blocks))),
  )

  module _ {r : Next} {join' : List ℕ} (m : WalkMeets t join₀ at line inv.past r join') {h : Result (Option Setting) Refusal}
      (q : h ≡ heard_by (two t (slice 0 r.block.joined join')) r.block.set r.block.outcome) where
    abbrev here : Try
    here = try t (length join₀) (line + r.skipped) r.at

    abbrev upto : List Try
    upto = up_to_block (tries_at t (length join₀) line at)

    abbrev more : List Try
    more = tries_at t (length join₀) (line + r.skipped + r.block.lines) r.block.next

    heard_is : heard t here ≡ h
    unfolding heard
    heard_is = sym (q ∙ rw (m.joined, m.set, m.outcome))

    rest_is : R ≡ heard_then here h table (λ y. variants_from t y (only_blocks more))
    unfolding variants_from
    rest_is = rw (m.blocks, heard_is) at inv.rest

    gone_is : P ≡ inv.past ++ (upto ++ cond (is_stop h) [] (past_of t more))
    gone_is = rw heard_is at (inv.gone ∙ ap (λ (l : List Try). inv.past ++ l) (ap (past_of t) m.tries ∙ past_first t more (tries_at t (length join₀) line at) m.blocks))

    pub walks_refused : {p : answer.Variants} {w : Refusal} → h ≡ Err w → p ≡ no_table w (line + r.skipped) r.block.lines 0 → Tells join₀ R P p join'
    walks_refused y x = (x ∙ sym (rest_is ∙ rw (y, m.lines)), m.walk.joins ∙ ap (join_behind join₀) (sym (gone_is ∙ rw (y, append-nil upto))))

    onward : {u : Table} → is_stop h ≡ false → R ≡ variants_from t u (only_blocks more) → Walks t join₀ R P join' r.block.next (line + r.skipped + r.block.lines) u
    onward y x = record { past = inv.past ++ upto; walk = m.walk; rest = x; gone = gone_is ∙ rw (y, append_assoc inv.past) }

    pub walks_pass : h ≡ Ok None → Walks t join₀ R P join' r.block.next (line + r.skipped + r.block.lines) table
    walks_pass y = onward (rw y) (rest_is ∙ rw y)

    pub walks_set : {s : Setting} {u : Table} → h ≡ Ok (Some s) → u ≡ with_setting table s → Walks t join₀ R P join' r.block.next (line + r.skipped + r.block.lines) u
    walks_set y x = onward (rw y) (rest_is ∙ rw (y, x))

-- ---- the end of a sheet

pub whole_passed : (t : Table) {v : ℕ} → v ≡ first_pair t → v ≡ 0 → record { outcome = Ok tt; line = 0; lines = 0; variant = 0; table = t } ≡ whole_table t
unfolding whole_table
whole_passed t e z = rw (← e, z)

pub whole_pair : (t : Table) {v : ℕ} → v ≡ first_pair t → (v ≡ 0 → ⊥) → no_table SharedValve 0 0 v ≡ whole_table t
unfolding whole_table
whole_pair t {v} e n = rw (← e) (go v n)
  where
    go : (v : ℕ) → (v ≡ 0 → ⊥) → no_table SharedValve 0 0 v ≡ whole_by t v
    go zero n = absurd (n refl)
    go (suc v) n = refl
