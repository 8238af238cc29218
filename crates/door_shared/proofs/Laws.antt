-- Numbers told one after the other, and a set written and told.
-- Assumes nothing.
use Rattle.std.specs.Prelude.{Err, Ok, Result}
use mathlib.Core.Path.{◌≡◌, refl, sym, ap, ◌∙◌}
use mathlib.Core.List.{List, [], ◌∷◌, ◌++◌}
use Prim.Native.Nat.{ℕ, zero, suc, ◌+◌, ◌≤◌, ◌<◌}
use native.Mathlib.Numerals.{add-one}
use native.Mathlib.Omega.{arith}
use lib.ListN.{length, get_or, set, take, length-set}
use lib.Seq.{length-take-le, take_all, take-suc}
use Rattle.base_refusals.specs.Numbers.{outcome_no}
use Rattle.base_refusals.specs.Orders.{in_order, on_paper, order_no, met}
use Rattle.set_canon.specs.Canon.{canon}
use Rattle.set_table.specs.Types.{Texts}
use Rattle.set_table.specs.Rows.{meaning_of}
use Rattle.set_table.specs.declared.Attrs.{Attrs}
use Rattle.set_writer.specs.Write.{wrote_paper, room_order, wrote_of, content_after, or_refused}
use Rattle.text_checks.specs.Outcomes.{or_else, or_left}
use Rattle.set_writer.proofs.Numbers.{set_no}
use Rattle.door_shared.specs.Tells.{told_in, len_of, outcome_of, Said, set_said}
use Rattle.base_refusals.specs.declared.Refusal.{Refusal}

-- ---- telling

pub told_none : (buf : List ℕ) → told_in buf [] ≡ buf
unfolding told_in
told_none [] = refl
told_none (b ∷ buf) = refl

pub told_more : (buf xs : List ℕ) (x : ℕ) → set (told_in buf xs) (length xs) x ≡ told_in buf (xs ++ (x ∷ []))
unfolding told_in
told_more [] xs x = refl
told_more (b ∷ buf) [] x = ap (λ l. x ∷ l) (sym (told_none buf))
told_more (b ∷ buf) (y ∷ ys) x = ap (λ l. y ∷ l) (told_more buf ys x)

-- numbers for which there is no room are not told
told_full : (buf xs : List ℕ) (n : ℕ) → length buf ≤ n → told_in buf (take n xs) ≡ told_in buf xs
unfolding told_in
told_full [] xs n h = refl
told_full (b ∷ buf) xs zero h = absurd (omega arith)
told_full (b ∷ buf) [] (suc n) h = refl
told_full (b ∷ buf) (x ∷ xs) (suc n) h = ap (λ l. x ∷ l) (told_full buf xs n (omega arith))

-- ---- a loop that tells the numbers xs: i of them stand in the lent memory, which was `buf`

pub record Laid (xs buf out : List ℕ) (i : ℕ) : Type 0 where
  pub within : i ≤ length xs
  pub size : length out ≡ length buf
  pub front : out ≡ told_in buf (take i xs)

pub laid_start : (xs buf : List ℕ) → Laid xs buf buf 0
laid_start xs buf = record { within = omega arith; size = refl; front = sym (told_none buf) }

module _ {xs buf out : List ℕ} {i : ℕ} (inv : Laid xs buf out i) where
  pub laid_go : (d : ℕ) {x : ℕ} → i < length xs → x ≡ get_or xs i d → Laid xs buf (set out i x) (i + 1)
  laid_go d {x} h e =
      let front : length (take i xs) ≡ i = length-take-le i xs (omega arith) in
      let next : take (i + 1) xs ≡ take i xs ++ (x ∷ []) = rw (add-one, e) (take-suc xs i d h) in
      record {
        within = omega arith;
        size = length-set out i x ∙ inv.size;
        front = rw next (ap (λ l. set l i x) inv.front ∙ rw front at (told_more buf (take i xs) x));
      }

  pub laid_end : length xs ≤ i → out ≡ told_in buf xs
  laid_end h = inv.front ∙ ap (told_in buf) (take_all i xs (omega arith))

  pub laid_full : length out ≤ i → out ≡ told_in buf xs
  laid_full h = inv.front ∙ told_full buf xs i (omega (arith, inv.size))

-- ---- numbers told by their index

behind : (buf xs : List ℕ) (x : ℕ) {t u : List ℕ} → t ≡ told_in buf xs → u ≡ set t (length xs) x → u ≡ told_in buf (xs ++ (x ∷ []))
behind buf xs x {t} {u} e f = f ∙ ap (λ l. set l (length xs) x) e ∙ told_more buf xs x

pub told_1 : (buf : List ℕ) (a : ℕ) {t : List ℕ} → t ≡ set buf 0 a → t ≡ told_in buf (a ∷ [])
told_1 buf a p = behind buf [] a (sym (told_none buf)) p

pub told_2 : (buf : List ℕ) (a b : ℕ) {t u : List ℕ} → t ≡ set buf 0 a → u ≡ set t 1 b → u ≡ told_in buf (a ∷ b ∷ [])
told_2 buf a b p q = behind buf (a ∷ []) b (told_1 buf a p) q

pub told_3 : (buf : List ℕ) (a b c : ℕ) {t u v : List ℕ} → t ≡ set buf 0 a → u ≡ set t 1 b → v ≡ set u 2 c → v ≡ told_in buf (a ∷ b ∷ c ∷ [])
told_3 buf a b c p q r = behind buf (a ∷ b ∷ []) c (told_2 buf a b p q) r

pub told_4 : (buf : List ℕ) (a b c d : ℕ) {t u v w : List ℕ} → t ≡ set buf 0 a → u ≡ set t 1 b → v ≡ set u 2 c → w ≡ set v 3 d → w ≡ told_in buf (a ∷ b ∷ c ∷ d ∷ [])
told_4 buf a b c d p q r s = behind buf (a ∷ b ∷ c ∷ []) d (told_3 buf a b c p q r) s

pub told_5 : (buf : List ℕ) (a b c d e : ℕ) {t u v w x : List ℕ} → t ≡ set buf 0 a → u ≡ set t 1 b → v ≡ set u 2 c → w ≡ set v 3 d → x ≡ set w 4 e → x ≡ told_in buf (a ∷ b ∷ c ∷ d ∷ e ∷ [])
told_5 buf a b c d e p q r s z = behind buf (a ∷ b ∷ c ∷ d ∷ []) e (told_4 buf a b c d p q r s) z

-- ---- a set written and told

-- What writing and telling came to, with the number r, `o` in the memory lent for canonical text and `v` in that for numbers: the set a over the texts t was written
-- unless c refused it, and its length is one of the numbers told.
pub record Came (buf told : List ℕ) (c : Result (Unit {0}) Refusal) (t : Texts) (a : Attrs) (tell : ℕ → List ℕ) (r : ℕ) (o v : List ℕ) : Type 0 where
  pub wrote : Result ℕ Refusal
  pub len : ℕ
  pub writes : wrote ≡ or_refused c (wrote_of (canon (meaning_of t a)) (length buf))
  pub out : o ≡ or_left c buf (content_after buf (canon (meaning_of t a)))
  pub counts : len ≡ len_of wrote
  pub tells : v ≡ told_in told (tell len)
  pub number : r ≡ (wrote_paper wrote).number

-- by what `write_out` promises, and the length and the number of its answer
abbrev pub came : {buf told : List ℕ} {c : Result (Unit {0}) Refusal} {t : Texts} {a : Attrs} {tell : ℕ → List ℕ} {r : ℕ} {o v : List ℕ} {w : Result ℕ Refusal} {n : ℕ} {A : Type 0}
    → record { value : w ≡ or_refused c (wrote_of (canon (meaning_of t a)) (length buf)); out_after : o ≡ or_left c buf (content_after buf (canon (meaning_of t a))); result_value : A }
    → n ≡ len_of w → v ≡ told_in told (tell n) → r ≡ (wrote_paper w).number → Came buf told c t a tell r o v
came {w = w} {n = n} p e f g = record { wrote = w; len = n; writes = p.value; out = p.out_after; counts = e; tells = f; number = g }

module _ (buf told : List ℕ) where
  -- an answer as it is promised
  abbrev pub Says : Said → ℕ → List ℕ → List ℕ → Type 0
  Says s r o v = record { value : r ≡ s.number; out_after : o ≡ s.out; told_after : v ≡ told_in told s.told }

  -- it is that of the definition, whose outcome and texts are d and u
  pub set-said : {a : Attrs} {tell : ℕ → List ℕ} {c d : Result (Unit {0}) Refusal} {t u : Texts} {r : ℕ} {o v : List ℕ} → c ≡ d → t ≡ u → Came buf told c t a tell r o v → Says (set_said d u a buf tell) r o v
  set-said {tell = tell} e f k =
      rw (← e, ← f) (record { value = k.number ∙ ap (λ x. (wrote_paper x).number) k.writes; out_after = k.out; told_after = k.tells ∙ ap (λ i. told_in told (tell i)) (k.counts ∙ ap len_of k.writes) })

-- the number of what is written out: what is refused already, then 10
pub out_no : (c : Result (Unit {0}) Refusal) (xs : List ℕ) (size : ℕ) → wrote_paper (or_refused c (wrote_of xs size)) ≡ on_paper (met c ++ room_order xs size) (length xs ∷ [])
unfolding in_order on_paper
out_no (Err r) xs size = refl
out_no (Ok _) xs size = set_no xs size

-- ---- the numbers of checks

-- of two checks: the first's, else the second's
pub first_no : (a b : Result (Unit {0}) Refusal) → outcome_no (or_else a b) ≡ order_no (met a ++ met b)
unfolding in_order order_no
first_no (Err r) b = refl
first_no (Ok _) (Err r) = refl
first_no (Ok _) (Ok _) = refl

-- of what the writer refuses: that of its answer
pub wrote_no : (w : Result ℕ Refusal) → outcome_no (outcome_of w) ≡ (wrote_paper w).number
wrote_no (Err r) = refl
wrote_no (Ok n) = refl
