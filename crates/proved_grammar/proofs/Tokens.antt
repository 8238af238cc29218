-- What a walker gives, token by token to its end, is the list of tokens that the reader reads.
-- Assumes nothing.
use Rattle.std.specs.Prelude.{Some}
use mathlib.Core.Path.{◌≡◌, refl, sym, ◌∙◌, ap}
use mathlib.Core.Bool.{Bool, true, false}
use mathlib.Core.List.{List, [], ◌∷◌}
use Prim.Native.Nat.{ℕ, zero, suc, ◌+◌, ◌<◌, ◌≤◌}
use native.Mathlib.Omega.{arith}
use lib.ListN.{length}
use denote.Ref.{Bor}
use Rattle.base_lists.proofs.More.{contra}
use Rattle.base_bytes.specs.declared.Mode.{Mode}
use Rattle.block_grammar.specs.Grammar.{Placed, Reading}
use Rattle.block_grammar.specs.Computed.{also, one_or_more, read_payload}
use Rattle.block_tokens.specs.declared.Token.{Token}
use Rattle.block_tokens.specs.declared.Token.TheVariants.{Bad}
use Rattle.block_next_token.specs.Walk.{is_bad, step_at, set_down, gone, shown_placed}
use Rattle.proved_grammar.specs.Tokens.{Gives, OneListGiven, TokenGoesOn, GivesRead, read_on, TokensReadAs, WalkerGives, ReadIsGiven, GivenIsRead, RefusedSticks, StuckIsRefused, PayloadIsGiven}
use Rattle.block_next_token.specs.declared.Step.{Step}
use Rattle.block_next_token.specs.declared.Walker.{Walker}
use Rattle.block_next_token.proofs.Steps.{found, is_end, Says, says, shown_not_bad}
use Rattle.block_next_token.proofs.Steps as steps

-- ---- a walker gives one list, and ends in one way
pub one_list : {w : Walker} {ts us : List Token} {g h : Bool} → OneListGiven w ts us g h
one_list (Gives.over e) (Gives.over f) = record { tokens = refl; ends = refl }
one_list (Gives.over e) (Gives.stuck k f) = contra true refl (ap is_end (sym e ∙ f))
one_list (Gives.over e) (Gives.more f n q) = contra true refl (ap is_end (sym e ∙ f))
one_list (Gives.stuck j e) (Gives.over f) = contra true refl (ap is_end (sym f ∙ e))
one_list (Gives.stuck j e) (Gives.stuck k f) = record { tokens = refl; ends = refl }
one_list (Gives.stuck j e) (Gives.more f n q) = contra true refl (sym (ap (λ z. is_bad (found (Bad j) z)) (sym f ∙ e)) ∙ n)
one_list (Gives.more e n p) (Gives.over f) = contra true refl (ap is_end (sym f ∙ e))
one_list (Gives.more e n p) (Gives.stuck k f) = contra true refl (sym (ap (λ z. is_bad (found (Bad k) z)) (sym e ∙ f)) ∙ n)
one_list (Gives.more e n p) (Gives.more f o q) =
    let w = one_list p q in
    record { tokens = cc (ap (found (Bad 0)) (sym e ∙ f), w.tokens); ends = w.ends }

-- ---- with each token it goes on
pub token_goes_on : TokenGoesOn
token_goes_on m s at fits t e n = let o = steps.onward m s at fits refl e n in record { ahead = o.ahead; within = o.within }

-- ---- .. and the list is the reader's

abbrev is_read : Reading → Bool
is_read Reading.refused = false
is_read (Reading.items is) = true

module _ (x : Bor (List ℕ)) (m : Mode) where
  abbrev walker : ℕ → Walker
  walker at = set_down x at m

  abbrev Steps : ℕ → Placed → ℕ → Type 0
  Steps at p e = step_at m x.now at ≡ record { ahead = Some (shown_placed p); at = e }

  onward : (at : ℕ) (p : Placed) (e : ℕ) {ts : List Token} {whole : Bool} → Steps at p e → Gives (walker e) ts whole → Gives (walker at) (shown_placed p ∷ ts) whole
  onward at p e {ts} {whole} q h = let g : Gives (gone (walker at)) ts whole = rw q h in Gives.more (ap (λ (y : Step). y.ahead) q) (shown_not_bad p) g

  before : (at : ℕ) (p : Placed) (e : ℕ) → Steps at p e → (r : Reading) → GivesRead (walker e) r → GivesRead (walker at) (also p r)
  before at p e q Reading.refused h = record { tokens = shown_placed p ∷ h.tokens; gives = onward at p e q h.gives }
  before at p e q (Reading.items is) h = onward at p e q h

  step_given : (at : ℕ) (y : Step) → step_at m x.now at ≡ y → Says m x.now at y
      → ((k : ℕ) → at < k → k ≤ length x.now → GivesRead (walker k) (read_on x m k)) → GivesRead (walker at) (read_on x m at)
  step_given at y e (Says.none q) later = rw q (Gives.over (ap (λ (z : Step). z.ahead) e))
  step_given at y e (Says.bad {n = n} q) later = rw q (record { tokens = []; gives = Gives.stuck n (ap (λ (z : Step). z.ahead) e) })
  step_given at y e (Says.one p k q ahead within) later = rw q (before at p k e (read_on x m k) (later k ahead within))

  given_from : (n at : ℕ) → at ≤ length x.now → length x.now < at + n → GivesRead (walker at) (read_on x m at)
  given_from zero at fits h = absurd (omega arith)
  given_from (suc n) at fits h = step_given at (step_at m x.now at) refl (says m x.now fits) (λ k ahead within. given_from n k within (omega arith))

pub given : WalkerGives
given x m at fits = given_from x m (suc (length x.now)) at fits (omega arith)

pub read_gives : (x : Bor (List ℕ)) (m : Mode) (at : ℕ) {is : List Placed} → ReadIsGiven x m at is
read_gives x m at fits e = rw e at (given x m at fits)

pub refused_sticks : RefusedSticks
refused_sticks x m at fits e = rw e at (given x m at fits)

pub gives_read : (x : Bor (List ℕ)) (m : Mode) (at : ℕ) {ts : List Token} → GivenIsRead x m at ts
gives_read x m at {ts} fits g = go (read_on x m at) refl (given x m at fits)
  where
    go : (r : Reading) → read_on x m at ≡ r → GivesRead (walker x m at) r → TokensReadAs x m at ts
    go Reading.refused e h = contra true refl (one_list g h.gives).ends
    go (Reading.items is) e h = record { items = is; read = e; shown = (one_list g h).tokens }

pub sticks_refused : (x : Bor (List ℕ)) (m : Mode) (at : ℕ) {ts : List Token} → StuckIsRefused x m at ts
sticks_refused x m at fits g = go (read_on x m at) (given x m at fits)
  where
    go : (r : Reading) → GivesRead (walker x m at) r → r ≡ Reading.refused
    go Reading.refused h = refl
    go (Reading.items is) h = contra true refl (one_list h g).ends

pub payload_gives : (x : Bor (List ℕ)) (m : Mode) (at : ℕ) {is : List Placed} → PayloadIsGiven x m at is
unfolding read_payload
payload_gives x m at {is} fits t end f e = read_gives x m at fits (go (read_on x m at) (rw (← f) at e))
  where
    go : (r : Reading) → one_or_more r ≡ Reading.items is → r ≡ Reading.items is
    go Reading.refused e = contra true refl (ap is_read (sym e))
    go (Reading.items []) e = contra true refl (ap is_read (sym e))
    go (Reading.items (p ∷ js)) e = e
