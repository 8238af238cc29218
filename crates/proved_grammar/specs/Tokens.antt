-- "a walker that holds the text and its place gives the next token": the tokens that it gives, call by call, are those that the reader reads.
use Rattle.std.specs.Prelude.{◌≡◌, Bool, true, false, List, [], ◌∷◌, map, ℕ, ◌<◌, ◌≤◌, length, take, drop, None, Some}
use Rattle.std.proofs.Math.Seq.{slice}
use Rattle.std.specs.Borrow.{Bor}
use Rattle.base_bytes.specs.declared.Mode.{Mode}
use Rattle.block_grammar.specs.Grammar.{Placed, Reading}
use Rattle.block_grammar.specs.Computed.{read_from, read_payload}
use Rattle.block_tokens.specs.declared.Token.{Token}
use Rattle.block_tokens.specs.declared.Token.TheVariants.{Bad}
use Rattle.block_next_token.specs.Walk.{is_bad, step_at, set_down, ahead_of, gone, shown_placed}
use Rattle.block_next_token.specs.declared.Walker.{Walker}

-- the tokens that a walker gives as it goes on, call by call, and whether it then stands at the text's end or before bytes that are no token
pub data Gives : Walker → List Token → Bool → Type 0 where
  over : {w : Walker} → ahead_of w ≡ None → Gives w [] true
  stuck : {w : Walker} (n : ℕ) → ahead_of w ≡ Some (Bad n) → Gives w [] false
  more : {w : Walker} {t : Token} {ts : List Token} {whole : Bool} → ahead_of w ≡ Some t → is_bad t ≡ false → Gives (gone w) ts whole → Gives w (t ∷ ts) whole

-- the same tokens, and the same end: the text's, or before bytes that are no token
pub record SameTokens (ts us : List Token) (g h : Bool) : Type 0 where
  pub tokens : ts ≡ us
  pub ends : g ≡ h

-- a walker gives one list of tokens, and ends in one way
abbrev pub OneListGiven : Walker → List Token → List Token → Bool → Bool → Type 0
OneListGiven w ts us g h = Gives w ts g → Gives w us h → SameTokens ts us g h

-- the step from `at` goes on, and stays within the text
pub record GoesOn (m : Mode) (s : List ℕ) (at : ℕ) : Type 0 where
  pub ahead : at < (step_at m s at).at
  pub within : (step_at m s at).at ≤ length s

-- with each token it goes on
abbrev pub TokenGoesOn : Type 0
TokenGoesOn = (m : Mode) (s : List ℕ) (at : ℕ) → at ≤ length s → (t : Token) → (step_at m s at).ahead ≡ Some t → is_bad t ≡ false → GoesOn m s at

-- it comes to bytes that are no token
pub record StuckAt (w : Walker) : Type 0 where
  pub tokens : List Token
  pub gives : Gives w tokens false

-- what it gives where the reader reads r: all its tokens, or those before the first bytes that are none
abbrev pub GivesRead : Walker → Reading → Type 0
GivesRead w Reading.refused = StuckAt w
GivesRead w (Reading.items is) = Gives w (map shown_placed is) true

-- what the reader reads from a place of a text on
abbrev pub read_on : Bor (List ℕ) → Mode → ℕ → Reading
read_on x m at = read_from m (drop at x.now) 0 at

-- a walker over the text x, set down at a place of it, gives what the reader reads from there on
abbrev pub WalkerGives : Type 0
WalkerGives = (x : Bor (List ℕ)) (m : Mode) (at : ℕ) → at ≤ length x.now → GivesRead (set_down x at m) (read_on x m at)

-- .. each way: what is read is given, ..
abbrev pub ReadIsGiven : Bor (List ℕ) → Mode → ℕ → List Placed → Type 0
ReadIsGiven x m at is = at ≤ length x.now → read_on x m at ≡ Reading.items is → Gives (set_down x at m) (map shown_placed is) true

-- the reader's items that are shown as ts
pub record TokensReadAs (x : Bor (List ℕ)) (m : Mode) (at : ℕ) (ts : List Token) : Type 0 where
  pub items : List Placed
  pub read : read_on x m at ≡ Reading.items items
  pub shown : ts ≡ map shown_placed items

-- .. what is given up to the text's end is read, ..
abbrev pub GivenIsRead : Bor (List ℕ) → Mode → ℕ → List Token → Type 0
GivenIsRead x m at ts = at ≤ length x.now → Gives (set_down x at m) ts true → TokensReadAs x m at ts

-- .. where the reader refuses, the walker gets stuck, ..
abbrev pub RefusedSticks : Type 0
RefusedSticks = (x : Bor (List ℕ)) (m : Mode) (at : ℕ) → at ≤ length x.now → read_on x m at ≡ Reading.refused → StuckAt (set_down x at m)

-- .. and only there
abbrev pub StuckIsRefused : Bor (List ℕ) → Mode → ℕ → List Token → Type 0
StuckIsRefused x m at ts = at ≤ length x.now → Gives (set_down x at m) ts false → read_on x m at ≡ Reading.refused

-- The payload from `at` up to `end` of a text t, as a set is filled from it: a walker over t's first bytes gives the items that are put into the set, by the
-- same places.
abbrev pub PayloadIsGiven : Bor (List ℕ) → Mode → ℕ → List Placed → Type 0
PayloadIsGiven x m at is = at ≤ length x.now → (t : List ℕ) (end : ℕ) → x.now ≡ take end t
    → read_payload m at (slice at end t) ≡ Reading.items is → Gives (set_down x at m) (map shown_placed is) true
