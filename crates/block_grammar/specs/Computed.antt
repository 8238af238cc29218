-- A payload read by computing: token by token, recursion on the list; what a token took is then skipped. The rules are Grammar; the two are proved to agree
-- (proved_grammar/specs/Payload).
use Rattle.std.specs.Prelude.{Bool, true, false, cond, ◌&&◌, List, [], ◌∷◌, ◌++◌, ℕ, zero, suc, eqb, length, take, drop}
use Rattle.base_lists.specs.Lists.{run}
use Rattle.base_bytes.specs.declared.Mode.{Mode}
use Rattle.base_bytes.specs.Bytes.{is_blank, is_name_part, is_quote, is_plain, backslash, colon, dot, equals, hash}
use Rattle.text_names.specs.Names.{is_name, is_key, is_bare_name}
use Rattle.text_names.specs.Computed.{is_language}
use Rattle.block_grammar.specs.Grammar.{Item, Placed, is_value, Reading}

-- the token at the front of a list
pub data First : Type 0 where
  none : First
  token : Item → First

-- ---- one token

-- "After the closing quote comes a blank or the end.", and behind every other token too
unfoldable pub ends : Mode → List ℕ → Bool
ends m [] = true
ends m (b ∷ s) = is_blank m b

unfoldable pub finish : Mode → Bool → Item → List ℕ → First
finish m good i rest = cond (good && ends m rest) (First.token i) First.none

-- the first n bytes, if they pass the test
abbrev pub front_token : Mode → ℕ → (List ℕ → Bool) → (List ℕ → Item) → List ℕ → First
front_token m n test item s = finish m (test (take n s)) (item (take n s)) (drop n s)

-- behind `:`, `#` and `.`: the longest run of name bytes
abbrev pub word_token : Mode → (List ℕ → Bool) → (List ℕ → Item) → List ℕ → First
word_token m test item s = front_token m (run is_name_part s) test item s

-- where a quote closes: behind so many bytes, or never
pub data Shut : Type 0 where
  never : Shut
  after : ℕ → Shut

abbrev pub later : Shut → Shut
later Shut.never = Shut.never
later (Shut.after n) = Shut.after (suc n)

-- whether a backslash stands just before, whether the byte is the quote, and whether it is a backslash
abbrev pub shut_step : Bool → Bool → Bool → (Bool → Shut) → Shut
shut_step true isq isb rest = later (rest false)
shut_step false true isb rest = Shut.after 0
shut_step false false isb rest = later (rest isb)

unfoldable pub shut_of : ℕ → List ℕ → Bool → Shut
shut_of q [] escaped = Shut.never
shut_of q (b ∷ s) escaped = shut_step escaped (eqb b q) (eqb b backslash) (λ e. shut_of q s e)

abbrev pub quoted_token : Mode → List ℕ → ℕ → List ℕ → Shut → First
quoted_token m k q s Shut.never = First.none
quoted_token m k q s (Shut.after n) = finish m true (Item.quoted k q (take n s)) (drop (suc n) s)

abbrev pub plain_token : Mode → List ℕ → List ℕ → First
plain_token m k s = front_token m (run is_plain s) is_value (λ v. Item.plain k v) s

-- the value behind `k=`
unfoldable pub value_token : Mode → List ℕ → List ℕ → First
value_token m k [] = First.none
value_token m k (q ∷ s) = cond (is_quote q) (quoted_token m k q s (shut_of q s false)) (plain_token m k (q ∷ s))

-- behind the longest run k of name bytes
unfoldable pub after_name : Mode → List ℕ → List ℕ → First
after_name m k [] = finish m (is_bare_name k) (Item.bare k) []
after_name m k (b ∷ s) = cond (eqb b equals) (cond (is_key k) (value_token m k s) First.none) (finish m (is_bare_name k) (Item.bare k) (b ∷ s))

abbrev pub name_token : Mode → List ℕ → First
name_token m s = after_name m (take (run is_name_part s) s) (drop (run is_name_part s) s)

unfoldable pub token_of : Mode → List ℕ → First
token_of m [] = First.none
token_of m (b ∷ s) =
    cond (eqb b colon) (word_token m is_language (λ t. Item.tag t) s)
    (cond (eqb b hash) (word_token m is_name (λ n. Item.id n) s)
    (cond (eqb b dot) (word_token m is_name (λ n. Item.class n) s)
    (name_token m (b ∷ s))))

-- ---- the payload

-- the text of an item
unfoldable pub text : Item → List ℕ
text (Item.tag t) = colon ∷ t
text (Item.id n) = hash ∷ n
text (Item.class n) = dot ∷ n
text (Item.plain k v) = k ++ (equals ∷ v)
text (Item.quoted k q v) = k ++ (equals ∷ (q ∷ (v ++ (q ∷ []))))
text (Item.bare n) = n

-- how many bytes of a token follow its first one
abbrev pub tail_of : List ℕ → ℕ
tail_of [] = 0
tail_of (a ∷ s) = length s

abbrev pub also : Placed → Reading → Reading
also p Reading.refused = Reading.refused
also p (Reading.items is) = Reading.items (p ∷ is)

-- at a byte that may be a blank, and that stands at `at`; the rest is read once it is known how many of its bytes the token took
abbrev pub turn : Bool → ℕ → First → (ℕ → Reading) → Reading
turn true at t rest = rest 0
turn false at First.none rest = Reading.refused
turn false at (First.token i) rest = also (record { at = at; item = i }) (rest (tail_of (text i)))

-- the list's first byte stands at `at`, and k bytes of the list belong to a token already read
unfoldable pub read_from : Mode → List ℕ → ℕ → ℕ → Reading
read_from m [] k at = Reading.items []
read_from m (b ∷ s) zero at = turn (is_blank m b) at (token_of m (b ∷ s)) (λ n. read_from m s n (suc at))
read_from m (b ∷ s) (suc k) at = read_from m s k (suc at)

-- "one or more tokens"
abbrev pub one_or_more : Reading → Reading
one_or_more Reading.refused = Reading.refused
one_or_more (Reading.items []) = Reading.refused
one_or_more (Reading.items (p ∷ is)) = Reading.items (p ∷ is)

unfoldable pub read_payload : Mode → ℕ → List ℕ → Reading
read_payload m at s = one_or_more (read_from m s 0 at)
