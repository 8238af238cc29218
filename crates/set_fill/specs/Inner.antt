-- What private functions promise as they walk over a payload: nothing that a reader of the public promises has to believe.
use Rattle.std.specs.Prelude.{ℕ, ◌+◌, ◌≤◌, ◌<◌, ◌≡◌, not, cond, List, [], ◌∷◌, ◌++◌, map, ltb, length, take, drop}
use Rattle.std.proofs.Math.Seq.{slice}
use Rattle.base_lists.specs.Lists.{run}
use Rattle.base_bytes.specs.declared.Mode.{Mode}
use Rattle.base_bytes.specs.Bytes.{is_space}
use Rattle.block_grammar.specs.Computed.{read_from}
use Rattle.block_grammar.specs.Grammar.{Reading}
use Rattle.block_grammar.specs.Meaning.{piece_ranges, or_whole}
use Rattle.block_chain.specs.Computed.{blocks_from}
use Rattle.base_refusals.specs.declared.Refusal.{Refusal}
use Rattle.base_refusals.specs.declared.Refusal.TheVariants.{NoReading, TooManyClasses, TooManyKeys}
use Rattle.set_table.specs.declared.Origin.TheVariants.{First}
use Rattle.set_table.specs.declared.Text.{Text}
use Rattle.set_table.specs.declared.Text.TheVariants as text
use Rattle.set_table.specs.Types.{Texts, max_classes}
use Rattle.set_table.specs.Rows.{Put, Rows, with_puts}
use Rattle.set_table.specs.Puts.{value_of, piece_of, by_name, puts_in}
use Rattle.set_fill.specs.declared.Kind.{Kind}
use Rattle.set_fill.specs.declared.Kind.TheVariants.{Plain, Quoted, Empty}
use Rattle.set_fill.specs.declared.Cursor.{Cursor}
use Rattle.set_fill.specs.declared.Push as pushes
use Rattle.set_fill.specs.declared.Push.TheVariants.{End, Bad, Id, Class, Key}
use Rattle.set_fill.specs.declared.Following as nexts
use Rattle.set_fill.specs.declared.Following.TheVariants.{Last, Unread, Closing}
use Rattle.set_table.specs.declared.Filled.{Filled}
use Rattle.set_table.specs.Filled.{refusing, limited}

-- what is still to be put
pub data Rest : Type 0 where
  refused : Rest
  puts : List Put → Rest

abbrev pub of_reading : Reading → Rest
of_reading Reading.refused = Rest.refused
of_reading (Reading.items is) = Rest.puts (puts_in is)

abbrev pub before : List Put → Rest → Rest
before ps Rest.refused = Rest.refused
before ps (Rest.puts qs) = Rest.puts (ps ++ qs)

-- the tokens from i on
abbrev pub tokens_from : Mode → List ℕ → ℕ → Rest
tokens_from m s i = of_reading (read_from m (drop i s) 0 i)

-- a range by the kind of value that it is of
abbrev pub kind_of : Kind → ℕ → ℕ → Text
kind_of Plain f e = text.Plain First f e
kind_of Quoted f e = text.Quoted First f e
kind_of Empty f e = text.Empty

-- ---- where a walk stands

-- the pieces of a class value that are still to come
abbrev pub pieces_of : List ℕ → Cursor → List Put
pieces_of s c = map (piece_of (kind_of c.kind)) (piece_ranges c.at c.at (slice c.at c.to s))

unfoldable pub rest_of : Mode → List ℕ → Cursor → Rest
rest_of m s c = before (pieces_of s c) (tokens_from m s c.next)

-- ---- in a line of blocks

-- one rest after the other: refused if either is
abbrev pub then_rest : Rest → Rest → Rest
then_rest Rest.refused r = Rest.refused
then_rest (Rest.puts ps) r = before ps r

-- the blocks of w from i on
abbrev pub blocks_rest : Mode → List ℕ → ℕ → Rest
blocks_rest m w i = of_reading (blocks_from m (drop i w) 0 i)

-- the walk stands in the block of w that closes at e
unfoldable pub chain_rest : Mode → List ℕ → ℕ → Cursor → Rest
chain_rest m w e c = then_rest (rest_of m (take e w) c) (blocks_rest m w (e + 1))

abbrev pub cursor_of : Kind → ℕ → ℕ → ℕ → Cursor
cursor_of k at to next = record { at = at; to = to; next = next; kind = k }

-- before the tokens from i on: no pieces come first
abbrev pub tokens_at : ℕ → Cursor
tokens_at i = cursor_of Plain i i i

-- a cursor lies in the text
pub record InText (s : List ℕ) (c : Cursor) : Type 0 where
  pub at : c.at ≤ c.to
  pub to : c.to ≤ c.next
  pub next : c.next ≤ length s

-- ---- which block comes next: none, one that can't be read, or the one that closes at e
abbrev pub OpensNext : Mode → List ℕ → ℕ → nexts.Following → Type 0
OpensNext m w i Last = length w ≤ i
OpensNext m w i Unread = blocks_rest m w i ≡ Rest.refused
OpensNext m w i (Closing e) = (i < e) × (e < length w) × (blocks_rest m w i ≡ chain_rest m w e (tokens_at (i + 1)))

pub record Opened (m : Mode) (w : List ℕ) (i : ℕ) (n : nexts.Following) : Type 0 where
  pub told : OpensNext m w i n

-- ---- what is put next

-- p is put, and c is where the walk goes on, further than i
pub record PutsNext (m : Mode) (s : List ℕ) (i : ℕ) (r : Rest) (p : Put) (c : Cursor) : Type 0 where
  pub is : r ≡ before (p ∷ []) (rest_of m s c)
  pub ahead : i < c.at
  pub inside : InText s c

abbrev pub PushTells : Mode → List ℕ → ℕ → Rest → pushes.Push → Type 0
PushTells m s i r End = r ≡ Rest.puts []
PushTells m s i r Bad = r ≡ Rest.refused
PushTells m s i r (Id v c) = PutsNext m s i r (Put.ident v) c
PushTells m s i r (Class v c) = PutsNext m s i r (Put.class v) c
PushTells m s i r (Key n v c) = PutsNext m s i r (Put.key n v) c

-- the push p says how r goes on, behind i
pub record Yields (m : Mode) (s : List ℕ) (i : ℕ) (r : Rest) (p : pushes.Push) : Type 0 where
  pub told : PushTells m s i r p

-- a piece that begins at `from`
abbrev pub piece_end : List ℕ → ℕ → Cursor → ℕ
piece_end s from c = from + run (λ b. not (is_space b)) (slice from c.to s)

abbrev pub piece_from : List ℕ → ℕ → Cursor → pushes.Push
piece_from s from c = Class (value_of (kind_of c.kind from (piece_end s from c))) (cursor_of c.kind (piece_end s from c) c.to c.next)

-- what the value where c stands puts as classes
abbrev pub classes_in : List ℕ → Cursor → List Put
classes_in s c = or_whole (Put.class (value_of (kind_of c.kind c.at c.to))) (pieces_of s c)

abbrev pub class_rest : Mode → List ℕ → Cursor → Rest
class_rest m s c = before (classes_in s c) (tokens_from m s c.next)

-- what it puts under the name from f up to k
abbrev pub named_rest : Mode → List ℕ → ℕ → ℕ → Cursor → Rest
named_rest m s f k c = before (by_name f (slice f k s) (kind_of c.kind c.at c.to) (classes_in s c)) (tokens_from m s c.next)

-- ---- the set of the rows so far and what is still to be put
unfoldable pub filled_from : Texts → Rows → Rest → Filled
filled_from t s Rest.refused = refusing NoReading
filled_from t s (Rest.puts ps) = limited (with_puts t s ps)

-- with so many classes a limit is passed: which refusal it comes to
abbrev pub over_by : ℕ → Refusal
over_by n = cond (ltb max_classes n) TooManyClasses TooManyKeys

abbrev pub counted_put : Put → ℕ → ℕ
counted_put (Put.class v) n = n + 1
counted_put (Put.ident v) n = n
counted_put (Put.key k v) n = n

unfoldable pub count_from : ℕ → List Put → ℕ
count_from n [] = n
count_from n (p ∷ ps) = count_from (counted_put p n) ps

-- a limit is passed already, with n classes so far
unfoldable pub over_of : ℕ → Rest → Refusal
over_of n Rest.refused = NoReading
over_of n (Rest.puts ps) = over_by (count_from n ps)
