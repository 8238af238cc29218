-- What private functions promise as the walk goes: nothing that a reader of the public promises has to believe.
use Rattle.std.specs.Prelude.{ℕ, suc, ◌+◌, ◌-◌, ◌<◌, ◌≤◌, ◌≡◌, Bool, true, false, not, cond, ◌&&◌, List, [], ◌∷◌, map, eqb, leb, ltb, length, take, drop, None, Option, Some, Err, Ok, Result}
use Rattle.std.proofs.Math.Seq.{slice}
use Rattle.base_lists.specs.Lists.{is_in, run}
use Rattle.base_bytes.specs.declared.Mode.{Mode}
use Rattle.base_bytes.specs.Bytes.{is_blank, is_space, apostrophe, backslash, close_brace, hyphen, lf, quote}
use Rattle.base_refusals.specs.declared.Refusal.TheVariants.{NotUtf8, NoClose, NoReading, TooManyClasses, TooManyKeys, BadTag}
use Rattle.text_utf8.specs.Computed.{is_utf8}
use Rattle.text_names.specs.Computed.{tag_passes}
use Rattle.text_langtags.specs.Computed.{is_allowed}
use Rattle.block_grammar.specs.Computed.{shut_of, read_payload}
use Rattle.block_grammar.specs.ComputedClose.{find_close}
use Rattle.block_places.specs.Computed.{Spot, walk_passes, payload_place}
use Rattle.block_tokens.specs.declared.Token as tokens
use Rattle.block_tokens.specs.declared.Token.TheVariants as token
use Rattle.block_tokens.specs.Shown.{token_at}
use Rattle.block_tokens.specs.Inner.{shut_at}
use Rattle.block_close.specs.Inner.{Shuts}
use Rattle.set_table.specs.declared.Attrs.{Attrs}
use Rattle.set_table.specs.declared.Filled.{Filled}
use Rattle.set_table.specs.declared.Name.{Name}
use Rattle.set_table.specs.declared.Name.TheVariants as name
use Rattle.set_table.specs.declared.Origin.TheVariants.{First}
use Rattle.set_table.specs.declared.Value.{Value}
use Rattle.set_table.specs.Types.{Texts, one, empty_set, text_bytes, max_classes, max_keys}
use Rattle.set_table.specs.declared.Text.{Text}
use Rattle.set_table.specs.declared.Text.TheVariants as text
use Rattle.set_table.specs.Rows.{Rows, Put}
use Rattle.set_table.specs.Puts.{value_of, piece_of, by_name}
use Rattle.block_grammar.specs.Meaning.{piece_ranges, or_whole}
use Rattle.set_table.specs.Filled.{refusing}
use Rattle.set_table.specs.Inner.{Holds}
use Rattle.set_fill.specs.Fill.{filled_of}
use Rattle.set_fill.specs.Inner.{Rest, before, tokens_from, filled_from}
use Rattle.read_brace.specs.Brace.{payload_of, read_to, refusing_read}
use Rattle.read_brace.specs.declared.NotRead.{NotRead}
use Rattle.read_brace.specs.declared.NotRead.TheVariants.{Refused, Unread}
use Rattle.read_brace.specs.declared.Read.{Read}
use Rattle.read_tags.specs.Tagged.{passed_by, tag_to}
use Rattle.read_tags.specs.Inner.{passes_with, passes_from}
use Rattle.read_tags.specs.declared.Tags.{Tags}
use Rattle.read_tags.specs.declared.Tags.TheVariants.{Any, WellFormed}
use Rattle.read_once.specs.declared.Sort as sorts
use Rattle.read_once.specs.declared.Sort.TheVariants as sort
use Rattle.read_once.specs.declared.Seen.{Seen}
use Rattle.read_once.specs.declared.TagStop.{TagStop}
use Rattle.read_once.specs.declared.Kind as kinds
use Rattle.read_once.specs.declared.Kind.TheVariants as kind
use Rattle.read_once.specs.declared.Span.{Span}
use Rattle.read_once.specs.declared.Code as codes
use Rattle.read_once.specs.declared.Code.TheVariants as code
use Rattle.read_once.specs.declared.Moved.{Moved}

-- ======== part 1: what stands at a place, where the close isn't known yet

-- a blank that is no LF
unfoldable pub is_gap : Mode → ℕ → Bool
is_gap m b = not (eqb b lf) && is_blank m b

-- the bytes that the search for the close looks at
abbrev pub specials : List ℕ
specials = quote ∷ apostrophe ∷ backslash ∷ close_brace ∷ lf ∷ []

-- a byte that leaves it where it is
unfoldable pub is_calm : ℕ → Bool
is_calm b = not (is_in specials b)

-- r, where the quote q closes from i on, or none if an LF or the text's end comes first
pub record QuoteEnds (t : List ℕ) (q i : ℕ) (r : Option ℕ) : Type 0 where
  pub shuts : Shuts t q i r
  pub found : (e : ℕ) → r ≡ Some e → Some e ≡ shut_at i (shut_of q (drop i t) false)

-- how many bytes the last subtag has where a tag stops, with k of the present one read before
unfoldable pub tag_size : (ℕ → Bool) → List ℕ → ℕ → ℕ
tag_size f [] k = k
tag_size f (a ∷ s) k = cond (f a) (cond (ltb k 8) (tag_size f s (suc k)) k) (cond (leb 1 k && eqb a hyphen) (tag_size f s 0) k)

-- where the tag from i on stops, and the size of its last subtag there
abbrev pub tag_stop : (ℕ → Bool) → List ℕ → ℕ → TagStop
tag_stop f s i = record { end = i + tag_passes f (drop i s) 0; size = tag_size f (drop i s) 0 }

-- a tag from a on may end at e
abbrev pub tag_ends : ℕ → ℕ → ℕ → Bool
tag_ends a e size = cond (eqb a e) true (ltb 0 size)

-- the token that is seen
abbrev pub token_by : sorts.Sort → ℕ → ℕ → ℕ → tokens.Token
token_by sort.Close f k e = token.Bad e
token_by sort.Wrong f k e = token.Bad e
token_by sort.Tag f k e = token.Tag f e
token_by sort.Id f k e = token.Id f e
token_by sort.Class f k e = token.Class f e
token_by sort.Plain f k e = token.Plain f k e
token_by sort.Quoted f k e = token.Quoted f k e
token_by sort.Bare f k e = token.Bare f e

-- it by the record that says so
abbrev pub token_seen : Seen → tokens.Token
token_seen r = token_by r.sort r.name r.key r.end

-- a token, and neither the close nor wrong bytes
abbrev pub is_token : sorts.Sort → Bool
is_token sort.Close = false
is_token sort.Wrong = false
is_token sort.Tag = true
is_token sort.Id = true
is_token sort.Class = true
is_token sort.Plain = true
is_token sort.Quoted = true
is_token sort.Bare = true

-- the close
abbrev pub is_closing : sorts.Sort → Bool
is_closing sort.Close = true
is_closing sort.Wrong = false
is_closing sort.Tag = false
is_closing sort.Id = false
is_closing sort.Class = false
is_closing sort.Plain = false
is_closing sort.Quoted = false
is_closing sort.Bare = false

-- the record of what is seen
abbrev pub seen_of : sorts.Sort → ℕ → ℕ → ℕ → Seen
seen_of x f k e = record { sort = x; name = f; key = k; end = e }

-- what is seen from a on, where `tok` says by the place of the close which token it is: the search for the close goes on where it ends
pub record Looks (t : List ℕ) (a : ℕ) (tok : ℕ → tokens.Token) (r : Seen) : Type 0 where
  pub from : a ≤ r.end
  pub within : r.end ≤ length t
  pub close : find_close t r.end ≡ find_close t a
  pub each : (c : ℕ) → find_close t a ≡ Some c → token_seen r ≡ tok c

-- the places of a token whose first byte stands at i
abbrev pub SpansBy : ℕ → sorts.Sort → ℕ → ℕ → ℕ → Type 0
SpansBy i sort.Close f k e = Unit {0}
SpansBy i sort.Wrong f k e = Unit {0}
SpansBy i sort.Tag f k e = (f ≡ i + 1) × (f ≤ e) × (k ≡ e)
SpansBy i sort.Id f k e = (f ≡ i + 1) × (f ≤ e) × (k ≡ e)
SpansBy i sort.Class f k e = (f ≡ i + 1) × (f ≤ e) × (k ≡ e)
SpansBy i sort.Plain f k e = (f ≡ i) × (f ≤ k) × (k + 1 ≤ e)
SpansBy i sort.Quoted f k e = (f ≡ i) × (f ≤ k) × (k + 3 ≤ e)
SpansBy i sort.Bare f k e = (f ≡ i) × (f < e)

-- the places of what is seen
abbrev pub Spans : ℕ → Seen → Type 0
Spans i r = SpansBy i r.sort r.name r.key r.end

-- what is seen from a on of a token whose first byte stands at i, where it can't be the close
pub record Sees (t : List ℕ) (i a : ℕ) (tok : ℕ → tokens.Token) (r : Seen) : Type 0 where
  pub looks : Looks t a tok r
  pub other : is_closing r.sort ≡ false
  pub spans : Spans i r

-- what is seen at i, where a token may begin
pub record Found (m : Mode) (t : List ℕ) (i : ℕ) (r : Seen) : Type 0 where
  pub looks : Looks t i (λ c. token_at m (take c t) i) r
  pub ahead : is_token r.sort ≡ true → i < r.end
  pub spans : Spans i r
  pub closes : is_closing r.sort ≡ true → (r.end ≡ i) × (find_close t i ≡ Some i)
  pub still : is_closing r.sort ≡ false → (c : ℕ) → find_close t i ≡ Some c → i < c

-- ======== part 2: what is put next

-- a range of the text by the kind of value that it is of
abbrev pub kind_text : kinds.Kind → ℕ → ℕ → Text
kind_text kind.Plain f e = text.Plain First f e
kind_text kind.Quoted f e = text.Quoted First f e
kind_text kind.Empty f e = text.Empty

-- the value that it makes
abbrev pub value_in : kinds.Kind → ℕ → ℕ → Value
value_in k from to = value_of (kind_text k from to)

-- the pieces of a class value
abbrev pub pieces_in : List ℕ → kinds.Kind → ℕ → ℕ → List Put
pieces_in t k at to = map (piece_of (kind_text k)) (piece_ranges at at (slice at to t))

-- what a class value puts: a value without a piece is a class as a whole
abbrev pub classes_in : List ℕ → kinds.Kind → ℕ → ℕ → List Put
classes_in t k at to = or_whole (Put.class (value_in k at to)) (pieces_in t k at to)

-- what a value puts under the name from f up to e
abbrev pub named_puts : List ℕ → ℕ → ℕ → kinds.Kind → ℕ → ℕ → List Put
named_puts t f e k at to = by_name f (slice f e t) (kind_text k at to) (classes_in t k at to)

-- the walk stands before the pieces of a class value from `at` up to `to`, and then the tokens from `next` on
pub record Stands (t : List ℕ) (at to next : ℕ) : Type 0 where
  pub low : at ≤ to
  pub mid : to ≤ next
  pub high : next ≤ length t

-- what is still to be put, if the payload ends with s
unfoldable pub rest_at : Mode → List ℕ → List ℕ → kinds.Kind → ℕ → ℕ → ℕ → Rest
rest_at m t s k at to next = before (pieces_in t k at to) (tokens_from m s next)

-- the name of a key: `:` gives the fixed one
abbrev pub name_by : codes.Code → ℕ → ℕ → Name
name_by code.Close f k = name.Range First f k
name_by code.Wrong f k = name.Range First f k
name_by code.Id f k = name.Range First f k
name_by code.Class f k = name.Range First f k
name_by code.Key f k = name.Range First f k
name_by code.Lang f k = name.Range First f k
name_by code.Tag f k = name.Lang

-- what is put by a code that puts something
abbrev pub put_by : codes.Code → Name → Value → Put
put_by code.Close n v = Put.ident v
put_by code.Wrong n v = Put.ident v
put_by code.Id n v = Put.ident v
put_by code.Class n v = Put.class v
put_by code.Key n v = Put.key n v
put_by code.Lang n v = Put.key n v
put_by code.Tag n v = Put.key n v

-- what a move puts
abbrev pub put_of : Moved → Put
put_of r = put_by r.code (name_by r.code r.name r.key) (value_in r.kind r.from r.to)

-- a code that puts something
abbrev pub is_put : codes.Code → Bool
is_put code.Close = false
is_put code.Wrong = false
is_put code.Id = true
is_put code.Class = true
is_put code.Key = true
is_put code.Lang = true
is_put code.Tag = true

-- ---- the value of `lang`
abbrev pub span_bytes : List ℕ → kinds.Kind → ℕ → ℕ → List ℕ
span_bytes t k from to = text_bytes (one t) (kind_text k from to)

-- which code says it
abbrev pub lang_by : codes.Code → List ℕ → List (List ℕ)
lang_by code.Close v = []
lang_by code.Wrong v = []
lang_by code.Id v = []
lang_by code.Class v = []
lang_by code.Key v = []
lang_by code.Lang v = v ∷ []
lang_by code.Tag v = v ∷ []

-- what is said of it now
abbrev pub lang_said : List ℕ → Moved → List (List ℕ)
lang_said t r = lang_by r.code (span_bytes t r.kind r.from r.to)

-- the last value passes
abbrev pub span_allowed : List ℕ → Span → Bool
span_allowed t l = is_allowed (span_bytes t l.kind l.from l.to)

-- it is asked of a strict reading alone
abbrev pub asked : Tags → List ℕ → Span → Bool
asked Any t l = true
asked WellFormed t l = span_allowed t l

-- ---- a move
-- nothing is put
abbrev pub stop_move : codes.Code → ℕ → Moved
stop_move c n = record { code = c; kind = kind.Plain; name = n; key = n; from = n; to = n; at = n; end = n; next = n }

-- one value is put, and no pieces follow
abbrev pub put_move : codes.Code → ℕ → ℕ → kinds.Kind → ℕ → ℕ → ℕ → Moved
put_move c f k x from to n = record { code = c; kind = x; name = f; key = k; from = from; to = to; at = n; end = n; next = n }

-- behind the piece that begins at `from`
abbrev pub piece_stop : List ℕ → ℕ → ℕ → ℕ
piece_stop t from to = from + run (λ b. not (is_space b)) (slice from to t)

-- the piece is put, and the others follow
abbrev pub piece_move : List ℕ → ℕ → kinds.Kind → ℕ → ℕ → Moved
piece_move t from k to n =
    record { code = code.Class; kind = k; name = from; key = from; from = from; to = piece_stop t from to; at = piece_stop t from to; end = to; next = n }

-- the first of `puts` is put, and the others are pieces that follow, further than `at`, before the tokens from `next` on
pub record Puts (t : List ℕ) (at next : ℕ) (puts : List Put) (said : List (List ℕ)) (r : Moved) : Type 0 where
  pub same : r.next ≡ next
  pub put : is_put r.code ≡ true
  pub is : puts ≡ put_of r ∷ pieces_in t r.kind r.at r.end
  pub ahead : at < r.at
  pub inside : Stands t r.at r.end r.next
  pub short : (r.name ≤ length t) × (r.key ≤ length t) × (r.from ≤ length t) × (r.to ≤ length t)
  pub lang : lang_said t r ≡ said

-- where the bytes of a payload s from i on go wrong
unfoldable pub place_from : Mode → List ℕ → ℕ → ℕ
place_from m s i = i + walk_passes (is_blank m) (Spot.edge true) (drop i s)

-- of the payload that s ends with, the part from `next` on, with `rest` to be put: the close
pub record Ends (m : Mode) (s : List ℕ) (next : ℕ) (rest : Rest) (r : Moved) : Type 0 where
  pub is : rest ≡ Rest.puts []
  pub place : place_from m s next ≡ r.next
  pub lang : (x : Bool) → passes_from m s next x ≡ x

-- a wrong byte
pub record Fails (m : Mode) (s : List ℕ) (next : ℕ) (rest : Rest) (r : Moved) : Type 0 where
  pub is : rest ≡ Rest.refused
  pub place : place_from m s next ≡ r.next
  pub lang : (x : Bool) → passes_from m s next x ≡ true

-- something that is put
pub record Gives (m : Mode) (t s : List ℕ) (next : ℕ) (rest : Rest) (r : Moved) : Type 0 where
  pub is : rest ≡ before (put_of r ∷ []) (rest_at m t s r.kind r.at r.end r.next)
  pub place : place_from m s next ≡ place_from m s r.next
  pub lang : (x : Bool) → passes_from m s next x ≡ passes_from m s r.next (passes_with x (lang_said t r))

-- the move lies in the text, wherever the close is; and if there is one, the move is right of what stands before it. Of the close:
pub record Closing (m : Mode) (t : List ℕ) (next : ℕ) (rest : List ℕ → Rest) (r : Moved) : Type 0 where
  pub ahead : next ≤ r.next
  pub closes : find_close t next ≡ Some r.next
  pub each : (c : ℕ) → find_close t next ≡ Some c → Ends m (take c t) next (rest (take c t)) r

-- the same of a wrong byte
pub record Wrongs (m : Mode) (t : List ℕ) (next : ℕ) (rest : List ℕ → Rest) (r : Moved) : Type 0 where
  pub ahead : next ≤ r.next
  pub within : r.next ≤ length t
  pub close : find_close t r.next ≡ find_close t next
  pub each : (c : ℕ) → find_close t next ≡ Some c → Fails m (take c t) next (rest (take c t)) r

-- the same of something that is put
pub record Putting (m : Mode) (t : List ℕ) (at next : ℕ) (rest : List ℕ → Rest) (r : Moved) : Type 0 where
  pub ahead : at < r.at
  pub inside : Stands t r.at r.end r.next
  pub short : (r.name ≤ length t) × (r.key ≤ length t) × (r.from ≤ length t) × (r.to ≤ length t)
  pub close : find_close t r.next ≡ find_close t next
  pub each : (c : ℕ) → find_close t next ≡ Some c → Gives m t (take c t) next (rest (take c t)) r

-- what a move says, by its code
abbrev pub MoveTells : Mode → List ℕ → ℕ → ℕ → (List ℕ → Rest) → Moved → codes.Code → Type 0
MoveTells m t at next rest r code.Close = Closing m t next rest r
MoveTells m t at next rest r code.Wrong = Wrongs m t next rest r
MoveTells m t at next rest r code.Id = Putting m t at next rest r
MoveTells m t at next rest r code.Class = Putting m t at next rest r
MoveTells m t at next rest r code.Key = Putting m t at next rest r
MoveTells m t at next rest r code.Lang = Putting m t at next rest r
MoveTells m t at next rest r code.Tag = Putting m t at next rest r

-- what a move says
pub record Moves (m : Mode) (t : List ℕ) (at next : ℕ) (rest : List ℕ → Rest) (r : Moved) : Type 0 where
  pub told : MoveTells m t at next rest r r.code

-- ======== part 3: the loop

-- the rows that were put, and the table, which has them all unless a limit was passed
pub record Fits (rows : Rows) (a : Attrs) (many over : Bool) : Type 0 where
  pub own : Rows
  pub holds : Holds a own
  pub classes : many ≡ false → own.classes ≡ rows.classes
  pub keys : over ≡ false → own.keys ≡ rows.keys
  pub all : many ≡ false → over ≡ false → own ≡ rows
  pub many_over : many ≡ true → max_classes < length rows.classes
  pub over_over : over ≡ true → max_keys < length rows.keys

-- a payload without a token has no reading
abbrev pub whole_from : Bool → Texts → Rows → Rest → Filled
whole_from true t rows r = filled_from t rows r
whole_from false t rows Rest.refused = refusing NoReading
whole_from false t rows (Rest.puts []) = refusing NoReading
whole_from false t rows (Rest.puts (p ∷ ps)) = filled_from t rows (Rest.puts (p ∷ ps))

-- if the close is at c, what was met so far with what is still to come is the whole's answer
pub record Still (m : Mode) (t : List ℕ) (place c : ℕ) (rows : Rows) (some : Bool) (last : Span) (k : kinds.Kind) (at to next : ℕ) : Type 0 where
  pub rest : whole_from some (one t) rows (rest_at m t (take c t) k at to next) ≡ filled_of m (one t) (suc place) (payload_of t place c)
  pub spot : place_from m (take c t) next ≡ suc place + payload_place m (payload_of t place c)
  pub lang : passes_from m (take c t) next (span_allowed t last) ≡ passed_by (read_payload m (suc place) (payload_of t place c))

-- the loop's invariant
pub record Walks (m : Mode) (t : List ℕ) (place : ℕ) (a : Attrs) (some many over : Bool) (last : Span) (k : kinds.Kind) (at to next : ℕ) : Type 0 where
  pub rows : Rows
  pub fits : Fits rows a many over
  pub stands : Stands t at to next
  pub from : suc place ≤ at
  pub close : find_close t next ≡ find_close t (suc place)
  pub each : (c : ℕ) → find_close t (suc place) ≡ Some c → Still m t place c rows some last k at to next

-- ---- what the walk comes to
-- a payload that goes wrong at n: 4, then 2, then 5 with the place
abbrev pub unread_to : List ℕ → ℕ → ℕ → Option ℕ → Result ℕ NotRead
unread_to t i n None = Err (Refused NoClose)
unread_to t i n (Some e) = cond (is_utf8 (payload_of t i e)) (Err (Unread (n - i - 1))) (Err (Refused NotUtf8))

-- a payload that closes at e: 2, 5 where no token was met, 13, 6, 7, and else the place behind the close
abbrev pub verdict_of : Bool → Bool → Bool → Bool → Bool → ℕ → ℕ → Result ℕ NotRead
verdict_of utf8 some passes many over i e =
    cond utf8
    (cond some
    (cond passes
    (cond many (Err (Refused TooManyClasses))
    (cond over (Err (Refused TooManyKeys))
    (Ok (suc e)))) (Err (Refused BadTag))) (Err (Unread (e - i - 1)))) (Err (Refused NotUtf8))

-- a set is handed out
abbrev pub is_next : Result ℕ NotRead → Bool
is_next (Err (Refused r)) = false
is_next (Err (Unread n)) = false
is_next (Ok n) = true

-- a refusal hands out no set
abbrev pub no_set : Result ℕ NotRead → Read
no_set a = record { answer = a; set = empty_set }

-- behind 1 and 3: as the caller wants the tag
abbrev pub once_to : Tags → Mode → List ℕ → ℕ → Option ℕ → Read
once_to Any m t i p = read_to m t i p
once_to WellFormed m t i p = cond (tag_to m t i p) (read_to m t i p) (refusing_read BadTag)
