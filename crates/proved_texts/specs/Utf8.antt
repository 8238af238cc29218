-- Document 01: "Added: UTF-8 check". The check, the boundaries and the count, held against the ABNF of RFC 3629, section 4 (Utf8Rules).
use Rattle.std.specs.Prelude.{◌≡◌, true, List, ℕ, ◌≤◌, length, take, drop}
use Rattle.proved_texts.specs.Utf8Rules.{Octets, WellFormed}
use Rattle.text_utf8.specs.Computed.{is_utf8}
use Rattle.text_utf8.specs.Utf8.{is_boundary, char_count}

-- RFC 3629: "UTF8-octets = *( UTF8-char )". A text that passes the check is such octets, ..
abbrev pub PassedIsOctets : Type 0
PassedIsOctets = (s : List ℕ) → is_utf8 s ≡ true → WellFormed s

-- .. and such octets pass
abbrev pub OctetsPass : List ℕ → Type 0
OctetsPass s = WellFormed s → is_utf8 s ≡ true

-- "ranges inside their text on character boundaries": a boundary parts well-formed text into two such texts, ..
abbrev pub BoundaryParts : Type 0
BoundaryParts = (s : List ℕ) (i : ℕ) → is_utf8 s ≡ true → is_boundary s i ≡ true → (is_utf8 (take i s) ≡ true) × (is_utf8 (drop i s) ≡ true)

-- .. and a place that parts a text into two such is a boundary
abbrev pub PartsAtBoundary : Type 0
PartsAtBoundary = (s : List ℕ) (i : ℕ) → i ≤ length s → is_utf8 (take i s) ≡ true → is_utf8 (drop i s) ≡ true → is_boundary s i ≡ true

-- "Columns count characters, not bytes.": the count is that of the grammar's characters
abbrev pub CountsCharacters : List (List ℕ) → List ℕ → Type 0
CountsCharacters ks s = Octets ks s → char_count s ≡ length ks
