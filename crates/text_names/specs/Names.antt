-- The three kinds of name, and how far bytes can be continued to one.
use Rattle.std.specs.Prelude.{ℕ, Bool, List}
use Rattle.base_lists.specs.Lists.{headed}
use Rattle.base_bytes.specs.Bytes.{is_letter, is_name_start, is_name_part, is_key_start}
use Rattle.base_letters.specs.Classes.{front_run}

-- "a name: letter, digit or `_`, then letters, digits, `_`, `-`."
unfoldable pub is_name : List ℕ → Bool
is_name s = headed is_name_start is_name_part s

-- "A key starts with a letter or `_`, then as a name."
unfoldable pub is_key : List ℕ → Bool
is_key s = headed is_key_start is_name_part s

-- "a bare name, its first byte a letter, then as above"
unfoldable pub is_bare_name : List ℕ → Bool
is_bare_name s = headed is_letter is_name_part s

-- ---- "that can still be continued", by computing: a first byte that may begin the name, then as many as may follow.
-- By the rule: `Longest` of Longest; the two are proved to agree (proved_places/specs/Places).

unfoldable pub name_place : List ℕ → ℕ
name_place s = front_run is_name_start is_name_part s

unfoldable pub key_place : List ℕ → ℕ
key_place s = front_run is_key_start is_name_part s

unfoldable pub bare_place : List ℕ → ℕ
bare_place s = front_run is_letter is_name_part s
