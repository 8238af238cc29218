-- Classes of bytes. Every class that the scope names is defined here; only the first bytes of UTF-8 characters are told apart in text_utf8.
use Rattle.std.specs.Prelude.{ℕ, Bool, not, ◌&&◌, ◌||◌, [], ◌∷◌, leb, eqb}
use Rattle.base_lists.specs.Lists.{is_in}
use Rattle.base_bytes.specs.declared.Mode.{Mode}
use Rattle.base_bytes.specs.declared.Mode.TheVariants.{Strict, Loose}

-- ---- bytes by name: `{` `}` `"` `'` `\` `:` `#` `.` `=` `-` `_` `|` `%`, space, tab, LF, FF, CR

abbrev pub open_brace : ℕ
open_brace = 123

abbrev pub close_brace : ℕ
close_brace = 125

abbrev pub quote : ℕ
quote = 34

abbrev pub apostrophe : ℕ
apostrophe = 39

abbrev pub backslash : ℕ
backslash = 92

abbrev pub colon : ℕ
colon = 58

abbrev pub hash : ℕ
hash = 35

abbrev pub dot : ℕ
dot = 46

abbrev pub equals : ℕ
equals = 61

abbrev pub hyphen : ℕ
hyphen = 45

abbrev pub underscore : ℕ
underscore = 95

abbrev pub bar : ℕ
bar = 124

abbrev pub percent : ℕ
percent = 37

abbrev pub space : ℕ
space = 32

abbrev pub tab : ℕ
tab = 9

abbrev pub lf : ℕ
lf = 10

abbrev pub ff : ℕ
ff = 12

abbrev pub cr : ℕ
cr = 13

-- from lo to hi, both among them
unfoldable pub within : ℕ → ℕ → ℕ → Bool
within lo hi b = leb lo b && leb b hi

-- "ASCII letters": A to Z and a to z
unfoldable pub is_letter : ℕ → Bool
is_letter b = within 65 90 b || within 97 122 b

-- "or digits": 0 to 9
unfoldable pub is_digit : ℕ → Bool
is_digit b = within 48 57 b

-- "ASCII letters or digits"
unfoldable pub is_alnum : ℕ → Bool
is_alnum b = is_letter b || is_digit b

-- "`#` or `.` and a name: letter, digit or `_`, .."
unfoldable pub is_name_start : ℕ → Bool
is_name_start b = is_alnum b || eqb b underscore

-- ".. then letters, digits, `_`, `-`."
unfoldable pub is_name_part : ℕ → Bool
is_name_part b = is_alnum b || eqb b underscore || eqb b hyphen

-- "A key starts with a letter or `_`"
unfoldable pub is_key_start : ℕ → Bool
is_key_start b = is_letter b || eqb b underscore

-- "space, tab, LF, FF, CR": "the five ASCII whitespace bytes"
unfoldable pub is_space : ℕ → Bool
is_space b = is_in (space ∷ tab ∷ lf ∷ ff ∷ cr ∷ []) b

-- CommonMark 2.1: "An ASCII punctuation character is !, ", #, $, %, &, ', (, ), *, +, ,, -, ., / (U+0021–2F),
-- :, ;, <, =, >, ?, @ (U+003A–0040), [, \, ], ^, _, ` (U+005B–0060), {, |, }, or ~ (U+007B–007E)."
unfoldable pub is_punct : ℕ → Bool
is_punct b = within 0x21 0x2F b || within 0x3A 0x40 b || within 0x5B 0x60 b || within 0x7B 0x7E b

-- "in one kind of quote": `"` or `'`
unfoldable pub is_quote : ℕ → Bool
is_quote b = is_in (quote ∷ apostrophe ∷ []) b

-- "with a backslash before `"` and `\` only": the bytes that take one in canonical text
unfoldable pub is_marked : ℕ → Bool
is_marked b = is_in (quote ∷ backslash ∷ []) b

-- "A value is one or more characters, none of `}` `|` `"` `'` `\` space, tab, CR, LF"
unfoldable pub is_plain : ℕ → Bool
is_plain b = not (is_in (close_brace ∷ bar ∷ quote ∷ apostrophe ∷ backslash ∷ space ∷ tab ∷ cr ∷ lf ∷ []) b)

-- "Blanks are spaces; in loose mode also CR and LF."
unfoldable pub is_blank : Mode → ℕ → Bool
is_blank Strict b = is_in (space ∷ []) b
is_blank Loose b = is_in (space ∷ cr ∷ lf ∷ []) b

-- "leading spaces and tabs": the bytes that indent a line
unfoldable pub is_indent : ℕ → Bool
is_indent b = is_in (space ∷ tab ∷ []) b

-- RFC 3629: UTF8-tail = %x80-BF, a byte that goes on a character
unfoldable pub is_tail : ℕ → Bool
is_tail b = within 0x80 0xBF b
