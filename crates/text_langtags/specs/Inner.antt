-- Well-formed tags a byte at a time: what is kept of the bytes so far is a stage and a few numbers.
use Rattle.std.specs.Prelude.{ℕ, ◌+◌, ◌*◌, ◌-◌, Bool, true, false, cond, ◌&&◌, ◌||◌, eqb, leb}
use mathlib.Core.List.{List, map, foldl}
use Rattle.base_lists.specs.Lists.{is_in}
use Rattle.base_bytes.specs.Bytes.{is_letter, is_digit, is_alnum, hyphen}
use Rattle.text_langtags.specs.Letters.{small, is_x, irregulars}
use Rattle.text_langtags.specs.Computed.{kind_by, next_stage, may_end}
use Rattle.text_langtags.specs.declared.SubtagKind.{SubtagKind}
use Rattle.text_langtags.specs.declared.Stage.{Stage}
use Rattle.text_langtags.specs.declared.Stage.TheVariants as at
use Rattle.text_langtags.specs.declared.Shape.{Shape}
use Rattle.text_langtags.specs.declared.TagWalk.{TagWalk}

-- ---- the present subtag

-- no byte yet
abbrev pub no_byte_yet : Shape
no_byte_yet = record { size = 0; x = false; digit = false; letters = true; digits = true; alnum = true }

-- 9 stands for every size above 8
abbrev pub longer : ℕ → ℕ
longer n = cond (leb 9 n) 9 (n + 1)

-- a byte more
unfoldable pub subtag_with : Shape → ℕ → Shape
subtag_with h b =
    record {
      size = longer h.size;
      x = cond (eqb h.size 0) (is_x b) h.x;
      digit = cond (eqb h.size 0) (is_digit b) h.digit;
      letters = h.letters && is_letter b;
      digits = h.digits && is_digit b;
      alnum = h.alnum && is_alnum b;
    }

abbrev pub shape_kind : Shape → SubtagKind
shape_kind h = kind_by h.size h.x h.digit h.letters h.digits h.alnum

-- ---- the bytes as one number: in small letters, to the base 84, so that ten of them fit 64 bits

-- no bytes have this number
abbrev pub unspelled : ℕ
unspelled = 18446744073709551615

-- 84 to the power of 9: what is below has at most nine bytes
abbrev pub nine : ℕ
nine = 208215748530929664

-- the letters, the digits and the hyphen: in small letters they are from 45 to 122, and 39 less from 6 to 83
abbrev pub is_spelled : ℕ → Bool
is_spelled b = is_alnum b || eqb b hyphen

unfoldable pub spelled : ℕ → ℕ → ℕ
spelled w b = cond (is_spelled b) (cond (leb nine w) unspelled (w * 84 + (small b - 39))) unspelled

unfoldable pub word_of : List ℕ → ℕ
word_of s = foldl spelled 0 s

-- the number of an irregular tag
unfoldable pub is_word : ℕ → Bool
is_word w = is_in (map word_of irregulars) w

-- ---- the walk

abbrev pub tag_start : TagWalk
tag_start = record { stage = at.Start; shape = no_byte_yet; word = 0 }

-- the stage behind the present subtag
abbrev pub behind : TagWalk → Stage
behind w = next_stage w.stage (shape_kind w.shape)

-- a hyphen ends the subtag
unfoldable pub stepped : TagWalk → ℕ → TagWalk
stepped w b =
    record {
      stage = cond (eqb b hyphen) (behind w) w.stage;
      shape = cond (eqb b hyphen) no_byte_yet (subtag_with w.shape b);
      word = spelled w.word b;
    }

-- the bytes so far are a well-formed tag
unfoldable pub well_formed_so_far : TagWalk → Bool
well_formed_so_far w = may_end (behind w) || is_word w.word

-- they are one, or there are none yet: no bytes but these have the number 0
unfoldable pub allowed_so_far : TagWalk → Bool
allowed_so_far w = eqb w.word 0 || well_formed_so_far w

unfoldable pub walked : TagWalk → List ℕ → TagWalk
walked w s = foldl stepped w s
