-- A row of a key, a test at a time.
-- Assumes nothing.
use mathlib.Core.Path.{◌≡◌, refl, sym, ◌∙◌}
use mathlib.Core.Bool.{Bool, true, false, ◌&&◌}
use Rattle.base_lists.specs.Lists.{all, headed, same}
use Rattle.base_bytes.specs.Bytes.{within, is_letter, is_digit, is_alnum, is_key_start, is_name_part}
use Rattle.text_names.specs.Names.{is_key}
use Rattle.block_grammar.specs.Meaning.{lang_name}
use Rattle.set_table.specs.Types.{Texts, name_bytes}
use Rattle.set_table.specs.Shape.{is_free}
use Rattle.set_table.specs.declared.Row.{Row}
use Rattle.set_values.specs.Values.{name_ok, value_ok, key_ok}

ands : (a b c d : Bool) → (a && (b && (c && d))) ≡ ((a && (b && c)) && d)
ands true true c d = refl
ands true false c d = refl
ands false b c d = refl

-- ---- a row of a key
module _ (t : Texts) (r : Row) where
  pub key_refused : (name_ok t r.name && (is_key (name_bytes t r.name) && is_free (name_bytes t r.name))) ≡ false → false ≡ key_ok t r
  unfolding key_ok
  key_refused e = sym (ands (name_ok t r.name) (is_key (name_bytes t r.name)) (is_free (name_bytes t r.name)) (value_ok t r.value) ∙ rw e)

  pub key_passed : {b : Bool} → (name_ok t r.name && (is_key (name_bytes t r.name) && is_free (name_bytes t r.name))) ≡ true → b ≡ value_ok t r.value → b ≡ key_ok t r
  unfolding key_ok
  key_passed e q = q ∙ sym (ands (name_ok t r.name) (is_key (name_bytes t r.name)) (is_free (name_bytes t r.name)) (value_ok t r.value) ∙ rw e)

pub lang_key : (is_key lang_name && is_free lang_name) ≡ true
unfolding is_key is_free headed is_key_start is_name_part is_alnum is_letter is_digit within all same
lang_key = refl
