-- Both readers promise the same definition.
use mathlib.Core.Path.{◌≡◌, sym, ap, ◌∙◌}
use Rattle.read_brace.specs.declared.Read.{Read}
use Rattle.read_brace.specs.Brace.{brace_paper, place_said}
use Rattle.proved_tags.proofs.Strictly.{any_is_ordinary}
use Rattle.proved_once.specs.Readers.{Alike, ReadersEqual, TagReadersEqual}

alike : {a b : Read} → a ≡ b → Alike a b
alike e = record { answers = e; numbers = ap (λ r. brace_paper r.answer) e; places = ap (λ r. place_said r.answer) e }

pub readers_equal : ReadersEqual
readers_equal m t i a b p q = alike (p ∙ sym (any_is_ordinary m t i) ∙ sym q)

pub tag_readers_equal : TagReadersEqual
tag_readers_equal g m t i a b p q = alike (p ∙ sym q)
