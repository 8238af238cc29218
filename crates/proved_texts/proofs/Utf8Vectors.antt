-- The examples of RFC 3629 and the texts on either side of its limits, by computing.
-- Assumes nothing.
use mathlib.Core.Path.{refl}
use Rattle.base_bytes.specs.Bytes.{within, is_tail}
use Rattle.text_utf8.specs.Computed.{is_utf8, octets_from, after_of, lead_of}
use Rattle.text_utf8.specs.Utf8.{char_count}
use Rattle.proved_texts.specs.Vectors.{ExamplesPass, ExamplesCount, InsideLimits, OutsideLimits}

pub examples_good : ExamplesPass
unfolding is_utf8 octets_from after_of lead_of within
examples_good = refl

pub examples_count : ExamplesCount
unfolding char_count is_tail within
examples_count = refl

pub inside : InsideLimits
unfolding is_utf8 octets_from after_of lead_of within
inside = refl

pub outside : OutsideLimits
unfolding is_utf8 octets_from after_of lead_of within
outside = refl
