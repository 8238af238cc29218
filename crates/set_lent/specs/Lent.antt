-- "on a set lent by the caller and added to where it stands": what the set is after a merge.
use Rattle.std.specs.Prelude.{Err, Ok, Result, true, false, Bool}
use Rattle.set_table.specs.Types.{Texts}
use Rattle.set_table.specs.declared.Attrs.{Attrs}
use Rattle.set_table.specs.declared.Filled.{Filled}
use Rattle.set_merge.specs.Merge.{merge_of}
use Rattle.set_loose.specs.declared.Consumed.{Consumed}
use Rattle.set_loose.specs.Loose.{loose_of}
use Rattle.set_lent.specs.declared.Both.{Both}
use Rattle.set_lent.specs.declared.Left.{Left}
use Rattle.base_refusals.specs.declared.Refusal.{Refusal}

-- "A refusal touches no other lent memory, a merge's target included."
abbrev pub standing : Result (Unit {0}) Refusal → Attrs → Attrs → Attrs
standing (Err r) was new = was
standing (Ok _) was new = new

-- the lent set that held `was`, once the merge has come to f
unfoldable pub end_of : Attrs → Filled → Attrs
end_of was f = standing f.outcome was f.set

-- "it acts only if the key's unescaped value is empty": where it doesn't act, or is refused, the lent set stays as it was, to its last row
abbrev pub acted_on : Result Bool Refusal → Attrs → Attrs → Attrs
acted_on (Err r) was new = was
acted_on (Ok true) was new = new
acted_on (Ok false) was new = was

unfoldable pub loose_end : Attrs → Consumed → Attrs
loose_end was c = acted_on c.did was c.set

-- the set a, lent for that
unfoldable pub lent_loose : Texts → Attrs → Left
lent_loose t a = record { did = (loose_of t a).did; set = loose_end a (loose_of t a) }

-- a leading set merged into a, and then an incoming one
abbrev pub lent_from : Texts → Attrs → Filled → Attrs → Both
lent_from t a f incoming = record { led = f.outcome; merged = (merge_of t (end_of a f) incoming).outcome; set = end_of (end_of a f) (merge_of t (end_of a f) incoming) }

unfoldable pub lent_both : Texts → Attrs → Attrs → Attrs → Both
lent_both t a leading incoming = lent_from t a (merge_of t leading a) incoming
