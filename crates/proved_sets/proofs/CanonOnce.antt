-- A well-formed meaning stays so with each class once.
-- Assumes nothing.
use mathlib.Core.Path.{◌≡◌, refl, ◌∙◌}
use mathlib.Core.Bool.{Bool, true, false, cond}
use mathlib.Core.List.{List, [], ◌∷◌}
use Rattle.base_lists.specs.Lists.{all}
use Rattle.base_lists.proofs.Scan.{both}
use Rattle.block_grammar.specs.Meaning.{Entry, is_class, fresh_after, once_in, classes_once}
use Rattle.block_grammar.specs.Close.{no_lf}
use Rattle.block_grammar.proofs.Fresh.{fresh-all, kept_some}
use Rattle.proved_grammar.specs.Meaning.{distinct}
use Rattle.proved_grammar.proofs.Once.{once_distinct}
use Rattle.set_canon.specs.Canon.{is_class_value}
use Rattle.proved_sets.specs.Formed.{entry_ok, wf}
use Rattle.proved_sets.proofs.CanonParts.{Okay, okay, entry_ok_lem, classes_some, classes_ok, joined}

ok_once : (e : Entry) → entry_ok e ≡ true → entry_ok (once_in e) ≡ true
unfolding once_in
ok_once e h = go (is_class e.name) refl (okay e h)
  where
    go : (b : Bool) → is_class e.name ≡ b → Okay e.name e.values → entry_ok (record { name = e.name; values = cond b (fresh_after [] e.values) e.values }) ≡ true
    go true c o =
        let s = classes_some o c in
        entry_ok_lem (record { name = e.name; values = fresh_after [] e.values }) (record {
          key = o.key;
          flat = fresh-all no_lf [] e.values o.flat;
          shape = classes_ok e.name (fresh_after [] e.values) c (kept_some e.values ∙ s.0) (fresh-all is_class_value [] e.values s.1);
        })
    go false c o = entry_ok_lem e o

entries_once : (m : List Entry) → all entry_ok m ≡ true → all entry_ok (classes_once m) ≡ true
unfolding classes_once all
entries_once [] h = refl
entries_once (e ∷ m) h = let g = both (entry_ok e) (all entry_ok m) h in rw (ok_once e g.0) (entries_once m g.1)

pub once_wf : (m : List Entry) → wf m ≡ true → wf (classes_once m) ≡ true
unfolding wf
once_wf m h = let g = both (all entry_ok m) (distinct m) h in joined (classes_once m) (entries_once m g.0) (once_distinct m ∙ g.1)
