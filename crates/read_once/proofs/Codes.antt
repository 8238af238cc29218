-- How a `match` on a code goes.
-- Assumes nothing.
use mathlib.Core.Path.{◌≡◌, refl}
use mathlib.Core.Bool.{cond}
use mathlib.Core.List.{List, map}
use Prim.Native.Nat.{ℕ}
use types.Run.{OneOf}
use denote.Enum.Declared
use lib.Dec.{eqb}
use Rattle.text_langtags.proofs.Keys.{alike}
use Rattle.read_once.specs.declared.Code as codes
use Rattle.read_once.specs.declared.Code.TheVariants as code
use Rattle.read_once.specs.contracts.Code

abbrev pub code_at : ℕ → codes.Code
code_at n = cond (eqb n 0) code.Close (cond (eqb n 1) code.Wrong (cond (eqb n 2) code.Id (cond (eqb n 3) code.Class (cond (eqb n 4) code.Key (cond (eqb n 5) code.Lang code.Tag)))))

abbrev code_key : codes.Code → ℕ
code_key c = Declared.tag_of Code.the_type c

code_key_lem : (c : codes.Code) → code_at (code_key c) ≡ c
code_key_lem code.Close = refl
code_key_lem code.Wrong = refl
code_key_lem code.Id = refl
code_key_lem code.Class = refl
code_key_lem code.Key = refl
code_key_lem code.Lang = refl
code_key_lem code.Tag = refl

-- two functions agree at each of some codes
pub by_code : {A : Type 0} (f g : codes.Code → A) (ks : List ℕ) (c : codes.Code) → OneOf ks (Declared.tag_of Code.the_type c)
    → map (λ n. f (code_at n)) ks ≡ map (λ n. g (code_at n)) ks → f c ≡ g c
by_code f g ks c h e = rw (code_key_lem c) at (alike (λ n. f (code_at n)) (λ n. g (code_at n)) ks (code_key c) h e)
