-- Texts as they are typed, in place of lists of bytes.
use Rattle.std.specs.Prelude.{ℕ, List, [], ◌∷◌}
use Prim.Native.Char.{code}
use Prim.Native.String.{String}
use Prim.Native.String as string

-- the bytes of a text in ASCII
unfoldable pub typed : String → List ℕ
typed string.[] = []
typed (string.◌∷◌ c s) = code c ∷ typed s
