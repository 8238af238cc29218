-- Letter case, and the tags that RFC 5646 lists whole.
use Rattle.std.specs.Prelude.{ℕ, ◌+◌, Bool, false, cond, ◌||◌, List, [], ◌∷◌, map, eqb}
use Rattle.base_lists.specs.Lists.{same}
use Rattle.base_bytes.specs.Bytes.{within}

-- "letter case ignored": a large letter's small one, and any other byte itself
unfoldable pub small : ℕ → ℕ
small b = cond (within 65 90 b) (b + 32) b

unfoldable pub smalls : List ℕ → List ℕ
smalls s = map small s

-- "x", in either case
unfoldable pub is_x : ℕ → Bool
is_x b = eqb (small b) 120

-- s is one of the list
unfoldable pub is_listed : List (List ℕ) → List ℕ → Bool
is_listed [] s = false
is_listed (t ∷ ts) s = same t s || is_listed ts s

-- irregular, in small letters
unfoldable pub irregulars : List (List ℕ)
irregulars =
    -- en-gb-oed
    (101 ∷ 110 ∷ 45 ∷ 103 ∷ 98 ∷ 45 ∷ 111 ∷ 101 ∷ 100 ∷ []) ∷
    -- i-ami
    (105 ∷ 45 ∷ 97 ∷ 109 ∷ 105 ∷ []) ∷
    -- i-bnn
    (105 ∷ 45 ∷ 98 ∷ 110 ∷ 110 ∷ []) ∷
    -- i-default
    (105 ∷ 45 ∷ 100 ∷ 101 ∷ 102 ∷ 97 ∷ 117 ∷ 108 ∷ 116 ∷ []) ∷
    -- i-enochian
    (105 ∷ 45 ∷ 101 ∷ 110 ∷ 111 ∷ 99 ∷ 104 ∷ 105 ∷ 97 ∷ 110 ∷ []) ∷
    -- i-hak
    (105 ∷ 45 ∷ 104 ∷ 97 ∷ 107 ∷ []) ∷
    -- i-klingon
    (105 ∷ 45 ∷ 107 ∷ 108 ∷ 105 ∷ 110 ∷ 103 ∷ 111 ∷ 110 ∷ []) ∷
    -- i-lux
    (105 ∷ 45 ∷ 108 ∷ 117 ∷ 120 ∷ []) ∷
    -- i-mingo
    (105 ∷ 45 ∷ 109 ∷ 105 ∷ 110 ∷ 103 ∷ 111 ∷ []) ∷
    -- i-navajo
    (105 ∷ 45 ∷ 110 ∷ 97 ∷ 118 ∷ 97 ∷ 106 ∷ 111 ∷ []) ∷
    -- i-pwn
    (105 ∷ 45 ∷ 112 ∷ 119 ∷ 110 ∷ []) ∷
    -- i-tao
    (105 ∷ 45 ∷ 116 ∷ 97 ∷ 111 ∷ []) ∷
    -- i-tay
    (105 ∷ 45 ∷ 116 ∷ 97 ∷ 121 ∷ []) ∷
    -- i-tsu
    (105 ∷ 45 ∷ 116 ∷ 115 ∷ 117 ∷ []) ∷
    -- sgn-be-fr
    (115 ∷ 103 ∷ 110 ∷ 45 ∷ 98 ∷ 101 ∷ 45 ∷ 102 ∷ 114 ∷ []) ∷
    -- sgn-be-nl
    (115 ∷ 103 ∷ 110 ∷ 45 ∷ 98 ∷ 101 ∷ 45 ∷ 110 ∷ 108 ∷ []) ∷
    -- sgn-ch-de
    (115 ∷ 103 ∷ 110 ∷ 45 ∷ 99 ∷ 104 ∷ 45 ∷ 100 ∷ 101 ∷ []) ∷
    []

-- regular, in small letters
unfoldable pub regulars : List (List ℕ)
regulars =
    -- art-lojban
    (97 ∷ 114 ∷ 116 ∷ 45 ∷ 108 ∷ 111 ∷ 106 ∷ 98 ∷ 97 ∷ 110 ∷ []) ∷
    -- cel-gaulish
    (99 ∷ 101 ∷ 108 ∷ 45 ∷ 103 ∷ 97 ∷ 117 ∷ 108 ∷ 105 ∷ 115 ∷ 104 ∷ []) ∷
    -- no-bok
    (110 ∷ 111 ∷ 45 ∷ 98 ∷ 111 ∷ 107 ∷ []) ∷
    -- no-nyn
    (110 ∷ 111 ∷ 45 ∷ 110 ∷ 121 ∷ 110 ∷ []) ∷
    -- zh-guoyu
    (122 ∷ 104 ∷ 45 ∷ 103 ∷ 117 ∷ 111 ∷ 121 ∷ 117 ∷ []) ∷
    -- zh-hakka
    (122 ∷ 104 ∷ 45 ∷ 104 ∷ 97 ∷ 107 ∷ 107 ∷ 97 ∷ []) ∷
    -- zh-min
    (122 ∷ 104 ∷ 45 ∷ 109 ∷ 105 ∷ 110 ∷ []) ∷
    -- zh-min-nan
    (122 ∷ 104 ∷ 45 ∷ 109 ∷ 105 ∷ 110 ∷ 45 ∷ 110 ∷ 97 ∷ 110 ∷ []) ∷
    -- zh-xiang
    (122 ∷ 104 ∷ 45 ∷ 120 ∷ 105 ∷ 97 ∷ 110 ∷ 103 ∷ []) ∷
    []
