-- Where a `$(` stands that nothing closes.
use Rattle.std.specs.Prelude.{ℕ, ◌+◌, ◌-◌, ◌==◌, nat_lt, Bool, false, ◌&&◌, List, [], ◌∷◌, ◌++◌, length, slice_index, if◌then◌else◌}
use Rattle.std.specs.Option.{is_none}
use Rattle.jam_expand.specs.Words.{closing}

-- how many `)` (41) have no `(` (40) of their own, where so many have none in what stands after the byte
abbrev pub spare_with : ℕ → ℕ → ℕ
spare_with byte spare = if byte == 41 then spare + 1 else (if byte == 40 then spare - 1 else spare)

-- how many `)` of a text have no `(` of their own
abbrev pub spare : List ℕ → ℕ
spare [] = 0
spare (byte ∷ bytes) = spare_with byte (spare bytes)

-- the text begins with a `(` that nothing closes
abbrev pub opens : List ℕ → Bool
opens [] = false
opens (byte ∷ bytes) = byte == 40 && is_none (closing 0 0 bytes)

-- the text begins with a `$(` (36 and 40) that nothing closes
abbrev pub is_unclosed : List ℕ → Bool
is_unclosed [] = false
is_unclosed (byte ∷ bytes) = opens bytes && byte == 36

-- The places of each `$(` that nothing closes in a text which stands after so many bytes, the last place first.
abbrev pub unclosed_after : ℕ → List ℕ → List ℕ
unclosed_after at [] = []
unclosed_after at (byte ∷ bytes) = unclosed_after (at + 1) bytes ++ (if is_unclosed (byte ∷ bytes) then at ∷ [] else [])

-- the list ends with this place
abbrev pub ends_at : ℕ → List ℕ → Bool
ends_at place places = nat_lt 0 (length places) && slice_index places (length places - 1) == place
