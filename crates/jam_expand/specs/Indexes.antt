-- An index: which elements of a list it selects.
use Rattle.std.specs.Prelude.{ℕ, ◌+◌, ◌-◌, ◌*◌, ◌==◌, nat_lt, Bool, ◌&&◌, not, List, [], ◌∷◌, length, take, drop, fold, Option, Some, None, Result, Ok, Err, if◌then◌else◌}
use Rattle.std.specs.List.{list_all}
use Rattle.b2_base.specs.declared.expand_fault.ExpandFault.{ExpandFault}
use Rattle.b2_base.specs.declared.expand_fault.ExpandFault.TheVariants as faults
use Rattle.jam_expand.specs.declared.index.Position.{Position}
use Rattle.jam_expand.specs.declared.index.Position.TheVariants.{Front, Back}
use Rattle.jam_expand.specs.declared.index.IndexRange.{IndexRange}
use Rattle.jam_expand.specs.Cuts.{up_to, from_on}

-- a digit is a byte from 48 to 57
abbrev pub is_digit : ℕ → Bool
is_digit byte = not (nat_lt byte 48) && nat_lt byte 58

abbrev pub value_of : List ℕ → ℕ
value_of digits = fold (λ value digit. value * 10 + (digit - 48)) 0 digits

-- 1 to 9 digits
abbrev pub number_of : List ℕ → Option ℕ
number_of digits = if nat_lt 0 (length digits) && nat_lt (length digits) 10 && list_all is_digit digits then Some (value_of digits) else None

abbrev pub at_front : Option ℕ → Option Position
at_front None = None
at_front (Some number) = Some (Front number)

abbrev pub at_back : Option ℕ → Option Position
at_back None = None
at_back (Some number) = Some (Back number)

-- a number, counted from the back after a `-` (45)
abbrev pub position_of : List ℕ → Option Position
position_of [] = None
position_of (byte ∷ bytes) = if byte == 45 then at_back (number_of bytes) else at_front (number_of (byte ∷ bytes))

-- the last element is the first from the back
abbrev pub last_position : Option Position
last_position = Some (Back 1)

abbrev pub span : Option Position → Option Position → Option IndexRange
span None to = None
span (Some from) None = None
span (Some from) (Some to) = Some (record { from = from; to = to })

-- where the selection ends: at `n` itself, at the end after a dash, or at `m`; `rest` is what stands from the dash on
abbrev pub end_of : List ℕ → List ℕ → Option Position
end_of first [] = position_of first
end_of first (dash ∷ []) = last_position
end_of first (dash ∷ byte ∷ bytes) = position_of (byte ∷ bytes)

abbrev pub span_of : List ℕ → List ℕ → Option IndexRange
span_of first rest = span (position_of first) (end_of first rest)

-- The index that a text is: a dash that is not its first byte divides it.
abbrev pub index_of : List ℕ → Option IndexRange
index_of [] = None
index_of (byte ∷ bytes) = span_of (byte ∷ up_to (45 ∷ []) bytes) (from_on (45 ∷ []) bytes)

-- the position in a list of this length, counted from 1; one before the list is 0
abbrev pub place_in : ℕ → Position → ℕ
place_in len (Front number) = number
place_in len (Back number) = (len + 1) - number

-- the elements at the positions between the two that exist
abbrev pub selected : Option IndexRange → List (List ℕ) → List (List ℕ)
selected None texts = texts
selected (Some index) texts = drop (place_in (length texts) index.from - 1) (take (place_in (length texts) index.to) texts)

-- an index, if one stands, and the text of the modifiers after it
abbrev pub Indexed : Type 0
Indexed = Result (Option IndexRange × List ℕ) ExpandFault

abbrev pub bad_unless : List ℕ → Option IndexRange → List ℕ → Indexed
bad_unless text None after = Err (faults.BadIndex text)
bad_unless text (Some index) after = Ok (Some index, after)

abbrev pub closed_by : List ℕ → Option (List ℕ) → Indexed
closed_by text None = Err (faults.BadIndex text)
closed_by text (Some after) = bad_unless text (index_of text) after

-- after a `]` (93) stands nothing or a `:` (58)
abbrev pub ended_by : List ℕ → Option (List ℕ)
ended_by [] = Some []
ended_by (byte ∷ bytes) = if byte == 58 then Some (byte ∷ bytes) else None

abbrev pub after_close : List ℕ → Option (List ℕ)
after_close [] = None
after_close (byte ∷ bytes) = if byte == 93 then ended_by bytes else None

-- After a name stands `[` (91), an index and `]`, or no index.
abbrev pub indexed : List ℕ → Indexed
indexed [] = Ok (None, [])
indexed (byte ∷ bytes) = if byte == 91 then closed_by (up_to (93 ∷ []) bytes) (after_close (from_on (93 ∷ []) bytes)) else Ok (None, byte ∷ bytes)
