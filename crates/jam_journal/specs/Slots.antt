-- Places for the names of one byte from `1` to `>`, among which are those of argument lists.
use Rattle.std.specs.Prelude.{◌≡◌, ℕ, zero, suc, ◌+◌, ◌-◌, ◌<◌, ◌&&◌, nat_lt, List, [], ◌∷◌, Option, Some, None, is_some, string_bytes, if◌then◌else◌}
use Rattle.std.specs.List.{insert}
use Rattle.std.specs.Ordering.{nat_cmp, is_lt}
use Rattle.std.specs.Cmp.Lexicographic.{slice_cmp}
use Rattle.std.specs.FinMap as map
use Rattle.jam_journal.specs.declared.slots.Slot.{Slot}
use Rattle.jam_journal.specs.Tables.{Text, Names, put_name}

-- the place of a name, if it has one
abbrev pub slot_of : Text → Option ℕ
slot_of [] = None
slot_of (byte ∷ []) = if nat_lt 48 byte && nat_lt byte 63 then Some (byte - 49) else None
slot_of (byte ∷ more ∷ bytes) = None

-- the name of a place
abbrev pub slot_name : ℕ → Text
slot_name place = (49 + place) ∷ []

-- texts that take no memory: the names of places, and from 14 on the empty text
abbrev pub fixed_name : ℕ → Text
fixed_name place = if nat_lt place 14 then slot_name place else []

-- what slots have at a place
abbrev pub slot_value : {X : Type 0} → List (Slot X) → ℕ → Option X
slot_value [] place = None
slot_value (slot ∷ slots) zero = slot.value
slot_value (slot ∷ slots) (suc place) = slot_value slots place

-- slots with another value at a place, if there is a slot
abbrev pub with_value : {X : Type 0} → List (Slot X) → ℕ → Option X → List (Slot X)
with_value [] place value = []
with_value (slot ∷ slots) zero value = record slot { value = value } ∷ slots
with_value (slot ∷ slots) (suc place) value = slot ∷ with_value slots place value

-- the same where there is a value; else nothing changes
abbrev pub back_value : {X : Type 0} → List (Slot X) → ℕ → Option X → List (Slot X)
back_value slots place value = if is_some (slot_value slots place) then with_value slots place value else slots

-- a map in which the names of the places from one on have what slots have
abbrev pub with_slots : {X : Type 0} → ℕ → List (Slot X) → Names X → Names X
with_slots place [] names = names
with_slots place (slot ∷ slots) names = put_name (with_slots (suc place) slots names) (slot_name place) slot.value

-- the slots from a place on bear the names of their places
abbrev pub AreSlots : {X : Type 0} → ℕ → List (Slot X) → Type 0
AreSlots place [] = Unit {0}
AreSlots place (slot ∷ slots) = (place < 14) × (string_bytes slot.key ≡ slot_name place) × AreSlots (suc place) slots

-- the names that have a place stand in slots alone
pub record AreApart {X : Type 0} (kept : List (Slot X)) (names : Names X) : Type 0 where
  pub slots : AreSlots 0 kept
  pub others : (place : ℕ) → place < 14 → map.get names (slot_name place) ≡ None

-- more slots, without values
pub record IsGrown {X : Type 0} (old new : List (Slot X)) : Type 0 where
  pub slots : AreSlots 0 new
  pub values : (place : ℕ) → slot_value new place ≡ slot_value old place

-- how many of the first entries of a row have a smaller name
abbrev pub smaller : {X : Type 0} → Text → List (Text × X) → ℕ
smaller name [] = 0
smaller name (entry ∷ row) = if is_lt (slice_cmp nat_cmp entry.0 name) then suc (smaller name row) else 0

-- a row with what a slot has, in its place
abbrev pub with_entry : {X : Type 0} → Text → Option X → List (Text × X) → List (Text × X)
with_entry name None row = row
with_entry name (Some value) row = insert row (smaller name row) (name, value)

abbrev pub with_entries : {X : Type 0} → List (Slot X) → List (Text × X) → List (Text × X)
with_entries [] row = row
with_entries (slot ∷ slots) row = with_entry (string_bytes slot.key) slot.value (with_entries slots row)
