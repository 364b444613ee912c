-- What the code keeps of names, and what it stands for.
use Rattle.std.specs.Prelude.{◌≡◌, ℕ, suc, ◌<◌, ◌≤◌, Bool, true, false, not, ◌&&◌, ◌||◌, List, [], ◌∷◌, ◌++◌, map as each, length, Option, Some, None, is_some, if◌then◌else◌}
use Rattle.std.specs.List.{list_any, filter}
use Rattle.std.specs.Ordering.{eq_by_cmp}
use Rattle.std.specs.Str.{bytes_eq}
use Rattle.std.specs.FinMap as map
use Rattle.jam_journal.specs.declared.past.Replacement.{Replacement}
use Rattle.jam_journal.specs.declared.registers.Cell.{Cell}
use Rattle.jam_journal.specs.declared.registers.Registers.{Registers}
use Rattle.jam_journal.specs.declared.registers.Scope.{Scope}
use Rattle.jam_journal.specs.declared.registers.Scope.TheVariants.{Opened, Called, Bound}
use Rattle.jam_journal.specs.Tables.{Text, Key, Names, Table, key_cmp, back_name, put_back}
use Rattle.jam_journal.specs.Marks.{Marked}
use Rattle.jam_journal.specs.Pasts.{noted_at, undone}
use Rattle.jam_journal.specs.Scopes.{Value, Frame, Scopes, is_special, with_binding}

-- the value of a cell, and its stamp
abbrev pub value_of : Option Cell → Value
value_of None = []
value_of (Some cell) = cell.value

abbrev pub stamp_of : Option Cell → ℕ
stamp_of None = 0
stamp_of (Some cell) = cell.stamp

abbrev pub value_at : Table Cell → Key → Value
value_at cells key = value_of (map.get cells key)

abbrev pub stamp_at : Table Cell → Key → ℕ
stamp_at cells key = stamp_of (map.get cells key)

abbrev pub values_of : Table Cell → Table Value
values_of cells = map.from_entries (each (λ entry. (entry.0, entry.1.value)) (map.entries cells))

-- only the names of argument lists are kept with the module of the innermost frame that binds them
abbrev pub noted : Names Text → Text → Text → Names Text
noted names name owner = if is_special name then map.insert names name owner else names

abbrev pub outer_at : Names Text → Text → Option Text
outer_at names name = if is_special name then map.get names name else None

abbrev pub without : Names Text → Text → Option Text → Names Text
without names name outer = if is_special name then back_name names name outer else names

-- another present value at a key
abbrev pub put_cell : Registers → Key → Cell → Registers
put_cell r key cell = record r { cells = map.insert r.cells key cell }

-- the cell of a name of the present module with more texts
abbrev pub grown : Registers → Text → Value → ℕ → Cell
grown r name texts stamp = record { value = value_at r.cells (r.owner, name) ++ texts; stamp = stamp }

-- what was replaced since a mark, when a name of the present module gets another cell, which is noted unless it is fresh
abbrev pub noted_unless : Bool → Registers → Text → List (Replacement Cell) → List (Replacement Cell)
noted_unless is_fresh r name changes = if is_fresh then changes else changes ++ noted_at r.cells (r.owner, name) ∷ []

-- what is found by a name
abbrev pub found_by : Registers → Text → Option Text → Value
found_by r name None = value_at r.cells (r.owner, name)
found_by r name (Some owner) = value_at r.cells (owner, name)

abbrev pub found : Registers → Text → Value
found r name = found_by r name (outer_at r.innermost name)

-- the present module before some entries, the newest first
abbrev pub owner_before : Text → List Scope → Text
owner_before owner [] = owner
owner_before owner (Opened before ∷ entries) = owner_before before entries
owner_before owner (Called before caller ∷ entries) = owner_before before entries
owner_before owner (Bound name before outer ∷ entries) = owner_before owner entries

-- whether a binding is of a module, and nothing stood there
abbrev pub is_unset : Text → Text → Option Cell → Bool
is_unset home owner before = bytes_eq owner home && not (is_some before)

-- the names of a module that some entries bind where nothing stood, so that it has no variable of these names
abbrev pub unset_by : Text → Text → List Scope → List Text
unset_by home owner [] = []
unset_by home owner (Opened before ∷ entries) = unset_by home before entries
unset_by home owner (Called before caller ∷ entries) = unset_by home before entries
unset_by home owner (Bound name before outer ∷ entries) =
    if is_unset home owner before then name ∷ unset_by home owner entries else unset_by home owner entries

-- further names are noted in a set
abbrev pub AreNoted : Names (Unit {0}) → Names (Unit {0}) → List Text → Type 0
AreNoted old new names = (name : Text) → is_some (map.get new name) ≡ (is_some (map.get old name) || list_any (bytes_eq name) names)

-- the names that are not in a set
abbrev pub others_of : Names (Unit {0}) → List Text → List Text
others_of set names = filter (λ name. not (is_some (map.get set name))) names

-- the registers in a frame that is opened, and with a binding, and the entries that lead back
abbrev pub in_frame : Text → Registers → Registers
in_frame owner r = record r { owner = owner }

abbrev pub in_call : Text → Registers → Registers
in_call owner r = record r { owner = owner; caller = r.owner }

abbrev pub with_bound : Text → Cell → Registers → Registers
with_bound name cell r = record r { cells = map.insert r.cells (r.owner, name) cell; innermost = noted r.innermost name r.owner }

abbrev pub bound_entry : Text → Registers → Scope
bound_entry name r = Bound name (map.get r.cells (r.owner, name)) (outer_at r.innermost name)

-- an entry is taken back
abbrev pub step_back : Scope → Registers → Registers
step_back (Opened owner) r = record r { owner = owner }
step_back (Called owner caller) r = record r { owner = owner; caller = caller }
step_back (Bound name before outer) r =
    record r { cells = put_back r.cells (r.owner, name) before; innermost = without r.innermost name outer }

-- entries are taken back, the newest first
abbrev pub closed : List Scope → Registers → Registers
closed [] r = r
closed (entry ∷ entries) r = closed entries (step_back entry r)

-- the newest frame is closed: what is left of the registers, and of the entries
abbrev pub left_by : List Scope → Registers → Registers × List Scope
left_by [] r = (r, [])
left_by (Opened owner ∷ entries) r = (step_back (Opened owner) r, entries)
left_by (Called owner caller ∷ entries) r = (step_back (Called owner caller) r, entries)
left_by (Bound name before outer ∷ entries) r = left_by entries (step_back (Bound name before outer) r)

-- whether an entry opens a frame
abbrev pub opens : Scope → Bool
opens (Opened owner) = true
opens (Called owner caller) = true
opens (Bound name before outer) = false

-- how many frames some entries open
abbrev pub opened : List Scope → ℕ
opened [] = 0
opened (Opened owner ∷ entries) = suc (opened entries)
opened (Called owner caller ∷ entries) = suc (opened entries)
opened (Bound name before outer ∷ entries) = opened entries

-- the frames that an entry belongs to, over those without it
abbrev pub with_entry : Scope → Registers → List Frame → List Frame
with_entry (Opened owner) r frames = record { owner = r.owner; caller = None; bindings = [] } ∷ frames
with_entry (Called owner caller) r frames = record { owner = r.owner; caller = Some r.caller; bindings = [] } ∷ frames
with_entry (Bound name before outer) r frames = with_binding (name, value_at r.cells (r.owner, name)) frames

abbrev pub frames_by : Registers → List Scope → List Frame
frames_by r [] = []
frames_by r (entry ∷ entries) = with_entry entry r (frames_by (step_back entry r) entries)

-- the scopes that registers and entries stand for
abbrev pub seen : Registers → List Scope → Scopes
seen r entries = record { frames = frames_by r entries; variables = values_of (closed entries r).cells }

-- the entries since each mark, and what was replaced since it, the newest mark's first, and then those before all marks
abbrev pub Layers : Type 0
Layers = List (List Scope × List (Replacement Cell))

abbrev pub entries_of : Layers → List Scope
entries_of [] = []
entries_of (layer ∷ layers) = layer.0 ++ entries_of layers

-- back at a mark: the frames and bindings since then go, and then what was replaced stands again
abbrev pub back : Registers → List Scope → List (Replacement Cell) → Registers
back r entries changes = record (closed entries r) { cells = undone changes (closed entries r).cells }

abbrev pub marked_by : Registers → List Scope → List (Replacement Cell) → Layers → List Scopes
marked_by r entries changes [] = []
marked_by r entries changes (layer ∷ layers) =
    seen (back r entries changes) (layer.0 ++ entries_of layers) ∷ marked_by (back r entries changes) layer.0 layer.1 layers

abbrev pub scopes_by : Registers → List Scope → List (Replacement Cell) → Layers → Marked Scopes
scopes_by r entries changes older = (seen r (entries ++ entries_of older), marked_by r entries changes older)

-- a binding has a cell, stands in a frame, and is noted if it is that of an argument list
pub record IsBound (r : Registers) (name : Text) (entries : List Scope) : Type 0 where
  pub there : is_some (map.get r.cells (r.owner, name)) ≡ true
  pub within : 0 < opened entries
  pub innermost : is_special name ≡ true → map.get r.innermost name ≡ Some r.owner

-- registers and entries agree, now and when the newest entries are taken back one after another
abbrev pub Agree : Registers → List Scope → Type 0
Agree r [] = (r.owner ≡ []) × (r.caller ≡ []) × ((name : Text) → map.get r.innermost name ≡ None)
Agree r (Opened owner ∷ entries) = Agree (step_back (Opened owner) r) entries
Agree r (Called owner caller ∷ entries) = Agree (step_back (Called owner caller) r) entries
Agree r (Bound name before outer ∷ entries) = IsBound r name entries × Agree (step_back (Bound name before outer) r) entries

-- no stamp is above the number of marks, now and with the newest entries taken back
abbrev pub AreLow : ℕ → Registers → Type 0
AreLow count r = (key : Key) → stamp_at r.cells key ≤ count

abbrev pub StayLow : ℕ → Registers → List Scope → Type 0
StayLow count r [] = AreLow count r
StayLow count r (entry ∷ entries) = AreLow count r × StayLow count (step_back entry r) entries

abbrev pub is_noted : List (Replacement Cell) → Key → Bool
is_noted [] key = false
is_noted (change ∷ changes) key = eq_by_cmp key_cmp key (change.first, change.second) || is_noted changes key

-- a cell that has the number of marks as its stamp was bound since the newest one, or what it replaced was noted
abbrev pub AreFresh : ℕ → Registers → List Scope → List (Replacement Cell) → Type 0
AreFresh count r [] changes = (key : Key) → stamp_at r.cells key ≡ count → is_noted changes key ≡ true
AreFresh count r (Opened owner ∷ entries) changes = AreFresh count (step_back (Opened owner) r) entries changes
AreFresh count r (Called owner caller ∷ entries) changes = AreFresh count (step_back (Called owner caller) r) entries changes
AreFresh count r (Bound name before outer ∷ entries) changes =
    (stamp_at r.cells (r.owner, name) ≡ count) × AreFresh count (step_back (Bound name before outer) r) entries changes

abbrev pub FreshSince : Layers → Registers → List Scope → List (Replacement Cell) → Type 0
FreshSince [] r entries changes = Unit {0}
FreshSince (layer ∷ layers) r entries changes = AreFresh (suc (length layers)) r entries changes

pub record IsKept (r : Registers) (entries : List Scope) (changes : List (Replacement Cell)) (older : Layers) : Type 0 where
  pub agree : Agree r (entries ++ entries_of older)
  pub low : StayLow (length older) r entries
  pub fresh : FreshSince older r entries changes

-- the same at each mark
abbrev pub AllKept : Registers → List Scope → List (Replacement Cell) → Layers → Type 0
AllKept r entries changes [] = IsKept r entries changes []
AllKept r entries changes (layer ∷ layers) =
    IsKept r entries changes (layer ∷ layers) × AllKept (back r entries changes) layer.0 layer.1 layers
