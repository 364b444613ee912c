-- An element read at a place stands there: for the project of a call, its visit, and its change.
use Rattle.std.proofs.Common.{◌≡◌, ℕ, ◌<◌, List, Some, get_or, length, refl, sym, ap}
use Rattle.std.specs.Prelude.{slice_get, slice_set, unwrap_or}
use Rattle.std.specs.Option.{option_map_or}
use Rattle.std.proofs.lemmas.Option.{slice_get_read}
use Rattle.b2_declared.specs.declared.visit.Visit.{Visit}
use Rattle.b2_declared.specs.declared.visit.Call.{Call}
use Rattle.b2_declared.specs.declared.place.Place.{Place}
use Rattle.b2_declared.specs.DeclaringCalls.{nowhere, visit_of}
use Rattle.b2_declared.specs.Gathering.{with_place}

-- an element that was read is the one at its place
pub found_at : {X : Type 0} (xs : List X) (i : ℕ) (x : X) → i < length xs → x ≡ get_or xs i x → slice_get xs i ≡ Some x
found_at xs i x within is = slice_get_read xs (length xs) i x refl within is

-- the project of a call
pub visit_read : (visits : List Visit) (c : Call) (v : Visit) → c.project < length visits → v ≡ get_or visits c.project v → v ≡ visit_of visits c
visit_read visits c v within is = sym (ap (λ o. unwrap_or o nowhere) (found_at visits c.project v within is))

-- a project that was read and changed
pub place_changed : (places : List Place) (i : ℕ) (p : Place) (change : Place → Place) → i < length places → p ≡ get_or places i p → slice_set places i (change p) ≡ with_place places i change
place_changed places i p change within is = sym (ap (λ o. option_map_or (λ q. slice_set places i (change q)) o places) (found_at places i p within is))
