-- The first change since a mark keeps what was there.
use Rattle.std.proofs.Common.{◌≡◌, List, [], ◌∷◌, Option, Some, refl}
use Rattle.std.specs.Option.{unwrap_or}
use Rattle.jam_journal.specs.Marks.{saved_by}

pub saved_set : {A : Type 0} (new old : A) (before : Option A) (older : List (Option A)) → saved_by new (Some (unwrap_or before old)) older ≡ saved_by old before older
saved_set new old before [] = refl
saved_set new old before (l ∷ ls) = refl
