-- Children that all are to end well, with one more or without one.
use Rattle.std.proofs.Common.{◌≡◌, ℕ, zero, suc, Bool, true, ◌&&◌, List, [], ◌∷◌, ◌++◌, Some, refl, sym, ◌∙◌, slice_get, remove}
use Rattle.std.proofs.lemmas.List.Folds.{list_all-append}
use Rattle.b2_files.proofs.KnownPathsStayKnown.{both, and_true}
use Rattle.b2_memory.specs.declared.running_child.RunningChild.{RunningChild}
use Rattle.b2_memory.specs.GoodEnds.{all_end_well}
use Rattle.b2_memory.specs.Hosts.{ends_well_of}
use Rattle.b2_memory.proofs.ChildEnds.{first_is, none_is}

-- one child more
pub all_with : (rs : List RunningChild) (r : RunningChild) → all_end_well rs ≡ true → r.well ≡ true → all_end_well (rs ++ r ∷ []) ≡ true
all_with rs r h well =
    list_all-append (λ (x : RunningChild). x.well) rs (r ∷ []) ∙ and_true (all_end_well rs) (r.well && true) h (and_true r.well true well refl)

-- one child less
pub all_without : (rs : List RunningChild) (k : ℕ) → all_end_well rs ≡ true → all_end_well (remove rs k) ≡ true
all_without [] zero h = refl
all_without [] (suc k) h = refl
all_without (x ∷ rs) zero h = (both x.well (all_end_well rs) h).1
all_without (x ∷ rs) (suc k) h =
    let parts = both x.well (all_end_well rs) h in
    and_true x.well (all_end_well (remove rs k)) parts.0 (all_without rs k parts.1)

-- the child at a place
pub ends_well_at : (rs : List RunningChild) (k : ℕ) (well : Bool) → all_end_well rs ≡ true → slice_get (ends_well_of rs) k ≡ Some well → well ≡ true
ends_well_at [] k well h e = absurd (none_is k well e)
ends_well_at (x ∷ rs) zero well h e = sym (first_is x.well (ends_well_of rs) well e) ∙ (both x.well (all_end_well rs) h).0
ends_well_at (x ∷ rs) (suc k) well h e = ends_well_at rs k well (both x.well (all_end_well rs) h).1 e
