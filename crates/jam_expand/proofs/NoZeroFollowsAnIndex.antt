-- What follows the `]` of an index is the end of a text that has no zero byte.
use Rattle.std.proofs.Common.{◌≡◌, ℕ, Bool, true, false, eqb, List, [], ◌∷◌, refl, subst, cond, Some, None}
use Rattle.b2_base.specs.Bytes.{HasNoZero}
use Rattle.jam_expand.specs.Indexes.{ended_by, after_close}
use Rattle.jam_expand.proofs.TextsAreCutAtSigns.{rest_no_zero}

ended_no_zero : (bytes after : List ℕ) → ended_by bytes ≡ Some after → HasNoZero bytes → HasNoZero after
ended_no_zero [] after e h = let same : [] ≡ after = cc in subst HasNoZero same h
ended_no_zero (byte ∷ bytes) after e h = go (eqb byte 58) e
  where
    go : (t : Bool) → cond t (Some (byte ∷ bytes)) None ≡ Some after → HasNoZero after
    go true f = let same : byte ∷ bytes ≡ after = cc in subst HasNoZero same h
    go false f = cc

pub closed_no_zero : (bytes after : List ℕ) → after_close bytes ≡ Some after → HasNoZero bytes → HasNoZero after
closed_no_zero [] after e h = cc
closed_no_zero (byte ∷ bytes) after e h = go (eqb byte 93) e
  where
    go : (t : Bool) → cond t (ended_by bytes) None ≡ Some after → HasNoZero after
    go true f = ended_no_zero bytes after f (rest_no_zero byte bytes (byte ∷ bytes) refl h)
    go false f = cc
