-- After cleaning each step is to run by the first or the second point of staleness.
use Rattle.std.proofs.Common.{◌≡◌, Bool, true, false, refl, ap, ◌∙◌}
use Rattle.b2_runs.proofs.FirstElementOrLater.{some_element}
use Rattle.b2_explain.specs.Laws.{CleanedIsStale, IsFirstPoint, IsFirstPoint.is_notfile, IsFirstPoint.lacks}

pub cleaned_is_stale : CleanedIsStale
cleaned_is_stale u before after i step apart cleaned same at = go step.notfile refl
  where
    go : (flag : Bool) → step.notfile ≡ flag → IsFirstPoint u step
    go true e = is_notfile e
    go false e =
        let (out, among) = some_element step.outs (apart.some_out i step at) in
        lacks out among (ap (λ folder. folder out) same ∙ cleaned.gone out (i, step, record { at = at; among = among }, e))
