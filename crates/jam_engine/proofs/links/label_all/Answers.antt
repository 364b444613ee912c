use Rattle.std.proofs.Common.{◌≡◌, ◌<◌, ◌+◌, ◌∷◌, ◌++◌, [], Option, Some, Vec, Global, ℕ, get_or, length, take, arith, sym, ap, ap₂, subst, ◌∙◌}
use Rattle.std.specs.List.{slice_set}
use Rattle.jam_engine.specs.Linking.{HasNone, LabelsMore, waiting}
use Rattle.jam_engine.proofs.AlikeFound.{same_get}
use Rattle.jam_engine.proofs.LabelsGrow.{labelled_same, labelled_more, waiting_same, set_length}
use Rattle.jam_engine.proofs.LabelsHold.{none_at, label_at}
use Rattle.jam_engine.proofs.links.label_all.Goals as goal
use Rattle.jam_engine.proofs.links.label_all.Goals.{then-is_none+in_ok-push, else-is_none}

pub loop-place-preserved : goal.loop-place-preserved
loop-place-preserved c =
    let places = c.args.places.now in
    let i = c.loop-place.place-index in
    let place = get_or places i 0 in
    let first = c.args.first in
    let before = c.args.labels.now.items in
    let waited = c.args.stack.now.items in
    let now = c.loop-place.labels.items in
    let waits = c.loop-place.stack.items in
    let low = c.loop-place-test.true in
    let is = same_get places i 0 low in
    let h = c.loop-place.invariant in
    let within : place < length now = omega (arith, c.requires i 0 low, h.count) in
    elim c.if-is_none.branch [
      | then-is_none+in_ok-push w ↦
          let none : HasNone now place = none_at now place c.index.result.now c.is_none.result within c.index.ensures c.is_none.ensures w.if-is_none.true in
          let sets : c.if-is_none.labels.items ≡ slice_set now place (Some first) = ap (λ (v : Vec (Option ℕ) Global). v.items) w.labels-is in
          let pushes : c.if-is_none.stack.items ≡ waits ++ place ∷ [] = ap (λ (v : Vec ℕ Global). v.items) w.stack-is ∙ w.in_ok-push.ensures.items in
          record {
            count = ap length sets ∙ set_length now place (Some first) ∙ h.count;
            waiting = waiting_same waits c.if-is_none.stack.items now c.if-is_none.labels.items place first none sets pushes ∙ h.waiting;
            more = labelled_more places i place first before now waited waits low is h.more c.if-is_none.labels.items c.if-is_none.stack.items none sets pushes;
          }
      | else-is_none w ↦
          let label = label_at now place c.index.result.now c.is_none.result within c.index.ensures c.is_none.ensures w.if-is_none.false in
          record {
            count = ap (λ (v : Vec (Option ℕ) Global). length v.items) w.labels-is ∙ h.count;
            waiting = ap₂ (λ (s : Vec ℕ Global) (v : Vec (Option ℕ) Global). waiting s.items v.items) w.stack-is w.labels-is ∙ h.waiting;
            more = subst (λ (s : Vec ℕ Global). LabelsMore (take (i + 1) places) first before c.if-is_none.labels.items waited s.items) (sym w.stack-is)
                (subst (λ (v : Vec (Option ℕ) Global). LabelsMore (take (i + 1) places) first before v.items waited waits) (sym w.labels-is)
                (labelled_same places i place first before now waited waits low is h.more label.0 label.1));
          }
    ]
