use Rattle.std.proofs.Common.{List, Option, ℕ, take, sym, subst}
use Rattle.std.proofs.lemmas.List.{take_all}
use Rattle.jam_engine.specs.Linking.{AreFirsts, AreSetsOf}
use Rattle.jam_engine.proofs.LabelsHold.{next_label, sets_step}
use Rattle.jam_engine.proofs.SetsOfLabels.{adds_next, all_sets}
use Rattle.jam_engine.proofs.links.sets_of.Goals as goal

pub loop-place-preserved : goal.loop-place-preserved
loop-place-preserved c =
    let acts = c.args.acts.now in
    let labels = c.as_slice-label-items.result.now in
    let place = c.loop-place.place in
    let first = c.unwrap_or-first.result in
    let low = c.loop-place-test.true in
    let firsts = subst (λ (l : List (Option ℕ)). AreFirsts acts l) (sym c.as_slice-label-items.ensures.value) c.in_ok-labels.ensures in
    let label = next_label acts labels place first _ firsts low c.unwrap_or-first.ensures in
    let adds = adds_next acts labels place first c.loop-place.sets.items c.loop-place.numbers.items firsts low label c.loop-place.invariant in
    sets_step labels place first c.add_to_set.new.sets.items c.add_to_set.new.numbers.items low label (c.in_ok-add_to_set.ensures (take place labels) adds)

pub returns : goal.returns
returns c =
    let acts = c.args.acts.now in
    let labels = c.as_slice-label-items.result.now in
    let sets = c.loop-place.sets.items in
    let numbers = c.loop-place.numbers.items in
    let firsts = subst (λ (l : List (Option ℕ)). AreFirsts acts l) (sym c.as_slice-label-items.ensures.value) c.in_ok-labels.ensures in
    all_sets acts labels sets numbers firsts (subst (λ (l : List (Option ℕ)). AreSetsOf l sets numbers) (take_all c.loop-place.place labels c.loop-place-test.false) c.loop-place.invariant)
