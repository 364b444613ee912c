use Rattle.std.proofs.Common.{◌∙◌, ◌<◌, ◌++◌, List, ℕ, length, get_or, refl, sym, ap}
use Rattle.std.proofs.lemmas.List.Elements.{All-get_or}
use Rattle.jam_graph.specs.declared.graph.Act.{Act}
use Rattle.jam_engine.proofs.ActsAtPlaces.{flat_acts}
use Rattle.jam_engine.proofs.steps.sources_at.Goals as goal

pub loop-place-preserved : goal.loop-place-preserved
loop-place-preserved c =
    let acts = c.args.acts.now in
    let set = c.args.set.now in
    let i = c.loop-place.place-index in
    let within = All-get_or (λ place. place < length acts) set i 0 c.loop-place-test.true c.requires in
    flat_acts acts set i (get_or set i 0) c.index-acts-place.result c.loop-place-test.true refl within c.index-acts-place.is (λ (act : Act). act.sources) c.loop-place.sources c.push_copies.new.made c.loop-place.invariant
    (c.in_ok-push_copies.ensures ∙ ap (λ (l : List (List ℕ)). c.loop-place.sources ++ l) c.as_slice.ensures ∙ ap (λ (act : Act). c.loop-place.sources ++ act.sources) (sym c.index-acts-place.is))
