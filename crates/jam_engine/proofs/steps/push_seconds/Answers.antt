use Rattle.std.proofs.Common.{◌∙◌, ◌<◌, ◌++◌, ◌∷◌, [], List, ℕ, length, get_or, refl, sym, ap}
use Rattle.std.proofs.lemmas.List.Elements.{All-get_or}
use Rattle.jam_engine.proofs.ActsAtPlaces.{seconds_step}
use Rattle.jam_engine.proofs.steps.push_seconds.Goals as goal

pub loop-place-preserved : goal.loop-place-preserved
loop-place-preserved c =
    let pairs = c.args.pairs.now in
    let places = c.args.places.now in
    let i = c.loop-place.place-index in
    let within = All-get_or (λ place. place < length pairs) places i 0 c.loop-place-test.true c.requires in
    seconds_step c.args.made.now c.loop-place.made c.push.new.self pairs places i (get_or places i 0) c.index-pairs-place.result c.loop-place-test.true refl within c.index-pairs-place.is c.loop-place.invariant
    (c.in_ok-push.ensures.ok ∙ ap (λ (text : List ℕ). c.loop-place.made ++ text ∷ []) c.in_ok-copy.ensures ∙ ap (λ (pair : List ℕ × List ℕ). c.loop-place.made ++ pair.1 ∷ []) (sym c.index-pairs-place.is))
