use Rattle.std.proofs.Common.{◌∙◌, ◌≡◌, ◌<◌, IfOk, length, get_or, refl, sym, ap, subst}
use Rattle.std.proofs.lemmas.List.Elements.{All-get_or}
use Rattle.jam_graph.specs.declared.graph.Act.{Act}
use Rattle.jam_engine.specs.Acts.{is_quiet_in}
use Rattle.jam_engine.proofs.ActsAtPlaces.{same_item, name_found, name_later}
use Rattle.jam_engine.proofs.steps.name_at.Goals as goal

pub returns-then-not-is_quiet : goal.returns-then-not-is_quiet
returns-then-not-is_quiet c =
    let w = c.args.world.now.now in
    let acts = c.args.acts.now in
    let set = c.args.set.now in
    let i = c.loop-place.place-index in
    let tested = c.index-acts-place.result in
    let act = c.index-acts-place-then-not-is_quiet.result in
    let within = All-get_or (λ place. place < length acts) set i 0 c.loop-place-test.true c.requires in
    let same = same_item acts (get_or set i 0) tested act within c.index-acts-place.is c.index-acts-place-then-not-is_quiet.is in
    let loud = ap (is_quiet_in w) (sym same) ∙ sym c.is_quiet.ensures ∙ c.if-not-is_quiet.true in
    subst (λ n. IfOk c.copy.result (λ name. name ≡ n))
    (name_found acts set i (get_or set i 0) act c.loop-place-test.true refl within c.index-acts-place-then-not-is_quiet.is w c.loop-place.invariant (get_or acts (get_or set i 0) act).name loud (ap (λ (a : Act). a.name) (sym c.index-acts-place-then-not-is_quiet.is))) c.copy.ensures

pub loop-place-preserved : goal.loop-place-preserved
loop-place-preserved c =
    let w = c.args.world.now.now in
    let acts = c.args.acts.now in
    let set = c.args.set.now in
    let i = c.loop-place.place-index in
    let within = All-get_or (λ place. place < length acts) set i 0 c.loop-place-test.true c.requires in
    name_later acts set i (get_or set i 0) c.index-acts-place.result c.loop-place-test.true refl within c.index-acts-place.is w c.loop-place.invariant (sym c.is_quiet.ensures ∙ c.if-not-is_quiet.false)
