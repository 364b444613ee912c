use Rattle.std.proofs.Common.{◌∙◌, ◌<◌, ◌+◌, List, ℕ, Ok, Err, length, get_or, take, drop, refl, sym, subst}
use Rattle.std.proofs.lemmas.List.{take_all}
use Rattle.std.proofs.lemmas.List.Elements.{All-get_or}
use Rattle.std.proofs.lemmas.Result.{err_from_is_err_and}
use Rattle.jam_graph.specs.declared.graph.Act.{Act}
use Rattle.jam_graph.specs.declared.graph.Graph.{Graph}
use Rattle.jam_engine.specs.Acts.{acts_at}
use Rattle.jam_engine.specs.Texting.{AreTextsOf}
use Rattle.jam_engine.proofs.ActsAtPlaces.{acts_taken, acts_whole}
use Rattle.jam_engine.proofs.ActsExpand.{text_more, text_stops}
use Rattle.jam_engine.proofs.texts.texts_of.Goals as goal

pub returns-in_err-act_text-clause-texts : goal.returns-in_err-act_text-clause-texts
returns-in_err-act_text-clause-texts c =
    let g = c.loop-place.graph in
    let scene = c.args.scene.now in
    let acts = c.args.acts.now in
    let set = c.args.set.now in
    let i = c.loop-place.place-index in
    let fault = c.in_err-act_text.field-0.0 in
    let (y, e, q) = err_from_is_err_and c.from_residual.result c.from_residual.ensures.1 in
    let within = All-get_or (λ place. place < length acts) set i 0 c.loop-place-test.true c.requires.within in
    let stops = text_stops g scene (acts_at acts (take i set)) (acts_at acts (drop (i + 1) set)) c.index-acts-place.result c.loop-place.texts c.loop-place.invariant.texts fault c.in_err-act_text.ensures.text in
    let whole = acts_whole acts set i (get_or set i 0) c.index-acts-place.result c.loop-place-test.true refl within c.index-acts-place.is in
    subst (λ r. AreTextsOf c.args.graph.now scene (acts_at acts set) r) (sym e)
    (subst (λ z. AreTextsOf c.args.graph.now scene (acts_at acts set) (Err z)) (sym q)
    (subst (λ (h : Graph). AreTextsOf h scene (acts_at acts set) (Err fault)) c.loop-place.invariant.same
    (subst (λ (l : List Act). AreTextsOf g scene l (Err fault)) whole stops)))

pub loop-place-preserved : goal.loop-place-preserved
loop-place-preserved c =
    let g = c.loop-place.graph in
    let scene = c.args.scene.now in
    let acts = c.args.acts.now in
    let set = c.args.set.now in
    let i = c.loop-place.place-index in
    let within = All-get_or (λ place. place < length acts) set i 0 c.loop-place-test.true c.requires.within in
    let more = text_more g scene (acts_at acts (take i set)) c.index-acts-place.result c.loop-place.texts c.push.new.self c.in_ok-act_text.field-0 c.in_ok-push.ensures.ok c.loop-place.invariant.texts c.in_ok-act_text.ensures.text in
    let taken = acts_taken acts set i (get_or set i 0) c.index-acts-place.result c.loop-place-test.true refl within c.index-acts-place.is in
    record {
      same = c.in_ok-act_text.ensures.same ∙ c.loop-place.invariant.same;
      texts = subst (λ (h : Graph). AreTextsOf h scene (acts_at acts (take (i + 1) set)) (Ok c.push.new.self)) (sym c.in_ok-act_text.ensures.same) (subst (λ (l : List Act). AreTextsOf g scene l (Ok c.push.new.self)) taken more);
    }

pub returns-clause-texts : goal.returns-clause-texts
returns-clause-texts c =
    let scene = c.args.scene.now in
    let acts = c.args.acts.now in
    let set = c.args.set.now in
    let i = c.loop-place.place-index in
    subst (λ (h : Graph). AreTextsOf h scene (acts_at acts set) (Ok c.loop-place.texts)) c.loop-place.invariant.same
    (subst (λ (l : List ℕ). AreTextsOf c.loop-place.graph scene (acts_at acts l) (Ok c.loop-place.texts)) (take_all i set c.loop-place-test.false) c.loop-place.invariant.texts)
