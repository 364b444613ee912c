use Rattle.std.proofs.Common.{◌≡◌, ◌-◌, ◌∷◌, [], length, List, sym, ap, subst, ◌∙◌, arith}
use Rattle.std.specs.Prelude.{vec_len}
use Rattle.std.proofs.lemmas.List.{length-append}
use Rattle.b2_declared.specs.declared.visit.Visit.{Visit}
use Rattle.b2_project_walk.specs.Directories.{IsBefore, HaveParentsBefore, place_of}
use Rattle.b2_project_walk.specs.Indexing.{IsIndex}
use Rattle.b2_project_walk.proofs.VisitsGrowByOne.{one_visited, none_added}
use Rattle.b2_project_walk.proofs.visits.Visits.push.Goals as goal

pub invariant_of-self-in-Ok : goal.invariant_of-self-in-Ok
invariant_of-self-in-Ok c =
    one_visited c.self.inside.places c.insert.new.self c.self.inside.visits.items c.push.new.self.items c.args.visit c.in_ok-dir.dir c.len-place.result
    c.self.invariant (ap (place_of c.args.visit.dir) c.self.view_is ∙ c.requires.new)
    (subst (λ (vs : List Visit). IsBefore (length vs) c.args.visit.parent) (sym c.self.view_is) c.requires.parent)
    (c.in_ok-dir.ensures ∙ c.as_text.ensures.value) (c.len-place.ensures ∙ c.self.inside.visits.ok.0) c.in-Ok.ensures.ok c.in_ok-push.ensures.items

pub invariant_of-self-in-Err : goal.invariant_of-self-in-Err
invariant_of-self-in-Err c =
    let visits = c.self.inside.visits.items in
    let count = length-append visits (c.args.visit ∷ []) in
    let more = ap length c.in_ok-push.ensures.items in
    let less : c.pop-visit.new.self.items ≡ visits =
    none_added visits c.push.new.self.items c.pop-visit.new.self.items c.args.visit (vec_len c.push.new.self - 1) c.in_ok-push.ensures.items (let size = c.push.new.self.ok.0 in omega (arith, count, more, size)) c.pop-visit.ensures.rest in
    subst (λ (vs : List Visit). IsIndex c.insert.new.self vs × HaveParentsBefore vs) (sym less)
    (subst (λ ps. IsIndex ps visits) (sym c.in-Err.ensures.err) c.self.invariant.0, c.self.invariant.1)
