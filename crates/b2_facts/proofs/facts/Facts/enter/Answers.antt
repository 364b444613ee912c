use Rattle.std.proofs.Common.{◌≡◌, ◌<◌, ◌++◌, ◌∷◌, [], List, ℕ, Some, ap, sym, subst, ◌∙◌}
use Rattle.std.specs.List.{Contains}
use Rattle.std.proofs.lemmas.Option.{slice_get_within}
use Rattle.b2_facts.specs.Facts.{Knowledge, path_at}
use Rattle.b2_facts.specs.declared.file_facts.FileFacts.{FileFacts}
use Rattle.b2_facts.proofs.ListsAtPlaces.{at_place}
use Rattle.b2_facts.proofs.FactsAreEntered.{sizes_after}
use Rattle.b2_facts.proofs.facts.Facts.enter.Goals as goal

pub invariant_of-self-2 : goal.invariant_of-self-2
invariant_of-self-2 c =
    let paths : List (List ℕ) = c.self.inside.paths in
    let files : List FileFacts = c.self.inside.files.items in
    let absent = λ (among : Contains paths c.args.path.now). (let r = at_place paths c.args.path.now among in c.requires r.0 (subst (λ (k : Knowledge). path_at k r.0 ≡ Some c.args.path.now) c.self.view_is r.1)) in
    sizes_after paths c.number_of.new.self files c.push_reserved.new.self.items c.args.path.now c.of_plan-file.result (c.in_ok-number.ensures.added absent)
    (c.push_reserved.ensures.items ∙ ap (λ fs. fs ++ c.of_plan-file.result ∷ []) c.in_ok-reserve.ensures.items) c.self.invariant

pub returns-clause-number : goal.returns-clause-number
returns-clause-number c =
    let paths : List (List ℕ) = c.self.inside.paths in
    let files : List FileFacts = c.self.inside.files.items in
    let absent = λ (among : Contains paths c.args.path.now). (let r = at_place paths c.args.path.now among in c.requires r.0 (subst (λ (k : Knowledge). path_at k r.0 ≡ Some c.args.path.now) c.self.view_is r.1)) in
    let sizes = sizes_after paths c.number_of.new.self files c.push_reserved.new.self.items c.args.path.now c.of_plan-file.result (c.in_ok-number.ensures.added absent)
    (c.push_reserved.ensures.items ∙ ap (λ fs. fs ++ c.of_plan-file.result ∷ []) c.in_ok-reserve.ensures.items) c.self.invariant in
    let within = slice_get_within c.number_of.new.self c.in_ok-number.number c.args.path.now c.in_ok-number.ensures.place in
    (within, subst (λ (m : ℕ). c.in_ok-number.number < m) (sym sizes) within)
