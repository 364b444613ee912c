use Rattle.std.proofs.Common.{◌≡◌, ◌∙◌, ◌++◌, ◌∷◌, ◌<◌, [], List, ℕ, None, true, false, sym, ap, subst, map, take, get_or, length}
use Rattle.std.specs.List.{filter}
use Rattle.std.specs.FinMap as map
use Rattle.std.proofs.lemmas.List.{append-nil}
use Rattle.b2_props.specs.Sets.{value_of}
use Rattle.b2_props.specs.Refinement.{components}
use Rattle.b2_props.specs.Elements.{shows, element}
use Rattle.b2_props.specs.Holding.{Holds}
use Rattle.b2_props.proofs.ShownElementsGrowByOne.{shows_given, elements_next}
use Rattle.b2_props.proofs.elements.elements.Goals as goal
use Rattle.b2_props.proofs.elements.elements.Goals.{then-shows+in_ok-element+in_ok-push, else-shows}

pub loop-pair-preserved : goal.loop-pair-preserved
loop-pair-preserved c =
    let table = c.args.registry.now in
    let set = c.args.set.now in
    let i = c.loop-pair.pair-index in
    let x = c.pair-item.result in
    let within : i < length set = subst (λ ps. i < length ps) c.pairs-pair-items.ensures c.loop-pair-test.true in
    let is : x ≡ get_or set i x = c.pair-item.is ∙ ap (λ ps. get_or ps i x) c.pairs-pair-items.ensures in
    let holds : Holds table (value_of (components table c.pairs.result.now)) (components table c.pairs.result.now) c.add_components.new.self = c.in_ok-add_components.ensures.holding (λ _. None) [] (c.new-given.ensures table) in
    let shown : c.shows.result ≡ shows table set x =
    c.shows.ensures ∙ shows_given table set x (map.get c.add_components.new.self.values x.0) (λ e. holds.values x.0 e ∙ ap (λ ps. value_of (components table ps) x.0) c.pairs.ensures) in
    elim c.if-shows.branch [
      | then-shows+in_ok-element+in_ok-push w ↦
          ap (λ v. v.items) w.found-is ∙ w.in_ok-push.ensures.items ∙ ap (λ (e : List ℕ). c.loop-pair.found.items ++ e ∷ []) w.in_ok-element.ensures
          ∙ ap (λ (ps : List (List ℕ)). ps ++ element table x ∷ []) c.loop-pair.invariant ∙ sym (elements_next table set i x true within is (sym shown ∙ w.if-shows.true))
      | else-shows w ↦
          ap (λ v. v.items) w.found-is ∙ c.loop-pair.invariant ∙ sym (elements_next table set i x false within is (sym shown ∙ w.if-shows.false) ∙ append-nil (map (element table) (filter (shows table set) (take i set))))
    ]
