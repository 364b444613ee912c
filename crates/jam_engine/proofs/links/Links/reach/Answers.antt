use Rattle.std.proofs.Common.{◌∷◌, ◌++◌, [], List, ℕ, ap, refl, subst, ◌∙◌}
use Rattle.jam_engine.specs.Linking.{IsSearch}
use Rattle.jam_engine.proofs.LabelsHold.{search_from}
use Rattle.jam_engine.proofs.LinksOpen.{first_of_last}
use Rattle.jam_engine.proofs.links.Links.reach.Goals as goal

pub loop-place-init : goal.loop-place-init
loop-place-init c =
    let first = c.args.first in
    record {
      search = search_from first c.push.new.self.items c.args.self.now _ (c.in_ok-push.ensures.items ∙ ap (λ (l : List ℕ). l ++ first ∷ []) c.new-stack.ensures.items) refl refl refl c.requires.none refl c.requires.labels;
      acts = refl;
    }

pub open_all-requires : goal.open_all-requires
open_all-requires c =
    first_of_last c.args.first c.in-Some.place c.pop.new.self.items c.loop-place.self (subst (λ (l : List ℕ). IsSearch c.args.first l c.loop-place.self) c.in-Some.ensures.items c.loop-place.invariant.search)
