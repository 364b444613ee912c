use Rattle.std.proofs.Common.{◌∙◌, ◌++◌, ◌∷◌, [], List, ap, ap₂, subst}
use Rattle.b2_props.specs.Sets.{Pair}
use Rattle.b2_props.specs.Indexing.{IsIndexOf}
use Rattle.b2_alternatives.specs.Usage.{usage_in}
use Rattle.b2_alternatives.proofs.usage.levels_with.Goals as goal

pub returns : goal.returns
returns c =
    let set = c.args.set.now in
    let is : IsIndexOf set c.in_ok-known.known = subst (λ (ps : List Pair). IsIndexOf ps c.in_ok-known.known) c.pairs.ensures c.in_ok-known.ensures in
    c.in_ok-push.ensures.ok
    ∙ ap₂ (λ (a : List (List Pair)) (b : List Pair). a ++ b ∷ []) (c.in_ok-made.ensures set is) (c.in_ok-usage_in.ensures set is ∙ ap (usage_in set) c.as_slice.ensures)
