use Rattle.std.proofs.Common.{◌∙◌, ◌++◌, List, map, ap, ap₂}
use Rattle.b2_features.specs.Table.{DeclaredFeature}
use Rattle.b2_props.specs.Requests.{product}
use Rattle.b2_props.specs.Sets.{Pair, set_of}
use Rattle.b2_references.specs.Requests.{open_values, sets_for}
use Rattle.b2_references.proofs.LoopsTakeOneMore.{if_ok, map-map}
use Rattle.b2_references.proofs.default_sets.joined_sets.Goals as goal

pub returns : goal.returns
unfolding sets_for
returns c =
    let d = c.args.index.now in
    if_ok c.sets_of.result c.sets_of.ensures (λ made e.
    e ∙ ap₂ (λ (table : List DeclaredFeature) (rows : List (List Pair)). map (set_of table) rows) (ap (λ x. x.registry) c.declared.ensures) (c.as_slice-2.ensures ∙ c.in_ok-rows.ensures)
    ∙ map-map (set_of d.registry) (λ (pairs : List Pair). c.from_vec.result ++ pairs) (product c.as_slice.result.now)
    ∙ ap₂ (λ (own : List Pair) (lists : List (List Pair)). map (λ pairs. set_of d.registry (own ++ pairs)) (product lists)) (c.from_vec.ensures ∙ c.in_ok-own.ensures ∙ c.pairs-2.ensures)
    (c.as_slice.ensures ∙ c.in_ok-values.ensures ∙ ap (open_values d c.args.name.now) c.pairs.ensures))
