use Rattle.std.proofs.Common.{◌∙◌, ◌++◌, List, not, is_some, ap, ap₂}
use Rattle.std.specs.FinMap as map
use Rattle.b2_props.specs.Sets.{Pair}
use Rattle.b2_props.specs.Refinement.{names}
use Rattle.b2_property_texts.proofs.SameTestsFilterAlike.{same_filter}
use Rattle.b2_property_texts.proofs.missing.with_missing.Goals as goal

pub returns : goal.returns
returns c =
    c.in_ok-append.ensures.ok
    ∙ ap₂ (λ (xs ys : List Pair). xs ++ ys) (c.from_vec-made.ensures ∙ c.in_ok-pairs.ensures)
    (c.in_ok-more.ensures ∙ same_filter (λ p. not (is_some (map.get c.in_ok-features.features p.0))) (λ p. not (names c.args.set.now p.0)) (λ p. ap not (c.in_ok-features.ensures p.0)) c.args.defaults.now)
