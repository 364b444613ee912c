use Rattle.std.proofs.Common.{◌∙◌, ◌++◌, ℕ, List, ap, ap₂}
use Rattle.std.proofs.lemmas.Result.{IfOk-weaker}
use Rattle.b2_props.specs.Sets.{Pair, set_of}
use Rattle.b2_props.specs.Refinement.{expanded}
use Rattle.b2_declared.specs.declared.whole.Declared.{Declared}
use Rattle.b2_references.specs.Names.{features, default_build}
use Rattle.b2_property_texts.specs.Missing.{missing}
use Rattle.b2_alternatives.proofs.choosing.full_set.Goals as goal

pub returns-clause-value : goal.returns-clause-value
returns-clause-value c =
    IfOk-weaker c.expand.result _ _
    (λ full e.
    e ∙ ap (expanded c.declared.result.now.registry) c.in_ok-joined.ensures.value
    ∙ ap₂ (λ (d : Declared) (ps : List Pair). expanded (features d) (set_of (features d) ps)) c.declared.ensures
    (c.as_slice.ensures ∙ c.in_ok-pairs.ensures
    ∙ ap₂ (λ (s ds : List Pair). s ++ missing s ds) c.pairs.ensures (c.in_ok-defaults.ensures ∙ ap₂ (λ (p : ℕ) (n : List ℕ). default_build c.args.index.now (p, n)) c.project.ensures c.name.ensures)))
    c.expand.ensures.value
