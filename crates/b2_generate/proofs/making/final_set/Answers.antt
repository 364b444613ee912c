use Rattle.std.proofs.Common.{ap, ◌∙◌}
use Rattle.std.proofs.lemmas.Result.{IfOk-weaker}
use Rattle.b2_references.specs.Names.{features}
use Rattle.b2_props.specs.Refinement.{refined}
use Rattle.b2_generate.proofs.making.final_set.Goals as goal

pub returns-clause-value : goal.returns-clause-value
returns-clause-value c =
    IfOk-weaker c.refined_set.result _ _ (λ made p. p ∙ ap (refined (features c.args.index.now) c.args.set.now) (c.as_slice.ensures ∙ c.in_ok-directories.ensures)) c.refined_set.ensures.value
