use Rattle.std.proofs.Common.{◌∙◌, ap, subst, IfErr}
use Rattle.b2_props.specs.Words.{cut, first_of, pair_fault, IsBy}
use Rattle.b2_props.proofs.FirstFaultIsTheCause.{named_are}
use Rattle.b2_props.proofs.words.segment_pairs.Goals as goal

pub returns-in_ok-values-in-Some-clause-cause : goal.returns-in_ok-values-in-Some-clause-cause
returns-in_ok-values-in-Some-clause-cause c =
    let halves = c.in-Some.ensures in
    let values = c.as_slice.ensures.value ∙ c.in_ok-values-in-Some.ensures ∙ ap (cut 44) halves.after_it in
    let pairs = named_are c.args.registry.now c.args.segment.now c.in_ok-feature-in-Some.feature c.as_slice.result.now halves.named (c.in_ok-feature-in-Some.ensures ∙ halves.before_it) values in
    subst (λ o. IfErr c.named_pairs.result (IsBy o)) (ap (first_of (pair_fault c.args.registry.now c.args.word.now)) pairs) c.named_pairs.ensures.cause
