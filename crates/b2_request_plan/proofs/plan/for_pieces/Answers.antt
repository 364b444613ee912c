use Rattle.std.proofs.Common.{ℕ, List, reverse, ap, subst}
use Rattle.b2_making.specs.Answers.{Grows}
use Rattle.b2_request_plan.specs.Plans.{IsResultOf}
use Rattle.b2_generate.specs.declared.node.Node.{Node}
use Rattle.b2_request_plan.proofs.PlanIsWhatWasGenerated.{in_roots, begun_ready, pieces_at, result_answered}
use Rattle.b2_request_plan.proofs.plan.for_pieces.Goals as goal

pub give_all-given-requires : goal.give_all-given-requires
give_all-given-requires g c =
    begun_ready _ c.args.index.now _ _ c.begun-generation.ensures.project (ap (λ (ns : List Node). reverse ns) c.begun-generation.ensures.nodes) c.begun-generation.ensures.firsts c.requires.numbered

pub result_of-result-requires : goal.result_of-result-requires
result_of-result-requires g c =
    in_roots c.args.roots.now c.begun-generation.result.builder c.give_all-given.new.generation.builder c.begun-generation.ensures.steps
    (subst (λ (rs : List (List ℕ)). Grows rs c.begun-generation.result.builder c.give_all-given.new.generation.builder) c.begun-generation.ensures.roots c.give_all-given.ensures.pieces.grows) c.requires.bin

pub returns : goal.returns
returns g c = λ request same.
    result_answered c.give_all-given.result c.result_of-result.result c.args.pieces same
    (subst (λ (ns : List Node). IsResultOf c.args.index.now c.args.roots.now (reverse ns) c.give_all-given.new.generation.builder c.give_all-given.result c.result_of-result.result) c.as_slice.ensures.value c.result_of-result.ensures)
    (pieces_at c.begun-generation.ensures.project c.begun-generation.ensures.roots (ap (λ (ns : List Node). reverse ns) c.begun-generation.ensures.nodes) c.begun-generation.ensures.steps c.begun-generation.ensures.evaluator c.give_all-given.ensures.pieces)
