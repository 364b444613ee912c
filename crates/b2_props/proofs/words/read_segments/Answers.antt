use Rattle.std.proofs.Common.{◌∙◌, ◌++◌, ◌∷◌, [], ap, ap₂, sym, map, List}
use Rattle.std.proofs.lemmas.List.{map-append}
use Rattle.std.proofs.lemmas.Result.{err_from_is_err_and}
use Rattle.b2_props.specs.Sets.{Pair}
use Rattle.b2_props.specs.Words.{segment_pairs, segment_fault}
use Rattle.b2_props.proofs.FirstFaultIsTheCause.{map_next, fine_next, first_cause}
use Rattle.b2_props.proofs.words.read_segments.Goals as goal

pub returns-in_err-segment_pairs-clause-cause : goal.returns-in_err-segment_pairs-clause-cause
returns-in_err-segment_pairs-clause-cause c =
    let p = err_from_is_err_and c.from_residual.result c.from_residual.ensures.1 in
    rw (p.1, p.2) (first_cause (segment_fault c.args.registry.now c.args.word.now) c.args.segments.now c.loop-segment.segment-index c.segment-item.result _ c.loop-segment-test.true c.segment-item.is c.loop-segment.invariant.fine c.in_err-segment_pairs.ensures.cause)

pub loop-segment-preserved : goal.loop-segment-preserved
loop-segment-preserved c =
    record {
      made =
          ap (map (λ pairs. pairs.items)) c.in_ok-push.ensures.items ∙ map-append (λ pairs. pairs.items) c.loop-segment.made.items (c.in_ok-segment_pairs.field-0 ∷ [])
          ∙ ap₂ (λ (pss : List (List Pair)) (ps : List Pair). pss ++ ps ∷ []) c.loop-segment.invariant.made c.in_ok-segment_pairs.ensures.value
          ∙ sym (map_next (segment_pairs c.args.registry.now) c.args.segments.now c.loop-segment.segment-index c.segment-item.result c.loop-segment-test.true c.segment-item.is);
      fine = fine_next (segment_fault c.args.registry.now c.args.word.now) c.args.segments.now c.loop-segment.segment-index c.segment-item.result c.loop-segment-test.true c.segment-item.is c.loop-segment.invariant.fine c.in_ok-segment_pairs.ensures.ok;
    }
