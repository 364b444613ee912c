use Rattle.std.proofs.Common.{◌∙◌, ap, cond, not, true}
use Rattle.std.specs.BTreeSet.{contains}
use Rattle.b2_props.specs.Holding.{pair_cmp}
use Rattle.b2_props.specs.Sets.{Pair, same}
use Rattle.b2_props.proofs.DraftHoldsEachGainedPair.{pair_ties}
use Rattle.b2_references.proofs.LoopsTakeOneMore.{firsts_next, has_next}
use Rattle.b2_references.proofs.default_sets.firsts.Goals as goal

pub loop-pair-preserved : goal.loop-pair-preserved
loop-pair-preserved c =
    let pairs = c.args.pairs.now in
    let i = c.loop-pair.pair-index in
    let p : Pair = c.pair-item.result in
    record {
      made =
          firsts_next pairs i p c.in_ok-is_new.is_new c.push_if.new.list c.loop-pair.made c.loop-pair-test.true c.pair-item.is
          (c.in_ok-is_new.ensures.added ∙ ap (λ (k : Pair). not (contains pair_cmp c.loop-pair.known k)) c.in_ok-copy_pair.ensures ∙ ap not (c.loop-pair.invariant.known p)) c.in_ok-push_if.ensures c.loop-pair.invariant.made;
      known = λ q.
          has_next pairs i p q (contains pair_cmp c.loop-pair.known q) _ c.loop-pair-test.true c.pair-item.is
          (c.in_ok-is_new.ensures.updates.0 q ∙ ap (λ b. cond b true (contains pair_cmp c.loop-pair.known q)) (pair_ties _ q ∙ ap (λ (k : Pair). same k q) c.in_ok-copy_pair.ensures)) (c.loop-pair.invariant.known q);
    }
