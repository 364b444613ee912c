use Rattle.std.proofs.Common.{◌∙◌, cond, true, ap}
use Rattle.b2_props.specs.Sets.{Pair, same}
use Rattle.b2_props.specs.Indexing.{is_indexed}
use Rattle.b2_props.proofs.DraftHoldsEachGainedPair.{pair_ties}
use Rattle.b2_props.proofs.IndexTellsWhichAreThere.{index_more}
use Rattle.b2_props.proofs.pair_index.PairIndex.add.Goals as goal

pub returns : goal.returns
returns c = λ pairs is.
    let pair : Pair = c.args.pair.now in
    index_more pairs pair c.args.self.now _ is (λ q. c.in_ok-_is_new.ensures.updates.0 q ∙ ap (λ b. cond b true (is_indexed c.args.self.now q)) (pair_ties _ q ∙ ap (λ (k : Pair). same k q) c.in_ok-copy_pair.ensures))
