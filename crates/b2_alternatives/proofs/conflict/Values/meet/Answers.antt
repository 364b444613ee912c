use Rattle.std.proofs.Common.{◌∙◌, ◌++◌, take, sym, ap}
use Rattle.std.specs.Option.{option_copied}
use Rattle.b2_alternatives.proofs.ConflictsShowPairByPair.{met_more}
use Rattle.b2_alternatives.proofs.conflict.Values.meet.Goals as goal

pub loop-pair-preserved : goal.loop-pair-preserved
loop-pair-preserved c = λ before are.
    let table = c.args.registry.now in
    let pairs = c.args.pairs.now in
    let i = c.loop-pair.pair-index in
    let met = c.loop-pair.invariant before are in
    met_more table before pairs i c.pair-item.result c.loop-pair-test.true c.pair-item.is c.loop-pair.self c.keep.new.self met
    (sym (ap option_copied (sym c.in_default.is) ∙ c.other.ensures (before ++ take i pairs) met.kept)) c.in_ok-keep.ensures
