use Rattle.std.proofs.Common.{List, sym, subst}
use Rattle.b2_log.specs.declared.line.LogLine.{LogLine}
use Rattle.b2_log.specs.Places.{IsIndexed, place_in}
use Rattle.b2_log.proofs.PlacesFindTheLastLines.{proper_at}
use Rattle.b2_log.proofs.KeptLinesTellTheSame.{kept_more}
use Rattle.b2_log.proofs.log.Log.kept.Goals as goal

pub loop-place-preserved : goal.loop-place-preserved
loop-place-preserved c =
    let indexed = subst (λ (ls : List LogLine). IsIndexed ls (place_in c.self.inside.latest)) (sym c.deref-line-items.ensures.value) c.self.invariant.index in
    kept_more _ _ _ _ _ _ indexed c.loop-place-test.true c.line-item.is c.loop-place.invariant c.in_ok-push_kept.ensures.pushes (c.in_ok-push_kept.ensures.good (proper_at _ _ _ indexed.proper c.loop-place-test.true c.line-item.is))
