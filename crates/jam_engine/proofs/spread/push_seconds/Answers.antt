use Rattle.std.proofs.Common.{◌++◌, sym, ap, ◌∙◌}
use Rattle.std.proofs.lemmas.Iterator.Adapters.{YieldsList-from_rev_slice}
use Rattle.std.proofs.lemmas.Iterator.Consumers.{YieldsList-turn, YieldsList-end}
use Rattle.jam_journal.specs.Tables.{Text}
use Rattle.jam_engine.specs.Spreading.{stacked, seconds_at}
use Rattle.jam_engine.proofs.SecondsByPlaces.{seconds_turned}
use Rattle.jam_engine.proofs.SecondsPushed.{second_pushed}
use Rattle.jam_engine.proofs.spread.push_seconds.Goals as goal

pub loop-place-preserved : goal.loop-place-preserved
loop-place-preserved c =
    let t = YieldsList-turn (YieldsList-from_rev_slice c.args.places.now (cc)) c.loop-place.yielded _ c.loop-place.yielded_by _ _ c.in-Some.place c.in-Some.is c.next.ensures.steps in
    second_pushed c.args.pairs.now c.args.places.now c.loop-place.yielded c.in-Some.place c.requires t.0 t.1 c.index-pairs-place.result c.args.stack.now.items c.loop-place.stack.items c.push.new.self.items _ c.index-pairs-place.is
    (ap (λ (p : Text × Text). p.1) (sym c.index-pairs-place.is)) c.in_ok-push.ensures.items c.loop-place.invariant

pub returns : goal.returns
returns c =
    let start = stacked c.args.stack.now.items in
    let pairs = c.args.pairs.now in
    let t = YieldsList-end (YieldsList-from_rev_slice c.args.places.now (cc)) c.loop-place.yielded _ c.loop-place.yielded_by _ _ c.in-None.is c.next.ensures.steps in
    c.loop-place.invariant ∙ ap (λ l. start ++ seconds_at pairs l) t.0 ∙ ap (λ l. start ++ l) (seconds_turned pairs c.args.places.now)
