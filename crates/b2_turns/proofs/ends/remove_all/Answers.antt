use Rattle.std.proofs.Common.{◌≡◌, get_or, ap, subst}
use Rattle.b2_host.specs.Outside.{Outside}
use Rattle.b2_host.specs.FileCalls.{removed}
use Rattle.b2_turns.proofs.OutputsAreRemoved.{gone_more, removes_more}
use Rattle.b2_turns.proofs.ends.remove_all.Goals as goal

pub loop-out-preserved : goal.loop-out-preserved
loop-out-preserved g c =
    let outs = c.args.outs.now in
    let i = c.loop-out.out-index in
    let d = c.out-item.result in
    let y = g.F.Files.outside c.loop-out.files in
    let z = g.F.Files.outside c.remove.new.self in
    let e : z ≡ removed (get_or outs i d) y = subst (λ p. z ≡ removed p y) c.out-item.is c.in_ok-remove.ensures in
    record {
      removes = removes_more outs i d (g.F.Files.outside c.args.files.now) y z c.loop-out-test.true c.loop-out.invariant.removes e;
      gone = gone_more outs i d y.disk z.disk c.loop-out-test.true c.loop-out.invariant.gone (ap (λ (o : Outside). o.disk) e);
    }
