-- All that is promised of a call that starts the next step.
use Rattle.std.proofs.Common.{◌≡◌, ◌≢◌, ℕ, ◌<◌, Bool, true, false, [], ◌∷◌, ◌++◌, Some, Ok, Err, Result, IfOk, OnOk, MatchResult, refl, sym, ap, subst}
use Rattle.b2_host.specs.declared.children.ChildEvent.TheVariants.{Start}
use Rattle.b2_host.specs.declared.fault.IoFault.{IoFault}
use Rattle.b2_host.specs.declared.fault.IoFault.TheVariants as faults
use Rattle.b2_host.specs.Outside.{Outside, IoLooks}
use Rattle.b2_host.specs.OutsideLaws.{Keeps, keeps_same, keeps_io_looks, keeps_starts}
use Rattle.b2_host.specs.Output.{Output, with_written}
use Rattle.b2_host.specs.OutputLaws.{out_keeps_same, out_keeps_prints}
use Rattle.b2_plan.specs.declared.plan.Plan.{Plan}
use Rattle.b2_plan.specs.declared.step.Step.{Step}
use Rattle.b2_plan.specs.Plans.{step_at, Apart}
use Rattle.b2_runs.specs.Moments.{Moment}
use Rattle.b2_runs.specs.Reports.{start_line}
use Rattle.b2_looks.specs.Looks.{AreLooks}
use Rattle.b2_drain.specs.Drains.{Made}
use Rattle.b2_endings.specs.Writings.{Says}
use Rattle.b2_update.specs.declared.run.Run.{Run}
use Rattle.b2_update.specs.declared.stop.UpdateStop.{UpdateStop}
use Rattle.b2_update.specs.Stops.{host_stop_of, sink_stop_of}
use Rattle.b2_update.specs.Going.{IsGoing, Halts, SameWay, Rests, NoneStarts, unended, stale}
use Rattle.b2_update.specs.InRun.{Tells}
use Rattle.b2_update.proofs.InRunHalts.{StandsStill, IsOfCall, in_run_halts}
use Rattle.b2_update.proofs.TellsCompose.{same_way, tells_here, tells_at}
use Rattle.b2_update.proofs.GoingHalts.{sink_halts}
use Rattle.b2_update.proofs.StepIsStarted.{IsTaken, IsStarted, taken_halts, goes_on, taken_way, taken_rests, taken_fewer, taken_unended}
use Rattle.b2_update.proofs.StartIsTold.{in_run_on, in_run_stops}

-- the call's promises
pub record StartsOn (plan : Plan) (made : Made) (x : Moment) (a : Run) (y : Moment) (b : Run) (r : Result Bool UpdateStop) : Type 0 where
  pub way : SameWay a b
  pub going : (entry : Moment) → IsGoing plan entry x a → MatchResult r (λ more. IsGoing plan entry y b) (Halts plan b.looks.board.sched.jobs b.waits entry y)
  pub rests : OnOk r (Rests b)
  pub none : IfOk r (λ more. more ≡ false → NoneStarts b)
  pub fewer : IfOk r (λ more. more ≡ true → stale b.looks.board.sched < stale a.looks.board.sched)
  pub kept : Keeps x.host y.host
  pub unended : OnOk r (unended b.looks.board.sched ≡ unended a.looks.board.sched)
  pub told : Tells plan made x a y b r

-- no step can start
pub starts_none : (plan : Plan) (made : Made) (x : Moment) (a b : Run) → b ≡ a → Rests a → NoneStarts a → StartsOn plan made x a x b (Ok false)
starts_none plan made x a b same rests none = subst (λ r. StartsOn plan made x a x r (Ok false)) (sym same) (record {
  way = same_way a;
  going = λ entry is. is;
  rests = rests;
  none = λ e. none;
  fewer = λ e. absurd (let f : false ≡ true = e in cc);
  kept = keeps_same x.host x.host refl;
  unended = refl;
  told = tells_here plan made x a false;
})

module _ (plan : Plan) (made : Made) (x y : Moment) (a b c : Run) (i : ℕ) (apart : Apart plan.steps plan.roots) (taken : IsTaken plan i a b) (r : Result Bool UpdateStop) where
  -- it was taken, and then a call of the host failed, or no memory was left
  pub starts_no_child : (fault : IoFault) → c ≡ b → IoLooks {T = Unit {0}} x.host y.host (Err fault) → y.out ≡ x.out → r ≡ Err (host_stop_of fault) → StartsOn plan made x a y c r
  starts_no_child fault same failed out is = subst (λ d. StartsOn plan made x a y d r) (sym same) (subst (StartsOn plan made x a y b) (sym is) (record {
    way = taken_way plan i a b taken;
    going = λ entry going. taken_halts plan entry x a b i apart going taken y fault failed out;
    rests = tt;
    none = tt;
    fewer = tt;
    kept = keeps_io_looks {T = Unit {0}} x.host y.host (Err fault) failed;
    unended = tt;
    told = tells_at {T = Bool} plan made x y a b (Err (host_stop_of fault)) (disk_same fault failed) (λ disk shows u entry events here old. in_run_halts u entry x y a b.sights.facts disk events (host_stop_of fault) old (still fault failed) (of_call fault));
  }))
    where
      of_call : (f : IoFault) → IsOfCall (host_stop_of f)
      of_call faults.Failed = tt
      of_call faults.OutOfMemory = tt

      disk_same : (f : IoFault) → IoLooks {T = Unit {0}} x.host y.host (Err f) → y.host.disk ≡ x.host.disk
      disk_same faults.Failed failed = ap (λ (o : Outside). o.disk) failed.same
      disk_same faults.OutOfMemory same = ap (λ (o : Outside). o.disk) same

      still : (f : IoFault) → IoLooks {T = Unit {0}} x.host y.host (Err f) → StandsStill x y
      still faults.Failed failed = record { children = ap (λ (o : Outside). o.children) failed.same; reads = ap (λ (o : Outside). o.reads) failed.same; written = ap (λ (o : Output). o.written) out }
      still faults.OutOfMemory same = record { children = ap (λ (o : Outside). o.children) same; reads = ap (λ (o : Outside). o.reads) same; written = ap (λ (o : Output). o.written) out }

  module _ (step : Step) (at : step_at plan.steps i ≡ Some step) (is : AreLooks plan 0 a.sights.facts a.looks) (rests : Rests a) (so : IsStarted i step x.host y.host b c) where
    way_on : SameWay a c
    way_on = subst (SameWay a) (sym so.run) (record { way = w.way; jobs = w.jobs; quit = w.quit })
      where
        w : SameWay a b
        w = taken_way plan i a b taken

    keeps_on : Keeps x.host y.host
    keeps_on = keeps_starts {T = Unit {0}} i step.text so.ins step.outs x.host y.host (Ok tt) so.host

    -- the child was started, and its line was written
    pub starts_child : y.out ≡ with_written (start_line step) x.out → r ≡ Ok true → StartsOn plan made x a y c r
    starts_child out done = subst (StartsOn plan made x a y c) (sym done) (record {
      way = way_on;
      going = λ entry going. goes_on plan entry x a b i apart going taken c step y at so (out_keeps_prints {T = Unit {0}} (start_line step) x.out y.out (Ok tt) out) (ap (λ (o : Output). o.faults) out);
      rests = subst Rests (sym so.run) (taken_rests plan i a b taken rests);
      none = λ e. absurd (let f : true ≡ false = e in cc);
      fewer = λ e. subst (λ (d : Run). stale d.looks.board.sched < stale a.looks.board.sched) (sym so.run) (taken_fewer plan i a b taken);
      kept = keeps_on;
      unended = subst (λ (d : Run). unended d.looks.board.sched ≡ unended a.looks.board.sched) (sym so.run) (taken_unended plan i a b taken);
      told = tells_at plan made x y a c (Ok true) (ap (λ (o : Outside). o.disk) so.host) (λ disk shows u entry events here old. (events ++ Start i ∷ [], in_run_on plan made x y a b c i step at is rests taken so disk shows u entry events here old out));
    })

    -- the child was started, and its line could not be written
    pub starts_untold : (fault : IoFault) → start_line step ≢ [] → Says {T = Unit {0}} (start_line step) x.out y.out (Err fault) → r ≡ Err (sink_stop_of fault) → StartsOn plan made x a y c r
    starts_untold fault some says stopped = subst (StartsOn plan made x a y c) (sym stopped) (record {
      way = way_on;
      going = λ entry going. sink_halts plan entry (record { host = y.host; out = x.out }) y c (goes_on plan entry x a b i apart going taken c step (record { host = y.host; out = x.out }) at so (out_keeps_same x.out x.out refl) refl) (start_line step) fault refl says;
      rests = tt;
      none = tt;
      fewer = tt;
      kept = keeps_on;
      unended = tt;
      told = tells_at {T = Bool} plan made x y a c (Err (sink_stop_of fault)) (ap (λ (o : Outside). o.disk) so.host) (λ disk shows u entry events here old. in_run_stops plan made x y a b c i step at is rests taken so disk shows u entry events here old fault some says);
    })
