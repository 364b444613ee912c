-- What the end of an update promises, by its results.
use Rattle.std.proofs.Common.{◌≡◌, List, [], Option, Some, None, Result, Ok, Err, sym, ap, subst, ◌∙◌}
use Rattle.std.specs.Prelude.{MatchResult}
use Rattle.b2_host.specs.declared.children.ChildEvent.{ChildEvent}
use Rattle.b2_host.specs.declared.fault.IoFault.TheVariants as io
use Rattle.b2_host.specs.Disks.{Disk}
use Rattle.b2_host.specs.ChildProcesses.{BothTold}
use Rattle.b2_host.specs.Outside.{Outside, Fails}
use Rattle.b2_host.specs.OutsideLaws.{Keeps, BeginsPast, keeps_same, keeps_fails}
use Rattle.b2_host.specs.Output.{Output}
use Rattle.b2_plan.specs.declared.plan.Plan.{Plan}
use Rattle.b2_runs.specs.Staleness.{Update}
use Rattle.b2_runs.specs.Moments.{Moment}
use Rattle.b2_runs.specs.Soundness.{Distinguishes}
use Rattle.b2_sched.specs.Sound.{IsSound}
use Rattle.b2_drain.specs.Drains.{Made}
use Rattle.b2_facts.specs.declared.stop.FilesStop.{FilesStop}
use Rattle.b2_facts.specs.declared.stop.FilesStop.TheVariants as files
use Rattle.b2_looks.specs.Looks.{AreLooks}
use Rattle.b2_reach.specs.declared.sights.Sights.{Sights}
use Rattle.b2_endings.specs.declared.ending.Ending.{Ending}
use Rattle.b2_endings.specs.Endings.{StopLooks, IsEndingOf, EndingIsTrue, EndingTold}
use Rattle.b2_update.specs.declared.run.Run.{Run}
use Rattle.b2_update.specs.declared.stop.UpdateStop.{UpdateStop}
use Rattle.b2_update.specs.declared.stop.UpdateStop.TheVariants as stops
use Rattle.b2_update.specs.declared.update_answer.UpdateAnswer.{UpdateAnswer}
use Rattle.b2_update.specs.Going.{IsGoing, Halts, SameWay, Rests, NoneStarts}
use Rattle.b2_update.specs.InRun.{IsUpdateHere, IsInRun, HasHalted, Tells}
use Rattle.b2_update.specs.Endings.{HasCome, HasComeInRun, EndTells, EndingSays}
use Rattle.b2_update.proofs.GoingHalts.{host_halts}
use Rattle.b2_update.proofs.InRunHalts.{StandsStill, in_run_halts}
use Rattle.b2_update.proofs.TellsCompose.{distinguished_before, update_stays}
use Rattle.b2_update.proofs.UpdateStandsAtEntry.{told_by}
use Rattle.b2_update.proofs.EndIsCome.{come_so, untold_halts, told_end, untold_end}
use Rattle.b2_update.proofs.EndIsTold.{come_in_run, untold_in_run, at_rest, run_ended}

-- the run with what was learned at its end
abbrev pub learned : Run → Sights → Run
learned run s = record run { sights = s }

-- ---- the ending could not be found

pub ending_halts : (T : Type 0) (plan : Plan) (entry here there : Moment) (run : Run) (stop : FilesStop) → IsGoing plan entry here run → there.out ≡ here.out
    → StopLooks {T = T} here.host there.host (Err stop) → Halts plan run.looks.board.sched.jobs run.waits entry there (stops.Files stop)
ending_halts T plan entry here there run files.Host going out failed = host_halts plan entry here there run going io.Failed failed out
ending_halts T plan entry here there run files.OutOfMemory going out same = host_halts plan entry here there run going io.OutOfMemory same out
ending_halts T plan entry here there run (files.TooBig number size) going out says = absurd says

stands_same : (here there : Moment) → there.out ≡ here.out → there.host ≡ here.host → StandsStill here there
stands_same here there out host = record { children = ap (λ (o : Outside). o.children) host; reads = ap (λ (o : Outside). o.reads) host; written = ap (λ (o : Output). o.written) out }

stands_failed : (here there : Moment) → there.out ≡ here.out → Fails here.host there.host → StandsStill here there
stands_failed here there out failed = record { children = ap (λ (o : Outside). o.children) failed.same; reads = ap (λ (o : Outside). o.reads) failed.same; written = ap (λ (o : Output). o.written) out }

-- what holds of files that are visible, where they are those of before
both_alike : (P : Disk → Disk → Type 0) (x y : Option Disk) → y ≡ x → ((disk : Disk) → P disk disk) → BothTold P x y
both_alike P x y same f = subst (BothTold P x) (sym same) (one x)
  where
    one : (z : Option Disk) → BothTold P z z
    one None = tt
    one (Some disk) = f disk

pub ending_tells_none : (plan : Plan) (made : Made) (here there : Moment) (run : Run) (s : Sights) (stop : FilesStop) → there.out ≡ here.out
    → (T : Type 0) → StopLooks {T = T} here.host there.host (Err stop) → EndTells plan made here run there (learned run s) (Err (stops.Files stop))
ending_tells_none plan made here there run s files.Host out T failed =
    both_alike (λ old new. (u : Update) (entry : Moment) (events : List ChildEvent) → IsUpdateHere plan made run u → Distinguishes u new.past → IsInRun u entry here run old events → HasHalted u entry there s.facts new (stops.Files files.Host))
    here.host.disk there.host.disk (ap (λ (o : Outside). o.disk) failed.same)
    (λ disk u entry events by distinct is. in_run_halts u entry here there run s.facts disk events (stops.Files files.Host) is (stands_failed here there out failed) tt)
ending_tells_none plan made here there run s files.OutOfMemory out T same =
    both_alike (λ old new. (u : Update) (entry : Moment) (events : List ChildEvent) → IsUpdateHere plan made run u → Distinguishes u new.past → IsInRun u entry here run old events → HasHalted u entry there s.facts new (stops.Files files.OutOfMemory))
    here.host.disk there.host.disk (ap (λ (o : Outside). o.disk) same)
    (λ disk u entry events by distinct is. in_run_halts u entry here there run s.facts disk events (stops.Files files.OutOfMemory) is (stands_same here there out same) tt)
ending_tells_none plan made here there run s (files.TooBig number size) out T says = absurd says

-- ---- it was found, and told or not

pub ending_comes : (plan : Plan) (entry here there : Moment) (run : Run) (ending : Ending) (r : Result UpdateAnswer UpdateStop) → IsGoing plan entry here run
    → here.host.children.running ≡ [] → there.host ≡ here.host → IsEndingOf run.looks.board.sched run.quit ending
    → EndingSays plan.steps run.updated ending here.out there.out r
    → MatchResult r (HasCome plan run.looks.board.sched.jobs entry there) (Halts plan run.looks.board.sched.jobs run.waits entry there)
ending_comes plan entry here there run ending (Ok answer) going idle host is says =
    come_so plan entry here there run going idle host ending answer is (told_end plan.steps run.updated ending here.out there.out answer says)
ending_comes plan entry here there run ending (Err stop) going idle host is says =
    let (lists, e, untold) = untold_end plan.steps run.updated ending here.out there.out stop says in
    untold_halts plan entry here there run going idle host _ stop untold

pub ending_tells : (plan : Plan) (made : Made) (here there : Moment) (run : Run) (s : Sights) (ending : Ending) (r : Result UpdateAnswer UpdateStop) → IsSound run.looks.board.sched
    → AreLooks plan 0 run.sights.facts run.looks → Rests run → NoneStarts run → here.host.children.running ≡ [] → there.host ≡ here.host
    → EndingTold plan run.looks run.quit here.host run.sights there.host (Ok ending) → EndingSays plan.steps run.updated ending here.out there.out r
    → EndTells plan made here run there (learned run s) r
ending_tells plan made here there run s ending r sound looks rests none idle host told says =
    told_by _ _ here.host.disk there.host.disk told (λ disk later at_here at_there tells u entry events by distinct is.
    let same : later ≡ disk = some_is later disk (sym at_there ∙ ap (λ (o : Outside). o.disk) host ∙ at_here) in
    let rest = at_rest plan made here there run sound looks rests none idle host u entry events by disk is in
    let ended = run_ended plan made here there run sound looks rests none idle host u entry events by disk is in
    let true_end = tells u events is.stands.first is.stands.reads by.by by.quit ended is.stands.under_way is.stands.true_looks rest in
    subst (λ (d : Disk). MatchResult r (HasComeInRun u entry there d) (HasHalted u entry there s.facts d)) (sym same)
    (by_result u entry events by disk is true_end r (subst (λ steps. EndingSays steps run.updated ending here.out there.out r) (sym by.by.steps) says)))
  where
    some_is : (a b : Disk) → Some a ≡ Some b → a ≡ b
    some_is a b e = ap (λ (o : Option Disk). disk_or o a) e
      where
        disk_or : Option Disk → Disk → Disk
        disk_or None d = d
        disk_or (Some x) d = x

    by_result : (u : Update) (entry : Moment) (events : List ChildEvent) (by : IsUpdateHere plan made run u) (disk : Disk) (is : IsInRun u entry here run disk events) → EndingIsTrue u events ending
        → (q : Result UpdateAnswer UpdateStop) → EndingSays u.build.steps run.updated ending here.out there.out q → MatchResult q (HasComeInRun u entry there disk) (HasHalted u entry there s.facts disk)
    by_result u entry events by disk is true_end (Ok answer) say =
        come_in_run plan made here there run sound looks rests none idle host u entry events by disk is ending answer true_end (told_end u.build.steps run.updated ending here.out there.out answer say)
    by_result u entry events by disk is true_end (Err stop) say =
        let (lists, e, untold) = untold_end u.build.steps run.updated ending here.out there.out stop say in
        untold_in_run plan made here there run sound looks rests none idle host u entry events by disk is s.facts lists stop (subst (EndingIsTrue u events) e true_end) untold

-- ---- what is kept

pub keeps_stop_looks : (T : Type 0) (before after : Outside) (stop : FilesStop) → StopLooks {T = T} before after (Err stop) → Keeps before after
keeps_stop_looks T before after files.Host failed = keeps_fails before after failed
keeps_stop_looks T before after files.OutOfMemory same = keeps_same before after same
keeps_stop_looks T before after (files.TooBig number size) says = absurd says

-- ---- what comes before the end

-- a call that did not stop, and then the end
pub tells_then_end : {T : Type 0} (plan : Plan) (made : Made) (x y z : Moment) (a b c : Run) (value : T) (r : Result UpdateAnswer UpdateStop) → SameWay a b → BothTold BeginsPast y.host.disk z.host.disk
    → Tells plan made x a y b (Ok value) → EndTells plan made y b z c r → EndTells plan made x a z c r
tells_then_end plan made x y z a b c value r same grows first second = at x.host.disk y.host.disk z.host.disk grows first second
  where
    at : (old mid new : Option Disk) → BothTold BeginsPast mid new
        → BothTold (λ old new. (u : Update) (entry : Moment) (events : List ChildEvent) → IsUpdateHere plan made a u → Distinguishes u new.past
        → IsInRun u entry x a old events → (now : List ChildEvent) × IsInRun u entry y b new now) old mid
        → BothTold (λ old new. (u : Update) (entry : Moment) (events : List ChildEvent) → IsUpdateHere plan made b u → Distinguishes u new.past
        → IsInRun u entry y b old events → MatchResult r (HasComeInRun u entry z new) (λ stop. HasHalted u entry z c.sights.facts new stop)) mid new
        → BothTold (λ old new. (u : Update) (entry : Moment) (events : List ChildEvent) → IsUpdateHere plan made a u → Distinguishes u new.past
        → IsInRun u entry x a old events → MatchResult r (HasComeInRun u entry z new) (λ stop. HasHalted u entry z c.sights.facts new stop)) old new
    at None None None grows first second = tt
    at None None (Some new) grows first second = absurd second
    at None (Some mid) new grows first second = absurd first
    at (Some old) None new grows first second = absurd first
    at (Some old) (Some mid) None grows first second = absurd second
    at (Some old) (Some mid) (Some new) grows first second = λ u entry events by distinct is. (
        let (now, then) = first u entry events by (distinguished_before u mid new grows distinct) is in
        second u entry now (update_stays plan made a b u same by) distinct then)
