-- What one call and then another tell of an update between two events.
use Rattle.std.proofs.Common.{◌≡◌, List, Option, Some, None, Result, Ok, MatchResult, refl, sym, ap, subst, ◌∙◌}
use Rattle.std.specs.List.{Contains}
use Rattle.std.proofs.lemmas.List.Elements.{Contains-append_left}
use Rattle.b2_host.specs.declared.children.ChildEvent.{ChildEvent}
use Rattle.b2_host.specs.Disks.{Disk, Past}
use Rattle.b2_host.specs.ChildProcesses.{BothTold}
use Rattle.b2_host.specs.OutsideLaws.{BeginsPast}
use Rattle.b2_plan.specs.declared.plan.Plan.{Plan}
use Rattle.b2_runs.specs.Staleness.{Update}
use Rattle.b2_runs.specs.Soundness.{Distinguishes}
use Rattle.b2_runs.specs.Moments.{Moment}
use Rattle.b2_runs.proofs.RecordIsTrue.{distinguishes_less}
use Rattle.b2_verdicts.specs.declared.judging_mode.JudgingMode.{JudgingMode}
use Rattle.b2_drain.specs.Drains.{Made}
use Rattle.b2_update.specs.declared.run.Run.{Run}
use Rattle.b2_update.specs.declared.stop.UpdateStop.{UpdateStop}
use Rattle.b2_update.specs.Going.{SameWay}
use Rattle.b2_update.specs.InRun.{IsUpdateHere, IsInRun, HasHalted, Tells}

-- ---- the same way

pub same_way : (a : Run) → SameWay a a
same_way a = record { way = refl; jobs = refl; quit = refl }

pub way_then : (a b c : Run) → SameWay a b → SameWay b c → SameWay a c
way_then a b c first second = record { way = second.way ∙ first.way; jobs = second.jobs ∙ first.jobs; quit = second.quit ∙ first.quit }

-- an update is one of the plan after a call too
pub update_stays : (plan : Plan) (made : Made) (run later : Run) (u : Update) → SameWay run later → IsUpdateHere plan made run u → IsUpdateHere plan made later u
update_stays plan made run later u same is = record {
  by = record {
    steps = is.by.steps;
    roots = is.by.roots;
    wanted = is.by.wanted;
    all = is.by.all ∙ sym (ap (λ (w : JudgingMode). w.all) same.way);
    by_digest = is.by.by_digest ∙ sym (ap (λ (w : JudgingMode). w.by_digest) same.way);
    jobs = is.by.jobs ∙ sym same.jobs;
  };
  quit = is.quit ∙ sym same.quit;
  made_is = is.made_is;
}

-- ---- the past

-- digests that tell apart what stood after a call told apart what stood before it
pub distinguished_before : (u : Update) (old new : Disk) → BeginsPast old new → Distinguishes u new.past → Distinguishes u old.past
distinguished_before u old new begins = distinguishes_less u old.past new.past (λ past among. subst (λ (l : List Past). Contains l past) (sym begins.1) (Contains-append_left old.past begins.0 past among))

-- ---- calls

-- between two events an update is where it is
pub tells_here : {T : Type 0} (plan : Plan) (made : Made) (here : Moment) (run : Run) (value : T) → Tells plan made here run here run (Ok value)
tells_here plan made here run value = at here.host.disk
  where
    at : (disk : Option Disk) → BothTold (λ old new. (u : Update) (entry : Moment) (events : List ChildEvent) → IsUpdateHere plan made run u → Distinguishes u new.past
        → IsInRun u entry here run old events → (now : List ChildEvent) × IsInRun u entry here run new now) disk disk
    at None = tt
    at (Some disk) = λ u entry events by distinct is. (events, is)

-- a call that changes no file
pub tells_at : {T : Type 0} (plan : Plan) (made : Made) (x y : Moment) (a b : Run) (r : Result T UpdateStop) → y.host.disk ≡ x.host.disk
    → ((disk : Disk) → x.host.disk ≡ Some disk → (u : Update) (entry : Moment) (events : List ChildEvent) → IsUpdateHere plan made a u → IsInRun u entry x a disk events
    → MatchResult r (λ v. (now : List ChildEvent) × IsInRun u entry y b disk now) (λ stop. HasHalted u entry y b.sights.facts disk stop))
    → Tells plan made x a y b r
tells_at plan made x y a b r same told = at x.host.disk y.host.disk same told
  where
    at : (old new : Option Disk) → new ≡ old
        → ((disk : Disk) → old ≡ Some disk → (u : Update) (entry : Moment) (events : List ChildEvent) → IsUpdateHere plan made a u → IsInRun u entry x a disk events
        → MatchResult r (λ v. (now : List ChildEvent) × IsInRun u entry y b disk now) (λ stop. HasHalted u entry y b.sights.facts disk stop))
        → BothTold (λ old new. (u : Update) (entry : Moment) (events : List ChildEvent) → IsUpdateHere plan made a u → Distinguishes u new.past
        → IsInRun u entry x a old events → MatchResult r (λ v. (now : List ChildEvent) × IsInRun u entry y b new now) (λ stop. HasHalted u entry y b.sights.facts new stop)) old new
    at None None same told = tt
    at None (Some new) same told = absurd (let e : Some new ≡ None = same in cc)
    at (Some old) None same told = absurd (let e : None ≡ Some old = same in cc)
    at (Some old) (Some new) same told = λ u entry events by distinct is. (
        let e : old ≡ new = (let f : Some new ≡ Some old = same in cc) in
        told new (ap Some e) u entry events by (subst (λ disk. IsInRun u entry x a disk events) e is))

-- one call that did not stop, and then another
pub tells_then : {T V : Type 0} (plan : Plan) (made : Made) (x y z : Moment) (a b c : Run) (value : T) (r : Result V UpdateStop) → SameWay a b → BothTold BeginsPast y.host.disk z.host.disk
    → Tells plan made x a y b (Ok value) → Tells plan made y b z c r → Tells plan made x a z c r
tells_then plan made x y z a b c value r same grows first second = at x.host.disk y.host.disk z.host.disk grows first second
  where
    at : (old mid new : Option Disk) → BothTold BeginsPast mid new
        → BothTold (λ old new. (u : Update) (entry : Moment) (events : List ChildEvent) → IsUpdateHere plan made a u → Distinguishes u new.past
        → IsInRun u entry x a old events → (now : List ChildEvent) × IsInRun u entry y b new now) old mid
        → BothTold (λ old new. (u : Update) (entry : Moment) (events : List ChildEvent) → IsUpdateHere plan made b u → Distinguishes u new.past
        → IsInRun u entry y b old events → MatchResult r (λ v. (now : List ChildEvent) × IsInRun u entry z c new now) (λ stop. HasHalted u entry z c.sights.facts new stop)) mid new
        → BothTold (λ old new. (u : Update) (entry : Moment) (events : List ChildEvent) → IsUpdateHere plan made a u → Distinguishes u new.past
        → IsInRun u entry x a old events → MatchResult r (λ v. (now : List ChildEvent) × IsInRun u entry z c new now) (λ stop. HasHalted u entry z c.sights.facts new stop)) old new
    at None None None grows first second = tt
    at None None (Some new) grows first second = absurd second
    at None (Some mid) new grows first second = absurd first
    at (Some old) None new grows first second = absurd first
    at (Some old) (Some mid) None grows first second = absurd second
    at (Some old) (Some mid) (Some new) grows first second = λ u entry events by distinct is. (
        let (now, then) = first u entry events by (distinguished_before u mid new grows distinct) is in
        second u entry now (update_stays plan made a b u same by) distinct then)
