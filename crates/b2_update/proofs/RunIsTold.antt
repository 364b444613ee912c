-- What running the steps of an update tells, by how it ended: it has come to its end, or was stopped and waited for its
-- children.
use Rattle.std.proofs.Common.{◌≡◌, Bool, true, Option, Some, None, is_some, Ok, Err, refl, sym, ap, ◌∙◌}
use Rattle.b2_host.specs.Disks.{Disk}
use Rattle.b2_host.specs.ChildProcesses.{BothTold}
use Rattle.b2_host.specs.Outside.{Outside}
use Rattle.b2_host.specs.OutsideLaws.{BeginsPast}
use Rattle.b2_plan.specs.declared.plan.Plan.{Plan}
use Rattle.b2_plan.specs.Plans.{Apart}
use Rattle.b2_runs.specs.LogFiles.{IsLogIn}
use Rattle.b2_runs.specs.Staleness.{Update}
use Rattle.b2_runs.specs.Moments.{Moment}
use Rattle.b2_drain.specs.Drains.{Made, DrainTold}
use Rattle.b2_update.specs.declared.run.Run.{Run}
use Rattle.b2_update.specs.declared.stop.UpdateStop.{UpdateStop}
use Rattle.b2_update.specs.declared.update_answer.UpdateAnswer.{UpdateAnswer}
use Rattle.b2_update.specs.Answers.{answer_of}
use Rattle.b2_update.specs.Endings.{HasComeInRun, EndTells, IsStopAnswer}
use Rattle.b2_update.specs.Updates.{IsDone, RunTells}
use Rattle.b2_update.proofs.TellsCompose.{distinguished_before}
use Rattle.b2_update.proofs.UpdateIsBegun.{at_both}
use Rattle.b2_update.proofs.UpdateStandsAtEntry.{told_by}
use Rattle.b2_update.proofs.WaitTellsEnd.{may_stop}
use Rattle.b2_update.proofs.StoppedIsDone.{stopped_is_done, halted_is_done, halted_stays}

-- reads are visible where the files are
abbrev pub ReadsAlike : Outside → Type 0
ReadsAlike host = is_some host.disk ≡ is_some host.reads

pub reads_visible : (host : Outside) (disk : Disk) → ReadsAlike host → host.disk ≡ Some disk → is_some host.reads ≡ true
reads_visible host disk alike at = sym alike ∙ ap (λ (o : Option Disk). is_some o) at

-- what holds of visible disks by one relation and then another
pub both_then : (P Q R : Disk → Disk → Type 0) (x y z : Option Disk) → BothTold P x y → BothTold Q y z
    → ((a b c : Disk) → x ≡ Some a → y ≡ Some b → z ≡ Some c → P a b → Q b c → R a c) → BothTold R x z
both_then P Q R None None None first second go = tt
both_then P Q R None None (Some c) first second go = absurd second
both_then P Q R None (Some b) z first second go = absurd first
both_then P Q R (Some a) None z first second go = absurd first
both_then P Q R (Some a) (Some b) None first second go = absurd second
both_then P Q R (Some a) (Some b) (Some c) first second go = go a b c refl refl refl first second

-- ---- it has come to its end

come_is_done : (u : Update) (entry here : Moment) (disk later : Disk) (answer : UpdateAnswer) → u.build.folder ≡ disk.now → IsLogIn disk.now u.log → is_some here.host.reads ≡ true
    → HasComeInRun u entry here later answer → IsDone u (answer_of answer) entry here disk later
come_is_done u entry here disk later answer folder log_in visible c =
    stopped_is_done u (answer_of answer) entry here disk later c.events c.ran.given c.reads c.part c.under_way.apart folder log_in visible c.ran.are c.ran.given_are c.reads_are
    (may_stop u c.events c.first c.reads later c.sights c.ran.given here.host.children.running c.under_way c.ran.given_closure c.ran.at_work c.ran.none_older)
    c.adds c.told c.written

pub run_came : (plan : Plan) (made : Made) (before after : Moment) (run later : Run) (answer : UpdateAnswer) → ReadsAlike after.host → EndTells plan made before run after later (Ok answer) → RunTells plan made before run after answer
run_came plan made before after run later answer alike told =
    told_by _ _ before.host.disk after.host.disk told (λ old new at_old at_new tells u entry events disk by distinct folder log_in is.
    come_is_done u entry after disk new answer folder log_in (reads_visible after.host new alike at_new) (tells u entry events by distinct is))

-- ---- it was stopped

pub run_stopped : (plan : Plan) (made : Made) (before here after : Moment) (run later : Run) (stop : UpdateStop) (all : Bool) (answer : UpdateAnswer) → ReadsAlike after.host → after.out ≡ here.out
    → after.host.reads ≡ here.host.reads → after.host.children.given ≡ here.host.children.given → BothTold BeginsPast here.host.disk after.host.disk → DrainTold made here.host after.host
    → IsStopAnswer later.sights.facts stop all answer → EndTells plan made before run here later (Err stop) → RunTells plan made before run after answer
run_stopped plan made before here after run later stop all answer alike out reads given grows drains answers told =
    both_then _ _ _ before.host.disk here.host.disk after.host.disk told drains (λ old mid new at_old at_mid at_new tells drained u entry events disk by distinct folder log_in is.
    let apart : Apart u.build.steps u.build.roots = is.stands.under_way.apart in
    let h = tells u entry events by (distinguished_before u mid new (at_both BeginsPast here.host.disk after.host.disk mid new grows at_mid at_new) distinct) is in
    let stays = drained u h.events h.given h.reads apart by.made_is distinct h.stopped in
    halted_is_done u entry after later.sights.facts disk new stop all answer apart folder log_in (reads_visible after.host new alike at_new)
    (halted_stays u entry here after later.sights.facts mid new stop apart out reads given h stays) answers)
