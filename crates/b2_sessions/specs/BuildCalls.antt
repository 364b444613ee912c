-- What a call is to a session: one of the build command, or of plain Jam mode.
use Rattle.std.specs.Prelude.{◌≡◌, ◌⊎◌, List, [], Option}
use Rattle.b2_host.specs.ChildProcesses.{BothTold}
use Rattle.b2_host.specs.Disks.{Disk, Past}
use Rattle.b2_host.specs.Outside.{Read, Outside}
use Rattle.b2_host.specs.OutsideLaws.{Keeps}
use Rattle.b2_runs.specs.Moments.{Moment}
use Rattle.b2_runs.specs.Sessions.{HostUpdated}
use Rattle.b2_runs.specs.Staleness.{Update}
use Rattle.b2_runs.specs.UpdateAnswers.{UpdateAnswer, LeavesNone}
use Rattle.b2_drain.specs.Drains.{Made}
use Rattle.b2_top.specs.declared.answer.Answer.{Answer}
use Rattle.b2_top.specs.Answered.{IsAnsweredFor}
use Rattle.b2_top.specs.Askings.{Asking}
use Rattle.b2_top.specs.Builds.{MayAnswer}
use Rattle.b2_top.specs.Plans.{HasPlanFor, update_for, TellsApartFor}
use Rattle.b2_top.specs.BetweenMoments.{StaysStill}

-- The update of the plan that what is asked for and the files come to. Which log it begins with is said where it is used.
abbrev pub update_of : {asking : Asking} → {disk : Disk} → Made → HasPlanFor asking disk → Update
update_of {asking} {disk} made plan = update_for made plan []

-- where what is asked for is judged by digests, no two contents of the past have one
abbrev pub TellsFor : Asking → List Past → Type 0
TellsFor asking past = TellsApartFor asking.command past

-- What is asked for and the files come to a plan, and its update has ended so that the call may have this answer. It began when
-- the project or the Jam file had been loaded, which changes nothing but what was read.
pub record UpdateHasCome (made : Made) (asking : Asking) (answer : Answer) (before after : Outside) (disk : Disk) : Type 0 where
  pub plan : HasPlanFor asking disk
  pub ended : UpdateAnswer
  pub may : MayAnswer plan ended answer
  pub reads : Option (List Read)
  pub updated : HostUpdated (update_of made plan) ended (record before { reads = reads }) after

-- where the files are visible, nothing was done, or an update has come
abbrev pub HasDone : Made → Asking → Answer → Outside → Outside → Type 0
HasDone made asking answer before after =
    BothTold (λ disk later. StaysStill before after ⊎ UpdateHasCome made asking answer before after disk) before.disk after.disk

-- A call that asks for this came between two moments. No child ran before it. It has kept all that it promises.
pub record IsCall (made : Made) (asking : Asking) (answer : Answer) (before after : Moment) : Type 0 where
  pub idle : before.host.children.running ≡ []
  pub answered : IsAnsweredFor made asking before after answer
  pub none_left : LeavesNone before.host after.host
  pub keeps : Keeps before.host after.host
  pub has_done : HasDone made asking answer before.host after.host
