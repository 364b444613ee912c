-- Why a step is to run, or is not, where an update begins that judges by stamps.
use Rattle.std.specs.Prelude.{◌≡◌, ◌≢◌, ◌↔◌, ℕ, ◌<◌, ◌≤◌, Bool, true, false, List, [], Option, Some, None, map}
use Rattle.std.specs.List.{Contains}
use Rattle.b2_host.specs.Disks.{File}
use Rattle.b2_host.specs.FileCalls.{stamp_at}
use Rattle.b2_plan.specs.declared.step.Step.{Step}
use Rattle.b2_plan.specs.Plans.{step_at, Makes}
use Rattle.b2_plan.specs.Sources.{IsMissing}
use Rattle.b2_plan.specs.Closures.{Known}
use Rattle.b2_log.specs.declared.line.Record.{Record}
use Rattle.b2_log.specs.Finding.{find_record}
use Rattle.b2_log.specs.Good.{IsRising}
use Rattle.b2_runs.specs.Staleness.{Update}
use Rattle.b2_runs.specs.Runs.{Settled, on_settled, Needed}
use Rattle.b2_runs.specs.Outcomes.{IsListOf}
use Rattle.b2_explain.specs.declared.cause.Cause.{Cause}
use Rattle.b2_explain.specs.declared.cause.Cause.TheVariants as causes
use Rattle.b2_explain.specs.declared.cause.Why.{Why}
use Rattle.b2_explain.specs.Firsts.{IsFirstPath, IsFirstIn}

-- ---- what a step reads

-- at entry the step is known to read the path
abbrev pub IsRead : Update → Step → List ℕ → Type 0
IsRead u step path = Known u.build (on_settled u []) step path

-- the step is known to read the path, which is missing
abbrev pub IsLacked : Update → Step → List ℕ → Type 0
IsLacked u step path = IsRead u step path × IsMissing u.build path

-- the step is known to read the path, which is an output that is not settled
pub record IsWaitedFor (u : Update) (step : Step) (path : List ℕ) : Type 0 where
  pub read : IsRead u step path
  pub number : ℕ
  pub maker : Step
  pub makes : Makes u.build.steps number maker path
  pub unsettled : Settled u [] path → ⊥

-- no file stands at the path
abbrev pub IsGone : Update → List ℕ → Type 0
IsGone u path = u.build.folder path ≡ None

-- the step is known to read the path, and the file there is newer than a stamp
pub record IsNewer (u : Update) (step : Step) (written : ℕ) (path : List ℕ) : Type 0 where
  pub read : IsRead u step path
  pub stamp : ℕ
  pub stands : stamp_at u.build.folder path ≡ Some stamp
  pub newer : written < stamp

-- the output is older than a file that the step is known to read
pub record IsOlder (u : Update) (step : Step) (out : List ℕ) : Type 0 where
  pub stamp : ℕ
  pub stands : stamp_at u.build.folder out ≡ Some stamp
  pub member : List ℕ
  pub newer : IsNewer u step stamp member

-- ---- what the log tells

-- the log's last line for the step's outputs is this record
abbrev pub IsFound : Update → Step → Record → Type 0
IsFound u step r = find_record step.outs u.log ≡ Some r

-- each record that the log tells has its inputs in byte order, none of them twice; so it is where the log was read
abbrev pub HasProperRecords : Update → Type 0
HasProperRecords u = (outs : List (List ℕ)) (r : Record) → find_record outs u.log ≡ Some r → IsRising r.ins

-- no file stands with this stamp at this path
abbrev pub HasOtherStamp : Update → List ℕ × ℕ → Type 0
HasOtherStamp u logged = stamp_at u.build.folder logged.0 ≢ Some logged.1

-- the record has the path as an input with this stamp, or has it not
abbrev pub IsLogged : Record → List ℕ → Option ℕ → Type 0
IsLogged r path (Some stamp) = Contains r.ins (path, stamp)
IsLogged r path None = (stamp : ℕ) → Contains r.ins (path, stamp) → ⊥

-- the step is known to read the path, where a file with this stamp stands; or that is not so of any stamp
abbrev pub IsPresent : Update → Step → List ℕ → Option ℕ → Type 0
IsPresent u step path (Some stamp) = IsRead u step path × (stamp_at u.build.folder path ≡ Some stamp)
IsPresent u step path None = (stamp : ℕ) → IsRead u step path → stamp_at u.build.folder path ≡ Some stamp → ⊥

-- at this path the record's inputs and what the step reads differ
pub record Differs (u : Update) (step : Step) (r : Record) (path : List ℕ) : Type 0 where
  pub logged : Option ℕ
  pub is_logged : IsLogged r path logged
  pub now : Option ℕ
  pub is_present : IsPresent u step path now
  pub other : logged ≢ now

-- ---- what does not call for a run

-- nothing that the step reads is missing
abbrev pub LacksNothing : Update → Step → Type 0
LacksNothing u step = (path : List ℕ) → IsLacked u step path → ⊥

-- besides, all that it reads is settled
pub record IsClosed (u : Update) (step : Step) : Type 0 where
  pub lacks_nothing : LacksNothing u step
  pub settled : (path : List ℕ) → IsRead u step path → Settled u [] path

-- besides, not all that is needed runs, and the step is neither an always-step nor a notfile step
pub record IsOrdinary (u : Update) (step : Step) : Type 0 where
  pub closed : IsClosed u step
  pub not_all : u.all ≡ false
  pub not_always : step.always ≡ false
  pub not_notfile : step.notfile ≡ false

-- besides, each output stands
pub record HasOutputs (u : Update) (step : Step) : Type 0 where
  pub ordinary : IsOrdinary u step
  pub stand : (out : List ℕ) → Contains step.outs out → (file : File) × (u.build.folder out ≡ Some file)

-- besides, no output is older than what the step reads
pub record IsUpToDate (u : Update) (step : Step) : Type 0 where
  pub has_outputs : HasOutputs u step
  pub none_older : (out member : List ℕ) (written read : ℕ) → Contains step.outs out → IsRead u step member
      → stamp_at u.build.folder out ≡ Some written → stamp_at u.build.folder member ≡ Some read → read ≤ written

-- besides, the record has the step's text
pub record HasText (u : Update) (step : Step) (r : Record) : Type 0 where
  pub up_to_date : IsUpToDate u step
  pub found : IsFound u step r
  pub text : r.text ≡ step.text

-- besides, the record's outputs have the stamps that it tells
pub record HasStamps (u : Update) (step : Step) (r : Record) : Type 0 where
  pub has_text : HasText u step r
  pub stamps : (one : List ℕ × ℕ) → Contains r.outs one → stamp_at u.build.folder one.0 ≡ Some one.1

-- ---- causes

-- This is the cause of the step: of these conditions the first one that holds.
abbrev pub IsCause : Update → Step → Cause → Type 0
IsCause u step (causes.Lacks path) = IsFirstPath (IsLacked u step) path
IsCause u step (causes.Waits path) = LacksNothing u step × IsFirstPath (IsWaitedFor u step) path
IsCause u step causes.All = IsClosed u step × (u.all ≡ true)
IsCause u step causes.Always = IsClosed u step × (u.all ≡ false) × (step.always ≡ true)
IsCause u step causes.NotFile = IsClosed u step × (u.all ≡ false) × (step.always ≡ false) × (step.notfile ≡ true)
IsCause u step (causes.NoOutput path) = IsOrdinary u step × IsFirstIn (IsGone u) step.outs path
IsCause u step (causes.Older out out_stamp member member_stamp) =
    HasOutputs u step × IsFirstIn (IsOlder u step) step.outs out × (stamp_at u.build.folder out ≡ Some out_stamp)
    × IsFirstPath (IsNewer u step out_stamp) member × (stamp_at u.build.folder member ≡ Some member_stamp)
IsCause u step causes.NoRecord = IsUpToDate u step × (find_record step.outs u.log ≡ None)
IsCause u step (causes.OtherText logged) =
    IsUpToDate u step × (r : Record) × IsFound u step r × (r.text ≡ logged) × (logged ≢ step.text)
IsCause u step (causes.OtherOutput path logged now) =
    (r : Record) × HasText u step r × IsFirstIn (HasOtherStamp u) r.outs (path, logged)
    × (stamp_at u.build.folder path ≡ Some now)
IsCause u step (causes.OtherInput path logged now) =
    (r : Record) × HasStamps u step r × IsFirstPath (Differs u step r) path × IsLogged r path logged
    × IsPresent u step path now
IsCause u step causes.Fresh = (r : Record) × HasStamps u step r × ((path : List ℕ) → Differs u step r path → ⊥)

-- The step with this number is needed at entry, what it is known to read can be listed, and this is why it is to run, or is not.
pub record IsWhy (u : Update) (why : Why) : Type 0 where
  pub needed : Needed u [] why.step
  pub step : Step
  pub at : step_at u.build.steps why.step ≡ Some step
  pub reads : List (List ℕ)
  pub reads_are : (path : List ℕ) → IsRead u step path ↔ Contains reads path
  pub cause : IsCause u step why.cause

-- the number of the step of which something is told
abbrev pub step_in : Why → ℕ
step_in why = why.step

-- Each needed step is explained, in order of numbers.
pub record IsExplained (u : Update) (whys : List Why) : Type 0 where
  pub steps : IsListOf (Needed u []) (map step_in whys)
  pub each : (why : Why) → Contains whys why → IsWhy u why

-- whether a cause calls for a start: the step is neither fresh, nor does it lack a file, nor wait
abbrev pub calls : Cause → Bool
calls (causes.Lacks path) = false
calls (causes.Waits path) = false
calls causes.All = true
calls causes.Always = true
calls causes.NotFile = true
calls (causes.NoOutput path) = true
calls (causes.Older out out_stamp member member_stamp) = true
calls causes.NoRecord = true
calls (causes.OtherText logged) = true
calls (causes.OtherOutput path logged now) = true
calls (causes.OtherInput path logged now) = true
calls causes.Fresh = false
