-- Laws of what a step is known to read.
use Rattle.std.specs.Prelude.{◌≡◌, ◌↔◌, ℕ, ◌<◌, Bool, true, false, List, [], ◌∷◌, ◌++◌, length, Option, Some, None}
use Rattle.std.specs.List.{Contains}
use Rattle.b2_host.specs.declared.children.ChildEvent.{ChildEvent}
use Rattle.b2_host.specs.Disks.{Folder, Disk}
use Rattle.b2_host.specs.ChildProcesses.{BothTold}
use Rattle.b2_host.specs.Outside.{Outside}
use Rattle.b2_host.specs.FileCalls.{stamp_at}
use Rattle.b2_plan.specs.declared.step.Step.{Step}
use Rattle.b2_plan.specs.Plans.{Apart, step_at}
use Rattle.b2_plan.specs.Sources.{Build, IsMissing}
use Rattle.b2_plan.specs.Closures.{Known}
use Rattle.b2_runs.specs.Staleness.{Update}
use Rattle.b2_runs.specs.Runs.{on_settled, Needed}
use Rattle.b2_runs.specs.Outcomes.{IsSettledStep}
use Rattle.b2_runs.specs.Soundness.{IsSound}
use Rattle.b2_runs.specs.FileReads.{StandsWithLine}
use Rattle.jam_scan.specs.Scans.{is_scanned}
use Rattle.b2_sched.specs.Schedules.{Schedule, IsSettled}
use Rattle.b2_facts.specs.declared.file_facts.FileFacts.{FileFacts}
use Rattle.b2_facts.specs.declared.file_facts.FileLook.TheVariants as seen
use Rattle.b2_facts.specs.Facts.{Knowledge, IsAbout, path_at, file_at, with_file}
use Rattle.b2_facts.specs.Growth.{OfNone}
use Rattle.b2_facts.specs.Growth as facts
use Rattle.b2_facts.specs.Digests.{digest_of}
use Rattle.b2_facts.specs.Truth.{IsBuildOf, KeepsSources, AreTrue}
use Rattle.b2_log.specs.declared.line.ScanLine.{ScanLine}
use Rattle.b2_log.specs.declared.line.LogLine.{LogLine}
use Rattle.b2_log.specs.declared.line.LogLine.TheVariants as lines
use Rattle.b2_journal.specs.Notes.{HasLines}
use Rattle.b2_reach.specs.declared.reach.Reach.{Reach}
use Rattle.b2_reach.specs.Courses.{IsDueToRead, Course, CourseToStop, LeavesLines}
use Rattle.b2_reach.specs.Sightings.{NothingOfLog, AreLined, IsTooBigTold}
use Rattle.b2_reach.specs.CourseReads.{ReadsWell, ReadsUpToLast}
use Rattle.b2_reach.specs.Reaches.{IsReachOf}

-- The update is one of this plan, in which files are scanned and digested as they are here.
pub record IsUpdateOf (steps : List Step) (roots : List (List ℕ)) (u : Update) : Type 0 where
  pub build : IsBuildOf steps roots u.build
  pub scanned : u.scanned ≡ is_scanned
  pub digest : u.digest ≡ digest_of

-- What is known of files is true in a run, and each step that counts as settled is so there.
pub record IsTrueInRun (u : Update) (events : List ChildEvent) (disk : Disk)
    (settled : ℕ → Type 0) (f : Knowledge) : Type 0 where
  pub apart : Apart u.build.steps u.build.roots
  pub sound : IsSound u events disk
  pub update : IsUpdateOf u.build.steps u.build.roots u
  pub sources : KeepsSources u.build disk.now
  pub about : IsAbout u.build.steps u.build.roots f
  pub facts : AreTrue u.build disk.now f
  pub so : (number : ℕ) → settled number → IsSettledStep u events number

-- all was done that can be in a run: each member was taken, and none that is pending is made by a step that is settled there
pub record IsAsFarInRun (u : Update) (events : List ChildEvent) (f : Knowledge) (r : Reach) : Type 0 where
  pub whole : r.done ≡ length r.members
  pub waiting : (n number : ℕ) (file : FileFacts) → Contains r.pending n → file_at f n ≡ Some file
      → file.maker ≡ Some number → IsSettledStep u events number → ⊥

-- the step is known to read each member
abbrev pub MembersAreKnown : Type 0
MembersAreKnown = (u : Update) (events : List ChildEvent) (disk : Disk) (s : Schedule) (step : Step) (f : Knowledge) (r : Reach)
    → IsTrueInRun u events disk (IsSettled s) f → IsReachOf u.build.steps (IsSettled s) step f r
    → (n : ℕ) (path : List ℕ) → Contains r.members n → path_at f n ≡ Some path → Known u.build (on_settled u events) step path

-- where all was done that can be, the members are all that the step is known to read
abbrev pub MembersAreAllKnown : Type 0
MembersAreAllKnown = (u : Update) (events : List ChildEvent) (disk : Disk) (s : Schedule) (step : Step)
    (f : Knowledge) (r : Reach) → IsTrueInRun u events disk (IsSettled s) f
    → IsReachOf u.build.steps (IsSettled s) step f r → IsAsFarInRun u events f r
    → (path : List ℕ)
    → Known u.build (on_settled u events) step path ↔ ((n : ℕ) × Contains r.members n × (path_at f n ≡ Some path))

-- there something lacks exactly where the step is known to read a missing path
abbrev pub LacksMissing : Type 0
LacksMissing = (u : Update) (events : List ChildEvent) (disk : Disk) (s : Schedule) (step : Step) (f : Knowledge) (r : Reach)
    → IsTrueInRun u events disk (IsSettled s) f → IsReachOf u.build.steps (IsSettled s) step f r
    → IsAsFarInRun u events f r
    → (r.lacks ≡ true) ↔ ((path : List ℕ) × Known u.build (on_settled u events) step path × IsMissing u.build path)

-- where all was done that can be, each scanned file that the step is known to read, and that is settled with bytes, stands with
-- its scan line in the log
abbrev pub KnownHasLine : Type 0
KnownHasLine = (u : Update) (events : List ChildEvent) (disk : Disk) (s : Schedule) (step : Step) (f : Knowledge) (r : Reach)
    → IsTrueInRun u events disk (IsSettled s) f → IsReachOf u.build.steps (IsSettled s) step f r
    → IsAsFarInRun u events f r
    → (log : List LogLine) (path bytes : List ℕ) → AreLined f log
    → Known u.build (on_settled u events) step path → is_scanned path ≡ true → on_settled u events path (Some bytes)
    → (stamp : ℕ) × StandsWithLine u events disk.now log path stamp

-- the log goes on to have these lines as facts grow by which nothing is learned of files but that they stand
abbrev pub LinedAsFactsGrow : Type 0
LinedAsFactsGrow = (steps : List Step) (roots : List (List ℕ)) (f g : Knowledge) (log : List LogLine)
    → IsAbout steps roots f → facts.Learns steps roots OfNone f g → AreLined f log → AreLined g log

-- it does where more is learned of one file, and not what it includes
abbrev pub LinedAsOneGrows : Type 0
LinedAsOneGrows = (steps : List Step) (roots : List (List ℕ)) (f g : Knowledge) (log : List LogLine) (n : ℕ) (file : FileFacts)
    → IsAbout steps roots f → facts.Learns steps roots (facts.OfOne n) f g → file_at f n ≡ Some file
    → ((later : FileFacts) → file_at g n ≡ Some later → later.includes ≡ file.includes)
    → AreLined f log → AreLined g log

-- the log goes on to have these lines as a line is noted, where a scan line has the stamp of its file as it stands
abbrev pub LinedAfterLine : Type 0
LinedAfterLine = (b : Build) (now : Folder) (f : Knowledge) (log : List LogLine) (line : LogLine) → AreTrue b now f
    → ((scan : ScanLine) → line ≡ lines.Scan scan → stamp_at now scan.path ≡ Some scan.stamp)
    → AreLined f log → AreLined f (log ++ line ∷ [])

-- it does as what was seen of a file is forgotten of which is not known what it includes
abbrev pub LinedAsForgotten : Type 0
LinedAsForgotten = (f : Knowledge) (log : List LogLine) (n : ℕ) (file : FileFacts)
    → file_at f n ≡ Some file → file.includes ≡ None → AreLined f log
    → AreLined (with_file f n (record file { seen = seen.Unasked; digest = None })) log

-- a member that is to be read is one that the step is known to read; it is scanned, settled, and stands with this stamp
abbrev pub ReadIsKnown : Type 0
ReadIsKnown = (u : Update) (events : List ChildEvent) (disk : Disk) (s : Schedule) (step : Step) (f : Knowledge) (r : Reach)
    → IsTrueInRun u events disk (IsSettled s) f → IsReachOf u.build.steps (IsSettled s) step f r
    → (log : List LogLine) (path : List ℕ) (stamp : ℕ) → IsDueToRead u.build.steps (IsSettled s) f r.members log path stamp
    → Known u.build (on_settled u events) step path × (is_scanned path ≡ true) × (stamp_at disk.now path ≡ Some stamp)
    × ((bytes : List ℕ) × on_settled u events path (Some bytes))

-- a file that is told to be too big is one that the step is known to read; it is scanned, settled, and has too many bytes
abbrev pub TooBigIsKnown : Type 0
TooBigIsKnown = (u : Update) (events : List ChildEvent) (disk : Disk) (s : Schedule) (step : Step) (f : Knowledge)
    (r : Reach) (number size : ℕ) (after : Outside) → IsTrueInRun u events disk (IsSettled s) f
    → IsReachOf u.build.steps (IsSettled s) step f r
    → (told : IsTooBigTold u.build.steps (IsSettled s) f r.members number size after) → after.disk ≡ Some disk
    → Known u.build (on_settled u events) step told.path × (is_scanned told.path ≡ true)
    × ((bytes : List ℕ) × on_settled u events told.path (Some bytes) × (size ≡ length bytes) × (16777216 < size))

-- where nothing more settles that a pending member waits for, all is still done
abbrev pub StaysAsFar : Type 0
StaysAsFar = (u : Update) (before after : List ChildEvent) (s : Schedule) (step : Step) (f g : Knowledge) (r : Reach)
    → IsAbout u.build.steps u.build.roots f → IsReachOf u.build.steps (IsSettled s) step f r → facts.Grows f g
    → IsAsFarInRun u before f r
    → ((n number : ℕ) (file : FileFacts) → Contains r.pending n → file_at g n ≡ Some file → file.maker ≡ Some number
    → IsSettledStep u after number → IsSettledStep u before number)
    → IsAsFarInRun u after g r

-- what is known so far of what a step reads stays so as facts grow and more steps settle
abbrev pub ReachStays : Type 0
ReachStays = (steps : List Step) (roots : List (List ℕ)) (s t : Schedule) (step : Step) (f g : Knowledge) (r : Reach)
    → IsAbout steps roots f → facts.Grows f g → ((number : ℕ) → IsSettled s number → IsSettled t number)
    → IsReachOf steps (IsSettled s) step f r → IsReachOf steps (IsSettled t) step g r

-- so it does where nothing was taken yet, whichever steps are settled
abbrev pub OpenedStays : Type 0
OpenedStays = (steps : List Step) (roots : List (List ℕ)) (s : Schedule) (step : Step) (f g : Knowledge) (r : Reach)
    → IsAbout steps roots f → facts.Grows f g → IsReachOf steps OfNone step f r
    → IsReachOf steps (IsSettled s) step g r

-- it stays so as what was seen of an output is forgotten, whose maker is not settled
abbrev pub ReachStaysAsForgotten : Type 0
ReachStaysAsForgotten = (steps : List Step) (roots : List (List ℕ)) (s : Schedule) (step : Step) (f : Knowledge)
    (r : Reach) (n number : ℕ) (file : FileFacts) → IsAbout steps roots f → file_at f n ≡ Some file
    → file.maker ≡ Some number → (IsSettled s number → ⊥)
    → IsReachOf steps (IsSettled s) step f r
    → IsReachOf steps (IsSettled s) step (with_file f n (record file { seen = seen.Unasked; digest = None })) r

-- while members are scanned, the log's file has the lines
abbrev pub LinesStay : Type 0
LinesStay = (notes : Bool) (steps : List Step) (s : Schedule) (f : Knowledge) (members : List ℕ) (log more : List LogLine)
    (before after : Outside) → Course notes steps (IsSettled s) f members log before more after
    → BothTold (λ old new. (entry : Option (List ℕ)) → HasLines entry old.now log → HasLines entry new.now more)
    before.disk after.disk

-- up to a stop it has them too, or the note of one more failed
abbrev pub LinesAreLeft : Type 0
LinesAreLeft = (notes : Bool) (steps : List Step) (s : Schedule) (f : Knowledge) (members : List ℕ) (log more : List LogLine)
    (before after : Outside) → CourseToStop notes steps (IsSettled s) f members log before more after
    → BothTold (λ old new. (entry : Option (List ℕ)) → HasLines entry old.now log → LeavesLines entry more new.now)
    before.disk after.disk

-- where lines are not noted, neither the files nor the lines change
abbrev pub UnnotedIsStill : Type 0
UnnotedIsStill = (steps : List Step) (s : Schedule) (f : Knowledge) (members : List ℕ) (log more : List LogLine)
    (before after : Outside) → CourseToStop false steps (IsSettled s) f members log before more after
    → (more ≡ log) × (after.disk ≡ before.disk)

-- A step is needed, and this is known so far of what it reads, which is true in a run.
pub record IsNeededReach (u : Update) (events : List ChildEvent) (disk : Disk) (s : Schedule) (f : Knowledge) (r : Reach) :
    Type 0 where
  pub truth : IsTrueInRun u events disk (IsSettled s) f
  pub log_unseen : NothingOfLog f
  pub number : ℕ
  pub needed : Needed u events number
  pub step : Step
  pub at : step_at u.build.steps number ≡ Some step
  pub reach : IsReachOf u.build.steps (IsSettled s) step f r

-- an update that has read well goes on to while members of a needed step are scanned
abbrev pub ReadsGoOn : Type 0
ReadsGoOn = (u : Update) (events : List ChildEvent) (disk : Disk) (s : Schedule) (f : Knowledge) (r : Reach)
    (entry : Option (List ℕ)) (log more : List LogLine) (before after : Outside)
    → after.disk ≡ Some disk → IsNeededReach u events disk s f r
    → Course true u.build.steps (IsSettled s) f r.members log before more after
    → ReadsWell u events entry log before → ReadsWell u events entry more after

-- where the work stops it has read well but for the line of its last read
abbrev pub ReadsGoOnToStop : Type 0
ReadsGoOnToStop = (u : Update) (events : List ChildEvent) (disk : Disk) (s : Schedule) (f : Knowledge) (r : Reach)
    (entry : Option (List ℕ)) (log more : List LogLine) (before after : Outside)
    → after.disk ≡ Some disk → IsNeededReach u events disk s f r
    → CourseToStop true u.build.steps (IsSettled s) f r.members log before more after
    → ReadsWell u events entry log before → ReadsUpToLast u events after
