-- A claimed cause, row by row, by what is known of files.
use Rattle.std.specs.Prelude.{◌≡◌, ◌≢◌, ℕ, ◌<◌, ◌≤◌, Bool, true, false, List, length, map, slice_get, slice_index, Option, Some, None}
use Rattle.std.specs.Option.{option_copied}
use Rattle.b2_base.specs.Bytes.{Before}
use Rattle.b2_plan.specs.declared.plan.Plan.{Plan}
use Rattle.b2_plan.specs.declared.step.Step.{Step}
use Rattle.b2_plan.specs.Plans.{step_at}
use Rattle.b2_log.specs.declared.line.Record.{Record}
use Rattle.b2_log.specs.Finding.{path_of, find_record}
use Rattle.b2_log.specs.Good.{IsRising}
use Rattle.b2_sched.specs.Schedules.{IsNeeded}
use Rattle.b2_facts.specs.Facts.{Knowledge, path_at}
use Rattle.b2_reach.specs.Reaches.{IsMissingMember}
use Rattle.b2_verdicts.specs.declared.step_numbers.StepNumbers.{StepNumbers}
use Rattle.b2_verdicts.specs.Sights.{AreNumbers, AllStand}
use Rattle.b2_verdicts.specs.Stamps.{IsFirstGone, IsFirstNewer, NoneNewer, IsFirstOlder, NoneOlder, IsFirstOther, AgreeUpTo, AreLogged}
use Rattle.b2_verdicts.specs.Points.{IsOrdinary, HavePaths}
use Rattle.b2_verdicts.specs.Made.{AreRising}
use Rattle.b2_board.specs.Boards.{members_of}
use Rattle.b2_explain.specs.declared.cause.Cause.{Cause}
use Rattle.b2_explain.specs.declared.cause.Cause.TheVariants as causes
use Rattle.b2_explain.specs.declared.cause.Why.{Why}
use Rattle.b2_explain.specs.declared.checks.StepCase.{StepCase}
use Rattle.b2_explain.specs.declared.survey.Judged.{Judged}
use Rattle.b2_explain.specs.declared.survey.Survey.{Survey}
use Rattle.b2_explain.specs.Sights.{IsFirstFile, IsUnsettledMember, IsSeenAt}
use Rattle.b2_explain.specs.Surveys.{judged_at}

-- ---- outputs and members

-- the path is that of the first of these files that was not seen to stand
abbrev pub IsFirstGonePath : Knowledge → List ℕ → List ℕ → Type 0
IsFirstGonePath f ns path = (place : ℕ) × IsFirstGone f ns place × (path_at f (slice_index ns place) ≡ Some path)

-- the first of these files that is newer than a stamp, or that none is
abbrev pub IsFirstNewerOf : Knowledge → ℕ → List ℕ → Option ℕ → Type 0
IsFirstNewerOf f stamp ns None = NoneNewer f stamp ns
IsFirstNewerOf f stamp ns (Some n) = (place : ℕ) × IsFirstNewer f stamp ns place × (slice_index ns place ≡ n)

-- the first output that is older than a member and its first such member, or that none is
abbrev pub IsFirstOlderOf : Knowledge → List ℕ → List ℕ → Option (ℕ × ℕ) → Type 0
IsFirstOlderOf f outs ins None = NoneOlder f outs ins
IsFirstOlderOf f outs ins (Some found) = (out : ℕ) × (member : ℕ) × IsFirstOlder f outs ins out member
    × (slice_index outs out ≡ found.0) × (slice_index ins member ≡ found.1)

-- the first output that is older than a member has this path and stamp, and its first such member has those
abbrev pub IsOlderPair : Knowledge → StepNumbers → List ℕ → ℕ → List ℕ → ℕ → Type 0
IsOlderPair f numbers out out_stamp member member_stamp = (k : ℕ) × (m : ℕ) × IsFirstOlder f numbers.outs numbers.ins k m
    × IsSeenAt f numbers.outs k out out_stamp × IsSeenAt f numbers.ins m member member_stamp

-- ---- a record

-- the record's outputs first have another stamp at this path: this one, where the file has that one
abbrev pub IsOtherOutputAt : Knowledge → List ℕ → Record → List ℕ → ℕ → ℕ → Type 0
IsOtherOutputAt f outs r path logged now = (place : ℕ) × IsFirstOther f r.outs outs place × IsSeenAt f outs place path now
    × (slice_get r.outs place ≡ Some (path, logged))

-- so many of these paths, from the first on, stand before a path, and the next one does not
pub record IsCountBefore (paths : List (List ℕ)) (path : List ℕ) (count : ℕ) : Type 0 where
  pub within : count ≤ length paths
  pub before : (place : ℕ) (other : List ℕ) → place < count → slice_get paths place ≡ Some other → Before other path
  pub next : (other : List ℕ) → slice_get paths count ≡ Some other → Before other path → ⊥

-- the same of files
pub record AreBefore (f : Knowledge) (ns : List ℕ) (path : List ℕ) (count : ℕ) : Type 0 where
  pub within : count ≤ length ns
  pub before : (place : ℕ) (other : List ℕ) → place < count → path_at f (slice_index ns place) ≡ Some other → Before other path
  pub next : (other : List ℕ) → count < length ns → path_at f (slice_index ns count) ≡ Some other → Before other path → ⊥

-- the stamp that a record has for a path at a place, or that it has none there
abbrev pub IsLoggedAt : Record → ℕ → List ℕ → Option ℕ → Type 0
IsLoggedAt r place path (Some stamp) = slice_get r.ins place ≡ Some (path, stamp)
IsLoggedAt r place path None = (stamp : ℕ) → slice_get r.ins place ≡ Some (path, stamp) → ⊥

-- the stamp of the file at a place, where it has this path and was seen to stand
abbrev pub IsPresentAt : Knowledge → List ℕ → ℕ → List ℕ → Option ℕ → Type 0
IsPresentAt f ns place path (Some stamp) = IsSeenAt f ns place path stamp
IsPresentAt f ns place path None = (stamp : ℕ) → IsSeenAt f ns place path stamp → ⊥

-- The record's inputs and the members first differ at this path, in byte order: up to it they agree, and there they have these
-- stamps.
pub record IsOtherInputAt (f : Knowledge) (ins : List ℕ) (r : Record) (path : List ℕ) (logged now : Option ℕ) : Type 0 where
  pub place : ℕ
  pub inputs : IsCountBefore (map path_of r.ins) path place
  pub members : AreBefore f ins path place
  pub agree : AgreeUpTo f r.ins ins place
  pub logged_is : IsLoggedAt r place path logged
  pub present_is : IsPresentAt f ins place path now
  pub other : logged ≢ now

-- ---- rows, from the last one on

abbrev pub IsStampCause : Knowledge → StepNumbers → Record → Cause → Type 0
IsStampCause f numbers r (causes.OtherOutput path logged now) = IsOtherOutputAt f numbers.outs r path logged now
IsStampCause f numbers r (causes.OtherInput path logged now) =
    AreLogged f r.outs numbers.outs × IsOtherInputAt f numbers.ins r path logged now
IsStampCause f numbers r causes.Fresh = AreLogged f r.outs numbers.outs × AreLogged f r.ins numbers.ins
IsStampCause f numbers r cause = ⊥

abbrev pub IsRecordCause : Knowledge → Step → StepNumbers → Record → Cause → Type 0
IsRecordCause f step numbers r (causes.OtherText logged) = (r.text ≡ logged) × (logged ≢ step.text)
IsRecordCause f step numbers r cause = (r.text ≡ step.text) × IsStampCause f numbers r cause

abbrev pub IsLogCause : Knowledge → Step → StepNumbers → Option Record → Cause → Type 0
IsLogCause f step numbers None cause = cause ≡ causes.NoRecord
IsLogCause f step numbers (Some r) cause = IsRecordCause f step numbers r cause

abbrev pub IsMemberCause : Knowledge → Step → StepNumbers → Option Record → Cause → Type 0
IsMemberCause f step numbers last (causes.Older out out_stamp member member_stamp) =
    IsOlderPair f numbers out out_stamp member member_stamp
IsMemberCause f step numbers last cause = NoneOlder f numbers.outs numbers.ins × IsLogCause f step numbers last cause

abbrev pub IsFileCause : Knowledge → Step → StepNumbers → Option Record → Cause → Type 0
IsFileCause f step numbers last (causes.NoOutput path) = IsFirstGonePath f numbers.outs path
IsFileCause f step numbers last cause = AllStand f numbers.outs × IsMemberCause f step numbers last cause

-- the cause of a step of which all that it reads is settled
abbrev pub IsClosedCause : Bool → Knowledge → Step → StepNumbers → Option Record → Cause → Type 0
IsClosedCause all f step numbers last (causes.Lacks path) = ⊥
IsClosedCause all f step numbers last (causes.Waits path) = ⊥
IsClosedCause all f step numbers last causes.All = all ≡ true
IsClosedCause all f step numbers last causes.Always = (all ≡ false) × (step.always ≡ true)
IsClosedCause all f step numbers last causes.NotFile = (all ≡ false) × (step.always ≡ false) × (step.notfile ≡ true)
IsClosedCause all f step numbers last cause = IsOrdinary all step × IsFileCause f step numbers last cause

-- ---- a case

-- this holds of the parts of a case
abbrev pub OnCase : (Knowledge → Step → StepNumbers → Option Record → Type 0) → StepCase → Type 0
OnCase P c = P c.facts.now c.step.now c.numbers.now (option_copied c.last)

-- The numbers are those of files, the members stand in byte order, and the record is one of these outputs.
pub record AreParts (f : Knowledge) (step : Step) (numbers : StepNumbers) (last : Option Record) : Type 0 where
  pub outs : AreNumbers f numbers.outs
  pub ins : AreNumbers f numbers.ins
  pub rising : AreRising f numbers.ins
  pub named : (r : Record) → last ≡ Some r → HavePaths f r.outs numbers.outs
  pub proper : (r : Record) → last ≡ Some r → IsRising r.ins

-- ---- a claim

-- the cause of a step that was not judged
abbrev pub IsCheckedOpen : Survey → ℕ → Cause → Type 0
IsCheckedOpen y number (causes.Lacks path) =
    IsFirstFile y.sights.facts (IsMissingMember y.sights.facts (members_of y.board number)) path
IsCheckedOpen y number (causes.Waits path) =
    ((n : ℕ) → IsMissingMember y.sights.facts (members_of y.board number) n → ⊥)
    × IsFirstFile y.sights.facts (IsUnsettledMember y.board.sched y.sights.facts (members_of y.board number)) path
IsCheckedOpen y number cause = ⊥

abbrev pub IsCheckedBy : Bool → Survey → Step → ℕ → Option Judged → Cause → Type 0
IsCheckedBy all y step number None cause = IsCheckedOpen y number cause
IsCheckedBy all y step number (Some judged) cause =
    IsClosedCause all y.sights.facts step judged.numbers (find_record step.outs y.sights.journal) cause

-- the cause of a needed step
abbrev pub IsCheckedCause : Bool → Survey → Step → ℕ → Cause → Type 0
IsCheckedCause all y step number cause = IsCheckedBy all y step number (judged_at y number) cause

-- the step is needed, and this is its cause
pub record IsCheckedWhy (plan : Plan) (all : Bool) (y : Survey) (why : Why) : Type 0 where
  pub step : Step
  pub at : step_at plan.steps why.step ≡ Some step
  pub needed : IsNeeded y.board.sched why.step
  pub cause : IsCheckedCause all y step why.step why.cause
