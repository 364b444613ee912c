-- Causes by what is known of files.
use Rattle.std.specs.Prelude.{◌≡◌, ◌⊎◌, ℕ, ◌<◌, Bool, true, false, List, length, slice_get, slice_index, Option, Some, None}
use Rattle.b2_base.specs.Bytes.{Before}
use Rattle.b2_plan.specs.declared.step.Step.{Step}
use Rattle.b2_log.specs.declared.line.Record.{Record}
use Rattle.b2_sched.specs.Schedules.{Schedule}
use Rattle.b2_facts.specs.Facts.{Knowledge, path_at}
use Rattle.b2_reach.specs.Reaches.{IsMissingMember}
use Rattle.b2_verdicts.specs.declared.point.Point.{Point}
use Rattle.b2_verdicts.specs.declared.point.Point.TheVariants as points
use Rattle.b2_verdicts.specs.declared.step_numbers.StepNumbers.{StepNumbers}
use Rattle.b2_verdicts.specs.Sights.{AreNumbers, stamp_of}
use Rattle.b2_verdicts.specs.Points.{IsByStamps, HavePaths}
use Rattle.b2_explain.specs.declared.cause.Cause.{Cause}
use Rattle.b2_explain.specs.declared.cause.Cause.TheVariants as causes
use Rattle.b2_explain.specs.Sights.{IsFirstFile, IsUnsettledMember, IsSeenAt}

-- ---- the cause of a point

-- the cause tells the output and the member at these places, with their stamps
pub record IsOlderCause (numbers : StepNumbers) (f : Knowledge) (out member : ℕ) (cause : Cause) : Type 0 where
  pub out_path : List ℕ
  pub out_stamp : ℕ
  pub out_is : IsSeenAt f numbers.outs out out_path out_stamp
  pub member_path : List ℕ
  pub member_stamp : ℕ
  pub member_is : IsSeenAt f numbers.ins member member_path member_stamp
  pub told : cause ≡ causes.Older out_path out_stamp member_path member_stamp

-- the cause tells that this output is older than this member, with their paths and stamps
abbrev pub TellsOlder : Knowledge → ℕ → ℕ → Cause → Type 0
TellsOlder f out member (causes.Older out_path out_stamp member_path member_stamp) =
    ((path_at f out ≡ Some out_path) × (stamp_of f out ≡ Some out_stamp))
    × ((path_at f member ≡ Some member_path) × (stamp_of f member ≡ Some member_stamp))
TellsOlder f out member cause = ⊥

-- the cause tells the output at this place, with the stamp that the record has and with its own
pub record IsOutputCause (numbers : StepNumbers) (f : Knowledge) (r : Record) (place : ℕ) (cause : Cause) : Type 0 where
  pub path : List ℕ
  pub logged : ℕ
  pub logged_is : slice_get r.outs place ≡ Some (path, logged)
  pub now : ℕ
  pub now_is : IsSeenAt f numbers.outs place path now
  pub told : cause ≡ causes.OtherOutput path logged now

-- the path of the file at a place
abbrev pub path_in : Knowledge → List ℕ → ℕ → Option (List ℕ)
path_in f ns place = path_at f (slice_index ns place)

-- The cause tells the lesser one of the two paths at this place: of the record's input there and of the member there. Where both
-- have one path it tells both stamps.
pub data IsInputCause (f : Knowledge) (ins : List ℕ) (r : Record) (place : ℕ) (cause : Cause) : Type 0 where
  both : (path : List ℕ) (logged : ℕ) → slice_get r.ins place ≡ Some (path, logged) → place < length ins
      → path_in f ins place ≡ Some path
      → cause ≡ causes.OtherInput path (Some logged) (stamp_of f (slice_index ins place)) → IsInputCause f ins r place cause
  left : (path : List ℕ) (logged : ℕ) → slice_get r.ins place ≡ Some (path, logged)
      → ((other : List ℕ) → place < length ins → path_in f ins place ≡ Some other → Before path other)
      → cause ≡ causes.OtherInput path (Some logged) None → IsInputCause f ins r place cause
  came : (path : List ℕ) → place < length ins → path_in f ins place ≡ Some path
      → ((other : List ℕ) (logged : ℕ) → slice_get r.ins place ≡ Some (other, logged) → Before path other)
      → cause ≡ causes.OtherInput path None (stamp_of f (slice_index ins place)) → IsInputCause f ins r place cause

-- of a member and of an input with this path and stamp, which stand at one place, the cause tells the one with the lesser path, or
-- both stamps where they have one path
abbrev pub IsLesserInput : Knowledge → ℕ → List ℕ → ℕ → Cause → Type 0
IsLesserInput f number path logged cause = (other : List ℕ) → path_at f number ≡ Some other
    → ((path ≡ other) × (cause ≡ causes.OtherInput path (Some logged) (stamp_of f number)))
    ⊎ (Before path other × (cause ≡ causes.OtherInput path (Some logged) None))
    ⊎ (Before other path × (cause ≡ causes.OtherInput other None (stamp_of f number)))

-- a record is told of
abbrev pub IfFound : Option Record → (Record → Type 0) → Type 0
IfFound last P = (r : Record) × (last ≡ Some r) × P r

-- the cause of a point of staleness, of which that from a notfile step and that of a step that is done do not come at entry
abbrev pub IsCauseOf : StepNumbers → Option Record → Knowledge → Point → Cause → Type 0
IsCauseOf numbers last f points.All cause = cause ≡ causes.All
IsCauseOf numbers last f points.Always cause = cause ≡ causes.Always
IsCauseOf numbers last f points.Notfile cause = cause ≡ causes.NotFile
IsCauseOf numbers last f (points.Lacks place) cause =
    (path : List ℕ) × (path_at f (slice_index numbers.outs place) ≡ Some path) × (cause ≡ causes.NoOutput path)
IsCauseOf numbers last f (points.Older out member) cause = IsOlderCause numbers f out member cause
IsCauseOf numbers last f (points.FromNotfile member) cause = ⊥
IsCauseOf numbers last f (points.Done member) cause = ⊥
IsCauseOf numbers last f points.NoRecord cause = cause ≡ causes.NoRecord
IsCauseOf numbers last f points.Text cause = IfFound last (λ r. cause ≡ causes.OtherText r.text)
IsCauseOf numbers last f (points.Outputs place) cause = IfFound last (λ r. IsOutputCause numbers f r place cause)
IsCauseOf numbers last f (points.Inputs place) cause = IfFound last (λ r. IsInputCause f numbers.ins r place cause)

-- ---- points at entry

-- whether a point speaks of a record, or of files
abbrev pub is_of_record : Point → Bool
is_of_record points.Text = true
is_of_record (points.Outputs place) = true
is_of_record (points.Inputs place) = true
is_of_record point = false

abbrev pub is_of_files : Point → Bool
is_of_files points.All = false
is_of_files points.Always = false
is_of_files points.Notfile = false
is_of_files point = true

-- The point is the first one of a step, by stamps, where nothing has happened yet.
pub record IsAtEntry (f : Knowledge) (numbers : StepNumbers) (last : Option Record) (point : Point) : Type 0 where
  pub all : Bool
  pub step : Step
  pub first : IsByStamps all step numbers last f (Some point)
  pub outs : AreNumbers f numbers.outs
  pub ins : AreNumbers f numbers.ins
  pub no_notfile : numbers.notfile ≡ None
  pub none_done : numbers.done ≡ None
  pub named : (r : Record) → last ≡ Some r → HavePaths f r.outs numbers.outs

-- ---- the cause of a step

-- the cause of a point, or that the step is fresh
abbrev pub IsCauseBy : StepNumbers → Option Record → Knowledge → Option Point → Cause → Type 0
IsCauseBy numbers last f None cause = cause ≡ causes.Fresh
IsCauseBy numbers last f (Some point) cause = IsCauseOf numbers last f point cause

-- The cause of a step that was judged: that of its first point by stamps.
pub record IsJudgedCause (all : Bool) (step : Step) (numbers : StepNumbers) (last : Option Record) (f : Knowledge)
    (cause : Cause) : Type 0 where
  pub point : Option Point
  pub first : IsByStamps all step numbers last f point
  pub told : IsCauseBy numbers last f point cause

-- the cause of a step that was not judged, by what it is known to read: a file that it lacks, or one that it waits for
abbrev pub IsOpenCause : Schedule → Knowledge → List ℕ → Bool → Cause → Type 0
IsOpenCause s f members true cause = (path : List ℕ) × IsFirstFile f (IsMissingMember f members) path × (cause ≡ causes.Lacks path)
IsOpenCause s f members false cause =
    (path : List ℕ) × IsFirstFile f (IsUnsettledMember s f members) path × (cause ≡ causes.Waits path)
