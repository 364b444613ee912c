-- Which point of staleness is the first that holds, by what is known of the files.
use Rattle.std.specs.Prelude.{◌≡◌, ◌≢◌, ◌⊎◌, ℕ, ◌<◌, Bool, true, false, List, length, slice_get, slice_index, Option, Some, None}
use Rattle.std.specs.Option.{IfSome}
use Rattle.b2_host.specs.Disks.{Disk}
use Rattle.b2_plan.specs.declared.step.Step.{Step}
use Rattle.b2_log.specs.declared.line.Record.{Record}
use Rattle.b2_log.specs.declared.line.Digests.{Digests}
use Rattle.b2_facts.specs.Facts.{Knowledge, path_at}
use Rattle.b2_verdicts.specs.declared.point.Point.{Point}
use Rattle.b2_verdicts.specs.declared.point.Point.TheVariants as points
use Rattle.b2_verdicts.specs.declared.step_numbers.StepNumbers.{StepNumbers}
use Rattle.b2_verdicts.specs.declared.judging_mode.JudgingMode.{JudgingMode}
use Rattle.b2_verdicts.specs.Sights.{digest_at, AllAsked, AllStand}
use Rattle.b2_verdicts.specs.Stamps.{IsFirstGone, NoneOlder, IsFirstOlder, AreLogged, IsFirstOther}

-- ---- what does not depend on files

-- The update does not run all, and the step is neither always nor notfile.
pub record IsOrdinary (all : Bool) (step : Step) : Type 0 where
  pub not_all : all ≡ false
  pub not_always : step.always ≡ false
  pub not_notfile : step.notfile ≡ false

-- the first of the points that do not depend on files
abbrev pub IsCommanded : Bool → Step → Option Point → Type 0
IsCommanded all step None = IsOrdinary all step
IsCommanded all step (Some points.All) = all ≡ true
IsCommanded all step (Some points.Always) = (all ≡ false) × (step.always ≡ true)
IsCommanded all step (Some points.Notfile) = (all ≡ false) × (step.always ≡ false) × (step.notfile ≡ true)
IsCommanded all step (Some point) = ⊥

-- ---- whether the last record agrees by stamps

-- The last record has the step's text.
pub record HasText (step : Step) (last : Option Record) (found : Record) : Type 0 where
  pub is : last ≡ Some found
  pub text : found.text ≡ step.text

-- why the last record does not agree by stamps: the first reason in order, or none where it does
abbrev pub IsDisagreement : Step → StepNumbers → Option Record → Knowledge → Option Point → Type 0
IsDisagreement step numbers last g None =
    (numbers.done ≡ None) × (found : Record) × HasText step last found × AreLogged g found.outs numbers.outs
    × AreLogged g found.ins numbers.ins
IsDisagreement step numbers last g (Some (points.Done member)) = numbers.done ≡ Some member
IsDisagreement step numbers last g (Some points.NoRecord) = (numbers.done ≡ None) × (last ≡ None)
IsDisagreement step numbers last g (Some points.Text) =
    (numbers.done ≡ None) × (found : Record) × (last ≡ Some found) × (found.text ≢ step.text)
IsDisagreement step numbers last g (Some (points.Outputs place)) =
    (numbers.done ≡ None) × (found : Record) × HasText step last found × IsFirstOther g found.outs numbers.outs place
IsDisagreement step numbers last g (Some (points.Inputs place)) =
    (numbers.done ≡ None) × (found : Record) × HasText step last found × AreLogged g found.outs numbers.outs
    × IsFirstOther g found.ins numbers.ins place
IsDisagreement step numbers last g (Some point) = ⊥

-- ---- by stamps

-- The step is ordinary, and all its outputs were seen to stand.
pub record HasOutputs (all : Bool) (step : Step) (numbers : StepNumbers) (g : Knowledge) : Type 0 where
  pub ordinary : IsOrdinary all step
  pub stand : AllStand g numbers.outs

-- Besides, the members were asked for, and no output is older than one.
pub record IsUpToDate (all : Bool) (step : Step) (numbers : StepNumbers) (g : Knowledge) : Type 0 where
  pub has_outputs : HasOutputs all step numbers g
  pub asked : AllAsked g numbers.ins
  pub none_older : NoneOlder g numbers.outs numbers.ins

-- an output that is missing, the first in order
abbrev pub IsLacking : Bool → Step → StepNumbers → Knowledge → ℕ → Type 0
IsLacking all step numbers g out = IsOrdinary all step × AllAsked g numbers.outs × IsFirstGone g numbers.outs out

-- the first point by stamps, or none where the step is fresh
abbrev pub IsByStamps : Bool → Step → StepNumbers → Option Record → Knowledge → Option Point → Type 0
IsByStamps all step numbers last g (Some points.All) = IsCommanded all step (Some points.All)
IsByStamps all step numbers last g (Some points.Always) = IsCommanded all step (Some points.Always)
IsByStamps all step numbers last g (Some points.Notfile) = IsCommanded all step (Some points.Notfile)
IsByStamps all step numbers last g (Some (points.Lacks out)) = IsLacking all step numbers g out
IsByStamps all step numbers last g (Some (points.Older out member)) =
    HasOutputs all step numbers g × AllAsked g numbers.ins × IsFirstOlder g numbers.outs numbers.ins out member
IsByStamps all step numbers last g (Some (points.FromNotfile member)) =
    IsUpToDate all step numbers g × (numbers.notfile ≡ Some member)
IsByStamps all step numbers last g point =
    IsUpToDate all step numbers g × (numbers.notfile ≡ None) × IsDisagreement step numbers last g point

-- ---- by digests

-- a record has the paths of these files, in order, and no others
pub record HavePaths (g : Knowledge) (logged : List (List ℕ × ℕ)) (ns : List ℕ) : Type 0 where
  pub count : length logged ≡ length ns
  pub each : (k : ℕ) (one : List ℕ × ℕ) → k < length ns → slice_get logged k ≡ Some one
      → path_at g (slice_index ns k) ≡ Some one.0

-- these are the digests that are known of these files, in order
pub record HaveDigests (g : Knowledge) (ns : List ℕ) (digests : List (List ℕ)) : Type 0 where
  pub count : length digests ≡ length ns
  pub each : (k : ℕ) (digest : List ℕ) → k < length ns → slice_get digests k ≡ Some digest
      → digest_at g (slice_index ns k) ≡ Some digest

-- A record agrees by digests: it has digests, the step's text, and the files of the step with the digests that are known.
pub record IsSaved (step : Step) (numbers : StepNumbers) (g : Knowledge) (found : Record) : Type 0 where
  pub text : found.text ≡ step.text
  pub digests : Digests
  pub has : found.digests ≡ Some digests
  pub outs_named : HavePaths g found.outs numbers.outs
  pub ins_named : HavePaths g found.ins numbers.ins
  pub outs : HaveDigests g numbers.outs digests.outs
  pub ins : HaveDigests g numbers.ins digests.ins

-- At a place the file has not this digest: another one is known, or none, for no file stands there.
pub record IsOtherDigest (disk : Option Disk) (g : Knowledge) (ns : List ℕ) (digests : List (List ℕ)) : Type 0 where
  pub place : ℕ
  pub within : place < length ns
  pub digest : List ℕ
  pub told : slice_get digests place ≡ Some digest
  pub other : digest_at g (slice_index ns place) ≢ Some digest
  pub gone : digest_at g (slice_index ns place) ≡ None
      → IfSome disk (λ d. (path : List ℕ) → path_at g (slice_index ns place) ≡ Some path → d.now path ≡ None)

-- A record does not agree by digests.
pub data IsNotSaved (disk : Option Disk) (step : Step) (numbers : StepNumbers) (g : Knowledge)
    (found : Record) : Type 0 where
  other_text : found.text ≢ step.text → IsNotSaved disk step numbers g found
  no_digests : found.digests ≡ None → IsNotSaved disk step numbers g found
  other_outs : (HavePaths g found.outs numbers.outs → ⊥) → IsNotSaved disk step numbers g found
  other_ins : (HavePaths g found.ins numbers.ins → ⊥) → IsNotSaved disk step numbers g found
  out_differs : (digests : Digests) → found.digests ≡ Some digests → IsOtherDigest disk g numbers.outs digests.outs
      → IsNotSaved disk step numbers g found
  in_differs : (digests : Digests) → found.digests ≡ Some digests → IsOtherDigest disk g numbers.ins digests.ins
      → IsNotSaved disk step numbers g found

-- the last record agrees by digests
abbrev pub IsSavedBy : Step → StepNumbers → Knowledge → Option Record → Type 0
IsSavedBy step numbers g None = ⊥
IsSavedBy step numbers g (Some found) = IsSaved step numbers g found

-- the last record does not agree by digests, or there is none
abbrev pub IsNotSavedBy : Option Disk → Step → StepNumbers → Knowledge → Option Record → Type 0
IsNotSavedBy disk step numbers g None = Unit {0}
IsNotSavedBy disk step numbers g (Some found) = IsNotSaved disk step numbers g found

-- The step is ordinary, its outputs stand, its members were asked for, and none is an output of a notfile step.
pub record IsOpenToDigests (all : Bool) (step : Step) (numbers : StepNumbers) (g : Knowledge) : Type 0 where
  pub has_outputs : HasOutputs all step numbers g
  pub no_notfile : numbers.notfile ≡ None
  pub asked : AllAsked g numbers.ins

-- the first point by digests, or none where the step is fresh; a record that agrees by stamps saves the digests
abbrev pub IsByDigests : Option Disk → Bool → Step → StepNumbers → Option Record → Knowledge → Option Point → Type 0
IsByDigests disk all step numbers last g (Some points.All) = IsCommanded all step (Some points.All)
IsByDigests disk all step numbers last g (Some points.Always) = IsCommanded all step (Some points.Always)
IsByDigests disk all step numbers last g (Some points.Notfile) = IsCommanded all step (Some points.Notfile)
IsByDigests disk all step numbers last g (Some (points.Lacks out)) = IsLacking all step numbers g out
IsByDigests disk all step numbers last g (Some (points.Older out member)) = ⊥
IsByDigests disk all step numbers last g (Some (points.FromNotfile member)) =
    HasOutputs all step numbers g × (numbers.notfile ≡ Some member)
IsByDigests disk all step numbers last g None =
    IsOpenToDigests all step numbers g × (IsDisagreement step numbers last g None ⊎ IsSavedBy step numbers g last)
IsByDigests disk all step numbers last g (Some point) =
    IsOpenToDigests all step numbers g × IsDisagreement step numbers last g (Some point)
    × IsNotSavedBy disk step numbers g last

-- ---- either way

-- the first point by digests or by stamps, or none where the step is fresh
abbrev pub IsPointBy : Bool → Option Disk → Bool → Step → StepNumbers → Option Record → Knowledge → Option Point → Type 0
IsPointBy false disk all step numbers last g point = IsByStamps all step numbers last g point
IsPointBy true disk all step numbers last g point = IsByDigests disk all step numbers last g point

-- the first point in a way of judging, or none where the step is fresh
abbrev pub IsPoint : Option Disk → JudgingMode → Step → StepNumbers → Option Record → Knowledge → Option Point → Type 0
IsPoint disk way step numbers last g point = IsPointBy way.by_digest disk way.all step numbers last g point
