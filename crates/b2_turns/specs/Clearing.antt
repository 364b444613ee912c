-- How the outputs of a step that failed are removed, and how its record is dropped.
use Rattle.std.specs.Prelude.{◌≡◌, ℕ, true, false, List, [], ◌∷◌, ◌++◌, Some, None, Result, MatchResult}
use Rattle.std.specs.List.{Contains}
use Rattle.b2_base.specs.Counts.{Rose}
use Rattle.b2_host.specs.declared.children.ChildEvent.{ChildEvent}
use Rattle.b2_host.specs.declared.children.ChildEvent.TheVariants.{Done}
use Rattle.b2_host.specs.declared.fault.Failed.{Failed}
use Rattle.b2_host.specs.Disks.{Disk}
use Rattle.b2_host.specs.ChildProcesses.{BothTold}
use Rattle.b2_host.specs.Outside.{Outside, Read}
use Rattle.b2_host.specs.OutsideLaws.{Keeps}
use Rattle.b2_host.specs.LogChanges.{ChangesOnlyLog}
use Rattle.b2_plan.specs.declared.step.Step.{Step}
use Rattle.b2_plan.specs.Plans.{step_at}
use Rattle.b2_log.specs.declared.line.LogLine.{LogLine}
use Rattle.b2_runs.specs.Staleness.{Update}
use Rattle.b2_runs.specs.Soundness.{Distinguishes}
use Rattle.b2_facts.specs.declared.stop.FilesStop.{FilesStop}
use Rattle.b2_facts.specs.Stops.{StopTold}
use Rattle.b2_reach.specs.declared.sights.Sights.{Sights}
use Rattle.b2_looks.specs.UnderWay.{IsUnderWay, IsHalted}
use Rattle.b2_looks.specs.Judging.{OthersStayNoted}
use Rattle.b2_turns.specs.Ends.{HasEnded}

-- ---- over every host

-- no file changed but those at these paths, none was written, and none stands that did not stand before
pub record RemovesOnly (outs : List (List ℕ)) (before after : Disk) : Type 0 where
  pub others : (path : List ℕ) → (Contains outs path → ⊥) → after.now path ≡ before.now path
  pub fewer : (path : List ℕ) → before.now path ≡ None → after.now path ≡ None
  pub past : after.past ≡ before.past

-- no file stands at these paths
abbrev pub AreGone : List (List ℕ) → Disk → Type 0
AreGone outs disk = (path : List ℕ) → Contains outs path → disk.now path ≡ None

-- Files were removed at these paths, or at some of them: nothing else changed but the count of faults, which tells whether
-- the host failed.
pub record RemovesFiles {T : Type 0} (outs : List (List ℕ)) (before after : Outside) (result : Result T Failed)
    : Type 0 where
  pub files : BothTold (RemovesOnly outs) before.disk after.disk
  pub rest : after ≡ record before { disk = after.disk; faults = after.faults }
  pub keeps : Keeps before after
  pub faults : MatchResult result (λ x. after.faults ≡ before.faults)
      (λ fault. (before.risks.may_fail ≡ true) × Rose before.faults after.faults)

-- ---- over a host whose files are visible

-- What noting the drop of a failed step tells, after its outputs were removed: the update is under way, and the records of
-- other steps stay.
abbrev pub DropTold : {T : Type 0} → Step → Outside → Sights → Outside → Sights → Result T FilesStop → Type 0
DropTold step old s new t result = BothTold (λ before after. (u : Update) (events : List ChildEvent) (i : ℕ)
    (first : List LogLine) (reads : List Read) → Distinguishes u after.past → step_at u.build.steps i ≡ Some step
    → HasEnded u events i false first reads before s
    → MatchResult result
    (λ x. IsUnderWay u (events ++ Done i false ∷ []) first reads after t
    × OthersStayNoted u (events ++ Done i false ∷ []) step before.now s.journal after.now t.journal)
    (λ stop. IsHalted u (events ++ Done i false ∷ []) reads after t.facts stop)) old.disk new.disk

-- A drop is noted where the log has a record: nothing changed but the log's file and the count of faults, which tells
-- whether the host failed.
pub record NotesDrop {T : Type 0} (step : Step) (x : Outside) (s : Sights) (y : Outside) (t : Sights)
    (result : Result T FilesStop) : Type 0 where
  pub facts : t.facts ≡ s.facts
  pub way : t.by_digest ≡ s.by_digest
  pub only_log : ChangesOnlyLog x y
  pub unread : y.reads ≡ x.reads
  pub faults : StopTold x y result
  pub told : DropTold step x s y t result
