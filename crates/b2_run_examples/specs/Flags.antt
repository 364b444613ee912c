use Rattle.std.specs.Prelude.{Bool, true, false, List, [], ◌∷◌}
use Rattle.b2_host.specs.Disks.{Folder}
use Rattle.b2_plan.specs.declared.step.Step.{Step}
use Rattle.b2_plan.specs.Plans.{Apart}
use Rattle.b2_plan.specs.Sources.{Build}
use Rattle.b2_log.specs.declared.line.LogLine.{LogLine}
use Rattle.b2_runs.specs.Staleness.{Update}
use Rattle.b2_runs.specs.Runs.{IsRun}
use Rattle.b2_runs.specs.Outcomes.{AllWent, IsCleanBuild}
use Rattle.b2_runs.specs.Afterwards.{IsMadeEachTime}
use Rattle.b2_runs.specs.LogCourses.{IsLogAfter}
use Rattle.b2_run_examples.specs.Examples.{in_path, out_path, plan_from, copy_step, at_entry, disk_after, log_after, copied}

-- the step that copies, with these flags
abbrev pub flagged_step : Bool → Bool → Step
flagged_step always notfile = record copy_step { always = always; notfile = notfile }

-- the plan of it, with these files
abbrev pub flagged : Bool → Bool → Folder → Build
flagged always notfile folder = record (plan_from (in_path ∷ [])) { steps = flagged_step always notfile ∷ []; folder = folder }

-- an update of it with this log
abbrev pub flagged_update : Bool → Bool → Folder → List LogLine → Update
flagged_update always notfile folder log = record { build = flagged always notfile folder; log = log; scanned = λ path. false; unscanned = λ path bytes e. λ i. []; digest = λ bytes. bytes; by_digest = false; all = false; quit = false; jobs = 1 }

-- An always-step runs again where its output and its record stand; a notfile step runs each time, leaves no record, and owes no
-- file: all goes well though none stands.
pub record FlagsHold : Type 0 where
  pub apart : (always notfile : Bool) (folder : Folder) → Apart (flagged always notfile folder).steps (flagged always notfile folder).roots
  pub always_runs : IsRun (flagged_update true false disk_after.now log_after) copied
  pub always_not_idle : ¬ IsRun (flagged_update true false disk_after.now log_after) []
  pub always_made_each_time : IsMadeEachTime (flagged true false disk_after.now) out_path
  pub notfile_runs : IsRun (flagged_update false true at_entry []) copied
  pub notfile_again : IsRun (flagged_update false true disk_after.now []) copied
  pub notfile_log : IsLogAfter (flagged_update false true at_entry []) at_entry [] copied []
  pub notfile_went : AllWent (flagged_update false true at_entry []) copied
  pub notfile_clean : IsCleanBuild (flagged false true at_entry) at_entry
  -- a step without flags does not
  pub plain_idle : IsRun (flagged_update false false disk_after.now log_after) []
