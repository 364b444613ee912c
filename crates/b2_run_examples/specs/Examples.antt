use Rattle.std.specs.Prelude.{◌≡◌, ℕ, ◌<◌, length, true, false, List, [], ◌∷◌, ◌++◌, Some, None, codes, refl, if◌then◌else◌}
use Rattle.std.specs.List.{flat_map}
use Rattle.std.specs.Str.{bytes_eq}
use Rattle.b2_host.specs.declared.children.ChildEvent.{ChildEvent}
use Rattle.b2_host.specs.declared.children.ChildEvent.TheVariants.{Start, Done}
use Rattle.b2_host.specs.Disks.{File, Folder, Disk, Past, put}
use Rattle.b2_host.specs.ChildProcesses.{Given, Child, Family, Ends}
use Rattle.b2_plan.specs.declared.step.Step.{Step}
use Rattle.b2_plan.specs.Plans.{Apart}
use Rattle.b2_host.specs.FileCalls.{log_path}
use Rattle.b2_plan.specs.Sources.{Build}
use Rattle.b2_plan.specs.Closures.{Value}
use Rattle.b2_log.specs.declared.line.Record.{Record}
use Rattle.b2_log.specs.declared.line.LogLine.{LogLine}
use Rattle.b2_log.specs.declared.line.LogLine.TheVariants as lines
use Rattle.b2_log.specs.Lines.{log_bytes}
use Rattle.b2_runs.specs.Logs.{LogTrue}
use Rattle.b2_runs.specs.LogFiles.{IsLogOf, FileTells, IsTrueFile}
use Rattle.b2_runs.specs.LogCourses.{IsLogWhole, IsLogCut}
use Rattle.b2_runs.specs.Staleness.{Update, making, IsFresh, IsStale}
use Rattle.b2_runs.specs.Runs.{IsRun}
use Rattle.b2_runs.specs.Outcomes.{AllWent, IsListOf, IsStuck}
use Rattle.b2_runs.specs.Cycles.{IsStepCycle}
use Rattle.b2_run_examples.specs.Overlap.{copy_from, a_path, b_path, c_path}
use Rattle.b2_runs.specs.CompleteLaws.{CleanIsDefined}
use Rattle.b2_runs.specs.Soundness.{IsSound, IsAllowedChange, AreAtWork}
use Rattle.b2_runs.specs.Afterwards.{next_update, IsNoted}

-- a path that a step reads, and one that it writes
abbrev pub in_path : List ℕ
in_path = codes "in"

abbrev pub out_path : List ℕ
out_path = codes "bin/out"

-- a step that writes `bin/out` from its inputs
abbrev pub step_from : List (List ℕ) → Step
step_from ins = record { name = codes "join"; text = codes "cat"; outs = out_path ∷ []; ins = ins; dirs = []; always = false; notfile = false }

-- `in` stands before the build, with the byte 7
abbrev pub in_file : File
in_file = record { stamp = 1; bytes = 7 ∷ [] }

abbrev pub at_entry : Folder
at_entry path = if bytes_eq in_path path then Some in_file else None

-- A plan of one step, which writes `bin/out`. What it makes is the bytes of its inputs, joined.
abbrev pub plan_from : List (List ℕ) → Build
plan_from ins = record {
  steps = step_from ins ∷ [];
  wanted = out_path ∷ [];
  roots = codes "bin" ∷ [];
  folder = at_entry;
  inc = λ path bytes. [];
  looks = λ dirs path include. [];
  made = λ text held out. flat_map (λ input. input.1) held;
}

-- an update of it without a log
abbrev pub update_from : List (List ℕ) → Update
update_from ins = record { build = plan_from ins; log = []; scanned = λ path. false; unscanned = λ path bytes e. refl; digest = λ bytes. bytes; by_digest = false; all = false; quit = false; jobs = 1 }

-- the update of the plan that copies `in` to `bin/out`
abbrev pub copying : Update
copying = update_from (in_path ∷ [])

-- its run
abbrev pub copied : List ChildEvent
copied = Start 1 ∷ Done 1 true ∷ []

-- what it finds and what it leaves
abbrev pub out_file : File
out_file = record { stamp = 2; bytes = 7 ∷ [] }

abbrev pub in_past : Past
in_past = record { path = in_path; file = in_file }

abbrev pub out_past : Past
out_past = record { path = out_path; file = out_file }

abbrev pub disk_before : Disk
disk_before = record { now = at_entry; past = in_past ∷ [] }

abbrev pub disk_after : Disk
disk_after = record { now = put out_path (Some out_file) at_entry; past = in_past ∷ out_past ∷ [] }

abbrev pub copy_record : Record
copy_record = record { text = codes "cat"; outs = (out_path, 2) ∷ []; ins = (in_path, 1) ∷ []; digests = None }

abbrev pub log_after : List LogLine
log_after = lines.Record copy_record ∷ []

-- the child that runs in between
abbrev pub copy_given : Given
copy_given = record { step = 1; text = codes "cat"; ins = in_path ∷ []; outs = out_path ∷ []; held = (in_path, 7 ∷ []) ∷ [] }

abbrev pub copy_child : Child
copy_child = record { step = 1; ins = in_path ∷ []; outs = out_path ∷ []; given = Some copy_given }

-- the child processes before its end, and after it
abbrev pub family_before : Family
family_before = record { running = copy_child ∷ []; events = Start 1 ∷ []; given = Some (copy_given ∷ []) }

abbrev pub family_after : Family
family_after = record { running = []; events = copied; given = Some (copy_given ∷ []) }

-- The update that copies is one of an apart plan. Its run is a whole run in which all went well, and what it finds, leaves
-- and notes is sound, true and noted.
pub record CopyingHolds : Type 0 where
  pub apart : Apart copying.build.steps copying.build.roots
  pub run : IsRun copying copied
  pub went : AllWent copying copied
  pub defined : CleanIsDefined copying copied
  pub ends : Ends copying.build.made family_before (Some disk_before) 1 true family_after (Some disk_after)
  pub at_work : AreAtWork copying (Start 1 ∷ []) (copy_child ∷ [])
  pub change : IsAllowedChange copying (Start 1 ∷ []) disk_before disk_after
  pub sound : IsSound copying copied disk_after
  pub log_true : LogTrue (making copying) disk_after.past log_after
  pub noted : IsNoted copying copied disk_after.now log_after

-- the bytes of that log: one line, with the byte 9 between its fields and 10 at its end
abbrev pub copy_bytes : List ℕ
copy_bytes = codes "+1" ++ 9 ∷ codes "cat" ++ 9 ∷ codes "1" ++ 9 ∷ codes "bin/out" ++ 9 ∷ codes "2" ++ 9 ∷ codes "1" ++ 9 ∷ codes "in" ++ 9 ∷ codes "1" ++ 9 ∷ codes "." ++ 10 ∷ []

-- the files after the update, and these bytes in the log's file
abbrev pub with_log : List ℕ → Folder
with_log bytes = put log_path (Some (record { stamp = 3; bytes = bytes })) disk_after.now

-- A file of these bytes counts as that log, is true, and tells the record. Where bytes of its end are missing it is still
-- true, and tells nothing. It is not true where nothing has stood.
pub record CopyingFiled : Type 0 where
  pub spelled : log_bytes log_after ≡ copy_bytes
  pub counts : IsLogOf copy_bytes log_after
  pub is_true : IsTrueFile (making copying) disk_after.past copy_bytes
  pub tells : FileTells copy_bytes (out_path ∷ []) (Some copy_record)
  pub torn : (part missing : List ℕ) → copy_bytes ≡ part ++ missing → 0 < length missing → IsTrueFile (making copying) disk_after.past part × FileTells part (out_path ∷ []) None
  pub not_true : ¬ IsTrueFile (making copying) [] copy_bytes
  -- the update that copies leaves it where no log stood; one that was cut off leaves any first part of it
  pub whole : IsLogWhole copying copied (with_log copy_bytes)
  pub cut : (part missing : List ℕ) → copy_bytes ≡ part ++ missing → IsLogCut copying copied (with_log part)
  -- but never no log
  pub some_log : ¬ IsLogWhole copying copied disk_after.now
  -- and the next update, wherever it is cut off, keeps all of these bytes
  pub kept : (part missing : List ℕ) (events : List ChildEvent) → copy_bytes ≡ part ++ missing → 0 < length missing → ¬ IsLogCut (next_update copying (with_log copy_bytes) log_after false 1) events (with_log part)

-- the step that copies, and its closure
abbrev pub copy_step : Step
copy_step = step_from (in_path ∷ [])

abbrev pub in_members : List (List ℕ × Value)
in_members = (in_path, Some (7 ∷ [])) ∷ []

-- an update after it, with these files and this log, that may have four children open and is to quit
abbrev pub after_copying : Folder → List LogLine → Update
after_copying now log = next_update copying now log true 4

-- a file that was written again
abbrev pub new_file : File
new_file = record { stamp = 3; bytes = 8 ∷ [] }

-- How the step that copies is judged by an update after it.
pub record CopyingJudged : Type 0 where
  -- with nothing to do
  pub unchanged : IsFresh (after_copying disk_after.now log_after) [] copy_step in_members
  -- to run all
  pub run_all : IsStale (record (after_copying disk_after.now log_after) { all = true }) [] copy_step in_members
  -- the input was written, or the output, or the output was removed
  pub input_edited : IsStale (after_copying (put in_path (Some new_file) disk_after.now) log_after) [] copy_step ((in_path, Some (8 ∷ [])) ∷ [])
  pub output_edited : IsStale (after_copying (put out_path (Some new_file) disk_after.now) log_after) [] copy_step in_members
  pub output_removed : IsStale (after_copying (put out_path None disk_after.now) log_after) [] copy_step in_members
  -- the log was deleted, or the record dropped
  pub log_deleted : IsStale (after_copying disk_after.now []) [] copy_step in_members
  pub record_dropped : IsStale (after_copying disk_after.now (log_after ++ lines.Drop (out_path ∷ []) ∷ [])) [] copy_step in_members
  -- the closure has lost a member, though no stamp rose
  pub member_lost : IsStale (after_copying disk_after.now log_after) [] copy_step []
  -- the text is another
  pub text_changed : IsStale (after_copying disk_after.now log_after) [] (record copy_step { text = codes "cat in" }) in_members

-- the update of the plan that writes `bin/out` from itself
abbrev pub circling : Update
circling = update_from (out_path ∷ [])

-- It is one of an apart plan. Its run without events is a whole run, and leaves its step stuck, in a cycle with itself.
pub record CirclingHolds : Type 0 where
  pub apart : Apart circling.build.steps circling.build.roots
  pub run : IsRun circling []
  pub stuck : IsStuck circling [] 1
  pub cycle : IsStepCycle circling [] (1 ∷ [])

-- `a` is copied from `b`, `b` from `c`, and `c` from `b`; `a` is wanted
abbrev pub tailed_copies : Build
tailed_copies = record {
  steps = copy_from b_path a_path ∷ copy_from c_path b_path ∷ copy_from b_path c_path ∷ [];
  wanted = a_path ∷ [];
  roots = codes "bin" ∷ [];
  folder = at_entry;
  inc = λ path bytes. [];
  looks = λ dirs path include. [];
  made = λ text held out. flat_map (λ input. input.1) held;
}

abbrev pub tailed : Update
tailed = record { build = tailed_copies; log = []; scanned = λ path. false; unscanned = λ path bytes e. refl; digest = λ bytes. bytes; by_digest = false; all = false; quit = false; jobs = 2 }

-- It is one of an apart plan. Its run without events is a whole run, and leaves all three steps stuck. The walk goes from
-- the first step to the second, the third and the second again, so the first step, where it starts, is not in the list.
pub record TailedHolds : Type 0 where
  pub apart : Apart tailed.build.steps tailed.build.roots
  pub run : IsRun tailed []
  pub stuck : IsListOf (IsStuck tailed []) (1 ∷ 2 ∷ 3 ∷ [])
  pub cycle : IsStepCycle tailed [] (2 ∷ 3 ∷ [])
  pub no_other : (list : List ℕ) → IsStepCycle tailed [] list → list ≡ 2 ∷ 3 ∷ []
