-- What explaining and checking promise, where files are visible.
use Rattle.std.specs.Prelude.{◌↔◌, ⊤, Bool, List, [], IsTrue, Result, Ok, Err}
use Rattle.std.specs.Option.{IfSome}
use Rattle.b2_host.specs.Disks.{Disk}
use Rattle.b2_host.specs.Outside.{Outside}
use Rattle.b2_plan.specs.declared.plan.Plan.{Plan}
use Rattle.b2_log.specs.declared.line.LogLine.{LogLine}
use Rattle.b2_runs.specs.Staleness.{Update}
use Rattle.b2_runs.specs.FileReads.{IsTooBig}
use Rattle.b2_explain.specs.declared.cause.Why.{Why}
use Rattle.b2_explain.specs.declared.fault.ExplainFault.{ExplainFault}
use Rattle.b2_explain.specs.declared.fault.ExplainFault.TheVariants as faults
use Rattle.b2_explain.specs.Entries.{Made, entry_of, AreTrueLines}
use Rattle.b2_explain.specs.Whys.{IsExplained, IsWhy}

-- this holds of each update of the plan that begins with these files and lines, whatever steps make, where these lines are true
abbrev pub TrueEntries : Plan → Bool → List LogLine → Outside → (Update → Disk → Type 0) → Type 0
TrueEntries plan all log before P = IfSome before.disk (λ disk. (made : Made)
    → AreTrueLines (entry_of plan made all disk.now log) disk.past → P (entry_of plan made all disk.now log) disk)

-- this holds of the value, or the fault is as it may be: a file that is too big is one that a needed step reads
abbrev pub ToldOr : {T : Type 0} → (T → Type 0) → Update → Disk → Result T ExplainFault → Type 0
ToldOr P u disk (Ok x) = P x
ToldOr P u disk (Err faults.Host) = ⊤
ToldOr P u disk (Err (faults.TooBig path size)) = IsTooBig u [] disk.now path size
ToldOr P u disk (Err faults.OutOfMemory) = ⊤

-- each needed step is explained
abbrev pub ExplainTold : Plan → Bool → List LogLine → Outside → Result (List Why) ExplainFault → Type 0
ExplainTold plan all log before result = TrueEntries plan all log before (λ u disk. ToldOr (IsExplained u) u disk result)

-- the answer is whether this is why the step is to run, or is not
abbrev pub CheckTold : Plan → Bool → List LogLine → Why → Outside → Result Bool ExplainFault → Type 0
CheckTold plan all log why before result =
    TrueEntries plan all log before (λ u disk. ToldOr (λ answer. IsTrue answer ↔ IsWhy u why) u disk result)
