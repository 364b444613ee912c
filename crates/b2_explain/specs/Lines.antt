-- The lines that tell causes and removals.
use Rattle.std.specs.Prelude.{ℕ, Bool, true, false, List, ◌++◌, Option, Some, None, codes}
use Rattle.std.specs.List.{flat_map}
use Rattle.std.specs.Fmt.{decimal}
use Rattle.b2_base.specs.Lists.{first_of}
use Rattle.b2_plan.specs.declared.step.Step.{Step}
use Rattle.b2_plan.specs.Plans.{step_at}
use Rattle.b2_runs.specs.Reports.{line, named, said_of}
use Rattle.b2_explain.specs.declared.cause.Cause.{Cause}
use Rattle.b2_explain.specs.declared.cause.Cause.TheVariants as causes
use Rattle.b2_explain.specs.declared.cause.Why.{Why}

-- a stamp, or that there is none
abbrev pub stamp_text : Option ℕ → List ℕ
stamp_text None = codes "none"
stamp_text (Some stamp) = decimal stamp

-- what stood, and what is so now
abbrev pub change_text : List ℕ → List ℕ → List ℕ → List ℕ → List ℕ
change_text what path was now = what ++ codes " " ++ path ++ codes " was " ++ was ++ codes ", is " ++ now

abbrev pub cause_text : Cause → List ℕ
cause_text (causes.Lacks path) = codes "lacks " ++ path
cause_text (causes.Waits path) = codes "waits for " ++ path
cause_text causes.All = codes "all are asked for"
cause_text causes.Always = codes "always"
cause_text causes.NotFile = codes "no file"
cause_text (causes.NoOutput path) = codes "output " ++ path ++ codes " missing"
cause_text (causes.Older out out_stamp member member_stamp) =
    out ++ codes " of " ++ decimal out_stamp ++ codes " is older than " ++ member ++ codes " of " ++ decimal member_stamp
cause_text causes.NoRecord = codes "no record"
cause_text (causes.OtherText logged) = codes "another text"
cause_text (causes.OtherOutput path logged now) = change_text (codes "output") path (decimal logged) (decimal now)
cause_text (causes.OtherInput path logged now) = change_text (codes "input") path (stamp_text logged) (stamp_text now)
cause_text causes.Fresh = codes "fresh"

-- the line of a step: its name and its first output, or the output alone where the name is empty; and the cause
abbrev pub cause_line : Cause → Step → List ℕ
cause_line cause step = line (named step.name (first_of step.outs) ++ codes ": " ++ cause_text cause)

abbrev pub why_line : List Step → Why → List ℕ
why_line steps why = said_of (cause_line why.cause) (step_at steps why.step)

abbrev pub why_lines : List Step → List Why → List ℕ
why_lines steps whys = flat_map (why_line steps) whys

-- an output that was removed
abbrev pub removed_line : List ℕ → List ℕ
removed_line path = line (codes "...removed " ++ path ++ codes "...")

-- how many outputs were removed
abbrev pub removed_count_line : ℕ → List ℕ
removed_count_line count = line (codes "removed " ++ decimal count)

-- whether the text of a cause names a file
abbrev pub names_file : Cause → Bool
names_file causes.All = false
names_file causes.Always = false
names_file causes.NotFile = false
names_file causes.NoRecord = false
names_file (causes.OtherText logged) = false
names_file causes.Fresh = false
names_file cause = true

-- whether it tells a stamp
abbrev pub names_stamps : Cause → Bool
names_stamps (causes.Older out out_stamp member member_stamp) = true
names_stamps (causes.OtherOutput path logged now) = true
names_stamps (causes.OtherInput path logged now) = true
names_stamps cause = false
