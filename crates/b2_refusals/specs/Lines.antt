-- The lines of refusals and of looks at a project.
use Rattle.std.specs.Prelude.{ℕ, List, ◌++◌, codes}
use Rattle.std.specs.Fmt.{decimal}
use Rattle.b2_plan.specs.declared.step.Step.{Step}
use Rattle.b2_props.specs.Sets.{Pair}
use Rattle.b2_refusals.specs.declared.fault.Fault.{Fault}
use Rattle.b2_refusals.specs.declared.fault.Fault.TheVariants as faults
use Rattle.b2_refusals.specs.Pieces.{size_text, after_spaces}
use Rattle.b2_refusals.specs.Texts.{plan_text, jam_text}
use Rattle.b2_runs.specs.Reports.{line, start_line, cycle_text}

-- the text of a refusal, where these are the steps of the plan
abbrev pub fault_text : List Step → Fault → List ℕ
fault_text steps (faults.Plan why) = plan_text why
fault_text steps (faults.Jam fault) = jam_text fault
fault_text steps (faults.StepCycle list) = codes "step cycle: " ++ cycle_text steps list
fault_text steps (faults.TooBig path size) = size_text path size

-- a line that the program says of itself
abbrev pub own_line : List ℕ → List ℕ
own_line text = line (codes "b2: " ++ text)

abbrev pub refusal_line : List Step → Fault → List ℕ
refusal_line steps fault = own_line (fault_text steps fault)

abbrev pub usage_line : List ℕ
usage_line = own_line (codes "usage: b2 [-jN] [-a] [-q] [--by=digest] [-n, --show, --explain or --clean] [word ..], or b2 -f FILE [target ..], or b2 --drill=N")

-- ---- looks

-- a row of the table of main targets: the target, the number of its alternative, and its properties
abbrev pub table_line : List ℕ → ℕ → List Pair → List ℕ
table_line target alternative set = line (target ++ codes " [" ++ decimal alternative ++ codes "]" ++ after_spaces set)

abbrev pub text_line : Step → List ℕ
text_line step = line step.text

-- a step: the line of its start, and its text
abbrev pub step_lines : Step → List ℕ
step_lines step = start_line step ++ text_line step
