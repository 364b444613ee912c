-- Reports, which the lines of ECHO begin.
use Rattle.std.specs.Prelude.{ℕ, List, ◌++◌}
use Rattle.std.specs.List.{flat_map}
use Rattle.b2_plan.specs.declared.step.Step.{Step}
use Rattle.b2_refusals.specs.declared.fault.Fault.{Fault}
use Rattle.b2_refusals.specs.Lines.{refusal_line}
use Rattle.b2_runs.specs.Reports.{line, host_fault_line}

abbrev pub echo_lines : List (List ℕ) → List ℕ
echo_lines echoes = flat_map line echoes

-- the line of a refusal, where these are the steps of the plan, whose outputs a step cycle names
abbrev pub refusal_report : List (List ℕ) → List Step → Fault → List ℕ
refusal_report echoes steps fault = echo_lines echoes ++ refusal_line steps fault

abbrev pub fault_report : List (List ℕ) → List ℕ
fault_report echoes = echo_lines echoes ++ host_fault_line
