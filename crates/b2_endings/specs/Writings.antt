-- What is written of an update.
use Rattle.std.specs.Prelude.{◌≡◌, ℕ, List, ◌++◌, Option, Result, Ok, Err}
use Rattle.std.specs.Option.{option_map}
use Rattle.std.specs.List.{flat_map}
use Rattle.b2_host.specs.declared.fault.IoFault.{IoFault}
use Rattle.b2_host.specs.declared.fault.IoFault.TheVariants as faults
use Rattle.b2_host.specs.Output.{Output, with_written}
use Rattle.b2_plan.specs.declared.step.Step.{Step}
use Rattle.b2_plan.specs.Plans.{step_at}
use Rattle.b2_runs.specs.Reports.{said_of, skipped_line}
use Rattle.b2_runs.specs.UpdateAnswers.{SinkFailed}

-- the text was written
abbrev pub Adds : List ℕ → Option (List ℕ) → Option (List ℕ) → Type 0
Adds text before after = after ≡ option_map (λ so_far. so_far ++ text) before

-- the beginning of the text was written
pub record AddsPart (text : List ℕ) (before after : Option (List ℕ)) : Type 0 where
  pub part : List ℕ
  pub rest : List ℕ
  pub whole : text ≡ part ++ rest
  pub adds : Adds part before after

-- what is said of steps that were skipped
abbrev pub skipped_lines : List Step → List ℕ → List ℕ
skipped_lines steps numbers = flat_map (λ i. said_of skipped_line (step_at steps i)) numbers

-- A text is written, or a beginning of it, where the sink failed or no memory was left. Whether the sink may fail stays
-- as it was.
abbrev pub Says : {T : Type 0} → List ℕ → Output → Output → Result T IoFault → Type 0
Says text before after (Ok x) = after ≡ with_written text before
Says text before after (Err faults.Failed) =
    SinkFailed before after × AddsPart text before.written after.written × (after.may_fail ≡ before.may_fail)
Says text before after (Err faults.OutOfMemory) =
    (after.faults ≡ before.faults) × AddsPart text before.written after.written × (after.may_fail ≡ before.may_fail)
