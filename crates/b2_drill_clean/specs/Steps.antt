-- The steps of a drill.
use Rattle.std.specs.Prelude.{ℕ, zero, suc, ◌/◌, false, List, [], ◌∷◌, ◌++◌, codes}
use Rattle.std.specs.List.{join_with_byte}
use Rattle.b2_drill.specs.Drills.{source_name, target_name}
use Rattle.b2_plan.specs.declared.step.Step.{Step}

-- the path of a target
abbrev pub output : ℕ → List ℕ
output i = codes "bin/" ++ target_name i

-- what its step reads: its source, and, but for the first target, the one with half its number
abbrev pub inputs : ℕ → List (List ℕ)
inputs zero = source_name 0 ∷ []
inputs (suc i) = source_name (suc i) ∷ output (suc i / 2) ∷ []

-- what its step runs
abbrev pub step_text : ℕ → List ℕ
step_text i = codes "cat " ++ join_with_byte 32 (inputs i) ++ codes " > " ++ output i

abbrev pub drill_step : ℕ → Step
drill_step i = record {
  name = codes "join";
  text = step_text i;
  outs = output i ∷ [];
  ins = inputs i;
  dirs = [];
  always = false;
  notfile = false;
}

-- the steps of so many targets, and their outputs
abbrev pub steps : ℕ → List Step
steps zero = []
steps (suc n) = steps n ++ drill_step n ∷ []

abbrev pub outputs : ℕ → List (List ℕ)
outputs zero = []
outputs (suc n) = outputs n ++ output n ∷ []
