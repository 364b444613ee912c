-- The text of a step of a drill.
use Rattle.std.specs.Prelude.{ℕ, true, false, [], ◌∷◌, codes}
use Rattle.b2_drill_clean.specs.Steps.{output, inputs, step_text}
use Rattle.b2_drill_load.specs.Evaluated.{owner, file_world}
use Rattle.jam_meaning.specs.Rolled.{Job, StepAnswer}
use Rattle.jam_scope.specs.Worlds.{Worlds}

-- the world that the load leaves
abbrev pub loaded_worlds : Worlds
loaded_worlds = record { now = record file_world { frozen = true }; marked = [] }

-- the job of a step, whose target is declared on a line
abbrev pub drill_job : ℕ → ℕ → Job
drill_job i line = record { name = codes "join"; owner = owner; path = codes "Jamroot"; outs = output i ∷ []; ins = inputs i; props = []; line = line }

-- its answer
abbrev pub drill_answer : ℕ → StepAnswer
drill_answer i = record { text = step_text i; depends = []; always = false; notfile = false }
