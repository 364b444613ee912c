use Rattle.std.specs.Prelude.{ℕ, true, false, List, [], ◌∷◌, Some, None, codes, refl, if◌then◌else◌}
use Rattle.std.specs.List.{flat_map}
use Rattle.std.specs.Str.{bytes_eq}
use Rattle.b2_host.specs.declared.children.ChildEvent.{ChildEvent}
use Rattle.b2_host.specs.declared.children.ChildEvent.TheVariants.{Start, Done}
use Rattle.b2_plan.specs.declared.step.Step.{Step}
use Rattle.b2_plan.specs.Plans.{Apart}
use Rattle.b2_plan.specs.Sources.{Build}
use Rattle.b2_runs.specs.Staleness.{Update}
use Rattle.b2_runs.specs.Runs.{IsRunSoFar, IsRun}
use Rattle.b2_runs.specs.Outcomes.{AllWent, IsFailed, Skipped, NoneStuck, IsListOf, LeavesNothing}

-- a step that copies one file to another
abbrev pub copy_from : List ℕ → List ℕ → Step
copy_from input output = record { name = codes "join"; text = codes "cat"; outs = output ∷ []; ins = input ∷ []; dirs = []; always = false; notfile = false }

abbrev pub x_path : List ℕ
x_path = codes "x"

abbrev pub a_path : List ℕ
a_path = codes "bin/a"

abbrev pub b_path : List ℕ
b_path = codes "bin/b"

abbrev pub c_path : List ℕ
c_path = codes "bin/c"

-- `a` and `b` are copied from `x`, and `c` from `b`
abbrev pub three_copies : Build
three_copies = record {
  steps = copy_from x_path a_path ∷ copy_from x_path b_path ∷ copy_from b_path c_path ∷ [];
  wanted = a_path ∷ b_path ∷ c_path ∷ [];
  roots = codes "bin" ∷ [];
  folder = λ path. if bytes_eq x_path path then Some (record { stamp = 1; bytes = 7 ∷ [] }) else None;
  inc = λ path bytes. [];
  looks = λ dirs path include. [];
  made = λ text held out. flat_map (λ input. input.1) held;
}

-- they are built for the first time, two at once
abbrev pub two_at_once : Update
two_at_once = record { build = three_copies; log = []; scanned = λ path. false; unscanned = λ path bytes e. refl; digest = λ bytes. bytes; by_digest = false; all = false; quit = false; jobs = 2 }

-- The second child ends first, so the step that waits for it starts while the first child still runs.
abbrev pub overlapping : List ChildEvent
overlapping = Start 1 ∷ Start 2 ∷ Done 2 true ∷ Start 3 ∷ Done 1 true ∷ Done 3 true ∷ []

-- These events are a whole run in which all went well. No run starts with the second step, nor awaits the first one while
-- the second can start, nor starts the third one before the second is done; and to start nothing is no whole run.
pub record OverlapHolds : Type 0 where
  pub apart : Apart three_copies.steps three_copies.roots
  pub run : IsRun two_at_once overlapping
  pub went : AllWent two_at_once overlapping
  pub not_second : IsRunSoFar two_at_once (Start 2 ∷ []) → ⊥
  pub not_alone : IsRunSoFar two_at_once (Start 1 ∷ Done 1 true ∷ []) → ⊥
  pub not_early : IsRunSoFar two_at_once (Start 1 ∷ Start 2 ∷ Start 3 ∷ []) → ⊥
  pub not_idle : IsRun two_at_once [] → ⊥

-- the second child fails, while the first one runs
abbrev pub failing : List ChildEvent
failing = Start 1 ∷ Start 2 ∷ Done 2 false ∷ Done 1 true ∷ []

-- These events are a whole run. The second step failed, the third one, which needs it, is skipped, and none is stuck. Where
-- the files are as at entry and there is no log, the failed step has left nothing.
pub record FailureHolds : Type 0 where
  pub run : IsRun two_at_once failing
  pub failed : IsListOf (IsFailed failing) (2 ∷ [])
  pub skipped : IsListOf (Skipped two_at_once failing) (3 ∷ [])
  pub none_stuck : NoneStuck two_at_once failing
  pub leaves : LeavesNothing two_at_once failing three_copies.folder []
