use Rattle.std.specs.Prelude.{◌≡◌, [], ◌∷◌, ◌++◌, codes}
use Rattle.b2_runs.specs.Reports.{no_lists, report, start_line, failed_line, cycle_line, too_big_line, host_fault_line}
use Rattle.b2_run_examples.specs.Examples.{copying, copied, copy_step, tailed, in_path}
use Rattle.b2_run_examples.specs.Overlap.{three_copies, failing}

-- The printed bytes of some updates, with the byte 10 at the end of each line.
pub record ReportsHold : Type 0 where
  -- one step was updated
  pub copied_told : report copying.build.steps copied no_lists ≡ codes "join bin/out" ++ 10 ∷ codes "updated 1, failed 0, skipped 0, missing 0" ++ 10 ∷ []
  -- the second of three failed, and the third was skipped
  pub failing_told : report three_copies.steps failing (record { failed = 2 ∷ []; skipped = 3 ∷ []; missing = [] })
      ≡ codes "join bin/a" ++ 10 ∷ codes "join bin/b" ++ 10 ∷ codes "...failed join bin/b..." ++ 10 ∷ codes "...skipped bin/c..." ++ 10 ∷ codes "updated 1, failed 1, skipped 1, missing 0" ++ 10 ∷ []
  -- a source is missing
  pub missing_told : report copying.build.steps [] (record { failed = []; skipped = 1 ∷ []; missing = in_path ∷ [] }) ≡ codes "...missing in..." ++ 10 ∷ codes "...skipped bin/out..." ++ 10 ∷ codes "updated 0, failed 0, skipped 1, missing 1" ++ 10 ∷ []
  -- a step with an empty name
  pub unnamed_start : start_line (record copy_step { name = [] }) ≡ []
  pub unnamed_failure : failed_line (record copy_step { name = [] }) ≡ codes "...failed bin/out..." ++ 10 ∷ []
  -- the last lines of refusals
  pub cycle_told : cycle_line tailed.build.steps (2 ∷ 3 ∷ []) ≡ codes "b2: step cycle: bin/b -> bin/c -> bin/b" ++ 10 ∷ []
  pub large_told : too_big_line in_path 7 ≡ codes "b2: in has 7 bytes" ++ 10 ∷ []
  pub fault_told : host_fault_line ≡ codes "b2: host fault" ++ 10 ∷ []
