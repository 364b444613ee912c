-- The lines that end the report of an update: the verdicts of tests, or the line of a refusal.
use Rattle.std.specs.Prelude.{◌≡◌, ◌≢◌, ◌⊎◌, ℕ, List, [], map}
use Rattle.std.specs.List.{zip}
use Rattle.b2_top.specs.declared.answer.Answer.{Answer}
use Rattle.b2_top.specs.declared.answer.Answer.TheVariants as answers
use Rattle.b2_plan.specs.declared.step.Step.{Step}
use Rattle.b2_runs.specs.UpdateAnswers.{UpdateAnswer, refusal_line}
use Rattle.b2_runs.specs.UpdateAnswers.UpdateAnswer.{all_went, failed as some_failed, step_cycle, too_big}
use Rattle.b2_runs.specs.UpdateAnswers.UpdateAnswer.{host_fault, sink_fault, out_of_memory}
use Rattle.b2_testing.specs.Verdicts.{ArePassed, verdict_lines}
use Rattle.b2_testing.specs.declared.verdict.Verdict.{Verdict}

-- one line for each test, in order: its verdict, by the step that makes its marker, and the marker's target
pub record AreVerdictLines (steps : List Step) (ended : UpdateAnswer) (tests : List (List ℕ × ℕ)) (lines : List ℕ)
    : Type 0 where
  pub verdicts : List Verdict
  pub passed : ArePassed steps ended (map (λ test. test.1) tests) verdicts
  pub lines_are : lines ≡ verdict_lines (zip (map (λ test. test.0) tests) verdicts)

-- Where the update came to its end, the verdicts of the tests that were asked for; else the line of a refusal, where
-- there is one.
abbrev pub AreLast : List Step → List (List ℕ × ℕ) → UpdateAnswer → List ℕ → Type 0
AreLast steps tests all_went last = AreVerdictLines steps all_went tests last
AreLast steps tests (some_failed lists) last = AreVerdictLines steps (some_failed lists) tests last
AreLast steps tests (step_cycle list) last = last ≡ refusal_line steps (step_cycle list)
AreLast steps tests (too_big path size) last = last ≡ refusal_line steps (too_big path size)
AreLast steps tests host_fault last = last ≡ refusal_line steps host_fault
AreLast steps tests sink_fault last = last ≡ refusal_line steps sink_fault
AreLast steps tests out_of_memory last = last ≡ refusal_line steps out_of_memory

-- the answer where a line could not be written
abbrev pub IsUnwritten : Answer → Type 0
IsUnwritten result = (result ≡ answers.SinkFault) ⊎ (result ≡ answers.OutOfMemory)

-- There are tests, and the sink failed or memory ran out at their verdicts.
pub record LacksVerdicts (tests : List (List ℕ × ℕ)) (result : Answer) : Type 0 where
  pub some_tests : tests ≢ []
  pub unwritten : IsUnwritten result
