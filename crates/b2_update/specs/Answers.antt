-- The answers of an update as the definitions of updates see them.
use Rattle.b2_runs.specs.UpdateAnswers.{UpdateAnswer as RunAnswer}
use Rattle.b2_runs.specs.UpdateAnswers.UpdateAnswer.{all_went, failed as some_failed, step_cycle, too_big, host_fault, sink_fault, out_of_memory}
use Rattle.b2_endings.specs.Endings.{lists_of}
use Rattle.b2_update.specs.declared.update_answer.UpdateAnswer.{UpdateAnswer}
use Rattle.b2_update.specs.declared.update_answer.UpdateAnswer.TheVariants as answers

abbrev pub answer_of : UpdateAnswer → RunAnswer
answer_of answers.Done = all_went
answer_of (answers.Failed lists) = some_failed (lists_of lists)
answer_of (answers.StepCycle list) = step_cycle list
answer_of (answers.TooBig path size) = too_big path size
answer_of answers.HostFault = host_fault
answer_of answers.SinkFault = sink_fault
answer_of answers.OutOfMemory = out_of_memory
