-- What is answered where the files and the words came to this.
use Rattle.std.specs.Prelude.{ℕ, List, Result, Ok, Err}
use Rattle.b2_host.specs.Output.{Output}
use Rattle.b2_command_line.specs.declared.words.View.{View}
use Rattle.b2_request_plan.specs.declared.planned.Planned.{Planned}
use Rattle.b2_request_plan.specs.Plans.{seen}
use Rattle.b2_prepare.specs.declared.refusal.PlanStop.{PlanStop}
use Rattle.b2_top.specs.declared.answer.Answer.{Answer}
use Rattle.b2_top.specs.declared.answer.Answer.TheVariants as answers
use Rattle.b2_top.specs.Writing.{Says, AnswersStop}
use Rattle.b2_top.specs.Looks.{look_report}

abbrev pub AnswersWith : View → List (List ℕ) → Result Planned PlanStop → Output → Output → Answer → Type 0
AnswersWith view echoes (Ok plan) before after result = Says answers.Ok (look_report echoes view (seen plan)) before after result
AnswersWith view echoes (Err stop) before after result = AnswersStop echoes stop before after result
