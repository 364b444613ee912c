-- The command that words are for, and all that it promises of its answer.
use Rattle.std.specs.Prelude.{◌≡◌, ℕ, List, None}
use Rattle.b2_host.specs.Outside.{Outside}
use Rattle.b2_host.specs.OutsideLaws.{Keeps}
use Rattle.b2_host.specs.Output.{Output}
use Rattle.b2_host.specs.OutputLaws.{OutKeeps}
use Rattle.b2_memory.specs.Memories.{new_memory}
use Rattle.b2_runs.specs.Moments.{Moment}
use Rattle.b2_runs.specs.UpdateAnswers.{LeavesNone}
use Rattle.b2_update.specs.Moments.{moment}
use Rattle.b2_drain.specs.Drains.{Made}
use Rattle.b2_command_line.specs.Words.{Word}
use Rattle.b2_drill_call.specs.Asked.{drill_of}
use Rattle.b2_drill_call.specs.Drilled.{AnswersDrill}
use Rattle.b2_top.specs.Askings.{jam_of}
use Rattle.b2_top.specs.Answered.{IsAnswered, IsAnsweredFor}
use Rattle.b2_top.specs.Endings.{IsUsageOrCutShort}
use Rattle.b2_top.specs.Shows.{IsAnswered as IsLookAnswered}
use Rattle.b2_top.specs.Explains.{IsAnswered as IsExplanationAnswered}
use Rattle.b2_top.specs.Cleans.{IsAnswered as IsCleaningAnswered}
use Rattle.b2_top.specs.Modes.{mode_of}
use Rattle.b2_top.specs.Statuses.{status_of}
use Rattle.b2_top.specs.declared.answer.Answer.{Answer}
use Rattle.b2_top.specs.declared.mode.Mode.{Mode}
use Rattle.b2_top.specs.declared.mode.Mode.TheVariants.{Build, Look, Explain, Clean, Drill, Jam}

-- all that the build command promises
pub record IsBuild (made : Made) (words : List Word) (before after : Moment) (answer : Answer) : Type 0 where
  pub answered : IsAnswered made words before after answer
  pub none_left : LeavesNone before.host after.host
  pub keeps : Keeps before.host after.host

-- all that the command of plain Jam mode promises
pub record IsJam (made : Made) (words : List Word) (before after : Moment) (answer : Answer) : Type 0 where
  pub answered : IsAnsweredFor made (jam_of words) before after answer
  pub none_left : LeavesNone before.host after.host
  pub keeps : Keeps before.host after.host

-- all that the look command promises
pub record IsLook (words : List Word) (before after : Moment) (answer : Answer) : Type 0 where
  pub answered : IsLookAnswered words before after answer
  pub disk : after.host.disk ≡ before.host.disk
  pub children : after.host.children ≡ before.host.children
  pub keeps : Keeps before.host after.host

-- all that the explain command promises
abbrev pub IsExplanation : List Word → Moment → Moment → Answer → Type 0
IsExplanation words before after answer = IsExplanationAnswered words before after answer

-- all that the clean command promises
abbrev pub IsCleaning : List Word → Moment → Moment → Answer → Type 0
IsCleaning words before after answer = IsCleaningAnswered words before after answer

-- what a drill promises of its answer, over a host in memory of its own, which is new before it and `last` after it
abbrev pub AnswersOver : List Word → Output → Output → Answer → Outside → Type 0
AnswersOver words before after answer last = AnswersDrill words (moment new_memory.outside before) (moment last after) answer

-- All that the drill command promises. The program's own host stays as it is.
pub record IsDrill (words : List Word) (before after : Moment) (answer : Answer) : Type 0 where
  pub last : Outside
  pub answered : AnswersOver words before.out after.out answer last
  pub usage : drill_of words ≡ None → IsUsageOrCutShort answer
  pub host : after.host ≡ before.host
  pub out_keeps : OutKeeps before.out after.out

-- all that the command of a mode promises
abbrev pub Promises : Mode → Made → List Word → Moment → Moment → Answer → Type 0
Promises Build made words before after answer = IsBuild made words before after answer
Promises Look made words before after answer = IsLook words before after answer
Promises Explain made words before after answer = IsExplanation words before after answer
Promises Clean made words before after answer = IsCleaning words before after answer
Promises Drill made words before after answer = IsDrill words before after answer
Promises Jam made words before after answer = IsJam made words before after answer

-- The status is that of an answer of which all holds that the command promises which the words are for.
pub record EndsWith (made : Made) (words : List Word) (before after : Moment) (status : ℕ) : Type 0 where
  pub answer : Answer
  pub promised : Promises (mode_of words) made words before after answer
  pub is : status ≡ status_of answer
