-- What a drill comes to.
use Rattle.std.specs.Prelude.{◌≡◌, ℕ, ◌==◌, Bool, List, ◌++◌, take, length, Some, None, codes}
use Rattle.std.specs.List.{AllByRecursion, count_by}
use Rattle.std.specs.Fmt.{decimal}
use Rattle.b2_drill.specs.declared.event.Event.{Event}
use Rattle.b2_drill.specs.Drills.{line, drill_events}
use Rattle.b2_drill_laws.specs.Laws.{IsOkOrMemory}
use Rattle.b2_host.specs.Outside.{Outside}
use Rattle.b2_host.specs.Output.{Output, with_written}
use Rattle.b2_memory.specs.Sinks.{new_output}
use Rattle.b2_refusals.specs.Lines.{usage_line}
use Rattle.b2_runs.specs.Events.{is_start}
use Rattle.b2_runs.specs.Moments.{Moment}
use Rattle.b2_runs.specs.UpdateAnswers.{SinkFailed}
use Rattle.b2_sessions.specs.Courses.{IsSessionOf}
use Rattle.b2_top.specs.declared.answer.Answer.{Answer}
use Rattle.b2_top.specs.declared.answer.Answer.TheVariants as answers
use Rattle.b2_top.specs.Statuses.{status_of}
use Rattle.b2_command_line.specs.Words.{Word}
use Rattle.b2_drill_call.specs.Asked.{drill_of}

-- ---- the session

-- the moment of a host, beside a sink in memory to which nothing was written
abbrev pub begun : Outside → Moment
begun host = record { host = host; out = new_output }

-- These events were a session from one host to another, with these answers.
abbrev pub RunsOver : List Event → Outside → List Answer → Outside → Type 0
RunsOver list before given after = (out : Output) × IsSessionOf list (begun before) given (record { host = after; out = out })

-- The whole drill of so many targets was a session, with an answer of each of its seven updates.
pub record HasAnswered (n : ℕ) (before : Outside) (given : List Answer) (after : Outside) : Type 0 where
  pub session : RunsOver (drill_events n) before given after
  pub each_answered : length given ≡ 7

-- So it was, and each update answered Ok.
pub record IsDrilled (n : ℕ) (before after : Outside) : Type 0 where
  pub given : List Answer
  pub answered : HasAnswered n before given after
  pub all_ok : AllByRecursion (λ answer. answer ≡ answers.Ok) given

-- the answer's status is 0
abbrev pub is_well : Answer → Bool
is_well answer = status_of answer == 0

-- Some first events of the drill were a session, in which each update answered Ok or out of memory.
pub record GoesWithoutFaults (n : ℕ) (before after : Outside) : Type 0 where
  pub count : ℕ
  pub given : List Answer
  pub session : RunsOver (take count (drill_events n)) before given after
  pub ok_or_memory : AllByRecursion IsOkOrMemory given

-- ---- the answer

-- the line that sums up a drill in which each update answered Ok, of so many targets and starts
abbrev pub summary_line : ℕ → ℕ → List ℕ
summary_line n starts = line (codes "drill " ++ decimal n ++ codes ": updates 7, starts " ++ decimal starts ++ codes ", status 0")

-- The words ask for a drill, which ended well, and its summary was written. It counts the starts at the host.
pub record IsSummed (words : List Word) (before after : Moment) : Type 0 where
  pub n : ℕ
  pub asked : drill_of words ≡ Some n
  pub drilled : IsDrilled n before.host after.host
  pub written : after.out ≡ with_written (summary_line n (count_by is_start after.host.children.events)) before.out

-- The words ask for no drill, and the usage line was written.
pub record IsNoDrill (words : List Word) (before after : Moment) : Type 0 where
  pub no_drill : drill_of words ≡ None
  pub written : after.out ≡ with_written usage_line before.out

-- what each answer says; the others do not come
abbrev pub AnswersDrill : List Word → Moment → Moment → Answer → Type 0
AnswersDrill words before after answers.Ok = IsSummed words before after
AnswersDrill words before after (answers.Failed lists) = ⊥
AnswersDrill words before after (answers.Refused fault) = ⊥
AnswersDrill words before after answers.Usage = IsNoDrill words before after
AnswersDrill words before after answers.HostFault = ⊥
AnswersDrill words before after answers.OutOfMemory = after.out.faults ≡ before.out.faults
AnswersDrill words before after answers.SinkFault = SinkFailed before.out after.out

-- the same of a call whose words ask for the drill of so many targets
abbrev pub HasDrilled : ℕ → Moment → Moment → Answer → Type 0
HasDrilled n before after answers.Ok = IsDrilled n before.host after.host × (after.out ≡ with_written (summary_line n (count_by is_start after.host.children.events)) before.out)
HasDrilled n before after (answers.Failed lists) = ⊥
HasDrilled n before after (answers.Refused fault) = ⊥
HasDrilled n before after answers.Usage = ⊥
HasDrilled n before after answers.HostFault = ⊥
HasDrilled n before after answers.OutOfMemory = after.out.faults ≡ before.out.faults
HasDrilled n before after answers.SinkFault = SinkFailed before.out after.out
