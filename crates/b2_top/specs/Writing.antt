-- What is written piece by piece, and the answers that come of it.
use Rattle.std.specs.Prelude.{◌≡◌, ℕ, List, [], ◌++◌, Result, Ok, Err}
use Rattle.std.specs.Option.{option_map}
use Rattle.b2_host.specs.declared.fault.IoFault.{IoFault}
use Rattle.b2_host.specs.declared.fault.IoFault.TheVariants as faults
use Rattle.b2_base.specs.Bytes.{IsFrontOf}
use Rattle.b2_host.specs.Output.{Output, with_written}
use Rattle.b2_runs.specs.UpdateAnswers.{SinkFailed}
use Rattle.b2_prepare.specs.declared.refusal.PlanStop.{PlanStop}
use Rattle.b2_prepare.specs.declared.refusal.PlanStop.TheVariants as stops
use Rattle.b2_top.specs.declared.answer.Answer.{Answer}
use Rattle.b2_top.specs.declared.answer.Answer.TheVariants as answers
use Rattle.b2_refusals.specs.declared.fault.Fault.TheVariants as faults_of
use Rattle.jam_graph.specs.declared.fault.JamFault.{JamFault}
use Rattle.jam_graph.specs.declared.fault.JamFault.TheVariants as jam
use Rattle.b2_top.specs.Reports.{refusal_report, fault_report}

-- A write failed, where one may: a beginning of the bytes was written, and the count of faults rose. Whether a write
-- may fail stays.
pub record FailsIn (bytes : List ℕ) (before after : Output) : Type 0 where
  pub part : List ℕ
  pub begins : IsFrontOf part bytes
  pub sink : SinkFailed before after
  pub may_fail : after.may_fail ≡ before.may_fail
  pub written : after.written ≡ option_map (λ so_far. so_far ++ part) before.written

-- Memory ran out: a beginning of the bytes was written, and no write failed.
pub record StopsIn (bytes : List ℕ) (before after : Output) : Type 0 where
  pub part : List ℕ
  pub begins : IsFrontOf part bytes
  pub same : after ≡ with_written part before

-- bytes are written piece by piece, up to the first fault
abbrev pub Writes : {T : Type 0} → List ℕ → Output → Output → Result T IoFault → Type 0
Writes bytes before after (Ok x) = after ≡ with_written bytes before
Writes bytes before after (Err faults.Failed) = FailsIn bytes before after
Writes bytes before after (Err faults.OutOfMemory) = StopsIn bytes before after

-- ---- answers

-- the answer where a line could not be written
abbrev pub unwritten : IoFault → Answer
unwritten faults.Failed = answers.SinkFault
unwritten faults.OutOfMemory = answers.OutOfMemory

-- The bytes were written, and this is the answer; or a beginning of them, and the sink failed or memory ran out.
pub data Says (answer : Answer) (bytes : List ℕ) (before after : Output) (result : Answer) : Type 0 where
  said : result ≡ answer → after ≡ with_written bytes before → Says answer bytes before after result
  failed : result ≡ answers.SinkFault → FailsIn bytes before after → Says answer bytes before after result
  stopped : result ≡ answers.OutOfMemory → StopsIn bytes before after → Says answer bytes before after result

-- The same of a fault of the host, which is the answer though the sink failed.
pub data SaysFault (bytes : List ℕ) (before after : Output) (result : Answer) : Type 0 where
  fault_said : result ≡ answers.HostFault → after ≡ with_written bytes before → SaysFault bytes before after result
  fault_failed : result ≡ answers.HostFault → FailsIn bytes before after → SaysFault bytes before after result
  fault_stopped : result ≡ answers.OutOfMemory → StopsIn bytes before after → SaysFault bytes before after result

-- the answer where there is no plan
abbrev pub AnswersStop : List (List ℕ) → PlanStop → Output → Output → Answer → Type 0
AnswersStop echoes (stops.Refused why) before after result =
    Says (answers.Refused (faults_of.Plan why)) (refusal_report echoes [] (faults_of.Plan why)) before after result
AnswersStop echoes stops.HostInLoad before after result = SaysFault (fault_report echoes) before after result
AnswersStop echoes stops.HostInGeneration before after result = SaysFault (fault_report echoes) before after result
AnswersStop echoes stops.OutOfMemory before after result = (result ≡ answers.OutOfMemory) × (after ≡ before)

-- the answer where a Jam file and targets have no plan
abbrev pub AnswersJam : List (List ℕ) → JamFault → Output → Output → Answer → Type 0
AnswersJam echoes jam.Host before after result = SaysFault (fault_report echoes) before after result
AnswersJam echoes jam.OutOfMemory before after result = (result ≡ answers.OutOfMemory) × (after ≡ before)
AnswersJam echoes fault before after result =
    Says (answers.Refused (faults_of.Jam fault)) (refusal_report echoes [] (faults_of.Jam fault)) before after result
