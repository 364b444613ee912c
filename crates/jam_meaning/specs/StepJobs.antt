-- Steps whose texts are asked for, and the answers, as data.
use Rattle.jam_meaning.specs.Rolled.{Job, StepAnswer}
use Rattle.jam_meaning.specs.declared.step.StepJob.{StepJob}
use Rattle.jam_meaning.specs.declared.step.StepText.{StepText}

abbrev pub job_of : StepJob → Job
job_of job = record { name = job.name; owner = job.module; path = job.path; outs = job.outs; ins = job.ins; props = job.props; line = job.line }

abbrev pub step_answer : StepText → StepAnswer
step_answer step = record { text = step.text; depends = step.depends; always = step.always; notfile = step.notfile }
