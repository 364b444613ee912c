use Rattle.std.proofs.Common.{Option, ap}
use Rattle.b2_command_line.specs.declared.jam.JamWords.{JamWords}
use Rattle.b2_top.specs.declared.build_command.BuildCommand.{BuildCommand}
use Rattle.b2_top.specs.Askings.{asking_in}
use Rattle.b2_top.proofs.JobsAreFromOne.{jam_jobs}
use Rattle.b2_top.proofs.jam_command.jam_command.Goals as goal

pub returns-in-Ok-path_of-clause-some_job : goal.returns-in-Ok-path_of-clause-some_job
returns-in-Ok-path_of-clause-some_job c =
    let read = c.in-Ok.field-0 in
    let command : BuildCommand = record { options = read.options; words = read.targets } in
    jam_jobs c.args.words.now command (ap (λ (o : Option JamWords). (asking_in o).command) c.in-Ok.ensures.ok)
