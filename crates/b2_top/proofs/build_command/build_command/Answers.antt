use Rattle.std.proofs.Common.{rules, ◌≡◌, Some, option_map, ap, ◌∙◌}
use Rattle.b2_top.specs.declared.build_command.BuildCommand.{BuildCommand}
use Rattle.b2_top.specs.Commands.{options_in, command_of, command_in}
use Rattle.b2_top.proofs.JobsAreFromOne.{some_job, few_jobs}
use Rattle.b2_top.proofs.build_command.build_command.Goals as goal

pub returns-in-Some-clause-some_job : goal.returns-in-Some-clause-some_job
returns-in-Some-clause-some_job c =
    let read = c.in-Ok.field-0 in
    let command : BuildCommand = record { options = c.in-Some.options; words = read.words } in
    let is : options_in read.command ≡ Some c.in-Some.options = search rules in
    some_job c.args.words.now command (ap command_in c.in-Ok.ensures.ok ∙ ap (option_map (command_of read.words)) is)

pub returns-in-Some-clause-few_jobs : goal.returns-in-Some-clause-few_jobs
returns-in-Some-clause-few_jobs c =
    let read = c.in-Ok.field-0 in
    let command : BuildCommand = record { options = c.in-Some.options; words = read.words } in
    let is : options_in read.command ≡ Some c.in-Some.options = search rules in
    few_jobs c.args.words.now command (ap command_in c.in-Ok.ensures.ok ∙ ap (option_map (command_of read.words)) is)
