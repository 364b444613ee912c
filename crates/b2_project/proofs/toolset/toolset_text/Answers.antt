use Rattle.std.specs.Option.{option_copied}
use Rattle.b2_project.proofs.FirstToolsetCallDecides.{text_refused, text_made}
use Rattle.b2_project.proofs.toolset.toolset_text.Goals as goal

pub returns-in-Err : goal.returns-in-Err
returns-in-Err c = text_refused c.args.visits.now c.args.calls.now c.in-Some.place c.in-Err.fault c.declaring_fault.result c.in-Some.ensures c.declaring_fault.ensures c.in-Err.ensures.fault

pub returns : goal.returns
returns c =
    text_made c.args.visits.now c.args.calls.now c.in-Some.place c.index-calls-place.result (option_copied c.command_of-command.result) c.in_ok-text.text c.in-Some.ensures c.index-calls-place.is
    c.in-Ok.ensures.ok c.command_of-command.ensures c.in_ok-text.ensures
