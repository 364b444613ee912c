use Rattle.std.proofs.Common.{None, Some, ap, sym, ◌∙◌}
use Rattle.b2_sessions.proofs.EditsAreTold.{edit_done, edit_ready}
use Rattle.b2_sessions.proofs.change.edit.Goals as goal

pub edit-requires : goal.edit-requires
edit-requires c = c.requires.idle

pub edit-requires-in-Some : goal.edit-requires-in-Some
edit-requires-in-Some c = c.requires.idle

pub returns-in-None-clause-ok : goal.returns-in-None-clause-ok
returns-in-None-clause-ok c = edit_done c.args.host.now c.edit.new.self c.args.path.now None c.args.bytes.now c.edit.result c.edit.ensures.ok (sym c.in-None.is)

pub returns-in-None-clause-ready : goal.returns-in-None-clause-ready
returns-in-None-clause-ready c = edit_ready c.args.host.now c.edit.new.self c.args.path.now None c.args.bytes.now c.edit.result c.edit.ensures.ok c.edit.ensures.err c.requires

pub returns-in-Some-clause-ok : goal.returns-in-Some-clause-ok
returns-in-Some-clause-ok c =
    edit_done c.args.host.now c.edit-in-Some.new.self c.args.path.now (Some c.as_slice.result.now) c.args.bytes.now c.edit-in-Some.result c.edit-in-Some.ensures.ok (ap Some c.as_slice.ensures ∙ sym c.in-Some.is)

pub returns-in-Some-clause-ready : goal.returns-in-Some-clause-ready
returns-in-Some-clause-ready c =
    edit_ready c.args.host.now c.edit-in-Some.new.self c.args.path.now (Some c.as_slice.result.now) c.args.bytes.now c.edit-in-Some.result c.edit-in-Some.ensures.ok c.edit-in-Some.ensures.err c.requires
