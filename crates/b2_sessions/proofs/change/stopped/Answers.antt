use Rattle.std.proofs.Common.{ap, ◌∙◌}
use Rattle.b2_memory.specs.Hosts.{memory_of}
use Rattle.b2_memory.specs.Memories.{Memory, with_listed, with_tear}
use Rattle.b2_sessions.proofs.HostsReopen.{is_stopped, ready_again}
use Rattle.b2_sessions.proofs.change.stopped.Goals as goal

pub call-answer-requires : goal.call-answer-requires
call-answer-requires g c =
    ap (λ (m : Memory). m.outside.children.running) c.tear.ensures ∙ ap (λ (m : Memory). m.outside.children.running) c.fuse.ensures ∙ c.requires.idle

pub returns-clause-stopped : goal.returns-clause-stopped
returns-clause-stopped g c =
    is_stopped c.args.words.now c.args.limits.0 c.args.limits.1 c.call-answer.result c.args.host.now c.tear.new.self c.call-answer.new.host c.reopen.new.self
    (g.S.Sink.output c.args.out.now) (g.S.Sink.output c.call-answer.new.out)
    (c.tear.ensures ∙ ap (with_listed (with_tear c.args.limits.1)) c.fuse.ensures)
    c.call-answer.ensures c.reopen.ensures

pub returns-clause-ready : goal.returns-clause-ready
returns-clause-ready g c =
    let between = c.call-answer.new.host in
    ready_again (memory_of between) (memory_of c.reopen.new.self) c.reopen.ensures
