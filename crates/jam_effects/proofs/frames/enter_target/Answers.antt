use Rattle.std.proofs.Common.{take, refl}
use Rattle.jam_journal.specs.Scopes.{enter}
use Rattle.jam_scope.specs.Changes.{module_in, own_of}
use Rattle.jam_effects.proofs.ClosingUndoesOpening.{closed_again, may_close, some_frame}
use Rattle.jam_effects.proofs.frames.enter_target.Goals as goal

pub bind_own-requires : goal.bind_own-requires
bind_own-requires c = some_frame c.enter_here.new.world.now.scopes.frames _ c.in_ok-enter_here.ensures.newer

pub leave-requires : goal.leave-requires
leave-requires c = may_close (take c.in-Err.ensures.err.0 (own_of c.as_str.result.now c.enter_here.new.world.now)) c.enter_here.new.world c.bind_own.new.self c.in-Err.ensures.err.1 c.in_ok-enter_here.ensures.newer

pub returns-in-Err-clause-err : goal.returns-in-Err-clause-err
returns-in-Err-clause-err c =
    closed_again (take c.in-Err.ensures.err.0 (own_of c.as_str.result.now c.enter_here.new.world.now)) (enter (module_in c.args.world.now.now)) c.args.world.now c.enter_here.new.world c.bind_own.new.self c.leave.new.self (λ s. refl)
    c.in_ok-enter_here.ensures.ok c.in-Err.ensures.err.1 c.leave.ensures

pub returns-in-Ok-clause-newer : goal.returns-in-Ok-clause-newer
returns-in-Ok-clause-newer c = may_close (own_of c.as_str.result.now c.enter_here.new.world.now) c.enter_here.new.world c.bind_own.new.self c.in-Ok.ensures.ok c.in_ok-enter_here.ensures.newer
