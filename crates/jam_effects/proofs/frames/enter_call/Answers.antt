use Rattle.std.proofs.Common.{refl}
use Rattle.jam_journal.specs.Scopes.{enter_call}
use Rattle.jam_values.specs.Bindings.{bindings_of}
use Rattle.jam_effects.proofs.ClosingUndoesOpening.{closed_again, may_close, some_frame}
use Rattle.jam_effects.proofs.frames.enter_call.Goals as goal

pub bind_all-requires : goal.bind_all-requires
bind_all-requires c = some_frame c.open_call.new.world.now.scopes.frames _ c.in_ok-open_call.ensures.newer

pub leave-requires : goal.leave-requires
leave-requires c = may_close c.in-Err.ensures.err.0 c.open_call.new.world c.bind_all.new.world c.in-Err.ensures.err.1 c.in_ok-open_call.ensures.newer

pub returns-in-Err-clause-err : goal.returns-in-Err-clause-err
returns-in-Err-clause-err c =
    closed_again c.in-Err.ensures.err.0 (enter_call c.args.home.now) c.args.world.now c.open_call.new.world c.bind_all.new.world c.leave.new.self (λ s. refl)
    c.in_ok-open_call.ensures.ok c.in-Err.ensures.err.1 c.leave.ensures

pub returns-in-Ok-clause-newer : goal.returns-in-Ok-clause-newer
returns-in-Ok-clause-newer c = may_close (bindings_of c.args.bindings.items) c.open_call.new.world c.bind_all.new.world c.in-Ok.ensures.ok c.in_ok-open_call.ensures.newer
