use Rattle.std.proofs.Common.{[], ◌∷◌, refl}
use Rattle.jam_journal.specs.Scopes.{enter}
use Rattle.jam_scope.specs.Changes.{module_in}
use Rattle.jam_effects.proofs.ClosingUndoesOpening.{closed_again, may_close, some_frame}
use Rattle.jam_effects.proofs.frames.enter_loop.Goals as goal

pub bind-requires : goal.bind-requires
bind-requires c = some_frame c.enter_here.new.world.now.scopes.frames _ c.in_ok-enter_here.ensures.newer

pub leave-requires : goal.leave-requires
leave-requires c = may_close [] c.enter_here.new.world c.bind.new.self c.in-Err.ensures.err c.in_ok-enter_here.ensures.newer

pub returns-in-Err-clause-err : goal.returns-in-Err-clause-err
returns-in-Err-clause-err c =
    closed_again [] (enter (module_in c.args.world.now.now)) c.args.world.now c.enter_here.new.world c.bind.new.self c.leave.new.self (λ s. refl)
    c.in_ok-enter_here.ensures.ok c.in-Err.ensures.err c.leave.ensures

pub returns-in-Ok-clause-newer : goal.returns-in-Ok-clause-newer
returns-in-Ok-clause-newer c = may_close ((c.args.name.now, []) ∷ []) c.enter_here.new.world c.bind.new.self (rw (c.as_str.ensures.value, c.new.ensures) at c.in-Ok.ensures.ok) c.in_ok-enter_here.ensures.newer
