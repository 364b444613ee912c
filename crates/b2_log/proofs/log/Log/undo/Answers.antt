use Rattle.std.proofs.Common.{sym, subst, arith}
use Rattle.b2_log.specs.Contents.{Contents}
use Rattle.b2_log.specs.Places.{TakesBack}
use Rattle.b2_log.proofs.LastLineIsTakenBack.{has_place, taken_back}
use Rattle.b2_log.proofs.log.Log.undo.Goals as goal

pub restore-requires : goal.restore-requires
restore-requires c = has_place c.args.undo c.requires.0 _ _ c.self.invariant.index (subst (λ (v : Contents). TakesBack c.args.undo c.requires.0 v.lines) (sym c.self.view_is) c.requires.1)

pub invariant_of-self : goal.invariant_of-self
invariant_of-self c = taken_back c.args.undo c.requires.0 _ _ _ _ _ _ c.self.invariant (subst (λ (v : Contents). TakesBack c.args.undo c.requires.0 v.lines) (sym c.self.view_is) c.requires.1) (omega (arith, c.self.inside.lines.ok.0)) c.pop.ensures.rest c.restore.ensures
