use Rattle.std.proofs.Common.{◌∙◌, Ok, Err, sym, ap, subst}
use Rattle.std.specs.List.{Contains}
use Rattle.std.proofs.lemmas.Result.{err_from_is_err_and}
use Rattle.b2_sched.specs.Schedules.{IsSettled}
use Rattle.b2_facts.specs.declared.stop.FilesStop.TheVariants as stops
use Rattle.b2_reach.specs.declared.reach.Reach.{Reach}
use Rattle.b2_reach.specs.Reaches.{IsInOrder}
use Rattle.b2_reach.specs.Steps.{AreMarked, Goes}
use Rattle.b2_reach.proofs.WorkGoesOn.{goes_err_as, goes_stop, goes_dropped}
use Rattle.b2_reach.proofs.reach.Reach.take_pending.Goals as goal

pub returns-in_err-take_settled-clause-goes : goal.returns-in_err-take_settled-clause-goes
returns-in_err-take_settled-clause-goes g c =
    let (y, e, q) = err_from_is_err_and c.from_residual.result c.from_residual.ensures.1 in
    goes_err_as {T = Unit {0}} c.in_err-take_settled.field-0.0 c.from_residual.result (e ∙ ap Err q) c.in_err-take_settled.ensures.goes

pub drop_settled-requires-clause-about : goal.drop_settled-requires-clause-about
drop_settled-requires-clause-about g c = c.take_settled.ensures.goes.grows.learns.about c.requires.about

pub drop_settled-requires-clause-in_order : goal.drop_settled-requires-clause-in_order
drop_settled-requires-clause-in_order g c = c.take_settled.ensures.goes.takes.in_order

pub drop_settled-requires-clause-done : goal.drop_settled-requires-clause-done
drop_settled-requires-clause-done g c n among = c.in_ok-take_settled.ensures.done n (subst (λ l. Contains l n) (ap (λ (p : Reach). p.pending) c.take_settled.ensures.same) among)

pub returns-in_err-drop_settled-clause-goes : goal.returns-in_err-drop_settled-clause-goes
returns-in_err-drop_settled-clause-goes g c =
    let (y, e, q) = err_from_is_err_and c.from_residual-in_err-drop_settled.result c.from_residual-in_err-drop_settled.ensures.1 in
    subst (λ p. Goes {T = Unit {0}} c.args.notes c.args.plan.now (IsSettled c.args.sched.now) c.args.self.now c.args.sights.now (g.F.Files.outside c.args.files.now) p c.take_settled.new.sights (g.F.Files.outside c.take_settled.new.files) c.from_residual-in_err-drop_settled.result) (sym c.in_err-drop_settled.ensures.err)
    (goes_err_as {T = Unit {0}} stops.OutOfMemory c.from_residual-in_err-drop_settled.result (e ∙ ap Err q) (goes_stop {S = Unit {0}} tt c.in_ok-take_settled.ensures.goes))

pub returns-clause-goes : goal.returns-clause-goes
returns-clause-goes g c =
    let plan = c.args.plan.now in
    let settled = IsSettled c.args.sched.now in
    let before = g.F.Files.outside c.args.files.now in
    let after = g.F.Files.outside c.take_settled.new.files in
    let t = c.take_settled.new.sights in
    let kept = c.drop_settled.new.self.pending in
    let same = c.drop_settled.ensures.same in
    subst (λ p. Goes c.args.notes plan settled c.args.self.now c.args.sights.now before p t after (Ok tt)) (sym same)
    (goes_dropped plan settled c.args.self.now c.take_settled.new.self c.args.sights.now t before after (Ok tt) kept (subst (IsInOrder plan.steps settled t.facts) same c.drop_settled.ensures.in_order) c.in_ok-drop_settled.ensures.waiting c.in_ok-take_settled.ensures.goes)

pub returns-clause-marked : goal.returns-clause-marked
returns-clause-marked g c = subst (λ (p : Reach). AreMarked c.take_settled.new.sights.marks p.members) (sym c.drop_settled.ensures.same) c.in_ok-take_settled.ensures.marked
