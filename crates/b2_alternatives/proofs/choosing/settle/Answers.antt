use Rattle.std.proofs.Common.{◌≡◌, ◌∙◌, Err, refl, sym, ap, subst}
use Rattle.std.proofs.lemmas.Result.{err_from_is_err_and}
use Rattle.b2_props.specs.Sets.{IsSet}
use Rattle.b2_declared.specs.declared.whole.Declared.{Declared}
use Rattle.b2_references.specs.Names.{Name, features, target_text}
use Rattle.b2_alternatives.specs.declared.fault.ChoiceFault.TheVariants.{Unstable}
use Rattle.b2_alternatives.proofs.ChoiceFollowsSettling.{memory, settle_ok, settle_asked, settle_unstable}
use Rattle.b2_alternatives.proofs.choosing.settle.Goals as goal

pub evaluate-requires-clause-set : goal.evaluate-requires-clause-set
evaluate-requires-clause-set g c = subst (λ (e : Declared). IsSet (features e) c.args.full.now) (sym c.declared.ensures) c.requires.set

pub evaluate-requires-clause-rules : goal.evaluate-requires-clause-rules
evaluate-requires-clause-rules g c = c.requires.rules

pub returns-in-Ok : goal.returns-in-Ok
returns-in-Ok g c =
    settle_ok g.E.Evaluate.answers g.E.Evaluate.kept g.E.Evaluate.faults g.E.Evaluate.is_host_fault g.E.Evaluate.is_out_of_memory g.E.Evaluate.CanFault c.args.asker.now.index.now c.args.asker.now.evaluator c.args.asker.now.name c.args.full.now c.args.required.now c.declared.result.now.registry (ap (λ (e : Declared). features e) c.declared.ensures)
    c.evaluate.result c.evaluate.new.ask.evaluator c.evaluate.new.ask.index.now c.evaluate.ensures.settled c.evaluate.ensures.unstable c.evaluate.ensures.asked c.evaluate.ensures.set c.evaluate.ensures.known c.evaluate.ensures.counted
    (ap (λ s. s.answers) c.evaluate.ensures.kept) (ap (λ s. s.kept) c.evaluate.ensures.kept) (ap (λ s. s.project) c.evaluate.ensures.kept)
    c.in-Ok.set c.in-Ok.is

pub returns-in-Err-Asked : goal.returns-in-Err-Asked
returns-in-Err-Asked g c =
    settle_asked g.E.Evaluate.answers g.E.Evaluate.kept g.E.Evaluate.faults g.E.Evaluate.is_host_fault g.E.Evaluate.is_out_of_memory g.E.Evaluate.CanFault c.args.asker.now.index.now c.args.asker.now.evaluator c.args.asker.now.name c.args.full.now c.args.required.now c.declared.result.now.registry (ap (λ (e : Declared). features e) c.declared.ensures)
    c.evaluate.result c.evaluate.new.ask.evaluator c.evaluate.new.ask.index.now c.evaluate.ensures.settled c.evaluate.ensures.unstable c.evaluate.ensures.asked c.evaluate.ensures.set c.evaluate.ensures.known c.evaluate.ensures.counted
    (ap (λ s. s.answers) c.evaluate.ensures.kept) (ap (λ s. s.kept) c.evaluate.ensures.kept) (ap (λ s. s.project) c.evaluate.ensures.kept)
    c.in-Err-Asked.fault (c.in-Err-Asked.is ∙ ap Err c.in-Err-Asked.field-0-is)

pub returns-in-Err-OutOfMemory : goal.returns-in-Err-OutOfMemory
returns-in-Err-OutOfMemory g c =
    memory g.E.Evaluate.answers g.E.Evaluate.kept g.E.Evaluate.faults g.E.Evaluate.is_host_fault g.E.Evaluate.is_out_of_memory g.E.Evaluate.CanFault c.args.asker.now.index.now c.args.asker.now.evaluator c.evaluate.new.ask.index.now c.evaluate.new.ask.evaluator _ refl
    (ap (λ s. s.answers) c.evaluate.ensures.kept) (ap (λ s. s.kept) c.evaluate.ensures.kept) (ap (λ s. s.project) c.evaluate.ensures.kept)

pub returns-in_err-unstable-in-Err-Unstable : goal.returns-in_err-unstable-in-Err-Unstable
returns-in_err-unstable-in-Err-Unstable g c =
    let q = err_from_is_err_and c.from_residual.result c.from_residual.ensures.1 in
    memory g.E.Evaluate.answers g.E.Evaluate.kept g.E.Evaluate.faults g.E.Evaluate.is_host_fault g.E.Evaluate.is_out_of_memory g.E.Evaluate.CanFault c.args.asker.now.index.now c.args.asker.now.evaluator c.evaluate.new.ask.index.now c.evaluate.new.ask.evaluator c.from_residual.result (q.1 ∙ ap Err q.2)
    (ap (λ s. s.answers) c.evaluate.ensures.kept) (ap (λ s. s.kept) c.evaluate.ensures.kept) (ap (λ s. s.project) c.evaluate.ensures.kept)

pub returns-in_ok-unstable-in-Err-Unstable : goal.returns-in_ok-unstable-in-Err-Unstable
returns-in_ok-unstable-in-Err-Unstable g c =
    settle_unstable g.E.Evaluate.answers g.E.Evaluate.kept g.E.Evaluate.faults g.E.Evaluate.is_host_fault g.E.Evaluate.is_out_of_memory g.E.Evaluate.CanFault c.args.asker.now.index.now c.args.asker.now.evaluator c.args.asker.now.name c.args.full.now c.args.required.now c.declared.result.now.registry (ap (λ (e : Declared). features e) c.declared.ensures)
    c.evaluate.result c.evaluate.new.ask.evaluator c.evaluate.new.ask.index.now c.evaluate.ensures.settled c.evaluate.ensures.unstable c.evaluate.ensures.asked c.evaluate.ensures.set c.evaluate.ensures.known c.evaluate.ensures.counted
    (ap (λ s. s.answers) c.evaluate.ensures.kept) (ap (λ s. s.kept) c.evaluate.ensures.kept) (ap (λ s. s.project) c.evaluate.ensures.kept)
    c.in-Err-Unstable.first c.in-Err-Unstable.second c.in_ok-unstable-in-Err-Unstable.field-0 (c.in-Err-Unstable.is ∙ ap Err c.in-Err-Unstable.field-0-is)
    (subst (λ (n : Name). c.in_ok-unstable-in-Err-Unstable.field-0 ≡ Unstable (target_text c.args.asker.now.index.now n) c.in-Err-Unstable.first c.in-Err-Unstable.second) (ap (λ s. s.name) c.evaluate.ensures.kept) c.in_ok-unstable-in-Err-Unstable.ensures)
