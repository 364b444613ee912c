use Rattle.std.proofs.Common.{[], ◌≡◌, ◌++◌, ◌-◌, take, sym, ap, subst, ◌∙◌}
use Rattle.jam_engine.specs.Spreading.{stacked}
use Rattle.jam_engine.specs.Targets.{has}
use Rattle.jam_engine.proofs.SetsGrow.{none_in}
use Rattle.jam_engine.proofs.SpreadGoesOn.{GoesOn, begun, goes_on, seen_on, falls, stacked_last, all_met}
use Rattle.jam_engine.proofs.spread.met_by.Goals as goal

pub loop-target-init : goal.loop-target-init
loop-target-init c = record {
  met = subst (λ m. GoesOn c.args.graph.now c.args.texts.now m (stacked c.in_ok-stack.stack.items)) (sym c.new-met.ensures) (begun c.args.graph.now c.args.texts.now (stacked c.in_ok-stack.stack.items) c.in_ok-stack.ensures);
  seen = λ t. none_in _ t c.new-seen.ensures ∙ sym (ap (λ l. has l t) c.new-met.ensures);
}

pub loop-target-preserved : goal.loop-target-preserved
loop-target-preserved c =
    let pops = ap stacked c.in-Some.ensures.items ∙ stacked_last c.pop.new.self.items c.in-Some.target in
    record {
      met = goes_on c.args.graph.now c.args.texts.now c.in-Some.target.now _ _ _ _ (stacked c.loop-target.stack.items) (stacked c.pop.new.self.items) _ c.loop-target.invariant.seen c.in_ok-meet.ensures pops c.loop-target.invariant.met;
      seen = seen_on c.args.graph.now c.in-Some.target.now _ _ _ _ (stacked c.pop.new.self.items) _ c.loop-target.invariant.seen c.in_ok-meet.ensures;
    }

pub loop-target-smaller : goal.loop-target-smaller
loop-target-smaller c =
    falls c.args.graph.now c.in-Some.target.now _ _ _ _ (stacked c.loop-target.stack.items) (stacked c.pop.new.self.items) _ c.in_ok-meet.ensures (ap stacked c.in-Some.ensures.items ∙ stacked_last c.pop.new.self.items c.in-Some.target)

pub returns : goal.returns
returns c =
    let ends : c.loop-target.stack.items ≡ [] = c.in_default.ensures.items ∙ ap (λ xs. xs ++ []) (c.in_default.ensures.rest ∙ ap (λ n. take (n - 1) c.loop-target.stack.items) c.in_default.ensures.cases.0) in
    all_met c.args.graph.now c.args.texts.now c.loop-target.met c.loop-target.stack.items ends c.loop-target.invariant.met
